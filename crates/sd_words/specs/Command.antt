-- The command whose words are read, as a parse sees it.
use Rattle.std.specs.Prelude.{ℕ, Bool, List, [], ◌∷◌, ◌++◌, Option, Some, None, true, codes}
use Rattle.clap.specs.Words.{App, Rule, Text, fault_of, new_rule}
use Rattle.clap.specs.Walk.{is_empty}
use Rattle.clap.specs.Simple.{new_shape}
use Rattle.clap.specs.declared.builder.action.ArgAction.TheVariants.{Append, Set, SetTrue}

-- a flag, with a long name and a short one
abbrev pub flag : Text → ℕ → Rule
flag name short = record (new_rule name) { long = Some name; short = Some short; action = Some SetTrue }

-- an option with one value, with a long name and maybe a short one
abbrev pub option : Text → Option ℕ → Rule
option name short = record (new_rule name) { long = Some name; short = short; value_names = 1; action = Some Set }

-- a word that is known by its place
abbrev pub word : Text → Rule
word name = record (new_rule name) { value_names = 1 }

-- the flags, with their letters p, F, s and l
abbrev pub flags : List Rule
flags =
    flag (codes "preview") 112
    ∷ flag (codes "fixed-strings") 70
    ∷ flag (codes "string-mode") 115
    ∷ flag (codes "line-mode") 108
    ∷ []

-- the options with a value, two of them with the letters n and f
abbrev pub options : List Rule
options =
    option (codes "max-replacements") (Some 110)
    ∷ option (codes "flags") (Some 102)
    ∷ option (codes "root") None
    ∷ option (codes "demo") None
    ∷ option (codes "apply") None
    ∷ option (codes "ignore") None
    ∷ []

-- what comes after the options: two texts that must be there, and any number of further words, each a use of its own
abbrev pub words : List Rule
words =
    record (word (codes "find")) { required = true }
    ∷ record (word (codes "replace-with")) { required = true }
    ∷ record (word (codes "words")) { action = Some Append }
    ∷ []

-- the command, which is given the words after the program's name
abbrev pub command : App
command = record { top = record (new_shape (codes "sd")) { rules = flags ++ options ++ words; no_binary_name = true }; subs = [] }

-- the command takes these words
abbrev pub is_taken : List Text → Bool
is_taken words = is_empty (fault_of command words)
