-- Plain words: options, each at most once, as words of their own, then `--`, then two or more words.
use Rattle.std.specs.Prelude.{◌≡◌, ◌==◌, ◌&&◌, ◌||◌, Bool, true, false, not, List, [], ◌∷◌, ◌++◌, Option, Some, None, codes, find, option_and_then, unwrap_or}
use Rattle.std.specs.List.{list_any}
use Rattle.std.specs.Str.{bytes_eq}
use Rattle.clap.specs.Words.{Text}
use Rattle.sd_words.specs.Number.{number_of}
use Rattle.sd_words.specs.Order.{order_if, order_of}
use Rattle.sd_words.specs.declared.options.Options.{Options}

-- a flag
pub data Flag : Type 0 where
  preview : Flag
  fixed_strings : Flag
  string_mode : Flag
  line_mode : Flag

-- an option with a value
pub data Key : Type 0 where
  limit : Key
  flags : Key
  root : Key
  demo : Key
  apply : Key
  ignore : Key

-- the form of an option's word
pub data Spelling : Type 0 where
  short : Spelling
  long : Spelling

-- the names of the options
abbrev pub flag_name : Flag → Text
flag_name preview = codes "preview"
flag_name fixed_strings = codes "fixed-strings"
flag_name string_mode = codes "string-mode"
flag_name line_mode = codes "line-mode"

abbrev pub key_name : Key → Text
key_name limit = codes "max-replacements"
key_name flags = codes "flags"
key_name root = codes "root"
key_name demo = codes "demo"
key_name apply = codes "apply"
key_name ignore = codes "ignore"

-- the word of a flag
abbrev pub flag_word : Flag → Spelling → Text
flag_word preview short = codes "-p"
flag_word preview long = codes "--preview"
flag_word fixed_strings short = codes "-F"
flag_word fixed_strings long = codes "--fixed-strings"
flag_word string_mode short = codes "-s"
flag_word string_mode long = codes "--string-mode"
flag_word line_mode short = codes "-l"
flag_word line_mode long = codes "--line-mode"

-- the word of an option with a value; four have a long form alone
abbrev pub key_word : Key → Spelling → Text
key_word limit short = codes "-n"
key_word limit long = codes "--max-replacements"
key_word flags short = codes "-f"
key_word flags long = codes "--flags"
key_word root _ = codes "--root"
key_word demo _ = codes "--demo"
key_word apply _ = codes "--apply"
key_word ignore _ = codes "--ignore"

-- an option as it stands in plain words: a flag, or an option and its value
pub data Part : Type 0 where
  on : Flag → Spelling → Part
  given : Key → Spelling → Text → Part

-- the name of an option as it stands there, its value where it has one, and its words
abbrev pub part_name : Part → Text
part_name (on flag spelling) = flag_name flag
part_name (given key spelling value) = key_name key

abbrev pub part_value : Part → Option Text
part_value (on flag spelling) = None
part_value (given key spelling value) = Some value

abbrev pub part_words : Part → List Text
part_words (on flag spelling) = flag_word flag spelling ∷ []
part_words (given key spelling value) = key_word key spelling ∷ value ∷ []

-- the words of all options
abbrev pub option_words : List Part → List Text
option_words [] = []
option_words (part ∷ parts) = part_words part ++ option_words parts

-- a word that may be the value of an option: it is nonempty and doesn't begin with `-`
abbrev pub is_value : Text → Bool
is_value [] = false
is_value (c ∷ word) = not (c == 45)

-- the value of an option may be one
abbrev pub is_plain_part : Part → Bool
is_plain_part (on flag spelling) = true
is_plain_part (given key spelling value) = is_value value

-- none of the options has this name
abbrev pub is_new : Text → List Part → Bool
is_new name parts = not (list_any (λ part. bytes_eq name (part_name part)) parts)

-- each option stands once, and each value may be one
abbrev pub are_plain : List Part → Bool
are_plain [] = true
are_plain (part ∷ parts) = is_plain_part part && (is_new (part_name part) parts && are_plain parts)

-- the options, `--`, and the words after it
abbrev pub plain_words : List Part → Text → Text → List Text → List Text
plain_words parts find_word replace_word rest = option_words parts ++ codes "--" ∷ find_word ∷ replace_word ∷ rest

-- whether a flag stands among the options
abbrev pub is_on : Flag → List Part → Bool
is_on flag parts = list_any (λ part. bytes_eq (part_name part) (flag_name flag)) parts

-- the value of an option, where it stands there
abbrev pub value_of : Key → List Part → Option Text
value_of key parts = option_and_then part_value (find (λ part. bytes_eq (part_name part) (key_name key)) parts)

-- the table: each option with its field
abbrev pub table : List Part → Text → Text → List Text → Options
table parts find_word replace_word rest = record {
  preview = is_on preview parts;
  literal_mode = is_on fixed_strings parts || is_on string_mode parts;
  line_mode = is_on line_mode parts;
  replacements = unwrap_or (option_and_then number_of (value_of limit parts)) 0;
  flags = value_of flags parts;
  root = value_of root parts;
  demo = option_and_then number_of (value_of demo parts);
  apply = value_of apply parts;
  ignore = value_of ignore parts;
  find = find_word;
  replace_with = replace_word;
  words = rest;
}

-- plain words are taken, and their order is the table's, where its numbers are numbers and what is given may stand together
abbrev pub PlainWordsHaveTheTable : Type 0
PlainWordsHaveTheTable = (parts : List Part) (find_word replace_word : Text) (rest : List Text) → are_plain parts ≡ true
    → order_of (plain_words parts find_word replace_word rest) ≡ order_if (value_of limit parts) (value_of demo parts) (table parts find_word replace_word rest)

-- these texts, and no option but maybe a root
abbrev pub options_of : Option Text → Text → Text → List Text → Options
options_of dir find_word replace_word rest = record {
  preview = false;
  literal_mode = false;
  line_mode = false;
  replacements = 0;
  flags = None;
  root = dir;
  demo = None;
  apply = None;
  ignore = None;
  find = find_word;
  replace_with = replace_word;
  words = rest;
}

-- `--root DIR -- FIND REPLACE_WITH GLOB...`, for any texts with DIR nonempty and not begun by `-`
abbrev pub TreeWordsAskForTheirTree : Type 0
TreeWordsAskForTheirTree = (dir find_word replace_word : Text) (globs : List Text) → is_value dir ≡ true
    → order_of (codes "--root" ∷ dir ∷ codes "--" ∷ find_word ∷ replace_word ∷ globs) ≡ Some (options_of (Some dir) find_word replace_word globs)

-- `-- FIND REPLACE_WITH FILE...`, for any texts
abbrev pub FileWordsAskForTheirFiles : Type 0
FileWordsAskForTheirFiles = (find_word replace_word : Text) (files : List Text)
    → order_of (codes "--" ∷ find_word ∷ replace_word ∷ files) ≡ Some (options_of None find_word replace_word files)
