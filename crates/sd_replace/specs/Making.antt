-- Which replacer texts and flags ask for, and why none is made.
use Rattle.std.specs.Prelude.{◌≡◌, ◌≢◌, ℕ, Bool, true, false, List, [], ◌∷◌, Option, Some, None, Result, IfErr, IfOk, unwrap_or}
use Rattle.grep_regex.specs.Building.{IsBuilt, IsRefused}
use Rattle.grep_regex.specs.declared.error.ErrorKind.{ErrorKind}
use Rattle.grep_regex.specs.declared.error.ErrorKind.TheVariants as kind
use Rattle.grep_regex.specs.declared.options.Options.{Options}
use Rattle.sd_replace.specs.Ambiguous.{ambiguity, ambiguous_reference}
use Rattle.sd_replace.specs.Flags.{line_options_of, options_of}
use Rattle.sd_replace.specs.Replacement.{Replacement}
use Rattle.sd_replace.specs.Replacer.{replacement_of}
use Rattle.sd_replace.specs.Unescaped.{unescaped}
use Rattle.sd_replace.specs.declared.error.ReplaceFault.{ReplaceFault}
use Rattle.sd_replace.specs.declared.error.ReplaceFault.TheVariants as text_fault
use Rattle.sd_replace.specs.declared.error.ReplacerFault.{ReplacerFault}
use Rattle.sd_replace.specs.declared.error.ReplacerFault.TheVariants as fault
use Rattle.sd_replace.specs.declared.replacer.Counted.{Counted}
use Rattle.sd_replace.specs.declared.replacer.Counted.TheVariants.{OverAll, InEachLine}
use Rattle.sd_replace.specs.declared.replacer.Replacer.{Replacer}
use Rattle.sd_replace.specs.declared.replacer.Substitute.{Substitute}
use Rattle.sd_replace.specs.declared.replacer.Substitute.TheVariants.{Literal, Expanded}

-- why a replacement text is refused: it is ambiguous; or it is, and there is no memory to tell so
abbrev pub IsReplaceRefused : List ℕ → ReplaceFault → Type 0
IsReplaceRefused text (text_fault.InvalidReplaceCapture told) = ambiguity text ≡ Some told
IsReplaceRefused text text_fault.NoMemory = ambiguity text ≢ None

-- what a replacer is asked for with: the text to find, the replacement text, whether both are literal, the flags, how many matches
-- are replaced at most, and where these are counted
pub record Asked : Type 0 where
  pub find : List ℕ
  pub replace_with : List ℕ
  pub is_literal : Bool
  pub flags : Option (List ℕ)
  pub limit : ℕ
  pub counted : Counted

abbrev pub asked : List ℕ → List ℕ → Bool → Option (List ℕ) → ℕ → Counted → Asked
asked find replace_with is_literal flags limit counted =
    record { find = find; replace_with = replace_with; is_literal = is_literal; flags = flags; limit = limit; counted = counted }

-- the options of the matcher: counted in each line, lines end with `\n`
abbrev pub options_for : Counted → Bool → List ℕ → Options
options_for OverAll is_literal letters = options_of is_literal letters
options_for InEachLine is_literal letters = line_options_of is_literal letters

abbrev pub asked_options : Asked → Options
asked_options a = options_for a.counted a.is_literal (unwrap_or a.flags [])

-- what takes the place of a match: a literal text as it is; any other unescaped, or as it is where an escape isn't in the table
abbrev pub substitute_for : Bool → List ℕ → Substitute
substitute_for true text = Literal text
substitute_for false text = Expanded (unwrap_or (unescaped text) text)

-- A literal text may hold any reference, and any other none that is ambiguous.
abbrev pub IsUnambiguous : Bool → List ℕ → Type 0
IsUnambiguous is_literal text = is_literal ≡ false → ambiguous_reference text ≡ None

-- WHAT IS ASKED FOR
pub record IsAskedFor (a : Asked) (replacement : Replacement) : Type 0 where
  pub unambiguous : IsUnambiguous a.is_literal a.replace_with
  pub built : IsBuilt (asked_options a) (a.find ∷ []) replacement.pattern
  pub substitute : replacement.substitute ≡ substitute_for a.is_literal a.replace_with
  pub limit : replacement.limit ≡ a.limit
  pub counted : replacement.counted ≡ a.counted

-- why no matcher is built of a text to find, but for want of memory
abbrev pub IsUnreadable : Options → List ℕ → ErrorKind → Type 0
IsUnreadable o find kind.NoMemory = ⊥
IsUnreadable o find reason = IsRefused o (find ∷ []) reason

-- WHY NO REPLACER IS MADE, in the order of the tests: an ambiguous replacement text, unless it is literal; a text to find that no
-- matcher is built of. Want of memory may come at any time.
abbrev pub IsReplacerRefused : Asked → ReplacerFault → Type 0
IsReplacerRefused a (fault.InvalidReplaceCapture told) = (a.is_literal ≡ false) × (ambiguity a.replace_with ≡ Some told)
IsReplacerRefused a (fault.Regex error) = IsUnambiguous a.is_literal a.replace_with × IsUnreadable (asked_options a) a.find error.kind
IsReplacerRefused a fault.NoMemory = Unit {0}

-- the replacer that is asked for is made, or there is a reason why not
pub record MakesReplacer (a : Asked) (result : Result Replacer ReplacerFault) : Type 0 where
  pub made : IfOk result (λ replacer. IsAskedFor a (replacement_of replacer))
  pub refused : IfErr result (IsReplacerRefused a)

-- ---- what each test refuses

-- a replacement text
abbrev pub IsTextRefused : Bool → List ℕ → ReplacerFault → Type 0
IsTextRefused is_literal text (fault.InvalidReplaceCapture told) = (is_literal ≡ false) × (ambiguity text ≡ Some told)
IsTextRefused is_literal text (fault.Regex error) = ⊥
IsTextRefused is_literal text fault.NoMemory = Unit {0}

-- a text to find
abbrev pub IsFindRefused : Options → List ℕ → ReplacerFault → Type 0
IsFindRefused o find (fault.InvalidReplaceCapture told) = ⊥
IsFindRefused o find (fault.Regex error) = IsUnreadable o find error.kind
IsFindRefused o find fault.NoMemory = Unit {0}

-- ---- laws

-- There is one replacement that is asked for.
abbrev pub OneReplacement : Type 0
OneReplacement = (a : Asked) (one other : Replacement) → IsAskedFor a one → IsAskedFor a other → one ≡ other

-- Where one is asked for, none is refused but for want of memory.
abbrev pub AnAskedReplacementIsReadable : Type 0
AnAskedReplacementIsReadable = (a : Asked) (replacement : Replacement) (why : ReplacerFault)
    → IsAskedFor a replacement → IsReplacerRefused a why → why ≡ fault.NoMemory
