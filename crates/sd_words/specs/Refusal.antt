-- What is shown of the text of a refusal.
use Rattle.std.specs.Prelude.{ℕ, List, [], ◌∷◌, Some, None, codes, drop, nat_eq, if◌then◌else◌}
use Rattle.std.specs.List.{starts_with}
use Rattle.sd_words.specs.declared.fault.OptionsFault.{OptionsFault}
use Rattle.sd_words.specs.declared.fault.OptionsFault.TheVariants as fault

-- a text without `error: ` at its front, where that stands there
abbrev pub without_error : List ℕ → List ℕ
without_error text = if starts_with nat_eq text (codes "error: ") then drop 7 text else text

-- a text up to its first empty line, without the newline before that, or the whole text where it has none
abbrev pub before_empty_line : List ℕ → List ℕ
before_empty_line [] = []
before_empty_line (c ∷ text) = if starts_with nat_eq (c ∷ text) (codes "\n\n") then [] else c ∷ before_empty_line text

-- what is shown of the text of a mistake
abbrev pub mistake_shown : List ℕ → List ℕ
mistake_shown text = before_empty_line (without_error text)

-- the text of a refusal
abbrev pub refusal_text : OptionsFault → List ℕ
refusal_text (fault.Usage (Some text)) = text
refusal_text (fault.Usage None) = codes "not a valid command line"
refusal_text fault.NoMemory = codes "out of memory"
