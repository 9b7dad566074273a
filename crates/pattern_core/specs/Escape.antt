-- A text as a pattern.
use Rattle.std.specs.Prelude.{◌≡◌, ℕ, ◌+◌, ◌<◌, ◌≤◌, ◌^◌, Bool, false, List, [], ◌∷◌, ◌++◌, length, map, codes, flat_map, encode_utf8, Option, Some, None, option_map, option_and_then, if◌then◌else◌}
use Rattle.std.specs.Str.{chars as chars_of, IsUtf8}
use Rattle.hir_tree.specs.Cores.{core_of}
use Rattle.hir_tree.specs.PlainText.{stands_at, text_of as text_of_hir}
use Rattle.hir_tree.specs.Runs.{begin, runs}
use Rattle.pattern_syntax.specs.declared.flags.Flags.{Flags}
use Rattle.pattern_syntax.specs.Flags.{has}
use Rattle.pattern_syntax.specs.SetTree.{SetTree, SetTrees, empty, literal, chars, bytes, looks, repetition, capture, concat, alternation, none, more}
use Rattle.pattern_syntax.specs.Reads.{Found, Reads}
use Rattle.pattern_core.specs.declared.flags.PatternFlags.{PatternFlags}
use Rattle.pattern_core.specs.declared.parsed.Parsed.{Parsed}
use Rattle.pattern_core.specs.Answers.{IsDoubleName, IsGrammar, IsNest, IsPattern}

-- the meta characters
abbrev pub is_meta : ℕ → Bool
is_meta c = has c (codes "\\.+*?()|[]{}^$#&-~")

abbrev pub escaped_char : ℕ → List ℕ
escaped_char c = if is_meta c then codes "\\" ++ c ∷ [] else c ∷ []

-- a text with `\` before each meta character
abbrev pub escaped_text : List ℕ → List ℕ
escaped_text = flat_map escaped_char

-- the UTF-8 of a text
abbrev pub encoded : List ℕ → List ℕ
encoded = flat_map encode_utf8

-- two texts joined, if both are there
abbrev pub joined : Option (List ℕ) → Option (List ℕ) → Option (List ℕ)
joined first second = option_and_then (λ xs. option_map (λ ys. xs ++ ys) second) first

-- all texts one after the other, if all are there
abbrev pub joined_all : List (Option (List ℕ)) → Option (List ℕ)
joined_all [] = Some []
joined_all (first ∷ rest) = joined first (joined_all rest)

abbrev mutual
  -- the bytes of a pattern that is one text
  pub text_of : SetTree → Option (List ℕ)
  text_of empty = Some []
  text_of (literal text) = Some text
  text_of (chars set) = None
  text_of (bytes set) = None
  text_of (looks kind) = None
  text_of (repetition least most greedy part) = None
  text_of (capture index name part) = None
  text_of (concat parts) = joined_all (texts_of parts)
  text_of (alternation parts) = None

  -- the bytes of each part that is one text
  pub texts_of : SetTrees → List (Option (List ℕ))
  texts_of none = []
  texts_of (more part rest) = text_of part ∷ texts_of rest

-- An escaped text is read as itself, where white space counts and letters aren't folded: it nests at most once, and has no name.
abbrev pub EscapedIsReadAsItself : Type 0
EscapedIsReadAsItself = (k : Flags) (text : List ℕ) → k.spaces ≡ false → k.folds ≡ false
    → (found : Found) × (Reads k (escaped_text text) found × (text_of found.part.tree ≡ Some (encoded text)) × (found.part.depth ≤ 1) × (found.names ≡ []))

-- A pattern that spells an escaped text, where white space counts and letters aren't folded.
pub record IsEscaped (flags : PatternFlags) (text pattern : List ℕ) : Type 0 where
  pub counts : flags.ignore_whitespace ≡ false
  pub apart : flags.case_insensitive ≡ false
  pub text_is : IsUtf8 text
  pub pattern_is : IsUtf8 pattern
  pub spells : pattern ≡ encoded (escaped_text (chars_of text))

-- what is parsed of it is that text
abbrev pub EscapedIsParsedAsItself : Type 0
EscapedIsParsedAsItself = (flags : PatternFlags) (text pattern : List ℕ) (parsed : Parsed) → IsEscaped flags text pattern → IsPattern flags pattern parsed
    → text_of_hir parsed.hir ≡ Some text

-- the ends of all its runs from a place: one, behind the text, where the text stands there, and else none
abbrev pub EscapedHasOneRun : Type 0
EscapedHasOneRun = (flags : PatternFlags) (text pattern : List ℕ) (parsed : Parsed) → IsEscaped flags text pattern → IsPattern flags pattern parsed
    → (haystack : List ℕ) (number at groups : ℕ)
    → map (λ r. r.at) (runs haystack (core_of parsed.hir) number (begin at groups)) ≡ (if stands_at text haystack at then (at + length text) ∷ [] else [])

-- It is refused neither for the grammar, where the text has fewer than 2^31 bytes, nor for its nesting, where it may nest once, nor for its names.
abbrev pub EscapedIsNotRefused : Type 0
EscapedIsNotRefused = (flags : PatternFlags) (text pattern : List ℕ) → IsEscaped flags text pattern
    → (length text < 2 ^ 31 → IsGrammar flags pattern → ⊥) × (1 ≤ flags.nest_limit → IsNest flags pattern → ⊥) × (IsDoubleName flags pattern → ⊥)
