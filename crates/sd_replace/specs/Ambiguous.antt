-- References of a replacement text that are ambiguous.
use Rattle.std.specs.Prelude.{ℕ, zero, suc, ◌+◌, Bool, false, ◌&&◌, ◌==◌, not, List, [], ◌∷◌, ◌++◌, length, Option, option_map, if◌then◌else◌}
use Rattle.std.specs.List.{find, list_any, position, prefix_len}
use Rattle.std.specs.Option.{option_map_or}
use Rattle.std.specs.Char.{is_ascii_digit}
use Rattle.grep_matcher.specs.References.{name_at, begins_with}
use Rattle.sd_replace.specs.declared.ambiguous.NamePlace.{NamePlace}
use Rattle.sd_replace.specs.declared.error.InvalidReplaceCapture.{InvalidReplaceCapture}

-- how many bytes a text takes up to its first `}`, none where it has none
abbrev pub braces_len : List ℕ → ℕ
braces_len text = option_map_or (λ place. place + 1) (position (λ b. b == 125) text) 0

-- How many bytes behind a `$` are read together with it: a second `$`; a `{` and all up to the next `}`; or else a name, which may be empty.
abbrev pub behind_dollar : List ℕ → ℕ
behind_dollar text = if begins_with 36 text then 1 else (if begins_with 123 text then braces_len text else length (name_at text))

-- how many bytes behind the first are read together with it
abbrev pub read_behind : ℕ → List ℕ → ℕ
read_behind first text = if first == 36 then behind_dollar text else 0

-- the name behind the first byte, where that is a `$`
abbrev pub name_behind : ℕ → List ℕ → List ℕ
name_behind first text = if first == 36 then name_at text else []

-- a reference without braces: where its name starts in the text, in bytes, and the name
pub record Bare : Type 0 where
  pub start : ℕ
  pub name : List ℕ

-- a reference by a name that isn't empty
abbrev pub bare_at : ℕ → List ℕ → List Bare
bare_at start [] = []
bare_at start (first ∷ name) = record { start = start; name = first ∷ name } ∷ []

-- The references without braces after the first n bytes of what stands from the place `at` on, read from left to right.
abbrev pub bare_after : ℕ → ℕ → List ℕ → List Bare
bare_after n at [] = []
bare_after (suc n) at (first ∷ text) = bare_after n (at + 1) text
bare_after zero at (first ∷ text) = bare_at (at + 1) (name_behind first text) ++ bare_after (read_behind first text) (at + 1) text

-- THE REFERENCES WITHOUT BRACES of a replacement text, in their order
abbrev pub bare_references : List ℕ → List Bare
bare_references text = bare_after 0 0 text

-- the name begins with a digit
abbrev pub begins_with_digit : List ℕ → Bool
begins_with_digit [] = false
begins_with_digit (first ∷ name) = is_ascii_digit first

-- AN AMBIGUOUS NAME begins with a digit, and holds something other than digits.
abbrev pub is_ambiguous : List ℕ → Bool
is_ambiguous name = begins_with_digit name && list_any (λ b. not (is_ascii_digit b)) name

-- the first ambiguous reference of a text
abbrev pub ambiguous_reference : List ℕ → Option Bare
ambiguous_reference text = find (λ (reference : Bare). is_ambiguous reference.name) (bare_references text)

-- where the name of a reference starts and ends in the text, and how many digits it begins with
abbrev pub place_of : Bare → NamePlace
place_of reference = record {
  start = reference.start;
  end = reference.start + length reference.name;
  digits = prefix_len is_ascii_digit reference.name;
}

-- the place of that reference
abbrev pub first_ambiguous : List ℕ → Option NamePlace
first_ambiguous text = option_map place_of (ambiguous_reference text)

-- what is told of a text with an ambiguous reference there
abbrev pub told_of : List ℕ → NamePlace → InvalidReplaceCapture
told_of text place = record { original = text; start = place.start; end = place.end; digits = place.digits }

-- WHAT IS TOLD OF AN AMBIGUOUS TEXT: its first ambiguous reference
abbrev pub ambiguity : List ℕ → Option InvalidReplaceCapture
ambiguity text = option_map (told_of text) (first_ambiguous text)
