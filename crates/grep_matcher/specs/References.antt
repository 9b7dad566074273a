-- Replacement texts with references to groups.
use Rattle.std.specs.Prelude.{◌≡◌, ℕ, zero, suc, ◌+◌, ◌-◌, ◌^◌, ◌≤◌, Bool, false, ◌&&◌, ◌||◌, ◌==◌, nat_lt, List, [], ◌∷◌, ◌++◌, length, drop, slice_range, Option, Some, None, OnOk, Result, if◌then◌else◌}
use Rattle.std.specs.List.{flat_map, take_while}
use Rattle.std.specs.Option.{option_map_or}
use Rattle.std.specs.Char.{is_ascii_alphanumeric}
use Rattle.std.specs.Str.{all_ascii_digits}
use Rattle.std.specs.Str.Parse.{digits_value}
use Rattle.grep_matcher.specs.Span.{Span}
use Rattle.grep_matcher.specs.Groups.{group_at}
use Rattle.grep_matcher.specs.Replaced.{Extends}
use Rattle.grep_matcher.specs.Reached.{Reached}

-- a letter, a digit or `_`
abbrev pub is_word : ℕ → Bool
is_word byte = is_ascii_alphanumeric byte || byte == 95

-- the name at the front of a text: the longest run of word bytes
abbrev pub name_at : List ℕ → List ℕ
name_at text = take_while is_word text

-- what a reference names: a group by its number or by its name
pub data Target : Type 0 where
  number : ℕ → Target
  named : List ℕ → Target

-- a name that reads as a number below 2 ^ 32 is that number
abbrev pub target : List ℕ → Target
target name = if all_ascii_digits name && nat_lt (digits_value 10 name) (2 ^ 32) then number (digits_value 10 name) else named name

-- a reference: what it names, and the number of bytes that it takes
pub record Reference : Type 0 where
  pub target : Target
  pub width : ℕ

-- the reference by a name that isn't empty, with the number of bytes round the name
abbrev pub reference_by : List ℕ → ℕ → Option Reference
reference_by [] around = None
reference_by (byte ∷ name) around = Some (record { target = target (byte ∷ name); width = length (byte ∷ name) + around })

-- whether a text begins with a byte
abbrev pub begins_with : ℕ → List ℕ → Bool
begins_with byte [] = false
begins_with byte (first ∷ text) = first == byte

-- after `${`: a name and then `}`
abbrev pub braced : List ℕ → Option Reference
braced text = if begins_with 125 (drop (length (name_at text)) text) then reference_by (name_at text) 3 else None

-- after `$`: `{`, a name and `}`, or a name alone
abbrev pub after_dollar : List ℕ → Option Reference
after_dollar text = if begins_with 123 text then braced (drop 1 text) else reference_by (name_at text) 1

-- the reference at the front of a text, if `$name` or `${name}` stands there
abbrev pub reference_at : List ℕ → Option Reference
reference_at [] = None
reference_at (byte ∷ text) = if byte == 36 then after_dollar text else None

-- a piece of a replacement text: a byte that is itself, `$$`, or a reference
pub data Piece : Type 0 where
  byte : ℕ → Piece
  two_dollars : Piece
  group : Target → Piece

-- what stands at the front of a text, and the number of bytes that it takes
pub record Front : Type 0 where
  pub piece : Piece
  pub width : ℕ

-- a reference, or else something other
abbrev pub reference_or : Option Reference → Front → Front
reference_or (Some reference) other = record { piece = group reference.target; width = reference.width }
reference_or None other = other

-- `$$`, or else the first byte itself
abbrev pub dollars_or_byte : ℕ → List ℕ → Front
dollars_or_byte first text = if first == 36 && begins_with 36 text then record { piece = two_dollars; width = 2 } else record { piece = byte first; width = 1 }

-- at the front: a reference, or else `$$`, or else the first byte itself
abbrev pub front : ℕ → List ℕ → Front
front first text = reference_or (reference_at (first ∷ text)) (dollars_or_byte first text)

-- The pieces of a text after its first n bytes. Each stands at the front of what those before it leave.
abbrev pub pieces_after : ℕ → List ℕ → List Piece
pieces_after n [] = []
pieces_after (suc n) (first ∷ text) = pieces_after n text
pieces_after zero (first ∷ text) = (front first text).piece ∷ pieces_after ((front first text).width - 1) text

-- the pieces of a replacement text
abbrev pub pieces : List ℕ → List Piece
pieces text = pieces_after 0 text

-- What a piece stands for, where groups have texts and names have numbers. A name without a number stands for nothing.
abbrev pub meaning : (ℕ → List ℕ) → (List ℕ → Option ℕ) → Piece → List ℕ
meaning text_of number_of (byte itself) = itself ∷ []
meaning text_of number_of two_dollars = 36 ∷ []
meaning text_of number_of (group (number i)) = text_of i
meaning text_of number_of (group (named name)) = option_map_or text_of (number_of name) []

-- the replacement text with the meaning of each piece in its place
abbrev pub expand : (ℕ → List ℕ) → (List ℕ → Option ℕ) → List ℕ → List ℕ
expand text_of number_of text = flat_map (meaning text_of number_of) (pieces text)

-- the text of a group: nothing where it is unset
abbrev pub group_text : List ℕ → List (Option Span) → ℕ → List ℕ
group_text haystack groups i = option_map_or (λ span. slice_range haystack span.start span.end) (group_at groups i) []

-- each group that is set lies in the haystack
abbrev pub LieIn : List (Option Span) → List ℕ → Type 0
LieIn groups haystack = (i : ℕ) (span : Span) → group_at groups i ≡ Some span → span.end ≤ length haystack

-- a call leads from the one state of the closure that adds texts to the other
abbrev pub Adds : {A D R : Type 0} → (A → ℕ → D → R → D → A → Type 0) → A → A → Type 0
Adds {A} {D} {R} step f g = (i : ℕ) × (before : D) × (answer : R) × (after : D) × step f i before answer after g

-- a call leads from the one state of the closure that numbers names to the other
abbrev pub Looks : {N S : Type 0} → (N → S → Option ℕ → N → Type 0) → N → N → Type 0
Looks {N} {S} step f g = (name : S) × (answer : Option ℕ) × step f name answer g

-- At each call that can come, the closure keeps what was there.
abbrev pub Keeps : {A D R : Type 0} → (A → ℕ → D → R → D → A → Type 0) → (D → List ℕ) → A → Type 0
Keeps {A} {D} {R} step bytes_of first =
    (f : A) (i : ℕ) (before : D) (answer : R) (after : D) (g : A) → Reached (Adds step) first f → step f i before answer after g → Extends (bytes_of before) (bytes_of after)

-- At each call that can come, the closure adds the group's text to what was there, or refuses.
abbrev pub Appends : {A D R E : Type 0} → (A → ℕ → D → Result R E → D → A → Type 0) → (D → List ℕ) → A → (ℕ → List ℕ) → Type 0
Appends {A} {D} {R} {E} step bytes_of first text_of =
    (f : A) (i : ℕ) (before : D) (answer : Result R E) (after : D) (g : A) → Reached (Adds step) first f → step f i before answer after g
    → OnOk answer (bytes_of after ≡ bytes_of before ++ text_of i)

-- At each call that can come, the closure answers a name by its number.
abbrev pub Answers : {N S : Type 0} → (N → S → Option ℕ → N → Type 0) → (S → List ℕ) → N → (List ℕ → Option ℕ) → Type 0
Answers {N} {S} step name_of first number_of =
    (f : N) (name : S) (answer : Option ℕ) (g : N) → Reached (Looks step) first f → step f name answer g → answer ≡ number_of (name_of name)
