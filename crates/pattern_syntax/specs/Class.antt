-- Bracketed classes.
use Rattle.std.specs.Int.{is_in_range}
use Rattle.std.specs.Prelude.{◌≡◌, ℕ, ◌+◌, Bool, true, false, List, [], ◌∷◌, ◌++◌, codes, ◌==◌, ◌&&◌, ◌||◌, nat_lt, nat_le, nat_eq, not, max, length, map, if◌then◌else◌, Option, Some, None, is_some}
use Rattle.std.specs.List.{list_any, starts_with}
use Rattle.std.specs.Option.{option_map_or}
use Rattle.unicode.specs.Binary.{is_white_space}
use Rattle.pattern_syntax.specs.declared.flags.Flags.{Flags}
use Rattle.pattern_syntax.specs.Flags.{Blank, write_blanks, FineBlanks, has, begins, rest, seen, seen_if, is_nil}
use Rattle.pattern_syntax.specs.Atom.{Atom, character, coded, braced, octal, number, write_atom, FineAtom, single_of, perl, category, category_braced, spelt}
use Rattle.pattern_syntax.specs.Sets.{Set, none_of, union, negated_if, closed, ascii_names, ascii_set, value_of, perl_set, category_set}
use Rattle.std.specs.Str.Parse.{digits_value}

pub data Operation : Type 0 where
  both : Operation
  minus : Operation
  either : Operation

-- What stands behind a `[` up to the leading members: a `^`, the `-` that are members, and a `]` that is one, each with the
-- blanks before it.
pub record Head : Type 0 where
  pub negated : Option (List Blank)
  pub dashes : List (List Blank)
  pub bracket : Option (List Blank)

-- what stands from a place in a class to its `]`
pub data Inside : Type 0 where
  close : Inside
  pass : Blank → Inside → Inside
  one : Atom → Inside → Inside
  range : Atom → List Blank → List Blank → Atom → Inside → Inside
  -- `[:name:]`, or `[:^name:]`
  named : Bool → List ℕ → Inside → Inside
  nested : Head → Inside → Inside → Inside
  operation : Operation → Inside → Inside

-- THE TEXT
abbrev pub write_after : Option (List Blank) → List ℕ → List ℕ → List ℕ
write_after before cs t = option_map_or (λ bs. write_blanks bs (cs ++ t)) before t

abbrev pub write_dashes : List (List Blank) → List ℕ → List ℕ
write_dashes [] t = t
write_dashes (bs ∷ more) t = write_blanks bs (codes "-" ++ write_dashes more t)

abbrev pub write_head : Head → List ℕ → List ℕ
write_head h t = codes "[" ++ write_after h.negated (codes "^") (write_dashes h.dashes (write_after h.bracket (codes "]") t))

abbrev pub write_operation : Operation → List ℕ → List ℕ
write_operation both t = codes "&&" ++ t
write_operation minus t = codes "--" ++ t
write_operation either t = codes "~~" ++ t

abbrev pub write_name : Bool → List ℕ → List ℕ → List ℕ
write_name negated name t = (if negated then codes "[:^" else codes "[:") ++ name ++ codes ":]" ++ t

abbrev pub write_inside : Inside → List ℕ → List ℕ
write_inside close t = codes "]" ++ t
write_inside (pass b p) t = write_blanks (b ∷ []) (write_inside p t)
write_inside (one a p) t = write_atom a (write_inside p t)
write_inside (range a bs cs b p) t = write_atom a (write_blanks bs (codes "-" ++ write_blanks cs (write_atom b (write_inside p t))))
write_inside (named negated name p) t = write_name negated name (write_inside p t)
write_inside (nested h q p) t = write_head h (write_inside q (write_inside p t))
write_inside (operation o p) t = write_operation o (write_inside p t)

-- THE CONDITIONS
abbrev pub is_blank_start : Flags → ℕ → Bool
is_blank_start k c = k.spaces && (is_white_space c || (c == 35))

-- a character that stands for itself in a class, where `w` follows: nothing that is passed over, and no operation
abbrev pub is_member : Flags → ℕ → List ℕ → Bool
is_member k c w = not (has c (codes "[]\\")) && not (is_blank_start k c) && not (has c (codes "&-~") && begins c w)

-- the second end of a range, which may not be `-`, `]` or `[`
abbrev pub is_second : Flags → ℕ → Bool
is_second k c = not (has c (codes "[]\\-")) && not (is_blank_start k c)

abbrev pub FineMember : Flags → Atom → List ℕ → Type 0
FineMember k (character c) w = is_member k c w ≡ true
FineMember k a w = FineAtom k a w

abbrev pub FineSecond : Flags → Atom → List ℕ → Type 0
FineSecond k (character c) w = is_second k c ≡ true
FineSecond k a w = FineAtom k a w

-- with `u` off a member is ASCII, or `\xHH`
abbrev pub is_byte : Atom → Bool
is_byte (character c) = nat_lt c 128
is_byte (coded letter ds) = (letter == 120) || nat_lt (number 16 0 ds) 128
is_byte (braced letter bs ds cs) = nat_lt (number 16 0 ds) 128
is_byte (octal ds) = nat_lt (digits_value 8 ds) 128
is_byte _ = true

abbrev pub fits : Flags → Atom → Bool
fits k a = k.unicode || is_byte a

-- rule 3: a `-` that comes next after a single one makes a range, but before `-` and `]`
abbrev pub dash_makes_range : Bool → List ℕ → Bool
dash_makes_range spaces w =
    let after = seen_if spaces w in
    let further = seen_if spaces (rest after) in
    begins 45 after && not (begins 45 further || begins 93 further)

abbrev pub makes_range : Flags → List ℕ → Bool
makes_range k = dash_makes_range k.spaces

abbrev pub begins_name : List ℕ → Bool
begins_name w = list_any (λ (row : List ℕ × Set). starts_with nat_eq w (write_name false row.0 []) || starts_with nat_eq w (write_name true row.0 [])) ascii_names

abbrev pub FineCaret : Flags → Option (List Blank) → List ℕ → Type 0
FineCaret k None t = begins 94 (seen k t) ≡ false
FineCaret k (Some bs) t = FineBlanks k bs (codes "^" ++ t)

abbrev pub FineDashes : Flags → List (List Blank) → List ℕ → Type 0
FineDashes k [] t = begins 45 (seen k t) ≡ false
FineDashes k (bs ∷ more) t = FineBlanks k bs (codes "-" ++ write_dashes more t) × FineDashes k more t

-- whether no `-` stands before
abbrev pub FineBracket : Flags → Bool → Option (List Blank) → List ℕ → Type 0
FineBracket k true None t = begins 93 (seen k t) ≡ false
FineBracket k true (Some bs) t = FineBlanks k bs (codes "]" ++ t)
FineBracket k false None t = Unit {0}
FineBracket k false (Some bs) t = ⊥

-- rule 1: all the `-` there, and a `]` where nothing stands before it
abbrev pub FineHead : Flags → Head → List ℕ → Type 0
FineHead k h t =
    let b = write_after h.bracket (codes "]") t in
    FineCaret k h.negated (write_dashes h.dashes b) × FineDashes k h.dashes b × FineBracket k (is_nil h.dashes) h.bracket t

abbrev pub in_order : Option ℕ → Option ℕ → Bool
in_order (Some a) (Some b) = nat_le a b
in_order _ _ = false

abbrev pub FineInside : Flags → Inside → List ℕ → Type 0
FineInside k close t = Unit {0}
FineInside k (pass b p) t = FineBlanks k (b ∷ []) (write_inside p t) × FineInside k p t
FineInside k (one a p) t =
    let w = write_inside p t in
    FineMember k a w × (fits k a ≡ true) × ((is_some (single_of a) && makes_range k w) ≡ false) × FineInside k p t
FineInside k (range a bs cs b p) t =
    let w = write_inside p t in
    let v = write_blanks cs (write_atom b w) in
    FineMember k a (write_blanks bs (codes "-" ++ v)) × FineBlanks k bs (codes "-" ++ v) × FineBlanks k cs (write_atom b w) × FineSecond k b w
    × ((fits k a && fits k b && in_order (single_of a) (single_of b)) ≡ true) × FineInside k p t
FineInside k (named negated name p) t = (is_some (value_of ascii_names name) ≡ true) × FineInside k p t
FineInside k (nested h q p) t =
    let w = write_inside p t in
    (begins_name (write_head h (write_inside q w)) ≡ false) × FineHead k h (write_inside q w) × FineInside k q w × FineInside k p t
FineInside k (operation o p) t = FineInside k p t

-- THE SET
-- the leading members
abbrev pub head_set : Head → Set
head_set h c = ((c == 45) && not (is_nil h.dashes)) || ((c == 93) && is_some h.bracket)

abbrev pub xor : Bool → Bool → Bool
xor a b = if a then not b else b

abbrev pub matches_one : Option ℕ → Set
matches_one single c = option_map_or (λ n. c == n) single false

abbrev pub atom_set : Flags → Atom → Set
atom_set k (perl letter) = perl_set k letter
atom_set k (category letter bs c) = category_set k (letter == 80) (c ∷ [])
atom_set k (category_braced letter bs ds cs) = category_set k (letter == 80) (spelt ds)
atom_set k a = matches_one (single_of a)

abbrev pub range_set : Option ℕ → Option ℕ → Set
range_set (Some a) (Some b) c = is_in_range a b c
range_set _ _ c = false

-- what stands left of an operation, and the union behind it, which are closed under folding
abbrev pub combined : Operation → Set → Set → Set
combined both s t c = s c && t c
combined minus s t c = s c && not (t c)
combined either s t c = xor (s c) (t c)

-- what stands left of the operation that waits, if one does, and that operation
pub data Waiting : Type 0 where
  nothing : Waiting
  waits : Set → Operation → Waiting

abbrev pub side : Flags → Waiting → Set → Set
side k nothing u = u
side k (waits s o) u = combined o (closed k s) (closed k u)

-- the union so far is `u`
abbrev pub inside_set : Flags → Waiting → Set → Inside → Set
inside_set k w u close = closed k (side k w u)
inside_set k w u (pass b p) = inside_set k w u p
inside_set k w u (one a p) = inside_set k w (union u (atom_set k a)) p
inside_set k w u (range a bs cs b p) = inside_set k w (union u (range_set (single_of a) (single_of b))) p
inside_set k w u (named negated name p) = inside_set k w (union u (negated_if negated k (ascii_set name))) p
inside_set k w u (nested h q p) =
    inside_set k w (union u (negated_if (is_some h.negated) k (inside_set k nothing (head_set h) q))) p
inside_set k w u (operation o p) = inside_set k (waits (side k w u) o) none_of p

abbrev pub class_set : Flags → Head → Inside → Set
class_set k h p = negated_if (is_some h.negated) k (inside_set k nothing (head_set h) p)

-- HOW DEEP IT NESTS
abbrev pub head_count : Head → ℕ
head_count h = length h.dashes + (if is_some h.bracket then 1 else 0)

abbrev pub union_depth : ℕ → ℕ → ℕ
union_depth count deepest = if nat_lt count 2 then deepest else deepest + 1

abbrev pub operated : Option ℕ → ℕ → ℕ
operated left d = option_map_or (λ l. max l d + 1) left d

-- what stands left of an operation nests so deep, the union has so many members, the deepest of them nests so deep
abbrev pub inside_depth : Option ℕ → ℕ → ℕ → Inside → ℕ
inside_depth left n d close = operated left (union_depth n d)
inside_depth left n d (pass b p) = inside_depth left n d p
inside_depth left n d (one a p) = inside_depth left (n + 1) d p
inside_depth left n d (range a bs cs b p) = inside_depth left (n + 1) d p
inside_depth left n d (named negated name p) = inside_depth left (n + 1) d p
inside_depth left n d (nested h q p) = inside_depth left (n + 1) (max d (inside_depth None (head_count h) 0 q + 1)) p
inside_depth left n d (operation o p) = inside_depth (Some (operated left (union_depth n d))) 0 0 p

abbrev pub class_depth : Head → Inside → ℕ
class_depth h p = inside_depth None (head_count h) 0 p + 1

-- THE LITERAL CHARACTERS
abbrev pub listed : Option ℕ → List ℕ
listed single = option_map_or (λ c. c ∷ []) single []

abbrev pub head_literals : Head → List ℕ
head_literals h = map (λ bs. 45) h.dashes ++ (if is_some h.bracket then 93 ∷ [] else [])

abbrev pub inside_literals : Inside → List ℕ
inside_literals close = []
inside_literals (pass b p) = inside_literals p
inside_literals (one a p) = listed (single_of a) ++ inside_literals p
inside_literals (range a bs cs b p) = listed (single_of a) ++ listed (single_of b) ++ inside_literals p
inside_literals (named negated name p) = inside_literals p
inside_literals (nested h q p) = head_literals h ++ inside_literals q ++ inside_literals p
inside_literals (operation o p) = inside_literals p
