-- What a reading of a class from left to right has so far.
use Rattle.std.specs.Prelude.{◌≡◌, ℕ, ◌+◌, max, Bool, ◌||◌, not, List, Option, Some, None}
use Rattle.std.specs.List.{list_any}
use Rattle.unicode.specs.Binary.{is_uppercase}
use Rattle.pattern_syntax.specs.declared.flags.Flags.{Flags}
use Rattle.pattern_syntax.specs.declared.readings.Literals.{Literals}
use Rattle.pattern_syntax.specs.Flags.{is_nil}
use Rattle.pattern_syntax.specs.Sets.{Set, none_of, union, negated_if}
use Rattle.pattern_syntax.specs.Class.{Head, Inside, Operation, Waiting, nothing, waits, side, write_inside, FineInside, inside_set, inside_depth, inside_literals, head_set, head_count, head_literals, union_depth, operated}

-- whether there is a literal character among these, and one that is upper case
abbrev pub literals_in : List ℕ → Literals
literals_in cs = record { any = not (is_nil cs); uppercase = list_any is_uppercase cs }

-- in either of two parts
abbrev pub in_both : Literals → Literals → Literals
in_both a b = record { any = a.any || b.any; uppercase = a.uppercase || b.uppercase }

-- the set that stands between brackets, how deep it nests, and its literal characters
pub record ClassPart : Type 0 where
  pub set : Set
  pub depth : ℕ
  pub literals : Literals

-- what stands left of the operation that waits, and the union behind it; how deep they nest
pub record ClassLevel : Type 0 where
  pub waiting : Waiting
  pub union : Set
  pub left : Option ℕ
  pub count : ℕ
  pub deepest : ℕ
  pub literals : Literals

abbrev pub start : Head → ClassLevel
start h = record { waiting = nothing; union = head_set h; left = None; count = head_count h; deepest = 0; literals = literals_in (head_literals h) }

abbrev pub part_of : Set → ℕ → Literals → ClassPart
part_of s d cs = record { set = s; depth = d; literals = cs }

abbrev pub whole_class : Flags → ClassLevel → Inside → ClassPart
whole_class k l p = part_of (inside_set k l.waiting l.union p) (inside_depth l.left l.count l.deepest p) (in_both l.literals (literals_in (inside_literals p)))

-- one member more
abbrev pub with_member : Set → ℕ → Literals → ClassLevel → ClassLevel
with_member s d cs l = record {
  waiting = l.waiting;
  union = union l.union s;
  left = l.left;
  count = l.count + 1;
  deepest = max l.deepest d;
  literals = in_both l.literals cs;
}

-- with its brackets, and negated or not
abbrev pub bracketed : Flags → Bool → ClassPart → ClassPart
bracketed k negated a = part_of (negated_if negated k a.set) (a.depth + 1) a.literals

-- an operation begins
abbrev pub with_operation : Flags → Operation → ClassLevel → ClassLevel
with_operation k o l = record {
  waiting = waits (side k l.waiting l.union) o;
  union = none_of;
  left = Some (operated l.left (union_depth l.count l.deepest));
  count = 0;
  deepest = 0;
  literals = l.literals;
}

module _ (F : Type 0) where
  -- what may follow the end of a class: the class, the text, and what is found in all
  abbrev pub AfterClass : Type 1
  AfterClass = ClassPart → List ℕ → F → Type 0

  -- the rest of a class, and what follows it
  abbrev pub RestClass : Flags → AfterClass → ClassLevel → List ℕ → F → Type 0
  RestClass k after l t found =
      (p : Inside) × (v : List ℕ) × FineInside k p v × (t ≡ write_inside p v) × after (whole_class k l p) v found

  -- after the end of a nested class, which is negated or not
  abbrev pub leave_class : Flags → Bool → ClassLevel → AfterClass → AfterClass
  leave_class k negated l after a v found =
      let b = bracketed k negated a in RestClass k after (with_member b.set b.depth b.literals l) v found
