-- What the code has of a class that it reads, and how the reading goes on from there.
use Rattle.std.specs.Char.{is_ascii_lowercase}
use Rattle.std.specs.Prelude.{◌≡◌, ◌<◌, ◌≤◌, ℕ, ◌+◌, Bool, true, false, ◌==◌, ◌&&◌, ◌||◌, nat_le, codes, if◌then◌else◌, List, [], ◌∷◌, ◌++◌, drop, length, map, Option, Some, None, is_some}
use Rattle.regex_class.specs.declared.Class.{Class}
use Rattle.regex_class.specs.Ranges.{in_ranges}
use Rattle.pattern_syntax.specs.declared.flags.Flags.{Flags}
use Rattle.pattern_syntax.specs.declared.readings.BracketClass.{BracketClass}
use Rattle.pattern_syntax.specs.declared.classes.open_class.Operation.{Operation as CodeOperation}
use Rattle.pattern_syntax.specs.declared.classes.open_class.Operation.TheVariants as code_operation
use Rattle.pattern_syntax.specs.declared.classes.open_class.LeftSide.{LeftSide}
use Rattle.pattern_syntax.specs.declared.classes.open_class.OpenClass.{OpenClass}
use Rattle.pattern_syntax.specs.declared.classes.heads.ClassHead.{ClassHead}
use Rattle.pattern_syntax.specs.declared.classes.members.ClassMember.{ClassMember}
use Rattle.pattern_syntax.specs.declared.classes.members.ClassMember.TheVariants as class_member
use Rattle.pattern_syntax.specs.declared.classes.steps.Reading.{Reading}
use Rattle.pattern_syntax.specs.declared.classes.steps.Step.{Step}
use Rattle.pattern_syntax.specs.declared.classes.steps.Step.TheVariants as step
use Rattle.pattern_syntax.specs.Flags.{Blank, write_blanks, FineBlanks, has, begins, rest, seen}
use Rattle.pattern_syntax.specs.Sets.{Set, negated_if, ascii_names, ascii_set, value_of}
use Rattle.pattern_syntax.specs.Atom.{Atom, character, write_atom, FineAtom, single_of}
use Rattle.pattern_syntax.specs.Class.{Head, Inside, Operation, both, minus, either, Waiting, nothing, waits, write_head, write_inside, write_name, write_operation, FineHead, FineInside, FineSecond, is_member, fits, begins_name, atom_set}
use Rattle.pattern_syntax.specs.ClassProgress.{ClassPart, ClassLevel, start, part_of, whole_class, bracketed, AfterClass, RestClass, leave_class}
use Rattle.pattern_syntax.specs.Readers.{IsSet, GoesOnTo}

-- ---- what the code has

-- a character that lies in the ranges
abbrev pub held : List (ℕ × ℕ) → Set
held ranges c = nat_le c 0x10_FFFF && in_ranges ranges c

abbrev pub operation_of : CodeOperation → Operation
operation_of code_operation.Both = both
operation_of code_operation.Minus = minus
operation_of code_operation.Either = either

abbrev pub waiting_of : Option LeftSide → Waiting
waiting_of None = nothing
waiting_of (Some left) = waits (in_ranges left.set.ranges.items) (operation_of left.operation)

abbrev pub left_depth : Option LeftSide → Option ℕ
left_depth None = None
left_depth (Some left) = Some left.depth

abbrev pub level_of : OpenClass → ClassLevel
level_of class = record {
  waiting = waiting_of class.left;
  union = held class.ranges.items;
  left = left_depth class.left;
  count = class.count;
  deepest = class.deepest;
  literals = class.literals;
}

-- an open class: whether it is negated, and what was read of it
pub record Frame : Type 0 where
  pub negated : Bool
  pub level : ClassLevel

abbrev pub framed : Bool → ClassLevel → Frame
framed negated l = record { negated = negated; level = l }

abbrev pub frame_of : OpenClass → Frame
frame_of class = framed class.negated (level_of class)

abbrev pub code_part : BracketClass → ClassPart
code_part class = part_of (in_ranges class.set.ranges.items) class.depth class.literals

-- ---- what follows

-- the class with its brackets, and the text behind it
abbrev pub Found : Type 0
Found = ClassPart × List ℕ

-- the outermost class ends
abbrev pub last : Flags → Bool → AfterClass Found
last k negated a v found = found ≡ (bracketed k negated a, v)

-- what follows a class within open ones, the outermost first
abbrev pub after_all : Flags → (Bool → AfterClass Found) → List Frame → Bool → AfterClass Found
after_all k after [] = after
after_all k after (f ∷ fs) = after_all k (λ negated. leave_class Found k negated f.level (after f.negated)) fs

-- how a text goes on within open classes
unfoldable pub Goes : Flags → List Frame → Frame → List ℕ → Found → Type 0
Goes k outer f t found = RestClass Found k (after_all k (last k) outer f.negated) f.level t found

module _ (k : Flags) (text : List ℕ) where
  -- how the reading goes on from a state
  abbrev pub Continues : Reading → Found → Type 0
  Continues s found = Goes k (map frame_of s.outer.items) (frame_of s.class) (drop s.at text) found

  -- from both states the same can be found
  pub record Advances (s t : Reading) : Type 0 where
    pub on : (found : Found) → Continues s found → Continues t found
    pub back : (found : Found) → Continues t found → Continues s found
    pub more : s.at < t.at
    pub within : t.at ≤ length text

  -- the class ends here
  pub record Ends (s : Reading) (class : BracketClass) (next : ℕ) : Type 0 where
    pub found : Continues s (code_part class, drop next text)
    pub goes_on : GoesOnTo text s.at next

  abbrev pub Steps : Reading → Step → Type 0
  Steps s (step.Open t) = Advances s t
  Steps s (step.Done class next) = Ends s class next
  Steps s step.Nothing = (found : Found) → Continues s found → ⊥

  -- a class that begins at a place is found, with the text behind it
  pub record ClassFrom (at : ℕ) (found : Found) : Type 0 where
    pub head : Head
    pub inside : Inside
    pub written : drop at text ≡ write_head head (write_inside inside found.1)
    pub fine_head : FineHead k head (write_inside inside found.1)
    pub fine_inside : FineInside k inside found.1
    pub part : found.0 ≡ bracketed k (is_some head.negated) (whole_class k (start head) inside)

  -- what can be found from the place is what the state goes on to
  pub record Begun (at : ℕ) (s : Reading) : Type 0 where
    pub on : (found : Found) → ClassFrom at found → Continues s found
    pub back : (found : Found) → Continues s found → ClassFrom at found
    pub more : at < s.at
    pub within : s.at ≤ length text

-- ---- heads

-- the character comes next behind blanks
pub record NextAt (k : Flags) (text : List ℕ) (at : ℕ) (c : ℕ) (next : ℕ) : Type 0 where
  pub blanks : List Blank
  pub goes_on : GoesOnTo text at next
  pub written : drop at text ≡ write_blanks blanks (c ∷ drop next text)
  pub fine : FineBlanks k blanks (c ∷ drop next text)

abbrev pub IsNextRead : Flags → List ℕ → ℕ → ℕ → Option ℕ → Type 0
IsNextRead k text at c (Some next) = NextAt k text at c next
IsNextRead k text at c None = begins c (seen k (drop at text)) ≡ false

abbrev pub IsHead : ClassHead → Head → Type 0
IsHead read h = (read.negated ≡ is_some h.negated) × (read.dashes ≡ length h.dashes) × (read.bracket ≡ is_some h.bracket)

pub record HeadAt (k : Flags) (text : List ℕ) (at : ℕ) (read : ClassHead) (next : ℕ) : Type 0 where
  pub head : Head
  pub is : IsHead read head
  pub goes_on : GoesOnTo text at next
  pub written : drop at text ≡ write_head head (drop next text)
  pub fine : FineHead k head (drop next text)

-- ---- names

pub record NameAt (k : Flags) (text : List ℕ) (at : ℕ) (read : Class) (next : ℕ) : Type 0 where
  pub negated : Bool
  pub name : List ℕ
  pub known : is_some (value_of ascii_names name) ≡ true
  pub goes_on : GoesOnTo text at next
  pub written : drop at text ≡ write_name negated name (drop next text)
  pub members : IsSet read (negated_if negated k (ascii_set name))

abbrev pub IsNameRead : Flags → List ℕ → ℕ → Option (Class × ℕ) → Type 0
IsNameRead k text at (Some read) = NameAt k text at read.0 read.1
IsNameRead k text at None = begins_name (drop at text) ≡ false

-- a name up to its letters
abbrev pub open_name : Bool → List ℕ → List ℕ
open_name true t = codes "[:^" ++ t
open_name false t = codes "[:" ++ t

-- a name may begin, which is negated or not, and its letters would stand at a place
abbrev pub IsNameOpen : List ℕ → ℕ → Option (Bool × ℕ) → Type 0
IsNameOpen text at (Some read) =
    (drop at text ≡ open_name read.0 (drop read.1 text)) × (read.0 ≡ false → begins 94 (drop read.1 text) ≡ false) × (at < read.1) × (read.1 ≤ length text)
IsNameOpen text at None = (t : List ℕ) → drop at text ≡ codes "[:" ++ t → ⊥

-- behind the small letters
abbrev pub after_letters : List ℕ → List ℕ
after_letters [] = []
after_letters (c ∷ t) = if is_ascii_lowercase c then after_letters t else c ∷ t

-- ---- operations

abbrev pub IsOperationRead : List ℕ → ℕ → Option CodeOperation → Type 0
IsOperationRead text at (Some o) = (drop at text ≡ write_operation (operation_of o) (drop (at + 2) text)) × (at + 2 ≤ length text)
IsOperationRead text at None = (c : ℕ) (t : List ℕ) → drop at text ≡ c ∷ t → (has c (codes "&-~") && begins c t) ≡ false

-- ---- members

-- the atom that stands at the head of a text: an escape, or the character itself
abbrev pub IsAtomAt : Flags → List ℕ → Atom → List ℕ → Type 0
IsAtomAt k w (character c) t = (w ≡ c ∷ t) × ((c == 92) ≡ false)
IsAtomAt k w a t = (w ≡ write_atom a t) × FineAtom k a t

-- an escape or a character that is a member may begin
abbrev pub begins_member : Flags → List ℕ → Bool
begins_member k [] = false
begins_member k (c ∷ t) = (c == 92) || is_member k c t

-- what an atom is: a character, or a set
abbrev pub IsClassMember : Flags → Atom → ClassMember → Type 0
IsClassMember k a (class_member.Single c) = single_of a ≡ Some c
IsClassMember k a (class_member.Many set) = (single_of a ≡ None) × IsSet set (atom_set k a)

pub record MemberAt (k : Flags) (text : List ℕ) (at : ℕ) (read : ClassMember) (next : ℕ) : Type 0 where
  pub atom : Atom
  pub goes_on : GoesOnTo text at next
  pub stands : IsAtomAt k (drop at text) atom (drop next text)
  pub fits : fits k atom ≡ true
  pub is : IsClassMember k atom read

abbrev pub IsMemberRead : Flags → List ℕ → ℕ → Option (ClassMember × ℕ) → Type 0
IsMemberRead k text at (Some read) = MemberAt k text at read.0 read.1
IsMemberRead k text at None = (a : Atom) (t : List ℕ) → IsAtomAt k (drop at text) a t → fits k a ≡ true → ⊥

-- what follows the `-` of a range
abbrev pub behind_dash : Flags → List ℕ → List ℕ
behind_dash k t = seen k (rest (seen k t))

pub record SecondAt (k : Flags) (text : List ℕ) (at : ℕ) (read : ℕ) (next : ℕ) : Type 0 where
  pub atom : Atom
  pub goes_on : GoesOnTo text at next
  pub written : behind_dash k (drop at text) ≡ write_atom atom (drop next text)
  pub fine : FineSecond k atom (drop next text)
  pub fits : fits k atom ≡ true
  pub is : single_of atom ≡ Some read

abbrev pub IsSecondRead : Flags → List ℕ → ℕ → Option (ℕ × ℕ) → Type 0
IsSecondRead k text at (Some read) = SecondAt k text at read.0 read.1
IsSecondRead k text at None =
    (b : Atom) (t : List ℕ) → behind_dash k (drop at text) ≡ write_atom b t → FineSecond k b t → fits k b ≡ true → is_some (single_of b) ≡ true → ⊥
