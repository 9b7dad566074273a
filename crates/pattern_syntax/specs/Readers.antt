-- What is read at a place of a pattern, and when nothing is.
use Rattle.std.specs.Prelude.{◌≡◌, ◌<◌, ◌≤◌, ℕ, Bool, true, List, [], ◌∷◌, ◌++◌, drop, length, not, nat_lt, Option, Some, None, encode_utf8, if◌then◌else◌}
use Rattle.std.specs.List.{list_any}
use Rattle.unicode.specs.Binary.{is_uppercase}
use Rattle.hir_tree.specs.Tree.{tree_of}
use Rattle.regex_class.specs.declared.Class.{Class}
use Rattle.regex_class.specs.Ranges.{in_ranges}
use Rattle.pattern_syntax.specs.declared.flags.Flags.{Flags}
use Rattle.pattern_syntax.specs.declared.readings.Literals.{Literals}
use Rattle.pattern_syntax.specs.declared.readings.Member.{Member}
use Rattle.pattern_syntax.specs.declared.readings.Member.TheVariants as member
use Rattle.pattern_syntax.specs.declared.readings.BracketClass.{BracketClass}
use Rattle.pattern_syntax.specs.declared.readings.Item.{Item}
use Rattle.pattern_syntax.specs.declared.readings.Opening.{Opening}
use Rattle.pattern_syntax.specs.declared.readings.Opening.TheVariants as opening
use Rattle.pattern_syntax.specs.declared.readings.Repetition.{Repetition}
use Rattle.pattern_syntax.specs.Flags.{FlagList, apply, Blank, is_nil}
use Rattle.pattern_syntax.specs.Sets.{Set}
use Rattle.pattern_syntax.specs.Atom.{Atom, character, write_atom, FineAtom, single_of}
use Rattle.pattern_syntax.specs.Class.{Head, Inside, write_head, write_inside, FineHead, FineInside, atom_set, is_byte, class_set, class_depth, head_literals, inside_literals}
use Rattle.pattern_syntax.specs.Syntax.{Single, Repeated, numbered, named, flagged, write_single, FineSingle}
use Rattle.pattern_syntax.specs.SetTree.{SetTree, repetition, with_sets}
use Rattle.pattern_syntax.specs.Reads.{Part, at_depth, literal_bytes, single_part, single_literals, count_tree}
use Rattle.pattern_syntax.specs.Tokens.{Token, set, opens, write_token, FineToken, write_repeated, FineRepeated}

-- the class of the code has exactly the members of the set
abbrev pub IsSet : Class → Set → Type 0
IsSet class members = (c : ℕ) → in_ranges class.ranges.items c ≡ members c

-- whether there is a literal character among these, and one that is upper case
abbrev pub HasLiterals : Literals → List ℕ → Type 0
HasLiterals literals cs = (literals.any ≡ not (is_nil cs)) × (literals.uppercase ≡ list_any is_uppercase cs)

-- the rest of the text begins behind what was read, and within the text
abbrev pub GoesOnTo : List ℕ → ℕ → ℕ → Type 0
GoesOnTo text at next = (at < next) × (next ≤ length text)

-- ---- atoms that begin with `\`

abbrev pub IsEscape : Atom → Type 0
IsEscape (character c) = ⊥
IsEscape _ = Unit {0}

-- what an atom is: a character, `\xHH`, or a set
abbrev pub IsMember : Flags → Atom → Member → Type 0
IsMember k a (member.Character c) = (single_of a ≡ Some c) × (literal_bytes k a c ≡ encode_utf8 c) × (is_byte a ≡ nat_lt c 128)
IsMember k a (member.HexByte b) = (single_of a ≡ Some b) × (literal_bytes k a b ≡ (if k.unicode then encode_utf8 b else b ∷ [])) × (is_byte a ≡ true)
IsMember k a (member.Set class) = (single_of a ≡ None) × IsSet class (atom_set k a) × (is_byte a ≡ true)

-- the member is that of the escape at the place, behind which the text goes on at `next`
pub record EscapeAt (k : Flags) (text : List ℕ) (at : ℕ) (read : Member) (next : ℕ) : Type 0 where
  pub atom : Atom
  pub escapes : IsEscape atom
  pub goes_on : GoesOnTo text at next
  pub written : drop at text ≡ write_atom atom (drop next text)
  pub fine : FineAtom k atom (drop next text)
  pub is : IsMember k atom read

abbrev pub IsEscapeRead : Flags → List ℕ → ℕ → Option (Member × ℕ) → Type 0
IsEscapeRead k text at (Some read) = EscapeAt k text at read.0 read.1
IsEscapeRead k text at None = (a : Atom) (t : List ℕ) → IsEscape a → drop at text ≡ write_atom a t → FineAtom k a t → ⊥

-- ---- bracketed classes

pub record ClassAt (k : Flags) (text : List ℕ) (at : ℕ) (read : BracketClass) (next : ℕ) : Type 0 where
  pub head : Head
  pub inside : Inside
  pub goes_on : GoesOnTo text at next
  pub written : drop at text ≡ write_head head (write_inside inside (drop next text))
  pub fine_head : FineHead k head (write_inside inside (drop next text))
  pub fine_inside : FineInside k inside (drop next text)
  pub members : IsSet read.set (class_set k head inside)
  pub depth : read.depth ≡ class_depth head inside
  pub literals : HasLiterals read.literals (head_literals head ++ inside_literals inside)

abbrev pub IsClassRead : Flags → List ℕ → ℕ → Option (BracketClass × ℕ) → Type 0
IsClassRead k text at (Some read) = ClassAt k text at read.0 read.1
IsClassRead k text at None =
    (h : Head) (p : Inside) (t : List ℕ) → drop at text ≡ write_head h (write_inside p t) → FineHead k h (write_inside p t) → FineInside k p t → ⊥

-- ---- single items

abbrev pub part_of : Item → Part
part_of item = at_depth item.depth (with_sets (tree_of item.hir))

pub record SingleAt (k : Flags) (text : List ℕ) (at : ℕ) (read : Item) (next : ℕ) : Type 0 where
  pub single : Single
  pub goes_on : GoesOnTo text at next
  pub written : drop at text ≡ write_single single (drop next text)
  pub fine : FineSingle k single (drop next text)
  pub part : part_of read ≡ single_part k single
  pub literals : HasLiterals read.literals (single_literals single)

abbrev pub IsSingleRead : Flags → List ℕ → ℕ → Option (Item × ℕ) → Type 0
IsSingleRead k text at (Some read) = SingleAt k text at read.0 read.1
IsSingleRead k text at None = (s : Single) (t : List ℕ) → drop at text ≡ write_single s t → FineSingle k s t → ⊥

-- ---- what a parenthesis opens

-- the opening is that of the token
abbrev pub IsOpening : Flags → Token → Opening → Type 0
IsOpening k token opening.Numbered = token ≡ opens numbered
IsOpening k token (opening.Named name) = (bs : List Blank) × (p : Bool) × (token ≡ opens (named bs p name))
IsOpening k token (opening.Plain flags) = (bs : List Blank) × (l : FlagList) × (token ≡ opens (flagged bs l)) × (flags ≡ apply l k)
IsOpening k token (opening.Sets flags) = (bs : List Blank) × (l : FlagList) × (token ≡ set bs l) × (flags ≡ apply l k)

pub record OpeningAt (k : Flags) (text : List ℕ) (at : ℕ) (read : Opening) (next : ℕ) : Type 0 where
  pub token : Token
  pub is : IsOpening k token read
  pub goes_on : GoesOnTo text at next
  pub written : drop at text ≡ write_token token (drop next text)
  pub fine : FineToken k token (drop next text)

-- a group is opened, or flags are set
abbrev pub OpensGroup : Token → Type 0
OpensGroup (set bs l) = Unit {0}
OpensGroup (opens m) = Unit {0}
OpensGroup _ = ⊥

abbrev pub IsOpeningRead : Flags → List ℕ → ℕ → Option (Opening × ℕ) → Type 0
IsOpeningRead k text at (Some read) = OpeningAt k text at read.0 read.1
IsOpeningRead k text at None = (token : Token) (t : List ℕ) → OpensGroup token → drop at text ≡ write_token token t → FineToken k token t → ⊥

-- ---- repetitions

pub record RepetitionAt (k : Flags) (text : List ℕ) (at : ℕ) (read : Repetition) (next : ℕ) : Type 0 where
  pub repeated : Repeated
  pub goes_on : GoesOnTo text at next
  pub written : drop at text ≡ write_repeated repeated (drop next text)
  pub fine : FineRepeated k repeated (drop next text)
  pub counts : (greedy : Bool) (part : SetTree) → count_tree repeated.count greedy part ≡ repetition read.min read.max greedy part
  pub swaps : read.swaps ≡ repeated.swaps

abbrev pub IsRepetitionRead : Flags → List ℕ → ℕ → Option (Repetition × ℕ) → Type 0
IsRepetitionRead k text at (Some read) = RepetitionAt k text at read.0 read.1
IsRepetitionRead k text at None = (r : Repeated) (t : List ℕ) → drop at text ≡ write_repeated r t → FineRepeated k r t → ⊥
