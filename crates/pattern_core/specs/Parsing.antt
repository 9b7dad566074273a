-- What the code of a parser has of a reading.
use Rattle.std.specs.Prelude.{◌≡◌, ◌<◌, ◌≤◌, ◌⊎◌, ℕ, Bool, List, [], ◌∷◌, ◌++◌, length, map, drop, IsTrue, ◌↔◌, not, codes, Option, Some, None, Result, Ok, Err}
use Rattle.std.specs.Ordering.{nat_cmp}
use Rattle.std.specs.Cmp.Lexicographic.{slice_cmp}
use Rattle.std.specs.BTreeSet.{contains}
use Rattle.hir_tree.specs.declared.hir.Hir.{Hir}
use Rattle.hir_tree.specs.Tree.{tree_of}
use Rattle.pattern_syntax.specs.declared.flags.Flags.{Flags}
use Rattle.pattern_syntax.specs.Flags.{apply, seen, has}
use Rattle.pattern_syntax.specs.Syntax.{Kind, inside_flags}
use Rattle.pattern_syntax.specs.SetTree.{SetTree, empty, capture, with_sets}
use Rattle.pattern_syntax.specs.Reads.{Part, Row, Found, Reads, at_depth, grouped}
use Rattle.pattern_syntax.specs.Tokens as token
use Rattle.pattern_syntax.specs.Tokens.{Token}
use Rattle.pattern_syntax.specs.Readers.{HasLiterals}
use Rattle.pattern_core.specs.Answers.{IsAmong, HasOneTwice}
use Rattle.pattern_core.specs.Progress.{nothing, with_group, with_literals, Level, Frame, Progress, push, close_branch, finished, fresh, in_group, GoesOn, GoesOnBehind}
use Rattle.pattern_core.specs.declared.fault.PatternFault.{PatternFault}
use Rattle.pattern_core.specs.declared.fault.PatternFault.TheVariants as fault
use Rattle.pattern_core.specs.declared.parsing.names.Names.{Names}
use Rattle.pattern_core.specs.declared.parsing.pieces.Piece.{Piece}
use Rattle.pattern_core.specs.declared.parsing.pieces.Row as code_row
use Rattle.pattern_core.specs.declared.parsing.pieces.Level as code_level
use Rattle.pattern_core.specs.declared.parsing.pieces.Group.{Group}
use Rattle.pattern_core.specs.declared.parsing.pieces.Group.TheVariants.{Plain, Capturing}
use Rattle.pattern_core.specs.declared.parsing.state.Frame as code_frame
use Rattle.pattern_core.specs.declared.parsing.state.State.{State}
use Rattle.pattern_core.specs.declared.parsing.reading.Whole.{Whole}

-- ---- parts

abbrev pub part_of : Piece → Part
part_of piece = at_depth piece.depth (with_sets (tree_of piece.hir))

abbrev pub row_of : code_row.Row → Row
row_of row = record { trees = map (λ (hir : Hir). with_sets (tree_of hir)) row.hirs.items; depth = row.depth }

-- equal, or both nest deeper than the limit
abbrev pub IsSamePart : ℕ → Part → Part → Type 0
IsSamePart limit a b = (a ≡ b) ⊎ ((limit < a.depth) × (limit < b.depth))

-- so for rows, of which those that nest too deep have a part
abbrev pub IsSameRow : ℕ → Row → Row → Type 0
IsSameRow limit a b = (a ≡ b) ⊎ ((limit < a.depth) × (limit < b.depth) × (0 < length a.trees) × (0 < length b.trees))

-- the piece is the part, or both nest deeper than the limit
abbrev pub IsPart : ℕ → Piece → Part → Type 0
IsPart limit piece = IsSamePart limit (part_of piece)

abbrev pub IsRow : ℕ → code_row.Row → Row → Type 0
IsRow limit row = IsSameRow limit (row_of row)

pub record IsLevel (limit : ℕ) (code : code_level.Level) (level : Level) : Type 0 where
  pub closed : IsRow limit code.closed level.closed
  pub items : IsRow limit code.items level.items

-- ---- groups and names

-- the group makes the same tree
abbrev pub IsGroup : Group → Kind → ℕ → Type 0
IsGroup Plain kind before = (tree : SetTree) → grouped kind before tree ≡ tree
IsGroup (Capturing index name) kind before = (tree : SetTree) → grouped kind before tree ≡ capture index name tree

pub record IsFrame (limit : ℕ) (code : code_frame.Frame) (frame : Frame) : Type 0 where
  pub group : IsGroup code.group frame.kind frame.before
  pub flags : code.flags ≡ frame.flags
  pub level : IsLevel limit code.level frame.level

abbrev pub AreFrames : ℕ → List code_frame.Frame → List Frame → Type 0
AreFrames limit [] [] = Unit {0}
AreFrames limit [] (f ∷ fs) = ⊥
AreFrames limit (c ∷ cs) [] = ⊥
AreFrames limit (c ∷ cs) (f ∷ fs) = IsFrame limit c f × AreFrames limit cs fs

-- these names are known, and whether one stands twice
pub record AreNames (code : Names) (names : List (List ℕ)) : Type 0 where
  pub known : (name : List ℕ) → IsTrue (contains (slice_cmp nat_cmp) code.known name) ↔ IsAmong name names
  pub twice : IsTrue code.has_one_twice ↔ HasOneTwice names

-- ---- states

-- the state is that of the reading
pub record IsState (limit : ℕ) (state : State) (reading : Progress) : Type 0 where
  pub frames : AreFrames limit state.frames.items reading.frames
  pub level : IsLevel limit state.level reading.level
  pub flags : state.flags ≡ reading.flags
  pub groups : state.groups ≡ reading.gathered.groups
  pub names : AreNames state.names reading.gathered.names
  pub literals : HasLiterals state.literals reading.gathered.literals

abbrev pub begun : Flags → Progress
begun flags = record { frames = []; level = fresh; flags = flags; gathered = nothing }

-- behind an item
abbrev pub behind_item : Part → Progress → Progress
behind_item part p = record p { level = push part p.level }

-- with literal characters more
abbrev pub noted : List ℕ → Progress → Progress
noted cs p = record p { gathered = with_literals cs p.gathered }

-- within a group
abbrev pub within : Kind → Progress → Progress
within kind p = record {
  frames = p.frames ++ record { kind = kind; flags = p.flags; before = p.gathered.groups; level = p.level } ∷ [];
  level = fresh;
  flags = inside_flags kind p.flags;
  gathered = with_group kind p.gathered;
}

-- behind a `|`, `(?flags)` or the opening of a group
abbrev pub behind_token : Token → Progress → Progress
behind_token token.bar p = record p { level = close_branch p.level }
behind_token (token.set bs flags) p = record p { level = push (at_depth 0 empty) p.level; flags = apply flags p.flags }
behind_token (token.opens kind) p = within kind p
behind_token _ p = p

-- behind the group of the innermost frame
abbrev pub outside : List Frame → Frame → Progress → Progress
outside frames f p = record { frames = frames; level = f.level; flags = f.flags; gathered = p.gathered }

-- a group is entered
pub record Enters (before : State) (group : Group) (inner : Flags) (next : ℕ) (after : State) : Type 0 where
  pub frames : after.frames.items ≡ before.frames.items ++ record { group = group; flags = before.flags; level = before.level } ∷ []
  pub level : (limit : ℕ) → IsLevel limit after.level fresh
  pub flags : after.flags ≡ inner
  pub groups : after.groups ≡ before.groups
  pub names : after.names ≡ before.names
  pub literals : after.literals ≡ before.literals
  pub place : after.at ≡ next

-- the innermost group is left
pub record Leaves (limit : ℕ) (before : Progress) (state : State) (piece : Piece) : Type 0 where
  pub frames : List Frame
  pub frame : Frame
  pub were : before.frames ≡ frames ++ frame ∷ []
  pub is : IsState limit state (outside frames frame before)
  pub part : IsPart limit piece (in_group frame.kind frame.before (finished before.level))

-- that, or none is open
abbrev pub IsLeft : ℕ → Progress → Option (State × Piece) → Type 0
IsLeft limit before (Some left) = Leaves limit before left.0 left.1
IsLeft limit before None = before.frames ≡ []

-- ---- the reading of a text

-- no white space stands at the place that is passed over
abbrev pub IsAtToken : Flags → List ℕ → Type 0
IsAtToken k t = seen k t ≡ t

-- no `|` and no parenthesis
abbrev pub is_other : ℕ → Bool
is_other c = not (has c (codes "|()"))

-- from both places what can be found is the same
pub record Same (text : List ℕ) (before : Progress) (at : ℕ) (after : Progress) (to : ℕ) : Type 0 where
  pub on : (found : Found) → GoesOn before (drop at text) found → GoesOn after (drop to text) found
  pub back : (found : Found) → GoesOn after (drop to text) found → GoesOn before (drop at text) found

-- the text is read from the state to another
pub record Reaches (limit : ℕ) (text : List ℕ) (state after : State) : Type 0 where
  pub keeps : (before : Progress) → IsState limit state before → (p : Progress) × (IsState limit after p × Same text before state.at p after.at)
  pub more : state.at < after.at
  pub within : after.at ≤ length text

-- some repetitions of a part are read
pub record SomeRepeated (text : List ℕ) (before : Progress) (part : Part) (at : ℕ) (more : Part) (to : ℕ) : Type 0 where
  pub on : (found : Found) → GoesOnBehind before part (drop at text) found → GoesOnBehind before more (drop to text) found
  pub back : (found : Found) → GoesOnBehind before more (drop to text) found → GoesOnBehind before part (drop at text) found

pub record Repeats (limit : ℕ) (text : List ℕ) (flags : Flags) (piece : Piece) (at : ℕ) (read : Piece) (to : ℕ) : Type 0 where
  pub keeps : (before : Progress) (part : Part) → before.flags ≡ flags → IsPart limit piece part
      → (more : Part) × (IsPart limit read more × SomeRepeated text before part at more to)
  pub further : at ≤ to
  pub within : to ≤ length text

-- a part is read with all its repetitions
pub record SameBehind (text : List ℕ) (before : Progress) (part : Part) (at : ℕ) (after : Progress) (to : ℕ) : Type 0 where
  pub on : (found : Found) → GoesOnBehind before part (drop at text) found → GoesOn after (drop to text) found
  pub back : (found : Found) → GoesOn after (drop to text) found → GoesOnBehind before part (drop at text) found

-- the text is read from the state, where an item was read, to another
pub record ReachesBehind (limit : ℕ) (text : List ℕ) (state : State) (piece : Piece) (after : State) : Type 0 where
  pub keeps : (before : Progress) (part : Part) → IsState limit state before → IsPart limit piece part
      → (p : Progress) × (IsState limit after p × SameBehind text before part state.at p after.at)
  pub further : state.at ≤ after.at
  pub within : after.at ≤ length text

-- nothing can be found
abbrev pub IsStuck : ℕ → List ℕ → State → Type 0
IsStuck limit text state = (before : Progress) → IsState limit state before → (found : Found) → GoesOn before (drop state.at text) found → ⊥

-- the text is read further, or nothing can be found
abbrev pub Steps : ℕ → List ℕ → State → Result State PatternFault → Type 0
Steps limit text state (Ok after) = Reaches limit text state after
Steps limit text state (Err fault.Grammar) = IsStuck limit text state
Steps limit text state (Err fault.NoMemory) = Unit {0}
Steps limit text state (Err _) = ⊥

-- what can be read is what the state goes on to
pub record IsBegun (limit : ℕ) (text : List ℕ) (flags : Flags) (state : State) : Type 0 where
  pub reading : Progress
  pub is : IsState limit state reading
  pub on : (found : Found) → Reads flags text found → GoesOn reading (drop state.at text) found
  pub back : (found : Found) → GoesOn reading (drop state.at text) found → Reads flags text found
  pub within : state.at ≤ length text

-- what is found is what was read
pub record Finds (limit : ℕ) (text : List ℕ) (flags : Flags) (whole : Whole) : Type 0 where
  pub found : Found
  pub reads : Reads flags text found
  pub part : IsPart limit whole.piece found.part
  pub groups : whole.groups ≡ found.groups
  pub names : AreNames whole.names found.names
  pub literals : HasLiterals whole.literals found.literals

abbrev pub IsWhole : ℕ → List ℕ → Flags → Result Whole PatternFault → Type 0
IsWhole limit text flags (Ok whole) = Finds limit text flags whole
IsWhole limit text flags (Err fault.Grammar) = (found : Found) → Reads flags text found → ⊥
IsWhole limit text flags (Err fault.NoMemory) = Unit {0}
IsWhole limit text flags (Err _) = ⊥
