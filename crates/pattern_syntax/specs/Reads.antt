-- What a pattern is read as.
use Rattle.std.specs.Prelude.{◌≡◌, ℕ, ◌+◌, max, Bool, List, [], ◌∷◌, ◌++◌, map, Option, Some, None, encode_utf8, if◌then◌else◌, ◌&&◌, ◌||◌, ◌==◌, not}
use Rattle.hir_tree.specs.declared.look.Look.{Look}
use Rattle.hir_tree.specs.declared.look.Look.TheVariants as look
use Rattle.pattern_syntax.specs.declared.flags.Flags.{Flags}
use Rattle.pattern_syntax.specs.Flags.{apply}
use Rattle.pattern_syntax.specs.Atom.{Atom, single_of, coded}
use Rattle.pattern_syntax.specs.Sets.{Set, is_any, complement, closed, folds_with_another}
use Rattle.pattern_syntax.specs.Class.{atom_set, class_set, class_depth, inside_literals, head_literals, listed, xor}
use Rattle.pattern_syntax.specs.Syntax.{Syntax, end, bar, pass, set, single, group, Single, atom, dot, caret, dollar, look as look_at, class, edge_of, Count, optional, star, plus, exactly, at_least, between, value, Repeated, Kind, numbered, named, flagged, inside_flags, write, Fine}
use Rattle.pattern_syntax.specs.SetTree.{SetTree, SetTrees, empty, literal, chars, bytes, looks, repetition, capture, concat, alternation, trees}

-- a tree, and how deep its pattern nests
pub record Part : Type 0 where
  pub tree : SetTree
  pub depth : ℕ

abbrev pub at_depth : ℕ → SetTree → Part
at_depth d a = record { tree = a; depth = d }

pub record Row : Type 0 where
  pub trees : List SetTree
  pub depth : ℕ

abbrev pub no_parts : Row
no_parts = record { trees = []; depth = 0 }

abbrev pub in_front : Part → Row → Row
in_front a row = record { trees = a.tree ∷ row.trees; depth = max a.depth row.depth }

abbrev pub row_of : List Part → Row
row_of [] = no_parts
row_of (a ∷ rest) = in_front a (row_of rest)

-- none is empty, one is itself, more are one part
abbrev pub united : (SetTrees → SetTree) → List SetTree → ℕ → Part
united make [] d = at_depth 0 empty
united make (a ∷ []) d = at_depth d a
united make (a ∷ b ∷ rest) d = at_depth (d + 1) (make (trees (a ∷ b ∷ rest)))

abbrev pub sequence : Row → Part
sequence row = united concat row.trees row.depth

abbrev pub choice : Row → Part
choice row = united alternation row.trees row.depth

abbrev pub joined : List Row → Part
joined branches = choice (row_of (map sequence branches))

-- with `u` off `\xHH` is that one byte
abbrev pub literal_bytes : Flags → Atom → ℕ → List ℕ
literal_bytes k (coded letter ds) c = if (letter == 120) && not k.unicode then c ∷ [] else encode_utf8 c
literal_bytes k a c = encode_utf8 c

-- a set of characters, or with `u` off of bytes
abbrev pub class_tree : Flags → Set → SetTree
class_tree k s = if k.unicode then chars (λ c. is_any k c && s c) else bytes (λ c. is_any k c && s c)

-- what a `.` doesn't take
abbrev pub line_end : Flags → Set
line_end k c = not k.dot_all && ((c == 10) || (k.crlf && (c == 13)))

abbrev pub line_look : Look → Look → Look → Flags → Look
line_look one lf crlf k = if k.multi then (if k.crlf then crlf else lf) else one

abbrev pub count_tree : Count → Bool → SetTree → SetTree
count_tree optional greedy a = repetition 0 (Some 1) greedy a
count_tree star greedy a = repetition 0 None greedy a
count_tree plus greedy a = repetition 1 None greedy a
count_tree (exactly n) greedy a = repetition (value n) (Some (value n)) greedy a
count_tree (at_least n) greedy a = repetition (value n) None greedy a
count_tree (between n m) greedy a = repetition (value n) (Some (value m)) greedy a

abbrev pub repeat : Flags → List Repeated → Part → Part
repeat k [] a = a
repeat k (r ∷ rs) a = repeat k rs (at_depth (a.depth + 1) (count_tree r.count (not (xor r.swaps k.swaps)) a.tree))

abbrev pub own : Kind → ℕ
own (flagged bs l) = 0
own _ = 1

abbrev pub captures : Syntax → ℕ
captures end = 0
captures (bar p) = captures p
captures (pass b p) = captures p
captures (set bs l p) = captures p
captures (single s rs p) = captures p
captures (group k q rs p) = own k + captures q + captures p

abbrev pub grouped : Kind → ℕ → SetTree → SetTree
grouped numbered n a = capture (n + 1) None a
grouped (named bs p name) n a = capture (n + 1) (Some name) a
grouped (flagged bs l) n a = a

abbrev pub put : Part → List Row → List Row
put a [] = []
put a (branch ∷ rest) = in_front a branch ∷ rest

-- with `i` a literal that folds with another is the class of all that do
abbrev pub one_tree : Flags → Atom → Option ℕ → SetTree
one_tree k a None = class_tree k (atom_set k a)
one_tree k a (Some c) =
    if k.folds && folds_with_another k c then class_tree k (closed k (λ d. d == c)) else literal (literal_bytes k a c)

abbrev pub single_part : Flags → Single → Part
single_part k (atom a) = at_depth 0 (one_tree k a (single_of a))
single_part k dot = at_depth 0 (class_tree k (complement k (line_end k)))
single_part k caret = at_depth 0 (looks (line_look look.Start look.StartLF look.StartCRLF k))
single_part k dollar = at_depth 0 (looks (line_look look.End look.EndLF look.EndCRLF k))
single_part k (look_at e) = at_depth 0 (looks ((edge_of e).1 k.unicode))
single_part k (class h p) = at_depth (class_depth h p) (class_tree k (class_set k h p))

-- the items of each branch, under flags, where so many groups have numbers before
abbrev pub branches : Flags → ℕ → Syntax → List Row
branches k n end = no_parts ∷ []
branches k n (bar p) = no_parts ∷ branches k n p
branches k n (pass b p) = branches k n p
branches k n (set bs l p) = put (at_depth 0 empty) (branches (apply l k) n p)
branches k n (single s rs p) = put (repeat k rs (single_part k s)) (branches k n p)
branches k n (group m q rs p) =
    let inner = joined (branches (inside_flags m k) (n + own m) q) in
    put (repeat k rs (at_depth (inner.depth + 1) (grouped m n inner.tree))) (branches k (n + own m + captures q) p)

abbrev pub own_name : Kind → List (List ℕ)
own_name (named bs p name) = name ∷ []
own_name _ = []

-- what groups and single parts have, in order
abbrev pub gathered : {A : Type 0} → (Kind → List A) → (Single → List A) → Syntax → List A
gathered of_group of_single end = []
gathered of_group of_single (bar p) = gathered of_group of_single p
gathered of_group of_single (pass b p) = gathered of_group of_single p
gathered of_group of_single (set bs l p) = gathered of_group of_single p
gathered of_group of_single (single s rs p) = of_single s ++ gathered of_group of_single p
gathered of_group of_single (group m q rs p) = of_group m ++ gathered of_group of_single q ++ gathered of_group of_single p

-- the names of groups, in order
abbrev pub names_of : Syntax → List (List ℕ)
names_of p = gathered own_name (λ s. []) p

abbrev pub single_literals : Single → List ℕ
single_literals (atom a) = listed (single_of a)
single_literals (class h p) = head_literals h ++ inside_literals p
single_literals _ = []

-- the literal characters, in order
abbrev pub literals_of : Syntax → List ℕ
literals_of p = gathered (λ m. []) single_literals p

pub record Found : Type 0 where
  pub part : Part
  pub groups : ℕ
  pub names : List (List ℕ)
  pub literals : List ℕ

abbrev pub found_of : Flags → Syntax → Found
found_of k p = record { part = joined (branches k 0 p); groups = captures p; names = names_of p; literals = literals_of p }

-- the text is written so, and is read as this
pub record Reads (k : Flags) (text : List ℕ) (found : Found) : Type 0 where
  pub syntax : Syntax
  pub fine : Fine k syntax []
  pub written : text ≡ write syntax []
  pub read : found ≡ found_of k syntax
