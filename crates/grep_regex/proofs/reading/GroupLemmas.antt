-- The groups of a tree that was read are those of its text: their names in their order, and their numbers.
use Rattle.std.proofs.Common.{◌≡◌, ◌≤◌, ℕ, ◌+◌, ◌==◌, map, Bool, true, false, ◌&&◌, not, if◌then◌else◌, Option, Some, None, List, [], ◌∷◌, ◌++◌, refl, sym, ap, ap₂, ◌∙◌, subst, arith}
use Rattle.std.proofs.Math.Nat.{max-le}
use Rattle.std.proofs.lemmas.List.{append-nil, append_assoc, map-append}
use Rattle.hir_tree.specs.Spots.{groups_of_tree, groups_of_trees, greatest}
use Rattle.hir_tree.specs.Tree as hir_tree
use Rattle.hir_tree.specs.Tree.{Tree, Trees}
use Rattle.pattern_syntax.specs.declared.flags.Flags.{Flags}
use Rattle.pattern_syntax.specs.Flags.{apply}
use Rattle.pattern_syntax.specs.Atom.{Atom, single_of}
use Rattle.pattern_syntax.specs.Sets.{Set, closed, folds_with_another}
use Rattle.pattern_syntax.specs.Syntax.{Syntax, end, bar, pass, set, single, group, Single, atom, dot, caret, dollar, look as look_at, class, Count, optional, star, plus, exactly, at_least, between, Kind, numbered, named, flagged, Repeated, inside_flags}
use Rattle.pattern_syntax.specs.SetTree.{SetTree, SetTrees, empty, literal, chars, bytes, looks, repetition, capture, concat, alternation, none, more, trees, with_sets, all_with_sets}
use Rattle.pattern_syntax.specs.Class.{xor}
use Rattle.pattern_syntax.specs.Reads.{Part, Row, Found, Reads, at_depth, row_of, united, sequence, joined, literal_bytes, class_tree, repeat, count_tree, own, captures, grouped, put, one_tree, single_part, branches, own_name, names_of}
use Rattle.grep_regex.specs.Options.{names_in, names_in_each}

-- the number of a group, and its name if it has one
abbrev Group : Type 0
Group = ℕ × Option (List ℕ)

abbrev mutual
  -- the groups in a tree, from left to right
  groups_in : SetTree → List Group
  groups_in empty = []
  groups_in (literal text) = []
  groups_in (chars members) = []
  groups_in (bytes members) = []
  groups_in (looks kind) = []
  groups_in (repetition least most greedy part) = groups_in part
  groups_in (capture index name part) = (index, name) ∷ groups_in part
  groups_in (concat parts) = groups_in_each parts
  groups_in (alternation parts) = groups_in_each parts

  groups_in_each : SetTrees → List Group
  groups_in_each none = []
  groups_in_each (more part rest) = groups_in part ++ groups_in_each rest

abbrev in_list : List SetTree → List Group
in_list [] = []
in_list (a ∷ bs) = groups_in a ++ in_list bs

abbrev in_rows : List Row → List Group
in_rows [] = []
in_rows (row ∷ rows) = in_list row.trees ++ in_rows rows

-- ---- the groups of what is put together

each_listed : (bs : List SetTree) → groups_in_each (trees bs) ≡ in_list bs
each_listed [] = refl
each_listed (a ∷ bs) = ap (λ gs. groups_in a ++ gs) (each_listed bs)

sequence_groups : (bs : List SetTree) (d : ℕ) → groups_in (united concat bs d).tree ≡ in_list bs
sequence_groups [] d = refl
sequence_groups (a ∷ []) d = sym (append-nil (groups_in a))
sequence_groups (a ∷ b ∷ bs) d = each_listed (a ∷ b ∷ bs)

choice_groups : (bs : List SetTree) (d : ℕ) → groups_in (united alternation bs d).tree ≡ in_list bs
choice_groups [] d = refl
choice_groups (a ∷ []) d = sym (append-nil (groups_in a))
choice_groups (a ∷ b ∷ bs) d = each_listed (a ∷ b ∷ bs)

sequences_groups : (rows : List Row) → in_list (row_of (map sequence rows)).trees ≡ in_rows rows
sequences_groups [] = refl
sequences_groups (row ∷ rows) = ap₂ (λ gs hs. gs ++ hs) (sequence_groups row.trees row.depth) (sequences_groups rows)

joined_groups : (rows : List Row) → groups_in (joined rows).tree ≡ in_rows rows
joined_groups rows = choice_groups (row_of (map sequence rows)).trees (row_of (map sequence rows)).depth ∙ sequences_groups rows

abbrev IsCons : List Row → Type 0
IsCons [] = ⊥
IsCons (row ∷ rows) = Unit {0}

put_cons : (a : Part) (rows : List Row) → IsCons rows → IsCons (put a rows)
put_cons a [] h = h
put_cons a (row ∷ rows) h = tt

put_groups : (a : Part) (rows : List Row) → IsCons rows → in_rows (put a rows) ≡ groups_in a.tree ++ in_rows rows
put_groups a [] h = absurd h
put_groups a (row ∷ rows) h = append_assoc (groups_in a.tree) (in_list row.trees) (in_rows rows)

count_groups : (n : Count) (greedy : Bool) (a : SetTree) → groups_in (count_tree n greedy a) ≡ groups_in a
count_groups optional greedy a = refl
count_groups star greedy a = refl
count_groups plus greedy a = refl
count_groups (exactly n) greedy a = refl
count_groups (at_least n) greedy a = refl
count_groups (between n m) greedy a = refl

repeat_groups : (k : Flags) (rs : List Repeated) (a : Part) → groups_in (repeat k rs a).tree ≡ groups_in a.tree
repeat_groups k [] a = refl
repeat_groups k (r ∷ rs) a = repeat_groups k rs _ ∙ count_groups r.count (not (xor r.swaps k.swaps)) a.tree

either_groups : (b : Bool) (x y : SetTree) → groups_in x ≡ [] → groups_in y ≡ [] → groups_in (if b then x else y) ≡ []
either_groups true x y p q = p
either_groups false x y p q = q

class_groups : (k : Flags) (s : Set) → groups_in (class_tree k s) ≡ []
class_groups k s = either_groups k.unicode _ _ refl refl

one_groups : (k : Flags) (a : Atom) (c : Option ℕ) → groups_in (one_tree k a c) ≡ []
one_groups k a None = class_groups k _
one_groups k a (Some c) =
    either_groups (k.folds && folds_with_another k c) (class_tree k (closed k (λ d. d == c))) (literal (literal_bytes k a c)) (class_groups k (closed k (λ d. d == c))) refl

single_groups : (k : Flags) (s : Single) → groups_in (single_part k s).tree ≡ []
single_groups k (atom a) = one_groups k a (single_of a)
single_groups k dot = class_groups k _
single_groups k caret = refl
single_groups k dollar = refl
single_groups k (look_at e) = refl
single_groups k (class h p) = class_groups k _

-- ---- the groups of a text

abbrev own_group : Kind → ℕ → List Group
own_group numbered n = (n + 1, None) ∷ []
own_group (named bs p name) n = (n + 1, Some name) ∷ []
own_group (flagged bs l) n = []

-- the groups, where so many have numbers before
abbrev groups_from : ℕ → Syntax → List Group
groups_from n end = []
groups_from n (bar p) = groups_from n p
groups_from n (pass b p) = groups_from n p
groups_from n (set bs l p) = groups_from n p
groups_from n (single s rs p) = groups_from n p
groups_from n (group m q rs p) = (own_group m n ++ groups_from (n + own m) q) ++ groups_from (n + own m + captures q) p

grouped_groups : (m : Kind) (n : ℕ) (a : SetTree) → groups_in (grouped m n a) ≡ own_group m n ++ groups_in a
grouped_groups numbered n a = refl
grouped_groups (named bs p name) n a = refl
grouped_groups (flagged bs l) n a = refl

branches_cons : (k : Flags) (n : ℕ) (p : Syntax) → IsCons (branches k n p)
branches_cons k n end = tt
branches_cons k n (bar p) = tt
branches_cons k n (pass b p) = branches_cons k n p
branches_cons k n (set bs l p) = put_cons (at_depth 0 empty) (branches (apply l k) n p) (branches_cons (apply l k) n p)
branches_cons k n (single s rs p) = put_cons (repeat k rs (single_part k s)) (branches k n p) (branches_cons k n p)
branches_cons k n (group m q rs p) =
    let inner = joined (branches (inside_flags m k) (n + own m) q) in
    put_cons (repeat k rs (at_depth (inner.depth + 1) (grouped m n inner.tree))) (branches k (n + own m + captures q) p) (branches_cons k (n + own m + captures q) p)

branches_groups : (k : Flags) (n : ℕ) (p : Syntax) → in_rows (branches k n p) ≡ groups_from n p
branches_groups k n end = refl
branches_groups k n (bar p) = branches_groups k n p
branches_groups k n (pass b p) = branches_groups k n p
branches_groups k n (set bs l p) =
    put_groups (at_depth 0 empty) (branches (apply l k) n p) (branches_cons (apply l k) n p) ∙ branches_groups (apply l k) n p
branches_groups k n (single s rs p) =
    put_groups (repeat k rs (single_part k s)) (branches k n p) (branches_cons k n p)
    ∙ ap₂ (λ gs hs. gs ++ hs) (repeat_groups k rs (single_part k s) ∙ single_groups k s) (branches_groups k n p)
branches_groups k n (group m q rs p) =
    let rows = branches (inside_flags m k) (n + own m) q in
    let inner = joined rows in
    let part = at_depth (inner.depth + 1) (grouped m n inner.tree) in
    let after = n + own m + captures q in
    put_groups (repeat k rs part) (branches k after p) (branches_cons k after p)
    ∙ ap₂ (λ gs hs. gs ++ hs)
    (repeat_groups k rs part ∙ grouped_groups m n inner.tree ∙ ap (λ gs. own_group m n ++ gs) (joined_groups rows ∙ branches_groups (inside_flags m k) (n + own m) q))
    (branches_groups k after p)

-- ---- their names

abbrev listed : Option (List ℕ) → List (List ℕ)
listed None = []
listed (Some name) = name ∷ []

abbrev names : List Group → List (List ℕ)
names [] = []
names (g ∷ gs) = listed g.1 ++ names gs

names_append : (gs hs : List Group) → names (gs ++ hs) ≡ names gs ++ names hs
names_append [] hs = refl
names_append (g ∷ gs) hs = ap (λ ns. listed g.1 ++ ns) (names_append gs hs) ∙ sym (append_assoc (listed g.1) (names gs) (names hs))

own_names : (m : Kind) (n : ℕ) → names (own_group m n) ≡ own_name m
own_names numbered n = refl
own_names (named bs p name) n = refl
own_names (flagged bs l) n = refl

from_names : (n : ℕ) (p : Syntax) → names (groups_from n p) ≡ names_of p
from_names n end = refl
from_names n (bar p) = from_names n p
from_names n (pass b p) = from_names n p
from_names n (set bs l p) = from_names n p
from_names n (single s rs p) = from_names n p
from_names n (group m q rs p) =
    let inner = groups_from (n + own m) q in
    let after = groups_from (n + own m + captures q) p in
    names_append (own_group m n ++ inner) after
    ∙ ap₂ (λ xs ys. xs ++ ys)
    (names_append (own_group m n) inner ∙ ap₂ (λ xs ys. xs ++ ys) (own_names m n) (from_names (n + own m) q)) (from_names (n + own m + captures q) p)

mutual
  tree_names : (tree : Tree) → map (λ named. named.0) (names_in tree) ≡ names (groups_in (with_sets tree))
  tree_names hir_tree.empty = refl
  tree_names (hir_tree.literal text) = refl
  tree_names (hir_tree.class_chars ranges) = refl
  tree_names (hir_tree.class_bytes ranges) = refl
  tree_names (hir_tree.look kind) = refl
  tree_names (hir_tree.repetition least most greedy part) = tree_names part
  tree_names (hir_tree.capture index None part) = tree_names part
  tree_names (hir_tree.capture index (Some name) part) = ap (λ ns. name ∷ ns) (tree_names part)
  tree_names (hir_tree.concat parts) = trees_names parts
  tree_names (hir_tree.alternation parts) = trees_names parts

  trees_names : (parts : Trees) → map (λ named. named.0) (names_in_each parts) ≡ names (groups_in_each (all_with_sets parts))
  trees_names hir_tree.none = refl
  trees_names (hir_tree.more part rest) =
      map-append (λ (named : List ℕ × ℕ). named.0) (names_in part) (names_in_each rest)
      ∙ ap₂ (λ xs ys. xs ++ ys) (tree_names part) (trees_names rest)
      ∙ sym (names_append (groups_in (with_sets part)) (groups_in_each (all_with_sets rest)))

-- ---- their numbers

abbrev AreUpTo : ℕ → List Group → Type 0
AreUpTo n [] = Unit {0}
AreUpTo n (g ∷ gs) = (g.0 ≤ n) × AreUpTo n gs

up_both : (n : ℕ) (gs hs : List Group) → AreUpTo n gs → AreUpTo n hs → AreUpTo n (gs ++ hs)
up_both n [] hs a b = b
up_both n (g ∷ gs) hs a b = (a.0, up_both n gs hs a.1 b)

up_left : (n : ℕ) (gs hs : List Group) → AreUpTo n (gs ++ hs) → AreUpTo n gs
up_left n [] hs a = tt
up_left n (g ∷ gs) hs a = (a.0, up_left n gs hs a.1)

up_right : (n : ℕ) (gs hs : List Group) → AreUpTo n (gs ++ hs) → AreUpTo n hs
up_right n [] hs a = a
up_right n (g ∷ gs) hs a = up_right n gs hs a.1

own_up : (m : Kind) (n to : ℕ) → n + own m ≤ to → AreUpTo to (own_group m n)
own_up numbered n to h = (h, tt)
own_up (named bs p name) n to h = (h, tt)
own_up (flagged bs l) n to h = tt

from_up : (n : ℕ) (p : Syntax) (to : ℕ) → n + captures p ≤ to → AreUpTo to (groups_from n p)
from_up n end to h = tt
from_up n (bar p) to h = from_up n p to h
from_up n (pass b p) to h = from_up n p to h
from_up n (set bs l p) to h = from_up n p to h
from_up n (single s rs p) to h = from_up n p to h
from_up n (group m q rs p) to h =
    up_both to (own_group m n ++ groups_from (n + own m) q) (groups_from (n + own m + captures q) p)
    (up_both to (own_group m n) (groups_from (n + own m) q) (own_up m n to (omega arith)) (from_up (n + own m) q to (omega arith)))
    (from_up (n + own m + captures q) p to (omega arith))

mutual
  tree_up : (n : ℕ) (tree : Tree) → AreUpTo n (groups_in (with_sets tree)) → groups_of_tree tree ≤ n
  tree_up n hir_tree.empty up = omega arith
  tree_up n (hir_tree.literal text) up = omega arith
  tree_up n (hir_tree.class_chars ranges) up = omega arith
  tree_up n (hir_tree.class_bytes ranges) up = omega arith
  tree_up n (hir_tree.look kind) up = omega arith
  tree_up n (hir_tree.repetition least most greedy part) up = tree_up n part up
  tree_up n (hir_tree.capture index name part) up = max-le up.0 (tree_up n part up.1)
  tree_up n (hir_tree.concat parts) up = trees_up n parts up
  tree_up n (hir_tree.alternation parts) up = trees_up n parts up

  trees_up : (n : ℕ) (parts : Trees) → AreUpTo n (groups_in_each (all_with_sets parts)) → greatest (groups_of_trees parts) ≤ n
  trees_up n hir_tree.none up = omega arith
  trees_up n (hir_tree.more part rest) up =
      let gs = groups_in (with_sets part) in
      let hs = groups_in_each (all_with_sets rest) in
      max-le (tree_up n part (up_left n gs hs up)) (trees_up n rest (up_right n gs hs up))

-- ---- the tree of what is read

module _ (k : Flags) (text : List ℕ) (found : Found) (read : Reads k text found) (tree : Tree) (is : with_sets tree ≡ found.part.tree) where
  read_groups : groups_in (with_sets tree) ≡ groups_from 0 read.syntax
  read_groups =
      ap groups_in (is ∙ ap (λ (found : Found). found.part.tree) read.read) ∙ joined_groups (branches k 0 read.syntax) ∙ branches_groups k 0 read.syntax

  -- the names of a reading are those in its tree, in their order
  pub read_names : map (λ named. named.0) (names_in tree) ≡ found.names
  read_names = tree_names tree ∙ ap names read_groups ∙ from_names 0 read.syntax ∙ sym (ap (λ (found : Found). found.names) read.read)

  -- the greatest number in the tree is at most how many groups are read
  pub read_numbers : groups_of_tree tree ≤ found.groups
  read_numbers =
      let up : AreUpTo (captures read.syntax) (groups_in (with_sets tree)) = subst (AreUpTo (captures read.syntax)) (sym read_groups) (from_up 0 read.syntax (captures read.syntax) (omega arith)) in
      subst (λ n. groups_of_tree tree ≤ n) (sym (ap (λ (found : Found). found.groups) read.read)) (tree_up (captures read.syntax) tree up)
