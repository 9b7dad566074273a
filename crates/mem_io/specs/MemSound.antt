-- What always holds of the nodes of a disk in memory.
use Rattle.std.specs.Prelude.{◌≡◌, ◌<◌, ℕ, Bool, false, List, [], Some, is_some}
use Rattle.std.specs.List.{IsDistinct-prop}
use Rattle.std.specs.List.Sorted.{IsStrictlySortedBy, IsStrictlySortedBy-prop}
use Rattle.std.specs.Map.{keys_of}
use Rattle.std.specs.FinMap.{find}
use Rattle.std.specs.Coded.{Coded-set, coded_bool, coded_list, coded_ℕ, le_prop}
use Rattle.sd_io.specs.Tree.{Name, NameList, Node, Tree, node_at, name_list_cmp, IsName, IsTree}
use Rattle.mem_io.specs.MemTree.{tree_of}

-- each node's inode number is below the next one, and no two nodes share one
pub record IsNumbered (tree : Tree) (next : ℕ) : Type 0 where
  pub below : (q : NameList) (n : Node) → node_at tree q ≡ Some n → n.ino < next
  pub apart : (p q : NameList) (m n : Node) → node_at tree p ≡ Some m → node_at tree q ≡ Some n → m.ino ≡ n.ino → p ≡ q

-- The tree that is told is one, and numbered; the places of the nodes below the top are strictly in order, and none is the top's.
pub record IsSound (top : Node) (nodes : List (NameList × Node)) (next : ℕ) : Type 0 where
  pub is_tree : IsTree (tree_of top nodes)
  pub numbered : IsNumbered (tree_of top nodes) next
  pub ordered : IsStrictlySortedBy name_list_cmp (keys_of nodes)
  pub no_top : is_some (find name_list_cmp [] nodes) ≡ false

-- ---- each has at most one proof

pub bool_equation_prop : (a b : Bool) → IsProp (a ≡ b)
bool_equation_prop = Coded-set coded_bool

place_equation_prop : (p q : NameList) → IsProp (p ≡ q)
place_equation_prop = Coded-set (coded_list (coded_list coded_ℕ))

never_prop : {A : Type 0} → IsProp (A → ⊥)
never_prop f g = λ i e. let same : f e ≡ g e = absurd (f e) in same i

pub IsName-prop : (name : Name) → IsProp (IsName name)
IsName-prop name a b = λ i. record {
  nonempty = never_prop a.nonempty b.nonempty i;
  no_slash = never_prop a.no_slash b.no_slash i;
  not_dot = never_prop a.not_dot b.not_dot i;
  not_dots = never_prop a.not_dots b.not_dots i;
}

IsNumbered-prop : (tree : Tree) (next : ℕ) → IsProp (IsNumbered tree next)
IsNumbered-prop tree next a b = λ i. record {
  below = λ q n s. le_prop (a.below q n s) (b.below q n s) i;
  apart = λ p q m n s t e. place_equation_prop p q (a.apart p q m n s t e) (b.apart p q m n s t e) i;
}

IsTree-prop : (tree : Tree) → IsProp (IsTree tree)
IsTree-prop tree a b = λ i. record {
  top = bool_equation_prop _ _ a.top b.top i;
  parents = λ f n s. bool_equation_prop _ _ (a.parents f n s) (b.parents f n s) i;
  names = λ f n s. IsName-prop n (a.names f n s) (b.names f n s) i;
  identities = λ p q m n s t x y d e. place_equation_prop p q (a.identities p q m n s t x y d e) (b.identities p q m n s t x y d e) i;
  order_once = λ f. IsDistinct-prop _ _ (a.order_once f) (b.order_once f) i;
  order_all = λ f n. bool_equation_prop _ _ (a.order_all f n) (b.order_all f n) i;
}

pub IsSound-prop : (top : Node) (nodes : List (NameList × Node)) (next : ℕ) → IsProp (IsSound top nodes next)
IsSound-prop top nodes next a b = λ i. record {
  is_tree = IsTree-prop _ a.is_tree b.is_tree i;
  numbered = IsNumbered-prop _ _ a.numbered b.numbered i;
  ordered = IsStrictlySortedBy-prop _ _ a.ordered b.ordered i;
  no_top = bool_equation_prop _ _ a.no_top b.no_top i;
}
