-- What stands at a place of a tree in memory: the top, or what is found in the entries.
use Rattle.std.proofs.Common.{◌≡◌, ◌≢◌, List, [], ◌∷◌, ◌++◌, refl, sym, ◌∙◌, ap, cond}
use Rattle.std.specs.Prelude.{Some}
use Rattle.std.specs.Ordering.{is_eq}
use Rattle.std.specs.Cmp.{IsTotalOrder}
use Rattle.std.proofs.lemmas.Cmp.{lists_total, nat_list_cmp_total}
use Rattle.std.specs.FinMap.{IsAntisymmetric, find, get-from_entries, slice_cmp-IsAntisymmetric, nat_cmp-IsAntisymmetric}
use Rattle.std.specs.Map.{lookup}
use Rattle.std.specs.BTreeMap.{is_at}
use Rattle.sd_io.specs.Tree.{Name, NameList, Node, name_list_cmp, node_at}
use Rattle.mem_io.specs.MemTree.{tree_of}

pub name_list_total : IsTotalOrder name_list_cmp
name_list_total = lists_total nat_list_cmp_total

-- only equal name lists tie
pub name_list_exact : IsAntisymmetric name_list_cmp
name_list_exact = slice_cmp-IsAntisymmetric (slice_cmp-IsAntisymmetric nat_cmp-IsAntisymmetric)

-- a finite map finds what a map of the program looks up
pub find-lookup : (q : NameList) (es : List (NameList × Node)) → find name_list_cmp q es ≡ lookup (is_at (name_list_cmp q)) es
find-lookup q [] = refl
find-lookup q (e ∷ es) = ap (cond (is_eq (name_list_cmp q e.0)) (Some e.1)) (find-lookup q es)

-- what stands at a place is the top, or what is looked up
pub node_at-tree_of : (top : Node) (es : List (NameList × Node)) (q : NameList) → node_at (tree_of top es) q ≡ cond (is_eq (name_list_cmp q [])) (Some top) (lookup (is_at (name_list_cmp q)) es)
unfolding tree_of
node_at-tree_of top es q = get-from_entries name_list_total (([], top) ∷ es) q ∙ ap (cond (is_eq (name_list_cmp q [])) (Some top)) (find-lookup q es)

pub node_at_top : (top : Node) (es : List (NameList × Node)) → node_at (tree_of top es) [] ≡ Some top
node_at_top top es = node_at-tree_of top es []

pub node_at_below : (top : Node) (es : List (NameList × Node)) (q : NameList) → q ≢ [] → node_at (tree_of top es) q ≡ lookup (is_at (name_list_cmp q)) es
node_at_below top es [] n = absurd (n refl)
node_at_below top es (name ∷ q) n = node_at-tree_of top es (name ∷ q)

not_top : (folder : NameList) (name : Name) → folder ++ name ∷ [] ≢ []
not_top [] name e = cc
not_top (first ∷ folder) name e = cc

-- what stands at a name in a folder is what is looked up
pub node_at_name : (top : Node) (es : List (NameList × Node)) (folder place : NameList) (name : Name) → place ≡ folder ++ name ∷ [] → node_at (tree_of top es) place ≡ lookup (is_at (name_list_cmp place)) es
node_at_name top es folder place name is = node_at_below top es place (λ e. not_top folder name (sym is ∙ e))
