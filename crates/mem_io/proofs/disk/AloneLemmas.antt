-- The tree of a new disk in memory.
use Rattle.std.proofs.Common.{◌≡◌, List, [], ◌∙◌, ap, refl}
use Rattle.std.specs.Prelude.{Some, map}
use Rattle.sd_io.specs.Tree.{NameList, Node, directory, node_at}
use Rattle.mem_io.specs.MemTree.{tree_of, listing}
use Rattle.mem_io.specs.MemDisk.{IsTopAlone}
use Rattle.mem_io.proofs.tree.EntryLemmas.{node_at_top, node_at_below}
use Rattle.mem_io.proofs.tree.ListingLemmas.{name_of}
use Rattle.mem_io.proofs.tree.ListedLemmas.{order_is}

-- without entries no folder has a listing
no_listing : (folder : NameList) → map name_of (listing folder []) ≡ []
unfolding listing
no_listing folder = refl

-- without nodes below it the top stands alone
pub top_is_alone : (top : Node) (nodes : List (NameList × Node)) → top ≡ record { content = directory; dev = 1; ino = 1 } → nodes ≡ [] → IsTopAlone (tree_of top nodes)
top_is_alone top nodes is none = record {
  top = node_at_top top nodes ∙ ap (λ (n : Node). Some n) is;
  others = λ q below. ap (λ (es : List (NameList × Node)). node_at (tree_of top es) q) none ∙ node_at_below top [] q below;
  orders = λ folder. order_is top nodes folder ∙ ap (λ (es : List (NameList × Node)). map name_of (listing folder es)) none ∙ no_listing folder;
}
