-- Each node of an image has the device of its outcome.
use Rattle.std.proofs.Common.{◌≡◌, ℕ, [], refl, sym, ◌∙◌, ap, true, append-nil}
use Rattle.std.specs.Prelude.{Option, Some, None, is_some, IsSome, option_map}
use Rattle.std.specs.Option.{option_map_or}
use Rattle.std.proofs.lemmas.Bool.{false≢true}
use Rattle.sd_io.specs.Tree.{NameList, Node, Tree, SameBut, node_at, is_directory_at, is_directory_node}
use Rattle.sd_io.specs.Outcomes.{Left, gone, this, any_file}
use Rattle.mem_io.specs.MemTree.{PutsDevice, dev_at}
use Rattle.mem_io.specs.MemTrail.{begins_with}
use Rattle.mem_io.specs.Log.{HasDeviceOf, crash_content}
use Rattle.mem_io.specs.Images.{SameDevicesOutside}
use Rattle.mem_io.specs.MemOutcome.{left_of}
use Rattle.mem_io.specs.declared.outcome.MemLeft.{MemLeft}
use Rattle.mem_io.specs.declared.outcome.MemLeft.TheVariants as mem
use Rattle.mem_io.proofs.trail.DeviceLemmas.{begins_more, begins_same}

-- the device of what may stand
abbrev dev_of : Option Node → ℕ
dev_of o = option_map_or (λ (node : Node). node.dev) o 0

-- where nothing is left no device counts
pub nothing_left : (left : Left) (dev : ℕ) → crash_content left ≡ None → HasDeviceOf left dev
nothing_left gone dev none = tt
nothing_left (this node) dev none = cc
nothing_left any_file dev none = tt

-- a node is left with its device
pub node_left : (left : MemLeft) (node : Node) (dev : ℕ) → left ≡ mem.This node → dev ≡ node.dev → HasDeviceOf (left_of left) dev
node_left mem.Gone node dev is same = cc
node_left (mem.This other) node dev is same = let one : node ≡ other = cc in same ∙ ap (λ (n : Node). n.dev) one
node_left mem.AnyFile node dev is same = cc

-- the top stands
pub top_stands : (tree : Tree) (place : NameList) → place ≡ [] → is_directory_at tree [] ≡ true → IsSome (node_at tree place)
top_stands tree place is top = (λ i. is_some (node_at tree (is i))) ∙ by (node_at tree []) top
  where
    by : (o : Option Node) → is_directory_node o ≡ true → is_some o ≡ true
    by None e = cc
    by (Some node) e = refl

-- the device that is put stands there
pub device_is_put : (old new : Tree) (place : NameList) (dev : ℕ) → PutsDevice old place dev new → IsSome (node_at old place) → dev_at new place ≡ dev
device_is_put old new place dev p stands =
    ap (λ q. dev_of (node_at new q)) (sym (append-nil place)) ∙ ap dev_of (p.within _) ∙ ap (λ q. dev_of (option_map (λ (node : Node). record node { dev = dev }) (node_at old q))) (append-nil place)
    ∙ by (node_at old place) stands
  where
    by : (o : Option Node) → IsSome o → dev_of (option_map (λ (node : Node). record node { dev = dev }) o) ≡ dev
    by None stands = cc
    by (Some node) stands = refl

pub same_outside : (place : NameList) (tree : Tree) → SameDevicesOutside place tree tree
same_outside place tree q e = refl

pub outside_then : (place : NameList) (r s t : Tree) → SameDevicesOutside place r s → SameDevicesOutside place s t → SameDevicesOutside place r t
outside_then place r s t a b q e = b q e ∙ a q e

-- where a node is added, and where one gets another device
pub outside_added : (place : NameList) (old new : Tree) → SameBut place old new → SameDevicesOutside place old new
outside_added place old new others q e = ap dev_of (others q (λ same. false≢true (sym e ∙ begins_same place q same)))

pub outside_put : (old new : Tree) (place : NameList) (dev : ℕ) → PutsDevice old place dev new → SameDevicesOutside place old new
outside_put old new place dev p q e = ap dev_of (p.others q (λ rest is. false≢true (sym e ∙ ap (begins_with place) is ∙ begins_more place rest)))
