-- One outcome at each place.
use Rattle.std.proofs.Common.{◌≡◌, ℕ, List, sym, ◌∙◌, ap, subst, inl, inr}
use Rattle.std.specs.Prelude.{Option, Some, None}
use Rattle.std.proofs.lemmas.Option.{same_Some}
use Rattle.sd_io.specs.Tree.{NameList, Content, Node, Tree, node_at}
use Rattle.sd_io.specs.Outcomes.{Outcome, Outcomes, Leaves, built, put, content_of, content_at}
use Rattle.sd_io.specs.Disk.{DiskState, SameTree, outcomes_now}
use Rattle.sd_io.specs.Crashes.{IsSettledAt}
use Rattle.sd_io.proofs.OutcomeLemmas.{leaves_own}
use Rattle.mem_io.specs.MemTree.{PutsDevice, PutsDeviceAt}
use Rattle.mem_io.specs.Log.{at_first, after_device}
use Rattle.mem_io.specs.Images.{alone_outcome, StandsAlone, IsAsBuilt}
use Rattle.mem_io.specs.MemDisk.{mem_state, IsTopAlone, Builds, SetsDevice}
use Rattle.mem_io.specs.declared.disk.MemDisk.{MemDisk}
use Rattle.mem_io.proofs.crash.AloneLemmas.{alone_first, alone_more, alone_put}

pub first_alone : (disk : MemDisk) → IsTopAlone (mem_state disk).tree → outcomes_now (mem_state disk) ≡ at_first → IsAsBuilt (mem_state disk)
first_alone disk top first q = (λ i. first i q) ∙ alone_first (mem_state disk).tree top.top top.others q

-- other outcomes are told
told : (tree : Tree) (outcomes other : Outcomes) → outcomes ≡ other → StandsAlone other tree → StandsAlone outcomes tree
told tree outcomes other same alone q = (λ i. same i q) ∙ alone q

pub built_alone : (old new : MemDisk) (path : List ℕ) (content : Content) → Builds old path content new → IsAsBuilt (mem_state old) → IsAsBuilt (mem_state new)
built_alone old new path content b alone =
    told (mem_state new).tree (outcomes_now (mem_state new)) (put b.place (built b.node) (outcomes_now (mem_state old))) b.advances.now
    (alone_more (mem_state old).tree (mem_state new).tree b.place b.node (outcomes_now (mem_state old)) alone b.adds.others b.stands)

pub device_alone : (old new : DiskState) (path : List ℕ) (dev : ℕ) → PutsDeviceAt old.tree path dev new.tree → SetsDevice old path dev new → IsAsBuilt old → IsAsBuilt new
device_alone old new path dev p s alone =
    let there : PutsDevice old.tree s.place dev new.tree = subst (λ (q : NameList). PutsDevice old.tree q dev new.tree) (same_Some _ _ (sym p.leads ∙ s.leads)) p.puts in
    told new.tree (outcomes_now new) (after_device s.place dev (outcomes_now old)) ((λ i. new.outcomes (s.clock i)) ∙ s.outcomes old.clock) (alone_put old.tree new.tree s.place dev (outcomes_now old) there alone)

pub same_alone : (old new : DiskState) → SameTree old new → IsAsBuilt old → IsAsBuilt new
same_alone old new same alone q = (λ i. same.outcomes i (same.clock i) q) ∙ alone q ∙ ap (λ (t : Tree). alone_outcome (node_at t q)) (sym same.tree)

-- what stands alone is left
alone_leaves : (o : Option Node) (found : Option Content) → Leaves (alone_outcome o) found → found ≡ content_of o
alone_leaves None found (inl is) = is
alone_leaves None found (inr none) = absurd none
alone_leaves (Some node) found (inl is) = is
alone_leaves (Some node) found (inr none) = absurd none

pub alone_on_medium : (state : DiskState) → IsAsBuilt state → (place : NameList) (found : Option Content) → Leaves (outcomes_now state place) found → found ≡ content_at state.tree place
alone_on_medium state alone place found l = alone_leaves (node_at state.tree place) found (subst (λ (os : List Outcome). Leaves os found) (alone place) l)

pub alone_settled : (state : DiskState) → IsAsBuilt state → (place : NameList) → IsSettledAt state place
alone_settled state alone place found l = alone_on_medium state alone place found (leaves_own (outcomes_now state place) found l)
