-- On an image each place has one outcome.
use Rattle.std.proofs.Common.{◌≡◌, ◌≢◌, [], ℕ, refl, sym, ◌∙◌, ap, inl, inr, map}
use Rattle.std.specs.Prelude.{Option, Some, None, option_map}
use Rattle.sd_io.specs.Tree.{NameList, Content, Node, Tree, SameBut, node_at}
use Rattle.sd_io.specs.Outcomes.{Outcomes, never_used, built, put}
use Rattle.mem_io.specs.Log.{at_first, new_top, outcomes_after, outcome_within, after_device}
use Rattle.mem_io.specs.MemTrail.{dev_within}
use Rattle.mem_io.specs.MemTree.{Adds, PutsDevice}
use Rattle.mem_io.specs.LogRoom.{TellsDevice}
use Rattle.mem_io.specs.Medium.{told_tree, first_of, changes_of, outcomes_told, NotesBuilt}
use Rattle.mem_io.specs.declared.medium.Medium.{Medium}
use Rattle.mem_io.specs.declared.log.Change.TheVariants as change
use Rattle.mem_io.proofs.log.ToldLemmas.{after_last}
use Rattle.mem_io.proofs.log.DeviceKeptLemmas.{device_node}
use Rattle.mem_io.proofs.log.TellingLemmas.{now_told}
use Rattle.mem_io.specs.Images.{alone_outcome, StandsAlone}
use Rattle.sd_io.proofs.OutcomeLemmas.{put_there, put_elsewhere}
use Rattle.mem_io.proofs.tree.TreeLemmas.{same_or_other}

pub alone_first : (tree : Tree) → node_at tree [] ≡ Some new_top → ((q : NameList) → q ≢ [] → node_at tree q ≡ None) → StandsAlone at_first tree
alone_first tree top others q = elim (same_or_other q []) [
  | inl e ↦ (λ i. at_first (e i)) ∙ ap alone_outcome (sym top) ∙ (λ i. alone_outcome (node_at tree (sym e i)))
  | inr n ↦ put_elsewhere [] (built new_top) (λ q. never_used) q n ∙ ap alone_outcome (sym (others q n))
]

-- a node is built
pub alone_more : (old new : Tree) (place : NameList) (node : Node) (outcomes : Outcomes) → StandsAlone outcomes old → SameBut place old new → node_at new place ≡ Some node → StandsAlone (put place (built node) outcomes) new
alone_more old new place node outcomes alone others stands q = elim (same_or_other q place) [
  | inl e ↦ (λ i. put place (built node) outcomes (e i)) ∙ put_there place (built node) outcomes ∙ ap alone_outcome (sym stands) ∙ (λ i. alone_outcome (node_at new (sym e i)))
  | inr n ↦ put_elsewhere place (built node) outcomes q n ∙ alone q ∙ ap alone_outcome (sym (others q n))
]

pub alone_built : (old new : Medium) (place : NameList) (content : Content) (ino : ℕ) → Adds (told_tree old) place content ino (told_tree new) → NotesBuilt old place new
    → StandsAlone (outcomes_told old) (told_tree old) → StandsAlone (outcomes_told new) (told_tree new)
alone_built old new place content ino adds notes alone q =
    (λ i. outcomes_after (notes.noted.first i) (notes.noted.noted i) q) ∙ (λ i. after_last (first_of old) (changes_of old) (change.Built place notes.node) i q)
    ∙ alone_more (told_tree old) (told_tree new) place notes.node (outcomes_told old) alone adds.others notes.stands q

-- ---- another device

alone_within : (place : NameList) (dev : ℕ) (q : NameList) (o : Option Node) → map (outcome_within place dev q) (alone_outcome o) ≡ alone_outcome (option_map (dev_within place dev q) o)
alone_within place dev q None = refl
alone_within place dev q (Some node) = refl

pub alone_put : (old new : Tree) (place : NameList) (dev : ℕ) (outcomes : Outcomes) → PutsDevice old place dev new → StandsAlone outcomes old → StandsAlone (after_device place dev outcomes) new
alone_put old new place dev outcomes puts alone q =
    ap (map (outcome_within place dev q)) (alone q) ∙ alone_within place dev q (node_at old q) ∙ ap alone_outcome (sym (device_node old new place dev puts q))

pub alone_device : (old new : Medium) (place : NameList) (dev : ℕ) → PutsDevice (told_tree old) place dev (told_tree new) → TellsDevice old.log place dev new.log
    → StandsAlone (outcomes_told old) (told_tree old) → StandsAlone (outcomes_told new) (told_tree new)
alone_device old new place dev puts tells alone q =
    (λ i. now_told place dev old.log new.log tells i q) ∙ alone_put (told_tree old) (told_tree new) place dev (outcomes_told old) puts alone q
