use Rattle.std.proofs.Common.{sym, subst}
use Rattle.sd_io.specs.Tree.{NameList}
use Rattle.sd_io.specs.Outcomes.{after_create}
use Rattle.mem_io.specs.Log.{IsKept, outcomes_after}
use Rattle.mem_io.specs.MemTreeView.{mem_tree}
use Rattle.mem_io.proofs.log.ChangeLemmas.{create_keeps}
use Rattle.mem_io.proofs.medium.MediumLemmas.{kept_after}
use Rattle.mem_io.proofs.medium.Medium.create.Goals as goal

pub invariant_of-self-2 : goal.invariant_of-self-2
invariant_of-self-2 c =
    let self = c.args.self.now in
    let now = mem_tree c.add.new.self in
    let kept = create_keeps (mem_tree self.tree) now c.args.place _ c.args.mode _ _ c.requires.is_place c.requires.free c.in_ok-add.ensures.added self.kept in
    record {
      kept = kept_after _ _ _ _ _ _ _ _ c.reserve.ensures.first c.note.ensures.first c.reserve.ensures.kept c.note.ensures.noted
          (subst (λ (q : NameList). IsKept now (after_create q (outcomes_after self.log.first_dev self.log.changes.items))) (sym c.in_ok-created.ensures) kept);
    }
