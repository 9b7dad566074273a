use Rattle.std.proofs.Common.{◌∙◌}
use Rattle.journal.proofs.FileLemmas.{not_ok, ok_same}
use Rattle.journal.proofs.ClearingLemmas.{stage_kept, stage_answered, stage_absent, stage_gone_after}
use Rattle.journal.proofs.clearing.remove_stage.Goals as goal
use Rattle.journal.proofs.clearing.remove_stage.Goals.{in_default, in_default-2}

pub returns-in-Err-Absent-clause-gone : goal.returns-in-Err-Absent-clause-gone
returns-in-Err-Absent-clause-gone g c =
    λ told folders.
    let is = g.met.D.Disk.is_tree c.args.disk.now told in
    stage_absent c.args.line.now (g.D.Disk.state c.args.disk.now) is folders c.as_str.result.now (c.as_str.ensures.same ∙ c.in_ok-stage.ensures) (g.D.Disk.state c.remove.new.self)
    (c.remove.ensures.absent told (rw c.in-Err-Absent.field-0-is at c.in-Err-Absent.is))

pub returns-clause-removed : goal.returns-clause-removed
returns-clause-removed g c =
    λ told folders.
    let is = g.met.D.Disk.is_tree c.args.disk.now told in
    stage_answered c.args.line.now (g.D.Disk.state c.args.disk.now) is folders c.as_str.result.now (c.as_str.ensures.same ∙ c.in_ok-stage.ensures) (g.D.Disk.state c.remove.new.self) c.remove.result
    (c.remove.ensures.removed told) c.remove.ensures.refused

pub returns-clause-gone : goal.returns-clause-gone
returns-clause-gone g c =
    λ told folders.
    let is = g.met.D.Disk.is_tree c.args.disk.now told in
    let gone = stage_gone_after c.args.line.now (g.D.Disk.state c.args.disk.now) is folders c.as_str.result.now (c.as_str.ensures.same ∙ c.in_ok-stage.ensures) (g.D.Disk.state c.remove.new.self) c.remove.result
    (c.remove.ensures.removed told) in
    elim c.match-remove.branch [ in_default w ↦ not_ok _ c.match-remove.result _ w.result-is | in_default-2 w ↦ ok_same _ c.remove.result c.match-remove.result w.result-is gone ]

pub returns-clause-tree : goal.returns-clause-tree
returns-clause-tree g c =
    λ told. stage_kept (g.D.Disk.state c.args.disk.now) (g.D.Disk.state c.remove.new.self) c.as_str.result.now c.remove.result (c.remove.ensures.removed told) c.remove.ensures.refused
