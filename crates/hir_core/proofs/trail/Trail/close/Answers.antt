use Rattle.std.proofs.Common.{ap, ◌∙◌, None}
use Rattle.std.specs.Prelude.{slice_index_or}
use Rattle.hir_core.proofs.trail.TrailLemmas.{alternatives-ended}
use Rattle.hir_core.proofs.trail.Trail.close.Goals as goal

pub returns-in_ok-push-clause-stops : goal.returns-in_ok-push-clause-stops
returns-in_ok-push-clause-stops c =
    alternatives-ended c.args.self.now.frames.items c.push.new.self.items c.args.self.now.starts.items c.pop-start.new.self.items c.args.self.now.groups.items
    c.set_group.new.groups.items c.args.self.now.at c.args.index c.pop-start.result _ _ c.in_ok-push.ensures.items c.pop-start.ensures.items c.set_group.ensures
    (c.group-before.ensures ∙ ap (λ gs. slice_index_or gs c.args.index None) c.as_slice.ensures.value)
