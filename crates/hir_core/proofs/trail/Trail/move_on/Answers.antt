use Rattle.std.specs.Prelude.{reverse}
use Rattle.hir_core.proofs.trail.TrailLemmas.{alternatives-anywhere}
use Rattle.hir_core.proofs.trail.Trail.move_on.Goals as goal

pub returns-clause-stops : goal.returns-clause-stops
returns-clause-stops c =
    alternatives-anywhere (reverse c.args.self.now.frames.items) c.args.self.now.at _ (reverse c.args.self.now.starts.items) c.args.self.now.groups.items
