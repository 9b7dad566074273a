use Rattle.std.proofs.Common.{◌++◌, Some, ap, ◌∙◌}
use Rattle.std.specs.Prelude.{reverse}
use Rattle.std.specs.Option.{option_to_list}
use Rattle.hir_core.specs.Trails.{stops_of}
use Rattle.hir_core.proofs.trail.TrailLemmas.{comes-back}
use Rattle.hir_core.proofs.trail.Trail.come_back.Goals as goal

pub returns-in-Try : goal.returns-in-Try
returns-in-Try c =
    comes-back c.loop-frame.self.frames.items c.pop.new.self.items c.in-Try.spot c.in-Try.at c.loop-frame.self.at (reverse c.loop-frame.self.starts.items)
    c.loop-frame.self.groups.items (stops_of c.args.self.now)
    (c.pop.ensures.items ∙ ap (λ o. c.pop.new.self.items ++ option_to_list o) (c.in-Some.is ∙ ap Some c.in-Try.is)) c.loop-frame.invariant
