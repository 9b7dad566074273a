use Rattle.std.proofs.Common.{sym, ◌∙◌, ap, cond}
use Rattle.mem_io.specs.MemTrail.{names_of}
use Rattle.mem_io.proofs.trail.TrailLemmas.{below_top}
use Rattle.mem_io.proofs.trail.DeviceLemmas.{begins_top}
use Rattle.mem_io.proofs.trail.dev_of_top.Goals as goal

pub returns-in-Below : goal.returns-in-Below
returns-in-Below c =
    sym (ap (λ b. cond b c.args.dev c.args.was) (begins_top (names_of c.args.trail.now) (below_top c.args.trail.now (λ e. cc (sym c.in-Below.is ∙ e)))))
