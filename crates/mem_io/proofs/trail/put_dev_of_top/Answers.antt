use Rattle.std.proofs.Common.{sym, ap, cond}
use Rattle.mem_io.specs.MemTrail.{names_of}
use Rattle.mem_io.proofs.trail.TrailLemmas.{below_top}
use Rattle.mem_io.proofs.trail.DeviceLemmas.{begins_top}
use Rattle.mem_io.proofs.trail.put_dev_of_top.Goals as goal

pub returns-in_default : goal.returns-in_default
returns-in_default c =
    let top = c.args.top.now in
    sym (ap (λ b. cond b (record top { dev = c.args.dev }) top) (begins_top (names_of c.args.trail.now) (below_top c.args.trail.now c.in_default.not-Top)))
