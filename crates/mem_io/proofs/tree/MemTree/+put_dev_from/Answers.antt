use Rattle.std.proofs.Common.{sym, ap}
use Rattle.mem_io.specs.MemTreeView.{mem_tree}
use Rattle.mem_io.specs.MemNode.{now_of}
use Rattle.mem_io.specs.MemTrail.{names_of}
use Rattle.mem_io.proofs.trail.TrailLemmas.{next_part}
use Rattle.mem_io.proofs.trail.DeviceLemmas.{device_down}
use Rattle.mem_io.proofs.tree.MemTree.+put_dev_from.Goals as goal

pub returns-clause-put : goal.returns-clause-put
returns-clause-put t c = λ stands.
    let parts = next_part (now_of c.args.rest) (now_of c.cut.result.1) c.in-Some.path.now c.cut.result.0.now (ap now_of c.in-Some.is) c.cut.ensures.pieces (sym c.if-is_dropped.ensures) in
    device_down (mem_tree c.args.self.now) _ c.args.log.now _ (names_of c.args.trail.now) _ _ c.cut.result.0.now c.args.dev (sym c.if-not-is_directory_on.ensures) (sym c.if-eq.ensures) parts (c.put_dev_from-2.ensures.put stands)
