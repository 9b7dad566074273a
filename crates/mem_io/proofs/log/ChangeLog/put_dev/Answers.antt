use Rattle.std.proofs.Common.{◌<◌, length, sym, ◌∙◌, ap, arith, set}
use Rattle.std.proofs.lemmas.List.Edits.{map_over_more}
use Rattle.mem_io.specs.MemTrail.{names_of}
use Rattle.mem_io.specs.Log.{change_within}
use Rattle.mem_io.proofs.log.ChangeLog.put_dev.Goals as goal

pub loop-change-preserved : goal.loop-change-preserved
loop-change-preserved c =
    let told = change_within (names_of c.args.trail.now) c.args.dev in
    let low : c.loop-change.change-index < length c.deref_mut-change-items.result.now = omega arith in
    ap (set c.loop-change.change-items c.loop-change.change-index) (c.put_dev.ensures ∙ ap told (sym c.change-item.is))
    ∙ map_over_more told _ _ _ c.change-item.result low c.loop-change.invariant c.change-item.is
