use Rattle.std.proofs.Common.{◌≡◌, sym, subst}
use Rattle.std.specs.Prelude.{Err}
use Rattle.sd_course.specs.Course.{course}
use Rattle.sd_journal.specs.Sweep.{SweepsJournalled}
use Rattle.sd_journal.specs.declared.error.JournalError.{JournalError}
use Rattle.sd_journal.proofs.sweeping.RefusedLemmas.{not_planned}
use Rattle.sd_journal.proofs.sweeping.SweepLemmas.{swept}
use Rattle.sd_journal.proofs.sweeping.sweep_journalled.Goals as goal

pub returns-in-Ok : goal.returns-in-Ok
returns-in-Ok g c =
    let change = g.R.Replaces.change c.args.replacer.now in
    let one = g.met.R.Replaces.one c.args.replacer.now in
    let s = g.D.Disk.state c.args.disk.now in
    let t = g.D.Disk.state c.plan.new.disk in
    let u = g.D.Disk.state c.change_planned.new.disk in
    let e = c.change_planned.ensures in
    swept change one c.args.root.now c.args.globs.now g.D.Disk.tells s t u (c.plan.new.disk ≡ c.args.disk.now) (c.change_planned.new.disk ≡ c.args.disk.now) c.in-Ok.planned
    (λ told. g.met.D.Disk.is_tree c.args.disk.now told) c.in-Ok.ensures c.change_planned.result e.kept e.changed e.tree e.no_directory e.counted e.fails e.pending e.unwritten e.complete e.elsewhere e.lists e.never_falls

pub returns-in-Err : goal.returns-in-Err
returns-in-Err g c =
    let change = g.R.Replaces.change c.args.replacer.now in
    let s = g.D.Disk.state c.args.disk.now in
    let t = g.D.Disk.state c.plan.new.disk in
    subst (λ (e : JournalError). SweepsJournalled change c.args.root.now c.args.globs.now (c.plan.new.disk ≡ c.args.disk.now) (Err e) (course g.D.Disk.tells s t)) (sym c.of_sweep.ensures)
    (not_planned change c.args.root.now c.args.globs.now g.D.Disk.tells s t (c.plan.new.disk ≡ c.args.disk.now) c.in-Err.refused c.in-Err.ensures)
