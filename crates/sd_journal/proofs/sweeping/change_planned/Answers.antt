use Rattle.std.proofs.Common.{refl}
use Rattle.journal.specs.declared.fault.JournalFault.TheVariants as fault
use Rattle.journal.proofs.CauseLemmas.{told_on}
use Rattle.journal.proofs.MakingLemmas.{told_on_err}
use Rattle.journal.proofs.ClearingLemmas.{no_more_same}
use Rattle.journal.proofs.StagingLemmas.{free_same}
use Rattle.sd_journal.specs.Work.{changed_paths}
use Rattle.sd_journal.proofs.sweeping.SweepLemmas.{same_then}
use Rattle.sd_journal.proofs.sweeping.change_planned.Goals as goal

pub returns-in_err-paths-clause-kept : goal.returns-in_err-paths-clause-kept
returns-in_err-paths-clause-kept g c =
    λ told work below.
    let s = g.D.Disk.state c.args.disk.now in
    same_then s s (g.R.Replaces.change c.args.replacer.now) work c.args.root.now (changed_paths c.args.planned.now) below (record { tree = refl; clock = refl; outcomes = refl })

pub returns-in_err-paths-clause-fails : goal.returns-in_err-paths-clause-fails
returns-in_err-paths-clause-fails g c =
    let s = g.D.Disk.state c.args.disk.now in
    told_on _ c.from_residual.result _ c.from_residual.ensures.1 (fault.NoMemory, refl, λ told. free_same s.tree s.tree refl)

pub returns-in_err-paths-clause-pending : goal.returns-in_err-paths-clause-pending
returns-in_err-paths-clause-pending g c = λ told stands. told_on_err _ c.from_residual.result _ c.from_residual.ensures.1 (fault.NoMemory, refl, tt)

pub returns-in_err-paths-clause-unwritten : goal.returns-in_err-paths-clause-unwritten
returns-in_err-paths-clause-unwritten g c =
    λ told stands. let s = g.D.Disk.state c.args.disk.now in no_more_same s s (record { tree = refl; clock = refl; outcomes = refl })

pub returns-in_err-paths-clause-complete : goal.returns-in_err-paths-clause-complete
returns-in_err-paths-clause-complete g c = λ told work below room sound. told_on _ c.from_residual.result _ c.from_residual.ensures.1 (fault.NoMemory, refl, tt)

pub returns-in-Err-clause-fails : goal.returns-in-Err-clause-fails
returns-in-Err-clause-fails g c = (c.in-Err.fault, c.of_change.ensures, rw (c.deref.ensures.value, c.in_ok-paths.ensures, c.lines.ensures.lines) at c.in-Err.ensures.fails)

pub returns-in-Err-clause-pending : goal.returns-in-Err-clause-pending
returns-in-Err-clause-pending g c = λ told stands. (c.in-Err.fault, c.of_change.ensures, c.in-Err.ensures.pending told stands)

pub returns-in-Err-clause-complete : goal.returns-in-Err-clause-complete
returns-in-Err-clause-complete g c =
    λ told work below room sound. (c.in-Err.fault, c.of_change.ensures, (rw (c.deref.ensures.value, c.in_ok-paths.ensures, c.lines.ensures.lines) at c.in-Err.ensures.complete) told work below room sound)

pub returns-in_err-paths-clause-elsewhere : goal.returns-in_err-paths-clause-elsewhere
returns-in_err-paths-clause-elsewhere g c = λ told leads none sound. told_on _ c.from_residual.result _ c.from_residual.ensures.1 (fault.NoMemory, refl, tt)

pub returns-in-Err-clause-elsewhere : goal.returns-in-Err-clause-elsewhere
returns-in-Err-clause-elsewhere g c = λ told leads none sound. (c.in-Err.fault, c.of_change.ensures, c.in-Err.ensures.elsewhere told leads none sound)
