-- How a sweep of what the rules don't ignore ends.
use Rattle.std.proofs.Common.{◌≡◌, ◌≤◌, ℕ, Bool, List, sym, subst, inl, inr, arith}
use Rattle.std.specs.Prelude.{IsTrue, Result, Ok, Err}
use Rattle.sd_io.specs.Count.{HasRisen}
use Rattle.sd_io.specs.Disk.{DiskState, SameTree}
use Rattle.sd_change.specs.Change.{Change}
use Rattle.sd_course.specs.Course.{Course, course}
use Rattle.sd_ignore.specs.declared.rule.Rule.{Rule}
use Rattle.chosen_files.specs.Choice.{KeepsLists}
use Rattle.chosen_files.specs.Globs.{IsFirstInvalid}
use Rattle.chosen_files.specs.Seen.{ListsOnlySeen}
use Rattle.many_files.specs.declared.report.Report.{Report}
use Rattle.many_files.specs.declared.fault.FilesFault.{FilesFault}
use Rattle.sd_core.specs.Ignoring.{SweepsKept}
use Rattle.sd_core.specs.Selection.{by_rules}
use Rattle.sd_core.specs.Sweep.{SelectingFails, IsClear, IsErrOrMemory, Sweeps, sweep_cap}
use Rattle.sd_core.specs.declared.error.Error.{Error}
use Rattle.sd_core.specs.declared.error.Error.TheVariants as error
use Rattle.sd_core.proofs.sweeping.SweepLemmas.{answered, refused_early}

pub refused : (change : Change) (root : List ℕ) (globs : List (List ℕ)) (rules : List Rule) (same_disk : Type 0) (tells : Bool) (s0 s1 : DiskState) (failed : Error)
    → SelectingFails (by_rules root globs rules) sweep_cap (course tells s0 s1) failed
    → ((place : ℕ) → IsFirstInvalid globs place → same_disk × IsErrOrMemory {A = Report} (error.BadGlob place) (Err failed))
    → SameTree s0 s1 → KeepsLists 10 s0 s1 → s0.faults ≤ s1.faults → (IsClear (by_rules root globs rules) sweep_cap (course tells s0 s1) → failed ≡ error.NoMemory)
    → SweepsKept change root globs rules same_disk (Err failed) (course tells s0 s1)
refused change root globs rules same_disk tells s0 s1 failed fails bad same lists low complete = record {
  sweeps = refused_early change (by_rules root globs rules) sweep_cap same_disk tells s0 s1 failed fails bad same lists low complete;
  only_seen = λ told none. tt;
}

-- the rewriting lists nothing
later : (before middle now : ℕ) → middle ≤ now → HasRisen before middle → HasRisen before now
later before middle now low (inl rose) = inl (omega arith)
later before middle now low (inr last) = inr (omega (arith, last, low))

pub swept : (change : Change) (root : List ℕ) (globs : List (List ℕ)) (rules : List Rule) (same_disk : Type 0) (tells : Bool) (s0 s1 s2 : DiskState) (r : Result Report FilesFault)
    → Sweeps change (by_rules root globs rules) sweep_cap same_disk (answered r) (course tells s0 s2) → s1.faults ≤ s2.faults → s2.listed ≡ s1.listed
    → (IsTrue tells → (HasRisen s0.faults s1.faults → ⊥) → ListsOnlySeen s0.tree root rules s0.listed s1.listed)
    → SweepsKept change root globs rules same_disk (answered r) (course tells s0 s2)
swept change root globs rules same_disk tells s0 s1 s2 (Ok report) sweeps low same seen = record {
  sweeps = sweeps;
  only_seen = λ told none. subst (λ n. ListsOnlySeen s0.tree root rules s0.listed n) (sym same) (seen told (λ rose. none (later s0.faults s1.faults s2.faults low rose)));
}
swept change root globs rules same_disk tells s0 s1 s2 (Err fault) sweeps low same seen = record { sweeps = sweeps; only_seen = λ told none. tt }

-- where the disk is the very value that was handed in, its state is the same
pub same_states : (change : Change) (root : List ℕ) (globs : List (List ℕ)) (rules : List Rule) (one other : Type 0) (result : Result Report Error) (d : Course DiskState) → (one → other)
    → SweepsKept change root globs rules one result d → SweepsKept change root globs rules other result d
same_states change root globs rules one other result d to kept =
    let s = kept.sweeps in
    record {
      sweeps = record {
        rewritten = s.rewritten;
        few = s.few;
        fails = s.fails;
        bad_glob = λ place at. (to (s.bad_glob place at).0, (s.bad_glob place at).1);
        however = s.however;
        crash = s.crash;
        durable = s.durable;
        lists = s.lists;
        never_falls = s.never_falls;
        complete = s.complete;
      };
      only_seen = kept.only_seen;
    }
