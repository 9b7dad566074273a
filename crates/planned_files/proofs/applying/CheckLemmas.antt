-- Lines that are checked one by one.
use Rattle.std.proofs.Common.{◌≡◌, ℕ, ◌+◌, ◌<◌, ◌≤◌, Bool, List, ◌∷◌, ◌++◌, take, drop, length, get_or, sym, ap, subst, ◌∙◌}
use Rattle.std.specs.Prelude.{IsTrue, All}
use Rattle.std.proofs.lemmas.List.{drop_more, take-append-drop}
use Rattle.sd_io.specs.Tree.{Tree}
use Rattle.sd_io.specs.Disk.{DiskState, SameTree}
use Rattle.sd_change.specs.Change.{Change}
use Rattle.sd_course.specs.Course.{course}
use Rattle.sd_plan.specs.declared.line.PlanLine.{PlanLine}
use Rattle.planned_files.specs.Checked.{IsRight, IsStale, IsDifferent, LineFails, FailsFirst, CheckFails}
use Rattle.planned_files.specs.declared.fault.ApplyFault.{ApplyFault}
use Rattle.planned_files.specs.declared.fault.ApplyFault.TheVariants as fault
use Rattle.planned_files.proofs.planning.PlanLemmas.{file_fault_since}

module _ (change : Change) (tells : Bool) (s0 s1 s2 : DiskState) (same : SameTree s0 s1) (low : s0.faults ≤ s1.faults) where
  -- why a line fails, told from the start
  line_fails_since : (line : PlanLine) (failed : ApplyFault) → LineFails change line (course tells s1 s2) failed → LineFails change line (course tells s0 s2) failed
  line_fails_since line (fault.File failed) why = file_fault_since tells s0 s1 s2 same low line.path failed why
  line_fails_since line (fault.Stale path planned found) why = record {
    path_is = why.path_is;
    planned_is = why.planned_is;
    differ = why.differ;
    told = λ told. subst (λ (t : Tree). IsStale t line found) same.tree (why.told told);
  }
  line_fails_since line (fault.Differs path planned found) why = record {
    path_is = why.path_is;
    planned_is = why.planned_is;
    differ = why.differ;
    told = λ told. subst (λ (t : Tree). IsDifferent change t line found) same.tree (why.told told);
  }
  line_fails_since line (fault.Failed jobs) why = why
  line_fails_since line fault.NoMemory why = tt

  -- the line at a place fails, and those before it are right
  module _ (lines : List PlanLine) (i : ℕ) (line : PlanLine) (lt : i < length lines) (read : line ≡ get_or lines i line)
      (right : IsTrue tells → All (IsRight change s0.tree) (take i lines)) where
    fails_at : (failed : ApplyFault) → LineFails change line (course tells s1 s2) failed → FailsFirst change lines (course tells s0 s2) failed
    fails_at failed why = record {
      earlier = take i lines;
      line = line;
      later = drop (i + 1) lines;
      lines_are =
          sym (take-append-drop i lines) ∙ ap (λ (rest : List PlanLine). take i lines ++ rest) (drop_more lines i line lt ∙ (λ j. sym read j ∷ drop (i + 1) lines));
      right = right;
      why = line_fails_since line failed why;
    }

    pub check_fails : (failed : ApplyFault) → LineFails change line (course tells s1 s2) failed → CheckFails change lines (course tells s0 s2) failed
    check_fails (fault.File failed) why = fails_at (fault.File failed) why
    check_fails (fault.Stale path planned found) why = fails_at (fault.Stale path planned found) why
    check_fails (fault.Differs path planned found) why = fails_at (fault.Differs path planned found) why
    check_fails (fault.Failed jobs) why = absurd why
    check_fails fault.NoMemory why = tt
