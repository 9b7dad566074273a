-- What the applying of a plan promises, by how it ends.
use Rattle.std.proofs.Common.{◌≡◌, ℕ, ◌≤◌, Bool, true, List, map, refl, sym, ap, subst, ◌∙◌, inl, arith}
use Rattle.std.specs.Prelude.{Option, Some, None, IsSome, IsTrue, is_some, Ok, Err, IsOk, All, sum_by}
use Rattle.std.specs.Option.{option_and_then}
use Rattle.std.proofs.lemmas.List.{length-map}
use Rattle.std.proofs.lemmas.List.Elements.{All-map, All-weaker}
use Rattle.sd_io.specs.Tree.{NameList, Tree, IsTree, node_at, file_at}
use Rattle.sd_io.specs.Paths.{reached}
use Rattle.sd_io.specs.Files.{file_of}
use Rattle.sd_io.specs.Disk.{DiskState, SameTree, SameLists}
use Rattle.sd_io.proofs.CrashLemmas.{since_same}
use Rattle.sd_change.specs.Change.{Change, IsOne}
use Rattle.sd_course.specs.Course.{course}
use Rattle.file_exchange.proofs.CauseLemmas.{risen_since}
use Rattle.file_rewrite.specs.Paths.{IsNoPath}
use Rattle.many_files.specs.Counts.{changed_by}
use Rattle.many_files.specs.Jobs.{Job, failed_of, end_of}
use Rattle.many_files.specs.InTurn.{ReplacesInTurn, CountsEnds, DoesFiles, FilesFail}
use Rattle.many_files.specs.OneFile.{OneEnd}
use Rattle.many_files.specs.Ends.{IsForMemory}
use Rattle.many_files.specs.Clear.{LeadsToFile, HasRoomBy, AreFilesClear}
use Rattle.many_files.specs.declared.report.Report.{Report}
use Rattle.many_files.specs.declared.fault.FilesFault.{FilesFault}
use Rattle.many_files.specs.declared.fault.FilesFault.TheVariants as files
use Rattle.many_files.proofs.ListedLemmas.{file_named}
use Rattle.many_files.proofs.MemberLemmas.{In}
use Rattle.sd_plan.specs.declared.line.PlanLine.{PlanLine}
use Rattle.planned_files.specs.Planned.{path_of}
use Rattle.planned_files.specs.Checked.{IsRight, IsStale, IsDifferent, IsNextAfterRight, CheckFails}
use Rattle.planned_files.specs.Applied.{LeadApart, CountsLines, AppliesApart, FailsApart, ApplyFails, IsApplyClear, IsApplyForMemory, Applies}
use Rattle.planned_files.specs.Faults.{of_files}
use Rattle.planned_files.specs.declared.fault.ApplyFault.{ApplyFault}
use Rattle.planned_files.specs.declared.fault.ApplyFault.TheVariants as fault
use Rattle.planned_files.proofs.applying.FileLemmas.{right_at}
use Rattle.planned_files.proofs.applying.ApartLemmas.{EndsApart, ends_apart, from_start, all_applied, applied_or_left}
use Rattle.planned_files.proofs.applying.ExactLemmas.{absent_isnt_right, stale_isnt_right, other_isnt_right, never_there, check_absent, check_stale, check_differs, check_for_memory}

-- ---- refused before anything is written

module _ (change : Change) (one : IsOne change) (tells : Bool) (lines : List PlanLine) (s0 s1 : DiskState) (same : SameTree s0 s1) where
  -- nothing stands otherwise
  as_before : (places : List NameList) (failed : ApplyFault) → FailsApart change lines places s0.tree s1.tree failed → AppliesApart change lines places (Err failed) s0 s1
  as_before places failed none = record {
    applied = tt;
    failed = none;
    however = λ q. inl (ap (λ (t : Tree). node_at t q) same.tree);
    crash = since_same _ _ s0 s1 same;
    durable = tt;
  }

  check_apart : (places : List NameList) (failed : ApplyFault) → CheckFails change lines (course tells s0 s1) failed → AppliesApart change lines places (Err failed) s0 s1
  check_apart places (fault.File failed) fails = as_before places (fault.File failed) tt
  check_apart places (fault.Stale path planned found) fails = as_before places (fault.Stale path planned found) tt
  check_apart places (fault.Differs path planned found) fails = as_before places (fault.Differs path planned found) tt
  check_apart places (fault.Failed jobs) fails = absurd fails.why
  check_apart places fault.NoMemory fails = as_before places fault.NoMemory tt

  as_refusal : (failed : ApplyFault) → CheckFails change lines (course tells s0 s1) failed → ApplyFails change lines (course tells s0 s1) failed
  as_refusal (fault.File failed) fails = (same, fails)
  as_refusal (fault.Stale path planned found) fails = (same, fails)
  as_refusal (fault.Differs path planned found) fails = (same, fails)
  as_refusal (fault.Failed jobs) fails = absurd fails.why
  as_refusal fault.NoMemory fails = (same, fails)

  pub check_refused : SameLists s0 s1 → s0.faults ≤ s1.faults → (failed : ApplyFault) → CheckFails change lines (course tells s0 s1) failed → Applies change lines (Err failed) (course tells s0 s1)
  check_refused lists low failed fails = record {
    done = tt;
    fails = as_refusal failed fails;
    apart = λ told places apart. check_apart places failed fails;
    absent = λ told calm line next. check_absent change one tells told s0 s1 calm lines failed fails line next;
    stale = λ told calm line found next. check_stale change one tells told s0 s1 calm lines failed fails line next found;
    differs = λ told calm line found next. check_differs change one tells told s0 s1 calm lines failed fails line next found;
    lists = lists;
    never_falls = low;
    complete = λ clear. check_for_memory change one tells clear.told s0 s1 clear.no_fault s1.tree lines clear.right failed fails;
  }

-- ---- all lines are right

-- a path that leads to a file names one
names_file : (tree : Tree) → IsTree tree → (path : List ℕ) → LeadsToFile tree path → IsNoPath path → ⊥
names_file tree is path leads none = by (reached tree path true) refl leads
  where
    by : (o : Option NameList) → reached tree path true ≡ o → IsSome (option_and_then (file_at tree) o) → ⊥
    by None e f = cc
    by (Some place) e f = file_named tree is path place e f none

module _ (change : Change) (one : IsOne change) (tells : Bool) (lines : List PlanLine) (s0 s1 s2 : DiskState) (same : SameTree s0 s1) (low : s0.faults ≤ s1.faults)
    (right : IsTrue tells → All (IsRight change s0.tree) lines) where
  -- nothing stands in the way of the rewriting either
  pub lines_clear : IsTree s0.tree → IsApplyClear change lines (course tells s0 s2) → AreFilesClear (map path_of lines) (course tells s1 s2)
  lines_clear is clear =
      let leads : All (LeadsToFile s0.tree) (map path_of lines) =
      All-map (LeadsToFile s0.tree) path_of lines
      (All-weaker (IsRight change s0.tree) (λ (line : PlanLine). LeadsToFile s0.tree line.path) (λ line here. ap is_some here.is_file) lines clear.right) in
      record {
        paths_name = All-weaker (LeadsToFile s0.tree) (λ path. IsNoPath path → ⊥) (names_file s0.tree is) (map path_of lines) leads;
        files = λ told. subst (λ (t : Tree). All (LeadsToFile t) (map path_of lines)) (sym same.tree) leads;
        room = λ told. subst (λ (t : Tree). All (HasRoomBy t) (map path_of lines)) (sym same.tree) (All-map (HasRoomBy s0.tree) path_of lines clear.room);
        no_fault = λ rose. clear.no_fault (risen_since s0.faults s1.faults s2.faults low rose);
      }

  -- the files of lines that lead apart
  module _ (told : IsTrue tells) (places : List NameList) (apart : LeadApart s0.tree (map path_of lines) places) (results : List OneEnd)
      (turn : ReplacesInTurn change (map path_of lines) results s1 s2) where
    ends : EndsApart change lines places results s0 s2
    ends =
        let all = subst (λ (t : Tree). All (IsRight change t) lines) (sym same.tree) (right told) in
        let lead = subst (λ (t : Tree). LeadApart t (map path_of lines) places) (sym same.tree) apart in
        from_start change lines places results s0 s1 s2 same
        (ends_apart change one lines places results s1 s2 (right_at change s1.tree lines places all lead.lead) lead.apart turn)

    done_apart : (report : Report) → All IsOk results → CountsEnds (map path_of lines) results report → AppliesApart change lines places (Ok report) s0 s2
    done_apart report all counted = record {
      applied = record {
        each = all_applied change s0.tree s2.tree lines places results all ends.ends;
        others = ends.others all;
        chosen = counted.chosen ∙ length-map lines path_of;
        counts =
            subst (λ (k : ℕ). CountsLines change s0.tree lines k report.replaced) (sym counted.changed)
            (subst (λ (k : ℕ). CountsLines change s0.tree lines (sum_by changed_by results) k) (sym counted.replaced) (ends.counts all));
      };
      failed = tt;
      however = ends.however;
      crash = ends.crash;
      durable = ends.durable all;
    }

    failed_apart : (jobs : List Job) → jobs ≡ failed_of (map path_of lines) (map end_of results) → AppliesApart change lines places (Err (fault.Failed jobs)) s0 s2
    failed_apart jobs are = record {
      applied = tt;
      failed = applied_or_left change s0.tree s2.tree jobs lines places results (λ failed i. subst (In failed) (sym are) i) ends.ends;
      however = ends.however;
      crash = ends.crash;
      durable = tt;
    }

  -- ---- where all lines are right, none of them is refused

  module _ (told : IsTrue tells) (line : PlanLine) (next : IsNextAfterRight change s0.tree lines line) where
    not_absent : file_of s0.tree line.path ≡ None → ⊥
    not_absent none = never_there change s0.tree lines line (right told) next (absent_isnt_right change s0.tree line none)

    not_stale : (found : List ℕ) → IsStale s0.tree line found → ⊥
    not_stale found stale = never_there change s0.tree lines line (right told) next (stale_isnt_right change s0.tree line found stale)

    not_different : (found : List ℕ) → IsDifferent change s0.tree line found → ⊥
    not_different found other = never_there change s0.tree lines line (right told) next (other_isnt_right change one s0.tree line found other)

  -- ---- all were rewritten, or some failed

  module _ (lists : SameLists s0 s2) (falls : s1.faults ≤ s2.faults) where
    pub all_rewritten : (report : Report) → DoesFiles change (map path_of lines) report (course tells s1 s2) → Applies change lines (Ok report) (course tells s0 s2)
    all_rewritten report does = record {
      done = record { right = right; checked = s1; same = same; low = low; done = does };
      fails = tt;
      apart = λ told places apart. done_apart told places apart does.results (does.in_turn told) report does.all does.counts;
      absent = λ told calm line next none. absurd (not_absent told line next none);
      stale = λ told calm line found next stale. absurd (not_stale told line next found stale);
      differs = λ told calm line found next other. absurd (not_different told line next found other);
      lists = lists;
      never_falls = omega arith;
      complete = λ clear. tt;
    }

    as_refused : (failed : FilesFault) → FilesFail change (map path_of lines) (course tells s1 s2) failed → ApplyFails change lines (course tells s0 s2) (of_files failed)
    as_refused (files.Failed jobs) fails = record { right = right; checked = s1; same = same; low = low; failed = fails }
    as_refused files.NoMemory unchanged = (subst (SameTree s0) (sym unchanged) same, tt)

    refused_apart : (failed : FilesFault) → FilesFail change (map path_of lines) (course tells s1 s2) failed → IsTrue tells → (places : List NameList)
        → LeadApart s0.tree (map path_of lines) places → AppliesApart change lines places (Err (of_files failed)) s0 s2
    refused_apart (files.Failed jobs) fails told places apart = failed_apart told places apart fails.results (fails.in_turn told) jobs fails.jobs_are
    refused_apart files.NoMemory unchanged told places apart =
        as_before change one tells lines s0 s2 (subst (SameTree s0) (sym unchanged) same) places fault.NoMemory tt

    for_memory : (failed : FilesFault) → IsForMemory s2.tree failed → IsApplyForMemory s2.tree (of_files failed)
    for_memory (files.Failed jobs) is = is
    for_memory files.NoMemory is = tt

    pub some_failed : (failed : FilesFault) → FilesFail change (map path_of lines) (course tells s1 s2) failed
        → (AreFilesClear (map path_of lines) (course tells s1 s2) → IsForMemory s2.tree failed) → (IsTrue tells → IsTree s0.tree)
        → Applies change lines (Err (of_files failed)) (course tells s0 s2)
    some_failed failed fails memory is = record {
      done = tt;
      fails = as_refused failed fails;
      apart = refused_apart failed fails;
      absent = λ told calm line next none. absurd (not_absent told line next none);
      stale = λ told calm line found next stale. absurd (not_stale told line next found stale);
      differs = λ told calm line found next other. absurd (not_different told line next found other);
      lists = lists;
      never_falls = omega arith;
      complete = λ clear. for_memory failed (memory (lines_clear (is clear.told) clear));
    }
