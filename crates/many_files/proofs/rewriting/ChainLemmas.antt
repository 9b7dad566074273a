-- Files that are rewritten in turn: one more at the end, and what is answered.
use Rattle.std.proofs.Common.{◌≡◌, ◌≢◌, ℕ, ◌≤◌, Bool, true, List, [], ◌∷◌, ◌++◌, ◌+◌, length, map, refl, sym, ◌∙◌, ap, subst}
use Rattle.std.specs.Prelude.{IsTrue, All, Option, Some, None, Result, Ok, Err, IsOk, IfOk, IfErr, OnOk, sum_by}
use Rattle.std.specs.List.{AllZip}
use Rattle.std.proofs.lemmas.List.Elements.{All-nil, All-cons}
use Rattle.std.proofs.lemmas.List.Sums.{sum_by_push}
use Rattle.sd_io.specs.Disk.{DiskState}
use Rattle.sd_io.specs.Crashes.{LeavesSince, IsDurable}
use Rattle.sd_change.specs.Change.{Change}
use Rattle.sd_course.specs.Course.{course}
use Rattle.file_rewrite.specs.Paths.{IsNoPath}
use Rattle.file_rewrite.specs.OneFile.{RewritesFile, LeavesFile, HasFileCause, IsNewAt, IsChangedAt, IsFirstFreeBy}
use Rattle.file_rewrite.specs.declared.fault.JobFault.{JobFault}
use Rattle.file_rewrite.specs.declared.fault.JobFault.TheVariants as job
use Rattle.many_files.specs.Jobs.{Job, failed_of, end_of, HaveCauses}
use Rattle.many_files.specs.Counts.{changed_by, replaced_by}
use Rattle.many_files.specs.declared.report.Report.{Report}
use Rattle.many_files.specs.declared.jobs.FailedJobs.{FailedJobs}
use Rattle.many_files.specs.declared.fault.FilesFault.{FilesFault}
use Rattle.many_files.specs.declared.fault.FilesFault.TheVariants as fault
use Rattle.many_files.specs.OneFile.{OneEnd, ReplacesOne}
use Rattle.many_files.proofs.rewriting.CauseLemmas.{HaveCausesSoFar}
use Rattle.many_files.proofs.rewriting.CrowdLemmas.{AreCrowded, crowded_out}
use Rattle.many_files.specs.InTurn.{ReplacesInTurn, TellsNoPath, CountsEnds, DoesFiles, FailsSome, FilesFail}

-- ---- one more

one_more : (change : Change) (paths : List (List ℕ)) (results : List OneEnd) (path : List ℕ) (result : OneEnd) (first mid new : DiskState)
    → ReplacesInTurn change paths results first mid → ReplacesOne change path result mid new
    → ReplacesInTurn change (paths ++ path ∷ []) (results ++ result ∷ []) first new
one_more change [] [] path result first mid new same one = (new, subst (λ at. ReplacesOne change path result at new) same one, refl)
one_more change [] (other ∷ results) path result first mid new none one = absurd none
one_more change (other ∷ paths) [] path result first mid new none one = absurd none
one_more change (other ∷ paths) (end ∷ results) path result first mid new (next, done, more) one =
    (next, done, one_more change paths results path result next mid new more one)

told_more : (paths : List (List ℕ)) (results : List OneEnd) (path : List ℕ) (result : OneEnd) → AllZip TellsNoPath paths results → TellsNoPath path result
    → AllZip TellsNoPath (paths ++ path ∷ []) (results ++ result ∷ [])
told_more [] [] path result all one = (one, tt)
told_more [] (other ∷ results) path result all one = absurd all
told_more (other ∷ paths) [] path result all one = absurd all
told_more (other ∷ paths) (end ∷ results) path result (first, all) one = (first, told_more paths results path result all one)

failed_first : (path : List ℕ) (end : Option JobFault) (paths paths_more : List (List ℕ)) (ends ends_more : List (Option JobFault)) (last : List Job)
    → failed_of paths_more ends_more ≡ failed_of paths ends ++ last → failed_of (path ∷ paths_more) (end ∷ ends_more) ≡ failed_of (path ∷ paths) (end ∷ ends) ++ last
failed_first path None paths paths_more ends ends_more last e = e
failed_first path (Some fault) paths paths_more ends ends_more last e = ap (λ (list : List Job). (path, fault) ∷ list) e

failed_more : (paths : List (List ℕ)) (results : List OneEnd) (path : List ℕ) (result : OneEnd) → AllZip TellsNoPath paths results
    → failed_of (paths ++ path ∷ []) (map end_of (results ++ result ∷ [])) ≡ failed_of paths (map end_of results) ++ failed_of (path ∷ []) (end_of result ∷ [])
failed_more [] [] path result all = refl
failed_more [] (other ∷ results) path result all = absurd all
failed_more (other ∷ paths) [] path result all = absurd all
failed_more (other ∷ paths) (end ∷ results) path result (first, all) =
    failed_first other (end_of end) paths (paths ++ path ∷ []) (map end_of results) (map end_of (results ++ result ∷ [])) (failed_of (path ∷ []) (end_of result ∷ []))
    (failed_more paths results path result all)

-- ---- none failed

none_of : (path : List ℕ) (end : Option JobFault) (paths : List (List ℕ)) (ends : List (Option JobFault)) → failed_of (path ∷ paths) (end ∷ ends) ≡ [] → (end ≡ None) × (failed_of paths ends ≡ [])
none_of path None paths ends e = (refl, e)
none_of path (Some fault) paths ends e = cc

is_done : (result : OneEnd) → end_of result ≡ None → IsOk result
is_done (Ok rewrite) e = refl
is_done (Err fault) e = cc

all_done : (paths : List (List ℕ)) (results : List OneEnd) → AllZip TellsNoPath paths results → failed_of paths (map end_of results) ≡ [] → All IsOk results
all_done [] [] all none = All-nil IsOk
all_done [] (other ∷ results) all none = absurd all
all_done (path ∷ paths) [] all none = absurd all
all_done (path ∷ paths) (end ∷ results) (first, all) none =
    let (here, rest) = none_of path (end_of end) paths (map end_of results) none in
    All-cons IsOk end results (is_done end here) (all_done paths results all rest)

-- ---- so far

-- The files so far were rewritten in turn, and these are the jobs.
pub record IsNamedSoFar (change : Change) (tells : Bool) (s0 s : DiskState) (done : List (List ℕ)) (jobs : List Job) (changed replaced : ℕ) : Type 0 where
  pub results : List OneEnd
  pub in_turn : IsTrue tells → ReplacesInTurn change done results s0 s
  pub told : AllZip TellsNoPath done results
  pub jobs_are : jobs ≡ failed_of done (map end_of results)
  pub changed_are : changed ≡ sum_by changed_by results
  pub replaced_are : replaced ≡ sum_by replaced_by results

pub none_named : (change : Change) (tells : Bool) (s : DiskState) (jobs : List Job) (changed replaced : ℕ) → jobs ≡ [] → changed ≡ 0 → replaced ≡ 0 → IsNamedSoFar change tells s s [] jobs changed replaced
none_named change tells s jobs changed replaced none c r = record { results = []; in_turn = λ told. refl; told = tt; jobs_are = none; changed_are = c; replaced_are = r }

-- one more job, by the path that the call was given
pub added_as : (more jobs : List Job) (path named : List ℕ) (result : OneEnd) → path ≡ named → more ≡ jobs ++ failed_of (named ∷ []) (end_of result ∷ [])
    → more ≡ jobs ++ failed_of (path ∷ []) (end_of result ∷ [])
added_as more jobs path named result same added = subst (λ (p : List ℕ). more ≡ jobs ++ failed_of (p ∷ []) (end_of result ∷ [])) (sym same) added

-- on a disk that tells its tree the cause is the told one
told_cause : (tells : Bool) (path : List ℕ) (old new : DiskState) (result : OneEnd) → tells ≡ true → IfErr result (HasFileCause (course tells old new) path) → IfErr result (HasFileCause (course true old new) path)
told_cause tells path old new result told cause = subst (λ (b : Bool). IfErr result (HasFileCause (course b old new) path)) told cause

pub more_named : (change : Change) (tells : Bool) (s0 s1 s2 : DiskState) (done : List (List ℕ)) (jobs more : List Job) (changed replaced now_changed now_replaced : ℕ)
    → IsNamedSoFar change tells s0 s1 done jobs changed replaced
    → (path : List ℕ) (result : OneEnd) → (IsNoPath path → result ≡ Err job.InvalidPath) → more ≡ jobs ++ failed_of (path ∷ []) (end_of result ∷ [])
    → now_changed ≡ changed + changed_by result → now_replaced ≡ replaced + replaced_by result
    → (IsTrue tells → ReplacesOne change path result s1 s2) → IsNamedSoFar change tells s0 s2 (done ++ path ∷ []) more now_changed now_replaced
more_named change tells s0 s1 s2 done jobs more changed replaced now_changed now_replaced so path result no_path added c r one = record {
  results = so.results ++ result ∷ [];
  in_turn = λ told. one_more change done so.results path result s0 s1 s2 (so.in_turn told) (one told);
  told = told_more done so.results path result so.told no_path;
  jobs_are =
      added ∙ ap (λ (list : List Job). list ++ failed_of (path ∷ []) (end_of result ∷ [])) so.jobs_are
      ∙ sym (failed_more done so.results path result so.told);
  changed_are = c ∙ ap (λ (n : ℕ). n + changed_by result) so.changed_are ∙ sym (sum_by_push changed_by so.results result);
  replaced_are = r ∙ ap (λ (n : ℕ). n + replaced_by result) so.replaced_are ∙ sym (sum_by_push replaced_by so.results result);
}

-- what the clauses of one file's rewriting say together
pub as_one : (change : Change) (tells : Bool) (path : List ℕ) (result : OneEnd) (old new : DiskState) → tells ≡ true → IfOk result (λ rewrite. RewritesFile change path rewrite old new)
    → IfErr result (λ fault. LeavesFile change path fault old new) → IfErr result (HasFileCause (course tells old new) path)
    → LeavesSince (IsNewAt change old.tree path) (IsFirstFreeBy old.tree path) old new → OnOk result (IsDurable (IsChangedAt change old.tree path) old new) → old.faults ≤ new.faults
    → ReplacesOne change path result old new
as_one change tells path result old new told rewritten left cause crash durable low = record {
  rewritten = rewritten;
  left = left;
  cause = told_cause tells path old new result told cause;
  crash = crash;
  durable = durable;
  never_falls = low;
}

-- ---- at the end

-- the report of what was done, where no job failed
abbrev pub IsReportOf : List Job → ℕ → ℕ → ℕ → Report → Type 0
IsReportOf jobs chosen changed replaced report = (jobs ≡ []) × (report ≡ record { chosen = chosen; changed = changed; replaced = replaced })

-- the fault that tells the jobs
abbrev pub TellsJobs : List Job → FilesFault → Type 0
TellsJobs jobs failed = (told : FailedJobs) × (failed ≡ fault.Failed told) × (told ≡ jobs) × (told ≢ [])

module _ (change : Change) (tells : Bool) (s0 s : DiskState) (done paths : List (List ℕ)) (jobs : List Job) (changed replaced : ℕ) (so : IsNamedSoFar change tells s0 s done jobs changed replaced)
    (whole : done ≡ paths) where
  -- the report of what was done
  done_so : (report : Report) → jobs ≡ [] → report ≡ record { chosen = length paths; changed = changed; replaced = replaced } → DoesFiles change paths report (course tells s0 s)
  done_so report none is =
      subst (λ (list : List (List ℕ)). DoesFiles change list report (course tells s0 s)) whole
      (record {
        results = so.results;
        in_turn = so.in_turn;
        told = so.told;
        all = all_done done so.results so.told (sym so.jobs_are ∙ none);
        counts = record {
          chosen = ap (λ (x : Report). x.chosen) is ∙ ap length (sym whole);
          changed = ap (λ (x : Report). x.changed) is ∙ so.changed_are;
          replaced = ap (λ (x : Report). x.replaced) is ∙ so.replaced_are;
        };
      })

  pub done_all : (result : Result Report FilesFault) (chosen : ℕ) → chosen ≡ length paths → IfOk result (IsReportOf jobs chosen changed replaced)
      → IfOk result (λ report. DoesFiles change paths report (course tells s0 s))
  done_all (Ok report) chosen all is = done_so report is.0 (subst (λ (n : ℕ). report ≡ record { chosen = n; changed = changed; replaced = replaced }) all is.1)
  done_all (Err failed) chosen all is = tt

  fails_so : HaveCausesSoFar tells s0 s jobs → (IsTrue tells → AreCrowded s0 s jobs) → (told : List Job) → told ≡ jobs → told ≢ [] → FailsSome change done (course tells s0 s) told
  fails_so have crowded told same some = record {
    results = so.results;
    in_turn = so.in_turn;
    told = so.told;
    jobs_are = same ∙ so.jobs_are;
    some = some;
    causes = subst (HaveCauses (course tells s0 s)) (sym same) (record { counted = have.counted; causes = have.causes; crowded = λ is_told. crowded_out tells s0 s jobs (crowded is_told) });
  }

  pub fails_all : HaveCausesSoFar tells s0 s jobs → (IsTrue tells → AreCrowded s0 s jobs) → (result : Result Report FilesFault) → IfErr result (TellsJobs jobs) → IfErr result (FilesFail change paths (course tells s0 s))
  fails_all have crowded (Ok report) is = tt
  fails_all have crowded (Err failed) (told, e, same, some) =
      subst (FilesFail change paths (course tells s0 s)) (sym e) (subst (λ (list : List (List ℕ)). FailsSome change list (course tells s0 s) told) whole (fails_so have crowded told same some))
