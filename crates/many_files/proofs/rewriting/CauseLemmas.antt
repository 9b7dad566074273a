-- Why named files failed, told by the tree at the start.
use Rattle.std.proofs.Common.{◌≡◌, ◌⊎◌, ℕ, ◌+◌, ◌≤◌, Bool, true, false, cond, List, [], ◌∷◌, ◌++◌, refl, sym, ap, subst, inl, inr, arith}
use Rattle.std.specs.Prelude.{None, is_none, IsTrue, All, sum_by, Result, Ok, Err, IfOk, IfErr, ◌&&◌}
use Rattle.std.proofs.lemmas.List.{append-nil}
use Rattle.std.proofs.lemmas.List.Sums.{sum_by_push}
use Rattle.std.proofs.lemmas.List.Elements.{All-nil, All-push, All-weaker}
use Rattle.sd_io.specs.Count.{HasRisen}
use Rattle.sd_io.specs.Files.{file_of}
use Rattle.sd_io.specs.Disk.{DiskState}
use Rattle.sd_io.specs.declared.fault.DiskFault.{DiskFault}
use Rattle.sd_io.specs.declared.fault.DiskFault.TheVariants as disk
use Rattle.sd_change.specs.Change.{Change}
use Rattle.sd_course.specs.Course.{course, HasRisenBy}
use Rattle.file_exchange.specs.Reserved.{reserved_names}
use Rattle.file_exchange.proofs.CauseLemmas.{risen_since}
use Rattle.file_rewrite.specs.OneFile.{RewritesFile, LeavesFile, HasFileCause}
use Rattle.file_rewrite.specs.declared.rewrite.Rewrite.{Rewrite}
use Rattle.file_rewrite.specs.declared.fault.JobFault.{JobFault}
use Rattle.file_rewrite.specs.declared.fault.JobFault.TheVariants as job
use Rattle.many_files.specs.Jobs.{Job, failed_of, end_of, faults_needed, HasJobCause}
use Rattle.many_files.proofs.rewriting.KeepLemmas.{KeepsAll, keeps_itself, keeps_then, one_keeps, still_none}

-- ---- why jobs failed

-- So far each job has its cause, the count rose by as many faults as they need, and ways stay.
pub record HaveCausesSoFar (tells : Bool) (s0 s : DiskState) (jobs : List Job) : Type 0 where
  pub counted : HasRisenBy (sum_by (faults_needed tells s0.tree) jobs) s0.faults s.faults
  pub causes : All (HasJobCause (course tells s0 s)) jobs
  pub keeps : IsTrue tells → KeepsAll s0.tree s.tree

pub no_causes : (tells : Bool) (s : DiskState) (jobs : List Job) → jobs ≡ [] → HaveCausesSoFar tells s s jobs
no_causes tells s jobs none =
    subst (HaveCausesSoFar tells s s) (sym none) (record { counted = inl (omega arith); causes = All-nil (HasJobCause (course tells s s)); keeps = λ told. keeps_itself s.tree })

pub risen_then : (a b c : ℕ) → b ≤ c → HasRisen a b → HasRisen a c
risen_then a b c low (inl rose) = inl (omega arith)
risen_then a b c low (inr last) = inr (omega arith)

risen_by_then : (n a b c : ℕ) → b ≤ c → HasRisenBy n a b → HasRisenBy n a c
risen_by_then n a b c low (inl rose) = inl (omega arith)
risen_by_then n a b c low (inr last) = inr (omega arith)

rises_by : (m n a b c : ℕ) → b ≤ c → HasRisenBy m a b → HasRisenBy n b c → HasRisenBy (m + n) a c
rises_by m n a b c low (inl first) (inl second) = inl (omega arith)
rises_by m n a b c low (inl first) (inr last) = inr last
rises_by m n a b c low (inr last) second = inr (omega arith)

once : (a b : ℕ) → HasRisen a b → HasRisenBy 1 a b
once a b (inl rose) = inl (omega arith)
once a b (inr last) = inr last

once_unless : (skip : Bool) (a b : ℕ) → a ≤ b → (skip ≡ true) ⊎ HasRisenBy 1 a b → HasRisenBy (cond skip 0 1) a b
once_unless true a b low rose = inl (omega arith)
once_unless false a b low (inl e) = cc
once_unless false a b low (inr rose) = rose

both_true : (a b : Bool) → a ≡ true → b ≡ true → (a && b) ≡ true
both_true true b e f = f
both_true false b e f = cc

module _ (tells : Bool) (s0 s1 s2 : DiskState) (low : s0.faults ≤ s1.faults) (lower : s1.faults ≤ s2.faults) where
  -- a cause stays
  later_cause : (failed : Job) → HasJobCause (course tells s0 s1) failed → HasJobCause (course tells s0 s2) failed
  later_cause (path, job.File disk.Absent) cause = (cause.0, λ untold. risen_then s0.faults s1.faults s2.faults lower (cause.1 untold))
  later_cause (path, job.File disk.Taken) cause = cause
  later_cause (path, job.File disk.Failed) cause = risen_then s0.faults s1.faults s2.faults lower cause
  later_cause (path, job.File disk.NoMemory) cause = cause
  later_cause (path, job.TempfilePersist disk.Absent) cause = (cause.0, λ untold. risen_then s0.faults s1.faults s2.faults lower (cause.1 untold))
  later_cause (path, job.TempfilePersist disk.Taken) cause = cause
  later_cause (path, job.TempfilePersist disk.Failed) cause = risen_then s0.faults s1.faults s2.faults lower cause
  later_cause (path, job.TempfilePersist disk.NoMemory) cause = cause
  later_cause (path, job.InvalidPath) cause = cause
  later_cause (path, job.TempName) cause = tt
  later_cause (path, job.NoMemory) cause = tt

  module _ (path : List ℕ) (none_before : IsTrue tells → file_of s1.tree path ≡ None → file_of s0.tree path ≡ None) where
    -- the cause of one file is that of its job
    job_cause : (fault : JobFault) → HasFileCause (course tells s1 s2) path fault → HasJobCause (course tells s0 s2) (path, fault)
    job_cause (job.File disk.Absent) cause = ((λ told. none_before told (cause.0 told)), (λ untold. risen_since s0.faults s1.faults s2.faults low (cause.1 untold)))
    job_cause (job.File disk.Taken) cause = cause
    job_cause (job.File disk.Failed) cause = risen_since s0.faults s1.faults s2.faults low cause
    job_cause (job.File disk.NoMemory) cause = cause
    job_cause (job.TempfilePersist disk.Absent) cause = (cause.0, (λ untold. risen_since s0.faults s1.faults s2.faults low (cause.1 untold)))
    job_cause (job.TempfilePersist disk.Taken) cause = cause
    job_cause (job.TempfilePersist disk.Failed) cause = risen_since s0.faults s1.faults s2.faults low cause
    job_cause (job.TempfilePersist disk.NoMemory) cause = cause
    job_cause job.InvalidPath cause = cause
    job_cause job.TempName cause = tt
    job_cause job.NoMemory cause = tt

    -- one thing or the other is known
    by_tells : {P : Type 0} (b : Bool) → tells ≡ b → (IsTrue tells → P) → (tells ≡ false → P) → P
    by_tells true e told untold = told e
    by_tells false e told untold = untold e

    file_once : (fault : DiskFault) → HasFileCause (course tells s1 s2) path (job.File fault) → ((tells && is_none (file_of s0.tree path)) ≡ true) ⊎ HasRisenBy 1 s1.faults s2.faults
    file_once disk.Absent cause =
        by_tells tells refl (λ told. inl (both_true tells (is_none (file_of s0.tree path)) told (ap is_none (none_before told (cause.0 told))))) (λ untold. inr (once s1.faults s2.faults (cause.1 untold)))
    file_once disk.Taken cause = absurd cause
    file_once disk.Failed cause = inr (once s1.faults s2.faults cause)
    file_once disk.NoMemory cause = absurd cause

    move_once : (fault : DiskFault) → HasFileCause (course tells s1 s2) path (job.TempfilePersist fault) → HasRisenBy 1 s1.faults s2.faults
    move_once disk.Absent cause = by_tells tells refl (λ told. absurd (cause.0 told)) (λ untold. once s1.faults s2.faults (cause.1 untold))
    move_once disk.Taken cause = absurd cause
    move_once disk.Failed cause = once s1.faults s2.faults cause
    move_once disk.NoMemory cause = absurd cause

    names_counted : (b : Bool) → tells ≡ b → HasFileCause (course tells s1 s2) path job.TempName → HasRisenBy (cond b 0 reserved_names) s1.faults s2.faults
    names_counted true e cause = inl (omega arith)
    names_counted false e cause = cause.1 e

    needed : (fault : JobFault) → HasFileCause (course tells s1 s2) path fault → HasRisenBy (faults_needed tells s0.tree (path, fault)) s1.faults s2.faults
    needed (job.File fault) cause = once_unless (tells && is_none (file_of s0.tree path)) s1.faults s2.faults lower (file_once fault cause)
    needed (job.TempfilePersist fault) cause = move_once fault cause
    needed job.InvalidPath cause = inl (omega arith)
    needed job.TempName cause = names_counted tells refl cause
    needed job.NoMemory cause = inl (omega arith)

more_causes_of : (tells : Bool) (s0 s1 s2 : DiskState) → s0.faults ≤ s1.faults → s1.faults ≤ s2.faults → (IsTrue tells → KeepsAll s1.tree s2.tree) → (jobs : List Job) → HaveCausesSoFar tells s0 s1 jobs
    → (path : List ℕ) (result : Result Rewrite JobFault) → IfErr result (HasFileCause (course tells s1 s2) path) → HaveCausesSoFar tells s0 s2 (jobs ++ failed_of (path ∷ []) (end_of result ∷ []))
more_causes_of tells s0 s1 s2 low lower keeps jobs before path (Ok rewrite) cause =
    subst (HaveCausesSoFar tells s0 s2) (sym (append-nil jobs)) (record {
      counted = risen_by_then (sum_by (faults_needed tells s0.tree) jobs) s0.faults s1.faults s2.faults lower before.counted;
      causes = All-weaker (HasJobCause (course tells s0 s1)) (HasJobCause (course tells s0 s2)) (later_cause tells s0 s1 s2 low lower) jobs before.causes;
      keeps = λ told. keeps_then s0.tree s1.tree s2.tree (before.keeps told) (keeps told);
    })
more_causes_of tells s0 s1 s2 low lower keeps jobs before path (Err fault) cause =
    let none_before = λ (told : IsTrue tells) (none : file_of s1.tree path ≡ None). still_none s0.tree s1.tree path (before.keeps told) none in
    record {
      counted =
          subst (λ (k : ℕ). HasRisenBy k s0.faults s2.faults) (sym (sum_by_push (faults_needed tells s0.tree) jobs (path, fault)))
          (rises_by (sum_by (faults_needed tells s0.tree) jobs) (faults_needed tells s0.tree (path, fault)) s0.faults s1.faults s2.faults lower before.counted
          (needed tells s0 s1 s2 low lower path none_before fault cause));
      causes =
          All-push (HasJobCause (course tells s0 s2)) jobs (path, fault)
          (All-weaker (HasJobCause (course tells s0 s1)) (HasJobCause (course tells s0 s2)) (later_cause tells s0 s1 s2 low lower) jobs before.causes)
          (job_cause tells s0 s1 s2 low lower path none_before fault cause);
      keeps = λ told. keeps_then s0.tree s1.tree s2.tree (before.keeps told) (keeps told);
    }

pub more_causes : (change : Change) (tells : Bool) (s0 s1 s2 : DiskState) → s0.faults ≤ s1.faults → s1.faults ≤ s2.faults → (jobs more : List Job) → HaveCausesSoFar tells s0 s1 jobs
    → (path : List ℕ) (result : Result Rewrite JobFault) → more ≡ jobs ++ failed_of (path ∷ []) (end_of result ∷ []) → (IsTrue tells → IfOk result (λ rewrite. RewritesFile change path rewrite s1 s2))
    → (IsTrue tells → IfErr result (λ fault. LeavesFile change path fault s1 s2)) → IfErr result (HasFileCause (course tells s1 s2) path) → HaveCausesSoFar tells s0 s2 more
more_causes change tells s0 s1 s2 low lower jobs more before path result added rewritten left cause =
    subst (HaveCausesSoFar tells s0 s2) (sym added)
    (more_causes_of tells s0 s1 s2 low lower (λ told. one_keeps change path result s1 s2 (rewritten told) (left told)) jobs before path result cause)
