-- Where nothing stands in the way of named files, they fail for want of memory alone.
use Rattle.std.proofs.Common.{◌≡◌, ◌⊎◌, ℕ, ◌≤◌, ◌<◌, Bool, true, false, cond, List, [], ◌∷◌, ◌++◌, map, refl, sym, ◌∙◌, ap, subst, inl, inr, arith}
use Rattle.std.specs.Prelude.{Option, Some, None, IsTrue, All, Contains, sum_by, Result, Ok, Err, IfErr}
use Rattle.std.proofs.lemmas.Bool.{cases_Bool}
use Rattle.std.proofs.lemmas.List.Sums.{sum_by-append, sum_by-cons}
use Rattle.std.proofs.lemmas.List.Elements.{All-nil, All-cons, All-weaker, All-contains, Contains-append_right}
use Rattle.std.proofs.lemmas.Option.{same_Some}
use Rattle.sd_io.specs.Count.{HasRisen}
use Rattle.sd_io.specs.Tree.{NameList, node_at}
use Rattle.sd_io.specs.Paths.{reached, parent_of}
use Rattle.sd_io.specs.Files.{file_of}
use Rattle.sd_io.specs.Disk.{DiskState}
use Rattle.sd_io.specs.declared.fault.DiskFault.TheVariants as disk
use Rattle.sd_change.specs.Change.{Change}
use Rattle.sd_course.specs.Course.{course, HasRisenBy}
use Rattle.file_exchange.specs.Reserved.{Free, reserved_names}
use Rattle.file_rewrite.specs.Paths.{IsNoPath}
use Rattle.file_rewrite.specs.declared.fault.JobFault.{JobFault}
use Rattle.file_rewrite.specs.declared.fault.JobFault.TheVariants as job
use Rattle.many_files.specs.Jobs.{Job, failed_of, end_of, faults_needed, is_in_folder, HasJobCause, WantMemory}
use Rattle.many_files.specs.Ends.{IsForMemory}
use Rattle.many_files.specs.declared.report.Report.{Report}
use Rattle.many_files.specs.declared.fault.FilesFault.{FilesFault}
use Rattle.many_files.proofs.rewriting.WayLemmas.{still_leads}
use Rattle.many_files.specs.Clear.{LeadsToFile, HasRoomBy, AreFilesClear}
use Rattle.many_files.proofs.rewriting.CutLemmas.{at_cut}
use Rattle.many_files.proofs.rewriting.KeepLemmas.{keeps_itself, file_there, not_none}
use Rattle.many_files.proofs.rewriting.CauseLemmas.{HaveCausesSoFar}
use Rattle.many_files.proofs.rewriting.CrowdLemmas.{AreCrowded}
use Rattle.many_files.proofs.rewriting.ChainLemmas.{TellsJobs, IsNamedSoFar}

-- the job is one of the files
abbrev pub IsOf : List (List ℕ) → Job → Type 0
IsOf paths failed = Contains paths failed.0

rest_of : (path : List ℕ) (paths : List (List ℕ)) (jobs : List Job) → All (IsOf paths) jobs
    → All (IsOf (path ∷ paths)) jobs
rest_of path paths jobs all = All-weaker (IsOf paths) (IsOf (path ∷ paths)) (λ failed c. Contains-append_right (path ∷ []) paths failed.0 c) jobs all

-- the jobs are some of the files
pub failed_paths : (paths : List (List ℕ)) (ends : List (Option JobFault)) → All (IsOf paths) (failed_of paths ends)
failed_paths [] ends = All-nil (IsOf [])
failed_paths (path ∷ paths) [] = All-nil (IsOf (path ∷ paths))
failed_paths (path ∷ paths) (None ∷ ends) = rest_of path paths (failed_of paths ends) (failed_paths paths ends)
failed_paths (path ∷ paths) (Some fault ∷ ends) =
    All-cons (IsOf (path ∷ paths)) (path, fault) (failed_of paths ends) (0, omega arith, refl)
    (rest_of path paths (failed_of paths ends) (failed_paths paths ends))

pub named_jobs : (change : Change) (tells : Bool) (s0 s : DiskState) (done paths : List (List ℕ)) (jobs : List Job) (changed replaced : ℕ)
    → IsNamedSoFar change tells s0 s done jobs changed replaced → done ≡ paths
    → All (IsOf paths) jobs
named_jobs change tells s0 s done paths jobs changed replaced so whole =
    subst (All (IsOf paths)) (sym so.jobs_are)
    (subst (λ (list : List (List ℕ)). All (IsOf list) (failed_of done (map end_of so.results))) whole (failed_paths done (map end_of so.results)))

-- one counted fault of many
rises : (n before now : ℕ) → 0 < n → HasRisenBy n before now → HasRisen before now
rises n before now some (inl rose) = inl (omega arith)
rises n before now some (inr last) = inr last

-- one job needs no more than all
one_of_all : (f : Job → ℕ) (jobs earlier later : List Job) (failed : Job) → jobs ≡ earlier ++ failed ∷ later → f failed ≤ sum_by f jobs
one_of_all f jobs earlier later failed cut =
    let whole : sum_by f jobs ≡ sum_by f (earlier ++ failed ∷ later) = ap (sum_by f) cut in
    let parts = sum_by-append f earlier (failed ∷ later) in
    let rest = sum_by-cons f failed later in
    omega (arith, whole, parts, rest)

module _ (tells : Bool) (s0 s : DiskState) (paths : List (List ℕ)) (jobs : List Job) (clear : AreFilesClear paths (course tells s0 s))
    (have : HaveCausesSoFar tells s0 s jobs)
    (crowded : IsTrue tells → AreCrowded s0 s jobs) (named : All (IsOf paths) jobs) where
  module _ (earlier later : List Job) (path : List ℕ) where
    -- the path is one of the files
    of_path : (P : List ℕ → Type 0) (failed : Job) → jobs ≡ earlier ++ failed ∷ later → All P paths → P failed.0
    of_path P failed cut all = All-contains P paths failed.0 all (at_cut (IsOf paths) jobs earlier failed later named cut)

    -- why else it would fail
    by_cause : (fault : JobFault) → jobs ≡ earlier ++ (path, fault) ∷ later → HasJobCause (course tells s0 s) (path, fault)
        → (fault ≡ job.NoMemory) ⊎ (fault ≡ job.TempName)
    by_cause (job.File disk.Absent) cut cause = elim (cases_Bool tells) [
      | inl told ↦ absurd (not_none (file_of s0.tree path) (of_path (LeadsToFile s0.tree) (path, job.File disk.Absent) cut (clear.files told)) (cause.0 told))
      | inr untold ↦ absurd (clear.no_fault (cause.1 untold))
    ]
    by_cause (job.File disk.Taken) cut cause = absurd cause
    by_cause (job.File disk.Failed) cut cause = absurd (clear.no_fault cause)
    by_cause (job.File disk.NoMemory) cut cause = absurd cause
    by_cause (job.TempfilePersist disk.Absent) cut cause = elim (cases_Bool tells) [
      | inl told ↦ absurd (cause.0 told)
      | inr untold ↦ absurd (clear.no_fault (cause.1 untold))
    ]
    by_cause (job.TempfilePersist disk.Taken) cut cause = absurd cause
    by_cause (job.TempfilePersist disk.Failed) cut cause = absurd (clear.no_fault cause)
    by_cause (job.TempfilePersist disk.NoMemory) cut cause = absurd cause
    by_cause job.InvalidPath cut cause = absurd (of_path (λ p. IsNoPath p → ⊥) (path, job.InvalidPath) cut clear.paths_name cause)
    by_cause job.TempName cut cause = inr refl
    by_cause job.NoMemory cut cause = inl refl

    -- an earlier job for want of memory has its file in the folder
    abbrev HasEarlier : Type 0
    HasEarlier =
        (place : NameList) × (other : List ℕ) × (reached s.tree path true ≡ Some place) × Contains earlier (other, job.NoMemory)
        × IsTrue (is_in_folder s.tree (parent_of place) other)

    module _ (cut : jobs ≡ earlier ++ (path, job.TempName) ∷ later) where
      -- a disk that tells nothing would have counted the names
      untold_counts : tells ≡ false → HasRisen s0.faults s.faults
      untold_counts untold =
          let names : faults_needed tells s0.tree (path, job.TempName) ≡ reserved_names = ap (λ (b : Bool). cond b 0 reserved_names) untold in
          let one = one_of_all (faults_needed tells s0.tree) jobs earlier later (path, job.TempName) cut in
          rises (sum_by (faults_needed tells s0.tree) jobs) s0.faults s.faults (omega (arith, names, one)) have.counted

      told_earlier : IsTrue tells → HasEarlier
      told_earlier told =
          let full = (crowded told).full earlier later path cut in
          let room = of_path (HasRoomBy s0.tree) (path, job.TempName) cut (clear.room told) in
          let keeps = have.keeps told in
          let stood = keeps.stands room.place (file_there (node_at s0.tree room.place) room.is_file) in
          let still : reached s.tree path true ≡ Some room.place = still_leads keeps.ways path true room.place room.leads stood in
          let here : room.place ≡ full.place = same_Some room.place full.place (sym still ∙ full.leads) in
          elim (full.memory room.temporary (subst (λ (p : NameList). Free s0.tree (parent_of p) room.temporary) here room.free)) [
            | inl rose ↦ absurd (clear.no_fault rose)
            | inr m ↦ (full.place, m.path, full.leads, m.is_job, m.inside s.tree (keeps_itself s.tree))
          ]

      has_earlier : HasEarlier
      has_earlier = elim (cases_Bool tells) [ inl told ↦ told_earlier told | inr untold ↦ absurd (clear.no_fault (untold_counts untold)) ]

  pub want_memory : WantMemory s.tree jobs
  want_memory earlier later path fault cut =
      elim (by_cause earlier later path fault cut (at_cut (HasJobCause (course tells s0 s)) jobs earlier (path, fault) later have.causes cut)) [
        | inl memory ↦ inl memory
        | inr full ↦ inr (full, has_earlier earlier later path (cut ∙ ap (λ (f : JobFault). earlier ++ (path, f) ∷ later) full))
      ]

  pub for_memory : (result : Result Report FilesFault) → IfErr result (TellsJobs jobs) → IfErr result (IsForMemory s.tree)
  for_memory (Ok report) is = tt
  for_memory (Err failed) (told, e, same, some) = subst (IsForMemory s.tree) (sym e) (subst (WantMemory s.tree) (sym same) want_memory)
