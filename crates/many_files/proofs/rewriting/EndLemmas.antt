-- What all files' rewriting is at the end.
use Rattle.std.proofs.Common.{◌≡◌, ◌≢◌, ◌⊎◌, ℕ, zero, suc, ◌+◌, ◌≤◌, Bool, true, false, cond, List, [], ◌∷◌, ◌++◌, map, take, length, refl, sym, ◌∙◌, ap, subst, inl, inr, arith}
use Rattle.std.specs.Prelude.{Option, Some, None, IsSome, is_some, IsTrue, All, Contains, sum_by, Result, Ok, Err, IfOk, IfErr, OnOk}
use Rattle.std.specs.Option.{option_map_or}
use Rattle.std.specs.Cmp.Lexicographic.{pointwise_decides, bytes_decides}
use Rattle.std.proofs.lemmas.List.{take_all}
use Rattle.std.proofs.lemmas.List.Sums.{sum_by-cons}
use Rattle.std.proofs.lemmas.List.Elements.{All-contains}
use Rattle.std.proofs.lemmas.Option.{same_Some}
use Rattle.sd_io.specs.Count.{HasRisen}
use Rattle.sd_io.specs.Tree.{NameList, Tree, file_at}
use Rattle.sd_io.specs.Paths.{reached, parent_of}
use Rattle.sd_io.specs.Outcomes.{same_place}
use Rattle.sd_io.specs.Files.{file_of}
use Rattle.sd_io.specs.Disk.{DiskState}
use Rattle.sd_io.specs.Crashes.{LeavesSince, IsDurable}
use Rattle.sd_io.specs.declared.fault.DiskFault.TheVariants as disk
use Rattle.sd_io.proofs.OutcomeLemmas.{parent_of_child}
use Rattle.sd_change.specs.Change.{Change}
use Rattle.sd_course.specs.Course.{course, HasRisenBy}
use Rattle.file_exchange.specs.Reserved.{Free, Reserved}
use Rattle.file_rewrite.specs.Rewritten.{IsNew, IsOldOrNew}
use Rattle.file_rewrite.specs.declared.fault.JobFault.{JobFault}
use Rattle.file_rewrite.specs.declared.fault.JobFault.TheVariants as job
use Rattle.many_files.specs.Files.{ListsFiles, IsFreeBeside, HasRoom}
use Rattle.many_files.specs.Rewritten.{IsRewritten, LeavesEach, IsNewOne, IsChangedOne}
use Rattle.many_files.specs.Counts.{CountsFiles, RewritesFiles}
use Rattle.many_files.specs.Jobs.{Job, failed_of, is_in_folder, jobs_in, HasJobCause, IsCrowdedOut, NamesFile, WantMemory}
use Rattle.many_files.specs.Turns.{Turn, path_of, place_of, fault_of, left_of, failed_turns, EndsSo, IsTurn, faults_of_end, faults_of_turn, FailsFiles}
use Rattle.many_files.specs.Ends.{FailsListed, RewritesListed}
use Rattle.many_files.specs.declared.jobs.FailedJobs.{FailedJobs}
use Rattle.many_files.specs.declared.fault.FilesFault.{FilesFault}
use Rattle.many_files.specs.declared.fault.FilesFault.TheVariants as fault
use Rattle.many_files.specs.declared.report.Report.{Report}
use Rattle.many_files.proofs.rewriting.MemberLemmas.{In, in_from_contains, contains_from_in, has_or_not, has_option_or_not, mapped, map_has}
use Rattle.many_files.proofs.rewriting.WayLemmas.{still_leads}
use Rattle.many_files.proofs.rewriting.FileLemmas.{as_many, file_stands}
use Rattle.many_files.proofs.rewriting.TurnsLemmas.{is_turn, still_file, keeps_ways}
use Rattle.many_files.proofs.rewriting.JobLemmas.{no_fault}
use Rattle.many_files.proofs.rewriting.ChainLemmas.{IsReportOf, TellsJobs}
use Rattle.many_files.proofs.rewriting.SweptLemmas.{Leads, IsSweptTo, files}

-- ---- the end

module _ (change : Change) (s0 s : DiskState) (paths : List (List ℕ)) (places : List NameList) (listed : ListsFiles s0.tree paths places) (done : List (List ℕ)) (jobs : List Job) (changed replaced : ℕ)
    (so : IsSweptTo change s0 places done jobs changed replaced s) (whole : done ≡ paths) where
  places_all : map place_of so.turns ≡ places
  places_all =
      so.places_are ∙ ap (λ (n : ℕ). take n places) (ap length whole ∙ as_many s0.tree paths places listed) ∙ take_all (length places) places (omega arith)

  has_turn : (q : NameList) → Contains places q → Contains (map place_of so.turns) q
  has_turn q c = subst (λ (list : List NameList). Contains list q) (sym places_all) c

  has_place : (q : NameList) → Contains (map place_of so.turns) q → Contains places q
  has_place q c = subst (λ (list : List NameList). Contains list q) places_all c

  turn_is : (t : Turn) → Contains so.turns t → IsTurn change s0 s t
  turn_is = is_turn change s0 s so.turns so.are (files change s0 s paths places listed done jobs changed replaced so)

  -- each turn's path still leads to its place
  leads_still : (t : Turn) → Contains so.turns t → reached s.tree t.path true ≡ Some t.place
  leads_still t c =
      let its_files = files change s0 s paths places listed done jobs changed replaced so in
      let place_there = map_has place_of so.turns t c in
      still_leads (keeps_ways change s0 s so.turns so.are its_files) t.path true t.place (All-contains (Leads s0.tree) so.turns t so.leads c)
      (file_stands s.tree t.place (still_file change s0 s so.turns so.are its_files t.place place_there))

  -- ---- all are rewritten

  module _ (none : jobs ≡ []) where
    not_failed : (t : Turn) → Contains so.turns t → t.fault ≡ None
    not_failed t c = no_fault so.turns (sym so.jobs_are ∙ none) t (in_from_contains so.turns t c)

    rewritten_each : (q : NameList) → Contains places q → IsRewritten change s0 s q
    rewritten_each q c =
        let (t, there, e) = mapped place_of so.turns q (has_turn q c) in
        subst (IsRewritten change s0 s) e (subst (EndsSo change s0 s t.place) (not_failed t there) (turn_is t there).file)

    none_left : (q : NameList) → Contains (map left_of so.turns) (Some q) → ⊥
    none_left q c =
        let (t, there, e) = mapped left_of so.turns (Some q) c in
        let failed : IsSome t.fault = (turn_is t there).failed (ap is_some e) in
        let none : t.fault ≡ None = not_failed t there in
        cc

    pub rewritten_all : (report : Report) → report.chosen ≡ length paths → report.changed ≡ changed → report.replaced ≡ replaced → RewritesFiles change places report s0 s
    rewritten_all report chosen c r = record {
      each = rewritten_each;
      others = λ q n. so.are.others q (λ c. n (has_place q c)) (none_left q);
      counts = record {
        chosen = chosen ∙ as_many s0.tree paths places listed;
        files =
            subst (λ (k : ℕ). CountsFiles change s0.tree places k report.replaced) (sym c)
            (subst (λ (k : ℕ). CountsFiles change s0.tree places changed k) (sym r) (subst (λ (list : List NameList). CountsFiles change s0.tree list changed replaced) places_all (so.counts none)));
      };
    }

    pub durable_all : IsDurable (IsChangedOne (Contains places) change s0.tree) s0 s
    durable_all = subst (λ (list : List NameList). IsDurable (IsChangedOne (Contains list) change s0.tree) s0 s) places_all (so.durable none)

  -- ---- some failed

  pub failed_all : FailsFiles change paths places jobs s0 s
  failed_all = record {
    turns = so.turns;
    paths_are = so.paths_are ∙ whole;
    places_are = places_all;
    jobs_are = so.jobs_are;
    each = so.are.each;
    others = so.are.others;
    counted = so.are.counted;
  }

  -- ---- however it ends

  new_of : (q : NameList) → IsRewritten change s0 s q → IsNew change s0.tree s.tree q
  new_of q r = record { bytes = r.bytes; mode = r.mode; was = r.was; new_bytes = r.new_bytes; count = r.count; new_bytes_are = r.new_bytes_are; holds = r.holds }

  old_or_new : (q : NameList) (fault : Option JobFault) → EndsSo change s0 s q fault → IsOldOrNew change s0.tree s.tree q
  old_or_new q None r = inr (new_of q r)
  old_or_new q (Some (job.File f)) is = inl is
  old_or_new q (Some (job.TempfilePersist f)) is = is
  old_or_new q (Some job.InvalidPath) is = inl is
  old_or_new q (Some job.TempName) is = inl is
  old_or_new q (Some job.NoMemory) is = is

  pub left_each : LeavesEach (Contains places) change s0.tree s.tree
  left_each q = elim (has_or_not (map place_of so.turns) q) [
    | inl c ↦
        let (t, there, e) = mapped place_of so.turns q c in
        elim (old_or_new q t.fault (subst (λ (p : NameList). EndsSo change s0 s p t.fault) e (turn_is t there).file)) [ inl old ↦ inl old | inr new ↦ inr (inl (has_place q c, new)) ]
    | inr n ↦ elim (has_option_or_not (map left_of so.turns) q) [
      | inl l ↦
          let (t, there, e) = mapped left_of so.turns (Some q) l in
          inr (inr (t.place, has_place t.place (map_has place_of so.turns t there), (turn_is t there).was_free q e))
      | inr m ↦ inl (so.are.others q n m)
    ]
  ]

  pub crash_all : LeavesSince (IsNewOne (Contains places) change s0.tree) (IsFreeBeside (Contains places) s0.tree) s0 s
  crash_all = subst (λ (list : List NameList). LeavesSince (IsNewOne (Contains list) change s0.tree) (IsFreeBeside (Contains list) s0.tree) s0 s) places_all so.are.crash

-- ---- what is answered

module _ (change : Change) (s0 s : DiskState) (paths : List (List ℕ)) (places : List NameList) (listed : ListsFiles s0.tree paths places) (done : List (List ℕ)) (jobs : List Job) (changed replaced : ℕ)
    (so : IsSweptTo change s0 places done jobs changed replaced s) (whole : done ≡ paths) where
  rewritten_if_done : (result : Result Report FilesFault) (chosen : ℕ) → chosen ≡ length paths → IfOk result (IsReportOf jobs chosen changed replaced)
      → IfOk result (λ report. RewritesFiles change places report s0 s)
  rewritten_if_done (Ok report) chosen all is =
      rewritten_all change s0 s paths places listed done jobs changed replaced so whole is.0 report (ap (λ (r : Report). r.chosen) is.1 ∙ all) (ap (λ (r : Report). r.changed) is.1) (ap (λ (r : Report). r.replaced) is.1)
  rewritten_if_done (Err failed) chosen all is = tt

  durable_if_done : (result : Result Report FilesFault) (chosen : ℕ) → IfOk result (IsReportOf jobs chosen changed replaced) → OnOk result (IsDurable (IsChangedOne (Contains places) change s0.tree) s0 s)
  durable_if_done (Ok report) chosen is = durable_all change s0 s paths places listed done jobs changed replaced so whole is.0
  durable_if_done (Err failed) chosen is = tt

  failed_if_told : (result : Result Report FilesFault) → IfErr result (TellsJobs jobs) → IfErr result (FailsListed change paths places s0 s)
  failed_if_told (Ok report) is = tt
  failed_if_told (Err failed) (told, e, same, some) =
      subst (FailsListed change paths places s0 s) (sym e)
      (subst (λ (list : List Job). FailsFiles change paths places list s0 s) (sym same) (failed_all change s0 s paths places listed done jobs changed replaced so whole))

  -- all of it
  pub listed_end : (result : Result Report FilesFault) (chosen : ℕ) → chosen ≡ length paths → IfOk result (IsReportOf jobs chosen changed replaced) → IfErr result (TellsJobs jobs)
      → RewritesListed change paths places result s0 s
  listed_end result chosen all is told = record {
    rewritten = rewritten_if_done result chosen all is;
    failed = failed_if_told result told;
    however = left_each change s0 s paths places listed done jobs changed replaced so whole;
    crash = crash_all change s0 s paths places listed done jobs changed replaced so whole;
    durable = durable_if_done result chosen is;
  }
