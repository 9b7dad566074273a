-- A sweep, of its choice and the rewriting of what was chosen.
use Rattle.std.proofs.Common.{◌≡◌, ℕ, ◌≤◌, Bool, List, sym, ◌∙◌, ap, subst, inl, inr, arith}
use Rattle.std.specs.Prelude.{Option, Some, None, IsTrue, Contains, All, Result, Ok, Err, IfErr, IsErrAnd, MatchResult, sum_by}
use Rattle.std.proofs.lemmas.List.Elements.{All-weaker, All-contains}
use Rattle.sd_io.specs.Tree.{NameList, Content, Tree, IsTree, node_at, file_at}
use Rattle.sd_io.specs.Paths.{parent_of}
use Rattle.sd_io.specs.Files.{file_of}
use Rattle.sd_io.specs.Disk.{DiskState, SameTree}
use Rattle.sd_io.specs.Crashes.{LeavesSince, IsDurable}
use Rattle.sd_io.specs.declared.fault.DiskFault.TheVariants as disk
use Rattle.sd_io.proofs.CrashLemmas.{since_same, since_then, since_more}
use Rattle.sd_change.specs.Change.{Change}
use Rattle.sd_course.specs.Course.{Course, course, HasRisenBy}
use Rattle.file_exchange.specs.Reserved.{Free}
use Rattle.file_exchange.proofs.CauseLemmas.{risen_since}
use Rattle.file_rewrite.specs.Paths.{IsNoPath}
use Rattle.file_rewrite.specs.Rewritten.{IsNew, IsOld, IsLeft, IsNewFile, IsChangedFile}
use Rattle.file_rewrite.specs.declared.fault.JobFault.{JobFault}
use Rattle.file_rewrite.specs.declared.fault.JobFault.TheVariants as job
use Rattle.chosen_files.specs.Chosen.{IsPathBelow}
use Rattle.chosen_files.specs.Globs.{IsFirstInvalid}
use Rattle.chosen_files.specs.Choice.{KeepsLists}
use Rattle.many_files.specs.Files.{ListsFiles, IsFreeBeside, HasRoom}
use Rattle.many_files.specs.Rewritten.{KeepsNode, IsRewritten, LeavesEach, IsNewOne, IsChangedOne}
use Rattle.many_files.specs.Counts.{Counts, RewritesFiles}
use Rattle.many_files.specs.Jobs.{Job, faults_needed, HasJobCause, IsCrowdedOut, HaveCauses}
use Rattle.many_files.specs.Turns.{Turn, faults_of_turn, EndsSo, IsTurn, FailsFiles}
use Rattle.many_files.specs.InTurn.{FilesFail}
use Rattle.many_files.specs.InTurn.{FailsSome as FilesFailSome}
use Rattle.many_files.specs.Clear.{AreFilesClear}
use Rattle.many_files.specs.Ends.{FailsListed, RewritesListed, IsForMemory as FilesForMemory}
use Rattle.many_files.specs.declared.report.Report.{Report}
use Rattle.many_files.specs.declared.fault.FilesFault.{FilesFault}
use Rattle.many_files.specs.declared.fault.FilesFault.TheVariants as files_fault
use Rattle.many_files.proofs.TurnLemmas.{left_before}
use Rattle.many_files.proofs.ListedLemmas.{listed_clear, by_paths, jobs_name_files}
use Rattle.sd_core.specs.Selection.{Selection, ListsSelected}
use Rattle.sd_core.specs.Sweep.{RewritesTree, FailsSome, SelectingFails, SweepFails, IsClear, HasRoomForAll, IsErrOrMemory, IsForMemory, Sweeps}
use Rattle.sd_core.specs.Errors.{of_files}
use Rattle.sd_core.specs.declared.error.Error.{Error}
use Rattle.sd_core.specs.declared.error.Error.TheVariants as error
use Rattle.sd_core.proofs.selecting.SelectionLemmas.{IsSelection}

-- ---- from the start on

module _ (change : Change) (s0 s1 s2 : DiskState) (same : SameTree s0 s1) where
  keeps_from : (q : NameList) → KeepsNode s1 s2 q → KeepsNode s0 s2 q
  keeps_from q k = record {
    node = k.node ∙ ap (λ (t : Tree). node_at t q) same.tree;
    outcomes = λ found l. left_before s0 s1 same q found (k.outcomes found l);
  }

  rewritten_from : (q : NameList) → IsRewritten change s1 s2 q → IsRewritten change s0 s2 q
  rewritten_from q r = record {
    bytes = r.bytes;
    mode = r.mode;
    was = ap (λ (t : Tree). file_at t q) (sym same.tree) ∙ r.was;
    new_bytes = r.new_bytes;
    count = r.count;
    new_bytes_are = r.new_bytes_are;
    holds = r.holds;
    kept = λ e. keeps_from q (r.kept e);
  }

  pub files_from : (places : List NameList) (report : Report) → RewritesFiles change places report s1 s2 → RewritesFiles change places report s0 s2
  files_from places report r = record {
    each = λ q c. rewritten_from q (r.each q c);
    others = λ q n. r.others q n ∙ ap (λ (t : Tree). node_at t q) same.tree;
    counts = subst (λ (t : Tree). Counts change t places report) same.tree r.counts;
  }

  ends_from : (q : NameList) (fault : Option JobFault) → EndsSo change s1 s2 q fault → EndsSo change s0 s2 q fault
  ends_from q None r = rewritten_from q r
  ends_from q (Some fault) is = subst (λ (t : Tree). IsLeft change t s2.tree q fault) same.tree is

  turn_from : (t : Turn) → IsTurn change s1 s2 t → IsTurn change s0 s2 t
  turn_from t it = record {
    file = ends_from t.place t.fault it.file;
    was_free = λ q e. subst (λ (tree : Tree). Free tree (parent_of t.place) q) same.tree (it.was_free q e);
    failed = it.failed;
  }

  risen_by_since : (n : ℕ) → s0.faults ≤ s1.faults → HasRisenBy n s1.faults s2.faults → HasRisenBy n s0.faults s2.faults
  risen_by_since n low (inl rose) = inl (omega arith)
  risen_by_since n low (inr last) = inr last

  pub fails_from : (paths : List (List ℕ)) (places : List NameList) (jobs : List Job) → s0.faults ≤ s1.faults → FailsFiles change paths places jobs s1 s2 → FailsFiles change paths places jobs s0 s2
  fails_from paths places jobs low f = record {
    turns = f.turns;
    paths_are = f.paths_are;
    places_are = f.places_are;
    jobs_are = f.jobs_are;
    each = All-weaker (IsTurn change s1 s2) (IsTurn change s0 s2) turn_from f.turns f.each;
    others = λ q n m. f.others q n m ∙ ap (λ (t : Tree). node_at t q) same.tree;
    counted = risen_by_since (sum_by faults_of_turn f.turns) low f.counted;
  }

  module _ (tells : Bool) (low : s0.faults ≤ s1.faults) where
    cause_from : (failed : Job) → HasJobCause (course tells s1 s2) failed → HasJobCause (course tells s0 s2) failed
    cause_from (path, job.File disk.Absent) cause = (
      (λ told. ap (λ (t : Tree). file_of t path) (sym same.tree) ∙ cause.0 told),
      (λ untold. risen_since s0.faults s1.faults s2.faults low (cause.1 untold)),
    )
    cause_from (path, job.File disk.Taken) cause = cause
    cause_from (path, job.File disk.Failed) cause = risen_since s0.faults s1.faults s2.faults low cause
    cause_from (path, job.File disk.NoMemory) cause = cause
    cause_from (path, job.TempfilePersist disk.Absent) cause = (cause.0, (λ untold. risen_since s0.faults s1.faults s2.faults low (cause.1 untold)))
    cause_from (path, job.TempfilePersist disk.Taken) cause = cause
    cause_from (path, job.TempfilePersist disk.Failed) cause = risen_since s0.faults s1.faults s2.faults low cause
    cause_from (path, job.TempfilePersist disk.NoMemory) cause = cause
    cause_from (path, job.InvalidPath) cause = cause
    cause_from (path, job.TempName) cause = tt
    cause_from (path, job.NoMemory) cause = tt

    crowded_from : (earlier : List Job) (path : List ℕ) → IsCrowdedOut (course tells s1 s2) earlier path → IsCrowdedOut (course tells s0 s2) earlier path
    crowded_from earlier path c = record {
      place = c.place;
      leads = c.leads;
      few = record { places = c.few.places; few = c.few.few; all = λ q free. c.few.all q (subst (λ (t : Tree). Free t (parent_of c.place) q) (sym same.tree) free) };
    }

    pub causes_from : (jobs : List Job) → HaveCauses (course tells s1 s2) jobs → HaveCauses (course tells s0 s2) jobs
    causes_from jobs h = record {
      counted =
          risen_by_since (sum_by (faults_needed tells s0.tree) jobs) low
          (subst (λ (t : Tree). HasRisenBy (sum_by (faults_needed tells t) jobs) s1.faults s2.faults) same.tree h.counted);
      causes = All-weaker (HasJobCause (course tells s1 s2)) (HasJobCause (course tells s0 s2)) cause_from jobs h.causes;
      crowded = λ told earlier later path e. crowded_from earlier path (h.crowded told earlier later path e);
    }

  -- ---- the selected files

  module _ (selection : Selection) (law : IsSelection selection) (paths : List (List ℕ)) (places : List NameList) (selected : selection.Lists s0.tree paths places) where
    is_one : (q : NameList) → Contains places q → selection.IsOne s0.tree q
    is_one q = (law.these s0.tree paths places selected q).0

    is_listed : (q : NameList) → selection.IsOne s0.tree q → Contains places q
    is_listed q = (law.these s0.tree paths places selected q).1

    free_from : (q : NameList) → IsFreeBeside (Contains places) s1.tree q → IsFreeBeside (selection.IsOne s0.tree) s0.tree q
    free_from q (place, c, free) = (place, is_one place c, subst (λ (t : Tree). Free t (parent_of place) q) same.tree free)

    new_from : (q : NameList) (content : Content) → IsNewOne (Contains places) change s1.tree q content → IsNewOne (selection.IsOne s0.tree) change s0.tree q content
    new_from q content n = (is_one q n.0, subst (λ (t : Tree). IsNewFile change t q content) same.tree n.1)

    changed_from : (q : NameList) (content : Content) → IsChangedOne (Contains places) change s1.tree q content → IsChangedOne (selection.IsOne s0.tree) change s0.tree q content
    changed_from q content n = (is_one q n.0, subst (λ (t : Tree). IsChangedFile change t q content) same.tree n.1)

    changed_to : (q : NameList) (content : Content) → IsChangedOne (selection.IsOne s0.tree) change s0.tree q content → IsChangedOne (Contains places) change s1.tree q content
    changed_to q content n = (is_listed q n.0, subst (λ (t : Tree). IsChangedFile change t q content) (sym same.tree) n.1)

    pub rewrites_tree : (report : Report) → RewritesFiles change places report s1 s2 → RewritesTree change selection report s0 s2
    rewrites_tree report r = record { paths = paths; places = places; selected = selected; files = files_from places report r }

    pub left_from : LeavesEach (Contains places) change s1.tree s2.tree → LeavesEach (selection.IsOne s0.tree) change s0.tree s2.tree
    left_from l q = elim (l q) [
      | inl old ↦ inl (subst (λ (t : Tree). IsOld t s2.tree q) same.tree old)
      | inr (inl (c, new)) ↦ inr (inl (is_one q c, subst (λ (t : Tree). IsNew change t s2.tree q) same.tree new))
      | inr (inr free) ↦ inr (inr (free_from q free))
    ]

    pub crash_from : LeavesSince (IsNewOne (Contains places) change s1.tree) (IsFreeBeside (Contains places) s1.tree) s1 s2
        → LeavesSince (IsNewOne (selection.IsOne s0.tree) change s0.tree) (IsFreeBeside (selection.IsOne s0.tree) s0.tree) s0 s2
    crash_from l =
        since_then _ _ s0 s1 s2 (since_same (IsNewOne (selection.IsOne s0.tree) change s0.tree) (IsFreeBeside (selection.IsOne s0.tree) s0.tree) s0 s1 same)
        (since_more _ _ _ _ s1 s2 new_from free_from l)

    pub durable_from : IsDurable (IsChangedOne (Contains places) change s1.tree) s1 s2 → IsDurable (IsChangedOne (selection.IsOne s0.tree) change s0.tree) s0 s2
    durable_from d = record {
      there = λ q content n found l. d.there q content (changed_to q content n) found l;
      elsewhere = λ q none found l. left_before s0 s1 same q found (d.elsewhere q (λ content n. none content (changed_from q content n)) found l);
    }

    pub room_for : HasRoomForAll selection s0.tree → HasRoom (Contains places) s1.tree
    room_for room place c = let (q, free) = room place (is_one place c) in (q, subst (λ (t : Tree). Free t (parent_of place) q) (sym same.tree) free)

-- ---- refused before anything is written

-- a refusal before the first write, whatever it is
early : (change : Change) (selection : Selection) (cap : ℕ) (d : Course DiskState) (failed : Error) → SameTree d.old d.new → SelectingFails selection cap d failed
    → SweepFails change selection cap d failed
early change selection cap d (error.BadGlob place) same f = (same, f)
early change selection cap d error.RootMissing same f = (same, f)
early change selection cap d (error.Walk failed) same f = (same, f)
early change selection cap d error.TooMany same f = (same, f)
early change selection cap d error.NoMemory same f = (same, f)
early change selection cap d (error.Regex refused) same f = absurd f
early change selection cap d (error.File fault) same f = absurd f
early change selection cap d (error.InvalidPath path) same f = absurd f
early change selection cap d (error.FailedProcessing jobs) same f = absurd f
early change selection cap d (error.InvalidReplaceCapture capture) same f = absurd f
early change selection cap d error.InputTooLong same f = absurd f
early change selection cap d (error.Stale path planned found) same f = absurd f
early change selection cap d (error.Differs path planned found) same f = absurd f
early change selection cap d error.NotAPlan same f = absurd f
early change selection cap d error.RulesNotText same f = absurd f
early change selection cap d (error.BadRule number) same f = absurd f

pub refused_early : (change : Change) (selection : Selection) (cap : ℕ) (same_disk : Type 0) (tells : Bool) (s0 s1 : DiskState) (failed : Error)
    → SelectingFails selection cap (course tells s0 s1) failed → ((place : ℕ) → IsFirstInvalid selection.globs place → same_disk × IsErrOrMemory {A = Report} (error.BadGlob place) (Err failed))
    → SameTree s0 s1 → KeepsLists 10 s0 s1 → s0.faults ≤ s1.faults → (IsClear selection cap (course tells s0 s1) → failed ≡ error.NoMemory)
    → Sweeps change selection cap same_disk (Err failed) (course tells s0 s1)
refused_early change selection cap same_disk tells s0 s1 failed fails bad same lists low complete = record {
  rewritten = λ told. tt;
  few = λ told. tt;
  fails = early change selection cap (course tells s0 s1) failed same fails;
  bad_glob = bad;
  however = λ told q. inl (ap (λ (t : Tree). node_at t q) same.tree);
  crash = λ told. since_same (IsNewOne (selection.IsOne s0.tree) change s0.tree) (IsFreeBeside (selection.IsOne s0.tree) s0.tree) s0 s1 same;
  durable = λ told. tt;
  lists = lists;
  never_falls = low;
  complete = λ clear room. subst (IsForMemory s1.tree) (sym (complete clear)) tt;
}

-- ---- the selected files were rewritten, or some failed

-- how a sweep answers what the rewriting answers
abbrev pub answered : Result Report FilesFault → Result Report Error
answered (Ok report) = Ok report
answered (Err fault) = Err (of_files fault)

pub answered_is : (r : Result Report FilesFault) (made : Result Report Error) → MatchResult r (λ x. made ≡ Ok x) (λ fault. IsErrAnd made (λ e. e ≡ of_files fault)) → made ≡ answered r
answered_is (Ok report) made is = is
answered_is (Err fault) (Ok report) is = absurd is
answered_is (Err fault) (Err e) is = ap Err is

module _ (change : Change) (selection : Selection) (law : IsSelection selection) (s0 s1 s2 : DiskState) (same : SameTree s0 s1) (paths : List (List ℕ)) (cap : ℕ) (tells : Bool)
    (low : s0.faults ≤ s1.faults) (is_tree : IsTrue tells → IsTree s0.tree) (selected : IsTrue tells → ListsSelected selection s0.tree paths)
    (few : IsTrue tells → selection.HasFewer cap s0.tree) (below : All (IsPathBelow selection.root) paths) (named : All (λ path. IsNoPath path → ⊥) paths)
    (same_disk : Type 0) (valid : (place : ℕ) → IsFirstInvalid selection.globs place → ⊥) where
  at_now : (told : IsTrue tells) → ListsFiles s1.tree paths (selected told).0
  at_now told =
      subst (λ (t : Tree). ListsFiles t paths (selected told).0) (sym same.tree) (law.files s0.tree (is_tree told) paths (selected told).0 (selected told).1)

  failed_below : (jobs : List Job) → FilesFailSome change paths (course tells s1 s2) jobs → ((told : IsTrue tells) → FailsFiles change paths (selected told).0 jobs s1 s2)
      → FailsSome change selection cap (course tells s0 s2) jobs
  failed_below jobs f files =
      let of = by_paths change paths (course tells s1 s2) jobs f in
      record {
        some = f.some;
        few = few;
        files = λ told. record {
          paths = paths;
          places = (selected told).0;
          selected = (selected told).1;
          files = fails_from change s0 s1 s2 same paths (selected told).0 jobs low (files told);
        };
        causes = causes_from change s0 s1 s2 same tells low jobs f.causes;
        name_files = jobs_name_files paths named (course tells s1 s2) jobs f.causes.causes of;
        below_root =
            All-weaker (λ (failed : Job). Contains paths failed.0) (λ (failed : Job). IsPathBelow selection.root failed.0)
            (λ failed there. All-contains (IsPathBelow selection.root) paths failed.0 below there) jobs of;
      }

  files_fail : (why : FilesFault) → FilesFail change paths (course tells s1 s2) why → ((told : IsTrue tells) → FailsListed change paths (selected told).0 s1 s2 why)
      → SweepFails change selection cap (course tells s0 s2) (of_files why)
  files_fail (files_fault.Failed jobs) f files = failed_below jobs f files
  files_fail files_fault.NoMemory f files = (subst (SameTree s0) (sym f) same, tt)

  for_memory : (why : FilesFault) → FilesForMemory s2.tree why → IsForMemory s2.tree (of_files why)
  for_memory (files_fault.Failed jobs) f = f
  for_memory files_fault.NoMemory f = tt

  are_clear : s1.faults ≤ s2.faults → IsClear selection cap (course tells s0 s2) → HasRoomForAll selection s0.tree → AreFilesClear paths (course tells s1 s2)
  are_clear lower clear room =
      listed_clear tells s1 s2 paths (selected clear.told).0 (subst IsTree (sym same.tree) (is_tree clear.told)) (at_now clear.told)
      (room_for change s0 s1 s2 same selection law paths (selected clear.told).0 (selected clear.told).1 room)
      (λ rose. clear.no_fault (risen_since s0.faults s1.faults s2.faults low rose))

  pub sweeps_end : (r : Result Report FilesFault) → KeepsLists 10 s0 s2 → s1.faults ≤ s2.faults → IfErr r (FilesFail change paths (course tells s1 s2))
      → (IsTrue tells → (places : List NameList) → ListsFiles s1.tree paths places → RewritesListed change paths places r s1 s2)
      → (AreFilesClear paths (course tells s1 s2) → IfErr r (FilesForMemory s2.tree)) → Sweeps change selection cap same_disk (answered r) (course tells s0 s2)
  sweeps_end (Ok report) lists lower fails listed complete = record {
    rewritten = λ told. rewrites_tree change s0 s1 s2 same selection law paths (selected told).0 (selected told).1 report (listed told (selected told).0 (at_now told)).rewritten;
    few = few;
    fails = tt;
    bad_glob = λ place at. absurd (valid place at);
    however = λ told. left_from change s0 s1 s2 same selection law paths (selected told).0 (selected told).1 (listed told (selected told).0 (at_now told)).however;
    crash = λ told. crash_from change s0 s1 s2 same selection law paths (selected told).0 (selected told).1 (listed told (selected told).0 (at_now told)).crash;
    durable = λ told. durable_from change s0 s1 s2 same selection law paths (selected told).0 (selected told).1 (listed told (selected told).0 (at_now told)).durable;
    lists = lists;
    never_falls = omega (arith, low, lower);
    complete = λ clear room. tt;
  }
  sweeps_end (Err fault) lists lower fails listed complete = record {
    rewritten = λ told. tt;
    few = λ told. tt;
    fails = files_fail fault fails (λ told. (listed told (selected told).0 (at_now told)).failed);
    bad_glob = λ place at. absurd (valid place at);
    however = λ told. left_from change s0 s1 s2 same selection law paths (selected told).0 (selected told).1 (listed told (selected told).0 (at_now told)).however;
    crash = λ told. crash_from change s0 s1 s2 same selection law paths (selected told).0 (selected told).1 (listed told (selected told).0 (at_now told)).crash;
    durable = λ told. tt;
    lists = lists;
    never_falls = omega (arith, low, lower);
    complete = λ clear room. for_memory fault (complete (are_clear lower clear room));
  }
