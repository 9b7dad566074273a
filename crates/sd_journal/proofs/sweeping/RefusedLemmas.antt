-- Why a journalled sweep isn't made.
use Rattle.std.proofs.Common.{◌≡◌, ◌∙◌, ℕ, ◌≤◌, Bool, true, false, cond, List, [], ◌∷◌, map, refl, sym, ap, subst, inl, inr, arith}
use Rattle.std.specs.Prelude.{◌⊎◌, Option, Some, None, IsSome, IsTrue, Result, Ok, Err, IfErr, IsErrAnd, Contains}
use Rattle.std.specs.List.{filter}
use Rattle.sd_io.specs.Count.{HasRisen}
use Rattle.sd_io.specs.Tree.{Tree}
use Rattle.sd_io.specs.Paths.{reached}
use Rattle.sd_io.specs.Files.{file_of}
use Rattle.sd_io.specs.Disk.{DiskState, SameTree}
use Rattle.sd_change.specs.Change.{Change}
use Rattle.sd_course.specs.Course.{Course, course}
use Rattle.file_exchange.specs.Reserved.{reserved_names}
use Rattle.file_rewrite.specs.declared.fault.JobFault.{JobFault}
use Rattle.file_rewrite.specs.declared.fault.JobFault.TheVariants as job
use Rattle.many_files.proofs.MemberLemmas.{In, in_from_contains}
use Rattle.many_files.specs.declared.report.Report.{Report}
use Rattle.sd_plan.specs.declared.line.PlanLine.{PlanLine}
use Rattle.planned_files.specs.Planned.{IsLineOf, PlansFiles, path_of}
use Rattle.journal.specs.Faults.{WantsMemory}
use Rattle.journal.specs.Beside.{KeepsAllButFree}
use Rattle.journal.specs.Clearing.{LeavesNoMore}
use Rattle.journal.specs.Planning.{LeadToFiles}
use Rattle.journal.specs.Changing.{ChangeFails, ComesFirst, IsUnfinished, IsPending, IsTooCrowded, IsFilledUp, LeavesAllButFree}
use Rattle.journal.specs.declared.fault.JournalFault.{JournalFault}
use Rattle.journal.specs.declared.fault.JournalFault.TheVariants as fault
use Rattle.journal.proofs.CauseLemmas.{more_since}
use Rattle.journal.proofs.ClearingLemmas.{no_more_same, no_more_then}
use Rattle.journal.proofs.StagingLemmas.{free_same}
use Rattle.sd_core.specs.Plan.{IsPlanOf, PlansTree, TreeNotPlanned}
use Rattle.sd_core.specs.Selection.{by_globs}
use Rattle.sd_core.specs.Sweep.{sweep_cap}
use Rattle.sd_core.specs.declared.error.Error.{Error}
use Rattle.sd_core.specs.declared.error.Error.TheVariants as sweep
use Rattle.sd_journal.specs.Errors.{of_change, of_sweep}
use Rattle.sd_journal.specs.Work.{changed_paths}
use Rattle.sd_journal.specs.Refused.{IsFaultOf, IsUnfinishedSweep, JournalledFails, ComesBefore, IsForWantOfMemory}
use Rattle.sd_journal.specs.Sweep.{SweepsJournalled}
use Rattle.sd_journal.specs.declared.error.JournalError.{JournalError}
use Rattle.sd_journal.specs.declared.error.JournalError.TheVariants as error

-- ---- counts

pub risen_on : (before middle now : ℕ) → before ≤ middle → HasRisen middle now → HasRisen before now
risen_on before middle now low (inl rose) = inl (omega arith)
risen_on before middle now low (inr last) = inr last

pub risen_then : (before middle now : ℕ) → middle ≤ now → HasRisen before middle → HasRisen before now
risen_then before middle now low (inl rose) = inl (omega arith)
risen_then before middle now low (inr last) = inr (omega arith)

-- ---- the fault that an error tells

pub fault_so : {T : Type 0} (P : JournalFault → Type 0) (Q : JournalError → Type 0) (r : Result T JournalError) → IfErr r (IsFaultOf P) → ((f : JournalFault) → P f → Q (of_change f)) → IfErr r Q
fault_so P Q (Ok x) p then = tt
fault_so P Q (Err e) (f, is, p) then = subst Q (sym is) (then f p)

pub fault_and : {T : Type 0} (P : JournalFault → Type 0) (Q : JournalError → Type 0) (r : Result T JournalError) → IsErrAnd r (IsFaultOf P) → ((f : JournalFault) → P f → Q (of_change f))
    → IsErrAnd r Q
fault_and P Q (Ok x) p then = absurd p
fault_and P Q (Err e) (f, is, p) then = subst Q (sym is) (then f p)

-- ---- the paths of a plan lead to files

lead_in : (change : Change) (tree : Tree) (paths : List (List ℕ)) (lines : List PlanLine) → PlansFiles change tree paths lines → (path : List ℕ) → In path (changed_paths lines)
    → IsSome (file_of tree path)
lead_in change tree [] [] plans path i = absurd i
lead_in change tree [] (line ∷ lines) plans path i = absurd plans
lead_in change tree (p ∷ paths) [] plans path i = absurd plans
lead_in change tree (p ∷ paths) (line ∷ lines) (first, plans) path i = by (lead_in change tree paths lines plans path) line.changed i
  where
    by : (In path (changed_paths lines) → IsSome (file_of tree path)) → (b : Bool)
        → In path (map path_of (cond b (line ∷ filter (λ (l : PlanLine). l.changed) lines) (filter (λ (l : PlanLine). l.changed) lines))) → IsSome (file_of tree path)
    by rest true (inl is) = subst (λ o. IsSome o) (sym (ap (file_of tree) (sym is ∙ first.path_is) ∙ first.is_file)) refl
    by rest true (inr i) = rest i
    by rest false i = rest i

pub plan_leads : (change : Change) (root : List ℕ) (globs : List (List ℕ)) (tree : Tree) (lines : List PlanLine) → IsPlanOf change (by_globs root globs) tree lines
    → LeadToFiles tree (changed_paths lines)
plan_leads change root globs tree lines plan path has = lead_in change tree plan.paths lines plan.files path (in_from_contains (changed_paths lines) path has)

some_not_none : {A : Type 0} (o : Option A) → IsSome o → o ≡ None → ⊥
some_not_none o some none =
    let wrong : false ≡ true = subst (λ o. IsSome o) none some in
    cc

-- ---- the change of a plan isn't made

module _ (change : Change) (root : List ℕ) (globs : List (List ℕ)) (tells : Bool) (s t u : DiskState) (lines : List PlanLine)
    (plan : IsTrue tells → IsPlanOf change (by_globs root globs) s.tree lines) (same : SameTree s t) (low : s.faults ≤ t.faults) (more : s.listed ≤ t.listed) where
  files : IsTrue tells → LeadToFiles t.tree (changed_paths lines)
  files told = subst (λ (x : Tree). LeadToFiles x (changed_paths lines)) (sym same.tree) (plan_leads change root globs s.tree lines (plan told))

  free_on : LeavesAllButFree (course tells t u) → LeavesAllButFree (course tells s u)
  free_on free told = subst (λ (x : Tree). KeepsAllButFree x u.tree) same.tree (free told)

  pub no_more_on : LeavesNoMore t u → LeavesNoMore s u
  no_more_on kept = no_more_then s t u (no_more_same s t same) kept

  unfinished_on : (j : JobFault) → IsUnfinished change (changed_paths lines) (course tells t u) j → IsUnfinishedSweep change root globs (course tells s u) j
  unfinished_on (job.File refused) cause = risen_on s.faults t.faults u.faults low cause
  unfinished_on (job.TempfilePersist refused) cause = risen_on s.faults t.faults u.faults low cause
  unfinished_on job.InvalidPath cause = cause
  unfinished_on job.TempName cause = (
    (λ told. (lines, plan told, subst (λ (x : Tree). IsFilledUp change x (changed_paths lines)) same.tree (cause.0 told (files told)))),
    (λ untold. more_since reserved_names s.faults t.faults u.faults low (cause.1 untold)),
  )
  unfinished_on job.NoMemory cause = tt

  pub fails_on : (f : JournalFault) → ChangeFails change root (changed_paths lines) (course tells t u) f → JournalledFails change root globs (course tells s u) (of_change f)
  fails_on fault.RootMissing (still, cause) = (
    record { tree = still.tree ∙ same.tree; clock = still.clock ∙ same.clock; outcomes = still.outcomes ∙ same.outcomes },
    (
      (λ told. ap (λ (x : Tree). reached x root true) (sym same.tree) ∙ cause.0 told),
      (λ untold. risen_on s.faults t.faults u.faults low (cause.1 untold)),
    ),
  )
  fails_on (fault.File refused) (free, cause) = (
    free_on free,
    elim cause [
      | inl failed ↦ risen_on s.faults t.faults u.faults low failed
      | inr (told, (path, has, none)) ↦ absurd (some_not_none (file_of t.tree path) (files told path has) none)
    ],
  )
  fails_on fault.Pending (kept, cause) = (
    (λ told. no_more_on (kept told)),
    ((λ told. subst (λ (x : Tree). IsPending x root) same.tree (cause.0 told)), (λ untold. let rose = cause.1 untold in omega (arith, more, rose))),
  )
  fails_on (fault.TempName text) (free, cause) = (
    free_on free,
    (
      (λ told. (lines, plan told, subst (λ (x : Tree). IsTooCrowded change x root (changed_paths lines) text) same.tree (cause.0 told (files told)))),
      (λ untold. more_since reserved_names s.faults t.faults u.faults low (cause.1 untold)),
    ),
  )
  fails_on (fault.Unfinished j) cause = unfinished_on j cause
  fails_on fault.BadJournal cause = cause
  fails_on (fault.StageMissing path) cause = cause
  fails_on (fault.StageDiffers path planned found) cause = cause
  fails_on fault.NoMemory free = free_on free

pub before_so : (f : JournalFault) → ComesFirst f → ComesBefore (of_change f)
before_so fault.RootMissing first = tt
before_so (fault.File refused) first = tt
before_so fault.Pending first = tt
before_so (fault.TempName text) first = first
before_so (fault.Unfinished j) first = first
before_so fault.BadJournal first = first
before_so (fault.StageMissing path) first = first
before_so (fault.StageDiffers path planned found) first = first
before_so fault.NoMemory first = tt

pub memory_so : (f : JournalFault) → WantsMemory f → IsForWantOfMemory (of_change f)
memory_so fault.RootMissing wants = wants
memory_so (fault.File refused) wants = wants
memory_so fault.Pending wants = wants
memory_so (fault.TempName text) wants = wants
memory_so (fault.Unfinished j) wants = wants
memory_so fault.BadJournal wants = wants
memory_so (fault.StageMissing path) wants = wants
memory_so (fault.StageDiffers path planned found) wants = wants
memory_so fault.NoMemory wants = tt

-- ---- no plan is made

not_planned_so : (change : Change) (root : List ℕ) (globs : List (List ℕ)) (tells : Bool) (s t : DiskState) → SameTree s t → (e : Error)
    → TreeNotPlanned (by_globs root globs) sweep_cap (course tells s t) e → JournalledFails change root globs (course tells s t) (of_sweep e) × ComesBefore (of_sweep e)
not_planned_so change root globs tells s t same (sweep.Regex refused) cause = absurd cause
not_planned_so change root globs tells s t same (sweep.File refused) cause = (((λ told. free_same s.tree t.tree same.tree), cause), tt)
not_planned_so change root globs tells s t same (sweep.InvalidPath text) cause = absurd cause
not_planned_so change root globs tells s t same (sweep.FailedProcessing jobs) cause = absurd cause
not_planned_so change root globs tells s t same (sweep.InvalidReplaceCapture capture) cause = absurd cause
not_planned_so change root globs tells s t same (sweep.BadGlob place) cause = ((same, cause), tt)
not_planned_so change root globs tells s t same sweep.RootMissing cause = ((same, cause), tt)
not_planned_so change root globs tells s t same (sweep.Walk refused) cause = ((same, cause), tt)
not_planned_so change root globs tells s t same sweep.TooMany cause = ((same, cause), tt)
not_planned_so change root globs tells s t same sweep.InputTooLong cause = absurd cause
not_planned_so change root globs tells s t same (sweep.Stale path planned found) cause = absurd cause
not_planned_so change root globs tells s t same (sweep.Differs path planned found) cause = absurd cause
not_planned_so change root globs tells s t same sweep.NotAPlan cause = absurd cause
not_planned_so change root globs tells s t same sweep.RulesNotText cause = absurd cause
not_planned_so change root globs tells s t same (sweep.BadRule line) cause = absurd cause
not_planned_so change root globs tells s t same sweep.NoMemory cause = ((λ told. free_same s.tree t.tree same.tree), tt)

-- the same refusal, as the program's error
as_error : Result (List PlanLine) Error → Result Report JournalError
as_error (Ok lines) = Err error.NoMemory
as_error (Err refused) = Err (of_sweep refused)

pub not_planned : (change : Change) (root : List ℕ) (globs : List (List ℕ)) (tells : Bool) (s t : DiskState) (same_disk : Type 0) (refused : Error)
    → PlansTree change (by_globs root globs) sweep_cap same_disk (Err refused) (course tells s t)
    → SweepsJournalled change root globs same_disk (Err (of_sweep refused)) (course tells s t)
unfolding as_error
not_planned change root globs tells s t same_disk refused plans =
    let (fails, first) = not_planned_so change root globs tells s t plans.same refused plans.fails in
    record {
      kept = λ known folder leads fresh. inl plans.same;
      changed = λ known folder leads fresh. tt;
      nowhere = λ known none. tt;
      counted = λ known. tt;
      few = λ known. tt;
      fails = fails;
      pending = λ known stands. first;
      unwritten = λ known stands. no_more_same s t plans.same;
      complete = λ clear folder leads fresh room. subst (λ (e : Error). IsForWantOfMemory (of_sweep e)) (sym (plans.complete clear)) tt;
      elsewhere = λ clear none. subst (λ (e : Error). IsForWantOfMemory (of_sweep e)) (sym (plans.complete clear)) tt;
      bad_glob = λ place at.
          let (still, is) = plans.bad_glob place at in (still, elim is [ inl e ↦ inl (ap as_error e) | inr e ↦ inr (ap as_error e) ]);
      lists = plans.lists;
      never_falls = plans.never_falls;
    }
