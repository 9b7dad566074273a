-- A sweep by a plan, from its beginning to its end.
use Rattle.std.proofs.Common.{◌≡◌, ◌∙◌, ℕ, ◌≤◌, Bool, true, List, sym, ap, subst, inl, inr, arith}
use Rattle.std.specs.Prelude.{◌⊎◌, Some, None, IsSome, IsTrue, Result, Ok, Err, IsErrAnd, IfOk, IfErr, OnOk}
use Rattle.sd_io.specs.Paths.{reached}
use Rattle.sd_io.specs.Tree.{NameList, Tree, IsTree}
use Rattle.sd_io.specs.Lists.{directory_of}
use Rattle.sd_io.specs.Outcomes.{Outcome, Leaves, content_at}
use Rattle.sd_io.specs.Disk.{DiskState, SameTree}
use Rattle.sd_change.specs.Change.{Change, IsOne}
use Rattle.sd_course.specs.Course.{course, DiskFailed}
use Rattle.chosen_files.specs.Choice.{KeepsLists}
use Rattle.many_files.specs.declared.report.Report.{Report}
use Rattle.sd_plan.specs.declared.line.PlanLine.{PlanLine}
use Rattle.change_phases.specs.Between.{Work}
use Rattle.change_phases.proofs.PhaseLemmas.{between_then}
use Rattle.journal.specs.Faults.{WantsMemory}
use Rattle.journal.specs.Keeping.{KeepsBetween}
use Rattle.journal.specs.Finding.{LeavesLists}
use Rattle.journal.specs.Planning.{AreChangesOf}
use Rattle.journal.specs.Clearing.{LeavesNoMore}
use Rattle.journal.specs.Changing.{IsChangeBelow, IsChanged, ExchangesFiles, ChangeFails, IsPending, ComesFirst, HasRoomFor}
use Rattle.journal.proofs.ChangingLemmas.{looked_keeps, preparing_between}
use Rattle.sd_core.specs.Plan.{PlansTree}
use Rattle.sd_core.specs.Selection.{IsChosenBelow, by_globs}
use Rattle.sd_core.specs.Sweep.{sweep_cap}
use Rattle.sd_core.specs.declared.error.Error.{Error}
use Rattle.sd_core.specs.declared.error.Error.TheVariants as sweep
use Rattle.sd_core.proofs.SelectionLemmas.{globs_select}
use Rattle.sd_journal.specs.Work.{changed_paths, IsWorkOf, IsFresh}
use Rattle.sd_journal.specs.Refused.{IsFaultOf, JournalledFails, ComesBefore, IsForWantOfMemory}
use Rattle.sd_journal.specs.Sweep.{CountsPlan, IsOldOrBetween, SweepsJournalled}
use Rattle.sd_journal.specs.declared.error.JournalError.{JournalError}
use Rattle.sd_journal.proofs.sweeping.CountLemmas.{plan_counts}
use Rattle.sd_journal.proofs.sweeping.RefusedLemmas.{risen_on, fault_so, fault_and, no_more_on, fails_on, before_so, memory_so}
use Rattle.sd_journal.proofs.sweeping.WorkLemmas.{work_of, is_change_below, is_work_of}

-- ---- nothing was written

pub same_then : (s t : DiskState) (change : Change) (work : Work) (root : List ℕ) (paths : List (List ℕ)) → IsChangeBelow change work root paths s → SameTree s t → KeepsBetween work s t
same_then s t change work root paths below same = preparing_between work s t (looked_keeps change work root paths s t below same)

-- a change can still be made
below_still : (s t : DiskState) (change : Change) (work : Work) (root : List ℕ) (paths : List (List ℕ)) → SameTree s t → IsChangeBelow change work root paths s
    → IsChangeBelow change work root paths t
below_still s t change work root paths same below = record {
  is_work = below.is_work;
  tree = below.tree ∙ sym same.tree;
  leads = below.leads;
  on_medium = λ q found l.
      below.on_medium q found (subst (λ (list : List Outcome). Leaves list found) (λ i. same.outcomes i (same.clock i) q) l) ∙ ap (λ (x : Tree). content_at x q) (sym same.tree);
  changes = subst (λ (x : Tree). AreChangesOf change x paths work.files) (sym same.tree) below.changes;
  own_places = below.own_places;
}

lists_then : (s t u : DiskState) → KeepsLists 10 s t → LeavesLists t u → KeepsLists 10 s u
lists_then s t u first second =
    let one = first.open_most in
    let count = first.open_count in
    let two = second.open_most in
    record {
      open_list = λ number opened. second.open_list number ∙ first.open_list number opened;
      open_count = second.open_count ∙ first.open_count;
      open_most = omega (arith, one, count, two);
    }

-- ---- a plan is made

not_refused : (lines : List PlanLine) (place : ℕ) → ◌≡◌ {A = Result (List PlanLine) Error} (Ok lines) (Err (sweep.BadGlob place)) ⊎ ◌≡◌ {A = Result (List PlanLine) Error} (Ok lines) (Err sweep.NoMemory) → ⊥
not_refused lines place (inl e) = cc
not_refused lines place (inr e) = cc

done_so : {P Q : Type 0} (r : Result Report JournalError) → OnOk r P → (P → Q) → OnOk r Q
done_so (Ok report) p then = then p
done_so (Err failed) p then = tt

both_so : {P Q S : Type 0} (r : Result Report JournalError) → OnOk r P → OnOk r Q → (P → Q → S) → OnOk r S
both_so (Ok report) p q then = then p q
both_so (Err failed) p q then = tt

counted_so : {P Q : Report → Type 0} (r : Result Report JournalError) → IfOk r P → ((report : Report) → P report → Q report) → IfOk r Q
counted_so (Ok report) p then = then report p
counted_so (Err failed) p then = tt

module _ (change : Change) (one : IsOne change) (root : List ℕ) (globs : List (List ℕ)) (tells : Bool) (s t u : DiskState) (same_disk same_later : Type 0) (lines : List PlanLine)
    (is_tree : IsTrue tells → IsTree s.tree) (plans : PlansTree change (by_globs root globs) sweep_cap same_disk (Ok lines) (course tells s t)) where
  module _ (known : IsTrue tells) (folder : NameList) (leads : directory_of s.tree root ≡ Some folder) (fresh : IsFresh root s) where
    IsIts : NameList → Type 0
    IsIts = IsChosenBelow s.tree root globs

    the_work : Work
    the_work =
        let plan = plans.planned known in
        work_of change one (IsChosenBelow s.tree root globs) root s plan.paths plan.places lines ((globs_select root globs).files s.tree (is_tree known) plan.paths plan.places plan.selected)
        ((globs_select root globs).these s.tree plan.paths plan.places plan.selected) plan.files folder leads fresh

    is_its : IsWorkOf change (IsChosenBelow s.tree root globs) root s.tree the_work
    unfolding the_work
    is_its =
        let plan = plans.planned known in
        is_work_of change one (IsChosenBelow s.tree root globs) root s plan.paths plan.places lines ((globs_select root globs).files s.tree (is_tree known) plan.paths plan.places plan.selected)
        ((globs_select root globs).these s.tree plan.paths plan.places plan.selected) plan.files folder leads fresh

    is_below : IsChangeBelow change the_work root (changed_paths lines) s
    unfolding the_work
    is_below =
        let plan = plans.planned known in
        is_change_below change one (IsChosenBelow s.tree root globs) root s plan.paths plan.places lines ((globs_select root globs).files s.tree (is_tree known) plan.paths plan.places plan.selected)
        ((globs_select root globs).these s.tree plan.paths plan.places plan.selected) plan.files folder leads fresh

    is_still : IsChangeBelow change the_work root (changed_paths lines) t
    is_still = below_still s t change the_work root (changed_paths lines) plans.same is_below

    kept_whole : ((work : Work) → IsChangeBelow change work root (changed_paths lines) t → KeepsBetween work t u) → IsOldOrBetween change root globs s u
    kept_whole keeps =
        let first = same_then s t change the_work root (changed_paths lines) is_below plans.same in
        let second = keeps the_work is_still in
        inr (the_work, is_its, record { between = between_then the_work s t u first.between second.between; settled = second.settled })

  pub swept : (r : Result Report JournalError) → (IsTrue tells → (work : Work) → IsChangeBelow change work root (changed_paths lines) t → KeepsBetween work t u)
      → (IsTrue tells → (work : Work) → IsChangeBelow change work root (changed_paths lines) t → OnOk r (IsChanged work u))
      → (IsTrue tells → (work : Work) → IsChangeBelow change work root (changed_paths lines) t → OnOk r (ExchangesFiles work.files t.tree u.tree))
      → (IsTrue tells → directory_of t.tree root ≡ None → OnOk r (SameTree t u)) → IfOk r (CountsPlan lines)
      → IfErr r (IsFaultOf (ChangeFails change root (changed_paths lines) (course tells t u))) → (IsTrue tells → IsPending t.tree root → IsErrAnd r (IsFaultOf ComesFirst))
      → (IsTrue tells → IsPending t.tree root → LeavesNoMore t u)
      → (IsTrue tells → (work : Work) → IsChangeBelow change work root (changed_paths lines) t → HasRoomFor change t.tree root (changed_paths lines) → (DiskFailed (course tells t u) → ⊥)
      → IfErr r (IsFaultOf WantsMemory))
      → (IsTrue tells → IsSome (reached t.tree root true) → directory_of t.tree root ≡ None → (DiskFailed (course tells t u) → ⊥) → IfErr r (IsFaultOf WantsMemory))
      → LeavesLists t u → t.faults ≤ u.faults
      → SweepsJournalled change root globs same_later r (course tells s u)
  swept r keeps changes exchanges no_root counts fails pending unwritten complete elsewhere lists low = record {
    kept = λ known folder leads fresh. kept_whole known folder leads fresh (keeps known);
    changed = λ known folder leads fresh.
        both_so r (changes known (the_work known folder leads fresh) (is_still known folder leads fresh)) (exchanges known (the_work known folder leads fresh) (is_still known folder leads fresh))
        (λ new exchanged. record {
          work = the_work known folder leads fresh;
          is_its = is_its known folder leads fresh;
          exchanged = subst (λ (tree : Tree). ExchangesFiles (the_work known folder leads fresh).files tree u.tree) plans.same.tree exchanged;
          durable = new;
        });
    nowhere = λ known none. done_so r (no_root known (ap (λ (tree : Tree). directory_of tree root) plans.same.tree ∙ none)) (λ same. record {
      tree = same.tree ∙ plans.same.tree;
      clock = same.clock ∙ plans.same.clock;
      outcomes = same.outcomes ∙ plans.same.outcomes;
    });
    counted = λ known.
        let plan = plans.planned known in
        counted_so r counts (λ report is. record {
          paths = plan.paths;
          places = plan.places;
          chosen = plan.selected;
          counts = plan_counts change s.tree plan.paths plan.places lines report ((globs_select root globs).files s.tree (is_tree known) plan.paths plan.places plan.selected) plan.files is;
        });
    few = λ known. few_so r (plans.few known);
    fails = fault_so (ChangeFails change root (changed_paths lines) (course tells t u)) (JournalledFails change root globs (course tells s u)) r fails
        (fails_on change root globs tells s t u lines plans.planned plans.same plans.never_falls plans.later);
    pending = λ known stands. fault_and ComesFirst ComesBefore r (pending known (subst (λ (tree : Tree). IsPending tree root) (sym plans.same.tree) stands)) before_so;
    unwritten = λ known stands.
        no_more_on change root globs tells s t u lines plans.planned plans.same plans.never_falls plans.later (unwritten known (subst (λ (tree : Tree). IsPending tree root) (sym plans.same.tree) stands));
    complete = λ clear folder leads fresh room.
        fault_so WantsMemory IsForWantOfMemory r
        (complete clear.told (the_work clear.told folder leads fresh) (is_still clear.told folder leads fresh)
        (subst (λ (tree : Tree). HasRoomFor change tree root (changed_paths lines)) (sym plans.same.tree) (room lines (plans.planned clear.told)))
        (λ failed. clear.no_fault (risen_on s.faults t.faults u.faults plans.never_falls failed))) memory_so;
    elsewhere = λ clear none.
        fault_so WantsMemory IsForWantOfMemory r
        (elsewhere clear.told (subst (λ (tree : Tree). IsSome (reached tree root true)) (sym plans.same.tree) clear.leads)
        (ap (λ (tree : Tree). directory_of tree root) plans.same.tree ∙ none)
        (λ failed. clear.no_fault (risen_on s.faults t.faults u.faults plans.never_falls failed))) memory_so;
    bad_glob = λ place at. absurd (not_refused lines place (plans.bad_glob place at).1);
    lists = lists_then s t u plans.lists lists;
    never_falls = omega (arith, low, plans.never_falls);
  }
    where
      few_so : {P : Type 0} (r : Result Report JournalError) → P → OnOk r P
      few_so (Ok report) p = p
      few_so (Err failed) p = tt
