-- How the planning of the selected files ends.
use Rattle.std.proofs.Common.{◌≡◌, ◌≢◌, ◌∙◌, ℕ, ◌≤◌, Bool, true, false, cond, List, [], ◌∷◌, ◌++◌, refl, sym, ap, subst, inr, arith}
use Rattle.std.specs.Prelude.{Option, Some, None, IsSome, IsTrue, All, Result, Ok, Err, IsErrAnd, MatchResult, nat_eq}
use Rattle.std.specs.List.{ends_with}
use Rattle.std.proofs.lemmas.List.Elements.{All-weaker, All-head, All-tail}
use Rattle.sd_io.specs.Count.{HasRisen}
use Rattle.sd_io.specs.Tree.{Tree, IsTree}
use Rattle.sd_io.specs.Files.{file_of}
use Rattle.sd_io.specs.Disk.{DiskState, SameTree}
use Rattle.sd_io.specs.declared.fault.DiskFault.{DiskFault}
use Rattle.sd_io.specs.declared.fault.DiskFault.TheVariants as disk
use Rattle.sd_change.specs.Change.{Change}
use Rattle.sd_course.specs.Course.{Course, course}
use Rattle.file_exchange.proofs.CauseLemmas.{risen_since}
use Rattle.walk_rest.specs.Plan.{path_below}
use Rattle.chosen_files.specs.Chosen.{IsPathBelow}
use Rattle.chosen_files.specs.Choice.{KeepsLists}
use Rattle.chosen_files.specs.Globs.{IsFirstInvalid}
use Rattle.many_files.specs.Clear.{LeadsToFile}
use Rattle.many_files.proofs.ListedLemmas.{listed_files}
use Rattle.sd_plan.specs.declared.line.PlanLine.{PlanLine}
use Rattle.planned_files.specs.Planned.{IsUnreadBy, PlanningFails, Plans, PlansFiles}
use Rattle.sd_core.specs.Errors.{of_disk}
use Rattle.sd_core.specs.Plan.{PlansTree, TreeNotPlanned}
use Rattle.sd_core.specs.Selection.{Selection, ListsSelected}
use Rattle.sd_core.specs.declared.error.Error.{Error}
use Rattle.sd_core.specs.declared.error.Error.TheVariants as error
use Rattle.sd_core.proofs.selecting.SelectionLemmas.{IsSelection}

-- ---- paths

either : {A : Type 0} (P : A → Type 0) (b : Bool) (x y : A) → P x → P y → P (cond b x y)
either P true x y p q = p
either P false x y p q = q

some_in_front : (x : ℕ) (xs : List ℕ) → x ∷ xs ≡ [] → ⊥
some_in_front x xs e = cc

some_below : (root names : List ℕ) → path_below root names ≡ [] → ⊥
some_below [] names e = some_in_front 47 names e
some_below (c ∷ root) names e =
    either (λ (l : List ℕ). l ≡ [] → ⊥) (ends_with nat_eq (c ∷ root) (47 ∷ [])) ((c ∷ root) ++ names) (((c ∷ root) ++ 47 ∷ []) ++ names)
    (some_in_front c (root ++ names)) (some_in_front c ((root ++ 47 ∷ []) ++ names)) e

-- a path below a root is never empty
pub paths_some : (root : List ℕ) (paths : List (List ℕ)) → All (IsPathBelow root) paths → All (λ path. path ≢ []) paths
paths_some root paths all = All-weaker (IsPathBelow root) (λ path. path ≢ []) (λ path below e. some_below root below.0 (sym below.1 ∙ e)) paths all

middle : (P : List ℕ → Type 0) (front : List (List ℕ)) (path : List ℕ) (back : List (List ℕ)) → All P (front ++ path ∷ back) → P path
middle P [] path back all = All-head P path back all
middle P (first ∷ front) path back all = middle P front path back (All-tail P first (front ++ path ∷ back) all)

not_none : (o : Option (List ℕ × ℕ)) → IsSome o → o ≡ None → ⊥
not_none None is e = cc
not_none (Some x) is e = cc

-- ---- its end

-- how the answer of the planning of the files is told
abbrev pub told : Result (List PlanLine) DiskFault → Result (List PlanLine) Error
told (Ok lines) = Ok lines
told (Err fault) = Err (of_disk fault)

pub told_is : (r : Result (List PlanLine) DiskFault) (made : Result (List PlanLine) Error) → MatchResult r (λ x. made ≡ Ok x) (λ fault. IsErrAnd made (λ e. e ≡ of_disk fault)) → made ≡ told r
told_is (Ok lines) made is = is
told_is (Err fault) (Ok lines) is = absurd is
told_is (Err fault) (Err e) is = ap Err is

module _ (change : Change) (selection : Selection) (law : IsSelection selection) (s0 s1 s2 : DiskState) (same : SameTree s0 s1) (paths : List (List ℕ)) (cap : ℕ) (tells : Bool)
    (low : s0.faults ≤ s1.faults) (more : s0.listed ≤ s1.listed) (is_tree : IsTrue tells → IsTree s0.tree) (selected : IsTrue tells → ListsSelected selection s0.tree paths)
    (few : IsTrue tells → selection.HasFewer cap s0.tree) (same_disk : Type 0) (valid : (place : ℕ) → IsFirstInvalid selection.globs place → ⊥) where
  are_files : IsTrue tells → All (LeadsToFile s1.tree) paths
  are_files known =
      let (places, listed) = selected known in
      subst (λ (t : Tree). All (LeadsToFile t) paths) (sym same.tree)
      (listed_files s0.tree (is_tree known) paths places (law.files s0.tree (is_tree known) paths places listed))

  risen : HasRisen s1.faults s2.faults → HasRisen s0.faults s2.faults
  risen rose = risen_since s0.faults s1.faults s2.faults low rose

  -- a selected file isn't read with a counted fault alone
  fails_so : (fault : DiskFault) → PlanningFails paths (course tells s1 s2) fault → TreeNotPlanned selection cap (course tells s0 s2) (of_disk fault)
  fails_so fault fails = by fault fails.why
    where
      absent : (b : Bool) → tells ≡ b → IsUnreadBy (course tells s1 s2) fails.path disk.Absent → HasRisen s0.faults s2.faults
      absent true known why =
          let there = middle (LeadsToFile s1.tree) fails.earlier fails.path fails.later (subst (All (LeadsToFile s1.tree)) fails.paths_are (are_files known)) in
          absurd (not_none (file_of s1.tree fails.path) there (why.0 known))
      absent false untold why = risen (why.1 untold)

      by : (f : DiskFault) → IsUnreadBy (course tells s1 s2) fails.path f → TreeNotPlanned selection cap (course tells s0 s2) (of_disk f)
      by disk.Absent why = absent tells refl why
      by disk.Taken why = absurd why
      by disk.Failed why = risen why
      by disk.NoMemory why = tt

  pub planned : (r : Result (List PlanLine) DiskFault) → SameTree s0 s2 → KeepsLists 10 s0 s2 → Plans change paths r (course tells s1 s2)
      → PlansTree change selection cap same_disk (told r) (course tells s0 s2)
  planned (Ok lines) kept lists plans = record {
    planned = λ known. record {
      paths = paths;
      places = (selected known).0;
      selected = (selected known).1;
      files = subst (λ (t : Tree). PlansFiles change t paths lines) same.tree (plans.planned known);
    };
    few = few;
    fails = tt;
    bad_glob = λ place at. absurd (valid place at);
    same = kept;
    lists = lists;
    never_falls = omega (arith, low, plans.never_falls);
    later = (let same = plans.lists.listed in omega (arith, more, same));
    complete = λ clear. tt;
  }
  planned (Err fault) kept lists plans = record {
    planned = λ known. tt;
    few = λ known. tt;
    fails = fails_so fault plans.fails;
    bad_glob = λ place at. absurd (valid place at);
    same = kept;
    lists = lists;
    never_falls = omega (arith, low, plans.never_falls);
    later = (let same = plans.lists.listed in omega (arith, more, same));
    complete = λ clear. ap of_disk (plans.complete (record { files = are_files; no_fault = λ rose. clear.no_fault (risen rose) }));
  }

-- there was no memory for its text
pub no_text : (change : Change) (selection : Selection) (cap : ℕ) (same_disk : Type 0) (lines : List PlanLine) (d : Course DiskState) → PlansTree change selection cap same_disk (Ok lines) d
    → PlansTree change selection cap same_disk (Err error.NoMemory) d
no_text change selection cap same_disk lines d plans = record {
  planned = λ known. tt;
  few = λ known. tt;
  fails = tt;
  bad_glob = λ place at. ((plans.bad_glob place at).0, inr refl);
  same = plans.same;
  lists = plans.lists;
  never_falls = plans.never_falls;
  later = plans.later;
  complete = λ clear. refl;
}
