use Rattle.std.proofs.Common.{◌≡◌, ◌≢◌, ◌<◌, ◌+◌, ℕ, Bool, true, false, cond, List, [], ◌∷◌, ◌++◌, length, None, Some, refl, sym, ◌∙◌, ap, subst, inl, inr, arith}
use Rattle.std.specs.Prelude.{codes, is_none, map}
use Rattle.std.proofs.lemmas.Bool.{false≢true}
use Rattle.std.proofs.lemmas.List.Elements.{All-from_recursion}
use Rattle.std.proofs.lemmas.List.Sums.{sum_by-cons}
use Rattle.sd_io.specs.Disk.{SameTree}
use Rattle.sd_io.specs.Files.{file_of}
use Rattle.sd_io.specs.Paths.{reached}
use Rattle.sd_io.specs.Tree.{Tree, node_at}
use Rattle.sd_io.specs.declared.fault.DiskFault.TheVariants as disk
use Rattle.sd_course.specs.Course.{course, HasRisenBy}
use Rattle.file_rewrite.specs.declared.fault.JobFault.TheVariants as job
use Rattle.file_rewrite.specs.Examples.{OneToDigit, a_place}
use Rattle.chosen_files.specs.Chosen.{IsPathBelow}
use Rattle.chosen_files.specs.Globs.{IsValid}
use Rattle.chosen_files.proofs.ChosenLemmas.{one_list_of_paths}
use Rattle.chosen_files.proofs.GlobLemmas.{invalid_one, valid_one}
use Rattle.sd_core.specs.Examples.{failed_at, txt}
use Rattle.many_files.specs.Jobs.{Job, HasJobCause, NamesFile, faults_needed}
use Rattle.many_files.specs.Turns.{Turn, IsTurn, fault_of, path_of}
use Rattle.many_files.proofs.MemberLemmas.{In}
use Rattle.many_files.proofs.JobLemmas.{failed_path_in}
use Rattle.sd_core.proofs.examples.SmallTreeLemmas.{few_below, t_chosen, to_none, to_t_by_dot}
use Rattle.sd_core.proofs.examples.sweeps_fail_as_in_the_examples.Goals as goal

-- ---- globs

star : IsValid (codes "*")
star = valid_one (codes "*") (omega arith, tt) refl

open_brace : ¬ IsValid (codes "{a")
open_brace = invalid_one (codes "{a") (omega arith, (omega arith, tt)) refl

pub returns-clause-bad_glob : goal.returns-clause-bad_glob
returns-clause-bad_glob c = λ d same. (subst (SameTree d.old) (sym same) (record { tree = refl; clock = refl; outcomes = refl }), ((star, open_brace), same))

pub returns-clause-valid_glob : goal.returns-clause-valid_glob
returns-clause-valid_glob c = λ d fails. fails.1.0 star

-- ---- the root

pub returns-clause-no_root : goal.returns-clause-no_root
returns-clause-no_root c = λ old new tree same. (
  same,
  (
    (λ told. ap (λ (t : Tree). reached t (codes "/n") true) tree ∙ to_none),
    (λ off. absurd (false≢true (sym off))),
  ),
)

-- ---- jobs

-- at most one counted fault is needed
risen_by_one : (needed : Bool) (before now : ℕ) → before < now → HasRisenBy (cond needed 0 1 + 0) before now
risen_by_one true before now rose = inl (omega (arith, rose))
risen_by_one false before now rose = inl (omega (arith, rose))

-- no name was taken
no_temp_name : (path other : List ℕ) (earlier later : List Job) → failed_at path ≢ earlier ++ (other, job.TempName) ∷ later
no_temp_name path other [] later e =
    let head : ◌≡◌ {A = Job} (path, job.File disk.Failed) (other, job.TempName) = cc e in
    let fault : job.File disk.Failed ≡ job.TempName = ap (λ (failed : Job). failed.1) head in
    cc fault
no_temp_name path other (first ∷ []) later e = cc
no_temp_name path other (first ∷ next ∷ more) later e = cc

pub returns-clause-one_failed : goal.returns-clause-one_failed
returns-clause-one_failed c = λ old new tree kept rose.
    let path = codes "./t/a.txt" in
    let leads = ap (λ (t : Tree). reached t (codes "./t/") true) tree ∙ to_t_by_dot in
    let turn : Turn = record { path = path; place = a_place; fault = Some (job.File disk.Failed); left = None } in
    record {
      some = λ none. cc;
      few = λ told. few_below old.tree tree (codes "./t/") leads;
      files = λ told. record {
        paths = path ∷ [];
        places = a_place ∷ [];
        selected = (t_chosen old.tree tree (codes "./t/") leads, refl);
        files = record {
          turns = turn ∷ [];
          paths_are = refl;
          places_are = refl;
          jobs_are = refl;
          each =
              All-from_recursion (IsTurn OneToDigit old new) (turn ∷ []) (
                record { file = ap (λ (t : Tree). node_at t a_place) kept; was_free = λ q e. cc; failed = λ e. cc },
                tt,
              );
          others = λ q no_place no_name. ap (λ (t : Tree). node_at t q) kept;
          counted = inl (omega (arith, rose));
        };
      };
      causes = record {
        counted =
            subst (λ (needed : ℕ). HasRisenBy needed old.faults new.faults) (sym (sum_by-cons (faults_needed true old.tree) (path, job.File disk.Failed) []))
            (risen_by_one (is_none (file_of old.tree path)) old.faults new.faults rose);
        causes = All-from_recursion (HasJobCause (course true old new)) (failed_at path) (inl rose, tt);
        crowded = λ told earlier later other e. absurd (no_temp_name path other earlier later e);
      };
      name_files = All-from_recursion NamesFile (failed_at path) (tt, tt);
      below_root = All-from_recursion (λ (failed : Job). IsPathBelow (codes "./t/") failed.0) (failed_at path) ((codes "a.txt", refl), tt);
    }

other_text : codes "./t/a.txt" ≢ codes "/t/a.txt"
other_text e = let long : 9 ≡ 8 = ap length e in omega (arith, long)

pub returns-clause-other_path : goal.returns-clause-other_path
returns-clause-other_path c = λ old new tree fails.
    let below = fails.files refl in
    let leads = ap (λ (t : Tree). reached t (codes "./t/") true) tree ∙ to_t_by_dot in
    let one = one_list_of_paths old.tree (codes "./t/") txt below.paths (codes "./t/a.txt" ∷ []) below.selected.0 (t_chosen old.tree tree (codes "./t/") leads) in
    let turns = below.files.turns in
    let job_is_in = subst (λ (jobs : List Job). In (codes "/t/a.txt", job.File disk.Failed) jobs) below.files.jobs_are (inl refl) in
    let path_is_in = failed_path_in (map path_of turns) (map fault_of turns) (codes "/t/a.txt") (job.File disk.Failed) job_is_in in
    elim (subst (λ (paths : List (List ℕ)). In (codes "/t/a.txt") paths) (below.files.paths_are ∙ one) path_is_in) [
      | inl same ↦ absurd (other_text same)
      | inr none ↦ absurd none
    ]

pub returns-clause-none_failed : goal.returns-clause-none_failed
returns-clause-none_failed c = λ d fails. fails.some refl
