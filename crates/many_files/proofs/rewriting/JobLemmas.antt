-- Why jobs failed, and which turns they are.
use Rattle.std.proofs.Common.{◌≡◌, ℕ, ◌≤◌, Bool, true, false, cond, List, [], ◌∷◌, ◌++◌, map, refl, sym, ◌∙◌, ap, subst, inl, inr, arith}
use Rattle.std.specs.Prelude.{Option, Some, None, is_none, IsTrue, All, Contains, sum_by, Result, Ok, Err, IfErr, ◌&&◌}
use Rattle.std.proofs.lemmas.List.{append-nil}
use Rattle.std.proofs.lemmas.List.Sums.{sum_by_push}
use Rattle.std.proofs.lemmas.List.Elements.{All-nil, All-push, All-weaker}
use Rattle.sd_io.specs.Count.{HasRisen}
use Rattle.sd_io.specs.Files.{file_of}
use Rattle.sd_io.specs.Disk.{DiskState}
use Rattle.sd_io.specs.declared.fault.DiskFault.{DiskFault}
use Rattle.sd_io.specs.declared.fault.DiskFault.TheVariants as disk
use Rattle.sd_course.specs.Course.{course, HasRisenBy}
use Rattle.file_exchange.specs.Reserved.{reserved_names}
use Rattle.file_exchange.proofs.CauseLemmas.{risen_since}
use Rattle.file_rewrite.specs.Paths.{IsNoPath}
use Rattle.file_rewrite.specs.OneFile.{HasFileCause}
use Rattle.file_rewrite.specs.declared.rewrite.Rewrite.{Rewrite}
use Rattle.file_rewrite.specs.declared.fault.JobFault.{JobFault}
use Rattle.file_rewrite.specs.declared.fault.JobFault.TheVariants as job
use Rattle.many_files.specs.Jobs.{Job, failed_of, end_of, faults_needed, HasJobCause, NamesFile}
use Rattle.many_files.specs.Turns.{Turn, path_of, fault_of, failed_turns}
use Rattle.many_files.proofs.rewriting.MemberLemmas.{In}
use Rattle.many_files.proofs.rewriting.TurnsLemmas.{rises_by}

-- ---- by which paths

-- the path of a file that failed is that of a file
pub failed_path_in : (paths : List (List ℕ)) (ends : List (Option JobFault)) (path : List ℕ) (fault : JobFault) → In (path, fault) (failed_of paths ends) → In path paths
failed_path_in [] ends path fault i = absurd i
failed_path_in (first ∷ paths) [] path fault i = absurd i
failed_path_in (first ∷ paths) (None ∷ ends) path fault i = inr (failed_path_in paths ends path fault i)
failed_path_in (first ∷ paths) (Some f ∷ ends) path fault (inl e) = inl (ap (λ (failed : Job). failed.0) e)
failed_path_in (first ∷ paths) (Some f ∷ ends) path fault (inr i) = inr (failed_path_in paths ends path fault i)

-- ---- which turns they are

failed_first : (path : List ℕ) (o : Option JobFault) (paths paths_more : List (List ℕ)) (ends ends_more : List (Option JobFault)) (last : List Job)
    → failed_of paths_more ends_more ≡ failed_of paths ends ++ last → failed_of (path ∷ paths_more) (o ∷ ends_more) ≡ failed_of (path ∷ paths) (o ∷ ends) ++ last
failed_first path None paths paths_more ends ends_more last e = e
failed_first path (Some fault) paths paths_more ends ends_more last e = ap (λ (list : List Job). (path, fault) ∷ list) e

-- one more turn
pub failed_more : (turns : List Turn) (now : Turn) → failed_turns (turns ++ now ∷ []) ≡ failed_turns turns ++ failed_of (now.path ∷ []) (now.fault ∷ [])
failed_more [] now = refl
failed_more (first ∷ turns) now =
    failed_first first.path first.fault (map path_of turns) (map path_of (turns ++ now ∷ [])) (map fault_of turns) (map fault_of (turns ++ now ∷ [])) (failed_of (now.path ∷ []) (now.fault ∷ [])) (failed_more turns now)

-- where no turn failed
none_of : (path : List ℕ) (o : Option JobFault) (paths : List (List ℕ)) (ends : List (Option JobFault)) → failed_of (path ∷ paths) (o ∷ ends) ≡ [] → (o ≡ None) × (failed_of paths ends ≡ [])
none_of path None paths ends e = (refl, e)
none_of path (Some fault) paths ends e = cc

pub no_fault : (turns : List Turn) → failed_turns turns ≡ [] → (t : Turn) → In t turns → t.fault ≡ None
no_fault [] e t i = absurd i
no_fault (first ∷ turns) e t (inl same) = sym (ap fault_of same) ∙ (none_of first.path first.fault (map path_of turns) (map fault_of turns) e).0
no_fault (first ∷ turns) e t (inr i) = no_fault turns (none_of first.path first.fault (map path_of turns) (map fault_of turns) e).1 t i

-- a turn that failed is a job
first_or_rest : (path : List ℕ) (o : Option JobFault) (paths : List (List ℕ)) (ends : List (Option JobFault)) (failed : Job) → In failed (failed_of paths ends) → In failed (failed_of (path ∷ paths) (o ∷ ends))
first_or_rest path None paths ends failed i = i
first_or_rest path (Some fault) paths ends failed i = inr i

first_failed : (path : List ℕ) (o : Option JobFault) (fault : JobFault) (paths : List (List ℕ)) (ends : List (Option JobFault)) → o ≡ Some fault → In (path, fault) (failed_of (path ∷ paths) (o ∷ ends))
first_failed path None fault paths ends e = cc
first_failed path (Some other) fault paths ends e = inl cc

pub is_job : (turns : List Turn) (t : Turn) (fault : JobFault) → In t turns → t.fault ≡ Some fault → In (t.path, fault) (failed_turns turns)
is_job [] t fault i e = i
is_job (first ∷ turns) t fault (inl same) e =
    subst (λ (x : Turn). In (x.path, fault) (failed_turns (first ∷ turns))) same (first_failed first.path first.fault fault (map path_of turns) (map fault_of turns) (ap fault_of same ∙ e))
is_job (first ∷ turns) t fault (inr i) e = first_or_rest first.path first.fault (map path_of turns) (map fault_of turns) (t.path, fault) (is_job turns t fault i e)

-- where the jobs are cut, the turns are
pub record IsCutAt (turns : List Turn) (earlier : List Job) (path : List ℕ) (fault : JobFault) : Type 0 where
  pub before : List Turn
  pub after : List Turn
  pub turn : Turn
  pub cut : turns ≡ before ++ turn ∷ after
  pub earlier_are : failed_turns before ≡ earlier
  pub path_is : turn.path ≡ path
  pub fault_is : turn.fault ≡ Some fault

more_before : (first : Turn) (turns : List Turn) (o : Option JobFault) (head earlier : List Job) (path : List ℕ) (fault : JobFault) → first.fault ≡ o → failed_of (first.path ∷ []) (o ∷ []) ≡ head
    → IsCutAt turns earlier path fault → IsCutAt (first ∷ turns) (head ++ earlier) path fault
more_before first turns None head earlier path fault is e at = record {
  before = first ∷ at.before;
  after = at.after;
  turn = at.turn;
  cut = ap (λ (list : List Turn). first ∷ list) at.cut;
  earlier_are =
      ap (λ (o : Option JobFault). failed_of (first.path ∷ map path_of at.before) (o ∷ map fault_of at.before)) is ∙ at.earlier_are
      ∙ ap (λ (list : List Job). list ++ earlier) e;
  path_is = at.path_is;
  fault_is = at.fault_is;
}
more_before first turns (Some f) head earlier path fault is e at = record {
  before = first ∷ at.before;
  after = at.after;
  turn = at.turn;
  cut = ap (λ (list : List Turn). first ∷ list) at.cut;
  earlier_are =
      ap (λ (o : Option JobFault). failed_of (first.path ∷ map path_of at.before) (o ∷ map fault_of at.before)) is ∙ ap (λ (list : List Job). (first.path, f) ∷ list) at.earlier_are
      ∙ ap (λ (list : List Job). list ++ earlier) e;
  path_is = at.path_is;
  fault_is = at.fault_is;
}

no_jobs_cut : (earlier later : List Job) (failed : Job) → [] ≡ earlier ++ failed ∷ later → ⊥
no_jobs_cut [] later failed e = cc
no_jobs_cut (first ∷ earlier) later failed e = cc

pub cut_at : (turns : List Turn) (earlier later : List Job) (path : List ℕ) (fault : JobFault) → failed_turns turns ≡ earlier ++ (path, fault) ∷ later → IsCutAt turns earlier path fault
cut_at [] earlier later path fault e = absurd (no_jobs_cut earlier later (path, fault) e)
cut_at (first ∷ turns) earlier later path fault e = by (λ earlier e. cut_at turns earlier later path fault e) first.fault refl earlier e
  where
    by : ((earlier : List Job) → failed_turns turns ≡ earlier ++ (path, fault) ∷ later → IsCutAt turns earlier path fault)
        → (o : Option JobFault) → first.fault ≡ o → (earlier : List Job) → failed_of (first.path ∷ map path_of turns) (o ∷ map fault_of turns) ≡ earlier ++ (path, fault) ∷ later → IsCutAt (first ∷ turns) earlier path fault
    by rest None is earlier e = more_before first turns None [] earlier path fault is refl (rest earlier e)
    by rest (Some f) is [] e =
        let this : (first.path, f) ≡ (path, fault) = cc in
        record {
          before = [];
          after = turns;
          turn = first;
          cut = refl;
          earlier_are = refl;
          path_is = ap (λ (failed : Job). failed.0) this;
          fault_is = is ∙ ap (λ (failed : Job). Some failed.1) this;
        }
    by rest (Some f) is (one ∷ more) e =
        let this : (first.path, f) ≡ one = cc in
        let onward : failed_turns turns ≡ more ++ (path, fault) ∷ later = cc in
        more_before first turns (Some f) (one ∷ []) more path fault is (ap (λ (failed : Job). failed ∷ []) this) (rest more onward)
