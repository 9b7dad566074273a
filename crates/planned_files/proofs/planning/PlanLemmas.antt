-- Plans that are made file by file.
use Rattle.std.proofs.Common.{◌≡◌, ℕ, ◌+◌, ◌<◌, ◌≤◌, Bool, List, [], ◌∷◌, ◌++◌, map, take, drop, length, get_or, refl, sym, ap, subst, ◌∙◌, inl, inr}
use Rattle.std.specs.Prelude.{IsTrue, All, None, is_some, Result, Ok, Err, IsErrAnd}
use Rattle.std.specs.List.{AllZip}
use Rattle.std.proofs.lemmas.Bool.{cases_Bool}
use Rattle.std.proofs.lemmas.List.{map_push, drop_more, take-append-drop}
use Rattle.std.proofs.lemmas.List.Elements.{All-nil, All-cons}
use Rattle.std.proofs.lemmas.List.Sums.{sum_by_push}
use Rattle.sd_io.specs.Tree.{Tree}
use Rattle.sd_io.specs.Count.{HasRisen}
use Rattle.sd_io.specs.Files.{file_of}
use Rattle.sd_io.specs.Disk.{DiskState, SameTree, SameLists}
use Rattle.sd_io.specs.declared.fault.DiskFault.{DiskFault}
use Rattle.sd_io.specs.declared.fault.DiskFault.TheVariants as disk
use Rattle.sd_change.specs.Change.{Change}
use Rattle.sd_course.specs.Course.{course}
use Rattle.file_exchange.proofs.CauseLemmas.{risen_since}
use Rattle.file_rewrite.specs.OneFile.{IsFileFault}
use Rattle.many_files.specs.Clear.{LeadsToFile}
use Rattle.many_files.proofs.CutLemmas.{at_cut}
use Rattle.many_files.proofs.KeepLemmas.{not_none}
use Rattle.sd_plan.specs.Plan.{replaced_in}
use Rattle.sd_plan.specs.declared.line.PlanLine.{PlanLine}
use Rattle.planned_files.specs.Planned.{PlansFiles, IsUnreadBy, Plans, path_of}

-- ---- one line more

pub zip_more : {A B : Type 0} (R : A → B → Type 0) (xs : List A) (ys : List B) (x : A) (y : B) → AllZip R xs ys → R x y → AllZip R (xs ++ x ∷ []) (ys ++ y ∷ [])
zip_more R [] [] x y all one = (one, tt)
zip_more R [] (b ∷ ys) x y all one = absurd all
zip_more R (a ∷ xs) [] x y all one = absurd all
zip_more R (a ∷ xs) (b ∷ ys) x y (first, all) one = (first, zip_more R xs ys x y all one)

pub replaced_more : (lines : List PlanLine) (line : PlanLine) → replaced_in (lines ++ line ∷ []) ≡ replaced_in lines + line.replaced
replaced_more lines line = sum_by_push (λ (line : PlanLine). line.replaced) lines line

pub paths_more : (lines : List PlanLine) (line : PlanLine) (paths : List (List ℕ)) (path : List ℕ) → map path_of lines ≡ paths → line.path ≡ path → map path_of (lines ++ line ∷ []) ≡ paths ++ path ∷ []
paths_more lines line paths path e same = map_push path_of lines line ∙ (λ i. e i ++ same i ∷ [])

-- the paths are those so far, this one, and the rest
pub cut_here : (paths done : List (List ℕ)) (path : List ℕ) → done ≡ take (length done) paths → length done < length paths → path ≡ get_or paths (length done) path
    → paths ≡ done ++ path ∷ drop (length done + 1) paths
cut_here paths done path all lt is =
    sym (take-append-drop (length done) paths) ∙ ap (λ (rest : List (List ℕ)). take (length done) paths ++ rest) (drop_more paths (length done) path lt)
    ∙ ap (λ (p : List ℕ). take (length done) paths ++ p ∷ drop (length done + 1) paths) (sym is)
    ∙ ap (λ (front : List (List ℕ)). front ++ path ∷ drop (length done + 1) paths) (sym all)

-- ---- what is answered

-- a fault that is told on is the answer
pub is_told : {T E : Type 0} (r : Result T E) (e : E) → IsErrAnd r (λ x. x ≡ e) → r ≡ Err e
is_told (Ok x) e is = absurd is
is_told (Err x) e is = ap Err is

-- a path that has a line leads to a file
lines_lead : (change : Change) (tree : Tree) (paths : List (List ℕ)) (lines : List PlanLine) → PlansFiles change tree paths lines → All (LeadsToFile tree) paths
lines_lead change tree [] [] are = All-nil (LeadsToFile tree)
lines_lead change tree [] (line ∷ lines) are = absurd are
lines_lead change tree (path ∷ paths) [] are = absurd are
lines_lead change tree (path ∷ paths) (line ∷ lines) (first, are) = All-cons (LeadsToFile tree) path paths (ap is_some first.is_file) (lines_lead change tree paths lines are)

-- why a file isn't read, told from the start
pub file_fault_since : (tells : Bool) (s0 s1 s2 : DiskState) → SameTree s0 s1 → s0.faults ≤ s1.faults → (path : List ℕ) (failed : DiskFault)
    → IsFileFault (course tells s1 s2) path failed → IsFileFault (course tells s0 s2) path failed
file_fault_since tells s0 s1 s2 same low path disk.Absent why = (
  (λ told. subst (λ (t : Tree). file_of t path ≡ None) same.tree (why.0 told)),
  (λ untold. risen_since s0.faults s1.faults s2.faults low (why.1 untold)),
)
file_fault_since tells s0 s1 s2 same low path disk.Taken why = why
file_fault_since tells s0 s1 s2 same low path disk.Failed why = risen_since s0.faults s1.faults s2.faults low why
file_fault_since tells s0 s1 s2 same low path disk.NoMemory why = why

unread_since : (tells : Bool) (s0 s1 s2 : DiskState) → SameTree s0 s1 → s0.faults ≤ s1.faults → (path : List ℕ) (failed : DiskFault)
    → IsUnreadBy (course tells s1 s2) path failed → IsUnreadBy (course tells s0 s2) path failed
unread_since tells s0 s1 s2 same low path disk.Absent why = file_fault_since tells s0 s1 s2 same low path disk.Absent why
unread_since tells s0 s1 s2 same low path disk.Taken why = why
unread_since tells s0 s1 s2 same low path disk.Failed why = file_fault_since tells s0 s1 s2 same low path disk.Failed why
unread_since tells s0 s1 s2 same low path disk.NoMemory why = tt

-- where the path leads to a file and no fault was counted, it is unread for want of memory alone
unread_for_memory : (tells : Bool) (s0 s2 : DiskState) (path : List ℕ) → (IsTrue tells → LeadsToFile s0.tree path) → (HasRisen s0.faults s2.faults → ⊥)
    → (failed : DiskFault) → IsUnreadBy (course tells s0 s2) path failed → failed ≡ disk.NoMemory
unread_for_memory tells s0 s2 path leads calm disk.Absent why = elim (cases_Bool tells) [
  | inl told ↦ absurd (not_none (file_of s0.tree path) (leads told) (why.0 told))
  | inr untold ↦ absurd (calm (why.1 untold))
]
unread_for_memory tells s0 s2 path leads calm disk.Taken why = absurd why
unread_for_memory tells s0 s2 path leads calm disk.Failed why = absurd (calm why)
unread_for_memory tells s0 s2 path leads calm disk.NoMemory why = refl

module _ (change : Change) (tells : Bool) (s0 s1 s2 : DiskState) (same : SameTree s0 s1) (low : s0.faults ≤ s1.faults) where
  -- a file isn't read
  pub not_planned : SameTree s0 s2 → SameLists s0 s2 → s0.faults ≤ s2.faults → (paths done : List (List ℕ)) (path : List ℕ) (later : List (List ℕ)) (lines : List PlanLine)
      → paths ≡ done ++ path ∷ later → (IsTrue tells → PlansFiles change s0.tree done lines) → (failed : DiskFault) → IsUnreadBy (course tells s1 s2) path failed
      → Plans change paths (Err failed) (course tells s0 s2)
  not_planned tree lists falls paths done path later lines cut planned failed why = record {
    planned = λ told. tt;
    paths_are = tt;
    fails = record {
      earlier = done;
      path = path;
      later = later;
      paths_are = cut;
      read = λ told. lines_lead change s0.tree done lines (planned told);
      why = unread_since tells s0 s1 s2 same low path failed why;
    };
    tree = tree;
    lists = lists;
    never_falls = falls;
    complete = λ clear.
        unread_for_memory tells s0 s2 path (λ told. at_cut (LeadsToFile s0.tree) paths done path later (clear.files told) cut) clear.no_fault failed
        (unread_since tells s0 s1 s2 same low path failed why);
  }
