-- Exactly when each refusal of a line comes, and that right lines are refused for want of memory alone.
use Rattle.std.proofs.Common.{◌≡◌, ◌⊎◌, ℕ, Bool, List, refl, sym, ◌∙◌, ap, subst, inl, inr}
use Rattle.std.specs.Prelude.{Option, Some, None, IsTrue, is_some, All, Err}
use Rattle.std.proofs.lemmas.Option.{same_Some}
use Rattle.sd_io.specs.Tree.{Tree}
use Rattle.sd_io.specs.Files.{file_of}
use Rattle.sd_io.specs.Count.{HasRisen}
use Rattle.sd_io.specs.Disk.{DiskState}
use Rattle.sd_io.specs.declared.fault.DiskFault.{DiskFault}
use Rattle.sd_io.specs.declared.fault.DiskFault.TheVariants as disk
use Rattle.sd_change.specs.Change.{Change, FileChange, IsOne}
use Rattle.sd_course.specs.Course.{course}
use Rattle.file_rewrite.specs.OneFile.{IsFileFault}
use Rattle.many_files.specs.Clear.{LeadsToFile}
use Rattle.many_files.proofs.CutLemmas.{two_cuts, at_cut}
use Rattle.many_files.proofs.KeepLemmas.{not_none}
use Rattle.sd_plan.specs.Sha256.{sha256}
use Rattle.sd_plan.specs.declared.line.PlanLine.{PlanLine}
use Rattle.planned_files.specs.Checked.{IsRight, IsStale, IsDifferent, IsNextAfterRight, LineFails, FailsFirst, CheckFails}
use Rattle.planned_files.specs.Applied.{IsOrMemory, IsApplyForMemory}
use Rattle.planned_files.specs.declared.fault.ApplyFault.{ApplyFault}
use Rattle.planned_files.specs.declared.fault.ApplyFault.TheVariants as fault
use Rattle.planned_files.proofs.applying.FileLemmas.{one_file_change}

-- ---- a path leads to one file, which becomes one thing

same_file : (o : Option (List ℕ × ℕ)) (bytes others : List ℕ) (m n : ℕ) → o ≡ Some (bytes, m) → o ≡ Some (others, n) → bytes ≡ others
same_file o bytes others m n is also = ap (λ (p : List ℕ × ℕ). p.0) (same_Some (bytes, m) (others, n) (sym is ∙ also))

same_new : (change : Change) → IsOne change → (bytes others new_bytes new_others : List ℕ) (m n : ℕ) → bytes ≡ others → FileChange change bytes new_bytes m → FileChange change others new_others n
    → new_bytes ≡ new_others
same_new change one bytes others new_bytes new_others m n same is also =
    (one_file_change change one others new_bytes new_others m n (subst (λ (b : List ℕ). FileChange change b new_bytes m) same is) also).0

-- ---- a right line is none of these

pub absent_isnt_right : (change : Change) (tree : Tree) (line : PlanLine) → file_of tree line.path ≡ None → IsRight change tree line → ⊥
absent_isnt_right change tree line none right = not_none (file_of tree line.path) (ap is_some right.is_file) none

pub stale_isnt_right : (change : Change) (tree : Tree) (line : PlanLine) (found : List ℕ) → IsStale tree line found → IsRight change tree line → ⊥
stale_isnt_right change tree line found stale right =
    stale.differs (right.before ∙ ap sha256 (same_file (file_of tree line.path) right.bytes stale.bytes right.mode stale.mode right.is_file stale.is_file) ∙ sym stale.found_is)

pub other_isnt_right : (change : Change) → IsOne change → (tree : Tree) (line : PlanLine) (found : List ℕ) → IsDifferent change tree line found → IsRight change tree line → ⊥
other_isnt_right change one tree line found other right =
    let bytes = same_file (file_of tree line.path) right.bytes other.bytes right.mode other.mode right.is_file other.is_file in
    other.differs
    (right.after ∙ ap sha256 (same_new change one right.bytes other.bytes right.new_bytes other.new_bytes right.count other.count bytes right.new_bytes_are other.new_bytes_are)
    ∙ sym other.found_is)

-- where all lines are right, the next after right ones is
pub never_there : (change : Change) (tree : Tree) (lines : List PlanLine) (line : PlanLine) → All (IsRight change tree) lines → IsNextAfterRight change tree lines line
    → (IsRight change tree line → ⊥) → ⊥
never_there change tree lines line right next wrong = wrong (at_cut (IsRight change tree) lines next.earlier line next.later right next.lines_are)

module _ (change : Change) (one : IsOne change) (tells : Bool) (told : IsTrue tells) (s0 s1 : DiskState) (calm : HasRisen s0.faults s1.faults → ⊥) where
  no_file_fault : (path : List ℕ) → LeadsToFile s0.tree path → (failed : DiskFault) → IsFileFault (course tells s0 s1) path failed → ⊥
  no_file_fault path leads disk.Absent why = not_none (file_of s0.tree path) leads (why.0 told)
  no_file_fault path leads disk.Taken why = why
  no_file_fault path leads disk.Failed why = calm why
  no_file_fault path leads disk.NoMemory why = why

  absent_alone : (path : List ℕ) (failed : DiskFault) → IsFileFault (course tells s0 s1) path failed → failed ≡ disk.Absent
  absent_alone path disk.Absent why = refl
  absent_alone path disk.Taken why = absurd why
  absent_alone path disk.Failed why = absurd (calm why)
  absent_alone path disk.NoMemory why = absurd why

  right_for_memory : (line : PlanLine) → IsRight change s0.tree line → (failed : ApplyFault) → LineFails change line (course tells s0 s1) failed → failed ≡ fault.NoMemory
  right_for_memory line right (fault.File failed) why = absurd (no_file_fault line.path (ap is_some right.is_file) failed why)
  right_for_memory line right (fault.Stale path planned found) why = absurd (stale_isnt_right change s0.tree line found (why.told told) right)
  right_for_memory line right (fault.Differs path planned found) why = absurd (other_isnt_right change one s0.tree line found (why.told told) right)
  right_for_memory line right (fault.Failed jobs) why = absurd why
  right_for_memory line right fault.NoMemory why = refl

  -- ---- what is told of the first line that isn't right

  absent_told : (line : PlanLine) → file_of s0.tree line.path ≡ None → (failed : ApplyFault) → LineFails change line (course tells s0 s1) failed
      → (failed ≡ fault.File disk.Absent) ⊎ (failed ≡ fault.NoMemory)
  absent_told line none (fault.File failed) why = inl (ap fault.File (absent_alone line.path failed why))
  absent_told line none (fault.Stale path planned found) why = absurd (not_none (file_of s0.tree line.path) (ap is_some (why.told told).is_file) none)
  absent_told line none (fault.Differs path planned found) why = absurd (not_none (file_of s0.tree line.path) (ap is_some (why.told told).is_file) none)
  absent_told line none (fault.Failed jobs) why = absurd why
  absent_told line none fault.NoMemory why = inr refl

  stale_told : (line : PlanLine) (found : List ℕ) → IsStale s0.tree line found → (failed : ApplyFault) → LineFails change line (course tells s0 s1) failed
      → (failed ≡ fault.Stale line.path line.before found) ⊎ (failed ≡ fault.NoMemory)
  stale_told line found stale (fault.File failed) why = absurd (no_file_fault line.path (ap is_some stale.is_file) failed why)
  stale_told line found stale (fault.Stale path planned other) why =
      let also = why.told told in
      let same : other ≡ found =
      also.found_is ∙ ap sha256 (same_file (file_of s0.tree line.path) also.bytes stale.bytes also.mode stale.mode also.is_file stale.is_file) ∙ sym stale.found_is in
      inl (λ i. fault.Stale (why.path_is i) (why.planned_is i) (same i))
  stale_told line found stale (fault.Differs path planned other) why =
      let also = why.told told in
      absurd (stale.differs (also.before ∙ ap sha256 (same_file (file_of s0.tree line.path) also.bytes stale.bytes also.mode stale.mode also.is_file stale.is_file) ∙ sym stale.found_is))
  stale_told line found stale (fault.Failed jobs) why = absurd why
  stale_told line found stale fault.NoMemory why = inr refl

  other_told : (line : PlanLine) (found : List ℕ) → IsDifferent change s0.tree line found → (failed : ApplyFault) → LineFails change line (course tells s0 s1) failed
      → (failed ≡ fault.Differs line.path line.after found) ⊎ (failed ≡ fault.NoMemory)
  other_told line found other (fault.File failed) why = absurd (no_file_fault line.path (ap is_some other.is_file) failed why)
  other_told line found other (fault.Stale path planned more) why =
      let also = why.told told in
      absurd (also.differs (other.before ∙ ap sha256 (same_file (file_of s0.tree line.path) other.bytes also.bytes other.mode also.mode other.is_file also.is_file) ∙ sym also.found_is))
  other_told line found other (fault.Differs path planned more) why =
      let also = why.told told in
      let bytes = same_file (file_of s0.tree line.path) also.bytes other.bytes also.mode other.mode also.is_file other.is_file in
      let same : more ≡ found =
      also.found_is ∙ ap sha256 (same_new change one also.bytes other.bytes also.new_bytes other.new_bytes also.count other.count bytes also.new_bytes_are other.new_bytes_are)
      ∙ sym other.found_is in
      inl (λ i. fault.Differs (why.path_is i) (why.planned_is i) (same i))
  other_told line found other (fault.Failed jobs) why = absurd why
  other_told line found other fault.NoMemory why = inr refl

  -- ---- of all lines

  module _ (lines : List PlanLine) (line : PlanLine) (next : IsNextAfterRight change s0.tree lines line) (wrong : IsRight change s0.tree line → ⊥) (expected : ApplyFault)
      (tells_it : (failed : ApplyFault) → LineFails change line (course tells s0 s1) failed → (failed ≡ expected) ⊎ (failed ≡ fault.NoMemory)) where
    as_answer : (failed : ApplyFault) → (failed ≡ expected) ⊎ (failed ≡ fault.NoMemory) → IsOrMemory expected (Err failed)
    as_answer failed (inl e) = inl (ap Err e)
    as_answer failed (inr e) = inr (ap Err e)

    -- the check fails there, or before for want of memory
    at_first : (failed : ApplyFault) → FailsFirst change lines (course tells s0 s1) failed → IsOrMemory expected (Err failed)
    at_first failed f = elim (two_cuts next.earlier line next.later f.earlier f.line f.later (sym next.lines_are ∙ f.lines_are)) [
      | inl (all, here) ↦ as_answer failed (tells_it failed (subst (λ (l : PlanLine). LineFails change l (course tells s0 s1) failed) (sym here) f.why))
      | inr (inl (more, is)) ↦
          as_answer failed (inr (right_for_memory f.line (at_cut (IsRight change s0.tree) next.earlier f.earlier f.line more next.right is) failed f.why))
      | inr (inr (more, is)) ↦ absurd (wrong (at_cut (IsRight change s0.tree) f.earlier next.earlier line more (f.right told) is))
    ]

    answered : (failed : ApplyFault) → CheckFails change lines (course tells s0 s1) failed → IsOrMemory expected (Err failed)
    answered (fault.File failed) f = at_first (fault.File failed) f
    answered (fault.Stale path planned found) f = at_first (fault.Stale path planned found) f
    answered (fault.Differs path planned found) f = at_first (fault.Differs path planned found) f
    answered (fault.Failed jobs) f = at_first (fault.Failed jobs) f
    answered fault.NoMemory f = inr refl

  module _ (lines : List PlanLine) (failed : ApplyFault) (fails : CheckFails change lines (course tells s0 s1) failed) (line : PlanLine) (next : IsNextAfterRight change s0.tree lines line) where
    pub check_absent : file_of s0.tree line.path ≡ None → IsOrMemory (fault.File disk.Absent) (Err failed)
    check_absent none = answered lines line next (absent_isnt_right change s0.tree line none) (fault.File disk.Absent) (absent_told line none) failed fails

    pub check_stale : (found : List ℕ) → IsStale s0.tree line found → IsOrMemory (fault.Stale line.path line.before found) (Err failed)
    check_stale found stale =
        answered lines line next (stale_isnt_right change s0.tree line found stale) (fault.Stale line.path line.before found) (stale_told line found stale) failed fails

    pub check_differs : (found : List ℕ) → IsDifferent change s0.tree line found → IsOrMemory (fault.Differs line.path line.after found) (Err failed)
    check_differs found other =
        answered lines line next (other_isnt_right change one s0.tree line found other) (fault.Differs line.path line.after found) (other_told line found other) failed fails

  -- ---- where all lines are right

  pub check_for_memory : (tree : Tree) (lines : List PlanLine) → All (IsRight change s0.tree) lines → (failed : ApplyFault) → CheckFails change lines (course tells s0 s1) failed
      → IsApplyForMemory tree failed
  check_for_memory tree lines right failed fails = by failed fails
    where
      first : (f : ApplyFault) → FailsFirst change lines (course tells s0 s1) f → IsApplyForMemory tree f
      first f fails =
          subst (IsApplyForMemory tree) (sym (right_for_memory fails.line (at_cut (IsRight change s0.tree) lines fails.earlier fails.line fails.later right fails.lines_are) f fails.why)) tt

      by : (f : ApplyFault) → CheckFails change lines (course tells s0 s1) f → IsApplyForMemory tree f
      by (fault.File failed) fails = first (fault.File failed) fails
      by (fault.Stale path planned found) fails = first (fault.Stale path planned found) fails
      by (fault.Differs path planned found) fails = first (fault.Differs path planned found) fails
      by (fault.Failed jobs) fails = first (fault.Failed jobs) fails
      by fault.NoMemory fails = tt
