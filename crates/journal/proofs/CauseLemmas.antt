-- Why a step that carries a change out is refused.
use Rattle.std.proofs.Common.{true, false, Bool, ◌≡◌, ◌≤◌, ℕ, List, [], ◌∷◌, refl, sym, ◌∙◌, ap, subst, ◌⊎◌, inl, inr, arith}
use Rattle.std.specs.Prelude.{◌==◌, ◌&&◌, None, IsTrue, Contains, Result, Ok, Err, IsErrOf, IsErrAnd, IfErr, OnOk}
use Rattle.std.specs.List.{list_all, join_with_byte}
use Rattle.std.proofs.lemmas.Map.Views.{exact_unsigned_eq}
use Rattle.sd_io.specs.declared.fault.DiskFault.{DiskFault}
use Rattle.sd_io.specs.declared.fault.DiskFault.TheVariants as disk
use Rattle.sd_io.specs.Tree.{Name, NameList, IsName, Tree, node_at}
use Rattle.sd_io.specs.Paths.{parts_of, parent_of, SameWays}
use Rattle.sd_io.specs.Disk.{DiskState, SameTree, HasCause}
use Rattle.sd_io.specs.Files.{path_text, file_of, IsNoFile, Removes, CannotRemove}
use Rattle.sd_io.specs.Lists.{directory_of, IsNoDirectory}
use Rattle.sd_io.proofs.WayLemmas.{directory_alike, removes_ways}
use Rattle.sd_course.specs.Course.{course, HasRisenBy}
use Rattle.file_exchange.specs.Reserved.{reserved_names}
use Rattle.file_exchange.proofs.CauseLemmas.{risen_since}
use Rattle.file_rewrite.specs.Faults.{as_job}
use Rattle.file_rewrite.specs.Paths.{IsNoPath}
use Rattle.file_rewrite.specs.OneFile.{IsMoveFault, IsCrowded, HasFileCause}
use Rattle.file_rewrite.specs.declared.fault.JobFault.{JobFault}
use Rattle.file_rewrite.specs.declared.fault.JobFault.TheVariants as job
use Rattle.journal_text.specs.declared.line.Line.{Line}
use Rattle.journal_text.specs.Paths.{AreNames, IsResolvedPath}
use Rattle.journal_text.proofs.PathLemmas.{path_parts}
use Rattle.journal_text.specs.Journal.{IsLine}
use Rattle.change_phases.specs.Between.{place_of, stage_of}
use Rattle.change_phases.proofs.LineLemmas.{first}
use Rattle.journal.specs.Placing.{SameFiles, HasLineCause}
use Rattle.journal.specs.Clearing.{RemovesAt, RemovalFails, ClearingFails, SyncingFails}
use Rattle.journal.proofs.LineLemmas.{in_folder}
use Rattle.journal.proofs.FolderLemmas.{no_folder}
use Rattle.journal.proofs.ClearingLemmas.{only_one}
use Rattle.journal.proofs.SameFilesLemmas.{files_same, no_file_before, crowded_before}

-- what holds of the error that is told on
pub told_on : {T E : Type 0} (P : E → Type 0) (r : Result T E) (e : E) → IsErrAnd r (λ x. x ≡ e) → P e → IfErr r P
told_on P (Ok x) e is p = tt
told_on P (Err x) e is p = subst P (sym is) p

pub more_since : (n before middle now : ℕ) → before ≤ middle → HasRisenBy n middle now → HasRisenBy n before now
more_since n before middle now low (inl rose) = inl (omega arith)
more_since n before middle now low (inr last) = inr last

-- a resolved path isn't `/` alone
slash : (b : ℕ) (bytes : Name) (rest : Bool) → IsName (b ∷ bytes) → (b == 47 && rest) ≡ true → ⊥
slash b bytes rest is e = by (b == 47) refl e
  where
    by : (t : Bool) → (b == 47) ≡ t → (t && rest) ≡ true → ⊥
    by true same e = is.no_slash (subst (Contains (b ∷ bytes)) (exact_unsigned_eq b 47 same) (first b bytes))
    by false same e = cc

first_byte : (name : Name) (rest : NameList) → IsName name → list_all (λ byte. byte == 47) (join_with_byte 47 (name ∷ rest)) ≡ true → ⊥
first_byte [] rest is all = is.nonempty refl
first_byte (b ∷ bytes) [] is all = slash b bytes _ is all
first_byte (b ∷ bytes) (next ∷ rest) is all = slash b bytes _ is all

pub is_path : (path : List ℕ) → IsResolvedPath path → IsNoPath path → ⊥
is_path path is none =
    let (are, text) = path_parts path is in
    by (parts_of path) are (subst IsNoPath text none)
  where
    by : (place : NameList) → AreNames place → IsNoPath (path_text place) → ⊥
    by [] are none = are.some refl
    by (name ∷ rest) are none = first_byte name rest are.each.0 none

-- ---- one line

-- its stage isn't read
pub stage_cause : {T : Type 0} (tells : Bool) (s t : DiskState) (line : Line) (path : List ℕ) (fault : DiskFault) → path ≡ path_text (stage_of line) → HasCause {T = T} tells s t (Err fault)
    → (IsErrOf {T = T} (Err fault) disk.Taken → ⊥) → (IsTrue tells → IsErrOf {T = T} (Err fault) disk.Absent → IsNoFile s path) → HasLineCause (course tells s t) (line ∷ []) (as_job fault)
stage_cause tells s t line path disk.Absent text cause not_taken none = (
  (λ told. (line, first line [], inr (ap (file_of s.tree) (sym text) ∙ none told refl))),
  (λ untold. inl (cause.absent untold refl)),
)
stage_cause tells s t line path disk.Taken text cause not_taken none = absurd (not_taken refl)
stage_cause tells s t line path disk.Failed text cause not_taken none = cause.failed refl
stage_cause tells s t line path disk.NoMemory text cause not_taken none = tt

-- its file isn't put in place
pub put_cause : (tells : Bool) (s t : DiskState) (line : Line) (path : List ℕ) (fault : JobFault) → path ≡ line.path → IsResolvedPath path → HasFileCause (course tells s t) path fault
    → HasLineCause (course tells s t) (line ∷ []) fault
put_cause tells s t line path (job.File disk.Absent) text is cause = ((λ told. (line, first line [], inl (ap (file_of s.tree) (sym text) ∙ cause.0 told))), cause.1)
put_cause tells s t line path (job.File disk.Taken) text is cause = cause
put_cause tells s t line path (job.File disk.Failed) text is cause = cause
put_cause tells s t line path (job.File disk.NoMemory) text is cause = cause
put_cause tells s t line path (job.TempfilePersist fault) text is cause = cause
put_cause tells s t line path job.InvalidPath text is cause = is_path path is cause
put_cause tells s t line path job.TempName text is cause = ((λ told. (line, first line [], subst (λ (p : List ℕ). IsCrowded s.tree p 0) text (cause.0 told))), cause.1)
put_cause tells s t line path job.NoMemory text is cause = tt

-- ---- from an earlier state on

move_since : (tells : Bool) (old now new : DiskState) (fault : DiskFault) → old.faults ≤ now.faults → IsMoveFault (course tells now new) fault → IsMoveFault (course tells old new) fault
move_since tells old now new disk.Absent low cause = (cause.0, λ untold. risen_since old.faults now.faults new.faults low (cause.1 untold))
move_since tells old now new disk.Taken low cause = cause
move_since tells old now new disk.Failed low cause = risen_since old.faults now.faults new.faults low cause
move_since tells old now new disk.NoMemory low cause = cause

module _ (tells : Bool) (old now new : DiskState) (lines some : List Line) (among : (line : Line) → Contains some line → Contains lines line) (same : IsTrue tells → SameFiles old.tree now.tree)
    (low : old.faults ≤ now.faults) where
  pub cause_since : (fault : JobFault) → HasLineCause (course tells now new) some fault → HasLineCause (course tells old new) lines fault
  cause_since (job.File disk.Absent) cause = (
    (λ told.
        let (line, has, lacks) = cause.0 told in (
          line,
          among line has,
          elim lacks [
            | inl none ↦ inl (no_file_before old.tree now.tree (same told) line.path none)
            | inr none ↦ inr (no_file_before old.tree now.tree (same told) (path_text (stage_of line)) none)
          ],
        )),
    (λ untold. risen_since old.faults now.faults new.faults low (cause.1 untold)),
  )
  cause_since (job.File disk.Taken) cause = cause
  cause_since (job.File disk.Failed) cause = risen_since old.faults now.faults new.faults low cause
  cause_since (job.File disk.NoMemory) cause = cause
  cause_since (job.TempfilePersist fault) cause = move_since tells old now new fault low cause
  cause_since job.InvalidPath cause = cause
  cause_since job.TempName cause = (
    (λ told. let (line, has, full) = cause.0 told in (line, among line has, crowded_before old.tree now.tree (same told) line.path 0 full)),
    (λ untold. more_since reserved_names old.faults now.faults new.faults low (cause.1 untold)),
  )
  cause_since job.NoMemory cause = tt

pub one_among : (lines : List Line) (line : Line) → Contains lines line → (other : Line) → Contains (line ∷ []) other → Contains lines other
one_among lines line has other of = subst (Contains lines) (only_one line other of) has

pub put_fails : (tells : Bool) (old now new : DiskState) (line : Line) (path : List ℕ) (r : Result (Unit {0}) JobFault) → path ≡ line.path → IsResolvedPath path → SameTree old now → old.faults ≤ now.faults
    → IfErr r (HasFileCause (course tells now new) path) → IfErr r (HasLineCause (course tells old new) (line ∷ []))
put_fails tells old now new line path (Ok done) text is same low cause = tt
put_fails tells old now new line path (Err fault) text is same low cause =
    cause_since tells old now new (line ∷ []) (line ∷ []) (λ other has. has) (λ told. files_same old.tree now.tree same.tree) low fault (put_cause tells now new line path fault text is cause)

-- ---- the journal isn't removed

pub removal_cause : {T : Type 0} (tells : Bool) (s t : DiskState) (root path : List ℕ) (fault : DiskFault) → HasCause {T = T} tells s t (Err fault) → (IsErrOf {T = T} (Err fault) disk.Taken → ⊥)
    → (IsTrue tells → IsErrOf {T = T} (Err fault) disk.Absent → CannotRemove s path ⊎ IsNoDirectory s root) → RemovalFails (course tells s t) root path fault
removal_cause tells s t root path disk.Absent cause not_taken none = ((λ told. none told refl), (λ untold. inl (cause.absent untold refl)))
removal_cause tells s t root path disk.Taken cause not_taken none = absurd (not_taken refl)
removal_cause tells s t root path disk.Failed cause not_taken none = cause.failed refl
removal_cause tells s t root path disk.NoMemory cause not_taken none = tt

-- the root isn't put on the medium, after the journal was removed
pub root_cause : (tells : Bool) (s m t : DiskState) (root path : List ℕ) (r : Result (Unit {0}) DiskFault) → s.faults ≤ m.faults → (IsTrue tells → SameWays s.tree m.tree) → HasCause tells m t r
    → (IsErrOf r disk.Taken → ⊥) → (IsTrue tells → IsErrOf r disk.Absent → IsNoDirectory m root) → IfErr r (RemovalFails (course tells s t) root path)
root_cause tells s m t root path (Ok done) low ways cause not_taken none = tt
root_cause tells s m t root path (Err disk.Absent) low ways cause not_taken none = (
  (λ told. inr (sym (directory_alike (ways told) root) ∙ none told refl)),
  (λ untold. risen_since s.faults m.faults t.faults low (inl (cause.absent untold refl))),
)
root_cause tells s m t root path (Err disk.Taken) low ways cause not_taken none = absurd (not_taken refl)
root_cause tells s m t root path (Err disk.Failed) low ways cause not_taken none = risen_since s.faults m.faults t.faults low (cause.failed refl)
root_cause tells s m t root path (Err disk.NoMemory) low ways cause not_taken none = tt

pub removed_at : (s t u : DiskState) (path : List ℕ) (r : Result (Unit {0}) DiskFault) → Removes s path t → OnOk r (u.tree ≡ t.tree) → OnOk r (RemovesAt path s u)
removed_at s t u path (Err fault) gone tree = tt
removed_at s t u path (Ok done) gone tree = record {
  place = gone.place;
  names = gone.names;
  gone = ap (λ (x : Tree). node_at x gone.place) tree ∙ gone.gone;
  others = λ q n. ap (λ (x : Tree). node_at x q) tree ∙ gone.others q n;
  ways = subst (SameWays s.tree) (sym tree) (removes_ways s path t gone);
}

-- ---- the stages aren't removed

pub clearing_cause : {T : Type 0} (tells : Bool) (s t : DiskState) (fault : DiskFault) → HasCause {T = T} tells s t (Err fault) → (IsErrOf {T = T} (Err fault) disk.Taken → ⊥) → (fault ≡ disk.Absent → ⊥)
    → ClearingFails (course tells s t) fault
clearing_cause tells s t disk.Absent cause not_taken not_absent = absurd (not_absent refl)
clearing_cause tells s t disk.Taken cause not_taken not_absent = absurd (not_taken refl)
clearing_cause tells s t disk.Failed cause not_taken not_absent = cause.failed refl
clearing_cause tells s t disk.NoMemory cause not_taken not_absent = tt

pub clearing_since : (tells : Bool) (old now new : DiskState) (fault : DiskFault) → old.faults ≤ now.faults → ClearingFails (course tells now new) fault → ClearingFails (course tells old new) fault
clearing_since tells old now new disk.Absent low cause = cause
clearing_since tells old now new disk.Taken low cause = cause
clearing_since tells old now new disk.Failed low cause = risen_since old.faults now.faults new.faults low cause
clearing_since tells old now new disk.NoMemory low cause = tt

-- ---- the folders aren't put on the medium

pub syncing_cause : {T : Type 0} (tells : Bool) (old now new : DiskState) (lines : List Line) (line : Line) (folder : List ℕ) (fault : DiskFault) → Contains lines line → IsLine line
    → folder ≡ path_text (parent_of (place_of line)) → (IsTrue tells → now.tree ≡ old.tree) → old.faults ≤ now.faults → HasCause {T = T} tells now new (Err fault)
    → (IsErrOf {T = T} (Err fault) disk.Taken → ⊥) → (IsTrue tells → IsErrOf {T = T} (Err fault) disk.Absent → IsNoDirectory now folder) → SyncingFails (course tells old new) lines fault
syncing_cause tells old now new lines line folder disk.Absent has is text tree low cause not_taken none = (
  (λ told. (line, has, is, ap (λ (t : Tree). directory_of t (path_text (parent_of (place_of line)))) (sym (tree told)) ∙ ap (directory_of now.tree) (sym text) ∙ none told refl)),
  (λ untold. risen_since old.faults now.faults new.faults low (inl (cause.absent untold refl))),
)
syncing_cause tells old now new lines line folder disk.Taken has is text tree low cause not_taken none = absurd (not_taken refl)
syncing_cause tells old now new lines line folder disk.Failed has is text tree low cause not_taken none = risen_since old.faults now.faults new.faults low (cause.failed refl)
syncing_cause tells old now new lines line folder disk.NoMemory has is text tree low cause not_taken none = tt

-- a line without its folder lacks its file
pub no_folder_no_file : (tree : Tree) (line : Line) → IsLine line → directory_of tree (path_text (parent_of (place_of line))) ≡ None → file_of tree line.path ≡ None
no_folder_no_file tree line is none =
    let at = in_folder line is.path in
    ap (file_of tree) at.text ∙ no_folder tree (parent_of (place_of line)) at.name (subst AreNames at.place_is (path_parts line.path is.path).0) none
