-- Why a change isn't made, and when nothing but want of memory refuses it.
use Rattle.std.proofs.Common.{true, false, Bool, ◌≡◌, ◌≢◌, ◌≤◌, ℕ, List, [], ◌∷◌, ◌++◌, length, if◌then◌else◌, refl, sym, ◌∙◌, ap, subst, inl, inr, arith}
use Rattle.std.specs.Prelude.{Option, Some, None, IsSome, is_some, IsTrue, ◌↔◌, option_map, IfSome, Contains, Result, Ok, Err, IfErr, IsErrAnd, MatchResult}
use Rattle.std.specs.Option.{option_and_then}
use Rattle.std.proofs.lemmas.Option.{same_Some}
use Rattle.sd_io.specs.declared.fault.DiskFault.{DiskFault}
use Rattle.sd_io.specs.declared.fault.DiskFault.TheVariants as disk
use Rattle.sd_io.specs.declared.meta.Kind.{Kind}
use Rattle.sd_io.specs.Tree.{NameList, Node, Tree, IsTree, node_at, file_node, file_at, is_directory_at}
use Rattle.sd_io.specs.Paths.{parts_of, parent_of, reached, way_of_node, SameWays}
use Rattle.sd_io.specs.Disk.{DiskState, SameTree, HoldsPresent}
use Rattle.sd_io.specs.Files.{path_text, file_of, kind_of, LeadsNowhere}
use Rattle.sd_io.specs.Lists.{directory_of, IsNoDirectory, SyncsFolder}
use Rattle.sd_io.proofs.WayLemmas.{same_or_other, ways_kept, file_has_no_way, directory_alike}
use Rattle.sd_io.proofs.OutcomeLemmas.{parent_of_child}
use Rattle.sd_course.specs.Course.{course, DiskFailed}
use Rattle.sd_change.specs.Change.{Change}
use Rattle.file_exchange.specs.Reserved.{Free, NoneFree, reserved_name, reserved_names}
use Rattle.file_exchange.specs.Exchange.{IsFilePath}
use Rattle.file_exchange.proofs.CauseLemmas.{risen_since}
use Rattle.file_exchange.proofs.PlaceLemmas.{placed}
use Rattle.file_rewrite.specs.declared.fault.JobFault.{JobFault}
use Rattle.file_rewrite.specs.declared.fault.JobFault.TheVariants as job
use Rattle.journal_text.specs.declared.line.Line.{Line}
use Rattle.change_phases.specs.Between.{journal_name, place_of, stage_of}
use Rattle.change_phases.proofs.WorkLemmas.{reserved_not_journal}
use Rattle.journal.specs.declared.fault.JournalFault.{JournalFault}
use Rattle.journal.specs.declared.fault.JournalFault.TheVariants as fault
use Rattle.journal.specs.Faults.{of_disk, WantsMemory}
use Rattle.journal.specs.Beside.{KeepsAllButFree, AddsBeside}
use Rattle.journal.specs.Finding.{FindsEntry, LookFails, kind_at}
use Rattle.journal.specs.Recovering.{RootFails}
use Rattle.journal.specs.Clearing.{SyncingFails, LeavesNoMore, IsStage}
use Rattle.journal.specs.Planning.{AddsFiles, AddsStages, CountStages, LeadToFiles, MissesFile, AreNotStaged}
use Rattle.journal.specs.Changing.{IsPending, ComesFirst, WritingFails, IsWritten, IsLineCrowded, EndFails, IsTooCrowded, IsFilledUp, IsUnfinished, LeavesAllButFree, MakingFails, ChangeFails}
use Rattle.journal.proofs.ClearingLemmas.{no_more_same, no_more_then, no_more_synced}
use Rattle.journal.proofs.SameFilesLemmas.{none_stands, file_stands}
use Rattle.journal.proofs.CauseLemmas.{more_since, no_folder_no_file}
use Rattle.journal.proofs.StagingLemmas.{stage_or_not, free_at_most, free_same}

-- ---- the stages aren't made

pub staged_making : (change : Change) (tells : Bool) (root : List ℕ) (paths : List (List ℕ)) (s t : DiskState) (refused : JournalFault) → LeavesAllButFree (course tells s t) → AreNotStaged change (course tells s t) paths refused
    → MakingFails change root paths (course tells s t) refused
staged_making change tells root paths s t fault.RootMissing free fails = fails
staged_making change tells root paths s t (fault.File refused) free fails = (free, fails)
staged_making change tells root paths s t fault.Pending free fails = fails
staged_making change tells root paths s t (fault.TempName text) free fails = (
  free,
  ((λ told lead. let (folder, is, few) = fails.0 told lead in record { folder = folder; text_is = is; too_few = inl few }), fails.1),
)
staged_making change tells root paths s t (fault.Unfinished job) free fails = absurd fails
staged_making change tells root paths s t fault.BadJournal free fails = fails
staged_making change tells root paths s t (fault.StageMissing stage) free fails = fails
staged_making change tells root paths s t (fault.StageDiffers stage planned found) free fails = fails
staged_making change tells root paths s t fault.NoMemory free fails = free

-- ---- a step is refused that doesn't write

pub step_making : (change : Change) (tells : Bool) (root : List ℕ) (paths : List (List ℕ)) (s u v : DiskState) (absent : Type 0) (refused : DiskFault) → LeavesAllButFree (course tells s v) → s.faults ≤ u.faults
    → (IsTrue tells → absent → ⊥) → LookFails (course tells u v) absent refused → MakingFails change root paths (course tells s v) (of_disk refused)
step_making change true root paths s u v absent disk.Absent free low none fails = absurd (none refl (fails.0 refl))
step_making change false root paths s u v absent disk.Absent free low none fails = (free, inl (risen_since s.faults u.faults v.faults low (fails.1 refl)))
step_making change tells root paths s u v absent disk.Taken free low none fails = absurd fails
step_making change tells root paths s u v absent disk.Failed free low none fails = (free, inl (risen_since s.faults u.faults v.faults low fails))
step_making change tells root paths s u v absent disk.NoMemory free low none fails = free

-- the folders of the lines stand
pub syncing_making : (change : Change) (tells : Bool) (root : List ℕ) (paths : List (List ℕ)) (s u v : DiskState) (lines : List Line) (refused : DiskFault) → LeavesAllButFree (course tells s v) → s.faults ≤ u.faults
    → (IsTrue tells → IsTree u.tree) → (IsTrue tells → (line : Line) → Contains lines line → IsFilePath u.tree line.path) → SyncingFails (course tells u v) lines refused
    → MakingFails change root paths (course tells s v) (of_disk refused)
syncing_making change true root paths s u v lines disk.Absent free low is are fails =
    let (line, has, is_line, none) = fails.0 refl in
    let it = are refl line has in
    absurd (none_stands (file_of u.tree line.path) (no_folder_no_file u.tree line is_line none)
    (subst IsSome (sym (ap (option_and_then (file_at u.tree)) (placed u.tree line.path (is refl) it).leads)) it.is_file))
syncing_making change false root paths s u v lines disk.Absent free low is are fails = (free, inl (risen_since s.faults u.faults v.faults low (fails.1 refl)))
syncing_making change tells root paths s u v lines disk.Taken free low is are fails = absurd fails
syncing_making change tells root paths s u v lines disk.Failed free low is are fails = (free, inl (risen_since s.faults u.faults v.faults low fails))
syncing_making change tells root paths s u v lines disk.NoMemory free low is are fails = free

-- ---- the stages are made, and their folders on the medium

-- what is known then, of a disk that tells its tree
pub record IsReady (change : Change) (paths : List (List ℕ)) (root path : List ℕ) (lines : List Line) (s t v : DiskState) : Type 0 where
  pub folder : NameList
  pub leads : directory_of s.tree root ≡ Some folder
  pub path_is : path ≡ path_text (folder ++ journal_name ∷ [])
  pub folder_is : parent_of (parts_of path) ≡ folder
  pub no_journal : node_at s.tree (folder ++ journal_name ∷ []) ≡ None
  pub adds : AddsFiles s t
  pub stages : AddsStages lines s.tree t.tree
  pub counted : LeadToFiles s.tree paths → CountStages change s.tree paths lines
  pub paths_stand : (line : Line) → Contains lines line → IsFilePath t.tree line.path
  pub same : v.tree ≡ t.tree

module _ (change : Change) (tells : Bool) (paths : List (List ℕ)) (root path : List ℕ) (lines : List Line) (s t v : DiskState) (ready : IsTrue tells → IsReady change paths root path lines s t v) (low : s.faults ≤ v.faults) where
  -- the journal isn't written
  pub writing_making : (w : DiskState) (refused : JournalFault) → LeavesAllButFree (course tells s w) → WritingFails (course tells v w) path refused → MakingFails change root paths (course tells s w) refused
  writing_making w fault.RootMissing free fails = fails
  writing_making w (fault.File refused) free fails = (free, inl (risen_since s.faults v.faults w.faults low fails))
  writing_making w fault.Pending free fails = fails
  writing_making w (fault.TempName text) free fails = (
    free,
    (
      (λ told lead.
          let r = ready told in
          let (is, none) = fails.0 told in
          let (places, have, among) = r.counted lead r.folder in
          let none_free : NoneFree t.tree r.folder = subst (λ (x : Tree). NoneFree x r.folder) r.same (subst (NoneFree v.tree) r.folder_is none) in
          record {
            folder = r.folder;
            text_is = is ∙ ap path_text r.folder_is;
            too_few = inr (
              r.leads,
              record {
                changed = length places;
                changes = have;
                free = length places;
                few = free_at_most s.tree t.tree lines r.folder places r.stages among none_free;
                fewer = omega arith;
              },
            );
          }),
      (λ untold. more_since reserved_names s.faults v.faults w.faults low (fails.1 untold)),
    ),
  )
  writing_making w (fault.Unfinished job) free fails = absurd fails
  writing_making w fault.BadJournal free fails = fails
  writing_making w (fault.StageMissing stage) free fails = fails
  writing_making w (fault.StageDiffers stage planned found) free fails = fails
  writing_making w fault.NoMemory free fails = free

  module _ (w : DiskState) (temporary : List ℕ) (written : IsTrue tells → AddsBeside (parent_of (parts_of path)) temporary v.tree w.tree) where
    place_free : (told : IsTrue tells) → node_at t.tree (written told).temporary ≡ None
    place_free told = ap (λ (x : Tree). node_at x (written told).temporary) (sym (ready told).same) ∙ (written told).was_free.free

    -- what stood before it was written stands
    stands_on : (told : IsTrue tells) (q : NameList) → IsSome (node_at t.tree q) → node_at w.tree q ≡ node_at t.tree q
    stands_on told q stood =
        (written told).others q (λ e. none_stands (node_at t.tree q) (ap (node_at t.tree) e ∙ place_free told) stood) ∙ ap (λ (x : Tree). node_at x q) (ready told).same

    no_reserved : (told : IsTrue tells) (folder : NameList) (n : ℕ) → folder ++ reserved_name n ∷ [] ≢ (ready told).folder ++ journal_name ∷ []
    no_reserved told folder n = reserved_not_journal (record { tree = s.tree; root = (ready told).folder; files = [] }) folder n

    pub is_written : (told : IsTrue tells) → IsTree t.tree → IsWritten lines temporary path root w.tree
    is_written told is =
        let r = ready told in
        let b = written told in
        let ways : SameWays v.tree w.tree = ways_kept b.temporary v.tree w.tree b.others (ap way_of_node b.was_free.free) (file_has_no_way (node_at w.tree b.temporary) b.is_file) in
        record {
          folder = r.folder;
          leads = directory_alike ways root ∙ ap (λ (x : Tree). directory_of x root) r.same ∙ directory_alike r.adds.ways root ∙ r.leads;
          path_is = r.path_is;
          free =
              b.others (r.folder ++ journal_name ∷ []) (λ e. no_reserved told (parent_of (parts_of path)) b.was_free.reserved.0 (sym (e ∙ b.was_free.reserved.2)))
              ∙ ap (λ (x : Tree). node_at x (r.folder ++ journal_name ∷ [])) r.same
              ∙ r.stages.others (r.folder ++ journal_name ∷ []) (λ (line, has, e). no_reserved told (parent_of (place_of line)) line.number (sym e))
              ∙ r.no_journal;
          place = b.temporary;
          names = b.names;
          is_file = b.is_file;
          apart = λ line has. (
            (λ e. none_stands (node_at t.tree (place_of line)) (ap (node_at t.tree) (sym e) ∙ place_free told) (file_stands (node_at t.tree (place_of line)) (r.paths_stand line has).is_file)),
            (λ e. none_stands (node_at t.tree (stage_of line)) (ap (node_at t.tree) (sym e) ∙ place_free told) (file_stands (node_at t.tree (stage_of line)) (r.stages.is_file line has))),
          );
          paths = λ line has.
              let it = r.paths_stand line has in
              record {
                path_is = it.path_is;
                is_file = subst (λ (o : Option Node). IsSome (file_node o)) (sym (stands_on told (place_of line) (file_stands (node_at t.tree (place_of line)) it.is_file))) it.is_file;
              };
          stages = λ line has.
              let it = r.stages.is_file line has in
              subst (λ (o : Option Node). IsSome (file_node o)) (sym (stands_on told (stage_of line) (file_stands (node_at t.tree (stage_of line)) it))) it;
        }

    -- a line's folder is full
    filled_up : (told : IsTrue tells) → LeadToFiles s.tree paths → IsLineCrowded w.tree lines temporary → IsFilledUp change s.tree paths
    filled_up told lead c =
        let r = ready told in
        let (places, have, among) = r.counted lead (parent_of (place_of c.line)) in
        record {
          folder = parent_of (place_of c.line);
          changed = length places;
          some = (let in_it = among c.line c.has refl in omega (arith, in_it.1));
          changes = have;
          few = record {
            places = places;
            few = omega arith;
            all = λ q free. elim (stage_or_not lines q) [
              | inl (line, has, e) ↦
                  let of : parent_of (place_of line) ≡ parent_of (place_of c.line) =
                  sym (parent_of_child (parent_of (place_of line)) (reserved_name line.number)) ∙ ap parent_of (sym e ∙ free.reserved.2) ∙ parent_of_child (parent_of (place_of c.line)) (reserved_name free.reserved.0) in
                  subst (Contains places) (sym e) (among line has of)
              | inr n ↦ absurd (by q free n)
            ];
          };
        }
      where
        by : (q : NameList) → Free s.tree (parent_of (place_of c.line)) q → (IsStage lines q → ⊥) → ⊥
        by q free n = elim (same_or_other q (written told).temporary) [
          | inl here ↦ c.no_journal q free.reserved ((written told).names ∙ ap (λ (p : NameList). Some p) (sym here))
          | inr apart ↦
              none_stands (node_at w.tree q)
              ((written told).others q apart ∙ ap (λ (x : Tree). node_at x q) (ready told).same ∙ (ready told).stages.others q n ∙ free.free)
              (c.taken q free.reserved)
        ]

    -- it isn't carried out
    pub unfinished : (x : DiskState) → s.faults ≤ w.faults → (refused : JobFault) → EndFails (course tells w x) lines temporary refused → IsUnfinished change paths (course tells s x) refused
    unfinished x low_w (job.File refused) fails = risen_since s.faults w.faults x.faults low_w fails
    unfinished x low_w (job.TempfilePersist refused) fails = risen_since s.faults w.faults x.faults low_w fails
    unfinished x low_w job.InvalidPath fails = fails
    unfinished x low_w job.TempName fails = (
      (λ told lead. filled_up told lead (fails.0 told)),
      (λ untold. more_since reserved_names s.faults w.faults x.faults low_w (fails.1 untold)),
    )
    unfinished x low_w job.NoMemory fails = tt

-- ---- from an earlier state of the same tree

module _ (change : Change) (tells : Bool) (root : List ℕ) (paths : List (List ℕ)) (s t x : DiskState) (same : IsTrue tells → t.tree ≡ s.tree) (low : s.faults ≤ t.faults) where
  free_since : LeavesAllButFree (course tells t x) → LeavesAllButFree (course tells s x)
  free_since free told = subst (λ (y : Tree). KeepsAllButFree y x.tree) (same told) (free told)

  misses_since : MissesFile (course tells t x) paths → MissesFile (course tells s x) paths
  misses_since (inl counted) = inl (risen_since s.faults t.faults x.faults low counted)
  misses_since (inr (told, (path, has, none))) = inr (told, (path, has, ap (λ (y : Tree). file_of y path) (sym (same told)) ∙ none))

  unfinished_since : (refused : JobFault) → IsUnfinished change paths (course tells t x) refused → IsUnfinished change paths (course tells s x) refused
  unfinished_since (job.File refused) fails = risen_since s.faults t.faults x.faults low fails
  unfinished_since (job.TempfilePersist refused) fails = risen_since s.faults t.faults x.faults low fails
  unfinished_since job.InvalidPath fails = fails
  unfinished_since job.TempName fails = (
    (λ told. subst (λ (y : Tree). LeadToFiles y paths → IsFilledUp change y paths) (same told) (fails.0 told)),
    (λ untold. more_since reserved_names s.faults t.faults x.faults low (fails.1 untold)),
  )
  unfinished_since job.NoMemory fails = tt

  pub change_fails : (refused : JournalFault) → MakingFails change root paths (course tells t x) refused → ChangeFails change root paths (course tells s x) refused
  change_fails fault.RootMissing fails = absurd fails
  change_fails (fault.File refused) fails = (free_since fails.0, misses_since fails.1)
  change_fails fault.Pending fails = absurd fails
  change_fails (fault.TempName text) fails = (
    free_since fails.0,
    (
      (λ told. subst (λ (y : Tree). LeadToFiles y paths → IsTooCrowded change y root paths text) (same told) (fails.1.0 told)),
      (λ untold. more_since reserved_names s.faults t.faults x.faults low (fails.1.1 untold)),
    ),
  )
  change_fails (fault.Unfinished refused) fails = unfinished_since refused fails
  change_fails fault.BadJournal fails = fails
  change_fails (fault.StageMissing stage) fails = fails
  change_fails (fault.StageDiffers stage planned found) fails = fails
  change_fails fault.NoMemory fails = free_since fails

-- ---- it is carried out

-- the same of paths that are told twice
pub end_making : (change : Change) (tells : Bool) (paths : List (List ℕ)) (root path again : List ℕ) (lines : List Line) (s t v w x : DiskState) (temporary other : List ℕ) (r : Result (Unit {0}) JobFault) → path ≡ again
    → temporary ≡ other → (IsTrue tells → IsReady change paths root path lines s t v) → s.faults ≤ v.faults → s.faults ≤ w.faults → (IsTrue tells → AddsBeside (parent_of (parts_of path)) temporary v.tree w.tree)
    → (IsTrue tells → IsTree t.tree) → ((IsTrue tells → IsWritten lines other again root w.tree) → IfErr r (EndFails (course tells w x) lines other)) → IfErr r (IsUnfinished change paths (course tells s x))
end_making change tells paths root path again lines s t v w x temporary other (Ok done) same_path same_temporary ready low low_w written is fails = tt
end_making change tells paths root path again lines s t v w x temporary other (Err refused) same_path same_temporary ready low low_w written is fails =
    let at : (IsTrue tells → IsWritten lines temporary path root w.tree) → EndFails (course tells w x) lines temporary refused =
    subst (λ (q : List ℕ). (IsTrue tells → IsWritten lines q path root w.tree) → EndFails (course tells w x) lines q refused) (sym same_temporary)
    (subst (λ (p : List ℕ). (IsTrue tells → IsWritten lines other p root w.tree) → EndFails (course tells w x) lines other refused) (sym same_path) fails) in
    unfinished change tells paths root path lines s t v ready low w temporary written x low_w refused (at (λ told. is_written change tells paths root path lines s t v ready low w temporary written told (is told)))

-- an answer whose refusal is told as another
pub told_err : {T E F : Type 0} (P : E → Type 0) (Q : F → Type 0) (of : E → F) (r : Result T E) (q : Result T F) → MatchResult r (λ x. q ≡ Ok x) (λ fault. IsErrAnd q (λ e. e ≡ of fault)) → IfErr r P
    → ((e : E) → P e → Q (of e)) → IfErr q Q
told_err P Q of (Ok x) q is p on = subst (λ r. IfErr r Q) (sym is) tt
told_err P Q of (Err f) (Ok x) is p on = tt
told_err P Q of (Err f) (Err e) is p on = subst Q (sym is) (on f p)

-- ---- the root is looked at

-- a path that leads to a directory leads somewhere
pub leads_somewhere : (s : DiskState) (root : List ℕ) → IsSome (directory_of s.tree root) → LeadsNowhere s root true → ⊥
leads_somewhere s root there none =
    none_stands (directory_of s.tree root) (ap (option_and_then (λ place. if is_directory_at s.tree place then Some place else None)) none) there

pub root_fails : (change : Change) (tells : Bool) (root : List ℕ) (paths : List (List ℕ)) (s t : DiskState) (refused : JournalFault) → SameTree s t → RootFails (course tells s t) root refused
    → ChangeFails change root paths (course tells s t) refused
root_fails change tells root paths s t fault.RootMissing same fails = (same, fails)
root_fails change tells root paths s t (fault.File refused) same fails = ((λ told. free_same s.tree t.tree same.tree), inl fails)
root_fails change tells root paths s t fault.Pending same fails = absurd fails
root_fails change tells root paths s t (fault.TempName folder) same fails = absurd fails
root_fails change tells root paths s t (fault.Unfinished job) same fails = absurd fails
root_fails change tells root paths s t fault.BadJournal same fails = fails
root_fails change tells root paths s t (fault.StageMissing path) same fails = fails
root_fails change tells root paths s t (fault.StageDiffers path planned found) same fails = fails
root_fails change tells root paths s t fault.NoMemory same fails = λ told. free_same s.tree t.tree same.tree

-- a step after it is refused, while the tree is as it was
pub look_fails : (change : Change) (tells : Bool) (root : List ℕ) (paths : List (List ℕ)) (s u v : DiskState) (absent : Type 0) (refused : DiskFault) → (IsTrue tells → v.tree ≡ s.tree) → s.faults ≤ u.faults
    → (IsTrue tells → absent → ⊥) → LookFails (course tells u v) absent refused → ChangeFails change root paths (course tells s v) (of_disk refused)
look_fails change tells root paths s u v absent refused same low none fails =
    change_fails change tells root paths s s v (λ told. refl) (omega arith) (of_disk refused) (step_making change tells root paths s u v absent refused (λ told. free_same s.tree v.tree (same told)) low none fails)

-- what is found where nothing is
pub none_found : (tree : Tree) (root : List ℕ) (folder : NameList) → FindsEntry tree root journal_name None → directory_of tree root ≡ Some folder → node_at tree (folder ++ journal_name ∷ []) ≡ None
none_found tree root folder found leads =
    let here : found.folder ≡ folder = same_Some _ _ (sym found.leads ∙ leads) in
    by (node_at tree (folder ++ journal_name ∷ [])) (ap (λ (p : NameList). kind_at tree (p ++ journal_name ∷ [])) (sym here) ∙ sym found.kind_is)
  where
    by : (o : Option Node) → option_map (λ node. kind_of node.content) o ≡ None → o ≡ None
    by None e = refl
    by (Some node) e = cc

pub pending_found : (tree : Tree) (root : List ℕ) (kind : Kind) → FindsEntry tree root journal_name (Some kind) → IsPending tree root
pending_found tree root kind found = record {
  folder = found.folder;
  leads = found.leads;
  stands = by (node_at tree (found.folder ++ journal_name ∷ [])) found.kind_is;
}
  where
    by : (o : Option Node) → Some kind ≡ option_map (λ node. kind_of node.content) o → IsSome o
    by None e = cc
    by (Some node) e = refl

pub not_pending : (tree : Tree) (root : List ℕ) → FindsEntry tree root journal_name None → IsPending tree root → ⊥
not_pending tree root found p = none_stands (node_at tree (p.folder ++ journal_name ∷ [])) (none_found tree root p.folder found p.leads) p.stands

pub disk_first : (refused : DiskFault) → ComesFirst (of_disk refused)
disk_first disk.Absent = tt
disk_first disk.Taken = tt
disk_first disk.Failed = tt
disk_first disk.NoMemory = tt

pub root_first : (tells : Bool) (root : List ℕ) (s t : DiskState) (refused : JournalFault) → IsTrue tells → IsSome (directory_of s.tree root) → RootFails (course tells s t) root refused → ComesFirst refused
root_first tells root s t fault.RootMissing told there fails = leads_somewhere s root there (fails.0 told)
root_first tells root s t (fault.File refused) told there fails = tt
root_first tells root s t fault.Pending told there fails = tt
root_first tells root s t (fault.TempName folder) told there fails = fails
root_first tells root s t (fault.Unfinished job) told there fails = fails
root_first tells root s t fault.BadJournal told there fails = fails
root_first tells root s t (fault.StageMissing path) told there fails = fails
root_first tells root s t (fault.StageDiffers path planned found) told there fails = fails
root_first tells root s t fault.NoMemory told there fails = tt

root_reached : (s : DiskState) (root : List ℕ) → IsSome (reached s.tree root true) → LeadsNowhere s root true → ⊥
root_reached s root there nowhere = none_there (subst (λ (o : Option NameList). IsSome o) nowhere there)
  where
    none_there : IsSome {T = NameList} None → ⊥
    none_there h = cc

pub root_for_memory : (tells : Bool) (root : List ℕ) (s t : DiskState) (refused : JournalFault) → IsTrue tells → IsSome (reached s.tree root true) → (DiskFailed (course tells s t) → ⊥)
    → RootFails (course tells s t) root refused → WantsMemory refused
root_for_memory tells root s t fault.RootMissing told there no_fault fails = absurd (root_reached s root there (fails.0 told))
root_for_memory tells root s t (fault.File refused) told there no_fault fails = absurd (no_fault fails)
root_for_memory tells root s t fault.Pending told there no_fault fails = fails
root_for_memory tells root s t (fault.TempName folder) told there no_fault fails = fails
root_for_memory tells root s t (fault.Unfinished job) told there no_fault fails = absurd fails
root_for_memory tells root s t fault.BadJournal told there no_fault fails = fails
root_for_memory tells root s t (fault.StageMissing path) told there no_fault fails = fails
root_for_memory tells root s t (fault.StageDiffers path planned found) told there no_fault fails = fails
root_for_memory tells root s t fault.NoMemory told there no_fault fails = tt

-- ---- whether an entry was found

pub pending_if : (tree : Tree) (root : List ℕ) (o : Option Kind) (b : Bool) → b ≡ is_some o → b ≡ true → FindsEntry tree root journal_name o → IsPending tree root
pending_if tree root None b is yes_some found = cc
pending_if tree root (Some kind) b is yes_some found = pending_found tree root kind found

pub none_if : (tree : Tree) (root : List ℕ) (o : Option Kind) (b : Bool) → b ≡ is_some o → b ≡ false → FindsEntry tree root journal_name o → FindsEntry tree root journal_name None
none_if tree root None b is no_some found = found
none_if tree root (Some kind) b is no_some found = cc

pub listed_if : (o : Option Kind) (b : Bool) (P : Type 0) → b ≡ is_some o → b ≡ true → IfSome o (λ k. P) → P
listed_if None b P is yes_some p = cc
listed_if (Some kind) b P is yes_some p = p

-- nothing was written while the root was looked at
pub looked_at : (s s1 s2 s3 : DiskState) (root : List ℕ) → HoldsPresent s1 → SameTree s s1 → SyncsFolder s1 root s2 → SameTree s2 s3 → LeavesNoMore s s3
looked_at s s1 s2 s3 root holds a y b = no_more_then s s1 s3 (no_more_same s s1 a) (no_more_then s1 s2 s3 (no_more_synced s1 s2 root holds y) (no_more_same s2 s3 b))

-- what is refused later on
pub making_change : (change : Change) (tells : Bool) (root : List ℕ) (paths : List (List ℕ)) (s t x : DiskState) (r : Result (Unit {0}) JournalFault) → (IsTrue tells → t.tree ≡ s.tree) → s.faults ≤ t.faults
    → IfErr r (MakingFails change root paths (course tells t x)) → IfErr r (ChangeFails change root paths (course tells s x))
making_change change tells root paths s t x (Ok done) same low fails = tt
making_change change tells root paths s t x (Err refused) same low fails = change_fails change tells root paths s t x same low refused fails

pub no_directory_now : (tells : Bool) (s t : DiskState) (root : List ℕ) (is : Bool) → t.tree ≡ s.tree → (IsTrue tells → IsTrue is ↔ IsSome (directory_of s.tree root)) → is ≡ true → IsTrue tells → IsNoDirectory t root → ⊥
no_directory_now tells s t root is same kind yes_root told none =
    none_stands (directory_of t.tree root) none (subst IsSome (ap (λ (y : Tree). directory_of y root) (sym same)) ((kind told).0 yes_root))

pub root_none_now : (s : DiskState) (root : List ℕ) (is : Bool) → (IsTrue is ↔ IsSome (directory_of s.tree root)) → is ≡ false → IsPending s.tree root → ⊥
root_none_now s root is kind no_root pending = cc (sym no_root ∙ kind.1 (ap is_some pending.leads))

-- what holds of the error that is told on, which is one
pub told_on_err : {T E : Type 0} (P : E → Type 0) (r : Result T E) (e : E) → IsErrAnd r (λ x. x ≡ e) → P e → IsErrAnd r P
told_on_err P (Ok x) e is p = absurd is
told_on_err P (Err x) e is p = subst P (sym is) p
