-- A recovery is carried out to its end, or is refused on the way.
use Rattle.std.proofs.Common.{◌≡◌, ℕ, Bool, true, cond, List, [], ◌∷◌, ◌++◌, refl, sym, ◌∙◌, ap, subst, inl, inr, arith}
use Rattle.std.specs.Prelude.{Option, Some, None, IsSome, is_some, IsTrue, Contains}
use Rattle.std.specs.Option.{option_and_then}
use Rattle.std.proofs.lemmas.Option.{same_Some}
use Rattle.sd_io.specs.Count.{HasRisen}
use Rattle.sd_io.specs.declared.fault.DiskFault.{DiskFault}
use Rattle.sd_io.specs.declared.fault.DiskFault.TheVariants as disk
use Rattle.sd_io.specs.Tree.{NameList, Node, Tree, IsTree, node_at, file_node, file_at, is_directory_at}
use Rattle.sd_io.specs.Paths.{parent_of, reached}
use Rattle.sd_io.specs.Disk.{DiskState, HoldsPresent}
use Rattle.sd_io.specs.Files.{path_text}
use Rattle.sd_course.specs.Course.{course}
use Rattle.file_exchange.specs.Reserved.{Free}
use Rattle.file_rewrite.specs.declared.fault.JobFault.{JobFault}
use Rattle.file_rewrite.specs.declared.fault.JobFault.TheVariants as job
use Rattle.journal_text.specs.declared.line.Line.{Line}
use Rattle.change_phases.specs.Between.{Work, journal_name, stage_of}
use Rattle.change_phases.specs.Phases.{placing}
use Rattle.journal.specs.declared.fault.JournalFault.{JournalFault}
use Rattle.journal.specs.declared.fault.JournalFault.TheVariants as fault
use Rattle.journal.specs.Keeping.{IsSettledIn}
use Rattle.journal.specs.Placing.{OneLacksFile, OneIsCrowded, HasLineCause}
use Rattle.journal.specs.Finishing.{HasJournalAt}
use Rattle.journal.specs.Faults.{of_disk, WantsMemory}
use Rattle.journal.specs.Finding.{LookFails}
use Rattle.journal.specs.Reading.{NoneStands, JournalStands, OtherStands, AllStand}
use Rattle.journal.specs.Recovering.{RootFails, RecoverFails, HaveFreeNames}
use Rattle.journal.proofs.LineLemmas.{line_path_text}
use Rattle.journal.proofs.FileLemmas.{text_to_file, f, has, of, stands, stage_holds}
use Rattle.journal.proofs.RecoveringLemmas.{stages_right}

-- ---- the journal in its place

pub journal_there : (old now : Tree) (root path : List ℕ) (lines : List Line) → now ≡ old → IsTree old → (all : AllStand old root lines) → path ≡ path_text (all.journal.folder ++ journal_name ∷ [])
    → HasJournalAt now root path all.journal.folder
journal_there old now root path lines same is all path_is = subst (λ (t : Tree). HasJournalAt t root path all.journal.folder) (sym same) (record {
  leads =
      let some : IsSome (node_at old (all.journal.folder ++ journal_name ∷ [])) = file_some (node_at old (all.journal.folder ++ journal_name ∷ [])) (all.journal.bytes, all.journal.mode) all.journal.holds in
      let folder : is_directory_at old all.journal.folder ≡ true = is.parents all.journal.folder journal_name some in
      ap (option_and_then (λ p. cond (is_directory_at old p) (Some p) None)) all.journal.leads ∙ ap (λ (b : Bool). cond b (Some all.journal.folder) None) folder;
  path_is = path_is;
  is_file = ap is_some all.journal.holds;
})
  where
    file_some : (o : Option Node) (x : List ℕ × ℕ) → file_node o ≡ Some x → IsSome o
    file_some None x e = absurd (cc e)
    file_some (Some node) x e = refl

-- ---- want of memory alone

module _ (work : Work) (lines : List Line) (s : DiskState) (is : IsTree s.tree) (holds : HoldsPresent s) (p : IsSettledIn placing work lines s) where
  line_leads : (line : Line) (h : Contains lines line) → reached s.tree line.path true ≡ Some (f work lines line h s is holds p).0
  line_leads line h =
      let (x, held) = stands work lines line h s is holds p (f work lines line h s is holds p) (has work lines line h s is holds p) in
      ap (λ (t : List ℕ). reached s.tree t true) (line_path_text lines line p.is_for.are_lines h ∙ ap path_text (of work lines line h s is holds p).place)
      ∙ text_to_file s.tree (f work lines line h s is holds p).0 x is held

  none_lacks : OneLacksFile s.tree lines → ⊥
  none_lacks (line, h, inl none) =
      let (x, held) = stands work lines line h s is holds p (f work lines line h s is holds p) (has work lines line h s is holds p) in
      cc (sym none ∙ ap (option_and_then (file_at s.tree)) (line_leads line h) ∙ held)
  none_lacks (line, h, inr none) =
      let (mode, held) = stage_holds work lines line h s is holds p in
      cc (sym none ∙ ap (option_and_then (file_at s.tree)) (text_to_file s.tree (stage_of line) ((f work lines line h s is holds p).1, mode) is held) ∙ held)

  none_crowded : HaveFreeNames work s.tree → OneIsCrowded s.tree lines → ⊥
  none_crowded free (line, h, crowded) =
      let here : crowded.place ≡ (f work lines line h s is holds p).0 = same_Some _ _ (sym crowded.leads ∙ line_leads line h) in
      let (q, is_free) = free (f work lines line h s is holds p) (has work lines line h s is holds p) in
      let (k, within, at) = crowded.few.all q (subst (λ (x : NameList). Free s.tree (parent_of x) q) (sym here) is_free) in
      let few = crowded.few.few in
      omega (arith, within, few)

  pub only_memory : (t : DiskState) (tells : Bool) → IsTrue tells → HaveFreeNames work s.tree → (HasRisen s.faults t.faults → ⊥) → (f : JobFault) → HasLineCause (course tells s t) lines f → f ≡ job.NoMemory
  only_memory t tells told free steady (job.File disk.Absent) fails = absurd (none_lacks (fails.0 told))
  only_memory t tells told free steady (job.File disk.Taken) fails = absurd fails
  only_memory t tells told free steady (job.File disk.Failed) fails = absurd (steady fails)
  only_memory t tells told free steady (job.File disk.NoMemory) fails = absurd fails
  only_memory t tells told free steady (job.TempfilePersist disk.Absent) fails = absurd (fails.0 told)
  only_memory t tells told free steady (job.TempfilePersist disk.Taken) fails = absurd fails
  only_memory t tells told free steady (job.TempfilePersist disk.Failed) fails = absurd (steady fails)
  only_memory t tells told free steady (job.TempfilePersist disk.NoMemory) fails = absurd fails
  only_memory t tells told free steady job.InvalidPath fails = absurd fails
  only_memory t tells told free steady job.TempName fails = absurd (none_crowded free (fails.0 told))
  only_memory t tells told free steady job.NoMemory fails = refl

-- a root that is looked at
pub root_memory : (tells : Bool) (s t : DiskState) (root : List ℕ) → IsTrue tells → (reached s.tree root true ≡ None → ⊥) → (HasRisen s.faults t.faults → ⊥)
    → (f : JournalFault) → RootFails (course tells s t) root f → WantsMemory f
root_memory tells s t root told leads steady fault.RootMissing fails = absurd (leads (fails.0 told))
root_memory tells s t root told leads steady (fault.File refused) fails = absurd (steady fails)
root_memory tells s t root told leads steady fault.Pending fails = absurd fails
root_memory tells s t root told leads steady (fault.TempName folder) fails = absurd fails
root_memory tells s t root told leads steady (fault.Unfinished job) fails = absurd fails
root_memory tells s t root told leads steady fault.BadJournal fails = absurd fails
root_memory tells s t root told leads steady (fault.StageMissing path) fails = absurd fails
root_memory tells s t root told leads steady (fault.StageDiffers path planned found) fails = absurd fails
root_memory tells s t root told leads steady fault.NoMemory fails = tt

-- a step that looks at the disk
pub look_memory : (tells : Bool) (s t : DiskState) (absent : Type 0) → IsTrue tells → (absent → ⊥) → (HasRisen s.faults t.faults → ⊥) → (f : DiskFault) → LookFails (course tells s t) absent f
    → WantsMemory (of_disk f)
look_memory tells s t absent told there steady disk.Absent fails = absurd (there (fails.0 told))
look_memory tells s t absent told there steady disk.Taken fails = absurd fails
look_memory tells s t absent told there steady disk.Failed fails = absurd (steady fails)
look_memory tells s t absent told there steady disk.NoMemory fails = tt

-- the journal and the stages that are read, and what comes then
pub recover_memory : (work : Work) (root : List ℕ) (s t : DiskState) (tells : Bool) → IsTrue tells → IsTree s.tree → HoldsPresent s → (reached s.tree root true ≡ None → ⊥) → (OtherStands s.tree root → ⊥)
    → ((lines : List Line) → JournalStands s.tree root lines → IsSettledIn placing work lines s) → HaveFreeNames work s.tree → (HasRisen s.faults t.faults → ⊥)
    → (f : JournalFault) → RecoverFails (course tells s t) root f → WantsMemory f
recover_memory work root s t tells told is holds leads right placing_now free steady fault.RootMissing fails = absurd (leads (fails.0 told))
recover_memory work root s t tells told is holds leads right placing_now free steady (fault.File refused) fails = absurd (steady fails)
recover_memory work root s t tells told is holds leads right placing_now free steady fault.Pending fails = absurd fails
recover_memory work root s t tells told is holds leads right placing_now free steady (fault.TempName folder) fails = absurd fails
recover_memory work root s t tells told is holds leads right placing_now free steady (fault.Unfinished job) fails =
    only_memory work fails.lines s is holds (placing_now fails.lines (fails.stand told).journal) t tells told free steady job fails.cause
recover_memory work root s t tells told is holds leads right placing_now free steady fault.BadJournal fails = absurd (right (fails.0 told))
recover_memory work root s t tells told is holds leads right placing_now free steady (fault.StageMissing path) fails =
    absurd (stages_right work fails.lines s is holds (placing_now fails.lines (fails.journal told)) (course tells s t) told refl (fault.StageMissing path) fails.first tt)
recover_memory work root s t tells told is holds leads right placing_now free steady (fault.StageDiffers path planned found) fails =
    absurd (stages_right work fails.lines s is holds (placing_now fails.lines (fails.journal told)) (course tells s t) told refl (fault.StageDiffers path planned found) fails.first tt)
recover_memory work root s t tells told is holds leads right placing_now free steady fault.NoMemory fails = tt

-- ---- no journal stands

pub none_left : (old now : Tree) (root : List ℕ) → now ≡ old → NoneStands old root → (folder : NameList) → reached old root true ≡ Some folder → node_at now (folder ++ journal_name ∷ []) ≡ None
none_left old now root same stands folder leads =
    let here : folder ≡ stands.folder = same_Some _ _ (sym leads ∙ stands.leads) in
    ap (λ (t : Tree). node_at t (folder ++ journal_name ∷ [])) same ∙ ap (λ (q : NameList). node_at old (q ++ journal_name ∷ [])) here ∙ stands.none

pub gone_there : (old now : Tree) (root : List ℕ) (lines : List Line) (all : AllStand old root lines) → node_at now (all.journal.folder ++ journal_name ∷ []) ≡ None
    → (folder : NameList) → reached old root true ≡ Some folder → node_at now (folder ++ journal_name ∷ []) ≡ None
gone_there old now root lines all gone folder leads =
    let here : folder ≡ all.journal.folder = same_Some _ _ (sym leads ∙ all.journal.leads) in
    ap (λ (q : NameList). node_at now (q ++ journal_name ∷ [])) here ∙ gone
