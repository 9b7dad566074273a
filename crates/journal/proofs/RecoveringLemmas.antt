-- A change is recovered, whatever is left of it.
use Rattle.std.proofs.Common.{arith, ◌≡◌, ◌≢◌, ◌⊎◌, ◌<◌, ◌≤◌, ℕ, cond, Bool, true, false, List, [], ◌∷◌, ◌++◌, refl, sym, ◌∙◌, ap, subst, inl, inr}
use Rattle.std.specs.Prelude.{Option, Some, None, IsSome, is_some, IsTrue, ◌↔◌, Contains, Result, Ok, Err, OnOk, IfErr, IsErrAnd, MatchResult}
use Rattle.std.specs.Option.{option_and_then}
use Rattle.std.proofs.lemmas.Option.{same_Some}
use Rattle.std.proofs.lemmas.List.Elements.{Contains-append_right}
use Rattle.sha2.specs.Sha256.{sha256}
use Rattle.sd_io.specs.declared.fault.DiskFault.{DiskFault}
use Rattle.sd_io.specs.declared.fault.DiskFault.TheVariants as disk
use Rattle.sd_io.specs.Tree.{NameList, Node, Tree, IsTree, node_at, file_node, file_at, is_directory_at}
use Rattle.sd_io.specs.Paths.{parent_of, reached, named}
use Rattle.sd_io.specs.Disk.{DiskState, SameTree, HoldsPresent}
use Rattle.sd_io.specs.Files.{path_text, file_named}
use Rattle.sd_io.specs.Lists.{directory_of, SyncsFolder}
use Rattle.sd_io.proofs.PathTextLemmas.{text_names}
use Rattle.sd_io.proofs.CrashLemmas.{settled_same, settled_folder}
use Rattle.sd_course.specs.Course.{Course, HasRisenBy, course}
use Rattle.file_exchange.specs.Reserved.{reserved_name, reserved_names}
use Rattle.file_rewrite.specs.OneFile.{IsMoveFault}
use Rattle.file_rewrite.specs.declared.fault.JobFault.{JobFault}
use Rattle.file_rewrite.specs.declared.fault.JobFault.TheVariants as job
use Rattle.journal.specs.Placing.{OneLacksFile, IsLineFault, OneIsCrowded, HasLineCause}
use Rattle.file_exchange.proofs.CauseLemmas.{risen_since}
use Rattle.file_exchange.proofs.PlaceLemmas.{reserved_is_name}
use Rattle.journal_text.specs.declared.line.Line.{Line}
use Rattle.journal_text.specs.Journal.{IsTextOf, text_of}
use Rattle.journal_text.proofs.ReadLemmas.{text_tells}
use Rattle.change_phases.specs.Between.{Work, journal_name, journal_of, place_of, stage_of, IsJournalFor, Between, AllOld, AllNew}
use Rattle.change_phases.specs.Phases.{placing, cleared, IsIn}
use Rattle.change_phases.proofs.LineLemmas.{first}
use Rattle.change_phases.proofs.PhaseLemmas.{present, present_in, same_between, between_then}
use Rattle.change_phases.proofs.RootLemmas.{directory_kept, between_ways}
use Rattle.change_phases.proofs.RecoverLemmas.{between_folder, whole_now, underway}
use Rattle.change_phases.proofs.AfterLemmas.{recoverable_now}
use Rattle.journal.specs.declared.fault.JournalFault.{JournalFault}
use Rattle.journal.specs.declared.fault.JournalFault.TheVariants as fault
use Rattle.journal.specs.Faults.{of_disk}
use Rattle.journal.specs.Keeping.{AreRootPaths, IsSettledIn, KeepsBetween}
use Rattle.journal.specs.Clearing.{LeavesNoMore}
use Rattle.journal.specs.Reading.{NoneStands, JournalStands, OtherStands, AllStand, StageFails, FailsAtFirst}
use Rattle.journal.specs.Recovering.{MayRecover, IsMisread, RootFails, RecoverFails, IsBeforeWriting}
use Rattle.journal.proofs.KeepingLemmas.{keeps_same, settled_still}
use Rattle.journal.proofs.FileLemmas.{f, has, of, stands, stage_holds}
use Rattle.journal.proofs.FinishingLemmas.{folder_there}
use Rattle.journal.proofs.ClearingLemmas.{no_more_same, no_more_then, no_more_synced}
use Rattle.journal.proofs.ReadingLemmas.{directory_reached, some_is, first_since}

-- ---- faults that tell of no misreading

pub root_not_misread : (d : Course DiskState) (root : List ℕ) (f : JournalFault) → RootFails d root f → IsMisread f → ⊥
root_not_misread d root fault.RootMissing fails bad = bad
root_not_misread d root (fault.File refused) fails bad = bad
root_not_misread d root fault.Pending fails bad = bad
root_not_misread d root (fault.TempName folder) fails bad = bad
root_not_misread d root (fault.Unfinished job) fails bad = bad
root_not_misread d root fault.BadJournal fails bad = fails
root_not_misread d root (fault.StageMissing path) fails bad = fails
root_not_misread d root (fault.StageDiffers path planned found) fails bad = fails
root_not_misread d root fault.NoMemory fails bad = bad

pub disk_not_misread : (f : DiskFault) → IsMisread (of_disk f) → ⊥
disk_not_misread disk.Absent bad = bad
disk_not_misread disk.Taken bad = bad
disk_not_misread disk.Failed bad = bad
disk_not_misread disk.NoMemory bad = bad

-- ---- what composes

pub recover_same : (work : Work) (root : List ℕ) (s t : DiskState) → MayRecover work root s → SameTree s t → KeepsBetween work s t
recover_same work root s t m same = record {
  between = same_between work s t same m.recoverable.images;
  settled = record {
    files = λ f has. settled_same s t same f.0 (m.recoverable.settled.files f has);
    journal = settled_same s t same (journal_of work) m.recoverable.settled.journal;
  };
}

pub recover_still : (work : Work) (root : List ℕ) (s t : DiskState) → MayRecover work root s → KeepsBetween work s t → MayRecover work root t
recover_still work root s t m k = record { is_work = m.is_work; leads = m.leads; recoverable = recoverable_now work s t k.between k.settled }

pub between_on : (work : Work) (r s t : DiskState) → KeepsBetween work r s → KeepsBetween work s t → KeepsBetween work r t
between_on work r s t a b = record { between = between_then work r s t a.between b.between; settled = b.settled }

pub same_trees : (r s t : DiskState) → SameTree r s → SameTree s t → SameTree r t
same_trees r s t a b = record { tree = b.tree ∙ a.tree; clock = b.clock ∙ a.clock; outcomes = b.outcomes ∙ a.outcomes }

pub root_leads_now : (work : Work) (root : List ℕ) (s : DiskState) → HoldsPresent s → MayRecover work root s → directory_of s.tree root ≡ Some work.root
root_leads_now work root s holds m =
    let now : Between work s.tree = m.recoverable.images s.tree (λ q. present s holds q (node_at s.tree q) refl) in
    directory_kept work.tree s.tree (between_ways work m.is_work s.tree now) root work.root m.leads

-- a root that isn't one isn't one of a change
pub no_directory : (work : Work) (root : List ℕ) (s : DiskState) (is : Bool) → HoldsPresent s → MayRecover work root s → (IsTrue is ↔ IsSome (directory_of s.tree root)) → is ≡ false → ⊥
no_directory work root s is holds m tells no_root =
    let yes_root : is ≡ true = tells.1 (ap is_some (root_leads_now work root s holds m)) in
    cc (sym no_root ∙ yes_root)

-- ---- after the root's sync

module _ (work : Work) (root : List ℕ) (s t : DiskState) (holds : HoldsPresent s) (m : MayRecover work root s) (y : SyncsFolder s root t) where
  pub synced_keeps : KeepsBetween work s t
  synced_keeps = record {
    between = between_folder work m.is_work s t root holds y m.recoverable.images;
    settled = record {
      files = λ f has. settled_folder s t y.folder y.tree y.advances f.0 (m.recoverable.settled.files f has);
      journal = settled_folder s t y.folder y.tree y.advances (journal_of work) m.recoverable.settled.journal;
    };
  }

  folder_is : y.folder ≡ work.root
  folder_is = same_Some _ _ (sym y.leads ∙ root_leads_now work root s holds m)

  leads_now : directory_of t.tree root ≡ Some work.root
  leads_now = ap (λ (x : Tree). directory_of x root) y.tree ∙ root_leads_now work root s holds m

  root_reached : (q : NameList) → reached t.tree root true ≡ Some q → q ≡ work.root
  root_reached q leads = same_Some _ _ (sym leads ∙ directory_reached t.tree root work.root leads_now)

  at_root : {T : Type 0} (of : NameList → T) (q : NameList) → reached t.tree root true ≡ Some q → of (q ++ journal_name ∷ []) ≡ of (journal_of work)
  at_root of q leads = ap (λ (r : NameList). of (r ++ journal_name ∷ [])) (root_reached q leads)

  -- where no journal stands, all files are old or all new
  pub whole_there : (u : DiskState) → HoldsPresent t → SameTree t u → NoneStands t.tree root → AllOld work u.tree ⊎ AllNew work u.tree
  whole_there u holds_now same stands =
      let none : node_at t.tree (journal_of work) ≡ None = sym (at_root (node_at t.tree) stands.folder stands.leads) ∙ stands.none in
      subst (λ (x : Tree). AllOld work x ⊎ AllNew work x) (sym same.tree)
      (whole_now work t holds_now (recover_still work root s t m synced_keeps).recoverable.images none)

  -- where something stands, it is the journal, and the files are being put in place
  record IsResumed : Type 0 where
    lines : List Line
    mode : ℕ
    is_for : IsJournalFor work lines
    text : file_at t.tree (journal_of work) ≡ Some (text_of lines, mode)
    placing_now : IsIn placing work lines t

  resumed : node_at t.tree (journal_of work) ≢ None → IsResumed
  resumed some =
      let before : node_at s.tree (journal_of work) ≢ None = λ none. some (ap (λ (x : Tree). node_at x (journal_of work)) y.tree ∙ none) in
      let (lines, mode, is_for, text, placing_now) = underway work m.is_work s t root holds y m.recoverable.images before folder_is m.recoverable.settled.journal in
      record {
        lines = lines;
        mode = mode;
        is_for = is_for;
        text = ap (λ (x : Tree). file_at x (journal_of work)) y.tree ∙ text;
        placing_now = placing_now;
      }

  resumed_text : (r : IsResumed) → IsTextOf (text_of r.lines) r.lines
  resumed_text r = record { are_lines = r.is_for.are_lines; text_is = refl }

  pub not_other : OtherStands t.tree root → ⊥
  not_other other =
      let r = resumed (λ none. cc (sym other.some ∙ ap is_some (at_root (node_at t.tree) other.folder other.leads ∙ none))) in
      other.no_journal (text_of r.lines) r.mode (at_root (file_at t.tree) other.folder other.leads ∙ r.text) r.lines (resumed_text r)

  pub placing_read : (lines : List Line) → JournalStands t.tree root lines → IsSettledIn placing work lines t
  placing_read lines stands =
      let held : file_at t.tree (journal_of work) ≡ Some (stands.bytes, stands.mode) = sym (at_root (file_at t.tree) stands.folder stands.leads) ∙ stands.holds in
      let r = resumed (λ none. cc (sym held ∙ ap file_node none)) in
      let bytes : stands.bytes ≡ text_of r.lines = ap (λ (x : List ℕ × ℕ). x.0) (same_Some (stands.bytes, stands.mode) (text_of r.lines, r.mode) (sym held ∙ r.text)) in
      let same : lines ≡ r.lines = text_tells (text_of r.lines) lines r.lines (subst (λ (b : List ℕ). IsTextOf b lines) bytes stands.is_text) (resumed_text r) in
      subst (λ (ls : List Line). IsSettledIn placing work ls t) (sym same) (record {
        is_work = m.is_work;
        is_for = r.is_for;
        phase_now = r.placing_now;
        settled = synced_keeps.settled;
      })

-- ---- on the way

module _ (work : Work) (root : List ℕ) (s s1 s2 : DiskState) (m : MayRecover work root s) (same : SameTree s s1) (holds : HoldsPresent s1) (y : SyncsFolder s1 root s2) where
  may_still : MayRecover work root s1
  may_still = recover_still work root s s1 m (recover_same work root s s1 m same)

  kept_synced : KeepsBetween work s s2
  kept_synced = between_on work s s1 s2 (recover_same work root s s1 m same) (synced_keeps work root s1 s2 holds may_still y)

  -- after the root's sync
  pub kept_on : (t : DiskState) → SameTree s2 t → KeepsBetween work s t
  kept_on t now = between_on work s s2 t kept_synced (recover_same work root s2 t (recover_still work root s s2 m kept_synced) now)

  pub whole_on : (t : DiskState) → HoldsPresent s2 → SameTree s2 t → NoneStands s2.tree root → AllOld work t.tree ⊎ AllNew work t.tree
  whole_on = whole_there work root s1 s2 holds may_still y

  pub is_not_other : OtherStands s2.tree root → ⊥
  is_not_other = not_other work root s1 s2 holds may_still y

  pub paths_on : (folder : NameList) → reached s2.tree root true ≡ Some folder → (path : List ℕ) → path ≡ path_text (folder ++ journal_name ∷ []) → AreRootPaths work root path
  paths_on folder leads path is = record {
    leads = m.leads;
    journal_is = is ∙ at_root work root s1 s2 holds may_still y path_text folder leads;
  }

  pub placing_on : (lines : List Line) → JournalStands s2.tree root lines → (t : DiskState) → SameTree s2 t → IsSettledIn placing work lines t
  placing_on lines stands t same_now =
      let p = placing_read work root s1 s2 holds may_still y lines stands in
      settled_still placing work lines s2 t p (keeps_same placing work lines s2 t p same_now)

-- ---- the stages are there

module _ (work : Work) (lines : List Line) (s : DiskState) (is : IsTree s.tree) (holds : HoldsPresent s) (p : IsSettledIn placing work lines s) (line : Line) (has_line : Contains lines line) where
  -- the file's new bytes stand at its stage
  stage_named : (mode : ℕ) × (file_named s.tree (path_text (stage_of line)) ≡ Some ((f work lines line has_line s is holds p).1, mode))
  stage_named =
      let (stood, there) = stands work lines line has_line s is holds p (f work lines line has_line s is holds p) (has work lines line has_line s is holds p) in
      let folder : IsTrue (is_directory_at s.tree (parent_of (place_of line))) =
      subst (λ (q : NameList). IsTrue (is_directory_at s.tree (parent_of q))) (sym (of work lines line has_line s is holds p).place)
      (folder_there s.tree (f work lines line has_line s is holds p).0 stood is there) in
      let names = text_names s.tree is (parent_of (place_of line)) (reserved_name line.number) folder (reserved_is_name line.number) in
      let (mode, held) = stage_holds work lines line has_line s is holds p in
      (mode, ap (option_and_then (file_at s.tree)) names ∙ held)

  digest_is : line.digest ≡ sha256 (f work lines line has_line s is holds p).1
  digest_is = (of work lines line has_line s is holds p).digest

  stage_right : (d : Course DiskState) → IsTrue d.tells → d.old.tree ≡ s.tree → (refused : JournalFault) → StageFails d line refused → IsMisread refused → ⊥
  stage_right d told same fault.RootMissing fails bad = bad
  stage_right d told same (fault.File refused) fails bad = bad
  stage_right d told same fault.Pending fails bad = bad
  stage_right d told same (fault.TempName folder) fails bad = bad
  stage_right d told same (fault.Unfinished job) fails bad = bad
  stage_right d told same fault.BadJournal fails bad = fails
  stage_right d told same (fault.StageMissing path) fails bad =
      let (mode, named) = stage_named in
      cc (sym (fails.1.0 told) ∙ ap (λ (x : Tree). file_named x (path_text (stage_of line))) same ∙ named)
  stage_right d told same (fault.StageDiffers path planned found) fails bad =
      let (mode, named) = stage_named in
      let other = fails.3.0 told in
      let bytes : other.bytes ≡ (f work lines line has_line s is holds p).1 =
      ap (λ (x : List ℕ × ℕ). x.0) (same_Some _ _ (sym other.holds ∙ ap (λ (x : Tree). file_named x (path_text (stage_of line))) same ∙ named)) in
      fails.2 (fails.1 ∙ digest_is ∙ ap sha256 (sym bytes) ∙ sym other.found_is)
  stage_right d told same fault.NoMemory fails bad = bad

pub stages_right : (work : Work) (lines : List Line) (s : DiskState) → IsTree s.tree → HoldsPresent s → IsSettledIn placing work lines s → (d : Course DiskState) → IsTrue d.tells → d.old.tree ≡ s.tree
    → (refused : JournalFault) → FailsAtFirst d lines refused → IsMisread refused → ⊥
stages_right work lines s is holds p d told same refused fails bad =
    let has : Contains lines fails.line = subst (λ (ls : List Line). Contains ls fails.line) (sym fails.lines_are)
    (Contains-append_right fails.before (fails.line ∷ fails.after) fails.line (first fails.line fails.after)) in
    stage_right work lines s is holds p fails.line has d told same refused fails.fails bad

-- what was read was written
pub read_right : (work : Work) (root : List ℕ) (s t : DiskState) (tells : Bool) → IsTrue tells → IsTree s.tree → HoldsPresent s → (OtherStands s.tree root → ⊥)
    → ((lines : List Line) → JournalStands s.tree root lines → IsSettledIn placing work lines s) → (f : JournalFault) → RecoverFails (course tells s t) root f → IsMisread f → ⊥
read_right work root s t tells told is holds right placing_now fault.RootMissing fails bad = bad
read_right work root s t tells told is holds right placing_now (fault.File refused) fails bad = bad
read_right work root s t tells told is holds right placing_now fault.Pending fails bad = bad
read_right work root s t tells told is holds right placing_now (fault.TempName folder) fails bad = bad
read_right work root s t tells told is holds right placing_now (fault.Unfinished job) fails bad = bad
read_right work root s t tells told is holds right placing_now fault.BadJournal fails bad = right (fails.0 told)
read_right work root s t tells told is holds right placing_now (fault.StageMissing path) fails bad =
    stages_right work fails.lines s is holds (placing_now fails.lines (fails.journal told)) (course tells s t) told refl (fault.StageMissing path) fails.first bad
read_right work root s t tells told is holds right placing_now (fault.StageDiffers path planned found) fails bad =
    stages_right work fails.lines s is holds (placing_now fails.lines (fails.journal told)) (course tells s t) told refl (fault.StageDiffers path planned found) fails.first bad
read_right work root s t tells told is holds right placing_now fault.NoMemory fails bad = bad

-- ---- what is answered, and refused

-- a root that leads to no directory
pub no_folder : (tree : Tree) (root : List ℕ) (is : Bool) → IsTree tree → IsSome (reached tree root true) → (IsTrue is ↔ IsSome (directory_of tree root)) → is ≡ false → NoneStands tree root
no_folder tree root is is_tree some tells no_root =
    let (place, leads) = some_is (reached tree root true) some in
    record {
      folder = place;
      leads = leads;
      none = below (is_directory_at tree place) refl leads (node_at tree (place ++ journal_name ∷ [])) refl;
    }
  where
    below : {place : NameList} (b : Bool) → is_directory_at tree place ≡ b → reached tree root true ≡ Some place → (o : Option Node) → node_at tree (place ++ journal_name ∷ []) ≡ o
        → node_at tree (place ++ journal_name ∷ []) ≡ None
    below {place} true directory leads o e =
        let there : directory_of tree root ≡ Some place =
        ap (option_and_then (λ p. cond (is_directory_at tree p) (Some p) None)) leads ∙ ap (λ (b : Bool). cond b (Some place) None) directory in
        absurd (cc (sym no_root ∙ tells.1 (ap is_some there)))
    below {place} false directory leads None e = e
    below {place} false directory leads (Some node) e = absurd (cc (sym directory ∙ is_tree.parents place journal_name (ap is_some e)))

pub missing_since : (tells : Bool) (s t : DiskState) (root : List ℕ) (f : JournalFault) → RootFails (course tells s t) root f → RecoverFails (course tells s t) root f
missing_since tells s t root fault.RootMissing fails = fails
missing_since tells s t root (fault.File refused) fails = fails
missing_since tells s t root fault.Pending fails = fails
missing_since tells s t root (fault.TempName folder) fails = fails
missing_since tells s t root (fault.Unfinished job) fails = absurd fails
missing_since tells s t root fault.BadJournal fails = absurd fails
missing_since tells s t root (fault.StageMissing path) fails = absurd fails
missing_since tells s t root (fault.StageDiffers path planned found) fails = absurd fails
missing_since tells s t root fault.NoMemory fails = tt

-- ---- why, from an earlier state on

risen_by_since : (n before middle now : ℕ) → before ≤ middle → HasRisenBy n middle now → HasRisenBy n before now
risen_by_since n before middle now low (inl rose) = inl (omega arith)
risen_by_since n before middle now low (inr last) = inr last

module _ (tells : Bool) (s t u : DiskState) (lines : List Line) (same : IsTrue tells → t.tree ≡ s.tree) (low : s.faults ≤ t.faults) where
  line_fault_since : (f : DiskFault) → IsLineFault (course tells t u) lines f → IsLineFault (course tells s u) lines f
  line_fault_since disk.Absent fails =
      ((λ told. subst (λ (x : Tree). OneLacksFile x lines) (same told) (fails.0 told)), (λ untold. risen_since s.faults t.faults u.faults low (fails.1 untold)))
  line_fault_since disk.Taken fails = fails
  line_fault_since disk.Failed fails = risen_since s.faults t.faults u.faults low fails
  line_fault_since disk.NoMemory fails = fails

  move_fault_since : (f : DiskFault) → IsMoveFault (course tells t u) f → IsMoveFault (course tells s u) f
  move_fault_since disk.Absent fails = ((λ told. fails.0 told), (λ untold. risen_since s.faults t.faults u.faults low (fails.1 untold)))
  move_fault_since disk.Taken fails = fails
  move_fault_since disk.Failed fails = risen_since s.faults t.faults u.faults low fails
  move_fault_since disk.NoMemory fails = fails

  pub line_cause_since : (f : JobFault) → HasLineCause (course tells t u) lines f → HasLineCause (course tells s u) lines f
  line_cause_since (job.File refused) fails = line_fault_since refused fails
  line_cause_since (job.TempfilePersist refused) fails = move_fault_since refused fails
  line_cause_since job.InvalidPath fails = fails
  line_cause_since job.TempName fails =
      ((λ told. subst (λ (x : Tree). OneIsCrowded x lines) (same told) (fails.0 told)), (λ untold. risen_by_since reserved_names s.faults t.faults u.faults low (fails.1 untold)))
  line_cause_since job.NoMemory fails = fails

-- of a later state of the same tree
pub fails_since : (tells : Bool) (s t u : DiskState) (root : List ℕ) → (IsTrue tells → t.tree ≡ s.tree) → s.faults ≤ t.faults → t.listed ≡ s.listed
    → (f : JournalFault) → RecoverFails (course tells t u) root f → RecoverFails (course tells s u) root f
fails_since tells s t u root same low listed fault.RootMissing fails =
    ((λ told. ap (λ (x : Tree). reached x root true) (sym (same told)) ∙ fails.0 told), (λ untold. risen_since s.faults t.faults u.faults low (fails.1 untold)))
fails_since tells s t u root same low listed (fault.File refused) fails = risen_since s.faults t.faults u.faults low fails
fails_since tells s t u root same low listed fault.Pending fails = fails
fails_since tells s t u root same low listed (fault.TempName folder) fails = fails
fails_since tells s t u root same low listed (fault.Unfinished failed) fails =
    record {
      found = subst (λ (n : ℕ). n < u.listed) listed fails.found;
      lines = fails.lines;
      stand = λ told. subst (λ (x : Tree). AllStand x root fails.lines) (same told) (fails.stand told);
      cause = line_cause_since tells s t u fails.lines same low failed fails.cause;
    }
fails_since tells s t u root same low listed fault.BadJournal fails =
    ((λ told. subst (λ (x : Tree). OtherStands x root) (same told) (fails.0 told)), (λ untold. subst (λ (n : ℕ). n < u.listed) listed (fails.1 untold)))
fails_since tells s t u root same low listed (fault.StageMissing path) fails = record {
  lines = fails.lines;
  journal = λ told. subst (λ (x : Tree). JournalStands x root fails.lines) (same told) (fails.journal told);
  first = first_since tells s t u fails.lines (fault.StageMissing path) same low fails.first;
}
fails_since tells s t u root same low listed (fault.StageDiffers path planned found) fails = record {
  lines = fails.lines;
  journal = λ told. subst (λ (x : Tree). JournalStands x root fails.lines) (same told) (fails.journal told);
  first = first_since tells s t u fails.lines (fault.StageDiffers path planned found) same low fails.first;
}
fails_since tells s t u root same low listed fault.NoMemory fails = tt

pub none_and_one : (tree : Tree) (root : List ℕ) (lines : List Line) → NoneStands tree root → JournalStands tree root lines → ⊥
none_and_one tree root lines none one =
    let here : none.folder ≡ one.folder = same_Some _ _ (sym none.leads ∙ one.leads) in
    cc (sym one.holds ∙ ap file_node (ap (λ (q : NameList). node_at tree (q ++ journal_name ∷ [])) (sym here) ∙ none.none))

pub one_journal : (tree : Tree) (root : List ℕ) (xs ys : List Line) → JournalStands tree root xs → JournalStands tree root ys → xs ≡ ys
one_journal tree root xs ys one two =
    let here : one.folder ≡ two.folder = same_Some _ _ (sym one.leads ∙ two.leads) in
    let both : Some (one.bytes, one.mode) ≡ Some (two.bytes, two.mode) = sym one.holds ∙ ap (λ (q : NameList). file_at tree (q ++ journal_name ∷ [])) here ∙ two.holds in
    let bytes : one.bytes ≡ two.bytes = ap (λ (x : List ℕ × ℕ). x.0) (same_Some (one.bytes, one.mode) (two.bytes, two.mode) both) in
    text_tells two.bytes xs ys (subst (λ (b : List ℕ). IsTextOf b xs) bytes one.is_text) two.is_text

-- the root was put on the medium, and then nothing but read
pub no_more_on : (s s1 s2 t : DiskState) (root : List ℕ) → SameTree s s1 → HoldsPresent s1 → SyncsFolder s1 root s2 → SameTree s2 t → LeavesNoMore s t
no_more_on s s1 s2 t root same holds y now =
    no_more_then s s2 t (no_more_then s s1 s2 (no_more_same s s1 same) (no_more_synced s1 s2 root holds y)) (no_more_same s2 t now)

pub before_writing : {T : Type 0} (s t : DiskState) (r : Result T JournalFault) → LeavesNoMore s t → IfErr r (λ f. IsBeforeWriting f → LeavesNoMore s t)
before_writing s t (Ok count) k = tt
before_writing s t (Err f) k = λ before. k

-- ---- the end

-- the answer of a step that is told as another's fault
pub answered : {T E F P : Type 0} (of : E → F) (r : Result T E) (q : Result T F) (x : T) → MatchResult r (λ x. q ≡ Ok x) (λ fault. IsErrAnd q (λ e. e ≡ of fault)) → q ≡ Ok x → OnOk r P → P
answered of (Ok a) q x cases is p = p
answered of (Err fault) (Ok a) x cases is p = absurd cases
answered of (Err fault) (Err e) x cases is p = absurd (cc is)

same_fault : {T F : Type 0} (h k : F) (r : Result T F) → r ≡ Err h → r ≡ Err k → h ≡ k
same_fault h k r e i = cc

-- a fault that was told as another
pub told_as : {T E F : Type 0} (of : E → F) (P : F → Type 0) (r : Result T E) (q : Result T F) (f : F) → MatchResult r (λ x. q ≡ Ok x) (λ fault. IsErrAnd q (λ e. e ≡ of fault)) → q ≡ Err f
    → ((e : E) → r ≡ Err e → P (of e)) → P f
told_as of P (Ok a) q f cases is p = absurd (cc (sym cases ∙ is))
told_as of P (Err e) (Ok x) f cases is p = absurd cases
told_as of P (Err e) (Err h) f cases is p =
    subst P (sym cases ∙ same_fault h f (Err h) refl is) (p e refl)

pub new_at_the_end : (work : Work) (lines : List Line) (s : DiskState) → HoldsPresent s → IsIn cleared work lines s → AllNew work s.tree
new_at_the_end work lines s holds is f has = (present_in cleared work lines s holds is f.0).file f has refl
