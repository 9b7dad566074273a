-- From phase to phase, to the end.
use Rattle.std.proofs.Common.{true, Bool, ◌≡◌, ◌≤◌, ◌++◌, ◌∷◌, [], ℕ, List, refl, sym, ◌∙◌, ap, subst, inl, inr}
use Rattle.std.specs.Option.{option_and_then}
use Rattle.std.proofs.lemmas.Option.{same_Some}
use Rattle.sd_io.specs.declared.fault.DiskFault.{DiskFault}
use Rattle.sd_io.specs.declared.fault.DiskFault.TheVariants as disk
use Rattle.std.specs.Prelude.{Option, Some, None, IsSome, is_some, IsTrue, Contains}
use Rattle.sd_io.specs.Tree.{NameList, Node, Tree, IsTree, node_at, file_node, file_at, is_directory_at}
use Rattle.sd_io.specs.Paths.{parts_of, parent_of, reached, named, SameWays}
use Rattle.sd_io.specs.Disk.{DiskState, HoldsPresent}
use Rattle.sd_io.specs.Files.{path_text}
use Rattle.sd_io.specs.Outcomes.{content_of}
use Rattle.sd_io.specs.Lists.{directory_of}
use Rattle.sd_io.proofs.PathTextLemmas.{text_parts, text_names}
use Rattle.sd_io.proofs.WayLemmas.{same_directories, named_alike, directory_alike}
use Rattle.sd_course.specs.Course.{course}
use Rattle.file_exchange.proofs.CauseLemmas.{risen_since}
use Rattle.file_rewrite.specs.Faults.{as_job}
use Rattle.file_exchange.specs.Reserved.{reserved_name}
use Rattle.file_exchange.specs.Exchange.{IsFilePath}
use Rattle.file_exchange.proofs.PlaceLemmas.{placed}
use Rattle.file_exchange.specs.Crash.{Exchange}
use Rattle.journal_text.specs.declared.line.Line.{Line}
use Rattle.change_phases.specs.Between.{Work, journal_name, journal_of, place_of, stage_of, IsAside}
use Rattle.change_phases.specs.Phases.{Phase, placing, removing, cleared, IsIn}
use Rattle.change_phases.proofs.PhaseLemmas.{passes_between, passes_since, between_then, still_in, present_in}
use Rattle.change_phases.proofs.WorkLemmas.{file_there, content_there, stage_aside, open_cleared, aside_not_journal, aside_no_file}
use Rattle.change_phases.proofs.StepLemmas.{removing_of}
use Rattle.journal.specs.Keeping.{AreRootPaths, IsSettledIn, KeepsPhase, KeepsBetween}
use Rattle.journal.specs.Placing.{AreNewForGood, SameFiles, ChangesFiles, HasLineCause}
use Rattle.journal.specs.Clearing.{HaveFolders, RemovesAt, RemovalFails, IsStage, RemovesStages, KeepsOrRemoves, AreGone, ClearingFails, LeavesNoMore, ArePutOnMedium, SyncingFails}
use Rattle.journal.specs.Finishing.{StagesAreGone, HasJournalAt, HoldsStaged, CarriesOut}
use Rattle.journal.proofs.KeepingLemmas.{settled_still, journal_named, directory_there, journal_is_name}
use Rattle.journal.proofs.FileLemmas.{stage_holds, leads}
use Rattle.journal.proofs.ClearingLemmas.{then_ways}
use Rattle.journal.proofs.SameFilesLemmas.{files_ways, file_still, none_stands}
use Rattle.journal.proofs.CauseLemmas.{no_folder_no_file}

-- the folder of a file is one
pub folder_there : (tree : Tree) (place : NameList) (f : List ℕ × ℕ) → IsTree tree → file_at tree place ≡ Some f → IsTrue (is_directory_at tree (parent_of place))
folder_there tree place f is stands =
    let parts : parts_of (path_text place) ≡ place = text_parts tree place is (node_stands (node_at tree place) stands) in
    let it : IsFilePath tree (path_text place) = record { path_is = ap path_text (sym parts); is_file = subst (λ (q : NameList). IsSome (file_at tree q)) (sym parts) (ap is_some stands) } in
    subst (λ (q : NameList). IsTrue (is_directory_at tree (parent_of q))) parts (placed tree (path_text place) is it).folder
  where
    node_stands : (o : Option Node) → file_node o ≡ Some f → IsSome o
    node_stands None e = cc
    node_stands (Some node) e = refl

-- ---- what stands while the journal is removed

module _ (work : Work) (lines : List Line) (s : DiskState) (is : IsTree s.tree) (holds : HoldsPresent s) (p : IsSettledIn removing work lines s) where
  pub folders_stand : HaveFolders s.tree lines
  folders_stand line has =
      let (f, has_f, of) = p.is_for.no_other line has in
      let new = (present_in removing work lines s holds p.phase_now f.0).file f has_f refl in
      subst (λ (q : NameList). IsTrue (is_directory_at s.tree (parent_of q))) (sym of.place) (folder_there s.tree f.0 (f.1, new.mode) is (file_there (node_at s.tree f.0) f.1 new.mode new.is))

  pub stage_stands : (line : Line) → Contains lines line → IsSome (file_at s.tree (stage_of line))
  stage_stands line has =
      let (f, has_f, of) = p.is_for.no_other line has in
      let (mode, there) = (present_in removing work lines s holds p.phase_now (stage_of line)).stage line f has has_f of refl in
      ap is_some (file_there (node_at s.tree (stage_of line)) f.1 mode there)

-- ---- the stages are removed

module _ (work : Work) (lines : List Line) (s t : DiskState) (p : IsSettledIn cleared work lines s) where
  no_stage : (q : NameList) → IsStage lines q → (f : Exchange) → Contains work.files f → q ≡ f.0 → ⊥
  no_stage q (line, has, e) f has_f here = aside_no_file work p.is_work (stage_of line) (stage_aside work p.is_work lines p.is_for line has) f has_f (sym e ∙ here)

  pub removes_keep : RemovesStages lines s t → KeepsPhase cleared work lines s t
  removes_keep r = record {
    passes = passes_since cleared work lines (λ q content. ⊥) (IsStage lines) s t p.phase_now (λ q content none. absurd none)
        (λ q (line, has, e). open_cleared work p.is_work lines q (subst (IsAside work) (sym e) (stage_aside work p.is_work lines p.is_for line has))) r.leaves;
    settled = record {
      files = λ f has. r.settled f.0 (λ stage. no_stage f.0 stage f has refl) (p.settled.files f has);
      journal = r.settled (journal_of work)
          (λ (line, has, e). aside_not_journal work p.is_work (stage_of line) (stage_aside work p.is_work lines p.is_for line has) (sym e)) p.settled.journal;
    };
  }

-- ---- folders are put on the medium

pub no_more_keeps : (phase : Phase) (work : Work) (lines : List Line) (s t : DiskState) → IsSettledIn phase work lines s → LeavesNoMore s t → KeepsPhase phase work lines s t
no_more_keeps phase work lines s t p k = record {
  passes = passes_since phase work lines (λ q content. ⊥) (λ q. ⊥) s t p.phase_now (λ q content none. absurd none) (λ q none. absurd none) k.leaves;
  settled = record { files = λ f has. k.settled f.0 (p.settled.files f has); journal = k.settled (journal_of work) p.settled.journal };
}

-- ---- all of it

module _ (work : Work) (lines : List Line) (s : DiskState) (p : IsSettledIn placing work lines s) where
  -- the files were put in place, or some of them
  pub placed_between : (t : DiskState) → KeepsPhase placing work lines s t → KeepsBetween work s t
  placed_between t k = record { between = passes_between placing work lines s t p.is_for k.passes; settled = k.settled }

  -- all were
  pub may_remove : (t : DiskState) → KeepsPhase placing work lines s t → AreNewForGood work t → IsSettledIn removing work lines t
  may_remove t k new = record {
    is_work = p.is_work;
    is_for = p.is_for;
    phase_now = removing_of work p.is_work lines p.is_for t (still_in placing work lines s t k.passes) new;
    settled = k.settled;
  }

  -- the journal was removed, or not
  pub removed_between : (t v : DiskState) → KeepsPhase placing work lines s t → KeepsPhase removing work lines t v → KeepsBetween work s v
  removed_between t v k r = record {
    between = between_then work s t v (placed_between t k).between (passes_between removing work lines t v p.is_for r.passes);
    settled = r.settled;
  }

  pub may_clear : (t v : DiskState) → KeepsPhase removing work lines t v → IsIn cleared work lines v → IsSettledIn cleared work lines v
  may_clear t v r is = record { is_work = p.is_work; is_for = p.is_for; phase_now = is; settled = r.settled }

  -- the stages were removed, or some of them
  pub cleared_between : (v w : DiskState) → KeepsBetween work s v → KeepsPhase cleared work lines v w → KeepsBetween work s w
  cleared_between v w b k = record { between = between_then work s v w b.between (passes_between cleared work lines v w tt k.passes); settled = k.settled }

-- no stage stands, and a crash leaves none
pub stages_gone : (lines : List Line) (s t u : DiskState) → HaveFolders s.tree lines → ((line : Line) → Contains lines line → IsSome (file_at s.tree (stage_of line))) → RemovesStages lines s t → AreGone lines s t
    → LeavesNoMore t u → (HaveFolders t.tree lines → ArePutOnMedium lines t u) → StagesAreGone lines u
stages_gone lines s t u folders stand r gone k synced line has =
    let none = gone line has (stand line has) in
    let still : HaveFolders t.tree lines = λ other has_other. same_directories r.ways (parent_of (place_of other)) ∙ folders other has_other in
    record {
      gone = ap (λ (x : Tree). node_at x (stage_of line)) k.tree ∙ none;
      for_good = (synced still line has).gone (reserved_name line.number) none;
    }

-- ---- the states on the way, once all files are in place

-- the journal is removed for good
pub record IsRemoved (work : Work) (lines : List Line) (s t v : DiskState) : Type 0 where
  pub placing_now : IsSettledIn placing work lines s
  pub placed : KeepsPhase placing work lines s t
  pub removing_now : IsSettledIn removing work lines t
  pub removed : KeepsPhase removing work lines t v
  pub cleared_now : IsSettledIn cleared work lines v

module _ (work : Work) (lines : List Line) (s t v : DiskState) (is : IsTree v.tree) (holds : HoldsPresent v) (r : IsRemoved work lines s t v) where
  still_removing : IsSettledIn removing work lines v
  still_removing = settled_still removing work lines t v r.removing_now r.removed

  pub folders_now : HaveFolders v.tree lines
  folders_now = folders_stand work lines v is holds still_removing

  so_far : KeepsBetween work s v
  so_far = removed_between work lines s r.placing_now t v r.placed r.removed

  module _ (w : DiskState) (gone : RemovesStages lines v w) where
    kept : KeepsPhase cleared work lines v w
    kept = removes_keep work lines v w r.cleared_now gone

    -- the stages were removed, or some of them
    pub between_removed : KeepsBetween work s w
    between_removed = cleared_between work lines s r.placing_now v w so_far kept

    module _ (x : DiskState) (synced : LeavesNoMore w x) where
      kept_on : KeepsPhase cleared work lines w x
      kept_on = no_more_keeps cleared work lines w x (settled_still cleared work lines v w r.cleared_now kept) synced

      -- and their folders put on the medium, or some of them
      pub between_synced : KeepsBetween work s x
      between_synced = cleared_between work lines s r.placing_now w x between_removed kept_on

      pub cleared_synced : IsIn cleared work lines x
      cleared_synced = still_in cleared work lines w x kept_on.passes

      pub gone_synced : AreGone lines v w → (HaveFolders w.tree lines → ArePutOnMedium lines w x) → StagesAreGone lines x
      gone_synced are_gone put = stages_gone lines v w x folders_now (stage_stands work lines v is holds still_removing) gone are_gone synced put

-- ---- the tree, once all is done

content_none : (o : Option Node) → content_of o ≡ None → o ≡ None
content_none None e = refl
content_none (Some node) e = cc

-- a file that changes has its mode
record HasMode (work : Work) (f : Exchange) (tree : Tree) : Type 0 where
  before : List ℕ
  mode : ℕ
  stands : file_at tree f.0 ≡ Some (before, mode)
  bytes : List ℕ
  was : file_at work.tree f.0 ≡ Some (bytes, mode)

has_mode : (work : Work) (lines : List Line) (s : DiskState) (holds : HoldsPresent s) (p : IsSettledIn placing work lines s) (f : Exchange) → Contains work.files f → HasMode work f s.tree
has_mode work lines s holds p f has =
    let (bytes, mode, was) = p.is_work.are_files f has in
    elim ((present_in placing work lines s holds p.phase_now f.0).file f has refl) [
      | inl old ↦ record { before = bytes; mode = mode; stands = file_there (node_at s.tree f.0) bytes mode (old ∙ content_there (node_at work.tree f.0) bytes mode was); bytes = bytes; was = was }
      | inr new ↦ record { before = f.1; mode = new.mode; stands = file_there (node_at s.tree f.0) f.1 new.mode new.is; bytes = new.bytes; was = new.was }
    ]

-- the line's file keeps its mode and holds the bytes of its stage
holds_staged : (work : Work) (lines : List Line) (s x : DiskState) (is : IsTree s.tree) (holds : HoldsPresent s) (p : IsSettledIn placing work lines s) → HoldsPresent x → IsIn cleared work lines x
    → (line : Line) → Contains lines line → HoldsStaged line s.tree x.tree
holds_staged work lines s x is holds p holds_x end line has =
    let (f, has_f, of) = p.is_for.no_other line has in
    let staged = stage_holds work lines line has s is holds p in
    let new = (present_in cleared work lines x holds_x end f.0).file f has_f refl in
    let old = has_mode work lines s holds p f has_f in
    let same : new.mode ≡ old.mode = ap (λ (y : List ℕ × ℕ). y.1) (same_Some (new.bytes, new.mode) (old.bytes, old.mode) (sym new.was ∙ old.was)) in
    record {
      before = old.before;
      mode = old.mode;
      was = ap (file_at s.tree) of.place ∙ old.stands;
      bytes = f.1;
      stage_mode = staged.0;
      staged = staged.1;
      holds = ap (file_at x.tree) of.place ∙ file_there (node_at x.tree f.0) f.1 new.mode new.is ∙ ap (λ (m : ℕ). Some (f.1, m)) same;
    }

module _ (work : Work) (lines : List Line) (s t v w x : DiskState) (is : IsTree s.tree) (holds : HoldsPresent s) (p : IsSettledIn placing work lines s) where
  place_leads : (line : Line) → Contains lines line → reached s.tree line.path true ≡ Some (place_of line)
  place_leads line has =
      let (f, has_f, of) = p.is_for.no_other line has in
      leads work lines line has s is holds p line.path refl ∙ ap (λ (q : NameList). Some q) (sym of.place)

  pub carried_out : (root path : List ℕ) → AreRootPaths work root path → IsTree t.tree → HoldsPresent t → IsSettledIn removing work lines t → ChangesFiles lines s.tree t.tree → RemovesAt path t v
      → RemovesStages lines v w → x.tree ≡ w.tree → HoldsPresent x → IsIn cleared work lines x → StagesAreGone lines x → CarriesOut lines (journal_of work) s.tree x.tree
  carried_out root path are is_t holds_t ready puts removed cleared_some same holds_x end gone = record {
    files = holds_staged work lines s x is holds p holds_x end;
    stages = λ line has. (gone line has).gone;
    no_journal = content_none (node_at x.tree (journal_of work)) ((present_in cleared work lines x holds_x end (journal_of work)).journal refl);
    others = λ q not_journal n.
        let at : removed.place ≡ journal_of work = same_Some _ _ (sym removed.names ∙ journal_named removing work lines t holds_t ready is_t root path are) in
        ap (λ (y : Tree). node_at y q) same ∙ cleared_some.others q (λ (line, has, e). (n line has).1 e) ∙ removed.others q (λ e. not_journal (e ∙ at))
        ∙ puts.others q (λ line has e. (n line has).0 (sym (same_Some _ _ (sym (place_leads line has) ∙ e))));
  }

-- ---- the journal is gone, whatever it tells

-- its path names its place, also once files were put in place
journal_names : (s t : DiskState) (root path : List ℕ) (folder : NameList) → IsTree s.tree → HasJournalAt s.tree root path folder → SameFiles s.tree t.tree → named t.tree path ≡ Some (folder ++ journal_name ∷ [])
journal_names s t root path folder is at same =
    named_alike (files_ways s.tree t.tree same) path ∙ ap (named s.tree) at.path_is ∙ text_names s.tree is folder journal_name (directory_there s.tree root folder at.leads) journal_is_name

pub journal_gone : (s t v w x : DiskState) (root path : List ℕ) (folder : NameList) → IsTree s.tree → HasJournalAt s.tree root path folder → SameFiles s.tree t.tree → RemovesAt path t v → KeepsOrRemoves v.tree w.tree
    → x.tree ≡ w.tree → node_at x.tree (folder ++ journal_name ∷ []) ≡ None
journal_gone s t v w x root path folder is at same removed kept e =
    let here : removed.place ≡ folder ++ journal_name ∷ [] = same_Some _ _ (sym removed.names ∙ journal_names s t root path folder is at same) in
    let gone : node_at v.tree (folder ++ journal_name ∷ []) ≡ None = ap (node_at v.tree) (sym here) ∙ removed.gone in
    ap (λ (y : Tree). node_at y (folder ++ journal_name ∷ [])) e ∙ elim (kept.each (folder ++ journal_name ∷ [])) [ inl stays ↦ stays ∙ gone | inr none ↦ none ]

-- ---- why the rest isn't done

-- the journal isn't removed
pub removal_fails : (tells : Bool) (s t v : DiskState) (lines : List Line) (root path : List ℕ) (fault : DiskFault) → (IsTrue tells → IsTree s.tree)
    → (IsTrue tells → (folder : NameList) × HasJournalAt s.tree root path folder) → (IsTrue tells → SameFiles s.tree t.tree) → s.faults ≤ t.faults → RemovalFails (course tells t v) root path fault
    → HasLineCause (course tells s v) lines (as_job fault)
removal_fails tells s t v lines root path disk.Absent is stands same low cause = (
  (λ told.
      let (folder, at) = stands told in
      absurd (elim (cause.0 told) [
        | inl none ↦ none_stands (file_at t.tree (folder ++ journal_name ∷ [])) (sym (ap (option_and_then (file_at t.tree)) (journal_names s t root path folder (is told) at (same told))) ∙ none)
            (file_still s.tree t.tree (same told) (folder ++ journal_name ∷ []) at.is_file)
        | inr none ↦ none_stands (directory_of t.tree root) none (ap is_some (directory_alike (files_ways s.tree t.tree (same told)) root ∙ at.leads))
      ])),
  (λ untold. risen_since s.faults t.faults v.faults low (cause.1 untold)),
)
removal_fails tells s t v lines root path disk.Taken is stands same low cause = absurd cause
removal_fails tells s t v lines root path disk.Failed is stands same low cause = risen_since s.faults t.faults v.faults low cause
removal_fails tells s t v lines root path disk.NoMemory is stands same low cause = tt

-- the stages aren't removed
pub clearing_fails : (tells : Bool) (s v w : DiskState) (lines : List Line) (fault : DiskFault) → s.faults ≤ v.faults → ClearingFails (course tells v w) fault → HasLineCause (course tells s w) lines (as_job fault)
clearing_fails tells s v w lines disk.Absent low cause = absurd cause
clearing_fails tells s v w lines disk.Taken low cause = absurd cause
clearing_fails tells s v w lines disk.Failed low cause = risen_since s.faults v.faults w.faults low cause
clearing_fails tells s v w lines disk.NoMemory low cause = tt

-- their folders aren't put on the medium
pub syncing_fails : (tells : Bool) (s w x : DiskState) (lines : List Line) (fault : DiskFault) → (IsTrue tells → SameWays s.tree w.tree) → s.faults ≤ w.faults → SyncingFails (course tells w x) lines fault
    → HasLineCause (course tells s x) lines (as_job fault)
syncing_fails tells s w x lines disk.Absent ways low cause = (
  (λ told.
      let (line, has, is, none) = cause.0 told in
      (line, has, inl (no_folder_no_file s.tree line is (sym (directory_alike (ways told) (path_text (parent_of (place_of line)))) ∙ none)))),
  (λ untold. risen_since s.faults w.faults x.faults low (cause.1 untold)),
)
syncing_fails tells s w x lines disk.Taken ways low cause = absurd cause
syncing_fails tells s w x lines disk.Failed ways low cause = risen_since s.faults w.faults x.faults low cause
syncing_fails tells s w x lines disk.NoMemory ways low cause = tt

pub ways_to_end : (s t v w : DiskState) (path : List ℕ) → SameFiles s.tree t.tree → RemovesAt path t v → KeepsOrRemoves v.tree w.tree → SameWays s.tree w.tree
ways_to_end s t v w path same removed kept = then_ways s.tree t.tree w.tree (files_ways s.tree t.tree same) (then_ways t.tree v.tree w.tree removed.ways kept.ways)
