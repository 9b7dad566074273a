-- A change of many files, from its beginning to its end.
use Rattle.std.proofs.Common.{◌≡◌, ◌≢◌, ℕ, Bool, true, false, List, [], ◌∷◌, ◌++◌, refl, sym, ◌∙◌, ap, subst, inl, inr, arith}
use Rattle.std.specs.Prelude.{Option, Some, None, IsSome, is_some, IsTrue, ◌↔◌, Contains, Result, Ok, Err, OnOk, IsErrAnd, MatchResult}
use Rattle.std.specs.List.{AllByRecursion}
use Rattle.std.proofs.lemmas.Option.{same_Some}
use Rattle.sd_io.specs.Tree.{Name, NameList, IsName, Node, Tree, IsTree, node_at, file_at, is_directory_at, is_directory_node}
use Rattle.sd_io.specs.Paths.{parts_of, parent_of, named}
use Rattle.sd_io.specs.Outcomes.{content_of}
use Rattle.sd_io.specs.Disk.{DiskState, SameTree, HoldsPresent}
use Rattle.sd_io.specs.Files.{path_text}
use Rattle.sd_io.specs.Lists.{directory_of, SyncsFolder}
use Rattle.sd_io.proofs.OutcomeLemmas.{parent_of_child}
use Rattle.sd_io.proofs.PathTextLemmas.{text_names, names_of, directory_stands}
use Rattle.sd_io.proofs.CrashLemmas.{settled_same, settled_folder}
use Rattle.sd_change.specs.Change.{Change}
use Rattle.file_exchange.specs.Reserved.{reserved_name, FirstFree}
use Rattle.file_exchange.specs.declared.reserved.Temporary.{Temporary}
use Rattle.file_exchange.specs.Exchange.{IsPathIn, IsFilePath}
use Rattle.file_exchange.specs.Crash.{Exchange}
use Rattle.file_exchange.proofs.PlaceLemmas.{is_beside, is_free, placed, reserved_is_name}
use Rattle.journal_text.specs.declared.line.Line.{Line}
use Rattle.journal_text.specs.Journal.{IsLine, text_of}
use Rattle.journal_text.proofs.PathLemmas.{place_parts}
use Rattle.change_phases.specs.Between.{Work, journal_name, journal_of, place_of, stage_of, IsAside, AreLinesOf, IsJournalFor}
use Rattle.change_phases.specs.Phases.{preparing, naming, placing, cleared, IsIn, HasStagesOnly}
use Rattle.change_phases.proofs.PhaseLemmas.{between_in, passes_between, passes_since, still_in, present_in}
use Rattle.change_phases.proofs.RootLemmas.{directory_kept, between_ways}
use Rattle.change_phases.proofs.LineLemmas.{listed}
use Rattle.change_phases.proofs.WorkLemmas.{content_there, file_there, none_there, open_aside, aside_not_journal, free_was_free, aside_no_file}
use Rattle.change_phases.proofs.StepLemmas.{passes_folder, naming_of}
use Rattle.change_phases.proofs.SettledLemmas.{begins_preparing, begins_settled}
use Rattle.journal.specs.Keeping.{AreRootPaths, IsPreparing, KeepsPreparing, IsSettledIn, KeepsPhase, KeepsBetween}
use Rattle.journal.specs.Beside.{MakesBeside, LeavesBeside, AddsBeside}
use Rattle.journal.specs.Finishing.{CarriesOut}
use Rattle.journal.specs.Clearing.{HaveFolders, IsStage, LeavesNoMore, ArePutOnMedium}
use Rattle.journal.specs.Naming.{MayBeNamed, MovesTo}
use Rattle.journal.specs.Planning.{AreChangesOf, AddsStages, AreStagesMade}
use Rattle.journal.specs.Changing.{IsChangeBelow, MayChange, IsChanged, ExchangesFiles, LeavesNothing}
use Rattle.journal.proofs.KeepingLemmas.{journal_is_name, journal_named, directory_there, settled_still}
use Rattle.journal.proofs.PlanningLemmas.{preparing_still, preparing_then, preparing_same, stood_no_stage, free_before}
use Rattle.journal.proofs.SameFilesLemmas.{none_stands, none_or_some}

-- ---- a change begins

pub begins : (change : Change) (work : Work) (root : List ℕ) (paths : List (List ℕ)) (s : DiskState) → IsChangeBelow change work root paths s → MayChange change work root paths s
begins change work root paths s b = record {
  planned = record {
    preparing_now = record {
      is_work = b.is_work;
      preparing_now = begins_preparing work b.is_work s b.tree b.on_medium [];
      settled = begins_settled work b.is_work s b.tree b.on_medium;
    };
    changes = b.changes;
    own_places = b.own_places;
  };
  leads = b.leads;
}

pub root_is : (change : Change) (work : Work) (root : List ℕ) (paths : List (List ℕ)) (s : DiskState) → IsChangeBelow change work root paths s → (is : Bool)
    → (IsTrue is ↔ IsSome (directory_of s.tree root)) → is ≡ false → ⊥
root_is change work root paths s b is tells no_root =
    let yes_root : is ≡ true = tells.1 (ap is_some (ap (λ (t : Tree). directory_of t root) (sym b.tree) ∙ b.leads)) in
    cc (sym no_root ∙ yes_root)

pub exchanged_before : (work : Work) (s t x : DiskState) → t.tree ≡ s.tree → ExchangesFiles work.files t.tree x.tree → ExchangesFiles work.files s.tree x.tree
exchanged_before work s t x same e = subst (λ (y : Tree). ExchangesFiles work.files y x.tree) same e

pub root_none : (root : List ℕ) (s : DiskState) (is : Bool) → (IsTrue is ↔ IsSome (directory_of s.tree root)) → is ≡ true → directory_of s.tree root ≡ None → ⊥
root_none root s is tells yes_root none = none_stands (directory_of s.tree root) none (tells.0 yes_root)

-- ---- while it is prepared

pub preparing_between : (work : Work) (s t : DiskState) → KeepsPreparing work s t → KeepsBetween work s t
preparing_between work s t k = record { between = passes_between preparing work [] s t tt k.passes; settled = k.settled }

module _ (change : Change) (work : Work) (root : List ℕ) (paths : List (List ℕ)) (s t : DiskState) (m : MayChange change work root paths s) where
  pub may_on : t.tree ≡ s.tree → KeepsPreparing work s t → MayChange change work root paths t
  may_on tree k = record {
    planned = record {
      preparing_now = preparing_still work s t m.planned.preparing_now k;
      changes = subst (λ (x : Tree). AreChangesOf change x paths work.files) (sym tree) m.planned.changes;
      own_places = m.planned.own_places;
    };
    leads = m.leads;
  }

  pub keeps_same_tree : SameTree s t → KeepsPreparing work s t
  keeps_same_tree same = preparing_same work s t m.planned.preparing_now same

  pub keeps_synced : HoldsPresent s → (path : List ℕ) → SyncsFolder s path t → KeepsPreparing work s t
  keeps_synced holds path y = record {
    passes = passes_folder preparing work [] s t m.planned.preparing_now.preparing_now holds path y;
    settled = record {
      files = λ f has. settled_folder s t y.folder y.tree y.advances f.0 (m.planned.preparing_now.settled.files f has);
      journal = settled_folder s t y.folder y.tree y.advances (journal_of work) m.planned.preparing_now.settled.journal;
    };
  }

-- before the stages are made
module _ (change : Change) (work : Work) (root : List ℕ) (paths : List (List ℕ)) (s s1 : DiskState) (b : IsChangeBelow change work root paths s) (same : SameTree s s1) where
  looked : MayChange change work root paths s1
  looked = let m = begins change work root paths s b in may_on change work root paths s s1 m same.tree (keeps_same_tree change work root paths s s1 m same)

  pub looked_keeps : KeepsPreparing work s s1
  looked_keeps = keeps_same_tree change work root paths s s1 (begins change work root paths s b) same

  module _ (s2 : DiskState) (holds : HoldsPresent s1) (y : SyncsFolder s1 root s2) (s3 : DiskState) (found : SameTree s2 s3) where
    synced_may : MayChange change work root paths s2
    synced_may = may_on change work root paths s1 s2 looked y.tree (keeps_synced change work root paths s1 s2 looked holds root y)

    pub synced_keeps : KeepsPreparing work s s3
    synced_keeps = preparing_then work s s1 s3 looked_keeps
        (preparing_then work s1 s2 s3 (keeps_synced change work root paths s1 s2 looked holds root y) (keeps_same_tree change work root paths s2 s3 synced_may found))

    pub synced_still : MayChange change work root paths s3
    synced_still = may_on change work root paths s2 s3 synced_may found.tree (keeps_same_tree change work root paths s2 s3 synced_may found)

-- ---- the stages are made, and their folders put on the medium

-- no file changes
pub none_changes : (work : Work) (lines : List Line) (s t : DiskState) → KeepsPreparing work s t → AreStagesMade work lines t → lines ≡ [] → IsChanged work t
none_changes work lines s t k made none = record {
  new = λ f has. absurd (no_file work.files (subst (AreLinesOf work.tree work.files) none made.in_turn) f has);
  no_journal = λ found l. (still_in preparing work [] s t k.passes (journal_of work) found l).journal refl;
}
  where
    no_file : (files : List Exchange) → AreLinesOf work.tree files [] → (f : Exchange) → Contains files f → ⊥
    no_file [] are f has = omega (arith, has.1)
    no_file (g ∷ files) are f has = are

module _ (change : Change) (work : Work) (root : List ℕ) (paths : List (List ℕ)) (s t : DiskState) (m : MayChange change work root paths s) (k : KeepsPreparing work s t) (lines : List Line)
    (are_lines : AllByRecursion IsLine lines) (made : AreStagesMade work lines t) where
  prepared : IsPreparing work t
  prepared = preparing_still work s t m.planned.preparing_now k

  pub is_journal : IsJournalFor work lines
  is_journal = listed work lines (record { are_lines = are_lines; in_turn = made.in_turn; own_places = m.planned.own_places; own_stages = made.own_stages })

  module _ (u v : DiskState) (same : SameTree t u) (synced : LeavesNoMore u v) where
    looked_on : KeepsPreparing work t u
    looked_on = preparing_same work t u prepared same

    put_on : KeepsPreparing work u v
    put_on =
        let p = preparing_still work t u prepared looked_on in
        record {
          passes = passes_since preparing work [] (λ q content. ⊥) (λ q. ⊥) u v p.preparing_now (λ q content none. absurd none) (λ q none. absurd none) synced.leaves;
          settled = record { files = λ f has. synced.settled f.0 (p.settled.files f has); journal = synced.settled (journal_of work) p.settled.journal };
        }

    -- up to here
    pub staged_keeps : KeepsPreparing work s v
    staged_keeps = preparing_then work s t v k (preparing_then work t u v looked_on put_on)

    for_lines : IsIn preparing work lines v
    for_lines q found l =
        let may = still_in preparing work [] s v staged_keeps.passes q found l in
        record { journal = may.journal; file = may.file; stage = λ line f has has_f of e. tt; elsewhere = may.elsewhere }

    pub no_journal_yet : HoldsPresent v → node_at v.tree (journal_of work) ≡ None
    no_journal_yet holds = none_there (node_at v.tree (journal_of work)) ((present_in preparing work lines v holds for_lines (journal_of work)).journal refl)

    -- the stages are there for good
    module _ (put : ArePutOnMedium lines u v) where
      stages_only : HasStagesOnly work lines v
      stages_only line f has has_f of found l =
          let at = made.staged line f has has_f of in
          let holds : file_at u.tree (stage_of line) ≡ Some (f.1, at.mode) = ap (λ (x : Tree). file_at x (stage_of line)) same.tree ∙ at.holds in
          let is = (put line has).there (reserved_name line.number) (ap is_some holds) (settled_same t u same (stage_of line) at.settled) found l in
          (at.mode, is ∙ content_there (node_at u.tree (stage_of line)) f.1 at.mode holds)

      pub may_name : IsSettledIn naming work lines v
      may_name = record {
        is_work = m.planned.preparing_now.is_work;
        is_for = is_journal;
        phase_now = naming_of work m.planned.preparing_now.is_work lines is_journal v for_lines stages_only;
        settled = staged_keeps.settled;
      }

-- ---- folders

pub line_folders : (tree : Tree) (lines : List Line) → IsTree tree → ((line : Line) → Contains lines line → IsFilePath tree line.path) → HaveFolders tree lines
line_folders tree lines is are line has = (placed tree line.path is (are line has)).folder

pub paths_there : (old now : Tree) (lines : List Line) → now ≡ old → ((line : Line) → Contains lines line → IsFilePath old line.path) → (line : Line) → Contains lines line → IsFilePath now line.path
paths_there old now lines same are line has = subst (λ (t : Tree). IsFilePath t line.path) (sym same) (are line has)

names_push : (names : NameList) (name : Name) → AllByRecursion IsName names → IsName name → AllByRecursion IsName (names ++ name ∷ [])
names_push [] name are is = (is, tt)
names_push (first ∷ names) name are is = (are.0, names_push names name are.1 is)

-- the journal's path is one in the root
pub journal_path_in : (tree : Tree) (root : List ℕ) (folder : NameList) (path : List ℕ) → IsTree tree → directory_of tree root ≡ Some folder → path ≡ path_text (folder ++ journal_name ∷ []) → IsPathIn tree path
journal_path_in tree root folder path is leads text =
    let there : is_directory_at tree folder ≡ true = directory_there tree root folder leads in
    let are : AllByRecursion IsName (folder ++ journal_name ∷ []) = names_push folder journal_name (names_of tree is folder (directory_stands (node_at tree folder) there)) journal_is_name in
    let parts : parts_of path ≡ folder ++ journal_name ∷ [] = ap parts_of text ∙ place_parts (folder ++ journal_name ∷ []) (record { some = nothing folder; each = are }) in
    record {
      path_is = text ∙ ap path_text (sym parts);
      below_top = λ e. nothing folder (sym parts ∙ e);
      are_names = subst (AllByRecursion IsName) (sym parts) are;
      folder = subst (λ (q : NameList). IsTrue (is_directory_at tree q)) (sym (ap parent_of parts ∙ parent_of_child folder journal_name)) there;
    }
  where
    nothing : (q : NameList) → q ++ journal_name ∷ [] ≡ [] → ⊥
    nothing [] e = cc
    nothing (first ∷ q) e = cc

-- and its folder is the root
pub journal_folder : (tree : Tree) (root : List ℕ) (folder : NameList) (path : List ℕ) → IsTree tree → directory_of tree root ≡ Some folder → path ≡ path_text (folder ++ journal_name ∷ []) → parent_of (parts_of path) ≡ folder
journal_folder tree root folder path is leads text =
    let there : is_directory_at tree folder ≡ true = directory_there tree root folder leads in
    let are : AllByRecursion IsName (folder ++ journal_name ∷ []) = names_push folder journal_name (names_of tree is folder (directory_stands (node_at tree folder) there)) journal_is_name in
    ap parent_of (ap parts_of text ∙ place_parts (folder ++ journal_name ∷ []) (record { some = nothing folder; each = are })) ∙ parent_of_child folder journal_name
  where
    nothing : (q : NameList) → q ++ journal_name ∷ [] ≡ [] → ⊥
    nothing [] e = cc
    nothing (first ∷ q) e = cc

-- ---- the journal is written

module _ (work : Work) (lines : List Line) (s : DiskState) (is : IsTree s.tree) (holds : HoldsPresent s) (p : IsSettledIn naming work lines s) (root path : List ℕ) (are : AreRootPaths work root path)
    (path_in : IsPathIn s.tree path) where
  place_is : parts_of path ≡ journal_of work
  place_is =
      let beside = is_beside s.tree path path_in in
      let own : named s.tree path ≡ Some (parent_of (parts_of path) ++ beside.name ∷ []) =
      ap (named s.tree) beside.text ∙ text_names s.tree is (parent_of (parts_of path)) beside.name beside.folder beside.is_name in
      beside.place_is ∙ same_Some _ _ (sym own ∙ journal_named naming work lines s holds p is root path are)

  folder_is : parent_of (parts_of path) ≡ work.root
  folder_is = ap parent_of place_is ∙ parent_of_child work.root journal_name

  aside : (q : NameList) → FirstFree s.tree (parent_of (parts_of path)) q → IsAside work q
  aside q first = free_was_free work p.is_work naming lines s holds p.phase_now (parent_of (parts_of path)) (inl folder_is) q (is_free first)

  no_stage : (q : NameList) → FirstFree s.tree (parent_of (parts_of path)) q → (line : Line) → Contains lines line → q ≢ stage_of line
  no_stage q first line has e =
      let (f, has_f, of) = p.is_for.no_other line has in
      let (mode, there) = (present_in naming work lines s holds p.phase_now (stage_of line)).stage line f has has_f of refl in
      cc (sym there ∙ ap content_of (ap (node_at s.tree) (sym e) ∙ first.free))

  pub beside_naming : (t : DiskState) → LeavesBeside s (parent_of (parts_of path)) t → KeepsPhase naming work lines s t
  beside_naming t l = record {
    passes = passes_since naming work lines (λ q content. ⊥) (λ q. l.temporary ≡ Some q) s t p.phase_now (λ q content none. absurd none)
        (λ q e. open_aside work p.is_work naming lines q (aside q (l.was_free q e)) (no_stage q (l.was_free q e))) l.leaves;
    settled = record {
      files = λ f has. l.settled f.0 (λ e. aside_no_file work p.is_work f.0 (aside f.0 (l.was_free f.0 e)) f has refl) (p.settled.files f has);
      journal = l.settled (journal_of work) (λ e. aside_not_journal work p.is_work (journal_of work) (aside (journal_of work) (l.was_free (journal_of work) e)) refl) p.settled.journal;
    };
  }

  pub may_be_named : (t : DiskState) (bytes : List ℕ) (like : NameList) (made : Temporary) → IsTree t.tree → LeavesBeside s (parent_of (parts_of path)) t → bytes ≡ text_of lines
      → MakesBeside s (parent_of (parts_of path)) like bytes made t → node_at s.tree (journal_of work) ≡ None → MayBeNamed work lines made.path path root t
  may_be_named t bytes like made is_now l text m none =
      let first = m.was_free in
      let folder_there : IsTrue (is_directory_at t.tree (parent_of (parts_of path))) =
      ap is_directory_node (m.others (parent_of (parts_of path)) (λ e. no_directory (node_at s.tree m.temporary) first.free (ap is_directory_node (ap (node_at s.tree) (sym e)) ∙ path_in.folder))) ∙ path_in.folder in
      let place : m.temporary ≡ parent_of (parts_of path) ++ reserved_name first.reserved.0 ∷ [] = first.reserved.2 in
      record {
        root_paths = are;
        phase = settled_still naming work lines s t p (beside_naming t l);
        place = m.temporary;
        names =
            ap (named t.tree) (m.path_is ∙ ap path_text place)
            ∙ text_names t.tree is_now (parent_of (parts_of path)) (reserved_name first.reserved.0) folder_there (reserved_is_name first.reserved.0)
            ∙ ap (λ (q : NameList). Some q) (sym place);
        was_free = aside m.temporary first;
        no_stage = no_stage m.temporary first;
        mode = m.mode;
        holds = m.holds ∙ ap (λ (b : List ℕ). Some (b, m.mode)) text;
        settled = m.settled;
        free = m.others (journal_of work) (λ e. aside_not_journal work p.is_work m.temporary (aside m.temporary first) (sym e)) ∙ none;
      }
    where
      no_directory : (o : Option Node) → o ≡ None → is_directory_node o ≡ true → ⊥
      no_directory None e is = cc is
      no_directory (Some node) e is = cc e

-- the path that it has names it
pub beside_adds : (s t : DiskState) (path bytes : List ℕ) (like : NameList) (made : Temporary) → IsPathIn s.tree path → IsTree t.tree → MakesBeside s (parent_of (parts_of path)) like bytes made t
    → AddsBeside (parent_of (parts_of path)) made.path s.tree t.tree
beside_adds s t path bytes like made path_in is m =
    let first = m.was_free in
    let folder_there : IsTrue (is_directory_at t.tree (parent_of (parts_of path))) =
    ap is_directory_node (m.others (parent_of (parts_of path)) (λ e. no_directory (node_at s.tree m.temporary) first.free (ap is_directory_node (ap (node_at s.tree) (sym e)) ∙ path_in.folder))) ∙ path_in.folder in
    let place : m.temporary ≡ parent_of (parts_of path) ++ reserved_name first.reserved.0 ∷ [] = first.reserved.2 in
    record {
      temporary = m.temporary;
      was_free = is_free first;
      names =
          ap (named t.tree) (m.path_is ∙ ap path_text place)
          ∙ text_names t.tree is (parent_of (parts_of path)) (reserved_name first.reserved.0) folder_there (reserved_is_name first.reserved.0)
          ∙ ap (λ (q : NameList). Some q) (sym place);
      is_file = ap is_some m.holds;
      others = m.others;
    }
  where
    no_directory : (o : Option Node) → o ≡ None → is_directory_node o ≡ true → ⊥
    no_directory None e is = cc is
    no_directory (Some node) e is = cc e

-- ---- the tree at the end

-- the journal was named, and the change carried out
pub nothing_left : (work : Work) (lines : List Line) (temporary path root : List ℕ) (s t x : DiskState) → IsTree s.tree → HoldsPresent s → MayBeNamed work lines temporary path root s → MovesTo temporary path s.tree t.tree
    → CarriesOut lines (journal_of work) t.tree x.tree → LeavesNothing lines temporary (journal_of work) s.tree x.tree
nothing_left work lines temporary path root s t x is holds m moved carried =
    let from : moved.source ≡ m.place = same_Some _ _ (sym moved.leaves ∙ m.names) in
    let to : moved.target ≡ journal_of work = same_Some _ _ (sym moved.comes ∙ journal_named naming work lines s holds m.phase is root path m.root_paths) in
    let apart : m.place ≢ journal_of work = aside_not_journal work m.phase.is_work m.place m.was_free in
    record {
      place = m.place;
      names = m.names;
      no_temporary =
          carried.others m.place apart (λ line has. (no_place line has, m.no_stage line has)) ∙ ap (node_at t.tree) (sym from) ∙ moved.gone (λ e. apart (sym from ∙ e ∙ to));
      no_journal = carried.no_journal;
      no_stage = carried.stages;
      others = λ q no_temporary no_journal n. carried.others q no_journal n ∙ moved.others q (λ e. no_temporary (e ∙ from)) (λ e. no_journal (e ∙ to));
    }
  where
    no_place : (line : Line) → Contains lines line → m.place ≢ place_of line
    no_place line has e =
        let (f, has_f, of) = m.phase.is_for.no_other line has in
        aside_no_file work m.phase.is_work m.place m.was_free f has_f (e ∙ of.place)

-- no file changes
pub none_exchanged : (work : Work) (lines : List Line) (s t : DiskState) → AreStagesMade work lines t → AddsStages lines s.tree t.tree → lines ≡ [] → ExchangesFiles work.files s.tree t.tree
none_exchanged work lines s t made adds none = record {
  each = λ f has. absurd (no_file work.files (subst (AreLinesOf work.tree work.files) none made.in_turn) f has);
  others = λ q n. adds.others q (λ (line, has, e). let few = subst (λ (ls : List Line). Contains ls line) none has in omega (arith, few.1));
}
  where
    no_file : (files : List Exchange) → AreLinesOf work.tree files [] → (f : Exchange) → Contains files f → ⊥
    no_file [] are f has = omega (arith, has.1)
    no_file (g ∷ files) are f has = are

module _ (work : Work) (lines : List Line) (temporary : List ℕ) (folder : NameList) (s t v w x : DiskState) (p : IsPreparing work s) (holds : HoldsPresent s) (is_for : IsJournalFor work lines) (stages : AddsStages lines s.tree t.tree)
    (same : v.tree ≡ t.tree) (written : AddsBeside folder temporary v.tree w.tree) (left : LeavesNothing lines temporary (journal_of work) w.tree x.tree) where
  temporary_is : left.place ≡ written.temporary
  temporary_is = same_Some _ _ (sym left.names ∙ written.names)

  -- where one stands that is none of the files, it stands as it did
  record IsOther (q : NameList) : Type 0 where
    no_temporary : q ≢ left.place
    no_journal : q ≢ journal_of work
    no_stage : IsStage lines q → ⊥

  new_other : (q : NameList) → IsSome (node_at x.tree q) → IsOther q
  new_other q stands = record {
    no_temporary = λ e. none_stands (node_at x.tree q) (ap (node_at x.tree) e ∙ left.no_temporary) stands;
    no_journal = λ e. none_stands (node_at x.tree q) (ap (node_at x.tree) e ∙ left.no_journal) stands;
    no_stage = λ (line, has, e). none_stands (node_at x.tree q) (ap (node_at x.tree) e ∙ left.no_stage line has) stands;
  }

  old_other : (q : NameList) → IsSome (node_at s.tree q) → IsOther q
  old_other q stood = record {
    no_temporary = λ e. none_stands (node_at s.tree q) (free_before lines s.tree t.tree stages q (ap (λ (y : Tree). node_at y q) (sym same) ∙ ap (node_at v.tree) (e ∙ temporary_is) ∙ written.was_free.free)) stood;
    no_journal = λ e. none_stands (node_at s.tree q) (ap (node_at s.tree) e ∙ none_there (node_at s.tree (journal_of work)) ((present_in preparing work [] s holds p.preparing_now (journal_of work)).journal refl)) stood;
    no_stage = stood_no_stage lines s.tree t.tree stages q stood;
  }

  as_it_stood : (q : NameList) → ((f : Exchange) → Contains work.files f → q ≢ f.0) → IsOther q → node_at x.tree q ≡ node_at s.tree q
  as_it_stood q n other =
      left.others q other.no_temporary other.no_journal
      (λ line has. ((λ e. let (f, has_f, of) = is_for.no_other line has in n f has_f (e ∙ of.place)), (λ e. other.no_stage (line, has, e))))
      ∙ written.others q (λ e. other.no_temporary (e ∙ sym temporary_is)) ∙ ap (λ (y : Tree). node_at y q) same ∙ stages.others q other.no_stage

  pub exchanged : HoldsPresent x → IsIn cleared work lines x → ExchangesFiles work.files s.tree x.tree
  exchanged holds_x end = record {
    each = λ f has.
        let new = (present_in cleared work lines x holds_x end f.0).file f has refl in
        let old = (present_in preparing work [] s holds p.preparing_now f.0).file f has refl in
        record {
          before = new.bytes;
          mode = new.mode;
          was = file_there (node_at s.tree f.0) new.bytes new.mode (old ∙ content_there (node_at work.tree f.0) new.bytes new.mode new.was);
          holds = file_there (node_at x.tree f.0) f.1 new.mode new.is;
        };
    others = λ q n. elim (none_or_some (node_at x.tree q)) [
      | inr stands ↦ as_it_stood q n (new_other q stands)
      | inl none ↦ elim (none_or_some (node_at s.tree q)) [
        | inr stood ↦ as_it_stood q n (old_other q stood)
        | inl none_before ↦ none ∙ sym none_before
      ]
    ];
  }

pub ok_both : {T E : Type 0} (P Q : Type 0) (r : Result T E) → OnOk r P → OnOk r Q → OnOk r (P × Q)
ok_both P Q (Ok x) p q = (p, q)
ok_both P Q (Err e) p q = tt

-- ---- from phase to phase

pub naming_between : (work : Work) (lines : List Line) (s t : DiskState) → IsSettledIn naming work lines s → KeepsPhase naming work lines s t → KeepsBetween work s t
naming_between work lines s t p k = record { between = passes_between naming work lines s t p.is_for k.passes; settled = k.settled }

pub may_place : (work : Work) (lines : List Line) (s t : DiskState) → IsSettledIn naming work lines s → KeepsPhase naming work lines s t → IsIn placing work lines t → IsSettledIn placing work lines t
may_place work lines s t p k is = record { is_work = p.is_work; is_for = p.is_for; phase_now = is; settled = k.settled }

-- the root's path leads to the root while the change is prepared
pub root_now : (work : Work) (root : List ℕ) (s : DiskState) → HoldsPresent s → IsPreparing work s → directory_of work.tree root ≡ Some work.root → directory_of s.tree root ≡ Some work.root
root_now work root s holds p leads =
    directory_kept work.tree s.tree (between_ways work p.is_work s.tree (between_in work [] s.tree preparing tt (present_in preparing work [] s holds p.preparing_now))) root work.root leads

pub root_paths : (work : Work) (root path : List ℕ) → directory_of work.tree root ≡ Some work.root → path ≡ path_text (work.root ++ journal_name ∷ []) → AreRootPaths work root path
root_paths work root path leads is = record { leads = leads; journal_is = is }

-- an answer that is told as another's
pub told_ok : {T E F : Type 0} (P Q : Type 0) (of : E → F) (r : Result T E) (q : Result T F) → MatchResult r (λ x. q ≡ Ok x) (λ fault. IsErrAnd q (λ e. e ≡ of fault)) → OnOk r P → (P → Q) → OnOk q Q
told_ok P Q of (Ok x) q is p then = subst (λ r. OnOk r Q) (sym is) (then p)
told_ok P Q of (Err f) (Ok x) is p then = absurd is
told_ok P Q of (Err f) (Err e) is p then = tt

-- all is done
pub changed_at_the_end : (work : Work) (lines : List Line) (s : DiskState) → IsIn cleared work lines s → IsChanged work s
changed_at_the_end work lines s is = record {
  new = λ f has found l. (is f.0 found l).file f has refl;
  no_journal = λ found l. (is (journal_of work) found l).journal refl;
}
