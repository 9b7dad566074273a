-- Why a journal isn't written, or isn't carried out.
use Rattle.std.proofs.Common.{true, false, Bool, ◌≡◌, ◌≢◌, ◌≤◌, ℕ, List, [], ◌∷◌, ◌++◌, refl, sym, ◌∙◌, ap, subst, inl, inr, arith}
use Rattle.std.specs.Prelude.{Option, Some, None, IsSome, is_some, IsTrue, Contains, Result, Ok, Err, IfErr}
use Rattle.std.specs.Option.{option_and_then}
use Rattle.std.proofs.lemmas.Option.{same_Some}
use Rattle.sd_io.specs.declared.fault.DiskFault.{DiskFault}
use Rattle.sd_io.specs.declared.fault.DiskFault.TheVariants as disk
use Rattle.sd_io.specs.Tree.{NameList, Node, IsTree, node_at, file_node, file_at}
use Rattle.sd_io.specs.Paths.{parent_of, reached, named}
use Rattle.sd_io.specs.Count.{HasRisen}
use Rattle.sd_io.specs.Disk.{DiskState}
use Rattle.sd_io.specs.Files.{path_text, file_of, file_named}
use Rattle.sd_io.specs.Lists.{directory_of}
use Rattle.sd_io.proofs.WayLemmas.{reached_still, directory_alike}
use Rattle.sd_io.proofs.PathTextLemmas.{text_names}
use Rattle.sd_course.specs.Course.{course}
use Rattle.file_exchange.specs.Causes.{HasCauseOf}
use Rattle.file_exchange.specs.Reserved.{Reserved, reserved_names}
use Rattle.file_exchange.proofs.CauseLemmas.{risen_since}
use Rattle.file_exchange.proofs.PlaceLemmas.{placed}
use Rattle.file_rewrite.specs.Faults.{as_job}
use Rattle.file_rewrite.specs.OneFile.{IsMoveFault, IsCrowded}
use Rattle.file_rewrite.specs.declared.fault.JobFault.{JobFault}
use Rattle.file_rewrite.specs.declared.fault.JobFault.TheVariants as job
use Rattle.journal_text.specs.declared.line.Line.{Line}
use Rattle.change_phases.specs.Between.{journal_name, place_of, stage_of}
use Rattle.change_phases.proofs.WorkLemmas.{reserved_not_journal}
use Rattle.journal.specs.Faults.{of_disk}
use Rattle.journal.specs.Naming.{MovesTo, NamingFails}
use Rattle.journal.specs.Placing.{IsLineFault, HasLineCause}
use Rattle.journal.specs.Finishing.{HasJournalAt}
use Rattle.journal.specs.Changing.{WritingFails, IsWritten, IsLineCrowded, EndFails}
use Rattle.journal.proofs.KeepingLemmas.{journal_is_name, directory_there}
use Rattle.journal.proofs.FileLemmas.{text_to_file}
use Rattle.journal.proofs.SameFilesLemmas.{none_stands, none_or_some, some_of, file_stands}
use Rattle.journal.proofs.CauseLemmas.{more_since}

-- ---- no file is made beside the journal's place

pub writing_fails : {T : Type 0} (tells : Bool) (s t : DiskState) (path : List ℕ) (refused : DiskFault) → HasCauseOf {T = T} (λ f. f) tells s t (Err refused) → WritingFails (course tells s t) path (of_disk refused)
writing_fails tells s t path disk.Absent cause = let (untold, rose) = cause.absent refl in inl rose
writing_fails tells s t path disk.Taken cause = absurd (cause.not_taken refl)
writing_fails tells s t path disk.Failed cause = cause.failed refl
writing_fails tells s t path disk.NoMemory cause = tt

-- ---- the journal is named

module _ (tells : Bool) (lines : List Line) (temporary path root : List ℕ) (s : DiskState) (is : IsTrue tells → IsTree s.tree) (w : IsTrue tells → IsWritten lines temporary path root s.tree) where
  -- its own path names its place
  names_place : (told : IsTrue tells) → named s.tree path ≡ Some ((w told).folder ++ journal_name ∷ [])
  names_place told =
      let it = w told in
      ap (named s.tree) it.path_is ∙ text_names s.tree (is told) it.folder journal_name (directory_there s.tree root it.folder it.leads) journal_is_name

  -- why it isn't
  pub naming_fails : (t : DiskState) (refused : DiskFault) → NamingFails (course tells s t) temporary path root refused → EndFails (course tells s t) lines temporary (as_job refused)
  naming_fails t disk.Absent fails = by tells refl
    where
      by : (b : Bool) → tells ≡ b → HasRisen s.faults t.faults
      by true told = absurd (elim (fails.0 told) [
        | inl (inl none) ↦ none_stands (file_named s.tree temporary) none (subst IsSome (sym (ap (option_and_then (file_at s.tree)) (w told).names)) (w told).is_file)
        | inl (inr (inl none)) ↦ none_stands (named s.tree path) none (ap is_some (names_place told))
        | inl (inr (inr other)) ↦
            (let here = same_Some _ _ (sym other.names ∙ names_place told) in none_stands (node_at s.tree other.place) (ap (node_at s.tree) here ∙ (w told).free) other.stands)
        | inr none ↦ none_stands (directory_of s.tree root) none (ap is_some (w told).leads)
      ])
      by false untold = fails.1 untold
  naming_fails t disk.Taken fails = absurd fails
  naming_fails t disk.Failed fails = fails
  naming_fails t disk.NoMemory fails = tt

  module _ (t x : DiskState) (moved : IsTrue tells → MovesTo temporary path s.tree t.tree) where
    from_is : (told : IsTrue tells) → (moved told).source ≡ (w told).place
    from_is told = same_Some _ _ (sym (moved told).leaves ∙ (w told).names)

    to_is : (told : IsTrue tells) → (moved told).target ≡ (w told).folder ++ journal_name ∷ []
    to_is told = same_Some _ _ (sym (moved told).comes ∙ names_place told)

    -- it stands in its place
    pub journal_at : (told : IsTrue tells) → HasJournalAt t.tree root path (w told).folder
    journal_at told = record {
      leads = directory_alike (moved told).ways root ∙ (w told).leads;
      path_is = (w told).path_is;
      is_file = subst (λ (o : Option Node). IsSome (file_node o)) (ap (node_at s.tree) (sym (from_is told)) ∙ sym (moved told).moved ∙ ap (node_at t.tree) (to_is told)) (w told).is_file;
    }

    -- what else stood stands there
    still : (told : IsTrue tells) (q : NameList) → q ≢ (w told).place → IsSome (file_at s.tree q) → node_at t.tree q ≡ node_at s.tree q
    still told q apart stood =
        (moved told).others q (λ e. apart (e ∙ from_is told)) (λ e. none_stands (node_at s.tree q) (ap (node_at s.tree) (e ∙ to_is told) ∙ (w told).free) (file_stands (node_at s.tree q) stood))

    place_is_file : (told : IsTrue tells) (line : Line) → Contains lines line → (reached t.tree line.path true ≡ Some (place_of line)) × IsSome (file_at t.tree (place_of line))
    place_is_file told line has =
        let is_path = (w told).paths line has in
        let kept = still told (place_of line) (λ e. ((w told).apart line has).0 (sym e)) is_path.is_file in
        let there : IsSome (file_at t.tree (place_of line)) = subst (λ (o : Option Node). IsSome (file_node o)) (sym kept) is_path.is_file in
        (reached_still (moved told).ways line.path true (place_of line) (placed s.tree line.path (is told) is_path).leads (file_stands (node_at t.tree (place_of line)) there), there)

    stage_is_file : (told : IsTrue tells) → IsTree t.tree → (line : Line) → Contains lines line → IsSome (file_of t.tree (path_text (stage_of line)))
    stage_is_file told is_t line has =
        let stood = (w told).stages line has in
        let kept = still told (stage_of line) (λ e. ((w told).apart line has).1 (sym e)) stood in
        let (f, there) = some_of (file_at t.tree (stage_of line)) (subst (λ (o : Option Node). IsSome (file_node o)) (sym kept) stood) in
        ap is_some (ap (option_and_then (file_at t.tree)) (text_to_file t.tree (stage_of line) f is_t there) ∙ there)

    crowded : (told : IsTrue tells) → (line : Line) → Contains lines line → IsCrowded t.tree line.path 0 → IsLineCrowded s.tree lines temporary
    crowded told line has full =
        let here : full.place ≡ place_of line = same_Some _ _ (sym full.leads ∙ (place_is_file told line has).0) in
        record {
          line = line;
          has = has;
          taken = λ q reserved. elim (none_or_some (node_at s.tree q)) [
            | inr some ↦ some
            | inl none ↦ absurd (none_stands (node_at t.tree q) (none_now q reserved none) (taken_now full here q reserved))
          ];
          no_journal = λ q reserved e.
              let is_place = same_Some _ _ (sym (w told).names ∙ e) in
              none_stands (node_at t.tree q) (ap (node_at t.tree) (sym is_place ∙ sym (from_is told)) ∙ (moved told).gone two) (taken_now full here q reserved);
        }
      where
        two : (moved told).source ≢ (moved told).target
        two e = none_stands (node_at s.tree (w told).place) (ap (node_at s.tree) (sym (from_is told) ∙ e ∙ to_is told) ∙ (w told).free) (file_stands (node_at s.tree (w told).place) (w told).is_file)

        taken_now : (f : IsCrowded t.tree line.path 0) → f.place ≡ place_of line → (q : NameList) → Reserved (parent_of (place_of line)) q → IsSome (node_at t.tree q)
        taken_now f at q reserved = elim (none_or_some (node_at t.tree q)) [
          | inr some ↦ some
          | inl none ↦
              (let among = f.few.all q (record { reserved = subst (λ (p : NameList). Reserved (parent_of p) q) (sym at) reserved; free = none }) in absurd (omega (arith, among.1, f.few.few)))
        ]

        none_now : (q : NameList) → Reserved (parent_of (place_of line)) q → node_at s.tree q ≡ None → node_at t.tree q ≡ None
        none_now q reserved none =
            (moved told).others q
            (λ e. none_stands (node_at s.tree q) none (file_stands (node_at s.tree q) (subst (λ (p : NameList). IsSome (file_at s.tree p)) (sym (e ∙ from_is told)) (w told).is_file)))
            (λ e. reserved_not_journal (record { tree = s.tree; root = (w told).folder; files = [] }) (parent_of (place_of line)) reserved.0 (sym reserved.2 ∙ e ∙ to_is told))
            ∙ none

    -- a fault of a file is a counted one
    file_fails : (IsTrue tells → IsTree t.tree) → s.faults ≤ t.faults → (refused : DiskFault) → IsLineFault (course tells t x) lines refused → HasRisen s.faults x.faults
    file_fails is_t low disk.Absent fails = by tells refl
      where
        by : (b : Bool) → tells ≡ b → HasRisen s.faults x.faults
        by true told =
            let (line, has, lacks) = fails.0 told in
            absurd (elim lacks [
              | inl none ↦ none_stands (file_of t.tree line.path) none
                  (subst IsSome (sym (ap (option_and_then (file_at t.tree)) (place_is_file told line has).0)) (place_is_file told line has).1)
              | inr none ↦ none_stands (file_of t.tree (path_text (stage_of line))) none (stage_is_file told (is_t told) line has)
            ])
        by false untold = risen_since s.faults t.faults x.faults low (fails.1 untold)
    file_fails is_t low disk.Taken fails = absurd fails
    file_fails is_t low disk.Failed fails = risen_since s.faults t.faults x.faults low fails
    file_fails is_t low disk.NoMemory fails = absurd fails

    move_fails : s.faults ≤ t.faults → (refused : DiskFault) → IsMoveFault (course tells t x) refused → HasRisen s.faults x.faults
    move_fails low disk.Absent fails = by tells refl
      where
        by : (b : Bool) → tells ≡ b → HasRisen s.faults x.faults
        by true told = absurd (fails.0 told)
        by false untold = risen_since s.faults t.faults x.faults low (fails.1 untold)
    move_fails low disk.Taken fails = absurd fails
    move_fails low disk.Failed fails = risen_since s.faults t.faults x.faults low fails
    move_fails low disk.NoMemory fails = absurd fails

    end_cause : (IsTrue tells → IsTree t.tree) → s.faults ≤ t.faults → (refused : JobFault) → HasLineCause (course tells t x) lines refused → EndFails (course tells s x) lines temporary refused
    end_cause is_t low (job.File refused) fails = file_fails is_t low refused fails
    end_cause is_t low (job.TempfilePersist refused) fails = move_fails low refused fails
    end_cause is_t low job.InvalidPath fails = fails
    end_cause is_t low job.TempName fails = (
      (λ told. let (line, has, full) = fails.0 told in crowded told line has full),
      (λ untold. more_since reserved_names s.faults t.faults x.faults low (fails.1 untold)),
    )
    end_cause is_t low job.NoMemory fails = tt

    pub end_fails : (IsTrue tells → IsTree t.tree) → s.faults ≤ t.faults → (r : Result (Unit {0}) JobFault)
        → ((IsTrue tells → (folder : NameList) × HasJournalAt t.tree root path folder) → IfErr r (HasLineCause (course tells t x) lines)) → IfErr r (EndFails (course tells s x) lines temporary)
    end_fails is_t low (Ok done) fails = tt
    end_fails is_t low (Err refused) fails = end_cause is_t low refused (fails (λ told. ((w told).folder, journal_at told)))
