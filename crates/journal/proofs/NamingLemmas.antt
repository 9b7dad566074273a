-- The journal is renamed, or not.
use Rattle.std.proofs.Common.{Bool, ◌≡◌, ◌≢◌, ◌⊎◌, ◌≤◌, ℕ, List, refl, sym, ◌∙◌, ap, subst, inl, inr}
use Rattle.std.specs.Prelude.{Option, Some, IsTrue, Contains, Result, Ok, Err, OnOk, IfErr, IsErrOf}
use Rattle.std.proofs.lemmas.Option.{same_Some}
use Rattle.sd_io.specs.Tree.{NameList, Content, file, IsTree, node_at, file_node, file_at}
use Rattle.sd_io.specs.Paths.{named, SameWays}
use Rattle.sd_io.specs.Outcomes.{Leaves, own_of}
use Rattle.sd_io.specs.Disk.{DiskState, SameTree, HasCause, HoldsPresent, outcomes_now}
use Rattle.sd_io.specs.Files.{Renames, RenamesNot, CannotRename}
use Rattle.sd_io.specs.Lists.{SyncsFolder, IsNoDirectory}
use Rattle.sd_io.specs.declared.fault.DiskFault.{DiskFault}
use Rattle.sd_io.specs.declared.fault.DiskFault.TheVariants as disk
use Rattle.sd_io.proofs.WayLemmas.{directory_alike, renames_ways}
use Rattle.sd_course.specs.Course.{course}
use Rattle.file_exchange.proofs.CauseLemmas.{risen_since}
use Rattle.sd_io.specs.Crashes.{IsSettledAt}
use Rattle.file_exchange.specs.Crash.{Exchange}
use Rattle.journal_text.specs.declared.line.Line.{Line}
use Rattle.journal_text.specs.Journal.{text_of}
use Rattle.change_phases.specs.Between.{Work, journal_of}
use Rattle.change_phases.specs.Phases.{naming, placing, IsIn}
use Rattle.journal.specs.Keeping.{KeepsPhase}
use Rattle.journal.specs.Naming.{MayBeNamed, MovesTo, NamingFails}
use Rattle.change_phases.proofs.WorkLemmas.{content_there, aside_not_journal, aside_no_file, journal_no_file}
use Rattle.change_phases.proofs.StepLemmas.{named_done, named_not, placing_of}
use Rattle.change_phases.proofs.SettledLemmas.{renamed_settled, renamed_there, not_renamed_settled, not_renamed_there}
use Rattle.journal.proofs.KeepingLemmas.{journal_named, root_leads, keeps_same, settled_still}

module _ (work : Work) (lines : List Line) (temporary journal root : List ℕ) (s : DiskState) (is : IsTree s.tree) (holds : HoldsPresent s) (m : MayBeNamed work lines temporary journal root s) where
  -- the text is all that its own outcomes leave
  written : (found : Option Content) → Leaves (own_of (outcomes_now s m.place)) found → found ≡ Some (file (text_of lines) m.mode)
  written found l = m.settled found l ∙ content_there (node_at s.tree m.place) (text_of lines) m.mode m.holds

  to_journal : (q : NameList) → named s.tree journal ≡ Some q → q ≡ journal_of work
  to_journal q names = same_Some _ _ (sym names ∙ journal_named naming work lines s holds m.phase is root journal m.root_paths)

  from_place : (q : NameList) → named s.tree temporary ≡ Some q → q ≡ m.place
  from_place q names = same_Some _ _ (sym names ∙ m.names)

  apart : m.place ≢ journal_of work
  apart = aside_not_journal work m.phase.is_work m.place m.was_free

  two : (p q : NameList) → p ≡ m.place → q ≡ journal_of work → p ≢ q
  two p q e f h = apart (sym e ∙ h ∙ f)

  file_apart : (f : Exchange) → Contains work.files f → (p q : NameList) → p ≡ m.place → q ≡ journal_of work → (f.0 ≢ p) × (f.0 ≢ q)
  file_apart f has p q e j = (
    (λ h. aside_no_file work m.phase.is_work m.place m.was_free f has (sym (h ∙ e))),
    (λ h. journal_no_file work m.phase.is_work f has (sym (h ∙ j))),
  )

  pub named_keeps : (t : DiskState) → Renames s temporary journal t → KeepsPhase naming work lines s t
  named_keeps t r =
      let e = from_place r.source r.leaves in
      let j = to_journal r.target r.comes in
      let apart_now = two r.source r.target e j in
      record {
        passes = named_done work m.phase.is_work lines m.phase.is_for s t m.mode m.place m.phase.phase_now m.was_free m.no_stage written temporary journal r e j;
        settled = record {
          files = λ f has. let n = file_apart f has r.source r.target e j in renamed_settled s t temporary journal r apart_now f.0 n.0 n.1 (m.phase.settled.files f has);
          journal = subst (IsSettledAt t) j (renamed_there s t temporary journal r apart_now (subst (IsSettledAt s) (sym e) m.settled));
        };
      }

  pub not_named_keeps : (t : DiskState) → RenamesNot s temporary journal t → KeepsPhase naming work lines s t
  not_named_keeps t r =
      let e = from_place r.source r.leaves in
      let j = to_journal r.target r.comes in
      let apart_now = two r.source r.target e j in
      record {
        passes = named_not work m.phase.is_work lines m.phase.is_for s t m.mode m.place m.phase.phase_now m.was_free m.no_stage written temporary journal r e j;
        settled = record {
          files = λ f has. let n = file_apart f has r.source r.target e j in not_renamed_settled s t temporary journal r apart_now f.0 n.0 n.1 (m.phase.settled.files f has);
          journal = subst (IsSettledAt t) j (not_renamed_there s t temporary journal r apart_now (subst (IsSettledAt s) (sym j) m.phase.settled.journal));
        };
      }

  -- done or refused
  pub renaming_keeps : (t : DiskState) → SameTree s t ⊎ RenamesNot s temporary journal t ⊎ Renames s temporary journal t → KeepsPhase naming work lines s t
  renaming_keeps t (inl same) = keeps_same naming work lines s t m.phase same
  renaming_keeps t (inr (inl not)) = not_named_keeps t not
  renaming_keeps t (inr (inr r)) = named_keeps t r

  -- the journal stands there, and with the root's sync it does for good
  pub named_for_good : (t u : DiskState) → HoldsPresent t → Renames s temporary journal t → SyncsFolder t root u → IsIn placing work lines u
  named_for_good t u holds_now r y =
      let e = from_place r.source r.leaves in
      let j = to_journal r.target r.comes in
      let k = named_keeps t r in
      let p = settled_still naming work lines s t m.phase k in
      let folder : y.folder ≡ work.root = same_Some _ _ (sym y.leads ∙ root_leads naming work lines t holds_now p root m.root_paths.leads) in
      let stands : file_at t.tree (journal_of work) ≡ Some (text_of lines, m.mode) =
      ap (file_at t.tree) (sym j) ∙ ap file_node r.moved ∙ ap (file_at s.tree) e ∙ m.holds in
      placing_of work m.phase.is_work lines m.phase.is_for t u root m.mode holds_now p.phase_now y folder stands k.settled.journal

-- what it does to the tree
pub moves_to : (s t u : DiskState) (from to : List ℕ) (r : Result (Unit {0}) DiskFault) → Renames s from to t → OnOk r (u.tree ≡ t.tree) → OnOk r (MovesTo from to s.tree u.tree)
moves_to s t u from to (Err fault) renames tree = tt
moves_to s t u from to (Ok done) renames tree = subst (MovesTo from to s.tree) (sym tree) (record {
  source = renames.source;
  target = renames.target;
  leaves = renames.leaves;
  comes = renames.comes;
  moved = renames.moved;
  gone = renames.gone;
  others = renames.others;
  ways = renames_ways s from to t renames;
})

-- ---- why it isn't named

pub naming_cause : {T : Type 0} (tells : Bool) (s t : DiskState) (temporary journal root : List ℕ) (fault : DiskFault) → HasCause {T = T} tells s t (Err fault) → (IsErrOf {T = T} (Err fault) disk.Taken → ⊥)
    → (IsTrue tells → IsErrOf {T = T} (Err fault) disk.Absent → CannotRename s temporary journal) → NamingFails (course tells s t) temporary journal root fault
naming_cause tells s t temporary journal root disk.Absent cause not_taken none = ((λ told. inl (none told refl)), (λ untold. inl (cause.absent untold refl)))
naming_cause tells s t temporary journal root disk.Taken cause not_taken none = absurd (not_taken refl)
naming_cause tells s t temporary journal root disk.Failed cause not_taken none = cause.failed refl
naming_cause tells s t temporary journal root disk.NoMemory cause not_taken none = tt

-- the root isn't put on the medium
pub naming_root : (tells : Bool) (s m t : DiskState) (temporary journal root : List ℕ) (r : Result (Unit {0}) DiskFault) → s.faults ≤ m.faults → (IsTrue tells → SameWays s.tree m.tree) → HasCause tells m t r
    → (IsErrOf r disk.Taken → ⊥) → (IsTrue tells → IsErrOf r disk.Absent → IsNoDirectory m root) → IfErr r (NamingFails (course tells s t) temporary journal root)
naming_root tells s m t temporary journal root (Ok done) low ways cause not_taken none = tt
naming_root tells s m t temporary journal root (Err disk.Absent) low ways cause not_taken none = (
  (λ told. inr (sym (directory_alike (ways told) root) ∙ none told refl)),
  (λ untold. risen_since s.faults m.faults t.faults low (inl (cause.absent untold refl))),
)
naming_root tells s m t temporary journal root (Err disk.Taken) low ways cause not_taken none = absurd (not_taken refl)
naming_root tells s m t temporary journal root (Err disk.Failed) low ways cause not_taken none = risen_since s.faults m.faults t.faults low (cause.failed refl)
naming_root tells s m t temporary journal root (Err disk.NoMemory) low ways cause not_taken none = tt
