-- What lasts while a phase does, and the journal's removal.
use Rattle.std.proofs.Common.{true, cond, ◌≡◌, ◌≢◌, ℕ, List, refl, sym, ◌∙◌, ap, subst, arith}
use Rattle.std.specs.Prelude.{Option, Some, None, Result, Ok, Err, OnOk, OnErr}
use Rattle.std.specs.Option.{option_and_then}
use Rattle.std.proofs.lemmas.Option.{same_Some}
use Rattle.std.proofs.lemmas.List.Elements.{All-from_recursion, All-contains}
use Rattle.sd_io.specs.Tree.{NameList, IsName, Tree, IsTree, node_at, is_directory_at}
use Rattle.sd_io.specs.Paths.{named, reached}
use Rattle.sd_io.specs.Disk.{DiskState, SameTree, HoldsPresent}
use Rattle.sd_io.specs.Files.{Removes}
use Rattle.sd_io.specs.Lists.{directory_of, SyncsFolder}
use Rattle.sd_io.specs.Crashes.{IsSettledAt}
use Rattle.sd_io.specs.declared.fault.DiskFault.{DiskFault}
use Rattle.sd_io.proofs.PathTextLemmas.{text_names}
use Rattle.sd_io.proofs.WayLemmas.{cond_some_then}
use Rattle.sd_io.proofs.CrashLemmas.{settled_same, settled_put, settled_folder}
use Rattle.journal_text.specs.declared.line.Line.{Line}
use Rattle.change_phases.specs.Between.{Work, journal_name, journal_of, IsJournalFor, Between}
use Rattle.change_phases.specs.Phases.{Phase, preparing, naming, placing, removing, cleared, IsIn, HasJournal}
use Rattle.journal.specs.Keeping.{AreRootPaths, IsSettledIn, KeepsPhase}
use Rattle.change_phases.proofs.PhaseLemmas.{between_in, passes_same, passes_then, still_in, present_in}
use Rattle.change_phases.proofs.WorkLemmas.{journal_no_file}
use Rattle.change_phases.proofs.StepLemmas.{passes_folder, removed, cleared_of}
use Rattle.change_phases.proofs.RootLemmas.{directory_kept, between_ways}
use Rattle.change_phases.proofs.SettledLemmas.{removed_there}

-- ---- what paths lead to and name, in a phase

pub has_journal : (phase : Phase) (work : Work) (lines : List Line) → IsJournalFor work lines → HasJournal phase work lines
has_journal preparing work lines is = tt
has_journal naming work lines is = is
has_journal placing work lines is = is
has_journal removing work lines is = is
has_journal cleared work lines is = tt

IsNoSlash : ℕ → Type 0
IsNoSlash b = b ≢ 47

pub journal_is_name : IsName journal_name
unfolding IsNoSlash
journal_is_name = record {
  nonempty = λ e. cc;
  no_slash = λ has. All-contains IsNoSlash journal_name 47 (All-from_recursion IsNoSlash journal_name
      ((λ e. omega arith), ((λ e. omega arith), ((λ e. omega arith), ((λ e. omega arith), ((λ e. omega arith), ((λ e. omega arith), ((λ e. omega arith), ((λ e. omega arith), ((λ e. omega arith), ((λ e. omega arith), ((λ e. omega arith), tt)))))))))))) has refl;
  not_dot = λ e. cc;
  not_dots = λ e. cc;
}

-- a path that leads to a directory leads to one
pub directory_there : (tree : Tree) (path : List ℕ) (q : NameList) → directory_of tree path ≡ Some q → is_directory_at tree q ≡ true
directory_there tree path q e = by (reached tree path true) e
  where
    by : (r : Option NameList) → option_and_then (λ place. cond (is_directory_at tree place) (Some place) None) r ≡ Some q → is_directory_at tree q ≡ true
    by None e = cc
    by (Some place) e =
        let test = cond_some_then (is_directory_at tree place) (Some place) q e in
        ap (is_directory_at tree) (sym (same_Some _ _ test.1)) ∙ test.0

module _ (phase : Phase) (work : Work) (lines : List Line) (s : DiskState) (holds : HoldsPresent s) (p : IsSettledIn phase work lines s) where
  pub between_now : Between work s.tree
  between_now = between_in work lines s.tree phase (has_journal phase work lines p.is_for) (present_in phase work lines s holds p.phase_now)

  pub root_leads : (root : List ℕ) → directory_of work.tree root ≡ Some work.root → directory_of s.tree root ≡ Some work.root
  root_leads root leads = directory_kept work.tree s.tree (between_ways work p.is_work s.tree between_now) root work.root leads

  pub journal_named : IsTree s.tree → (root journal : List ℕ) → AreRootPaths work root journal → named s.tree journal ≡ Some (journal_of work)
  journal_named is root journal are =
      ap (named s.tree) are.journal_is ∙ text_names s.tree is work.root journal_name (directory_there s.tree root work.root (root_leads root are.leads)) journal_is_name

-- ---- the journal

module _ (work : Work) (lines : List Line) (root journal : List ℕ) (are : AreRootPaths work root journal) (s : DiskState) (holds : HoldsPresent s) (p : IsSettledIn removing work lines s) where
  -- it is removed
  pub removed_keeps : IsTree s.tree → (t : DiskState) → Removes s journal t → KeepsPhase removing work lines s t
  removed_keeps is t r =
      let at : r.place ≡ journal_of work = same_Some _ _ (sym r.names ∙ journal_named removing work lines s holds p is root journal are) in
      record {
        passes = removed work p.is_work lines p.is_for s t journal p.phase_now r at;
        settled = record {
          files = λ f has. settled_put s t r.place _ r.advances r.others f.0 (λ e. journal_no_file work p.is_work f has (sym (e ∙ at))) (p.settled.files f has);
          journal = subst (IsSettledAt t) at (removed_there s t journal r);
        };
      }

  pub removed_gone : IsTree s.tree → (t : DiskState) → Removes s journal t → node_at t.tree (journal_of work) ≡ None
  removed_gone is t r =
      let at : r.place ≡ journal_of work = same_Some _ _ (sym r.names ∙ journal_named removing work lines s holds p is root journal are) in
      ap (node_at t.tree) (sym at) ∙ r.gone

  -- the root is put on the medium
  pub synced_cleared : (t : DiskState) → node_at s.tree (journal_of work) ≡ None → SyncsFolder s root t → IsIn cleared work lines t
  synced_cleared t none y =
      let folder : y.folder ≡ work.root = same_Some _ _ (sym y.leads ∙ root_leads removing work lines s holds p root are.leads) in
      cleared_of work p.is_work lines p.is_for s t root holds p.phase_now y folder none

-- ---- any phase

module _ (phase : Phase) (work : Work) (lines : List Line) (s t : DiskState) where
  pub keeps_same : IsSettledIn phase work lines s → SameTree s t → KeepsPhase phase work lines s t
  keeps_same p same = record {
    passes = passes_same phase work lines s t p.phase_now same;
    settled = record { files = λ f has. settled_same s t same f.0 (p.settled.files f has); journal = settled_same s t same (journal_of work) p.settled.journal };
  }

  pub keeps_folder : HoldsPresent s → (path : List ℕ) → IsSettledIn phase work lines s → SyncsFolder s path t → KeepsPhase phase work lines s t
  keeps_folder holds path p y = record {
    passes = passes_folder phase work lines s t p.phase_now holds path y;
    settled = record {
      files = λ f has. settled_folder s t y.folder y.tree y.advances f.0 (p.settled.files f has);
      journal = settled_folder s t y.folder y.tree y.advances (journal_of work) p.settled.journal;
    };
  }

  pub keeps_then : (u : DiskState) → KeepsPhase phase work lines s t → KeepsPhase phase work lines t u → KeepsPhase phase work lines s u
  keeps_then u a b = record { passes = passes_then phase work lines s t u a.passes b.passes; settled = b.settled }

  pub settled_still : IsSettledIn phase work lines s → KeepsPhase phase work lines s t → IsSettledIn phase work lines t
  settled_still p k = record { is_work = p.is_work; is_for = p.is_for; phase_now = still_in phase work lines s t k.passes; settled = k.settled }

-- whether it was synced or refused
pub folder_kept : (phase : Phase) (work : Work) (lines : List Line) (s t : DiskState) (path : List ℕ) (r : Result (Unit {0}) DiskFault) → HoldsPresent s → IsSettledIn phase work lines s
    → OnOk r (SyncsFolder s path t) → OnErr r (SameTree s t) → KeepsPhase phase work lines s t
folder_kept phase work lines s t path (Ok done) holds p synced none = keeps_folder phase work lines s t holds path p synced
folder_kept phase work lines s t path (Err fault) holds p none same = keeps_same phase work lines s t p same
