-- What is settled stays so.
use Rattle.std.proofs.Common.{◌≡◌, ◌≢◌, ℕ, List, [], ◌∷◌, ◌++◌, sym, ◌∙◌, ap, subst}
use Rattle.std.specs.Prelude.{Option}
use Rattle.sd_io.specs.Tree.{NameList, Content, Tree, node_at}
use Rattle.sd_io.specs.Outcomes.{Outcome, Outcomes, older, gone, Leaves, own_of, left_behind, put, content_of, content_at}
use Rattle.sd_io.specs.Disk.{DiskState, outcomes_now}
use Rattle.sd_io.specs.Files.{Renames, RenamesNot, Removes}
use Rattle.sd_io.specs.Crashes.{IsSettledAt}
use Rattle.sd_io.proofs.OutcomeLemmas.{put_there, put_elsewhere, own_append, own_behind, own_twice, own_no_move, leaves_own}
use Rattle.sd_io.proofs.CrashLemmas.{settled_kept}
use Rattle.journal_text.specs.declared.line.Line.{Line}
use Rattle.change_phases.specs.Between.{Work, IsWork, journal_of}
use Rattle.change_phases.specs.Phases.{preparing, IsIn}
use Rattle.change_phases.specs.Recovery.{AreSettled}

module _ (s t : DiskState) (from to : List ℕ) where
  moved_lists : (source target : NameList) (list more : List Outcome) (q : NameList) → q ≢ source → q ≢ target → put target list (put source more (outcomes_now s)) q ≡ outcomes_now s q
  moved_lists source target list more q m n = put_elsewhere target list (put source more (outcomes_now s)) q n ∙ put_elsewhere source more (outcomes_now s) q m

  pub renamed_settled : (r : Renames s from to t) → r.source ≢ r.target → (q : NameList) → q ≢ r.source → q ≢ r.target → IsSettledAt s q → IsSettledAt t q
  renamed_settled r two q m n = settled_kept s t q
      (ap (λ (f : Outcomes). own_of (f q)) (r.advances two).now
      ∙ ap own_of (moved_lists r.source r.target (left_behind (outcomes_now s r.target) ++ own_of (outcomes_now s r.source)) (left_behind (outcomes_now s r.source) ++ older gone ∷ []) q m n))
      (r.others q m n)

  -- a settled file is so at its new place
  pub renamed_there : (r : Renames s from to t) → r.source ≢ r.target → IsSettledAt s r.source → IsSettledAt t r.target
  renamed_there r two is found l =
      let own_are : own_of (outcomes_now t r.target) ≡ own_of (outcomes_now s r.source) =
      ap (λ (f : Outcomes). own_of (f r.target)) (r.advances two).now
      ∙ ap own_of (put_there r.target (left_behind (outcomes_now s r.target) ++ own_of (outcomes_now s r.source)) (put r.source (left_behind (outcomes_now s r.source) ++ older gone ∷ []) (outcomes_now s)))
      ∙ own_append (left_behind (outcomes_now s r.target)) (own_of (outcomes_now s r.source))
      ∙ ap (λ os. os ++ own_of (own_of (outcomes_now s r.source))) (own_behind (outcomes_now s r.target))
      ∙ own_twice (outcomes_now s r.source) in
      is found (subst (λ os. Leaves os found) own_are l) ∙ sym (ap content_of r.moved)

  pub not_renamed_settled : (r : RenamesNot s from to t) → r.source ≢ r.target → (q : NameList) → q ≢ r.source → q ≢ r.target → IsSettledAt s q → IsSettledAt t q
  not_renamed_settled r two q m n = settled_kept s t q
      (ap (λ (f : Outcomes). own_of (f q)) (r.advances two).now
      ∙ ap own_of (moved_lists r.source r.target (outcomes_now s r.target ++ left_behind (own_of (outcomes_now s r.source))) (outcomes_now s r.source ++ older gone ∷ []) q m n))
      (ap (λ (x : Tree). node_at x q) r.tree)

  pub not_renamed_there : (r : RenamesNot s from to t) → r.source ≢ r.target → IsSettledAt s r.target → IsSettledAt t r.target
  not_renamed_there r two = settled_kept s t r.target
      (ap (λ (f : Outcomes). own_of (f r.target)) (r.advances two).now ∙ own_no_move r.source r.target (outcomes_now s) two)
      (ap (λ (x : Tree). node_at x r.target) r.tree)

-- nothing stands where a file was removed, so there is nothing to settle
pub removed_there : (s t : DiskState) (path : List ℕ) (r : Removes s path t) → IsSettledAt t r.place
removed_there s t path r found l =
    let own_are : own_of (outcomes_now t r.place) ≡ own_of (older gone ∷ []) =
    ap (λ (f : Outcomes). own_of (f r.place)) r.advances.now
    ∙ ap own_of (put_there r.place (left_behind (outcomes_now s r.place) ++ older gone ∷ []) (outcomes_now s))
    ∙ own_append (left_behind (outcomes_now s r.place)) (older gone ∷ [])
    ∙ ap (λ os. os ++ own_of (older gone ∷ [])) (own_behind (outcomes_now s r.place)) in
    let none : Leaves [] found = subst (λ os. Leaves os found) own_are l in
    absurd none

-- ---- where a crash leaves each place as it stands

module _ (work : Work) (is : IsWork work) (s : DiskState) (same : work.tree ≡ s.tree)
    (only : (q : NameList) (found : Option Content) → Leaves (outcomes_now s q) found → found ≡ content_at s.tree q) where
  pub begins_preparing : (lines : List Line) → IsIn preparing work lines s
  begins_preparing lines q found l =
      let stands : found ≡ content_at work.tree q = only q found l ∙ ap (λ (x : Tree). content_at x q) (sym same) in
      record {
        journal = λ e. stands ∙ ap (content_at work.tree) e ∙ ap content_of is.no_journal;
        file = λ f has e. stands ∙ ap (content_at work.tree) e;
        stage = λ line f has_line has of e. tt;
        elsewhere = λ e. stands;
      }

  pub begins_settled : AreSettled work s
  begins_settled = record {
    files = λ f has found l. only f.0 found (leaves_own (outcomes_now s f.0) found l);
    journal = λ found l. only (journal_of work) found (leaves_own (outcomes_now s (journal_of work)) found l);
  }
