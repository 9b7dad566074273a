-- What is known where recovery begins: nothing but that each image is between.
use Rattle.std.proofs.Common.{◌≡◌, ◌≢◌, ◌⊎◌, ◌≤◌, ℕ, List, [], ◌∷◌, ◌++◌, refl, sym, ◌∙◌, ap, subst, inl, inr, arith}
use Rattle.std.specs.Prelude.{Option, Some, None, is_some, Contains}
use Rattle.sd_io.specs.Tree.{NameList, Content, file, Node, Tree, node_at, file_at}
use Rattle.sd_io.specs.Outcomes.{Leaves, content_at, content_of}
use Rattle.sd_io.specs.Disk.{DiskState, HoldsPresent, outcomes_now}
use Rattle.sd_io.specs.Lists.{SyncsFolder}
use Rattle.sd_io.specs.Crashes.{LeavesSince, IsSettledAt}
use Rattle.sd_io.proofs.WayLemmas.{same_or_other}
use Rattle.sd_io.proofs.CrashLemmas.{since_folder}
use Rattle.journal_text.specs.declared.line.Line.{Line}
use Rattle.journal_text.specs.Journal.{text_of}
use Rattle.change_phases.specs.Between.{Work, IsWork, journal_name, journal_of, IsJournalFor, HoldsBytes, IsUnderway, Between, LeavesBetween, IsNew, AllOld, AllNew}
use Rattle.change_phases.specs.Phases.{placing, MayBe, IsIn}
use Rattle.change_phases.proofs.PhaseLemmas.{present}
use Rattle.change_phases.proofs.WorkLemmas.{file_there, at_journal}
use Rattle.change_phases.proofs.StepLemmas.{only_settled}
use Rattle.change_phases.proofs.ImageLemmas.{with_content, with_there, with_elsewhere, with_may_leave}
use Rattle.change_phases.proofs.TextLemmas.{same_lines}

same_bytes : (found : Option Content) (a b : List ℕ) → HoldsBytes a found → HoldsBytes b found → a ≡ b
same_bytes found a b (m, e) (n, f) =
    let both : Some (file a m) ≡ Some (file b n) = sym e ∙ f in
    cc

-- where no journal stands the files are all old or all new
pub whole_now : (work : Work) (s : DiskState) → HoldsPresent s → ((image : Tree) → ((q : NameList) → Leaves (outcomes_now s q) (content_at image q)) → Between work image)
    → node_at s.tree (journal_of work) ≡ None → AllOld work s.tree ⊎ AllNew work s.tree
whole_now work s holds all none = elim (all s.tree (λ q. present s holds q (node_at s.tree q) refl)).state [
  | inl whole ↦ whole.files
  | inr underway ↦ let (mode, stands) = underway.journal in absurd (cc (sym (ap content_of none) ∙ stands))
]

module _ (work : Work) (is : IsWork work) (s t : DiskState) (path : List ℕ) (holds : HoldsPresent s) (y : SyncsFolder s path t)
    (all : (image : Tree) → ((q : NameList) → Leaves (outcomes_now s q) (content_at image q)) → Between work image) where
  since : LeavesSince (λ q content. ⊥) (λ q. ⊥) s t
  since = since_folder (λ q content. ⊥) (λ q. ⊥) s t y.folder holds y.advances

  no_more : (k : ℕ) → s.clock ≤ k → k ≤ t.clock → (q : NameList) (found : Option Content) → Leaves (t.outcomes k q) found → Leaves (outcomes_now s q) found
  no_more k low high q found l = elim (since.each k low high q found l) [ inl old ↦ old | inr (inl (content, e, none)) ↦ absurd none | inr (inr none) ↦ absurd none ]

  -- a folder's sync leaves it so
  pub between_folder : LeavesBetween work s t
  between_folder = record {
    later = since.later;
    before = since.before;
    each = λ k low high image may. all image (λ q. no_more k low high q (content_at image q) (may q));
  }

  now : Between work s.tree
  now = all s.tree (λ q. present s holds q (node_at s.tree q) refl)

  -- where it stands it is there for good, and the files are being put in place
  pub underway : node_at s.tree (journal_of work) ≢ None → y.folder ≡ work.root → IsSettledAt s (journal_of work)
      → (lines : List Line) × (mode : ℕ) × IsJournalFor work lines × (file_at s.tree (journal_of work) ≡ Some (text_of lines, mode)) × IsIn placing work lines t
  underway some root settled = elim now.state [
    | inl whole ↦ absurd (some (nothing (node_at s.tree (journal_of work)) whole.no_journal))
    | inr u ↦ (u.lines, u.journal.0, u.is_for, file_there (node_at s.tree (journal_of work)) (text_of u.lines) u.journal.0 u.journal.1, going u)
  ]
    where
      nothing : (o : Option Node) → content_of o ≡ None → o ≡ None
      nothing None e = refl
      nothing (Some node) e = cc

      going : (u : IsUnderway work s.tree) → IsIn placing work u.lines t
      going u q found l = elim (same_or_other q (journal_of work)) [
        | inl here ↦
            let at : y.folder ++ journal_name ∷ [] ≡ journal_of work = ap (λ (r : NameList). r ++ journal_name ∷ []) root in
            let stands = file_there (node_at s.tree (journal_of work)) (text_of u.lines) u.journal.0 u.journal.1 in
            let only = only_settled s t path y journal_name (ap is_some (ap (file_at s.tree) at ∙ stands)) (subst (IsSettledAt s) (sym at) settled) in
            let is_text : found ≡ Some (file (text_of u.lines) u.journal.0) =
            only found (subst (λ (p : NameList). Leaves (outcomes_now t p) found) (here ∙ sym at) l) ∙ ap (content_at s.tree) at ∙ u.journal.1 in
            subst (λ (p : NameList). MayBe placing work u.lines p found) (sym here) (at_journal work is placing u.lines u.is_for found (u.journal.0, is_text))
        | inr n ↦ elsewhere n (all (with_content s.tree q found) (with_may_leave s holds q found (no_more t.clock since.later (omega arith) q found l)))
      ]
        where
          elsewhere : q ≢ journal_of work → Between work (with_content s.tree q found) → MayBe placing work u.lines q found
          elsewhere n b =
              let there = with_there s.tree q found in
              let journal = with_elsewhere s.tree q found (journal_of work) (λ e. n (sym e)) in
              elim b.state [
                | inl whole ↦ cc (sym whole.no_journal ∙ journal ∙ u.journal.1)
                | inr v ↦
                    let same : v.lines ≡ u.lines = same_lines v.lines u.lines v.is_for.are_lines u.is_for.are_lines
                    (same_bytes (content_at (with_content s.tree q found) (journal_of work)) (text_of v.lines) (text_of u.lines) v.journal (u.journal.0, journal ∙ u.journal.1)) in
                    record {
                      journal = λ e. absurd (n e);
                      file = λ f has e. subst (λ o. (o ≡ content_at work.tree f.0) ⊎ IsNew work f o) (ap (content_at (with_content s.tree q found)) (sym e) ∙ there) (v.files f has);
                      stage = λ line f l has of e.
                          let held = v.stages line f (subst (λ (ls : List Line). Contains ls line) (sym same) l) has of in
                          subst (HoldsBytes f.1) (ap (content_at (with_content s.tree q found)) (sym e) ∙ there) held;
                      elsewhere = λ e. sym there ∙ b.elsewhere q e;
                    }
              ]
