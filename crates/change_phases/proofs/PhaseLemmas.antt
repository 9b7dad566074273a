-- Phases, and what a crash leaves in them.
use Rattle.std.proofs.Common.{◌≡◌, ◌⊎◌, ℕ, List, refl, sym, ◌∙◌, ap, subst, inl, inr, arith}
use Rattle.std.specs.Prelude.{Option, Some, None, Contains}
use Rattle.std.proofs.lemmas.Bool.{cases_lt}
use Rattle.sd_io.specs.Tree.{NameList, Content, Node, Tree, node_at}
use Rattle.sd_io.specs.Outcomes.{Outcomes, Leaves, content_at, content_of}
use Rattle.sd_io.specs.Disk.{DiskState, SameTree, Advances, HoldsPresent, outcomes_now, MayLeaveSince}
use Rattle.sd_io.specs.Crashes.{LeavesSince}
use Rattle.sd_io.proofs.OutcomeLemmas.{leaves_own}
use Rattle.file_exchange.specs.Crash.{Exchange}
use Rattle.journal_text.specs.declared.line.Line.{Line}
use Rattle.journal_text.specs.Journal.{text_of}
use Rattle.change_phases.specs.Between.{stage_of, Work, journal_of, IsOld, IsNew, IsJournalFor, HoldsBytes, HasStages, IsUnderway, Between, LeavesBetween}
use Rattle.change_phases.specs.Phases.{Phase, preparing, naming, placing, removing, cleared, MayBe, IsIn, PassesIn, MayBeAnything, HasJournal}

-- ---- an image in which each place holds what it may hold in a phase

module _ (work : Work) (lines : List Line) (image : Tree) where
  abbrev Holds : Phase → Type 0
  Holds phase = (q : NameList) → MayBe phase work lines q (content_at image q)

  underway : IsJournalFor work lines → HoldsBytes (text_of lines) (content_at image (journal_of work)) → HasStages work lines image
      → ((f : Exchange) → Contains work.files f → IsOld work f (content_at image f.0) ⊎ IsNew work f (content_at image f.0)) → IsUnderway work image
  underway is journal stages files = record { lines = lines; is_for = is; journal = journal; stages = stages; files = files }

  pub between_in : (phase : Phase) → HasJournal phase work lines → Holds phase → Between work image
  between_in preparing is may = record {
    elsewhere = λ q e. (may q).elsewhere e;
    state = inl (record { no_journal = (may (journal_of work)).journal refl; files = inl (λ f has. (may f.0).file f has refl) });
  }
  between_in naming is may = record {
    elsewhere = λ q e. (may q).elsewhere e;
    state = elim ((may (journal_of work)).journal refl) [
      | inl none ↦ inl (record { no_journal = none; files = inl (λ f has. (may f.0).file f has refl) })
      | inr text ↦ inr (underway is text (λ line f l has of. (may (stage_of line)).stage line f l has of refl) (λ f has. inl ((may f.0).file f has refl)))
    ];
  }
  between_in placing is may = record {
    elsewhere = λ q e. (may q).elsewhere e;
    state = inr (underway is ((may (journal_of work)).journal refl) (λ line f l has of. (may (stage_of line)).stage line f l has of refl) (λ f has. (may f.0).file f has refl));
  }
  between_in removing is may = record {
    elsewhere = λ q e. (may q).elsewhere e;
    state = elim ((may (journal_of work)).journal refl) [
      | inl none ↦ inl (record { no_journal = none; files = inr (λ f has. (may f.0).file f has refl) })
      | inr text ↦ inr (underway is text (λ line f l has of. (may (stage_of line)).stage line f l has of refl) (λ f has. inr ((may f.0).file f has refl)))
    ];
  }
  between_in cleared is may = record {
    elsewhere = λ q e. (may q).elsewhere e;
    state = inl (record { no_journal = (may (journal_of work)).journal refl; files = inr (λ f has. (may f.0).file f has refl) });
  }

-- ---- what stands

pub present : (s : DiskState) → HoldsPresent s → (q : NameList) (o : Option Node) → node_at s.tree q ≡ o → Leaves (outcomes_now s q) (content_of o)
present s holds q None e = holds.nothing q e
present s holds q (Some node) e = leaves_own (outcomes_now s q) (Some node.content) (holds.stands q node e)

-- ---- images since a moment

pub same_between : (work : Work) (s t : DiskState) → SameTree s t → ((image : Tree) → ((q : NameList) → Leaves (outcomes_now s q) (content_at image q)) → Between work image) → LeavesBetween work s t
same_between work s t same is = record {
  later = omega (arith, same.clock);
  before = λ k low. ap (λ (f : ℕ → Outcomes). f k) same.outcomes;
  each = λ k low high image all.
      let now : k ≡ s.clock = omega (arith, same.clock) in
      is image (λ q. subst (λ (f : ℕ → Outcomes). Leaves (f s.clock q) (content_at image q)) same.outcomes (subst (λ (m : ℕ). Leaves (t.outcomes m q) (content_at image q)) now (all q)));
}

pub between_then : (work : Work) (r s t : DiskState) → LeavesBetween work r s → LeavesBetween work s t → LeavesBetween work r t
between_then work r s t first second = record {
  later = omega (arith, first.later, second.later);
  before = λ k low. second.before k (omega (arith, first.later)) ∙ first.before k low;
  each = λ k low high image all. elim (cases_lt k s.clock) [
    | inl early ↦ first.each k low (omega arith) image (λ q. subst (λ (f : Outcomes). Leaves (f q) (content_at image q)) (second.before k (omega arith)) (all q))
    | inr late ↦ second.each k late high image all
  ];
}

pub between_image : (work : Work) (s t : DiskState) → LeavesBetween work s t → (image : Tree) → MayLeaveSince t s.clock image → Between work image
between_image work s t leaves image (k, low, high, all) = leaves.each k low high image all

-- ---- one phase

module _ (phase : Phase) (work : Work) (lines : List Line) where
  pub passes_between : (s t : DiskState) → HasJournal phase work lines → PassesIn phase work lines s t → LeavesBetween work s t
  passes_between s t is passes = record {
    later = passes.later;
    before = passes.before;
    each = λ k low high image all. between_in work lines image phase is (λ q. passes.each k low high q (content_at image q) (all q));
  }

  -- at its end too
  pub still_in : (s t : DiskState) → PassesIn phase work lines s t → IsIn phase work lines t
  still_in s t passes q found l = passes.each t.clock passes.later (omega arith) q found l

  pub passes_then : (r s t : DiskState) → PassesIn phase work lines r s → PassesIn phase work lines s t → PassesIn phase work lines r t
  passes_then r s t first second = record {
    later = omega (arith, first.later, second.later);
    before = λ k low. second.before k (omega (arith, first.later)) ∙ first.before k low;
    each = λ k low high q found l. elim (cases_lt k s.clock) [
      | inl early ↦ first.each k low (omega arith) q found (subst (λ (f : Outcomes). Leaves (f q) found) (second.before k (omega arith)) l)
      | inr late ↦ second.each k late high q found l
    ];
  }

  -- what comes is what may be there
  pub passes_since : (contents : NameList → Content → Type 0) (loose : NameList → Type 0) (s t : DiskState) → IsIn phase work lines s
      → ((q : NameList) (content : Content) → contents q content → MayBe phase work lines q (Some content)) → ((q : NameList) → loose q → MayBeAnything phase work lines q)
      → LeavesSince contents loose s t → PassesIn phase work lines s t
  passes_since contents loose s t is news opens since = record {
    later = since.later;
    before = since.before;
    each = λ k low high q found l. elim (since.each k low high q found l) [
      | inl old ↦ is q found old
      | inr (inl (content, e, new)) ↦ subst (λ f. MayBe phase work lines q f) (sym e) (news q content new)
      | inr (inr anything) ↦ opens q anything found
    ];
  }

  -- one moment passes
  pub passes_step : (s t : DiskState) (outcomes : Outcomes) → IsIn phase work lines s → Advances s t outcomes
      → ((q : NameList) (found : Option Content) → Leaves (outcomes q) found → MayBe phase work lines q found) → PassesIn phase work lines s t
  passes_step s t outcomes is a may = record {
    later = omega (arith, a.clock);
    before = a.before;
    each = λ k low high q found l. elim (cases_lt s.clock k) [
      | inl after ↦
          let now : k ≡ t.clock = omega (arith, a.clock) in
          may q found (subst (λ (f : Outcomes). Leaves (f q) found) a.now (subst (λ (m : ℕ). Leaves (t.outcomes m q) found) now l))
      | inr still ↦
          let now : k ≡ s.clock = omega arith in
          is q found (subst (λ (f : Outcomes). Leaves (f q) found) (a.before s.clock (omega arith)) (subst (λ (m : ℕ). Leaves (t.outcomes m q) found) now l))
    ];
  }

  pub passes_same : (s t : DiskState) → IsIn phase work lines s → SameTree s t → PassesIn phase work lines s t
  passes_same s t is same = record {
    later = omega (arith, same.clock);
    before = λ k low. ap (λ (f : ℕ → Outcomes). f k) same.outcomes;
    each = λ k low high q found l.
        let now : k ≡ s.clock = omega (arith, same.clock) in
        is q found (subst (λ (f : ℕ → Outcomes). Leaves (f s.clock q) found) same.outcomes (subst (λ (m : ℕ). Leaves (t.outcomes m q) found) now l));
  }

  -- what stands is what may be there
  pub present_in : (s : DiskState) → HoldsPresent s → IsIn phase work lines s → (q : NameList) → MayBe phase work lines q (content_at s.tree q)
  present_in s holds is q = is q (content_at s.tree q) (present s holds q (node_at s.tree q) refl)
