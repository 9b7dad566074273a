-- The files of a journal are put in place in turn.
use Rattle.std.proofs.Common.{◌≡◌, ◌<◌, ◌≤◌, ◌+◌, ℕ, List, length, refl, sym, ◌∙◌, ap, subst, inl, inr, arith}
use Rattle.std.specs.Prelude.{Some, Contains, slice_get}
use Rattle.std.proofs.lemmas.Bool.{cases_lt}
use Rattle.std.proofs.lemmas.Option.{same_Some}
use Rattle.sd_io.specs.Disk.{DiskState}
use Rattle.file_exchange.specs.Crash.{Exchange}
use Rattle.journal_text.specs.declared.line.Line.{Line}
use Rattle.change_phases.specs.Between.{Work, IsNew, IsLineOf}
use Rattle.change_phases.specs.Phases.{placing, IsOnly}
use Rattle.journal.specs.Keeping.{IsSettledIn, KeepsPhase}
use Rattle.journal.specs.Placing.{AreNewForGood, PlacesOne}
use Rattle.journal.proofs.LineLemmas.{at_contains}
use Rattle.journal.proofs.KeepingLemmas.{keeps_same, keeps_then, settled_still}

-- the lines before a number have their files new for good
abbrev pub FirstAreNew : Work → List Line → ℕ → DiskState → Type 0
FirstAreNew work lines n state = (k : ℕ) (line : Line) (f : Exchange) → k < n → slice_get lines k ≡ Some line → Contains work.files f → IsLineOf f line → IsOnly state f.0 (IsNew work f)

-- the state after so many files
pub record IsPlacedTo (work : Work) (lines : List Line) (first : DiskState) (n : ℕ) (now : DiskState) : Type 0 where
  pub kept : KeepsPhase placing work lines first now
  pub firsts : FirstAreNew work lines n now

module _ (work : Work) (lines : List Line) (first : DiskState) (p : IsSettledIn placing work lines first) where
  pub placed_none : (now : DiskState) → now ≡ first → IsPlacedTo work lines first 0 now
  placed_none now same = subst (IsPlacedTo work lines first 0) (sym same) (record {
    kept = keeps_same placing work lines first first p (record { tree = refl; clock = refl; outcomes = refl });
    firsts = λ k line f low at has of. absurd (omega arith);
  })

  pub placing_still : (n : ℕ) (now : DiskState) → IsPlacedTo work lines first n now → IsSettledIn placing work lines now
  placing_still n now to = settled_still placing work lines first now p to.kept

  pub kept_more : (n : ℕ) (now next : DiskState) → IsPlacedTo work lines first n now → KeepsPhase placing work lines now next → KeepsPhase placing work lines first next
  kept_more n now next to k = keeps_then placing work lines first now next to.kept k

  pub placed_more : (n : ℕ) (now next : DiskState) (line : Line) → slice_get lines n ≡ Some line → IsPlacedTo work lines first n now → KeepsPhase placing work lines now next → PlacesOne work line now next
      → IsPlacedTo work lines first (n + 1) next
  placed_more n now next line at to k one = record {
    kept = kept_more n now next to k;
    firsts = λ i other f low is has of. elim (cases_lt i n) [
      | inl before ↦ one.stays f has (to.firsts i other f before is has of)
      | inr late ↦
          let here : i ≡ n = omega arith in
          let same : other ≡ line = same_Some _ _ (sym is ∙ ap (slice_get lines) here ∙ at) in
          one.placed f has (subst (IsLineOf f) same of)
    ];
  }

  pub placed_all : (n : ℕ) (now : DiskState) → length lines ≤ n → IsPlacedTo work lines first n now → AreNewForGood work now
  placed_all n now all to f has =
      let (line, has_line, of) = p.is_for.each f has in
      to.firsts has_line.0 line f (omega (arith, has_line.1)) (at_contains lines line has_line) has of
