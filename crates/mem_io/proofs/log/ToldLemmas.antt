-- A list of changes tells the outcomes of each moment.
use Rattle.std.proofs.Common.{◌≡◌, ◌+◌, ℕ, List, [], ◌∷◌, ◌++◌, length, refl, sym, ◌∙◌, ap, arith}
use Rattle.std.proofs.lemmas.List.{take-append-le, length-append}
use Rattle.sd_io.specs.Outcomes.{Outcomes}
use Rattle.sd_io.specs.Disk.{DiskState, Advances, outcomes_now}
use Rattle.mem_io.specs.declared.log.Change.{Change}
use Rattle.mem_io.specs.Log.{after, after_all, first_on, outcomes_after, Tells}
use Rattle.mem_io.specs.LogHolds.{now_of}

after_all_last : (outcomes : Outcomes) (changes : List Change) (change : Change) → after_all outcomes (changes ++ change ∷ []) ≡ after change (after_all outcomes changes)
after_all_last outcomes [] change = refl
after_all_last outcomes (first ∷ changes) change = after_all_last (after first outcomes) changes change

-- the outcomes after one change more
pub after_last : (first : ℕ) (changes : List Change) (change : Change) → outcomes_after first (changes ++ change ∷ []) ≡ after change (outcomes_after first changes)
after_last first changes change = after_all_last (first_on first) changes change

one_longer : (changes : List Change) (change : Change) → length (changes ++ change ∷ []) ≡ length changes + 1
one_longer changes change = omega (arith, length-append changes (change ∷ []))

-- a disk whose clock and outcomes are told by changes advances by one with each that is noted
pub noted_advances : (first : ℕ) (changes : List Change) (change : Change) (old new : DiskState) → Tells first changes old → Tells first (changes ++ change ∷ []) new → Advances old new (after change (outcomes_now old))
noted_advances first changes change old new was is = record {
  clock = omega (arith, was.clock, is.clock, one_longer changes change);
  now = now_of first (changes ++ change ∷ []) new is ∙ after_last first changes change ∙ ap (after change) (sym (now_of first changes old was));
  before = λ k low.
      (λ i. is.outcomes i k)
      ∙ ap (outcomes_after first) (take-append-le k changes (change ∷ []) (omega (arith, was.clock)))
      ∙ (λ i. sym was.outcomes i k);
}
