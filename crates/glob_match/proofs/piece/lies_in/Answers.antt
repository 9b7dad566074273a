use Rattle.std.proofs.Common.{◌<◌, ◌≤◌, ℕ, zero, suc, List, [], ◌∷◌, length, get_or, inl, inr, arith, refl}
use Rattle.glob_match.specs.declared.piece.CharacterRange.{CharacterRange}
use Rattle.glob_match.specs.Takes.{IsInRanges}
use Rattle.glob_match.proofs.piece.lies_in.Goals as goal

-- a range at some place holds the character
in_range_at : (ranges : List CharacterRange) (k : ℕ) (d : CharacterRange) (c : ℕ) → k < length ranges → (get_or ranges k d).first ≤ c → c ≤ (get_or ranges k d).last → IsInRanges ranges c
in_range_at [] k d c lt low high = absurd (omega arith)
in_range_at (range ∷ ranges) zero d c lt low high = inl (low, high)
in_range_at (range ∷ ranges) (suc k) d c lt low high = inr (in_range_at ranges k d c (omega arith) low high)

pub returns-then-c-range : goal.returns-then-c-range
returns-then-c-range c = ((λ _. in_range_at c.args.ranges.now c.loop-range.range-index _ c.args.c c.loop-range-test.true c.if-range-c.true c.if-c-range.true), (λ _. refl))
