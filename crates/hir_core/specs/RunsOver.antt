-- Bytes of a block that the search runs over at a loop of one set.
use Rattle.std.specs.Prelude.{◌≡◌, ℕ, zero, suc, ◌+◌, ◌<◌, Bool, true, false, List, length, slice_index, slice_set}
use Rattle.hir_core.specs.Blocks.{mark_of}
use Rattle.hir_core.specs.Pass.{was_visited}
use Rattle.hir_program.specs.Loops.{AreWays, IsRunOver}
use Rattle.hir_program.specs.declared.loops.Ways.{Ways}
use Rattle.hir_program.specs.declared.spot.Spot.{Spot}

module _ (text : List ℕ) (spots : List Spot) (begin end q : ℕ) where
  -- a loop goes only round by the byte at a place of the block, where it was not tried, and now is
  pub record StepsOver (at : ℕ) (old new : List Bool) : Type 0 where
    pub ways : Ways
    pub are_ways : AreWays spots q ways
    pub byte : IsRunOver spots ways (slice_index text at)
    pub within : at < length text
    pub inside : at < end
    pub new_here : was_visited old (mark_of (length spots) begin at q) ≡ false
    pub marks : new ≡ slice_set old (mark_of (length spots) begin at q) true

  -- so it does by so many bytes from a place on
  abbrev pub RunsOver : ℕ → ℕ → List Bool → List Bool → Type 0
  RunsOver zero at old new = new ≡ old
  RunsOver (suc n) at old new = (now : List Bool) × RunsOver n at old now × StepsOver (at + n) now new
