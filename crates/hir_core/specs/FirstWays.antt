-- The first way of a thread: at each spot the preferred one that may give a run, with none kept to come back to.
use Rattle.std.specs.Prelude.{◌≡◌, ℕ, ◌<◌, ◌≤◌, ◌⊎◌, true, false, List, length, Option, Some, slice_index}
use Rattle.hir_tree.specs.Runs.{Run, is_seen}
use Rattle.hir_program.specs.Loops.{AreWays, IsRunOver}
use Rattle.hir_program.specs.Masks.{is_taker}
use Rattle.hir_program.specs.Program.{Way, way, gives, spot_at}
use Rattle.hir_program.specs.declared.loops.Ways.{Ways}
use Rattle.hir_program.specs.declared.spot.Spot.{Spot}
use Rattle.hir_core.specs.Pass.{counted, first_of}
use Rattle.hir_core.specs.Trails.{Stop, way_of}
use Rattle.hir_core.specs.declared.first_way.Reached.{Reached}
use Rattle.hir_core.specs.declared.trail.Trail.{Trail}

-- the same way, which has passed these spots at its place
abbrev pub passing : List ℕ → Way → Way
passing passed w = way w.starts (record { at = w.run.at; groups = w.run.groups; seen = passed })

module _ (text : List ℕ) (spots : List Spot) where
  -- the loop at a spot goes only round by each byte from one place to another
  abbrev pub GoesRound : ℕ → ℕ → ℕ → Type 0
  GoesRound q from to =
      (from ≡ to) ⊎ ((w : Ways) × AreWays spots q w × ((at : ℕ) → from ≤ at → at < to → IsRunOver spots w (slice_index text at)))

  -- If a stop gives a run, its first one is that of the thread. The spots that were passed at its place lie below the bar, and take no bytes.
  pub record HasFirst (thread : Option Run) (bar : ℕ) (p : Stop) : Type 0 where
    pub passed : List ℕ
    pub below : (q : ℕ) → is_seen q passed ≡ true → q < bar
    pub calm : (q : ℕ) → is_seen q passed ≡ true → is_taker (spot_at spots q) ≡ false
    pub first : (r : Run) → first_of (gives text spots p.0 (passing passed p.1)) ≡ Some r → thread ≡ Some r

  -- The first way goes on from where it came to: what has the first run of a thread has it still, and visits are counted of spots that have any.
  pub record GoesFirst (old : Reached) (trail : Trail) (new : Reached) (trail' : Trail) : Type 0 where
    pub within : trail'.at ≤ length text
    pub first : (thread : Option Run) → HasFirst thread old.bar (old.spot, way_of trail) → HasFirst thread new.bar (new.spot, way_of trail')
    pub visits : (0 < old.visits → 0 < counted spots) → 0 < new.visits → 0 < counted spots
