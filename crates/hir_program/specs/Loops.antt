-- Loops of one set, and which bytes are run over there.
use Rattle.std.specs.Prelude.{◌≡◌, ℕ, ◌<◌, ◌⊎◌, Bool, true, false, List, length, Option, None, IfSome, slice_index, slice_index_or}
use Rattle.std.specs.Box.{box_value}
use Rattle.std.specs.Global.{Box}
use Rattle.hir_program.specs.Masks.{IsDead, is_taker, next_of, takes_byte}
use Rattle.hir_program.specs.Program.{Way, spot_at, gives, some_run, ClosesFall}
use Rattle.hir_program.specs.declared.loops.Loops.{Loops}
use Rattle.hir_program.specs.declared.loops.Ways.{Ways}
use Rattle.hir_program.specs.declared.spot.Spot.{Spot}
use Rattle.hir_program.specs.declared.spot.Spot.TheVariants as spot

-- the spot takes bytes, and leads to another
abbrev pub LeadsTo : Spot → ℕ → Type 0
LeadsTo s q = (is_taker s ≡ true) × (next_of s ≡ q)

-- the spot gives a run to each way, in each text
abbrev pub EndsSurely : List Spot → ℕ → Type 0
EndsSurely spots q = ClosesFall spots → (text : List ℕ) (w : Way) → some_run (gives text spots q w) ≡ true

-- from the spot no way gives a run that is before this byte, in any text
abbrev pub IsDeadBy : List Spot → ℕ → ℕ → Type 0
IsDeadBy spots q b = (text : List ℕ) (at : ℕ) → at < length text → slice_index text at ≡ b → IsDead text spots at q

-- These are the ways of a spot: round by what takes bytes, and out. The way out is sure only where it comes second.
pub record AreWays (spots : List Spot) (q : ℕ) (w : Ways) : Type 0 where
  pub round : LeadsTo (spot_at spots w.round) q
  pub sides : (spot_at spots q ≡ spot.Split w.round w.out) ⊎ ((spot_at spots q ≡ spot.Split w.out w.round) × (w.is_sure ≡ false))
  pub sure : w.is_sure ≡ true → EndsSurely spots w.out

-- The byte, which is ASCII, is run over by these ways: the way round takes it, and the way out gives nothing there, or is sure.
abbrev pub IsRunOver : List Spot → Ways → ℕ → Type 0
IsRunOver spots w b =
    (b < 128) × (takes_byte (spot_at spots w.round) b ≡ true) × ((w.is_sure ≡ true) ⊎ IsDeadBy spots w.out b)

-- the row says which bytes are run over by these ways
abbrev pub SaysWhatIsRunOver : List Spot → Ways → List Bool → Type 0
SaysWhatIsRunOver spots w row = (b : ℕ) → slice_index_or row b false ≡ true → IsRunOver spots w b

-- the row is that of a loop at the spot
abbrev pub IsRow : List Spot → ℕ → List Bool → Type 0
IsRow spots q row = (w : Ways) × AreWays spots q w × SaysWhatIsRunOver spots w row

-- each row is that of a loop at its spot
abbrev pub AreRows : List Spot → List (Option (Box (List Bool))) → Type 0
AreRows spots rows = (q : ℕ) → IfSome (slice_index_or rows q None) (λ row. IsRow spots q (box_value row))

-- these are loops of the program
abbrev pub AreLoops : List Spot → Loops → Type 0
AreLoops spots loops = AreRows spots loops.rows.items
