-- What a filter of a program says.
use Rattle.std.specs.Prelude.{◌≡◌, ℕ, ◌<◌, ◌≤◌, ◌⊎◌, Bool, false, List, length, ◌==◌, slice_index, slice_index_or, bit_and, not, Option, IfSome}
use Rattle.hir_tree.specs.Looks.{holds}
use Rattle.hir_tree.specs.declared.look.Look.{Look}
use Rattle.hir_program.specs.Entry.{IsEntry}
use Rattle.hir_program.specs.Loops.{AreLoops}
use Rattle.hir_program.specs.Masks.{Covers, CoverTheirSpots, HaveOwnBits, AreTakers, SaysNoMore, SaysWhatTakes, SaysWhatFollows, SaysWhichAreWide, AreMoved, AreDead, IsDead, IsPart, IsShut, IsShutBefore, HasBit, match_bit, next_of, sure_bit}
use Rattle.hir_program.specs.Program.{spot_at}
use Rattle.hir_program.specs.declared.spot.Spot.{Spot}
use Rattle.hir_program.specs.declared.scan.Scan.{Scan}
use Rattle.hir_program.specs.declared.scan.required.Required.{Required}
use Rattle.hir_program.specs.declared.scan.prefilter.Stops.{Stops}
use Rattle.hir_program.specs.declared.scan.prefilter.Stops.TheVariants as stops
use Rattle.hir_program.specs.declared.scan.FilterState.{FilterState}

-- each run of the program asks the look, if there is one, before its first byte, so none begins where it doesn't hold
abbrev pub IsAskedFirst : List Spot → Option Look → Type 0
IsAskedFirst spots look = IfSome look (λ l. (text : List ℕ) (at : ℕ) → holds l text at ≡ false → IsDead text spots at 0)

-- what may go on at a place: what may before the byte there, and at the end of the text a match may end
pub record IsOpenAt (text : List ℕ) (at : ℕ) (s : Scan) (mask : ℕ) : Type 0 where
  pub taken : at < length text → IsPart (slice_index s.takes.items (slice_index text at)) mask
  pub beyond : at < length text → 128 ≤ slice_index text at → IsPart s.wide mask
  pub sure : HasBit mask sure_bit
  pub ends : (HasBit mask match_bit → ⊥) → IsShut text at s.last_look

-- no match ends at the place after the spots that have the mask, where the last look is this one
abbrev pub NoEnd : List ℕ → ℕ → Option Look → ℕ → Type 0
NoEnd text at look mask = (HasBit mask sure_bit → ⊥) × (HasBit mask match_bit → IsShut text at look)

-- Each match passes a required spot, or ends where the last look holds: until one of them took a byte, only those of `before` may be tried, and
-- no match ends elsewhere, nor there unless `before` has the bit for it.
pub record IsRequired (spots : List Spot) (of : List ℕ) (look : Option Look) (start : ℕ) (c : Required) : Type 0 where
  pub begun : IsPart start c.before
  pub follows : (i : ℕ) → i < length of → HasBit c.before i → (HasBit c.spots i → ⊥)
      → Covers spots of look c.before (next_of (spot_at spots (slice_index of i)))
  pub unsure : HasBit c.before sure_bit → ⊥

-- they are required in each program that moves on as these rows say
abbrev pub IsRequiredOf : List ℕ → ℕ → Required → Type 0
IsRequiredOf rows start c =
    (spots : List Spot) (of : List ℕ) (look : Option Look) → length of ≤ sure_bit → SaysWhatFollows spots of look rows → IsRequired spots of look start c

-- no required spot takes the byte, none before one takes a character beyond ASCII that begins with it, and no match ends before it
abbrev pub IsPassedOver : List ℕ → ℕ → Option Look → Required → ℕ → Type 0
IsPassedOver takes wide look c byte =
    (bit_and (slice_index takes byte) c.spots ≡ 0) × ((byte < 128) ⊎ (bit_and c.before wide ≡ 0)) × (HasBit c.before match_bit → IsShutBefore look byte)

-- the prefilter stops at the byte
abbrev pub stops_at : Stops → ℕ → Bool
stops_at (stops.One byte) b = b == byte
stops_at (stops.AllBut passed) b = not (slice_index_or passed b false)

-- a byte at which the prefilter doesn't stop is passed over
abbrev pub TellsStops : List ℕ → ℕ → Option Look → Required → Stops → Type 0
TellsStops takes wide look c s = (b : ℕ) → b < 256 → stops_at s b ≡ false → IsPassedOver takes wide look c b

-- The filter tells where a match of the program may be: bit i is that of the spot `of` has at i. At most 62 spots have a bit,
-- each of which takes bytes.
pub record IsFilterOf (spots : List Spot) (s : Scan) : Type 0 where
  pub few : length s.of.items ≤ sure_bit
  pub takers : AreTakers spots s.of.items
  pub takes : SaysWhatTakes spots s.of.items s.takes.items
  pub takes_no_more : SaysNoMore spots s.of.items s.takes.items
  pub follows : SaysWhatFollows spots s.of.items s.last_look s.after.items
  pub moves : AreMoved s.after.items (length s.of.items) s.moves
  pub wide : SaysWhichAreWide spots s.of.items s.wide
  pub start : Covers spots s.of.items s.last_look s.start 0
  pub firsts : CoverTheirSpots spots s.of.items s.last_look s.firsts.items
  pub own : HaveOwnBits spots s.of.items s.firsts.items
  pub first : IsAskedFirst spots s.first_look
  pub loops : AreLoops spots s.loops
  pub entry : IsEntry spots s.entry
  pub prefilter : IfSome s.prefilter (λ k. IsRequired spots s.of.items s.last_look s.start k.required × TellsStops s.takes.items s.wide s.last_look k.required k.stops)

-- no run begins at a place from one on to before another, as the filter says
abbrev pub NoneBegins : List ℕ → Scan → ℕ → ℕ → Type 0
NoneBegins text s from until =
    (spots : List Spot) → IsFilterOf spots s → (q : ℕ) → from ≤ q → q < until → IsDead text spots q 0

-- What the filter has looked at from a place on: no run begins before `from`, and none that begins from there on, unless a spot of the
-- state gives something at the place.
pub record Looked (text : List ℕ) (s : Scan) (at : ℕ) (k : FilterState) : Type 0 where
  pub after : at ≤ k.from
  pub before : k.from ≤ k.place
  pub within : k.place ≤ length text
  pub unmatched : NoEnd text k.place s.last_look k.state
  pub quiet : NoneBegins text s at k.from
  pub held : (spots : List Spot) → IsFilterOf spots s → AreDead text spots s.of.items s.last_look k.place k.state → (q : ℕ) → k.from ≤ q → q < k.place
      → IsDead text spots q 0
