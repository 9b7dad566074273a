-- Sets of spots as bits of a number, and spots that give nothing at a place.
use Rattle.std.specs.Prelude.{◌≡◌, ℕ, ◌+◌, ◌*◌, ◌/◌, ◌%◌, ◌^◌, ◌<◌, ◌≤◌, ◌⊎◌, Bool, true, false, ◌&&◌, nat_lt, List, [], ◌∷◌, Option, Some, IfSome, length, slice_index, slice_index_or, if◌then◌else◌}
use native.Mathlib.Nat.{ℕ_set}
use Rattle.std.specs.Int.{bit_at}
use Rattle.std.specs.List.{list_any, Contains}
use Rattle.hir_tree.specs.Looks.{holds}
use Rattle.hir_tree.specs.Runs.{begin, in_set}
use Rattle.hir_tree.specs.declared.look.Look.{Look}
use Rattle.hir_program.specs.Program.{Way, way, spot_at, gives_within, gives}
use Rattle.hir_program.specs.declared.scan.bits.Moves.{Moves}
use Rattle.hir_program.specs.declared.scan.shifts.Shift.{Shift}
use Rattle.hir_program.specs.declared.spot.Spot.{Spot}
use Rattle.hir_program.specs.declared.spot.Spot.TheVariants as spot

-- the bit is set
unfoldable pub HasBit : ℕ → ℕ → Type 0
HasBit mask i = bit_at mask i ≡ 1

-- a bit is set in one way
pub HasBit-prop : (mask i : ℕ) → IsProp (HasBit mask i)
unfolding HasBit
HasBit-prop mask i = ℕ_set (bit_at mask i) 1

-- each bit of the one is set in the other
abbrev pub IsPart : ℕ → ℕ → Type 0
IsPart mask more = (i : ℕ) → HasBit mask i → HasBit more i

-- each bit of each number is still set
abbrev pub Grows : List ℕ → List ℕ → Type 0
Grows old new = (b : ℕ) → IsPart (slice_index old b) (slice_index new b)

-- this bit alone was set, in numbers at which something holds
abbrev pub GrowsOnly : ℕ → (ℕ → Type 0) → List ℕ → List ℕ → Type 0
GrowsOnly bit Here old new = (b i : ℕ) → HasBit (slice_index new b) i → HasBit (slice_index old b) i ⊎ ((i ≡ bit) × Here b)

-- the bit that tells that a match may end where a certain look holds, if there is one
abbrev pub match_bit : ℕ
match_bit = 63

-- the bit that tells that a match may end also where that look doesn't hold
abbrev pub sure_bit : ℕ
sure_bit = 62

-- Where the rows have the mask for the eight bits that a bit is among: row r is of the bits from 8 r on, and has 256 masks.
abbrev pub row_place : ℕ → ℕ → ℕ
row_place mask i = 256 * (i / 8) + mask / 2 ^ (8 * (i / 8)) % 256

-- the spot takes bytes
abbrev pub is_taker : Spot → Bool
is_taker (spot.Bytes q set) = true
is_taker (spot.Chars q set) = true
is_taker _ = false

-- the spot that comes after the bytes
abbrev pub next_of : Spot → ℕ
next_of (spot.Bytes q set) = q
next_of (spot.Chars q set) = q
next_of _ = 0

-- the spot takes this byte, or the ASCII character that it is
abbrev pub takes_byte : Spot → ℕ → Bool
takes_byte (spot.Bytes q set) b = in_set set b
takes_byte (spot.Chars q set) b = nat_lt b 128 && in_set set b
takes_byte _ b = false

-- the set has a member beyond ASCII
abbrev pub has_wide : List (ℕ × ℕ) → Bool
has_wide set = list_any (λ r. nat_lt 127 r.1) set

-- the spot may take a character beyond ASCII
abbrev pub is_wide : Spot → Bool
is_wide (spot.Chars q set) = has_wide set
is_wide _ = false

-- where a spot leads without a byte
abbrev pub ways_on : Spot → List ℕ
ways_on (spot.Look l q) = q ∷ []
ways_on (spot.Jump q) = q ∷ []
ways_on (spot.Split p q) = p ∷ q ∷ []
ways_on (spot.Open q) = q ∷ []
ways_on (spot.Close i q) = q ∷ []
ways_on _ = []

-- the spot was reached; past the end nothing goes on, so each spot there counts as reached
abbrev pub is_reached : List Bool → ℕ → Bool
is_reached reached q = slice_index_or reached q true

-- where a spot leads that was not reached before
abbrev pub new_ways : List Bool → ℕ → Spot → List ℕ
new_ways reached q s = if is_reached reached q then [] else ways_on s

-- the spot asks the look, if there is one
abbrev pub Asks : Option Look → Spot → Type 0
Asks look (spot.Look l q) = look ≡ Some l
Asks look _ = ⊥

-- each spot that is marked asks the look
abbrev pub AllAsk : List Spot → Option Look → List Bool → Type 0
AllAsk spots look marked = (q : ℕ) → q < length marked → slice_index_or marked q true ≡ true → Asks look (spot_at spots q)

-- the look, if there is one, doesn't hold at the place
abbrev pub IsShut : List ℕ → ℕ → Option Look → Type 0
IsShut text at look = IfSome look (λ l. holds l text at ≡ false)

-- the look, if there is one, holds nowhere before the byte
abbrev pub IsShutBefore : Option Look → ℕ → Type 0
IsShutBefore look b = (l : Look) → look ≡ Some l → (text : List ℕ) (at : ℕ) → at < length text → slice_index text at ≡ b → holds l text at ≡ false

-- What may go on before a byte that the spots of `takes` take: those, and those of `wide`, which may take a character that begins with a byte
-- beyond ASCII; and a match may end, where the look doesn't hold if the byte doesn't rule that out.
pub record IsOpen (byte takes wide : ℕ) (look : Option Look) (mask : ℕ) : Type 0 where
  pub taken : IsPart takes mask
  pub beyond : 128 ≤ byte → IsPart wide mask
  pub sure : HasBit mask sure_bit
  pub ends : (HasBit mask match_bit → ⊥) → IsShutBefore look byte

-- each of these says what may go on before its byte
abbrev pub AreOpen : List ℕ → ℕ → Option Look → List ℕ → Type 0
AreOpen takes wide look masks =
    (b mask : ℕ) → b < length masks → mask ≡ slice_index_or masks b mask → IsOpen b (slice_index takes b) wide look mask

-- where a spot leads that was reached, that was reached too, unless the spot asks the look
abbrev pub IsClosed : List Spot → Option Look → List Bool → Type 0
IsClosed spots look reached =
    (q p : ℕ) → is_reached reached q ≡ true → Contains (ways_on (spot_at spots q)) p → Asks look (spot_at spots q) ⊎ (is_reached reached p ≡ true)

-- From this spot no way gives a run that is at this place.
abbrev pub IsDead : List ℕ → List Spot → ℕ → ℕ → Type 0
IsDead text spots at q = (steps : ℕ) (w : Way) → w.run.at ≡ at → gives_within text spots steps q w ≡ []

-- The mask doesn't say that a match may end at this place, and each spot with a bit in it gives nothing there; bit i is that of
-- the spot `of` has at i.
pub record AreDead (text : List ℕ) (spots : List Spot) (of : List ℕ) (look : Option Look) (at mask : ℕ) : Type 0 where
  pub unmatched : HasBit mask sure_bit → ⊥
  pub asked : HasBit mask match_bit → IsShut text at look
  pub dead : (i : ℕ) → i < length of → HasBit mask i → IsDead text spots at (slice_index of i)

-- where the spots of the mask give nothing, the spot gives nothing
abbrev pub Covers : List Spot → List ℕ → Option Look → ℕ → ℕ → Type 0
Covers spots of look mask q = (text : List ℕ) (at : ℕ) → AreDead text spots of look at mask → IsDead text spots at q

-- the same where this look doesn't hold, whichever look the mask is of
abbrev pub CoversBeside : List Spot → List ℕ → Option Look → ℕ → ℕ → Type 0
CoversBeside spots of shut mask q =
    (text : List ℕ) (at : ℕ) (look : Option Look) → IsShut text at shut → AreDead text spots of look at mask → IsDead text spots at q

-- no run of the program begins at a place from one on to before another
abbrev pub NoRun : List ℕ → List Spot → ℕ → ℕ → Type 0
NoRun text spots from until = (groups q : ℕ) → from ≤ q → q < until → gives text spots 0 (way [] (begin q groups)) ≡ []

-- each of these spots takes bytes
abbrev pub AreTakers : List Spot → List ℕ → Type 0
AreTakers spots of = (i : ℕ) → i < length of → is_taker (spot_at spots (slice_index of i)) ≡ true

-- each spot that takes bytes is one of these
abbrev pub AreAllTakers : List Spot → List ℕ → Type 0
AreAllTakers spots of =
    (q : ℕ) → is_taker (spot_at spots q) ≡ true → (i : ℕ) × (i < length of) × (slice_index of i ≡ q)

-- each spot's bit is set at the bytes that it takes
abbrev pub SaysWhatTakes : List Spot → List ℕ → List ℕ → Type 0
SaysWhatTakes spots of takes =
    (i b : ℕ) → i < length of → b < 256 → takes_byte (spot_at spots (slice_index of i)) b ≡ true → HasBit (slice_index takes b) i

-- and at no others
abbrev pub SaysNoMore : List Spot → List ℕ → List ℕ → Type 0
SaysNoMore spots of takes =
    (i b : ℕ) → i < length of → HasBit (slice_index takes b) i → takes_byte (spot_at spots (slice_index of i)) b ≡ true

-- where the spot takes bytes, the mask has its bit alone
abbrev pub HasOwnBit : List Spot → List ℕ → ℕ → ℕ → Type 0
HasOwnBit spots of q mask = is_taker (spot_at spots q) ≡ true → (i : ℕ) × (i < length of) × (slice_index of i ≡ q) × (mask ≡ 2 ^ i)

-- so it is with each of these masks
abbrev pub HaveOwnBits : List Spot → List ℕ → List ℕ → Type 0
HaveOwnBits spots of masks = (q : ℕ) → q < length masks → HasOwnBit spots of q (slice_index masks q)

-- Row r has a mask for each choice of the eight bits from 8 r on: it covers what comes after the spot of each bit that is chosen.
abbrev pub SaysWhatFollows : List Spot → List ℕ → Option Look → List ℕ → Type 0
SaysWhatFollows spots of look rows =
    (i v : ℕ) → i < length of → v < 256 → HasBit v (i % 8)
    → Covers spots of look (slice_index rows (256 * (i / 8) + v)) (next_of (spot_at spots (slice_index of i)))

-- mask q of these covers the spot q
abbrev pub CoverTheirSpots : List Spot → List ℕ → Option Look → List ℕ → Type 0
CoverTheirSpots spots of look masks = (q : ℕ) → q < length masks → Covers spots of look (slice_index masks q) q

-- the bit of each spot is set that may take a character beyond ASCII
abbrev pub SaysWhichAreWide : List Spot → List ℕ → ℕ → Type 0
SaysWhichAreWide spots of mask = (i : ℕ) → i < length of → is_wide (spot_at spots (slice_index of i)) ≡ true → HasBit mask i

-- After the spot of bit i at most those of the mask may be tried: the one of the next bit, which is then among those that are moved on to, and
-- itself, which is then among those that stay.
pub record IsMoved (mask on stay i : ℕ) : Type 0 where
  pub goes : HasBit mask (i + 1) → HasBit on (i + 1)
  pub stays : HasBit mask i → HasBit stay i
  pub alone : (j : ℕ) → HasBit mask j → (j ≡ i → ⊥) → j ≡ i + 1

-- so many spots move on as the rows say, unless they are odd
abbrev pub AreMoved : List ℕ → ℕ → Moves → Type 0
AreMoved rows count m =
    (i : ℕ) → i < count → (HasBit m.odd i → ⊥) → IsMoved (slice_index rows (256 * (i / 8) + 2 ^ (i % 8))) m.on m.stay i

-- What a byte does that the spots of `takes` take, where the spots move on as `m` says: those that begin are tried at each byte, and those of
-- `wide` may take a character that begins with a byte beyond ASCII.
pub record IsShift (byte takes : ℕ) (m : Moves) (start wide : ℕ) (k : Shift) : Type 0 where
  pub on : (i : ℕ) → i < 62 → HasBit takes i → HasBit m.on (i + 1) → HasBit k.on (i + 1)
  pub stay : (i : ℕ) → HasBit takes i → HasBit m.stay i → HasBit k.stay i
  pub begun : (i mask : ℕ) → i < 62 → HasBit start i → HasBit takes i → IsMoved mask m.on m.stay i → IsPart mask k.begun
  pub kept : IsPart k.begun k.stay
  pub odd : (i : ℕ) → HasBit takes i → HasBit m.odd i → HasBit k.odd i
  pub beyond : 128 ≤ byte → IsPart wide k.odd
  pub few_on : k.on < 2 ^ 62
  pub few_stay : k.stay < 2 ^ 62

-- each of these says what its byte does
abbrev pub AreShifts : List ℕ → Moves → ℕ → ℕ → List Shift → Type 0
AreShifts takes m start wide shifts =
    (b : ℕ) (k : Shift) → b < length shifts → k ≡ slice_index_or shifts b k → IsShift b (slice_index takes b) m start wide k
