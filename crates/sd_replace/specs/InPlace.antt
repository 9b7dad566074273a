-- Changes in the room of the old bytes.
use Rattle.std.specs.Prelude.{◌≡◌, ◌≢◌, ◌≤◌, ◌⊎◌, ℕ, ◌+◌, Bool, true, false, ◌++◌, List, [], length, take, drop, slice_range}
use Rattle.std.specs.Option.{option_map_or}
use Rattle.sd_change.specs.declared.changed.Rewritten.{Rewritten}
use Rattle.sd_change.specs.declared.changed.Rewritten.TheVariants.{Same, Other}
use Rattle.sd_replace.specs.Replacement.{Changes, Replacement}
use Rattle.sd_replace.specs.declared.in_place.Room.{Room}

-- the bytes, where others stand in their place from a place on
abbrev pub put_over : List ℕ → ℕ → List ℕ → List ℕ
put_over bytes place text = take place bytes ++ text ++ drop (place + length text) bytes

-- the new bytes so far: those beside the old ones, else those in their room
abbrev pub made_of : Room → List ℕ
made_of room = option_map_or (λ made. made.items) room.beside (take room.written room.bytes.items)

-- The room is that of these bytes: behind what is written they stand as they were, and it is told whether what is written differs from
-- what stood there. If so, the new bytes don't begin as these do.
pub record IsRoomOf (bytes : List ℕ) (room : Room) : Type 0 where
  pub left : drop room.written room.bytes.items ≡ drop room.written bytes
  pub size : length room.bytes.items ≡ length bytes
  pub same : room.differs ≡ false → room.bytes.items ≡ bytes
  pub other : room.differs ≡ true → (rest : List ℕ) → made_of room ++ rest ≢ bytes

-- the room of these bytes, in which nothing is written yet
pub record IsUntouched (bytes : List ℕ) (room : Room) : Type 0 where
  pub of : IsRoomOf bytes room
  pub made : made_of room ≡ []
  pub written : room.written ≡ 0
  pub read : room.read ≡ 0
  pub count : room.count ≡ 0

-- the same, where each match has given way: the new bytes, and then the old ones that are left, are those of the change
pub record IsRewritten (replacement : Replacement) (bytes : List ℕ) (room : Room) : Type 0 where
  pub of : IsRoomOf bytes room
  pub order : room.written ≤ room.read
  pub within : room.read ≤ length room.bytes.items
  pub changes : Changes replacement bytes (made_of room ++ drop room.read room.bytes.items) room.count
  pub few : room.count ≤ length bytes + 1

-- whether what is written differs is told of a piece more that is written
pub record TellsOf (room : Room) (piece : List ℕ) (differs : Bool) : Type 0 where
  pub same : differs ≡ false → (room.differs ≡ false) × (slice_range room.bytes.items room.written (room.written + length piece) ≡ piece)
  pub other : differs ≡ true → (room.differs ≡ true) ⊎ (slice_range room.bytes.items room.written (room.written + length piece) ≢ piece)

-- a piece more is written over the bytes
pub record HasPut (old : Room) (piece : List ℕ) (new : Room) : Type 0 where
  pub bytes : new.bytes.items ≡ put_over old.bytes.items old.written piece
  pub written : new.written ≡ old.written + length piece
  pub told : TellsOf old piece new.differs

-- what bytes have become, of which these are the new ones, with so many matches replaced
abbrev pub Became : List ℕ → List ℕ → ℕ → Rewritten → Type 0
Became bytes new_bytes count (Same same counted) = (same.items ≡ new_bytes) × (counted ≡ count) × (new_bytes ≡ bytes)
Became bytes new_bytes count (Other changed) = (changed.new_bytes.items ≡ new_bytes) × (changed.count ≡ count) × (new_bytes ≢ bytes)
