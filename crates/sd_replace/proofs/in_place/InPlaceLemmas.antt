-- New bytes in the room of the old ones, or beside it.
use Rattle.std.proofs.Common.{◌≡◌, ◌≢◌, ℕ, ◌+◌, ◌-◌, ◌≤◌, inl, inr, Bool, true, false, List, ◌++◌, length, take, drop, slice_range, None, refl, sym, ap, ◌∙◌, append_assoc, length-append, length-drop, drop-drop, arith}
use Rattle.std.proofs.lemmas.List.{take_at, drop_at, length-take-le, take-append-drop}
use Rattle.sd_replace.specs.InPlace.{HasPut, IsRoomOf, made_of, put_over}
use Rattle.sd_replace.specs.declared.in_place.Room.{Room}

-- what is the same from a place on is so from a later one on
pub left_later : (a b : List ℕ) (from at : ℕ) → drop from a ≡ drop from b → from ≤ at → drop at a ≡ drop at b
left_later a b from at same low =
    let on : from + (at - from) ≡ at = omega (arith, low) in
    ap (λ (k : ℕ). drop k a) (sym on) ∙ sym (drop-drop (at - from) from a) ∙ ap (drop (at - from)) same ∙ drop-drop (at - from) from b ∙ ap (λ (k : ℕ). drop k b) on

-- so is it with a piece that begins there
pub same_piece : (a b : List ℕ) (from start end : ℕ) → drop from a ≡ drop from b → from ≤ start → slice_range a start end ≡ slice_range b start end
same_piece a b from start end same low = ap (take (end - start)) (left_later a b from start same low)

-- how long a piece is
pub piece_long : (bytes : List ℕ) (start end : ℕ) → end ≤ length bytes → length (slice_range bytes start end) ≡ end - start
piece_long bytes start end within =
    let left_long = length-drop start bytes in
    length-take-le (end - start) (drop start bytes) (omega (arith, left_long, within))

-- ---- bytes with others put over them
module _ (bytes : List ℕ) (place : ℕ) (text : List ℕ) (fits : place + length text ≤ length bytes) where
  front_long : length (take place bytes ++ text) ≡ place + length text
  front_long = let made_long = length-take-le place bytes (omega (arith, fits)) in length-append (take place bytes) text ∙ omega (arith, made_long)

  -- they are as many
  pub over_long : length (put_over bytes place text) ≡ length bytes
  over_long =
      let left_long = length-drop (place + length text) bytes in
      length-append (take place bytes ++ text) (drop (place + length text) bytes) ∙ omega (arith, front_long, left_long, fits)

  -- behind those they are as they were
  pub over_left : drop (place + length text) (put_over bytes place text) ≡ drop (place + length text) bytes
  over_left = drop_at (take place bytes ++ text) (drop (place + length text) bytes) (place + length text) front_long

  -- up to there they are those before them, and those
  pub over_made : take (place + length text) (put_over bytes place text) ≡ take place bytes ++ text
  over_made = take_at (take place bytes ++ text) (drop (place + length text) bytes) (place + length text) front_long

  -- where those stood there, nothing changes
  pub over_same : slice_range bytes place (place + length text) ≡ text → put_over bytes place text ≡ bytes
  over_same is =
      let size : place + length text - place ≡ length text = omega arith in
      let piece : take (length text) (drop place bytes) ≡ text = ap (λ (n : ℕ). take n (drop place bytes)) (sym size) ∙ is in
      append_assoc (take place bytes) text (drop (place + length text) bytes)
      ∙ ap (λ (l : List ℕ). take place bytes ++ l)
      (ap (λ (l : List ℕ). l ++ drop (place + length text) bytes) (sym piece)
      ∙ ap (λ (l : List ℕ). take (length text) (drop place bytes) ++ l) (sym (drop-drop (length text) place bytes))
      ∙ take-append-drop (length text) (drop place bytes))
      ∙ take-append-drop place bytes

  -- bytes that begin so have those there
  pub begin_so : (rest : List ℕ) → (take place bytes ++ text) ++ rest ≡ bytes → slice_range bytes place (place + length text) ≡ text
  begin_so rest is =
      let size : place + length text - place ≡ length text = omega arith in
      let front : length (take place bytes) ≡ place = length-take-le place bytes (omega (arith, fits)) in
      let behind : text ++ rest ≡ drop place bytes =
      sym (drop_at (take place bytes) (text ++ rest) place front) ∙ ap (drop place) (sym (append_assoc (take place bytes) text rest) ∙ is) in
      ap (λ (n : ℕ). take n (drop place bytes)) size ∙ ap (take (length text)) (sym behind) ∙ take_at text rest (length text) refl

-- ---- the room

-- the new bytes in it, where there are none beside it
pub made_in : (room : Room) → room.beside ≡ None → made_of room ≡ take room.written room.bytes.items
made_in room none = rw none

-- a piece more is written
module _ (old new : Room) (piece : List ℕ) (put : HasPut old piece new) (none : old.beside ≡ None) (kept : new.beside ≡ old.beside)
    (fits : old.written + length piece ≤ length old.bytes.items) where
  pub put_made : made_of new ≡ made_of old ++ piece
  put_made =
      made_in new (kept ∙ none)
      ∙ ap (λ (k : ℕ). take k new.bytes.items) put.written
      ∙ ap (take (old.written + length piece)) put.bytes
      ∙ over_made old.bytes.items old.written piece fits
      ∙ ap (λ (l : List ℕ). l ++ piece) (sym (made_in old none))

  pub put_long : length new.bytes.items ≡ length old.bytes.items
  put_long = ap length put.bytes ∙ over_long old.bytes.items old.written piece fits

  pub put_room : (bytes : List ℕ) → IsRoomOf bytes old → IsRoomOf bytes new
  put_room bytes room = record {
    left = ap (λ (k : ℕ). drop k new.bytes.items) put.written
        ∙ ap (drop (old.written + length piece)) put.bytes
        ∙ over_left old.bytes.items old.written piece fits
        ∙ left_later old.bytes.items bytes old.written (old.written + length piece) room.left (omega arith)
        ∙ ap (λ (k : ℕ). drop k bytes) (sym put.written);
    size = put_long ∙ room.size;
    same = λ no. let before = put.told.same no in put.bytes ∙ over_same old.bytes.items old.written piece fits before.1 ∙ room.same before.0;
    other = λ yes rest e. elim (put.told.other yes) [
      | inl differs ↦ room.other differs (piece ++ rest) (sym (append_assoc (made_of old) piece rest) ∙ ap (λ (l : List ℕ). l ++ rest) (sym put_made) ∙ e)
      | inr others ↦ differs_now rest others old.differs refl e
    ];
  }
    where
      differs_now : (rest : List ℕ) → slice_range old.bytes.items old.written (old.written + length piece) ≢ piece → (b : Bool) → old.differs ≡ b → made_of new ++ rest ≢ bytes
      differs_now rest others true is e = room.other is (piece ++ rest) (sym (append_assoc (made_of old) piece rest) ∙ ap (λ (l : List ℕ). l ++ rest) (sym put_made) ∙ e)
      differs_now rest others false is e =
          others (begin_so old.bytes.items old.written piece fits rest
          (ap (λ (l : List ℕ). (l ++ piece) ++ rest) (sym (made_in old none)) ∙ ap (λ (l : List ℕ). l ++ rest) (sym put_made) ∙ e ∙ sym (room.same is)))

-- a piece more is added beside the bytes
pub beside_room : (bytes : List ℕ) (old new : Room) (piece : List ℕ) → new.bytes.items ≡ old.bytes.items → new.written ≡ old.written → new.differs ≡ old.differs
    → made_of new ≡ made_of old ++ piece → IsRoomOf bytes old → IsRoomOf bytes new
beside_room bytes old new piece same written differs made room = record {
  left = ap (λ (k : ℕ). drop k new.bytes.items) written ∙ ap (drop old.written) same ∙ room.left ∙ ap (λ (k : ℕ). drop k bytes) (sym written);
  size = ap length same ∙ room.size;
  same = λ no. same ∙ room.same (sym differs ∙ no);
  other = λ yes rest e. room.other (sym differs ∙ yes) (piece ++ rest) (sym (append_assoc (made_of old) piece rest) ∙ ap (λ (l : List ℕ). l ++ rest) (sym made) ∙ e);
}

-- what lay beside the bytes is written over the first of them
module _ (old first new : Room) (made : List ℕ) (is : made_of old ≡ made) (same : first.bytes.items ≡ old.bytes.items) (start : first.written ≡ 0) (differs : first.differs ≡ old.differs)
    (put : HasPut first made new) (more : old.written ≤ 0 + length made) (fits : 0 + length made ≤ length old.bytes.items) (none : new.beside ≡ None) where
  there : new.bytes.items ≡ put_over old.bytes.items 0 made
  there = put.bytes ∙ (λ i. put_over (same i) (start i) made)

  back_written : new.written ≡ 0 + length made
  back_written = put.written ∙ ap (λ (n : ℕ). n + length made) start

  back_made : made_of new ≡ made_of old
  back_made = made_in new none ∙ (λ i. take (back_written i) (there i)) ∙ over_made old.bytes.items 0 made fits ∙ sym is

  -- what stood there was something else
  others_there : (bytes rest : List ℕ) → IsRoomOf bytes old → made ++ rest ≡ bytes → slice_range first.bytes.items first.written (first.written + length made) ≢ made
      → (b : Bool) → old.differs ≡ b → ⊥
  others_there bytes rest room so others true d = room.other d rest (ap (λ (l : List ℕ). l ++ rest) is ∙ so)
  others_there bytes rest room so others false d =
      others ((λ i. slice_range (same i) (start i) (start i + length made)) ∙ begin_so old.bytes.items 0 made fits rest (so ∙ sym (room.same d)))

  pub back_room : (bytes : List ℕ) → IsRoomOf bytes old → IsRoomOf bytes new
  back_room bytes room = record {
    left = (λ i. drop (back_written i) (there i)) ∙ over_left old.bytes.items 0 made fits ∙ left_later old.bytes.items bytes old.written (0 + length made) room.left more
        ∙ ap (λ (n : ℕ). drop n bytes) (sym back_written);
    size = ap length there ∙ over_long old.bytes.items 0 made fits ∙ room.size;
    same = λ no.
        let before = put.told.same no in
        there ∙ over_same old.bytes.items 0 made fits ((λ i. slice_range (sym same i) (sym start i) (sym start i + length made)) ∙ before.1) ∙ room.same (sym differs ∙ before.0);
    other = λ yes rest e.
        let so : made ++ rest ≡ bytes = ap (λ (l : List ℕ). l ++ rest) (sym (back_made ∙ is)) ∙ e in
        elim (put.told.other yes) [
          | inl before ↦ room.other (sym differs ∙ before) rest (ap (λ (l : List ℕ). l ++ rest) is ∙ so)
          | inr others ↦ others_there bytes rest room so others old.differs refl
        ];
  }
