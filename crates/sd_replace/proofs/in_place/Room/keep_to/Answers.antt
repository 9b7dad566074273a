use Rattle.std.proofs.Common.{◌≡◌, ℕ, List, ◌++◌, slice_range, arith, refl, sym, ap, ◌∙◌}
use Rattle.sd_replace.specs.InPlace.{made_of}
use Rattle.sd_replace.proofs.in_place.InPlaceLemmas.{beside_room, piece_long, put_room}
use Rattle.sd_replace.proofs.in_place.Room.keep_to.Goals as goal

pub returns-in-None-clause-room : goal.returns-in-None-clause-room
returns-in-None-clause-room c = λ bytes room.
    let self = c.args.self.now in
    let long = piece_long self.bytes.items self.read c.args.place c.requires.within in
    put_room self c.move_to.new.self (slice_range self.bytes.items self.read c.args.place) c.move_to.ensures.put c.in-None.is c.move_to.ensures.beside
    (omega (arith, long, c.requires.order, c.requires.ahead, c.requires.within)) bytes room

pub returns-in_ok-extend_from_slice-in-Some-clause-room : goal.returns-in_ok-extend_from_slice-in-Some-clause-room
returns-in_ok-extend_from_slice-in-Some-clause-room c = λ bytes room.
    let self = c.args.self.now in
    let made : made_of self ≡ c.in-Some.made.items = rw c.in-Some.is in
    beside_room bytes self _ (slice_range self.bytes.items self.read c.args.place) refl refl refl
    (c.in_ok-extend_from_slice-in-Some.ensures.items
    ∙ ap (λ (l : List ℕ). c.in-Some.made.items ++ slice_range l self.read c.args.place) c.deref.ensures.value
    ∙ ap (λ (l : List ℕ). l ++ slice_range self.bytes.items self.read c.args.place) (sym made)) room
