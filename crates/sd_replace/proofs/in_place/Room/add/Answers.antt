use Rattle.std.proofs.Common.{◌≡◌, ℕ, List, ◌++◌, arith, refl, sym, ap, ◌∙◌}
use Rattle.sd_replace.specs.InPlace.{made_of}
use Rattle.sd_replace.proofs.in_place.InPlaceLemmas.{beside_room, put_room}
use Rattle.sd_replace.proofs.in_place.Room.add.Goals as goal

pub returns-in_ok-extend_from_slice-clause-room : goal.returns-in_ok-extend_from_slice-clause-room
returns-in_ok-extend_from_slice-clause-room c = λ bytes room.
    let made : made_of c.args.self.now ≡ c.in-Some.made.items = rw c.in-Some.is in
    beside_room bytes c.args.self.now _ c.args.text.now refl refl refl (c.in_ok-extend_from_slice.ensures.items ∙ ap (λ (l : List ℕ). l ++ c.args.text.now) (sym made)) room

pub returns-then-text-end-clause-room : goal.returns-then-text-end-clause-room
returns-then-text-end-clause-room c = λ bytes room.
    put_room c.args.self.now c.write.new.self c.args.text.now c.write.ensures.put c.in_default.is c.write.ensures.beside (omega (arith, c.if-text-end.true, c.requires.order, c.requires.within)) bytes room
