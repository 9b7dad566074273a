use Rattle.std.proofs.Common.{◌≡◌, ◌≤◌, ℕ, List, length, take, refl, sym, ap, subst, ◌∙◌, arith}
use Rattle.std.specs.Option.{option_map_or}
use Rattle.sd_replace.specs.InPlace.{made_of}
use Rattle.sd_replace.proofs.in_place.InPlaceLemmas.{back_room}
use Rattle.sd_replace.proofs.in_place.Room.come_back.Goals as goal

pub returns-in-Some-clause-room : goal.returns-in-Some-clause-room
returns-in-Some-clause-room c =
    let old = c.args.self.now in
    let made = c.deref.result.now in
    let is : made_of old ≡ made =
    ap (λ o. option_map_or (λ m. m.items) o (take old.written old.bytes.items)) (sym c.take.ensures.value ∙ c.in-Some.is) ∙ sym c.deref.ensures.value in
    let more = subst (λ (l : List ℕ). old.written ≤ length l) is (c.fits_again.ensures.more c.if-not-fits_again.false) in
    let within = subst (λ (l : List ℕ). length l ≤ length old.bytes.items) is (c.fits_again.ensures.within c.if-not-fits_again.false) in
    back_room old _ c.write.new.self made is refl refl refl c.write.ensures.put (omega (arith, more)) (omega (arith, within)) (c.write.ensures.beside ∙ c.take.ensures.after)
