use Rattle.std.proofs.Common.{ℕ, List, slice_range, arith, subst, ap, ◌∙◌}
use Rattle.std.proofs.lemmas.List.{with_items_is}
use Rattle.sd_replace.specs.InPlace.{TellsOf, put_over}
use Rattle.sd_replace.proofs.in_place.InPlaceLemmas.{piece_long}
use Rattle.sd_replace.proofs.in_place.Room.move_to.Goals as goal

pub returns-clause-put : goal.returns-clause-put
returns-clause-put c =
    let self = c.args.self.now in
    let long = piece_long self.bytes.items self.read c.args.place c.requires.within in
    record {
      bytes = with_items_is self.bytes c.move_down.new.bytes (c.move_down.auto.bytes ∙ c.deref_mut.ensures.len) ∙ c.move_down.ensures
          ∙ ap (λ (l : List ℕ). put_over l self.written (slice_range l self.read c.args.place)) c.deref_mut.ensures.value;
      written = omega (arith, long);
      told = subst (λ (l : List ℕ). TellsOf self (slice_range l self.read c.args.place) c.differs_by-self.result) c.deref.ensures.value c.differs_by-self.ensures;
    }
