use Rattle.std.proofs.Common.{[], ◌∙◌}
use Rattle.std.proofs.lemmas.List.{append-nil}
use Rattle.sd_replace.specs.InPlace.{made_of}
use Rattle.sd_replace.proofs.in_place.Room.is_other.Goals as goal

pub returns-then-self-clause-other : goal.returns-then-self-clause-other
returns-then-self-clause-other c = λ bytes room yes e. room.other c.if-self.true [] (append-nil (made_of c.args.self.now) ∙ e)
