use Rattle.walk_steps.proofs.WithinLemmas.{sound_gone}
use Rattle.walkdir.specs.Steps.{still_compares}
use Rattle.walkdir.proofs.into_iter.end.Goals as goal

pub returns-clause-sound : goal.returns-clause-sound
returns-clause-sound g c =
    sound_gone (g.D.Disk.state c.give_up.new.disk) (g.S.Order.sorts c.give_up.new.inside.order) c.give_up.new.inside c.give_up.ensures.gone

pub returns-clause-order : goal.returns-clause-order
returns-clause-order g c = still_compares g.S.Order.can_compare c.args.inside.now c.give_up.new.inside c.give_up.ensures.same c.requires.order
