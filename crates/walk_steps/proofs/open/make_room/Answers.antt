use Rattle.std.proofs.Common.{refl}
use Rattle.walk_steps.proofs.next.StepLemmas.{moves_none}
use Rattle.walk_steps.proofs.open.OpenLemmas.{on_ok, room_made}
use Rattle.walk_steps.proofs.open.make_room.Goals as goal

pub returns-then-count_open-max-clause-moves : goal.returns-then-count_open-max-clause-moves
returns-then-count_open-max-clause-moves g c = λ tells by lying folder rest lies h. moves_none _ _ by _ rest h

pub returns-clause-moves : goal.returns-clause-moves
returns-clause-moves g c = λ tells by lying folder rest lies h.
    on_ok c.keep_list.result (room_made (g.D.Disk.state c.args.disk.now) (g.D.Disk.state c.keep_list.new.disk) (g.S.Order.sorts c.args.inside.now.order) by c.args.inside.now (record c.args.inside.now { stack = c.keep_list.new.levels }) lying folder rest (record { options = refl; order = refl; root = refl }) refl lies h) (c.keep_list.ensures.kept tells)

pub returns-clause-others : goal.returns-clause-others
returns-clause-others g c = λ number apart is. (c.keep_list.ensures.others number apart, c.keep_list.ensures.apart number apart)
