use Rattle.std.proofs.Common.{[], ◌∙◌, arith}
use Rattle.walk_steps.specs.Inside.{levels_of}
use Rattle.walkdir.proofs.collect.CollectLemmas.{counts_closed}
use Rattle.walkdir.proofs.WalkLemmas.{others_next, within_end}
use Rattle.walkdir.proofs.collect.collect.Goals as goal

pub returns : goal.returns
returns g c =
    let s = g.D.Disk.state c.args.disk.now in
    let mid = g.D.Disk.state c.collect_from-collected.new.disk in
    let last = g.D.Disk.state c.give_up.new.disk in
    let did = c.collect_from-collected.ensures in
    let closed = c.give_up.ensures in
    record {
      all = did.all;
      few = did.few;
      capped = λ failed. (let h = did.capped failed in let same = closed.listed in omega (arith, h, same));
      failed = did.failed;
      first_error = did.first_error;
      unlooped = did.unlooped;
      counted = λ fits. counts_closed g.D.Disk.tells s mid last (levels_of c.args.inside) (levels_of c.collect_from-collected.new.inside)
          c.collect_from-collected.result closed.faults (did.counted fits);
      others = others_next s mid last (levels_of c.args.inside) (levels_of c.collect_from-collected.new.inside) [] did.others closed.others;
      closed = within_end s mid last c.args.inside c.collect_from-collected.new.inside did.within closed.within;
      tree = record { tree = closed.tree.tree ∙ did.tree.tree; clock = closed.tree.clock ∙ did.tree.clock; outcomes = closed.tree.outcomes ∙ did.tree.outcomes };
      faults = (let a = did.faults in let b = closed.faults in omega (arith, a, b));
    }
