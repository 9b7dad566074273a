use Rattle.std.proofs.Common.{◌≡◌, ◌+◌, ◌∙◌, ℕ, [], sym, subst, arith}
use Rattle.std.specs.Prelude.{OnOk}
use Rattle.sd_io.specs.Count.{HasRisen}
use Rattle.walk_steps.specs.Inside.{levels_of}
use Rattle.walkdir.specs.Gather.{to_list_rest}
use Rattle.walkdir.proofs.WalkLemmas.{others_next, within_end}
use Rattle.walkdir.proofs.gather.CountLemmas.{counts_closed}
use Rattle.walkdir.proofs.gather.gather.Goals as goal

pub returns-clause-gathers : goal.returns-clause-gathers
returns-clause-gathers g c =
    let s = g.D.Disk.state c.args.disk.now in
    let t = g.D.Disk.state c.gather_from-gathered.new.disk in
    let u = g.D.Disk.state c.give_up.new.disk in
    let before = c.args.inside.now in
    let between = c.gather_from-gathered.new.inside in
    let from = c.gather_from-gathered.ensures in
    let closed = c.give_up.ensures in
    let result = c.gather_from-gathered.result in
    let out = g.P.Prunes.leaves_out c.args.prune.now in
    record {
      all = from.all;
      some = from.some;
      listed = λ told by rest compares has plain count whole quiet.
          subst (λ (n : ℕ). OnOk result (n ≡ s.listed + (count + to_list_rest out rest))) (sym closed.listed)
          (from.listed told by rest compares has plain count whole (λ risen. quiet (subst (HasRisen s.faults) (sym closed.faults) risen)));
      failed = from.failed;
      capped = λ failed. (let h = from.capped failed in let same = closed.listed in omega (arith, h, same));
      unlooped = from.unlooped;
      counted = λ fits. counts_closed g.D.Disk.tells s t u (levels_of before) (levels_of between) result closed.faults (from.counted fits);
      others = others_next s t u (levels_of before) (levels_of between) [] from.keeps.others closed.others;
      closed = within_end s t u before between from.keeps.within closed.within;
      tree = record { tree = closed.tree.tree ∙ from.keeps.tree.tree; clock = closed.tree.clock ∙ from.keeps.tree.clock; outcomes = closed.tree.outcomes ∙ from.keeps.tree.outcomes };
      faults = (let le = from.keeps.faults in let same = closed.faults in omega (arith, le, same));
      later = (let le = from.keeps.later in let same = closed.listed in omega (arith, le, same));
    }
