use Rattle.std.proofs.Common.{◌≡◌, ◌+◌, ◌++◌, List, Option, refl, sym, subst, ◌∙◌, ap, arith, append-nil}
use Rattle.walk_rest.specs.declared.level.Level.{Level}
use Rattle.walk_steps.specs.Inside.{levels_of, top_levels}
use Rattle.walk_steps.specs.Sound.{AreApart, AreSound, opens, open_in}
use Rattle.walk_steps.proofs.leave.SoundLemmas.{sound_split, sound_one, sound_kept, opens_snoc}
use Rattle.walk_steps.proofs.leave.OthersLemmas.{others_closed, others_on}
use Rattle.walk_steps.proofs.leave.WithinLemmas.{within_fewer, within_on}
use Rattle.walk_steps.proofs.next.StepLemmas.{top_is, no_items}
use Rattle.walk_steps.proofs.leave.give_up.Goals as goal
use Rattle.walk_steps.proofs.leave.give_up.Goals.{in-Some, in_default}

pub close_level-requires : goal.close_level-requires
close_level-requires g c =
    let s = g.D.Disk.state c.args.disk.now in
    let xs : List Level = c.args.inside.now.stack.items in
    let level = c.in-Some.level in
    let was = top_is c.args.inside.now level (sym c.take.ensures.value ∙ c.in-Some.is) in
    sound_one s level (sound_split s xs level (subst (AreSound s) was c.requires)).1

pub loop-level-init : goal.loop-level-init
loop-level-init g c = elim c.match-take.branch [
  | in-Some w ↦
      (let s = g.D.Disk.state c.args.disk.now in
      let last = g.D.Disk.state w.close_level.new.disk in
      let xs : List Level = c.args.inside.now.stack.items in
      let level = w.in-Some.level in
      let was = top_is c.args.inside.now level (sym c.take.ensures.value ∙ w.in-Some.is) in
      let parts = sound_split s xs level (subst (AreSound s) was c.requires) in
      let closed = w.close_level.ensures in
      let few : opens (levels_of c.args.inside.now) ≡ opens xs + open_in level.entries = ap opens was ∙ opens_snoc xs level in
      rw w.disk-is (record {
        top = c.take.ensures.after;
        sound = sound_kept s last level.entries xs parts.0 parts.2 closed.others;
        same = record { options = refl; order = refl; root = refl };
        within = within_fewer 0 s last (levels_of c.args.inside.now) xs (let k = closed.count in omega (arith, k, few)) closed.most;
        others = λ number apart is. others_closed s last xs level closed.others number (subst (AreApart number) was apart) is;
        listed = closed.listed;
        tree = closed.tree;
        faults = closed.faults;
      }))
  | in_default w ↦
      (let s = g.D.Disk.state c.args.disk.now in
      let xs : List Level = c.args.inside.now.stack.items in
      let was : levels_of c.args.inside.now ≡ xs = ap (λ (t : Option Level). xs ++ top_levels t) (sym c.take.ensures.value ∙ w.in_default.is) ∙ append-nil xs in
      let few = ap opens was in
      rw w.disk-is (record {
        top = c.take.ensures.after;
        sound = subst (AreSound s) was c.requires;
        same = record { options = refl; order = refl; root = refl };
        within = within_fewer 0 s s (levels_of c.args.inside.now) xs (omega (arith, few)) refl;
        others = λ number apart is. (refl, subst (AreApart number) was apart);
        listed = refl;
        tree = record { tree = refl; clock = refl; outcomes = refl };
        faults = refl;
      }))
]

pub close_level-requires-in-Some-pop : goal.close_level-requires-in-Some-pop
close_level-requires-in-Some-pop g c =
    let s = g.D.Disk.state c.loop-level.disk in
    let left : List Level = c.pop.new.self.items in
    let level = c.in-Some-pop.level in
    sound_one s level (sound_split s left level (subst (AreSound s) c.in-Some-pop.ensures.items c.loop-level.invariant.sound)).1

pub loop-level-preserved : goal.loop-level-preserved
loop-level-preserved g c =
    let s = g.D.Disk.state c.loop-level.disk in
    let last = g.D.Disk.state c.close_level-in-Some-pop.new.disk in
    let left : List Level = c.pop.new.self.items in
    let level = c.in-Some-pop.level in
    let parts = sound_split s left level (subst (AreSound s) c.in-Some-pop.ensures.items c.loop-level.invariant.sound) in
    let closed = c.close_level-in-Some-pop.ensures in
    let inv = c.loop-level.invariant in
    let few : opens c.loop-level.inside.stack.items ≡ opens left + open_in level.entries = ap opens c.in-Some-pop.ensures.items ∙ opens_snoc left level in
    record {
      top = inv.top;
      sound = sound_kept s last level.entries left parts.0 parts.2 closed.others;
      same = record { options = inv.same.options; order = inv.same.order; root = inv.same.root };
      within = within_on 0 (g.D.Disk.state c.args.disk.now) s last (levels_of c.args.inside.now) c.loop-level.inside.stack.items left inv.within
          (within_fewer 0 s last c.loop-level.inside.stack.items left (let k = closed.count in omega (arith, k, few)) closed.most);
      others = others_on (g.D.Disk.state c.args.disk.now) s last (levels_of c.args.inside.now) c.loop-level.inside.stack.items left inv.others
          (λ number apart is. others_closed s last left level closed.others number (subst (AreApart number) c.in-Some-pop.ensures.items apart) is);
      listed = closed.listed ∙ inv.listed;
      tree = record { tree = closed.tree.tree ∙ inv.tree.tree; clock = closed.tree.clock ∙ inv.tree.clock; outcomes = closed.tree.outcomes ∙ inv.tree.outcomes };
      faults = closed.faults ∙ inv.faults;
    }

pub returns-clause-within : goal.returns-clause-within
returns-clause-within g c =
    let none = ap opens (no_items c.loop-level.inside.stack.items (let z = c.in_default-pop.ensures.cases.0 in omega (arith, z, c.loop-level.inside.stack.ok.0))) in
    λ others e. let w = c.loop-level.invariant.within others e in (rw (← none) w.0, w.1)

pub returns-clause-others : goal.returns-clause-others
returns-clause-others g c = λ number apart is. ((c.loop-level.invariant.others number apart is).0, tt)
