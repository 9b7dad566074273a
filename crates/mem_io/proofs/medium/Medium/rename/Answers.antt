use Rattle.std.proofs.Common.{◌∙◌, refl, sym, ap, subst, ℕ, List, [], ◌∷◌, ◌++◌}
use Rattle.sd_io.specs.Tree.{NameList}
use Rattle.mem_io.specs.MemTreeView.{mem_tree}
use Rattle.mem_io.specs.declared.log.Change.{Change}
use Rattle.mem_io.specs.declared.log.Change.TheVariants as change
use Rattle.mem_io.specs.Log.{IsKept, after_move_on}
use Rattle.mem_io.specs.MemTree.{dev_at}
use Rattle.mem_io.specs.Medium.{changes_of, outcomes_told}
use Rattle.mem_io.proofs.log.ChangeLemmas.{move_keeps}
use Rattle.mem_io.proofs.log.OwnDeviceLemmas.{moves_with_device}
use Rattle.mem_io.proofs.medium.MediumLemmas.{one_place, two_places, moves_nowhere, kept_after}
use Rattle.mem_io.proofs.medium.Medium.rename.Goals as goal

pub returns-then-eq-clause-moved : goal.returns-then-eq-clause-moved
returns-then-eq-clause-moved c = moves_nowhere (mem_tree c.args.self.now.tree) c.args.from c.args.to (one_place c.args.from c.args.to _ c.eq.ensures c.if-eq.true)

pub returns-then-eq-clause-noted : goal.returns-then-eq-clause-noted
returns-then-eq-clause-noted c = record {
  noted = λ two. absurd (two (one_place c.args.from c.args.to _ c.eq.ensures c.if-eq.true));
  same = λ e. record { tree = refl; first = refl; changes = refl; number = refl };
}

pub invariant_of-self-2 : goal.invariant_of-self-2
invariant_of-self-2 c =
    let self = c.args.self.now in
    let old = mem_tree self.tree in
    let two = two_places c.args.from c.args.to _ c.eq.ensures c.if-eq.false in
    let kept = move_keeps old (mem_tree c.rename.new.self) c.args.from c.args.to _ two c.requires.is_file c.requires.is_place c.requires.may_come c.in_ok-rename.ensures.moved self.kept in
    let told = subst (IsKept (mem_tree c.rename.new.self)) (sym (moves_with_device old c.args.from c.args.to (outcomes_told self) self.kept c.requires.is_file)) kept in
    record {
      kept = kept_after _ _ _ _ _ _ _ _ c.reserve.ensures.first c.note.ensures.first c.reserve.ensures.kept c.note.ensures.noted
          (subst (λ (dev : ℕ). IsKept (mem_tree c.rename.new.self) (after_move_on c.args.from c.in_ok-target.target dev (outcomes_told self))) (sym c.dev-dev.ensures)
          (subst (λ (q : NameList). IsKept (mem_tree c.rename.new.self) (after_move_on c.args.from q (dev_at old c.args.from) (outcomes_told self))) (sym c.in_ok-target.ensures) told));
    }

pub returns-clause-noted : goal.returns-clause-noted
returns-clause-noted c =
    let self = c.args.self.now in
    record {
      noted = λ two. record {
        first = c.note.ensures.first ∙ c.reserve.ensures.first;
        noted =
            c.note.ensures.noted ∙ ap (λ (cs : List Change). cs ++ change.Moved c.args.from c.in_ok-target.target c.dev-dev.result ∷ []) c.reserve.ensures.kept
            ∙ (λ i. changes_of self ++ change.Moved c.args.from (c.in_ok-target.ensures i) (c.dev-dev.ensures i) ∷ []);
      };
      same = λ e. absurd (two_places c.args.from c.args.to _ c.eq.ensures c.if-eq.false e);
    }
