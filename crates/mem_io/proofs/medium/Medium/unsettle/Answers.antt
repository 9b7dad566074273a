use Rattle.std.proofs.Common.{◌∙◌, refl, sym, ap, subst, ℕ, inr, List, [], ◌∷◌, ◌++◌}
use Rattle.mem_io.specs.MemTreeView.{mem_tree}
use Rattle.mem_io.specs.declared.log.Change.{Change}
use Rattle.mem_io.specs.declared.log.Change.TheVariants as change
use Rattle.mem_io.specs.Log.{IsKept, after_no_move_on}
use Rattle.mem_io.specs.Medium.{changes_of, outcomes_told}
use Rattle.mem_io.proofs.log.ChangeLemmas.{no_move_keeps}
use Rattle.mem_io.proofs.log.OwnDeviceLemmas.{stays_with_device}
use Rattle.mem_io.proofs.medium.MediumLemmas.{one_place, two_places, kept_after}
use Rattle.mem_io.proofs.medium.Medium.unsettle.Goals as goal

pub returns-then-eq-clause-unsettled : goal.returns-then-eq-clause-unsettled
returns-then-eq-clause-unsettled c =
    let can = rw c.in-Some.is at c.in_ok-source.ensures.can in
    inr (record {
      source = c.in-Some.source;
      target = c.in-Some.target;
      can = can;
      notes = record {
        noted = λ two. absurd (two (one_place c.in-Some.source c.in-Some.target _ c.eq.ensures c.if-eq.true));
        same = λ e. record { tree = refl; first = refl; changes = refl; number = refl };
      };
    })

pub invariant_of-self-2 : goal.invariant_of-self-2
invariant_of-self-2 c =
    let self = c.args.self.now in
    let tree = mem_tree self.tree in
    let can = rw c.in-Some.is at c.in_ok-source.ensures.can in
    let two = two_places c.in-Some.source c.in-Some.target _ c.eq.ensures c.if-eq.false in
    let kept = no_move_keeps tree c.in-Some.source c.in-Some.target _ two can.is_file can.is_place can.may_come self.kept in
    let told = subst (IsKept tree) (sym (stays_with_device tree c.in-Some.source c.in-Some.target (outcomes_told self) self.kept can.is_file)) kept in
    record {
      kept = kept_after _ _ _ _ _ _ _ _ c.reserve.ensures.first c.note.ensures.first c.reserve.ensures.kept c.note.ensures.noted
          (subst (λ (dev : ℕ). IsKept tree (after_no_move_on c.in-Some.source c.in-Some.target dev (outcomes_told self))) (sym c.dev-dev.ensures) told);
    }

pub returns-clause-unsettled : goal.returns-clause-unsettled
returns-clause-unsettled c =
    let self = c.args.self.now in
    let can = rw c.in-Some.is at c.in_ok-source.ensures.can in
    inr (record {
      source = c.in-Some.source;
      target = c.in-Some.target;
      can = can;
      notes = record {
        noted = λ two. record {
          tree = refl;
          noted = record {
            first = c.note.ensures.first ∙ c.reserve.ensures.first;
            noted =
                c.note.ensures.noted ∙ ap (λ (cs : List Change). cs ++ change.NotMoved c.in-Some.source c.in-Some.target c.dev-dev.result ∷ []) c.reserve.ensures.kept
                ∙ (λ i. changes_of self ++ change.NotMoved c.in-Some.source c.in-Some.target (c.dev-dev.ensures i) ∷ []);
          };
          number = refl;
        };
        same = λ e. absurd (two_places c.in-Some.source c.in-Some.target _ c.eq.ensures c.if-eq.false e);
      };
    })
