use Rattle.std.proofs.Common.{◌∙◌, ap, sym, subst}
use Rattle.walk_rest.specs.Rest.{start}
use Rattle.walk_steps.specs.declared.inside.Inside.{Inside}
use Rattle.walk_steps.specs.Causes.{faults_due}
use Rattle.walk_steps.specs.Inside.{HasRest, levels_of}
use Rattle.walk_steps.specs.Listed.{IsToListOnTop, waits_in}
use Rattle.walk_steps.specs.Sound.{IsSound, opens}
use Rattle.walkdir.proofs.WalkLemmas.{begun_due, begun_opens, begun_rest, begun_sound, begun_to_list, begun_waits}
use Rattle.walkdir.proofs.walk_dir.WalkDir.into_iter.Goals as goal

pub returns-clause-order : goal.returns-clause-order
returns-clause-order g c = ap (λ (inside : Inside _). inside.order) c.new.ensures.inside ∙ c.begun.ensures.order_is

pub returns-clause-options : goal.returns-clause-options
returns-clause-options g c = ap (λ (inside : Inside _). inside.options) c.new.ensures.inside ∙ c.begun.ensures.options_are

pub returns-clause-rest : goal.returns-clause-rest
returns-clause-rest g c = λ by plan planned.
    let s = g.D.Disk.state c.args.disk.now in
    subst (λ (inside : Inside _). HasRest s (g.S.Order.sorts c.args.self.order) by inside (start plan)) (sym c.new.ensures.inside)
    (begun_rest s (g.S.Order.sorts c.args.self.order) by c.args.self.options c.args.self.order c.args.self.root c.begun.result plan c.begun.ensures planned)

pub returns-clause-sound : goal.returns-clause-sound
returns-clause-sound g c =
    let s = g.D.Disk.state c.args.disk.now in
    subst (λ (inside : Inside _). IsSound s (g.S.Order.sorts c.args.self.order) inside) (sym c.new.ensures.inside)
    (begun_sound s (g.S.Order.sorts c.args.self.order) c.args.self.options c.args.self.order c.args.self.root c.begun.result c.begun.ensures)

pub returns-clause-none_open : goal.returns-clause-none_open
returns-clause-none_open g c =
    ap (λ (inside : Inside _). opens (levels_of inside)) c.new.ensures.inside ∙ begun_opens c.args.self.options c.args.self.order c.args.self.root c.begun.result c.begun.ensures

pub returns-clause-none_waits : goal.returns-clause-none_waits
returns-clause-none_waits g c =
    ap (λ (inside : Inside _). waits_in (levels_of inside)) c.new.ensures.inside ∙ begun_waits c.args.self.options c.args.self.order c.args.self.root c.begun.result c.begun.ensures

pub returns-clause-none_due : goal.returns-clause-none_due
returns-clause-none_due g c =
    ap (λ (inside : Inside _). faults_due (levels_of inside)) c.new.ensures.inside ∙ begun_due c.args.self.options c.args.self.order c.args.self.root c.begun.result c.begun.ensures

pub returns-clause-none_to_list : goal.returns-clause-none_to_list
returns-clause-none_to_list g c = λ tree deepest.
    subst (λ (inside : Inside _). IsToListOnTop tree deepest inside.top 0) (sym c.new.ensures.inside)
    (begun_to_list tree deepest c.args.self.options c.args.self.order c.args.self.root c.begun.result c.begun.ensures)
