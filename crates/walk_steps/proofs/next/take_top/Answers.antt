use Rattle.std.proofs.Common.{Option, sym, subst, ◌∙◌}
use Rattle.std.specs.Prelude.{IfOk}
use Rattle.walk_rest.specs.declared.level.Level.{Level}
use Rattle.walk_steps.specs.Progress.{IsTurn}
use Rattle.walk_steps.specs.Sound.{IsSound, KeepsWalk}
use Rattle.walk_steps.proofs.next.TurnLemmas.{top_read, top_stands}
use Rattle.walk_steps.proofs.next.take_top.Goals as goal

pub take_due-requires-clause-sound : goal.take_due-requires-clause-sound
take_due-requires-clause-sound g c =
    let inside = c.args.inside.now in
    let P : Option Level → Type 0 = λ t. IsSound (g.D.Disk.state c.args.disk.now) (g.S.Order.sorts inside.order) (record inside { top = t }) in
    subst P (sym c.take.ensures.value ∙ c.in-Some.is) c.requires.sound

pub take_due-requires-clause-read : goal.take_due-requires-clause-read
take_due-requires-clause-read g c = top_read c.args.inside.now.top c.in-Some.level c.requires.read (sym c.take.ensures.value ∙ c.in-Some.is)

pub returns-in-Some-clause-turns : goal.returns-in-Some-clause-turns
returns-in-Some-clause-turns g c =
    let inside = c.args.inside.now in
    let P : Option Level → Type 0 = λ t. IfOk c.take_due.result (λ answer. IsTurn g.D.Disk.tells g.S.Order.sorts g.S.Order.compares_by (g.D.Disk.state c.args.disk.now) (record inside { top = t }) answer
    (g.D.Disk.state c.take_due.new.disk) c.take_due.new.inside) in
    subst P (sym (sym c.take.ensures.value ∙ c.in-Some.is)) c.take_due.ensures.turns

pub returns-in-Some-clause-keeps : goal.returns-in-Some-clause-keeps
returns-in-Some-clause-keeps g c =
    let inside = c.args.inside.now in
    let P : Option Level → Type 0 = λ t. KeepsWalk (g.D.Disk.state c.args.disk.now) (record inside { top = t }) (g.D.Disk.state c.take_due.new.disk) c.take_due.new.inside in
    subst P (sym (sym c.take.ensures.value ∙ c.in-Some.is)) c.take_due.ensures.keeps

pub returns-in-None-clause-turns : goal.returns-in-None-clause-turns
returns-in-None-clause-turns g c = absurd (top_stands c.args.inside.now.top c.requires.read (sym c.take.ensures.value ∙ c.in-None.is))

pub returns-in-None-clause-keeps : goal.returns-in-None-clause-keeps
returns-in-None-clause-keeps g c = absurd (top_stands c.args.inside.now.top c.requires.read (sym c.take.ensures.value ∙ c.in-None.is))
