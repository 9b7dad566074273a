use Rattle.std.proofs.Common.{ℕ, ◌-◌, [], None, Some, length, replicate, sym, ap, ◌∙◌}
use Rattle.std.proofs.lemmas.List.{length-replicate}
use Rattle.hir_tree.specs.PlainText.{text_groups}
use Rattle.hir_core.proofs.line_start.LineStartLemmas.{groups-least, empty-spans}
use Rattle.hir_core.proofs.line_start.search.Goals as goal

pub returns-in-Some-clause-found : goal.returns-in-Some-clause-found
returns-in-Some-clause-found c =
    let groups = length c.args.slots.now - 1 in (
      text_groups [] groups c.in-Some.place,
      groups-least groups c.args.text.now c.args.at (length c.args.text.now) (Some c.in-Some.place) c.in-Some.ensures,
      empty-spans (length c.args.slots.now) c.in-Some.place c.set_whole.new.self c.requires.some c.set_whole.ensures,
    )

pub returns-in-None-clause-found : goal.returns-in-None-clause-found
returns-in-None-clause-found c =
    let kept = ap length c.unset_all.ensures ∙ length-replicate (length c.args.slots.now) None in (
      groups-least (length c.args.slots.now - 1) c.args.text.now c.args.at (length c.args.text.now) None c.in-None.ensures,
      c.unset_all.ensures ∙ ap (λ (n : ℕ). replicate n None) (sym kept),
    )
