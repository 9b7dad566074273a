use Rattle.std.proofs.Common.{sym, ap, ◌∙◌, inl, inr}
use Rattle.std.specs.List.{list_all}
use Rattle.hir_tree.specs.Onward.{looks_nowhere_of}
use Rattle.hir_tree.proofs.onward.OnwardLemmas.{nowhere-concat, nowhere-alternation}
use Rattle.hir_tree.proofs.onward.+nowhere.Goals as goal

pub looks_nowhere-returns-in-Concat : goal.looks_nowhere-returns-in-Concat
looks_nowhere-returns-in-Concat t c =
    let told = c.all_look_nowhere.ensures ∙ ap (list_all looks_nowhere_of) c.parts.ensures in
    elim c.in-Concat.is [
      | inl concat ↦ told ∙ sym (ap looks_nowhere_of concat ∙ nowhere-concat c.in-Concat.hirs)
      | inr alternation ↦ told ∙ sym (ap looks_nowhere_of alternation ∙ nowhere-alternation c.in-Concat.hirs)
    ]
