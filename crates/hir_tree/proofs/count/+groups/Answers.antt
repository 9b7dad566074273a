use Rattle.std.proofs.Common.{map, sym, ap, ◌∙◌, inl, inr}
use Rattle.hir_tree.specs.Spots.{greatest, groups_of}
use Rattle.hir_tree.proofs.count.SpotsLemmas.{groups_concat, groups_alternation}
use Rattle.hir_tree.proofs.count.+groups.Goals as goal

pub group_count-returns-in-Concat : goal.group_count-returns-in-Concat
group_count-returns-in-Concat t c =
    let counted = c.greatest_index.ensures ∙ ap (λ parts. greatest (map groups_of parts)) c.parts.ensures in
    elim c.in-Concat.is [
      | inl concat ↦ counted ∙ sym (ap groups_of concat ∙ groups_concat c.in-Concat.hirs)
      | inr alternation ↦ counted ∙ sym (ap groups_of alternation ∙ groups_alternation c.in-Concat.hirs)
    ]
