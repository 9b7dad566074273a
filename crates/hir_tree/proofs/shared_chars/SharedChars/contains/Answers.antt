use Rattle.std.proofs.Common.{sym, ap, ap₂, ◌∙◌}
use Rattle.hir_tree.specs.Runs.{in_set}
use Rattle.hir_tree.proofs.ranges.SortedLemmas.{in_set-chars}
use Rattle.hir_tree.proofs.shared_chars.SharedChars.contains.Goals as goal

pub returns : goal.returns
returns c =
    c.holds_number.ensures
    ∙ ap (λ ranges. in_set ranges c.number_of.result) c.as_slice.ensures.value
    ∙ sym (in_set-chars c.self.inside.ranges c.number_of.result)
    ∙ ap₂ in_set c.self.view_is c.number_of.ensures.number
