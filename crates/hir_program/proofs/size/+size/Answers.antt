use Rattle.std.proofs.Common.{length, map, ap, ◌∙◌, arith}
use Rattle.std.proofs.lemmas.List.{length-map}
use Rattle.hir_tree.specs.Core.{numbers}
use Rattle.hir_tree.specs.Cores.{core_of}
use Rattle.hir_tree.specs.Hirs.{parts_of}
use Rattle.hir_program.specs.Laid.{total_numbers}
use Rattle.hir_tree.proofs.CoresLemmas.{core_concat, core_alternation}
use Rattle.hir_program.proofs.size.SizeLemmas.{row_total, choice_total}
use Rattle.hir_program.proofs.size.+size.Goals as goal

pub size-returns-in-Concat : goal.size-returns-in-Concat
size-returns-in-Concat t c =
    let parts = parts_of c.in-Concat.hirs in
    omega (
      arith,
      c.max.ensures,
      c.saturating_add-in-Concat.ensures,
      c.saturating_sub.ensures,
      c.total_size.ensures,
      ap (λ ps. total_numbers (map core_of ps)) c.parts-parts.ensures,
      ap length c.parts-parts.ensures,
      length-map parts core_of,
      row_total (map core_of parts),
      ap numbers (ap core_of c.in-Concat.is ∙ core_concat c.in-Concat.hirs),
    )

pub size-returns-in-Alternation : goal.size-returns-in-Alternation
size-returns-in-Alternation t c =
    let parts = parts_of c.in-Alternation.hirs in
    omega (
      arith,
      c.saturating_add-in-Alternation-2.ensures,
      c.saturating_add-in-Alternation.ensures,
      c.total_size-in-Alternation.ensures,
      ap (λ ps. total_numbers (map core_of ps)) c.parts-parts-in-Alternation.ensures,
      ap length c.parts-parts-in-Alternation.ensures,
      length-map parts core_of,
      choice_total (map core_of parts),
      ap numbers (ap core_of c.in-Alternation.is ∙ core_alternation c.in-Alternation.hirs),
    )
