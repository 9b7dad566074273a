use Rattle.std.proofs.Common.{◌<◌, ℕ, length, slice_get, refl, sym, ap, ◌∙◌, arith}
use Rattle.std.proofs.lemmas.Option.{slice_get_read}
use Rattle.hir_tree.proofs.ranges.RangesLemmas.{ordered_at}
use Rattle.hir_tree.proofs.shared_bytes.SharedBytes.get.Goals as goal

pub overflow_cast-result : goal.overflow_cast-result
overflow_cast-result c =
    let within : c.args.i < length c.self.inside.ranges = omega (arith, c.requires, ap length c.self.view_is) in
    omega (
      arith,
      ap (λ (r : ℕ × ℕ). r.0) c.get-start.ensures,
      ordered_at c.self.inside.ranges c.self.invariant.0 c.args.i c.get-start.result within,
      c.self.invariant.1 c.args.i c.get-start.result within,
    )

pub returns : goal.returns
returns c =
    ap (λ rs. slice_get rs c.args.i) (sym c.self.view_is)
    ∙ slice_get_read c.self.inside.ranges _ c.args.i c.get-start.result refl (omega (arith, c.requires, ap length c.self.view_is)) c.get-start.ensures
