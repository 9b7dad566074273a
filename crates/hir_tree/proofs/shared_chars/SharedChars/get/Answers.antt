use Rattle.std.proofs.Common.{◌<◌, ℕ, length, slice_get, option_map, refl, sym, ap, ◌∙◌, arith}
use Rattle.std.proofs.lemmas.List.{length-map}
use Rattle.std.proofs.lemmas.Option.{slice_get_read, slice_get-map}
use Rattle.hir_tree.specs.Ranges.{chars_between}
use Rattle.hir_tree.proofs.ranges.RangesLemmas.{ordered_at}
use Rattle.hir_tree.proofs.shared_chars.SharedChars.get.Goals as goal

pub char_at-requires : goal.char_at-requires
char_at-requires c =
    let within : c.args.i < length c.self.inside.ranges = omega (arith, c.requires, ap length c.self.view_is, length-map c.self.inside.ranges chars_between) in
    omega (
      arith,
      ap (λ (r : ℕ × ℕ). r.0) c.get-start.ensures,
      ordered_at c.self.inside.ranges c.self.invariant.0 c.args.i c.get-start.result within,
      c.self.invariant.1 c.args.i c.get-start.result within,
    )

pub returns : goal.returns
returns c =
    let within : c.args.i < length c.self.inside.ranges = omega (arith, c.requires, ap length c.self.view_is, length-map c.self.inside.ranges chars_between) in
    rw (c.char_at.ensures, c.char_at-2.ensures) (
    ap (λ rs. slice_get rs c.args.i) (sym c.self.view_is)
    ∙ slice_get-map chars_between c.self.inside.ranges c.args.i
    ∙ ap (option_map chars_between) (slice_get_read c.self.inside.ranges _ c.args.i c.get-start.result refl within c.get-start.ensures))
