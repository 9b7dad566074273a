use Rattle.std.proofs.Common.{◌≡◌, ℕ, slice_index, Option, sym, ap, ◌∙◌, subst, arith}
use Rattle.hir_core.specs.Sizes.{IsSizeTaken}
use Rattle.hir_program.specs.Masks.{takes_byte}
use Rattle.hir_program.specs.Program.{spot_at}
use Rattle.hir_program.specs.declared.spot.Spot.TheVariants as spot
use Rattle.hir_core.proofs.block.SizeLemmas.{one_if, size-of-ascii, size-of-bytes, size-of-chars}
use Rattle.hir_core.proofs.block.taken_size.Goals.{then-takes, else-takes}
use Rattle.hir_core.proofs.block.taken_size.Goals as goal

pub returns : goal.returns
returns c =
    let text = c.args.text.now in
    let s = spot_at c.args.spots.now c.args.spot in
    let byte : ℕ = c.in-Some.byte.now in
    let takes = c.in-Some-takes_ascii.takes in
    let look = c.in-Some.ensures.lookup.3 in
    let read : slice_index text c.args.at ≡ byte = sym (look.1 0) in
    let says = c.in-Some-takes_ascii.ensures in
    let size : IsSizeTaken text s c.args.at (one_if takes) =
    size-of-ascii text s c.args.at takes look.0 (let low = says.0 in omega (arith, read, low))
    (λ taker. says.1 c.args.spots.now c.requires.filters taker ∙ ap (takes_byte s) (sym read)) in
    elim c.if-takes.branch [
      | then-takes w ↦ subst (λ (o : Option ℕ). IsSizeTaken text s c.args.at o) (ap one_if w.if-takes.true ∙ sym w.result-is) size
      | else-takes w ↦ subst (λ (o : Option ℕ). IsSizeTaken text s c.args.at o) (ap one_if w.if-takes.false ∙ sym w.result-is) size
    ]

pub returns-in-Bytes : goal.returns-in-Bytes
returns-in-Bytes c =
    size-of-bytes c.args.text.now _ c.in-Bytes.set c.in-Bytes.next c.args.at c.byte_size.result
    (sym (c.in_ok-here.ensures.lookup.3.1 spot.Fail) ∙ c.in-Bytes.is) c.byte_size.ensures

pub returns-in-Chars : goal.returns-in-Chars
returns-in-Chars c =
    size-of-chars c.args.text.now _ c.in-Chars.set c.in-Chars.next c.args.at c.char_size.result
    (sym (c.in_ok-here.ensures.lookup.3.1 spot.Fail) ∙ c.in-Chars.is) c.char_size.ensures
