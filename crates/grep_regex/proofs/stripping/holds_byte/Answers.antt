use Rattle.std.proofs.Common.{ℕ, sym, ◌∙◌, eq-eqb, arith}
use Rattle.std.specs.Prelude.{◌==◌}
use Rattle.std.proofs.lemmas.Bool.{ne_eqb}
use Rattle.std.proofs.lemmas.List.Folds.{list_any_at}
use Rattle.std.proofs.lemmas.Option.{get_or_from_slice_get}
use Rattle.grep_regex.proofs.stripping.WalkLemmas.{any-next}
use Rattle.grep_regex.proofs.stripping.holds_byte.Goals as goal

pub returns-then-get-byte : goal.returns-then-get-byte
returns-then-get-byte c =
    let here = get_or_from_slice_get c.args.bytes.now c.loop-i.i c.get.result 0 c.get.ensures in
    sym (list_any_at (λ (n : ℕ). n == c.args.byte) c.args.bytes.now c.loop-i.i 0 (omega (arith, c.loop-i-test.true, c.len-i-end.ensures)) (eq-eqb _ _ (here ∙ c.if-get-byte.true)))

pub loop-i-preserved : goal.loop-i-preserved
loop-i-preserved c =
    let here = get_or_from_slice_get c.args.bytes.now c.loop-i.i c.get.result c.get.result c.get.ensures in
    any-next (λ (n : ℕ). n == c.args.byte) c.args.bytes.now c.loop-i.i c.get.result (omega (arith, c.loop-i-test.true, c.len-i-end.ensures)) (sym here) c.loop-i.invariant
    (ne_eqb _ _ c.if-get-byte.false)
