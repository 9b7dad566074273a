use Rattle.std.proofs.Common.{slice_index, sym, ap, ◌∙◌, true≢false}
use Rattle.hir_program.specs.Masks.{is_reached}
use Rattle.hir_program.proofs.scan.reach.DeadLemmas.{CoversBeside-reached}
use Rattle.hir_program.proofs.scan.reach.mask_beside.Goals as goal

pub returns-then-reached_match : goal.returns-then-reached_match
returns-then-reached_match c =
    CoversBeside-reached c.args.spots.now c.args.of.now c.args.shut c.in_ok-reached.reached.items _ c.args.from c.requires.all c.in_ok-reached.ensures.closed
    c.in_ok-reached.ensures.from
    (λ i lt r. c.with_bit.ensures.kept i (c.reached_bits-mask.ensures i lt (ap (λ rs. is_reached rs (slice_index c.args.of.now i)) c.as_slice.ensures.value ∙ r)))
    (λ q e r. c.with_bit.ensures.set)

pub returns : goal.returns
returns c =
    CoversBeside-reached c.args.spots.now c.args.of.now c.args.shut c.in_ok-reached.reached.items _ c.args.from c.requires.all c.in_ok-reached.ensures.closed
    c.in_ok-reached.ensures.from
    (λ i lt r. c.reached_bits-mask.ensures i lt (ap (λ rs. is_reached rs (slice_index c.args.of.now i)) c.as_slice.ensures.value ∙ r))
    (λ q e r. absurd (true≢false (sym (c.reached_match.ensures q e (ap (λ rs. is_reached rs q) c.as_slice-2.ensures.value ∙ r)) ∙ c.if-reached_match.false)))
