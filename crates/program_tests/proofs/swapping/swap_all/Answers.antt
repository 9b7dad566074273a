use Rattle.std.proofs.Common.{rules, ◌<◌, length, arith, sym}
use Rattle.program_tests.proofs.swapping.SwappedLemmas.{swapped-found, spans-found, one_more}
use Rattle.program_tests.proofs.swapping.swap_all.Goals as goal

pub loop-first-preserved-then-starts_with : goal.loop-first-preserved-then-starts_with
loop-first-preserved-then-starts_with c =
    let swap = c.args.swap.now in
    let rest = c.loop-first.rest.now in
    let some : 0 < length rest = search rules in
    let starts = sym c.if-starts_with.ensures.value in
    let found = swapped-found swap.find.now swap.with.now rest _ swap.some some starts c.split_at.ensures.back in
    let counted = spans-found swap.find.now rest _ swap.some some starts c.split_at.ensures.back in
    record {
      bytes = one_more _ _ _ _ _ _ c.in_ok-extend_from_slice.ensures.items found c.loop-first.invariant.bytes;
      counted = omega (arith, counted, c.loop-first.invariant.counted);
      few = omega (arith, swap.some, c.split_at.ensures.back_len, c.loop-first.invariant.few);
    }
