use Rattle.std.proofs.Common.{length, [], refl, sym, ap, true≢false, arith}
use Rattle.std.specs.List.{sum_by}
use Rattle.std.proofs.lemmas.List.Sums.{sum-map, sum_by_more, sum_by_more_le}
use Rattle.std.proofs.lemmas.Option.{get_or_from_slice_get}
use Rattle.std.proofs.lemmas.List.{take_all}
use Rattle.grep_regex.proofs.fitting.fit_together.Goals as goal

pub loop-i-init : goal.loop-i-init
loop-i-init c = refl

pub loop-i-preserved : goal.loop-i-preserved
loop-i-preserved c =
    let texts = c.args.patterns.now in
    let here = get_or_from_slice_get texts c.loop-i.i c.get-bytes.result.now [] c.get-bytes.ensures.same in
    let more = sum_by_more length texts c.loop-i.i [] (omega (arith, c.loop-i-test.true, c.len-i-end.ensures)) in
    omega (arith, c.loop-i.invariant, more, ap length here, c.if-bytes-room.false)

pub returns-then-bytes-room : goal.returns-then-bytes-room
returns-then-bytes-room c =
    let texts = c.args.patterns.now in
    let here = get_or_from_slice_get texts c.loop-i.i c.get-bytes.result.now [] c.get-bytes.ensures.same in
    let within = sum_by_more_le length texts c.loop-i.i [] (omega (arith, c.loop-i-test.true, c.len-i-end.ensures)) in
    ((λ no. absurd (true≢false (sym no))), (λ fits. absurd (omega (arith, sum-map length texts, fits, within, ap length here, c.loop-i.invariant, c.if-bytes-room.true))))

pub returns : goal.returns
returns c =
    let texts = c.args.patterns.now in
    let all = take_all c.loop-i.i texts (omega (arith, c.loop-i-test.false, c.len-i-end.ensures)) in
    ((λ _. omega (arith, sum-map length texts, ap (sum_by length) all, c.loop-i.invariant)), (λ _. refl))
