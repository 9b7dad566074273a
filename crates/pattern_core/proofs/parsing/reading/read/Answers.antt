use Rattle.std.proofs.Common.{refl, arith}
use Rattle.std.proofs.lemmas.List.{nil_from_length}
use Rattle.pattern_core.proofs.parsing.ReachLemmas.{begun_first, begun_on_to, begun_stuck, begun_open, begun_end, passed_on}
use Rattle.pattern_core.proofs.parsing.reading.read.Goals as goal

pub loop-state-init : goal.loop-state-init
loop-state-init c = begun_first c.args.limit c.args.text.now c.args.flags c.new-state.result (c.new-state.ensures.is c.args.limit) c.new-state.ensures.place

pub loop-state-preserved : goal.loop-state-preserved
loop-state-preserved c =
    begun_on_to c.args.limit c.args.text.now c.args.flags c.loop-state.state c.in_ok-state.state c.loop-state.invariant c.in_ok-state.ensures

pub returns-in_err-state : goal.returns-in_err-state
returns-in_err-state c =
    let e = c.in_err-state.field-0.0 in
    passed_on c.args.limit c.args.text.now c.args.flags c.from_residual.result e c.from_residual.ensures.1
    (begun_stuck c.args.limit c.args.text.now c.args.flags c.loop-state.state e c.loop-state.invariant c.in_err-state.ensures)

pub returns-then-not-is_empty : goal.returns-then-not-is_empty
returns-then-not-is_empty c =
    begun_open c.args.limit c.args.text.now c.args.flags c.loop-state.state c.loop-state.invariant (omega arith)
    (grind (arith, c.loop-state.state.frames.ok.0, c.if-not-is_empty.ensures))

pub returns : goal.returns
returns c =
    begun_end c.args.limit c.args.text.now c.args.flags c.loop-state.state _ c.loop-state.invariant (omega arith)
    (nil_from_length _ (grind (arith, c.loop-state.state.frames.ok.0, c.if-not-is_empty.ensures))) c.in_ok-finished.ensures refl refl refl
