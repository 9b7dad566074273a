use Rattle.std.proofs.Common.{ℕ, ◌+◌, arith}
use Rattle.hir_program.proofs.scan.ScanLemmas.{NoneBegins-more, NoneBegins-unasked}
use Rattle.hir_program.proofs.scan.Scan.next_line.Goals as goal

pub loop-place-init : goal.loop-place-init
loop-place-init c = record {
  none =
      NoneBegins-unasked c.args.text.now c.args.self.now c.requires.look c.args.at c.line_start-place.result c.line_start-place.ensures.passed;
  after = omega arith;
  within = omega arith;
}

pub loop-place-preserved : goal.loop-place-preserved
loop-place-preserved c =
    let text = c.args.text.now in
    let filter = c.args.self.now in
    let place : ℕ = c.loop-place.place in
    let next : ℕ = c.line_start-place-in-loop-place.result in
    let later =
    NoneBegins-more text filter place (place + 1) next (c.may_start.ensures c.if-not-may_start.true)
    (NoneBegins-unasked text filter c.requires.look (place + 1) next c.line_start-place-in-loop-place.ensures.passed) in
    record {
      none = NoneBegins-more text filter c.args.at place next c.loop-place.invariant.none later;
      after = omega arith;
      within = omega arith;
    }
