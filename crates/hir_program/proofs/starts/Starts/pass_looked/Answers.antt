use Rattle.std.proofs.Common.{ℕ, ◌+◌, arith}
use Rattle.hir_program.proofs.ScanLemmas.{NoRun-begins, NoRun-more}
use Rattle.hir_program.proofs.starts.Starts.pass_looked.Goals as goal

pub loop-self-init : goal.loop-self-init
loop-self-init c = record { none = λ spots filter groups q low high. absurd (omega arith); after = omega arith; within = omega arith }

pub loop-self-preserved : goal.loop-self-preserved
loop-self-preserved c =
    let text = c.args.text.now in
    let place : ℕ = c.loop-self.self.place in
    record {
      none = λ spots filter.
          NoRun-more text spots c.args.self.now.place place (place + 1) (c.loop-self.invariant.none spots filter)
          (NoRun-begins text c.args.filter.now place (place + 1) (c.may_start.ensures c.if-not-may_start.true) spots filter);
      after = omega arith;
      within = omega arith;
    }
