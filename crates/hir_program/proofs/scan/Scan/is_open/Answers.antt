use Rattle.std.proofs.Common.{bit_and, arith}
use Rattle.hir_program.proofs.scan.ScanLemmas.{AreDead-closed, zero_where}
use Rattle.hir_program.proofs.scan.Scan.is_open.Goals as goal

pub returns : goal.returns
returns c fails spots filter =
    AreDead-closed c.args.text.now spots c.args.self.now filter c.args.place c.args.mask c.open_at.result (λ within. omega (arith, c.type_inv.text c.args.place)) c.open_at.ensures
    (zero_where (bit_and c.args.mask c.open_at.result) fails)
