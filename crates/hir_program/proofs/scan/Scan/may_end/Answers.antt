use Rattle.std.proofs.Common.{◌≡◌, ℕ, ◌^◌, ◌<◌, false, bit_and, arith}
use Rattle.std.specs.Prelude.{nat_le}
use Rattle.std.proofs.lemmas.Bool.Decides.{nat_tests}
use Rattle.hir_program.proofs.scan.ScanLemmas.{NoEnd-closed}
use Rattle.hir_program.proofs.scan.Scan.may_end.Goals as goal

below : (n : ℕ) → nat_le (2 ^ 62) n ≡ false → n < 2 ^ 62
below n e = grind (arith, nat_tests)

pub returns : goal.returns
returns c fails =
    NoEnd-closed c.args.text.now c.args.place c.args.self.now c.args.state c.open_at.result c.open_at.ensures (below (bit_and c.args.state c.open_at.result) fails)
