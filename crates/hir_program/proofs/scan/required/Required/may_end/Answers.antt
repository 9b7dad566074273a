use Rattle.std.proofs.Common.{◌^◌}
use Rattle.std.proofs.lemmas.Bool.{leb-false}
use Rattle.hir_program.specs.Masks.{match_bit}
use Rattle.hir_program.proofs.scan.bits.MaskLemmas.{HasBit-above}
use Rattle.hir_program.proofs.scan.required.Required.may_end.Goals as goal

pub returns : goal.returns
returns c small = HasBit-above c.args.self.before match_bit (leb-false (2 ^ 63) c.args.self.before small)
