use Rattle.std.proofs.Common.{refl, arith}
use Rattle.pattern_syntax.specs.ClassReading.{operation_of}
use Rattle.pattern_syntax.proofs.classes.KeepLemmas.{operate_keeps}
use Rattle.pattern_syntax.proofs.classes.steps.operate.Goals as goal

pub returns : goal.returns
returns c =
    operate_keeps c.args.flags c.args.text.now c.args.reading _ (operation_of c.args.operation) refl c.in_ok-with_operation.ensures
    c.requires.0 (omega arith, c.requires.1)
