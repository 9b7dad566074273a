use Rattle.pattern_syntax.proofs.classes.KeepLemmas.{read_at}
use Rattle.std.proofs.Common.{◌+◌, ◌<◌, length, arith}
use Rattle.pattern_syntax.proofs.classes.ReadLemmas.{operation_end, operation_other}
use Rattle.pattern_syntax.proofs.classes.steps.operation_at.Goals as goal
use Rattle.pattern_syntax.proofs.classes.steps.operation_at.Goals.{then-at-text-via-then-at-text, then-at-text-via-else-at-text+then-text-at}

pub returns-then-at-text : goal.returns-then-at-text
returns-then-at-text c = elim c.then-at-text.branch [
  | then-at-text-via-then-at-text w ↦ operation_end c.args.text.now c.args.at c.requires w.if-at-text.true
  | then-at-text-via-else-at-text+then-text-at w ↦
      let text = c.args.text.now in
      let more : c.args.at + 1 < length text = omega (arith, w.if-at-text.false, c.requires) in
      operation_other text c.args.at w.index-text-at-else-at-text.result w.index-text-at.result more
      (read_at text c.args.at w.index-text-at-else-at-text.result c.requires w.index-text-at-else-at-text.is)
      (read_at text (c.args.at + 1) w.index-text-at.result more w.index-text-at.is) w.if-text-at.true
]
