use Rattle.std.proofs.Common.{Bool, not, ◌&&◌, ◌∙◌, ap, arith}
use Rattle.grep_matcher.specs.ByteSets.{is_in}
use Rattle.grep_matcher.proofs.byte_set.ByteSetLemmas.{range_done}
use Rattle.grep_matcher.proofs.byte_set.ByteSet.remove_all.Goals as goal

pub returns : goal.returns
returns c b small = c.loop-byte.invariant.done b small ∙ ap (λ (t : Bool). not t && is_in c.args.self.now b) (range_done b c.args.start c.args.end c.loop-byte.byte (omega arith) (omega arith))
