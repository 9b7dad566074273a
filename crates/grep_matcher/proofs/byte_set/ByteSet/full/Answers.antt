use Rattle.grep_matcher.proofs.byte_set.ByteSetLemmas.{full_holds}
use Rattle.grep_matcher.proofs.byte_set.ByteSet.full.Goals as goal

pub returns : goal.returns
returns c byte small = full_holds byte small
