use Rattle.std.proofs.Common.{rules}
use Rattle.grep_matcher.proofs.byte_set.ByteSetLemmas.{byte_added_at}
use Rattle.grep_matcher.proofs.byte_set.ByteSet.add.Goals as goal

pub returns : goal.returns
returns c b small = byte_added_at c.args.self.now.words c.args.byte b c.bit.result c.word.result c.word.ensures.place (search rules) (search rules) small c.bit.ensures
