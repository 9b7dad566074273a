use Rattle.std.proofs.Common.{length}
use Rattle.grep_matcher.proofs.laws.ReplacedLemmas.{own_bytes, from_start}
use Rattle.grep_matcher.proofs.laws.same_bytes_back.Goals as goal

pub returns : goal.returns
returns c = λ haystack spans turn within. own_bytes haystack 0 spans (from_start (length haystack) spans turn within)
