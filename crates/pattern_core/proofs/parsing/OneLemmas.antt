-- At one place of a text stands at most one token, and at most one repetition.
use Rattle.pattern_syntax.proofs.OneTokenLemmas as tokens
use Rattle.pattern_syntax.proofs.OneOpening.{one_opening}
use Rattle.pattern_syntax.proofs.OneRepeated as repetitions
use Rattle.pattern_core.proofs.parsing.TokenLemmas.{OneToken}
use Rattle.pattern_core.proofs.parsing.RepeatLemmas.{OneRepeated}

pub one_token : OneToken
one_token k a b s t e f g = tokens.one_token one_opening k a b s t e f g

pub one_repeated : OneRepeated
one_repeated k r q s t e f g = repetitions.one_repeated k r q s t e f g
