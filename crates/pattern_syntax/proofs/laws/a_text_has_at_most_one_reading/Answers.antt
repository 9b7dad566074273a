use Rattle.pattern_syntax.proofs.openings.OneOpening.{one_opening}
use Rattle.pattern_syntax.proofs.repetitions.OneRepeated.{one_repeated}
use Rattle.pattern_syntax.proofs.laws.OneReadingLemmas.{one_reading}
use Rattle.pattern_syntax.proofs.laws.a_text_has_at_most_one_reading.Goals as goal

pub returns : goal.returns
returns c = one_reading one_opening one_repeated
