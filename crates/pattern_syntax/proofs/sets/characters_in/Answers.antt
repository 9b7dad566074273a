use Rattle.pattern_syntax.proofs.sets.MemberLemmas.{without_surrogates}
use Rattle.pattern_syntax.proofs.sets.characters_in.Goals as goal

pub returns : goal.returns
returns c = without_surrogates c.in_ok-new.field-0 c.in_ok-difference.field-0 c.in_ok-surrogates.surrogates c.args.ranges.items c.in_ok-new.ensures c.in_ok-surrogates.ensures c.in_ok-difference.ensures
