use Rattle.grep_matcher.specs.Reached.{at_first}
use Rattle.grep_matcher.proofs.references.append_front.Goals as goal

pub returns-in_default-clause-adding : goal.returns-in_default-clause-adding
returns-in_default-clause-adding g c = at_first

pub returns-in_default-clause-looking : goal.returns-in_default-clause-looking
returns-in_default-clause-looking g c = at_first
