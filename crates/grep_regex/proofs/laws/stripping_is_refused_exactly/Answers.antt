use Rattle.grep_regex.proofs.laws.ExactLemmas.{asking-exact, refused-exactly, tidy-all}
use Rattle.grep_regex.proofs.laws.stripping_is_refused_exactly.Goals as goal

pub returns-clause-asks : goal.returns-clause-asks
returns-clause-asks c = asking-exact

pub returns-clause-refused : goal.returns-clause-refused
returns-clause-refused c = refused-exactly

pub returns-clause-tidy : goal.returns-clause-tidy
returns-clause-tidy c = tidy-all
