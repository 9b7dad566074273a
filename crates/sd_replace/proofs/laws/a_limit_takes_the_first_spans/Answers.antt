use Rattle.sd_replace.proofs.laws.LimitLemmas.{all_spans, first_spans}
use Rattle.sd_replace.proofs.laws.a_limit_takes_the_first_spans.Goals as goal

pub returns-clause-first : goal.returns-clause-first
returns-clause-first c = first_spans

pub returns-clause-all : goal.returns-clause-all
returns-clause-all c = all_spans
