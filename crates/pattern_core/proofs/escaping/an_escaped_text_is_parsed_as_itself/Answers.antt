use Rattle.pattern_core.proofs.escaping.ParsedLemmas.{escaped_not_refused, parsed_as_itself}
use Rattle.pattern_core.proofs.escaping.RunLemmas.{one_run}
use Rattle.pattern_core.proofs.escaping.an_escaped_text_is_parsed_as_itself.Goals as goal

pub returns-clause-text : goal.returns-clause-text
returns-clause-text c = parsed_as_itself c.a_text_has_at_most_one_reading.ensures c.an_escaped_text_is_read_as_itself.ensures

pub returns-clause-run : goal.returns-clause-run
returns-clause-run c =
    one_run c.one_text_matches_where_it_stands.ensures c.preferred_is_the_first_run.ensures
    (parsed_as_itself c.a_text_has_at_most_one_reading.ensures c.an_escaped_text_is_read_as_itself.ensures)

pub returns-clause-answered : goal.returns-clause-answered
returns-clause-answered c = escaped_not_refused c.a_text_has_at_most_one_reading.ensures c.an_escaped_text_is_read_as_itself.ensures
