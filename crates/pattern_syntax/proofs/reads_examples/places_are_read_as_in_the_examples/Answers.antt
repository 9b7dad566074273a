use Rattle.pattern_syntax.proofs.ReadsExamples.{places-edge_repeated, places-word_start, places-half_edge_repeated, places-kinds, places-ascii_edge, places-ends_of_lines_of_two, places-ends_of_lines, places-dot_of_bytes, places-dot_on_lines_of_two, places-dot_of_all}
use Rattle.pattern_syntax.proofs.reads_examples.places_are_read_as_in_the_examples.Goals as goal

pub returns-clause-edge_repeated : goal.returns-clause-edge_repeated
returns-clause-edge_repeated c = places-edge_repeated

pub returns-clause-word_start : goal.returns-clause-word_start
returns-clause-word_start c = places-word_start

pub returns-clause-half_edge_repeated : goal.returns-clause-half_edge_repeated
returns-clause-half_edge_repeated c = places-half_edge_repeated

pub returns-clause-kinds : goal.returns-clause-kinds
returns-clause-kinds c = places-kinds

pub returns-clause-ascii_edge : goal.returns-clause-ascii_edge
returns-clause-ascii_edge c = places-ascii_edge

pub returns-clause-ends_of_lines_of_two : goal.returns-clause-ends_of_lines_of_two
returns-clause-ends_of_lines_of_two c = places-ends_of_lines_of_two

pub returns-clause-ends_of_lines : goal.returns-clause-ends_of_lines
returns-clause-ends_of_lines c = places-ends_of_lines

pub returns-clause-dot_of_bytes : goal.returns-clause-dot_of_bytes
returns-clause-dot_of_bytes c = places-dot_of_bytes

pub returns-clause-dot_on_lines_of_two : goal.returns-clause-dot_on_lines_of_two
returns-clause-dot_on_lines_of_two c = places-dot_on_lines_of_two

pub returns-clause-dot_of_all : goal.returns-clause-dot_of_all
returns-clause-dot_of_all c = places-dot_of_all
