use Rattle.pattern_core.proofs.EscapeLemmas.{escaped_reads}
use Rattle.pattern_core.proofs.escaping.an_escaped_text_is_read_as_itself.Goals as goal

pub returns : goal.returns
returns c = escaped_reads
