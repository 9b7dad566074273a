use Rattle.hir_tree.proofs.plain_text.PlainTextLemmas.{preferred-text}
use Rattle.hir_tree.proofs.plain_text.one_text_matches_where_it_stands.Goals as goal

pub returns : goal.returns
returns c = preferred-text
