use Rattle.sd_words.proofs.laws.PlainTable.{tree_words_read}
use Rattle.sd_words.proofs.laws.tree_words_ask_for_their_tree.Goals as goal

pub returns : goal.returns
returns c = tree_words_read
