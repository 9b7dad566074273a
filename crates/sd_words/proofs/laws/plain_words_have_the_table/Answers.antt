use Rattle.sd_words.proofs.laws.PlainTable.{plain_words_read}
use Rattle.sd_words.proofs.laws.plain_words_have_the_table.Goals as goal

pub returns : goal.returns
returns c = plain_words_read
