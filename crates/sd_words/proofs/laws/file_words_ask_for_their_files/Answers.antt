use Rattle.sd_words.proofs.laws.PlainTable.{file_words_read}
use Rattle.sd_words.proofs.laws.file_words_ask_for_their_files.Goals as goal

pub returns : goal.returns
returns c = file_words_read
