use Rattle.sd_core.proofs.top.TellLemmas.{text_told}
use Rattle.sd_core.proofs.top.refuse.Goals as goal

pub returns-clause-told : goal.returns-clause-told
returns-clause-told g c = text_told _ _ _ c.print_text-printed.result c.text.ensures c.print_text-printed.ensures
