use Rattle.std.proofs.Common.{rules}
use Rattle.sd_journal.proofs.running.TellLemmas.{words_told}
use Rattle.sd_journal.proofs.running.refuse.Goals as goal

pub returns-clause-told : goal.returns-clause-told
returns-clause-told g c = words_told _ c.args.fault.now _ _ c.print_text-printed.result (search rules) c.print_text-printed.ensures
