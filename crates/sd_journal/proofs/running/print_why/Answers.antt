use Rattle.std.proofs.Common.{codes, refl}
use Rattle.sd_journal.proofs.running.TellLemmas.{tells}
use Rattle.sd_journal.proofs.running.print_why.Goals as goal

pub returns-in-Done-clause-told : goal.returns-in-Done-clause-told
returns-in-Done-clause-told g c = λ other. absurd (other c.in-Done.is)

pub returns-in-Usage-clause-told : goal.returns-in-Usage-clause-told
returns-in-Usage-clause-told g c = λ other. tells _ _ _ (codes "not a valid command line") _ c.in-Usage.is tt c.print_text.ensures

pub returns-in-Replacer-clause-told : goal.returns-in-Replacer-clause-told
returns-in-Replacer-clause-told g c = λ other. tells _ _ _ c.print_shown.ensures.0 _ c.in-Replacer.is tt c.print_shown.ensures.1

pub returns-in-Journal-clause-told : goal.returns-in-Journal-clause-told
returns-in-Journal-clause-told g c = λ other. tells _ _ _ c.print_shown-in-Journal.ensures.0 _ c.in-Journal.is tt c.print_shown-in-Journal.ensures.1

pub returns-in-Print-clause-told : goal.returns-in-Print-clause-told
returns-in-Print-clause-told g c = λ other. tells _ _ _ (codes "the report could not be written") _ c.in-Print.is refl c.print_text-in-Print.ensures
