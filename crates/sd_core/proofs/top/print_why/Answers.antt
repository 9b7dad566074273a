use Rattle.std.proofs.Common.{codes, refl}
use Rattle.sd_core.proofs.top.TellLemmas.{tells}
use Rattle.sd_core.proofs.top.print_why.Goals as goal

pub returns-in-Done-clause-told : goal.returns-in-Done-clause-told
returns-in-Done-clause-told g c = λ other words. absurd (other c.in-Done.is)

pub returns-in-Usage-clause-told : goal.returns-in-Usage-clause-told
returns-in-Usage-clause-told g c = λ other words. tells words _ _ _ (codes "not a valid command line") _ c.in-Usage.is (λ taken. refl) c.print_text.ensures

pub returns-in-Fault-clause-told : goal.returns-in-Fault-clause-told
returns-in-Fault-clause-told g c = λ other words. tells words _ _ _ c.print_shown.ensures.0 _ c.in-Fault.is tt c.print_shown.ensures.1

pub returns-in-Print-clause-told : goal.returns-in-Print-clause-told
returns-in-Print-clause-told g c = λ other words. tells words _ _ _ (codes "the report could not be written") _ c.in-Print.is refl c.print_text-in-Print.ensures
