use Rattle.sd_replace.specs.Replacement.{Changes}
use Rattle.sd_core.proofs.laws.CrashLemmas.{chosen_old_or_new, others_old}
use Rattle.sd_core.proofs.laws.a_crash_leaves_chosen_files_old_or_new.Goals as goal

pub returns-clause-chosen : goal.returns-clause-chosen
returns-clause-chosen c = λ replacement. chosen_old_or_new (Changes replacement)

pub returns-clause-others : goal.returns-clause-others
returns-clause-others c = λ replacement. others_old (Changes replacement)
