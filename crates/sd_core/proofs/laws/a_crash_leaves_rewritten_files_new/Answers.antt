use Rattle.sd_replace.specs.Replacement.{Changes}
use Rattle.sd_core.proofs.laws.CrashLemmas.{chosen_new, not_chosen_old}
use Rattle.sd_core.proofs.laws.a_crash_leaves_rewritten_files_new.Goals as goal

pub returns-clause-chosen : goal.returns-clause-chosen
returns-clause-chosen c = λ replacement root globs old new image medium durable leaves.
    chosen_new (Changes replacement) root globs old image medium (c.one_change.ensures replacement) new durable leaves

pub returns-clause-others : goal.returns-clause-others
returns-clause-others c = λ replacement root globs old new image medium durable leaves.
    not_chosen_old (Changes replacement) root globs old image medium (c.one_change.ensures replacement) new durable leaves
