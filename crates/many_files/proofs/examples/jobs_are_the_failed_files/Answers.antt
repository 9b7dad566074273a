use Rattle.std.proofs.Common.{ap, if◌then◌else◌}
use Rattle.std.specs.Prelude.{is_none}
use Rattle.many_files.proofs.examples.jobs_are_the_failed_files.Goals as goal

pub returns-clause-absent_needs_none : goal.returns-clause-absent_needs_none
returns-clause-absent_needs_none c tree none = ap (λ f. if is_none f then 0 else 1) none
