use Rattle.std.proofs.Common.{refl, arith}
use Rattle.chosen_files.proofs.examples.lists_are_kept_as_in_the_examples.Goals as goal

pub returns-clause-nothing_opened : goal.returns-clause-nothing_opened
returns-clause-nothing_opened c = λ disk. record { open_list = λ number is. refl; open_count = refl; open_most = omega arith }

pub returns-clause-ten_at_once : goal.returns-clause-ten_at_once
returns-clause-ten_at_once c = λ old. record { open_list = λ number is. refl; open_count = refl; open_most = omega arith }

pub returns-clause-eleven_at_once : goal.returns-clause-eleven_at_once
returns-clause-eleven_at_once c = λ old few keeps. let most = keeps.open_most in absurd (omega (arith, few, most))

pub returns-clause-left_open : goal.returns-clause-left_open
returns-clause-left_open c = λ old keeps. let count = keeps.open_count in absurd (omega (arith, count))

pub returns-clause-closed : goal.returns-clause-closed
returns-clause-closed c = λ old number is keeps. let same = keeps.open_list number is in cc
