use Rattle.std.proofs.Common.{refl}
use Rattle.walkdir.proofs.examples.collections_are_as_in_the_examples.Goals as goal

pub returns-clause-all : goal.returns-clause-all
returns-clause-all c = λ path entry. record { faultless = (refl, tt); all = refl }

pub returns-clause-below : goal.returns-clause-below
returns-clause-below c = λ root inner deeper first second third. rw (first, second, third) refl
