use Rattle.std.proofs.Common.{refl}
use Rattle.mem_io.proofs.image_examples.images_take_outcomes_as_in_the_examples.Goals as goal

pub returns-clause-first : goal.returns-clause-first
returns-clause-first c = refl

pub returns-clause-second : goal.returns-clause-second
returns-clause-second c = refl

pub returns-clause-third : goal.returns-clause-third
returns-clause-third c = refl

pub returns-clause-around : goal.returns-clause-around
returns-clause-around c = refl

pub returns-clause-far : goal.returns-clause-far
returns-clause-far c = refl
