use Rattle.std.proofs.Common.{refl}
use Rattle.sd_io.specs.Paths.{parts_of}
use Rattle.walk_rest.proofs.examples.file_names_are_as_in_the_examples.Goals as goal

pub returns : goal.returns
unfolding parts_of
returns c = record { below = refl; slash = refl; dot = refl; up = refl; top = refl; empty = refl }
