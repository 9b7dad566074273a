use Rattle.std.proofs.Common.{length}
use Rattle.matcher_tests.proofs.slow_globs.+take_rest.Given as goal

abbrev pub decreases-take_rest : goal.decreases-take_rest
decreases-take_rest l = length l.signs.now
