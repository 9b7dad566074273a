use Rattle.std.proofs.Common.{refl}
use Rattle.sd_io.specs.Paths.{parts_of}
use Rattle.mem_io.proofs.path.parts_of.Goals as goal

pub loop-rest-init : goal.loop-rest-init
unfolding parts_of
loop-rest-init c = rw c.new-parts.ensures.items refl
