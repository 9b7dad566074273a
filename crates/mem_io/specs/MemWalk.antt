-- How a walk in memory stops.
use Rattle.std.specs.Prelude.{List, Option, Some, None}
use Rattle.sd_io.specs.Tree.{NameList, Name}
use Rattle.sd_io.specs.Paths.{Linking}
use Rattle.mem_io.specs.declared.walk.Stop.{Stop}
use Rattle.mem_io.specs.declared.walk.Stop.TheVariants as stop

-- where the parts lead that are left after a stop, links followed as `linking` says
abbrev pub led_to : Linking → NameList → List Name → Stop → Option NameList
led_to linking at left stop.Arrived = Some at
led_to linking at left stop.Nowhere = None
led_to linking at left (stop.Link target) = linking at target.now left
