use Rattle.sd_io.specs.Lists.{IsOpen}
use Rattle.host_cases.proofs.telling.listed.Given as goal

abbrev pub invariant-loop : goal.invariant-loop
invariant-loop g l = IsOpen (g.D.Disk.state l.disk) l.list.number
