use Rattle.sd_io.specs.Paths.{parts_of, parent_of}
use Rattle.file_exchange.proofs.exchanging.CreatingLemmas.{IsTried}
use Rattle.file_exchange.proofs.exchanging.create_temporary.Given as goal

-- so far each reserved name was taken
abbrev pub invariant-loop-number : goal.invariant-loop-number
invariant-loop-number g l = IsTried g.D.Disk.tells (g.D.Disk.state l.fn.disk) (parent_of (parts_of l.beside)) l.number (g.D.Disk.state l.disk)
