use Rattle.sd_io.specs.Outcomes.{Outcome}
use Rattle.mem_io.specs.MemOutcome.{left_of}
use Rattle.mem_io.specs.declared.outcome.MemOutcome.TheInside.{Inside}

-- an outcome as contracts see it
abbrev pub outcome_of : Inside → Outcome
outcome_of o = record { is_own = o.is_own; left = left_of o.left }
