use Rattle.std.proofs.Common.{◌-◌, ◌≤◌, List, max}
use Rattle.hir_program.specs.Masks.{NoRun}
use Rattle.hir_program.specs.Scan.{IsFilterOf}
use Rattle.hir_program.specs.declared.spot.Spot.{Spot}
use Rattle.hir_program.proofs.starts.Starts.pass_looked.Given as goal

-- no run begins before the place
abbrev pub invariant-loop-self : goal.invariant-loop-self
invariant-loop-self l = record {
  none : (spots : List Spot) → IsFilterOf spots l.filter → NoRun l.text spots l.fn.self.place l.self.place;
  after : l.fn.self.place ≤ l.self.place;
  within : l.self.place ≤ max l.fn.self.place l.end;
}

abbrev pub decreases-loop-self : goal.decreases-loop-self
decreases-loop-self l = l.end - l.self.place
