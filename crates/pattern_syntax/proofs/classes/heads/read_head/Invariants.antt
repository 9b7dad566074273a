use Rattle.std.proofs.Common.{◌-◌, length}
use Rattle.pattern_syntax.proofs.classes.ReadLemmas.{DashesTo}
use Rattle.pattern_syntax.proofs.classes.heads.read_head.Given as goal

abbrev pub invariant-loop-next : goal.invariant-loop-next
invariant-loop-next l = DashesTo l.flags l.text l.first l.place l.dashes

abbrev pub decreases-loop-next : goal.decreases-loop-next
decreases-loop-next l = length l.text - l.place
