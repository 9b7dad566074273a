use Rattle.host_io.specs.Folders.{SameAnswers}
use Rattle.host_io.proofs.folders.Folders.verify_all.Given as goal

abbrev pub invariant-loop-end : goal.invariant-loop-end
invariant-loop-end g l =
    (goal.iterator-loop-end g).can_next l.end-iterator × (goal.iterator-loop-end g).is_finite l.end-iterator × SameAnswers l.initial.self l.self
