use Rattle.pattern_core.proofs.parsing.ReachLemmas.{repeats_more}
use Rattle.pattern_core.proofs.parsing.reading.repeat.Goals as goal

pub loop-piece-preserved : goal.loop-piece-preserved
loop-piece-preserved c =
    repeats_more c.args.limit c.args.text.now c.args.flags c.args.piece c.args.at c.loop-piece.piece c.in_ok-piece.piece c.loop-piece.at c.in-Some.next
    c.in-Some.repetition c.loop-piece.invariant (rw c.in-Some.is at c.in_ok-repetition.ensures) c.in_ok-piece.ensures
