use Rattle.pattern_core.proofs.parsing.ReachLemmas.{repeated_behind}
use Rattle.pattern_core.proofs.parsing.reading.read_repeated.Goals as goal

pub returns : goal.returns
returns c =
    repeated_behind c.args.limit c.args.text.now c.args.state c.args.piece c.in_ok-piece.piece c.in_ok-piece.next c.item.result c.in_ok-piece.ensures.repeats
    c.in_ok-piece.ensures.all c.item.ensures.is c.item.ensures.place
