use Rattle.pattern_core.proofs.parsing.ReachLemmas.{item_reaches, item_stuck}
use Rattle.pattern_core.proofs.parsing.reading.read_item.Goals as goal

pub returns-in_default : goal.returns-in_default
returns-in_default c =
    item_stuck c.args.limit c.args.text.now c.args.state c.requires.within c.requires.other c.requires.clear (rw c.in_default.is at c.in_ok-item.ensures)

pub returns : goal.returns
returns c =
    item_reaches c.args.limit c.args.text.now c.args.state c.note-state.result c.in_ok-read_repeated.field-0 c.in-Some.item c.within-piece.result
    c.in-Some.next (rw c.in-Some.is at c.in_ok-item.ensures) c.within-piece.ensures c.note-state.ensures.is c.note-state.ensures.place c.in_ok-read_repeated.ensures
