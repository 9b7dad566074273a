use Rattle.std.proofs.Common.{sym, arith}
use Rattle.hir_core.proofs.block.TryLemmas.{CountsTries-one}
use Rattle.hir_core.proofs.block.Block.turn.Goals as goal

pub returns-then-not-may_go_on-clause-ticks : goal.returns-then-not-may_go_on-clause-ticks
returns-then-not-may_go_on-clause-ticks g c =
    CountsTries-one g.L.Ledger.noted c.args.spots.now c.args.places.begin c.args.places.end c.args.self.now.trail.at c.args.spot _ _ _ _ _
    c.requires.room c.requires.begin c.requires.end (grind arith) c.mark_of-mark.ensures.mark (sym c.if-has.ensures) c.add.ensures (grind arith)

pub returns-then-not-may_go_on-2-clause-ticks : goal.returns-then-not-may_go_on-2-clause-ticks
returns-then-not-may_go_on-2-clause-ticks g c =
    CountsTries-one g.L.Ledger.noted c.args.spots.now c.args.places.begin c.args.places.end c.args.self.now.trail.at c.args.spot _ _ _ _ _
    c.requires.room c.requires.begin c.requires.end (grind arith) c.mark_of-mark.ensures.mark (sym c.if-has.ensures) c.add.ensures (grind arith)

pub returns-in_err-advance-clause-ticks : goal.returns-in_err-advance-clause-ticks
returns-in_err-advance-clause-ticks g c =
    CountsTries-one g.L.Ledger.noted c.args.spots.now c.args.places.begin c.args.places.end c.args.self.now.trail.at c.args.spot _ _ _ _ _
    c.requires.room c.requires.begin c.requires.end (grind arith) c.mark_of-mark.ensures.mark (sym c.if-has.ensures) c.add.ensures (grind arith)

pub returns-clause-ticks : goal.returns-clause-ticks
returns-clause-ticks g c =
    CountsTries-one g.L.Ledger.noted c.args.spots.now c.args.places.begin c.args.places.end c.args.self.now.trail.at c.args.spot _ _ _ _ _
    c.requires.room c.requires.begin c.requires.end (grind arith) c.mark_of-mark.ensures.mark (sym c.if-has.ensures) c.add.ensures (grind arith)
