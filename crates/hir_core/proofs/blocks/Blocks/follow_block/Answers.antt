use Rattle.hir_core.proofs.block.TryLemmas.{visits_then, CountsTries-block}
use Rattle.hir_core.proofs.blocks.Blocks.follow_block.Goals as goal

pub returns-in_err-found-clause-ticks : goal.returns-in_err-found-clause-ticks
returns-in_err-found-clause-ticks g c =
    CountsTries-block g.L.Ledger.noted c.args.spots.now c.args.places.begin c.args.places.end _ _ _ _ _
    c.in_ok-enter.ensures.marks c.follow_all.ensures.ticks

pub returns-then-found-clause-ticks : goal.returns-then-found-clause-ticks
returns-then-found-clause-ticks g c =
    CountsTries-block g.L.Ledger.noted c.args.spots.now c.args.places.begin c.args.places.end _ _ _ _ _
    c.in_ok-enter.ensures.marks c.follow_all.ensures.ticks

pub returns-clause-ticks : goal.returns-clause-ticks
returns-clause-ticks g c =
    CountsTries-block g.L.Ledger.noted c.args.spots.now c.args.places.begin c.args.places.end _ _ _ _ _
    c.in_ok-enter.ensures.marks (visits_then c.follow_all.ensures.ticks c.follow_starts.ensures.ticks)
