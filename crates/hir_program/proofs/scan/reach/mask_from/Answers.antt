use Rattle.hir_program.proofs.scan.reach.DeadLemmas.{Covers-whole, Covers-asked}
use Rattle.hir_program.proofs.scan.reach.mask_from.Goals as goal

pub returns-then-all-lt-SURE : goal.returns-then-all-lt-SURE
returns-then-all-lt-SURE c =
    Covers-whole c.args.spots.now c.args.of.now c.args.look c.in_ok-all.all c.args.from c.in_ok-all.ensures

pub returns : goal.returns
returns c =
    Covers-asked c.args.spots.now c.args.of.now c.args.look c.in_ok-beside.beside _ c.args.from c.in_ok-beside.ensures c.with_bit.ensures.kept
    c.with_bit.ensures.set
