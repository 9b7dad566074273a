use Rattle.hir_program.proofs.scan.bits.MaskLemmas.{HasBit-or_left}
use Rattle.hir_program.proofs.scan.required.RequiredLemmas.{IsRequiredOf-closed}
use Rattle.hir_program.proofs.scan.required.Required.new.Goals as goal

pub returns-then-before-eq0 : goal.returns-then-before-eq0
returns-then-before-eq0 c =
    IsRequiredOf-closed c.args.after.now c.args.start c.joined.result record { spots = c.args.spots; before = c.loop.before } c.ranges.spots.fits c.loop.invariant
    c.if-before-eq0.true c.joined.ensures c.if-more-before.true

pub loop-preserved : goal.loop-preserved
loop-preserved c i has = HasBit-or_left c.loop.before c.joined.result i (c.loop.invariant i has)
