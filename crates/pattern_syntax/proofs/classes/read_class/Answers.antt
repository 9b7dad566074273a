use Rattle.std.proofs.Common.{arith, subst}
use Rattle.pattern_syntax.specs.declared.classes.steps.Step.{Step}
use Rattle.pattern_syntax.specs.ClassReading.{Steps}
use Rattle.pattern_syntax.proofs.classes.KeepLemmas.{begun, begun_ends, begun_stuck, at_end}
use Rattle.pattern_syntax.proofs.classes.read_class.Goals as goal

pub loop-reading-init : goal.loop-reading-init
loop-reading-init c =
    let read = c.read_head-behind.ensures in
    begun c.args.flags c.args.text.now c.args.at _ read.head c.new.ensures.items (c.in_ok-new.ensures read.head read.is) read.fine read.written read.goes_on

pub returns-in-Done : goal.returns-in-Done
returns-in-Done c =
    begun_ends c.args.flags c.args.text.now c.args.at c.loop-reading.reading c.in-Done.class c.in-Done.behind c.loop-reading.invariant
    (subst (λ (s : Step). Steps c.args.flags c.args.text.now c.loop-reading.reading s) c.in-Done.is c.in_ok-next.ensures)

pub returns-in-Nothing : goal.returns-in-Nothing
returns-in-Nothing c =
    begun_stuck c.args.flags c.args.text.now c.args.at c.loop-reading.reading c.loop-reading.invariant
    (subst (λ (s : Step). Steps c.args.flags c.args.text.now c.loop-reading.reading s) c.in-Nothing.is c.in_ok-next.ensures)

pub returns : goal.returns
returns c =
    begun_stuck c.args.flags c.args.text.now c.args.at c.loop-reading.reading c.loop-reading.invariant
    (at_end c.args.flags c.args.text.now c.loop-reading.reading (omega (arith, c.loop-reading-test.false)))
