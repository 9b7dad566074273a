use Rattle.std.proofs.Common.{◌+◌, ◌≤◌, length, refl, arith}
use Rattle.std.proofs.lemmas.List.{take_rest}
use Rattle.sd_replace.proofs.unescaping.EscapeLemmas.{read_on, read_fits}
use Rattle.sd_replace.proofs.unescaping.unescape_characters.Goals as goal

pub overflow_add-at-in-loop-at : goal.overflow_add-at-in-loop-at
overflow_add-at-in-loop-at c =
    let fits : c.loop-at.at + (1 + c.in-Some.read.width) ≤ length c.args.characters.now =
    read_fits c.args.characters.now c.loop-at.at c.index-characters-at.result c.in-Some.read c.loop-at-test.true c.in-Some.ensures in
    omega arith

pub overflow_add-at-in-loop-at-2 : goal.overflow_add-at-in-loop-at-2
overflow_add-at-in-loop-at-2 c =
    let fits : c.loop-at.at + (1 + c.in-Some.read.width) ≤ length c.args.characters.now =
    read_fits c.args.characters.now c.loop-at.at c.index-characters-at.result c.in-Some.read c.loop-at-test.true c.in-Some.ensures in
    omega arith

pub loop-at-preserved : goal.loop-at-preserved
loop-at-preserved c =
    read_on c.args.characters.now _ c.loop-at.at c.index-characters-at.result _ c.in-Some.read _ _ c.loop-at-test.true c.index-characters-at.is
    (take_rest c.args.characters.now (c.loop-at.at + 1)) c.in-Some.ensures refl c.in_ok-push.ensures.bytes c.loop-at.invariant
