use Rattle.std.proofs.Common.{◌+◌, ◌≤◌, length, arith}
use Rattle.std.proofs.lemmas.Iterator.{YieldsList-from_chars}
use Rattle.std.proofs.lemmas.Iterator.Consumers.{YieldsList-so_far, YieldsList-turn, YieldsList-end}
use Rattle.glob_match.proofs.captures.BytesLemmas.{bytes_fit, bytes_more, bytes_all}
use Rattle.glob_match.proofs.captures.byte_places.Goals as goal

pub overflow_add-at : goal.overflow_add-at
overflow_add-at c =
    let gives = YieldsList-from_chars c.args.path.now c.utf8.path cc in
    let front = YieldsList-so_far gives c.loop-c.yielded _ c.loop-c.yielded_by in
    let turn = YieldsList-turn gives c.loop-c.yielded _ c.loop-c.yielded_by _ _ c.in-Some.c c.in-Some.is c.next.ensures.steps in
    let fit : c.loop-c.at + c.len_utf8-at.result ≤ length c.args.path.now = bytes_fit c.args.path.now c.loop-c.yielded _ _ c.in-Some.c _ c.utf8.path c.loop-c.invariant front turn.0 turn.1 c.len_utf8-at.ensures.value in
    omega (arith, fit)

pub loop-c-preserved : goal.loop-c-preserved
loop-c-preserved c = rw c.in_ok-push.ensures.items (bytes_more c.loop-c.yielded c.loop-c.bytes.items c.loop-c.at c.in-Some.c _ c.loop-c.invariant c.len_utf8-at.ensures.value)

pub returns : goal.returns
returns c =
    let end = YieldsList-end (YieldsList-from_chars c.args.path.now c.utf8.path cc) c.loop-c.yielded _ c.loop-c.yielded_by _ _ c.in-None.is c.next.ensures.steps in
    rw c.in_ok-push-2.ensures.items (bytes_all _ c.loop-c.yielded c.loop-c.bytes.items c.loop-c.at c.loop-c.invariant end.0)
