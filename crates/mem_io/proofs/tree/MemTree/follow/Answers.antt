use Rattle.std.proofs.Common.{lit<, ◌∙◌, ap, arith, [], sym, cond, ◌≡◌, ◌<◌}
use Rattle.mem_io.proofs.walk.RoundLemmas.{arrives, leads_nowhere, ends_at_empty_link, goes_on, starts}
use Rattle.mem_io.specs.MemTreeView.{mem_tree}
use Rattle.mem_io.proofs.tree.MemTree.follow.Goals as goal
use Rattle.mem_io.proofs.tree.MemTree.follow.Goals.{then-starts_with, else-starts_with}

pub returns-in-Arrived : goal.returns-in-Arrived
returns-in-Arrived c =
    let within : c.loop.counter < 41 = omega arith in
    arrives (mem_tree c.args.self.now) 41 c.loop.counter c.args.follow_last c.loop.at c.advance.new.at _ _ c.in_ok-advance.field-0 _ within c.loop.invariant (λ linking. c.in_ok-advance.ensures linking) c.in-Arrived.is

pub returns-in-Nowhere : goal.returns-in-Nowhere
returns-in-Nowhere c =
    let within : c.loop.counter < 41 = omega arith in
    leads_nowhere (mem_tree c.args.self.now) 41 c.loop.counter c.args.follow_last c.loop.at c.advance.new.at _ _ c.in_ok-advance.field-0 _ within c.loop.invariant (λ linking. c.in_ok-advance.ensures linking) c.in-Nowhere.is

pub returns-then-is_empty : goal.returns-then-is_empty
returns-then-is_empty c =
    let within : c.loop.counter < 41 = omega arith in
    ends_at_empty_link (mem_tree c.args.self.now) 41 c.loop.counter c.args.follow_last c.loop.at c.advance.new.at _ _ c.in_ok-advance.field-0 _ within c.loop.invariant (λ linking. c.in_ok-advance.ensures linking) c.in-Link.target _ c.in-Link.is c.is_empty.ensures c.if-is_empty.true

pub loop-preserved : goal.loop-preserved
loop-preserved c =
    let within : c.loop.counter < 41 = omega arith in
    let from : c.if-starts_with.at ≡ cond c.starts_with.result [] c.advance.new.at = elim c.if-starts_with.branch [
      | then-starts_with w ↦ w.at-is ∙ w.top-at-then-starts_with.ensures ∙ ap (λ b. cond b [] c.advance.new.at) (sym w.if-starts_with.true)
      | else-starts_with w ↦ w.at-is ∙ ap (λ b. cond b [] c.advance.new.at) (sym w.if-starts_with.false)
    ] in
    goes_on (mem_tree c.args.self.now) 41 c.loop.counter c.args.follow_last c.loop.at c.advance.new.at _ _ c.in_ok-advance.field-0 _ within c.loop.invariant (λ linking. c.in_ok-advance.ensures linking)
    c.in-Link.target _ c.if-starts_with.at _ c.in-Link.is c.is_empty.ensures c.if-is_empty.false
    (starts c.advance.new.at c.if-starts_with.at c.in-Link.target.now _ (c.starts_with.ensures.byte (lit< tt) (lit< tt) (λ w o h. h)) from)
    c.in_ok-push_parts-in-Link.ensures
