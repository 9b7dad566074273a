use Rattle.std.proofs.Common.{◌∙◌, sym, ap, reverse}
use Rattle.mem_io.specs.MemTreeView.{mem_tree}
use Rattle.mem_io.specs.MemWalk.{led_to}
use Rattle.mem_io.proofs.path.TextLemmas.{texts}
use Rattle.mem_io.proofs.walk.PlainLemmas.{no_link, plain_none, plain_by, leads_no_further}
use Rattle.mem_io.proofs.tree.MemTree.reached_plain.Goals as goal

pub returns-then-is_empty : goal.returns-then-is_empty
returns-then-is_empty c = plain_none (mem_tree c.args.self.now) c.args.path.now _ c.is_empty.ensures c.if-is_empty.true

pub returns-in-Arrived : goal.returns-in-Arrived
returns-in-Arrived c =
    ap (led_to no_link c.advance.new.at (reverse (texts c.advance.new.parts.items))) (sym c.in-Arrived.is) ∙ sym (c.in_ok-advance.ensures no_link) ∙ rw c.top-at.ensures
    (plain_by (mem_tree c.args.self.now) c.args.path.now _ c.in_ok-parts.parts.items c.reverse.new.self.items c.is_empty.ensures c.if-is_empty.false c.in_ok-parts.ensures c.reverse.ensures.items)

pub returns : goal.returns
returns c =
    sym (leads_no_further c.advance.new.at (reverse (texts c.advance.new.parts.items)) c.in_ok-advance.field-0 c.in-Nowhere.is) ∙ sym (c.in_ok-advance.ensures no_link) ∙ rw c.top-at.ensures
    (plain_by (mem_tree c.args.self.now) c.args.path.now _ c.in_ok-parts.parts.items c.reverse.new.self.items c.is_empty.ensures c.if-is_empty.false c.in_ok-parts.ensures c.reverse.ensures.items)
