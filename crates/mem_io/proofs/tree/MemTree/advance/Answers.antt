use Rattle.std.proofs.Common.{sym, ◌∙◌, ap}
use Rattle.sd_io.specs.Paths.{steps}
use Rattle.mem_io.specs.MemTreeView.{mem_tree}
use Rattle.mem_io.proofs.path.TextLemmas.{next_part}
use Rattle.mem_io.proofs.walk.StepLemmas.{no_end, step_link}
use Rattle.mem_io.proofs.tree.MemTree.advance.Goals as goal

pub returns-in-Some-target : goal.returns-in-Some-target
returns-in-Some-target c = λ linking.
    c.loop-part.invariant linking ∙ ap (steps (mem_tree c.args.self.now) linking c.args.follow_last c.loop-part.at) (next_part _ _ _ c.in-Some.ensures.items)
    ∙ step_link (mem_tree c.args.self.now) linking c.args.follow_last c.loop-part.at c.enter.new.self _ c.in-Some.part.now _ c.in-Some-node.node.now c.in-Some-target.target.now
    (sym c.is_directory.ensures ∙ c.if-not-is_directory.false) (sym c.eq.ensures ∙ c.if-eq.false) c.in_ok-enter.ensures.entered (sym c.in-Some-node.ensures) (sym c.in-Some-target.ensures)
    (no_end c.args.follow_last _ c.pop.new.self.items _ c.pop.new.self.ok.0 c.is_empty.ensures c.else-is_empty.either) c.leave-in-Some-target.ensures
