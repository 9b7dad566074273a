use Rattle.std.proofs.Common.{◌∙◌, sym, ap}
use Rattle.mem_io.specs.MemTreeView.{mem_tree}
use Rattle.mem_io.specs.MemNode.{now_of}
use Rattle.mem_io.specs.MemTrail.{names_of, plain_node}
use Rattle.mem_io.proofs.trail.TrailLemmas.{less_left, plain_down, next_part}
use Rattle.mem_io.proofs.tree.MemTree.+node_from.Goals as goal

pub node_from-requires : goal.node_from-requires
node_from-requires t c = (less_left (now_of c.args.rest) (now_of c.cut.result.1) c.in-Some.path.now t c.decreases (ap now_of c.in-Some.is) c.cut.ensures.shorter, tt)

pub node_from-requires-then-eq : goal.node_from-requires-then-eq
node_from-requires-then-eq t c = (less_left (now_of c.args.rest) (now_of c.cut.result.1) c.in-Some.path.now t c.decreases (ap now_of c.in-Some.is) c.cut.ensures.shorter, tt)

pub node_from-requires-2 : goal.node_from-requires-2
node_from-requires-2 t c = (less_left (now_of c.args.rest) (now_of c.cut.result.1) c.in-Some.path.now t c.decreases (ap now_of c.in-Some.is) c.cut.ensures.shorter, tt)

pub returns : goal.returns
returns t c =
    let parts = next_part (now_of c.args.rest) (now_of c.cut.result.1) c.in-Some.path.now c.cut.result.0.now (ap now_of c.in-Some.is) c.cut.ensures.pieces (sym c.if-is_dropped.ensures) in
    c.node_from-2.ensures
    ∙ sym (ap (plain_node (mem_tree c.args.self.now) (names_of c.args.trail.now)) parts
    ∙ plain_down (mem_tree c.args.self.now) (names_of c.args.trail.now) c.cut.result.0.now _ (sym c.if-not-is_directory_on.ensures) (sym c.if-eq.ensures))
