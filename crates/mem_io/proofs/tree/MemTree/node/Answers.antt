use Rattle.std.proofs.Common.{refl, sym, ◌∙◌}
use Rattle.std.proofs.lemmas.Bool.{false≢true}
use Rattle.mem_io.proofs.tree.EntryLemmas.{node_at_top, node_at_below}
use Rattle.mem_io.proofs.tree.MemTree.node.Goals as goal

pub returns-then-is_top : goal.returns-then-is_top
returns-then-is_top c = rw (c.if-is_top.ensures.0 refl) (sym (node_at_top c.args.self.now.top c.args.self.now.nodes.entries))

pub returns : goal.returns
returns c = c.get.ensures.value ∙ sym (node_at_below c.args.self.now.top c.args.self.now.nodes.entries c.args.place.now (λ e. false≢true (c.if-is_top.ensures.1 e)))
