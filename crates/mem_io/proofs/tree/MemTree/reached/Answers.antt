use Rattle.std.proofs.Common.{◌≡◌, subst, IfOk, Option}
use Rattle.sd_io.specs.Tree.{NameList}
use Rattle.mem_io.specs.MemTreeView.{mem_tree}
use Rattle.mem_io.proofs.walk.NamedLemmas.{reached_none, reached_by}
use Rattle.mem_io.proofs.tree.MemTree.reached.Goals as goal

pub returns-then-is_empty : goal.returns-then-is_empty
returns-then-is_empty c = reached_none (mem_tree c.args.self.now) c.args.path.now c.args.follow_last _ c.is_empty.ensures c.if-is_empty.true

pub returns : goal.returns
returns c =
    let by = reached_by (mem_tree c.args.self.now) c.args.path.now c.args.follow_last _ c.in_ok-parts.parts.items c.reverse.new.self.items c.is_empty.ensures c.if-is_empty.false c.in_ok-parts.ensures c.reverse.ensures.items in
    subst (λ (leads : Option NameList). IfOk c.follow.result (λ place. place ≡ leads)) by c.follow.ensures
