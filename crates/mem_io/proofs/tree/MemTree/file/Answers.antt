use Rattle.std.proofs.Common.{◌∙◌, sym, None}
use Rattle.sd_io.specs.Tree.{file_content}
use Rattle.mem_io.specs.MemTreeView.{mem_tree}
use Rattle.mem_io.proofs.trail.TrailLemmas.{no_file, empty_path, plain_file_is, both_parts, no_bytes}
use Rattle.mem_io.proofs.tree.MemTree.file.Goals as goal
use Rattle.mem_io.proofs.tree.MemTree.file.Goals.{After-node_from}

pub returns-then-is_empty : goal.returns-then-is_empty
returns-then-is_empty c = sym (no_file (mem_tree c.args.self.now) c.args.path.now (empty_path c.args.path.now c.is_empty.result c.is_empty.ensures ∙ c.if-is_empty.true))

pub returns-in_err-node : goal.returns-in_err-node
returns-in_err-node c =
    let some = empty_path c.args.path.now c.is_empty.result c.is_empty.ensures ∙ c.if-is_empty.false in
    rw c.from_residual.ensures (plain_file_is (mem_tree c.args.self.now) c.args.path.now None some c.in_err-node.ensures)

pub returns-in_err-bytes : goal.returns-in_err-bytes
returns-in_err-bytes c =
    let some = empty_path c.args.path.now c.is_empty.result c.is_empty.ensures ∙ c.if-is_empty.false in
    rw c.from_residual-in_err-bytes.ensures
    (sym (no_bytes (file_content c.in_ok-node.node.now.content) c.in_err-bytes.ensures) ∙ plain_file_is (mem_tree c.args.self.now) c.args.path.now _ some c.in_ok-node.ensures)

pub returns : goal.returns
returns c =
    let some = empty_path c.args.path.now c.is_empty.result c.is_empty.ensures ∙ c.if-is_empty.false in
    both_parts (file_content c.in_ok-node.node.now.content) _ _ c.in_ok-bytes.ensures c.in_ok-mode.ensures ∙ plain_file_is (mem_tree c.args.self.now) c.args.path.now _ some c.in_ok-node.ensures
