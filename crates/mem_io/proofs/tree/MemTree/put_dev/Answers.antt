use Rattle.std.proofs.Common.{◌∙◌}
use Rattle.mem_io.specs.MemTreeView.{mem_tree}
use Rattle.mem_io.proofs.trail.TrailLemmas.{empty_path}
use Rattle.mem_io.proofs.trail.DeviceLemmas.{empty_nowhere, device_at, leads_nowhere}
use Rattle.mem_io.proofs.tree.MemTree.put_dev.Goals as goal

pub returns-then-is_empty-clause-nowhere : goal.returns-then-is_empty-clause-nowhere
returns-then-is_empty-clause-nowhere c = λ _. empty_nowhere (mem_tree c.args.self.now) c.args.path.now (empty_path c.args.path.now c.is_empty.result c.is_empty.ensures ∙ c.if-is_empty.true)

pub returns-clause-put : goal.returns-clause-put
returns-clause-put c = λ stands.
    device_at (mem_tree c.args.self.now) _ c.args.log.now _ c.args.path.now c.args.dev (empty_path c.args.path.now c.is_empty.result c.is_empty.ensures ∙ c.if-is_empty.false) (c.put_dev_from.ensures.put stands)

pub returns-clause-nowhere : goal.returns-clause-nowhere
returns-clause-nowhere c = λ nothing.
    leads_nowhere (mem_tree c.args.self.now) c.args.self.now.sound.is_tree c.args.path.now (empty_path c.args.path.now c.is_empty.result c.is_empty.ensures ∙ c.if-is_empty.false) (c.put_dev_from.ensures.nowhere nothing)
