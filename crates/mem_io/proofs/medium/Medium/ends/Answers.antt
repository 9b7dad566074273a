use Rattle.std.proofs.Common.{inr}
use Rattle.mem_io.specs.Medium.{told_tree}
use Rattle.mem_io.proofs.medium.MediumLemmas.{stands_other}
use Rattle.mem_io.proofs.medium.Medium.ends.Goals as goal

pub returns-then-not-is_file-2-clause-hindered : goal.returns-then-not-is_file-2-clause-hindered
returns-then-not-is_file-2-clause-hindered c =
    inr (inr (stands_other (told_tree c.args.self.now) c.args.to.now _ c.in-Some-2.target c.node.result _ _ c.in_ok-target.ensures.answer c.in-Some-2.is c.node.ensures c.is_some.ensures c.if-is_some.true
    c.is_file-then-is_some.ensures c.if-not-is_file-2.true))
