use Rattle.std.proofs.Common.{◌≡◌, ◌++◌, arith}
use Rattle.std.proofs.lemmas.Grind.{common_steps}
use Rattle.hir_core.proofs.thread_list.RowsLemmas.{rows-push}
use Rattle.hir_core.proofs.thread_list.ThreadList.push.Goals as goal

pub returns : goal.returns
returns c =
    let starts : c.extend_from_slice.new.self.items ≡ c.self.inside.starts.items ++ c.args.trail.now.starts.items = grind (arith, common_steps) in
    let groups : c.extend_from_slice-2.new.self.items ≡ c.self.inside.groups.items ++ c.args.trail.now.groups.items = grind (arith, common_steps) in
    rows-push c.self.inside.starts.items c.extend_from_slice.new.self.items c.args.trail.now.starts.items c.self.inside.groups.items c.extend_from_slice-2.new.self.items
    c.args.trail.now.groups.items c.self.inside.rows.items c.push.new.self.items _ c.args.self.now starts groups c.in_ok-push.ensures.items c.self.invariant
    (omega arith) (omega arith) (omega arith) (omega arith) c.self.view_is
