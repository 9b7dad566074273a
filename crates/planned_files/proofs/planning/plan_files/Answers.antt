use Rattle.std.proofs.Common.{◌≡◌, ◌+◌, [], ◌∷◌, ◌++◌, map, take, drop, length, sym, ap, subst, ◌∙◌, rules, arith}
use Rattle.std.proofs.lemmas.List.{length_push, map-id}
use Rattle.std.proofs.lemmas.Iterator.Adapters.{YieldsList-from_vec}
use Rattle.std.proofs.lemmas.Iterator.Consumers.{YieldsList-turn, YieldsList-so_far}
use Rattle.sd_io.specs.Tree.{Tree}
use Rattle.sd_io.specs.declared.fault.DiskFault.TheVariants as disk
use Rattle.sd_course.specs.Course.{course}
use Rattle.sd_plan.specs.Plan.{replaced_in}
use Rattle.planned_files.specs.Planned.{IsLineOf, PlansFiles, Plans, path_of}
use Rattle.planned_files.proofs.planning.PlanLemmas.{zip_more, replaced_more, paths_more, cut_here, is_told, not_planned}
use Rattle.planned_files.proofs.planning.plan_files.Goals as goal

pub loop-path-preserved : goal.loop-path-preserved
loop-path-preserved g c =
    let change = g.R.Replaces.change c.args.replacer.now in
    let before = g.D.Disk.state c.args.disk.now in
    let lines = c.loop-path.plan in
    let line = c.in_ok-line.line in
    let done = c.loop-path.yielded in
    let path = c.in-Some.path in
    let pushed : c.push.new.self ≡ lines ++ line ∷ [] = c.in_ok-push.ensures.pushed in
    record {
      tree = search rules;
      lists = search rules;
      never_falls = omega (arith, c.loop-path.invariant.never_falls, c.plan_file.ensures.never_falls);
      paths = ap (map path_of) pushed ∙ paths_more lines line done path c.loop-path.invariant.paths c.in_ok-line.ensures.path;
      few = omega (arith, ap replaced_in pushed, replaced_more lines line, c.loop-path.invariant.few, c.in_ok-line.ensures.few, length_push done path);
      planned = λ told.
          subst (PlansFiles change before.tree (done ++ path ∷ [])) (sym pushed)
          (zip_more (IsLineOf change before.tree) done lines path line (c.loop-path.invariant.planned told)
          (subst (λ (t : Tree). IsLineOf change t path line) c.loop-path.invariant.tree.tree (c.in_ok-line.ensures.line told)));
    }

pub returns-in_err-line : goal.returns-in_err-line
returns-in_err-line g c =
    let made = c.into_iter-path-iterator.ensures.into_iter_gives in
    let done = c.loop-path.yielded in
    let items = c.args.paths.items in
    let all = YieldsList-from_vec items made.0 (made.1 ∙ c.args.paths.ok.0) in
    let turn = YieldsList-turn all done _ c.loop-path.yielded_by _ c.next.new.self c.in-Some.path c.in-Some.is c.next.ensures.steps in
    let front : done ≡ take (length done) items = sym (map-id done) ∙ YieldsList-so_far all done _ c.loop-path.yielded_by in
    let change = g.R.Replaces.change c.args.replacer.now in
    let s0 = g.D.Disk.state c.args.disk.now in
    let s1 = g.D.Disk.state c.loop-path.disk in
    let s2 = g.D.Disk.state c.plan_file.new.disk in
    subst (λ r. Plans change items r (course g.D.Disk.tells s0 s2)) (sym (is_told c.from_residual.result _ c.from_residual.ensures.1))
    (not_planned change g.D.Disk.tells s0 s1 s2 c.loop-path.invariant.tree c.loop-path.invariant.never_falls (search rules) (search rules)
    (omega (arith, c.loop-path.invariant.never_falls, c.plan_file.ensures.never_falls)) items done c.in-Some.path (drop (length done + 1) items) c.loop-path.plan
    (cut_here items done c.in-Some.path front turn.0 turn.1) c.loop-path.invariant.planned c.in_err-line.field-0.0 c.in_err-line.ensures.cause)

pub returns-in_err-push : goal.returns-in_err-push
returns-in_err-push g c =
    let made = c.into_iter-path-iterator.ensures.into_iter_gives in
    let done = c.loop-path.yielded in
    let items = c.args.paths.items in
    let all = YieldsList-from_vec items made.0 (made.1 ∙ c.args.paths.ok.0) in
    let turn = YieldsList-turn all done _ c.loop-path.yielded_by _ c.next.new.self c.in-Some.path c.in-Some.is c.next.ensures.steps in
    let front : done ≡ take (length done) items = sym (map-id done) ∙ YieldsList-so_far all done _ c.loop-path.yielded_by in
    let change = g.R.Replaces.change c.args.replacer.now in
    let s0 = g.D.Disk.state c.args.disk.now in
    let s1 = g.D.Disk.state c.loop-path.disk in
    let s2 = g.D.Disk.state c.plan_file.new.disk in
    subst (λ r. Plans change items r (course g.D.Disk.tells s0 s2)) (sym (is_told c.from_residual-in_err-push.result _ c.from_residual-in_err-push.ensures.1))
    (not_planned change g.D.Disk.tells s0 s1 s2 c.loop-path.invariant.tree c.loop-path.invariant.never_falls (search rules) (search rules)
    (omega (arith, c.loop-path.invariant.never_falls, c.plan_file.ensures.never_falls)) items done c.in-Some.path (drop (length done + 1) items) c.loop-path.plan
    (cut_here items done c.in-Some.path front turn.0 turn.1) c.loop-path.invariant.planned disk.NoMemory tt)
