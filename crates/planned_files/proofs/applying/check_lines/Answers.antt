use Rattle.std.proofs.Common.{◌≡◌, ◌+◌, ◌<◌, [], ◌∷◌, ◌++◌, map, length, take, sym, ap, subst, ◌∙◌, rules, arith}
use Rattle.std.proofs.lemmas.List.{take_more, map_push}
use Rattle.std.proofs.lemmas.List.Elements.{All-more}
use Rattle.std.proofs.lemmas.Result.{err_from_is_err_and}
use Rattle.sd_io.specs.Tree.{Tree}
use Rattle.sd_plan.specs.declared.line.PlanLine.{PlanLine}
use Rattle.planned_files.specs.Planned.{path_of}
use Rattle.planned_files.specs.Checked.{IsRight}
use Rattle.planned_files.proofs.applying.CheckLemmas.{check_fails}
use Rattle.planned_files.proofs.applying.check_lines.Goals as goal

pub returns-in_err-path-clause-fails : goal.returns-in_err-path-clause-fails
returns-in_err-path-clause-fails g c =
    let p = err_from_is_err_and c.from_residual-in_err-path.result c.from_residual-in_err-path.ensures.1 in
    rw (p.1, p.2)
    (check_fails (g.R.Replaces.change c.args.replacer.now) g.D.Disk.tells (g.D.Disk.state c.args.disk.now) (g.D.Disk.state c.loop-line.disk) (g.D.Disk.state c.check_line.new.disk)
    c.loop-line.invariant.tree c.loop-line.invariant.never_falls c.args.lines.now c.loop-line.line-index c.line-item.result c.loop-line-test.true c.line-item.is
    c.loop-line.invariant.right c.in_err-path.field-0.0 c.in_err-path.ensures.fails)

pub loop-line-preserved : goal.loop-line-preserved
loop-line-preserved g c =
    let change = g.R.Replaces.change c.args.replacer.now in
    let before = g.D.Disk.state c.args.disk.now in
    let i = c.loop-line.line-index in
    let lines = c.args.lines.now in
    let line = c.line-item.result in
    let lt : i < length lines = c.loop-line-test.true in
    let more : take (i + 1) lines ≡ take i lines ++ line ∷ [] = take_more lines i line lt ∙ ap (λ (l : PlanLine). take i lines ++ l ∷ []) (sym c.line-item.is) in
    record {
      tree = search rules;
      lists = search rules;
      never_falls = omega (arith, c.loop-line.invariant.never_falls, c.check_line.ensures.never_falls);
      paths =
          c.in_ok-push.ensures.items ∙ (λ j. c.loop-line.invariant.paths j ++ c.in_ok-path.ensures.path j ∷ []) ∙ sym (map_push path_of (take i lines) line)
          ∙ ap (map path_of) (sym more);
      right = λ told.
          All-more (IsRight change before.tree) lines i line lt (c.loop-line.invariant.right told)
          (subst (λ (l : PlanLine). IsRight change before.tree l) c.line-item.is
          (subst (λ (t : Tree). IsRight change t line) c.loop-line.invariant.tree.tree (c.in_ok-path.ensures.right told)));
    }
