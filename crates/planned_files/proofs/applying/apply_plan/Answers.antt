use Rattle.std.proofs.Common.{ℕ, List, map, sym, ap, subst, ◌∙◌, rules}
use Rattle.std.specs.Prelude.{IsTrue, All}
use Rattle.sd_course.specs.Course.{course}
use Rattle.many_files.specs.InTurn.{DoesFiles, FilesFail}
use Rattle.many_files.specs.Clear.{AreFilesClear}
use Rattle.sd_plan.specs.declared.line.PlanLine.{PlanLine}
use Rattle.planned_files.specs.Planned.{path_of}
use Rattle.planned_files.specs.Checked.{IsRight, CheckFails}
use Rattle.planned_files.specs.Applied.{Applies}
use Rattle.planned_files.proofs.planning.PlanLemmas.{is_told}
use Rattle.planned_files.proofs.applying.ApplyLemmas.{check_refused, all_rewritten, some_failed}
use Rattle.planned_files.proofs.applying.apply_plan.Goals as goal

pub returns-in_err-paths : goal.returns-in_err-paths
returns-in_err-paths g c =
    let change = g.R.Replaces.change c.args.replacer.now in
    let s0 = g.D.Disk.state c.args.disk.now in
    let s1 = g.D.Disk.state c.check_lines.new.disk in
    let failed = c.in_err-paths.field-0.0 in
    let fails = subst (λ (lines : List PlanLine). CheckFails change lines (course g.D.Disk.tells s0 s1) failed) c.lines.ensures.lines c.in_err-paths.ensures.fails in
    subst (λ r. Applies change c.args.plan.now r (course g.D.Disk.tells s0 s1)) (sym (is_told c.from_residual.result _ c.from_residual.ensures.1))
    (check_refused change (g.met.R.Replaces.one c.args.replacer.now) g.D.Disk.tells c.args.plan.now s0 s1 c.check_lines.ensures.tree c.check_lines.ensures.lists
    c.check_lines.ensures.never_falls failed fails)

pub returns-in_err-report : goal.returns-in_err-report
returns-in_err-report g c =
    let change = g.R.Replaces.change c.args.replacer.now in
    let lines = c.args.plan.now in
    let s0 = g.D.Disk.state c.args.disk.now in
    let s1 = g.D.Disk.state c.check_lines.new.disk in
    let s2 = g.D.Disk.state c.rewrite_each.new.disk in
    let right = λ (told : IsTrue g.D.Disk.tells). subst (λ (lines : List PlanLine). All (IsRight change s0.tree) lines) c.lines.ensures.lines (c.in_ok-paths.ensures.right told) in
    let paths = c.in_ok-paths.ensures.paths ∙ ap (map path_of) c.lines.ensures.lines in
    let failed = c.in_err-report.field-0.0 in
    subst (λ r. Applies change lines r (course g.D.Disk.tells s0 s2)) (sym (is_told c.from_residual-in_err-report.result _ c.from_residual-in_err-report.ensures.1))
    (some_failed change (g.met.R.Replaces.one c.args.replacer.now) g.D.Disk.tells lines s0 s1 s2 c.check_lines.ensures.tree c.check_lines.ensures.never_falls right (search rules)
    c.in_err-report.ensures.never_falls failed (subst (λ (list : List (List ℕ)). FilesFail change list (course g.D.Disk.tells s1 s2) failed) paths c.in_err-report.ensures.fails)
    (λ clear. c.in_err-report.ensures.complete (subst (λ (list : List (List ℕ)). AreFilesClear list (course g.D.Disk.tells s1 s2)) (sym paths) clear))
    (λ told. g.met.D.Disk.is_tree c.args.disk.now told))

pub returns : goal.returns
returns g c =
    let change = g.R.Replaces.change c.args.replacer.now in
    let s0 = g.D.Disk.state c.args.disk.now in
    let s1 = g.D.Disk.state c.check_lines.new.disk in
    let s2 = g.D.Disk.state c.rewrite_each.new.disk in
    let right = λ (told : IsTrue g.D.Disk.tells). subst (λ (lines : List PlanLine). All (IsRight change s0.tree) lines) c.lines.ensures.lines (c.in_ok-paths.ensures.right told) in
    let paths = c.in_ok-paths.ensures.paths ∙ ap (map path_of) c.lines.ensures.lines in
    let report = c.in_ok-report.report in
    all_rewritten change (g.met.R.Replaces.one c.args.replacer.now) g.D.Disk.tells c.args.plan.now s0 s1 s2 c.check_lines.ensures.tree c.check_lines.ensures.never_falls right (search rules)
    c.in_ok-report.ensures.never_falls report
    (subst (λ (list : List (List ℕ)). DoesFiles change list report (course g.D.Disk.tells s1 s2)) paths c.in_ok-report.ensures.done)
