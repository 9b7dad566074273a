use Rattle.std.proofs.Common.{◌≡◌, sym, subst, rules}
use Rattle.sd_course.specs.Course.{course}
use Rattle.sd_core.specs.Plan.{PlansTree}
use Rattle.sd_core.specs.Selection.{by_globs}
use Rattle.sd_core.specs.Sweep.{sweep_cap}
use Rattle.sd_core.proofs.planning.EndLemmas.{told_is, planned}
use Rattle.sd_core.proofs.selecting.GlobLemmas.{none_first}
use Rattle.sd_core.proofs.selecting.SelectionLemmas.{globs_select}
use Rattle.sd_core.proofs.planning.plan.Goals as goal

pub returns : goal.returns
returns g c =
    let change = g.R.Replaces.change c.args.replacer.now in
    let s0 = g.D.Disk.state c.args.disk.now in
    let s1 = g.D.Disk.state c.select.new.disk in
    let s2 = g.D.Disk.state c.plan_files.new.disk in
    let selection = by_globs c.args.root.now c.args.globs.now in
    let e = c.in_ok-paths.ensures in
    subst (λ answer. PlansTree change selection sweep_cap (c.plan_files.new.disk ≡ c.args.disk.now) answer (course g.D.Disk.tells s0 s2))
    (sym (told_is c.plan_files.result c.map_err.result c.map_err.ensures.cases))
    (planned change selection (globs_select c.args.root.now c.args.globs.now) s0 s1 s2 e.tree c.in_ok-paths.paths.items sweep_cap g.D.Disk.tells
    e.never_falls e.later (λ told. g.met.D.Disk.is_tree c.args.disk.now told) e.selected e.few
    (c.plan_files.new.disk ≡ c.args.disk.now) (λ place at. none_first c.args.globs.now place e.valid at)
    c.plan_files.result (search rules) (search rules) c.plan_files.ensures)
