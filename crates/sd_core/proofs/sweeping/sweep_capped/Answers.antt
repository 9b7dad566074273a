use Rattle.std.proofs.Common.{◌≡◌, sym, subst, rules}
use Rattle.sd_course.specs.Course.{course}
use Rattle.sd_core.specs.Selection.{by_globs}
use Rattle.sd_core.specs.Sweep.{Sweeps}
use Rattle.sd_core.proofs.selecting.GlobLemmas.{none_first}
use Rattle.sd_core.proofs.selecting.SelectionLemmas.{globs_select}
use Rattle.sd_core.proofs.sweeping.SweepLemmas.{answered_is, sweeps_end}
use Rattle.sd_core.proofs.sweeping.sweep_capped.Goals as goal

pub returns : goal.returns
returns g c =
    let s0 = g.D.Disk.state c.args.disk.now in
    let root = c.args.root.now in
    let globs = c.args.globs.now in
    let e = c.in_ok-paths.ensures in
    let r = c.rewrite_each.ensures in
    subst (λ answer. Sweeps (g.R.Replaces.change c.args.replacer.now) (by_globs root globs) c.args.cap (c.rewrite_each.new.disk ≡ c.args.disk.now) answer (course g.D.Disk.tells s0 (g.D.Disk.state c.rewrite_each.new.disk)))
    (sym (answered_is c.rewrite_each.result c.map_err.result c.map_err.ensures.cases))
    (sweeps_end (g.R.Replaces.change c.args.replacer.now) (by_globs root globs) (globs_select root globs) s0 (g.D.Disk.state c.select.new.disk) (g.D.Disk.state c.rewrite_each.new.disk) e.tree
    c.in_ok-paths.paths.items c.args.cap g.D.Disk.tells e.never_falls (λ told. g.met.D.Disk.is_tree c.args.disk.now told) e.selected e.few e.below_root e.named
    (c.rewrite_each.new.disk ≡ c.args.disk.now) (λ place at. none_first globs place e.valid at)
    c.rewrite_each.result (search rules) r.never_falls r.fails r.listed r.complete)
