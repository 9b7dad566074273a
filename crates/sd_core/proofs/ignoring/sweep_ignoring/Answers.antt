use Rattle.std.proofs.Common.{◌≡◌, sym, subst, rules}
use Rattle.sd_course.specs.Course.{course}
use Rattle.sd_core.specs.Ignoring.{SweepsKept}
use Rattle.sd_core.specs.Selection.{by_rules}
use Rattle.sd_core.specs.Sweep.{sweep_cap}
use Rattle.sd_core.proofs.ignoring.KeptLemmas.{swept}
use Rattle.sd_core.proofs.selecting.GlobLemmas.{none_first}
use Rattle.sd_core.proofs.selecting.SelectionLemmas.{rules_select}
use Rattle.sd_core.proofs.sweeping.SweepLemmas.{answered_is, sweeps_end}
use Rattle.sd_core.proofs.ignoring.sweep_ignoring.Goals as goal

pub returns : goal.returns
returns g c =
    let change = g.R.Replaces.change c.args.replacer.now in
    let s0 = g.D.Disk.state c.args.disk.now in
    let s1 = g.D.Disk.state c.select_kept.new.disk in
    let s2 = g.D.Disk.state c.rewrite_each.new.disk in
    let root = c.args.root.now in
    let globs = c.args.globs.now in
    let rules_are = c.args.rules.now in
    let e = c.in_ok-paths.ensures in
    let r = c.rewrite_each.ensures in
    subst (λ answer. SweepsKept change root globs rules_are (c.rewrite_each.new.disk ≡ c.args.disk.now) answer (course g.D.Disk.tells s0 s2))
    (sym (answered_is c.rewrite_each.result c.map_err.result c.map_err.ensures.cases))
    (swept change root globs rules_are (c.rewrite_each.new.disk ≡ c.args.disk.now) g.D.Disk.tells s0 s1 s2 c.rewrite_each.result
    (sweeps_end change (by_rules root globs rules_are) (rules_select root globs rules_are) s0 s1 s2 e.tree c.in_ok-paths.paths.items sweep_cap g.D.Disk.tells
    e.never_falls (λ told. g.met.D.Disk.is_tree c.args.disk.now told) e.selected e.few e.below_root e.named
    (c.rewrite_each.new.disk ≡ c.args.disk.now) (λ place at. none_first globs place e.valid at)
    c.rewrite_each.result (search rules) r.never_falls r.fails r.listed r.complete)
    r.never_falls r.lists.listed e.only_seen)
