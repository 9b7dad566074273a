use Rattle.std.specs.Prelude.{Contains}
use Rattle.std.proofs.Common.{rules, subst, sym, ◌∙◌, refl, arith, List}
use Rattle.journal_text.specs.declared.line.Line.{Line}
use Rattle.journal.proofs.PlanningLemmas.{IsMadeTo, made_none, adds_same, no_paths, path_at, left_on, made_more, not_unchanged, adds_then, adds_stage, stages_none, stages_same, stages_more, paths_still, paths_more, made_all}
use Rattle.journal.proofs.StagingLemmas.{contains_path, count_none, count_same, count_more, count_all, stages_free, left_free, free_then, stages_fail}
use Rattle.journal.proofs.CauseLemmas.{told_on}
use Rattle.journal.proofs.planning.make_stages.Goals as goal
use Rattle.journal.proofs.planning.make_stages.Goals.{in-Some+in_ok-push, in_default}

pub loop-path-init : goal.loop-path-init
loop-path-init g c =
    let start = g.D.Disk.state c.args.disk.now in
    record {
      never_falls = omega arith;
      lists = search rules;
      made = λ told work p. subst (λ (ls : List Line). IsMadeTo work start 0 ls start) (sym c.new-journal.ensures) (made_none work start p.preparing_now);
      adds = λ told. adds_same start start (record { tree = refl; clock = refl; outcomes = refl });
      stages = λ told. stages_none start c.new-journal.result c.new-journal.ensures;
      counted = λ told lead. count_none (g.R.Replaces.change c.args.replacer.now) start.tree c.args.paths.now c.new-journal.result c.new-journal.ensures;
      paths = λ told. no_paths start.tree c.new-journal.result c.new-journal.ensures;
    }

pub returns-in_err-line-clause-kept : goal.returns-in_err-line-clause-kept
returns-in_err-line-clause-kept g c =
    λ told work p.
    let change = g.R.Replaces.change c.args.replacer.now in
    let one = g.met.R.Replaces.one c.args.replacer.now in
    let paths = c.args.paths.now in
    let start = g.D.Disk.state c.args.disk.now in
    let n = c.loop-path.path-index in
    let lines = c.loop-path.journal in
    let now = g.D.Disk.state c.loop-path.disk in
    let next = g.D.Disk.state c.stage_file.new.disk in
    let path = c.as_str.result.now in
    let at = path_at paths n c.path-item.result path (omega arith) c.path-item.is c.as_str.ensures.same in
    let holds = g.met.D.Disk.holds_present c.loop-path.disk told in
    let to = c.loop-path.invariant.made told work p in
    left_on change one work paths start p n lines now holds to path at next (c.stage_file.ensures.left told)

pub returns-in_err-push-clause-kept : goal.returns-in_err-push-clause-kept
returns-in_err-push-clause-kept g c =
    λ told work p.
    let change = g.R.Replaces.change c.args.replacer.now in
    let one = g.met.R.Replaces.one c.args.replacer.now in
    let paths = c.args.paths.now in
    let start = g.D.Disk.state c.args.disk.now in
    let n = c.loop-path.path-index in
    let lines = c.loop-path.journal in
    let now = g.D.Disk.state c.loop-path.disk in
    let next = g.D.Disk.state c.stage_file.new.disk in
    let path = c.as_str.result.now in
    let at = path_at paths n c.path-item.result path (omega arith) c.path-item.is c.as_str.ensures.same in
    let holds = g.met.D.Disk.holds_present c.loop-path.disk told in
    let to = c.loop-path.invariant.made told work p in
    left_on change one work paths start p n lines now holds to path at next (c.stage_file.ensures.left told)

pub loop-path-preserved : goal.loop-path-preserved
loop-path-preserved g c =
    let change = g.R.Replaces.change c.args.replacer.now in
    let one = g.met.R.Replaces.one c.args.replacer.now in
    let paths = c.args.paths.now in
    let start = g.D.Disk.state c.args.disk.now in
    let n = c.loop-path.path-index in
    let lines = c.loop-path.journal in
    let now = g.D.Disk.state c.loop-path.disk in
    let next = g.D.Disk.state c.stage_file.new.disk in
    let path = c.as_str.result.now in
    let at = path_at paths n c.path-item.result path (omega arith) c.path-item.is c.as_str.ensures.same in
    record {
      never_falls = omega (arith, c.loop-path.invariant.never_falls, c.in_ok-line.ensures.never_falls);
      lists = search rules;
      made = λ told work p.
          let holds = g.met.D.Disk.holds_present c.loop-path.disk told in
          let to = c.loop-path.invariant.made told work p in
          elim c.match-branch-2.branch [
            | in-Some+in_ok-push w ↦
                made_more change one work paths start p n lines now holds to path at w.in-Some.line next (rw w.in-Some.is at (c.in_ok-line.ensures.staged told)) (c.stage_file.ensures.left told)
                c.match-branch-2.journal (w.journal-is ∙ w.in_ok-push.ensures.pushed)
            | in_default w ↦
                absurd (not_unchanged change one work paths start p n lines now holds to path at next (rw w.in_default.is at (c.in_ok-line.ensures.unchanged told)))
          ];
      adds = λ told.
          elim c.match-branch-2.branch [
            | in-Some+in_ok-push w ↦ adds_then start now next (c.loop-path.invariant.adds told) (adds_stage change path w.in-Some.line now next (rw w.in-Some.is at (c.in_ok-line.ensures.staged told)))
            | in_default w ↦ (let u = rw w.in_default.is at (c.in_ok-line.ensures.unchanged told) in adds_then start now next (c.loop-path.invariant.adds told) (adds_same now next u.same))
          ];
      stages = λ told.
          elim c.match-branch-2.branch [
            | in-Some+in_ok-push w ↦
                stages_more change path w.in-Some.line lines c.match-branch-2.journal start now next (w.journal-is ∙ w.in_ok-push.ensures.pushed) (c.loop-path.invariant.stages told)
                (rw w.in-Some.is at (c.in_ok-line.ensures.staged told))
            | in_default w ↦
                (let u = rw w.in_default.is at (c.in_ok-line.ensures.unchanged told) in stages_same lines c.match-branch-2.journal start now next w.journal-is (c.loop-path.invariant.stages told) u.same)
          ];
      counted = λ told lead.
          let has = contains_path paths n path at in
          elim c.match-branch-2.branch [
            | in-Some+in_ok-push w ↦
                count_more change start now next paths n path at lines c.match-branch-2.journal (c.loop-path.invariant.counted told lead) (c.loop-path.invariant.adds told) (lead path has) w.in-Some.line
                (w.journal-is ∙ w.in_ok-push.ensures.pushed) (rw w.in-Some.is at (c.in_ok-line.ensures.staged told))
            | in_default w ↦ count_same change start now next paths n path at lines c.match-branch-2.journal (c.loop-path.invariant.counted told lead) w.journal-is
          ];
      paths = λ told.
          elim c.match-branch-2.branch [
            | in-Some+in_ok-push w ↦
                (let m = rw w.in-Some.is at (c.in_ok-line.ensures.staged told) in
                paths_more now next lines c.match-branch-2.journal w.in-Some.line (adds_stage change path w.in-Some.line now next m) (w.journal-is ∙ w.in_ok-push.ensures.pushed) (c.loop-path.invariant.paths told) m.is_path)
            | in_default w ↦
                (let u = rw w.in_default.is at (c.in_ok-line.ensures.unchanged told) in
                λ line has. paths_still now next lines (adds_same now next u.same) (c.loop-path.invariant.paths told) line (subst (λ (ls : List Line). Contains ls line) w.journal-is has))
          ];
    }

pub returns-clause-made : goal.returns-clause-made
returns-clause-made g c =
    λ told work p.
    made_all (g.R.Replaces.change c.args.replacer.now) work c.args.paths.now (g.D.Disk.state c.args.disk.now) p c.loop-path.path-index c.loop-path.journal (g.D.Disk.state c.loop-path.disk)
    (omega (arith, c.loop-path-test.false, c.loop-path.auto.path-index-end)) (c.loop-path.invariant.made told work p)

pub returns-in_err-line-clause-free : goal.returns-in_err-line-clause-free
returns-in_err-line-clause-free g c =
    λ told.
    let change = g.R.Replaces.change c.args.replacer.now in
    let paths = c.args.paths.now in
    let start = g.D.Disk.state c.args.disk.now in
    let n = c.loop-path.path-index in
    let lines = c.loop-path.journal in
    let now = g.D.Disk.state c.loop-path.disk in
    let next = g.D.Disk.state c.stage_file.new.disk in
    let path = c.as_str.result.now in
    let at = path_at paths n c.path-item.result path (omega arith) c.path-item.is c.as_str.ensures.same in
    free_then start.tree now.tree next.tree (stages_free lines start.tree now.tree (c.loop-path.invariant.stages told)) (left_free path now next (c.stage_file.ensures.left told))

pub returns-in_err-push-clause-free : goal.returns-in_err-push-clause-free
returns-in_err-push-clause-free g c =
    λ told.
    let change = g.R.Replaces.change c.args.replacer.now in
    let paths = c.args.paths.now in
    let start = g.D.Disk.state c.args.disk.now in
    let n = c.loop-path.path-index in
    let lines = c.loop-path.journal in
    let now = g.D.Disk.state c.loop-path.disk in
    let next = g.D.Disk.state c.stage_file.new.disk in
    let path = c.as_str.result.now in
    let at = path_at paths n c.path-item.result path (omega arith) c.path-item.is c.as_str.ensures.same in
    free_then start.tree now.tree next.tree (stages_free lines start.tree now.tree (c.loop-path.invariant.stages told)) (left_free path now next (c.stage_file.ensures.left told))

pub returns-clause-free : goal.returns-clause-free
returns-clause-free g c =
    λ told. stages_free c.loop-path.journal (g.D.Disk.state c.args.disk.now).tree (g.D.Disk.state c.loop-path.disk).tree (c.loop-path.invariant.stages told)

pub returns-clause-counted : goal.returns-clause-counted
returns-clause-counted g c =
    λ told lead.
    count_all (g.R.Replaces.change c.args.replacer.now) (g.D.Disk.state c.args.disk.now).tree c.args.paths.now c.loop-path.path-index c.loop-path.journal
    (omega (arith, c.loop-path-test.false, c.loop-path.auto.path-index-end)) (c.loop-path.invariant.counted told lead)

pub returns-in_err-line-clause-fails : goal.returns-in_err-line-clause-fails
returns-in_err-line-clause-fails g c =
    let change = g.R.Replaces.change c.args.replacer.now in
    let paths = c.args.paths.now in
    let start = g.D.Disk.state c.args.disk.now in
    let n = c.loop-path.path-index in
    let lines = c.loop-path.journal in
    let now = g.D.Disk.state c.loop-path.disk in
    let next = g.D.Disk.state c.stage_file.new.disk in
    let path = c.as_str.result.now in
    let at = path_at paths n c.path-item.result path (omega arith) c.path-item.is c.as_str.ensures.same in
    told_on _ c.from_residual.result _ c.from_residual.ensures.1
    (stages_fail change g.D.Disk.tells start now next paths n path at c.loop-path.invariant.never_falls lines c.loop-path.invariant.adds c.loop-path.invariant.stages c.loop-path.invariant.counted
    c.in_err-line.field-0.0 c.in_err-line.ensures.fails)
