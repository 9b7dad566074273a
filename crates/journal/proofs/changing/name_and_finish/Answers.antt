use Rattle.journal.proofs.RecoveringLemmas.{between_on}
use Rattle.journal.proofs.FileLemmas.{ok_then}
use Rattle.journal.proofs.ChangingLemmas.{naming_between, may_place, nothing_left}
use Rattle.journal.proofs.EndingLemmas.{naming_fails, end_fails}
use Rattle.journal.proofs.CauseLemmas.{told_on}
use Rattle.journal.proofs.changing.name_and_finish.Goals as goal

pub returns-in_err-give_name-clause-kept : goal.returns-in_err-give_name-clause-kept
returns-in_err-give_name-clause-kept g c =
    λ told work m.
    let lines = c.args.journal.now in
    let s = g.D.Disk.state c.args.disk.now in
    let t = g.D.Disk.state c.give_name.new.disk in
    let k = c.give_name.ensures.kept told work lines m in
    naming_between work lines s t m.phase k

pub returns-clause-kept : goal.returns-clause-kept
returns-clause-kept g c =
    λ told work m.
    let lines = c.args.journal.now in
    let s = g.D.Disk.state c.args.disk.now in
    let t = g.D.Disk.state c.give_name.new.disk in
    let k = c.give_name.ensures.kept told work lines m in
    let p = may_place work lines s t m.phase k (c.in_ok-give_name.ensures.named told work lines m) in
    between_on work s t (g.D.Disk.state c.finish.new.disk) (naming_between work lines s t m.phase k) (c.finish.ensures.kept told work m.root_paths p)

pub returns-clause-done : goal.returns-clause-done
returns-clause-done g c =
    λ told work m.
    let lines = c.args.journal.now in
    let s = g.D.Disk.state c.args.disk.now in
    let t = g.D.Disk.state c.give_name.new.disk in
    let k = c.give_name.ensures.kept told work lines m in
    let p = may_place work lines s t m.phase k (c.in_ok-give_name.ensures.named told work lines m) in
    c.finish.ensures.done told work m.root_paths p

pub returns-clause-stages : goal.returns-clause-stages
returns-clause-stages g c =
    λ told work m.
    let lines = c.args.journal.now in
    let s = g.D.Disk.state c.args.disk.now in
    let t = g.D.Disk.state c.give_name.new.disk in
    let k = c.give_name.ensures.kept told work lines m in
    let p = may_place work lines s t m.phase k (c.in_ok-give_name.ensures.named told work lines m) in
    c.finish.ensures.stages told work m.root_paths p

pub returns-clause-tree : goal.returns-clause-tree
returns-clause-tree g c =
    λ told work m.
    let lines = c.args.journal.now in
    let s = g.D.Disk.state c.args.disk.now in
    let t = g.D.Disk.state c.give_name.new.disk in
    let k = c.give_name.ensures.kept told work lines m in
    let p = may_place work lines s t m.phase k (c.in_ok-give_name.ensures.named told work lines m) in
    ok_then _ _ c.finish.result (c.finish.ensures.tree told work m.root_paths p)
    (λ carried. nothing_left work lines c.args.temporary.now c.args.path.now c.args.root.now s t (g.D.Disk.state c.finish.new.disk) (g.met.D.Disk.is_tree c.args.disk.now told) (g.met.D.Disk.holds_present c.args.disk.now told) m
    (c.in_ok-give_name.ensures.tree told) carried)

pub returns-in_err-give_name-clause-fails : goal.returns-in_err-give_name-clause-fails
returns-in_err-give_name-clause-fails g c =
    λ written.
    told_on _ c.from_residual.result _ c.from_residual.ensures.1
    (naming_fails g.D.Disk.tells c.args.journal.now c.args.temporary.now c.args.path.now c.args.root.now (g.D.Disk.state c.args.disk.now) (g.met.D.Disk.is_tree c.args.disk.now) written (g.D.Disk.state c.give_name.new.disk)
    c.in_err-give_name.field-0.0 c.in_err-give_name.ensures.fails)

pub returns-clause-fails : goal.returns-clause-fails
returns-clause-fails g c =
    λ written.
    end_fails g.D.Disk.tells c.args.journal.now c.args.temporary.now c.args.path.now c.args.root.now (g.D.Disk.state c.args.disk.now) (g.met.D.Disk.is_tree c.args.disk.now) written (g.D.Disk.state c.give_name.new.disk)
    (g.D.Disk.state c.finish.new.disk) c.in_ok-give_name.ensures.tree (g.met.D.Disk.is_tree c.give_name.new.disk) c.in_ok-give_name.ensures.never_falls c.finish.result c.finish.ensures.fails
