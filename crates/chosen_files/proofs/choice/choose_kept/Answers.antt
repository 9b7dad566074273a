use Rattle.std.proofs.Common.{◌∙◌, subst, arith}
use Rattle.sd_io.specs.Tree.{Tree}
use Rattle.chosen_files.specs.Kept.{ListsKept}
use Rattle.chosen_files.specs.Seen.{HasFewerSeen, ListsOnlySeen}
use Rattle.chosen_files.proofs.choice.BeginLemmas.{resolves_on}
use Rattle.chosen_files.proofs.choice.WalkLemmas.{chooses_fails, keep_later, lists_on, lists_same, quiet_later}
use Rattle.chosen_files.proofs.choice.choose_kept.Goals as goal

pub returns-in_err-top : goal.returns-in_err-top
returns-in_err-top g c =
    let s = g.D.Disk.state c.args.disk.now in
    let t = g.D.Disk.state c.resolve_root.new.disk in
    let did = c.in_err-top.ensures in
    chooses_fails c.args.root.now c.args.globs.now c.args.rules.now c.args.cap g.D.Disk.tells s t c.from_residual.result c.in_err-top.field-0.0 c.from_residual.ensures.1
    (did.refused c.args.rules.now c.args.cap) did.tree (lists_same 10 s t did.lists) did.faults (let same = did.lists.listed in omega (arith, same))

pub returns-in_err-paths : goal.returns-in_err-paths
returns-in_err-paths g c =
    let s = g.D.Disk.state c.args.disk.now in
    let t = g.D.Disk.state c.resolve_root.new.disk in
    let u = g.D.Disk.state c.pick_below.new.disk in
    let top = c.in_ok-top.ensures in
    let did = c.in_err-paths.ensures in
    let tree = top.tree in
    let more = did.tree in
    let before = top.faults in
    let after = did.faults in
    chooses_fails c.args.root.now c.args.globs.now c.args.rules.now c.args.cap g.D.Disk.tells s u c.from_residual-in_err-paths.result c.in_err-paths.field-0.0 c.from_residual-in_err-paths.ensures.1
    (keep_later c.args.root.now c.args.rules.now c.args.cap g.D.Disk.tells s t u c.in_err-paths.field-0.0 tree before top.lists.listed
    (did.refused (λ told. resolves_on s t c.args.root.now _ c.as_str.result.now tree.tree c.as_str.ensures.same (top.top told))))
    (record { tree = more.tree ∙ tree.tree; clock = more.clock ∙ tree.clock; outcomes = more.outcomes ∙ tree.outcomes }) (lists_on 10 s t u top.lists did.lists) (omega (arith, before, after))
    (let same = top.lists.listed in let rose = did.later in omega (arith, same, rose))

pub returns : goal.returns
returns g c =
    let s = g.D.Disk.state c.args.disk.now in
    let t = g.D.Disk.state c.resolve_root.new.disk in
    let u = g.D.Disk.state c.pick_below.new.disk in
    let root = c.args.root.now in
    let globs = c.args.globs.now in
    let rules = c.args.rules.now in
    let top = c.in_ok-top.ensures in
    let did = c.in_ok-paths.ensures in
    let tree = top.tree in
    let more = did.tree in
    let before = top.faults in
    let after = did.faults in
    let paths = c.in_ok-paths.paths.items in
    record {
      kept = λ told. subst (λ (x : Tree). ListsKept x root globs rules paths) tree.tree
          (did.kept told (resolves_on s t root _ c.as_str.result.now tree.tree c.as_str.ensures.same (top.top told)));
      below_root = did.below_root;
      few = λ told. subst (λ (x : Tree). HasFewerSeen c.args.cap x root rules) tree.tree
          (did.few told (resolves_on s t root _ c.as_str.result.now tree.tree c.as_str.ensures.same (top.top told)));
      listed = λ told quiet. subst (λ n. ListsOnlySeen s.tree root rules n u.listed) top.lists.listed
          (subst (λ (x : Tree). ListsOnlySeen x root rules t.listed u.listed) tree.tree
          (did.listed told (resolves_on s t root _ c.as_str.result.now tree.tree c.as_str.ensures.same (top.top told)) (quiet_later s.faults t.faults u.faults before quiet)));
      refused = tt;
      complete = λ told leads few unfailed. tt;
      tree = record { tree = more.tree ∙ tree.tree; clock = more.clock ∙ tree.clock; outcomes = more.outcomes ∙ tree.outcomes };
      lists = lists_on 10 s t u top.lists did.lists;
      faults = omega (arith, before, after);
      later = (let same = top.lists.listed in let rose = did.later in omega (arith, same, rose));
    }
