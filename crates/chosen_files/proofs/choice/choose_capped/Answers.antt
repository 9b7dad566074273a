use Rattle.std.proofs.Common.{[], subst}
use Rattle.sd_course.specs.Course.{course}
use Rattle.chosen_files.specs.declared.choice.Choice.{Choice}
use Rattle.chosen_files.specs.Below.{HasFewerBelow}
use Rattle.chosen_files.specs.Choice.{ChoiceFails, Chooses, KeepFails}
use Rattle.chosen_files.specs.Chosen.{ListsChosen}
use Rattle.chosen_files.specs.Kept.{ListsKept}
use Rattle.chosen_files.specs.Seen.{HasFewerSeen}
use Rattle.chosen_files.proofs.laws.KeptLemmas.{fewer_below, fewer_seen_below, kept_paths}
use Rattle.chosen_files.proofs.choice.BeginLemmas.{err_map, ok_map, on_map}
use Rattle.chosen_files.proofs.choice.WalkLemmas.{fails_for_none}
use Rattle.chosen_files.proofs.choice.choose_capped.Goals as goal

pub returns : goal.returns
returns g c =
    let s = g.D.Disk.state c.args.disk.now in
    let t = g.D.Disk.state c.choose_kept-2.new.disk in
    let root = c.args.root.now in
    let globs = c.args.globs.now in
    let cap = c.args.cap in
    let d = course g.D.Disk.tells s t in
    let result = c.choose_kept-2.result in
    let none : Chooses root globs [] cap d result = subst (λ rules. Chooses root globs rules cap d result) c.new.ensures c.choose_kept-2.ensures in
    record {
      chosen = λ told. ok_map (λ (choice : Choice). ListsKept s.tree root globs [] choice.paths.items) (λ (choice : Choice). ListsChosen s.tree root globs choice.paths.items) result
          (λ choice kept. kept_paths s.tree root globs choice.paths.items kept) (none.kept told);
      below_root = none.below_root;
      few = λ told. on_map (HasFewerSeen cap s.tree root []) (HasFewerBelow cap s.tree root) result (fewer_below cap s.tree root) (none.few told);
      refused = err_map (KeepFails root [] cap d) (ChoiceFails root cap d) result (fails_for_none root cap d) none.refused;
      complete = λ told leads few unfailed. none.complete told leads (fewer_seen_below cap s.tree root few) unfailed;
      tree = none.tree;
      lists = none.lists;
      faults = none.faults;
      later = none.later;
    }
