use Rattle.std.proofs.Common.{true, ◌≤◌, ℕ, List, sym, ◌∙◌, ap, subst, arith}
use Rattle.std.specs.Prelude.{IsTrue, IsSome}
use Rattle.std.specs.List.{AllByRecursion}
use Rattle.sd_io.specs.Tree.{Tree}
use Rattle.sd_io.specs.Paths.{parts_of, parent_of}
use Rattle.journal.specs.Beside.{AddsBeside}
use Rattle.sd_io.specs.Lists.{directory_of}
use Rattle.sd_io.specs.Files.{LeadsNowhere}
use Rattle.sd_course.specs.Course.{course}
use Rattle.sd_io.proofs.WayLemmas.{directory_alike}
use Rattle.journal_text.specs.Journal.{IsLine}
use Rattle.journal.specs.Naming.{MayBeNamed}
use Rattle.journal.specs.Changing.{IsUnfinished, LeavesAllButFree, MakingFails}
use Rattle.journal.proofs.CauseLemmas.{told_on}
use Rattle.journal.proofs.StagingLemmas.{free_then, free_same}
use Rattle.journal.proofs.MakingLemmas.{IsReady, staged_making, step_making, syncing_making, writing_making, end_making, told_err, leads_somewhere}
use Rattle.journal.proofs.RecoveringLemmas.{between_on}
use Rattle.journal.proofs.ReadingLemmas.{some_is}
use Rattle.journal.proofs.PlanningLemmas.{preparing_still, preparing_then, preparing_same}
use Rattle.journal.proofs.ChangingLemmas.{journal_folder, preparing_between, none_changes, staged_keeps, paths_there, line_folders, may_name, root_now, root_paths, naming_between, no_journal_yet, journal_path_in, told_ok, changed_at_the_end, is_journal, none_exchanged, exchanged, ok_both}
use Rattle.journal.proofs.changing.make_change.Goals as goal

pub returns-then-is_empty-clause-changed : goal.returns-then-is_empty-clause-changed
returns-then-is_empty-clause-changed g c =
    λ told work m.
    let change = g.R.Replaces.change c.args.replacer.now in
    let root = c.args.root.now in
    let paths = c.args.paths.now in
    let s = g.D.Disk.state c.args.disk.now in
    let t = g.D.Disk.state c.make_stages.new.disk in
    let lines = c.in_ok-journal.journal in
    let k = c.make_stages.ensures.kept told work m.planned in
    let made = c.in_ok-journal.ensures.made told work m.planned in
    none_changes work lines s t k made (c.is_empty.ensures.0 c.if-is_empty.true)

pub returns-in_err-sync_folders-clause-kept : goal.returns-in_err-sync_folders-clause-kept
returns-in_err-sync_folders-clause-kept g c =
    λ told work m.
    let change = g.R.Replaces.change c.args.replacer.now in
    let root = c.args.root.now in
    let paths = c.args.paths.now in
    let s = g.D.Disk.state c.args.disk.now in
    let t = g.D.Disk.state c.make_stages.new.disk in
    let lines = c.in_ok-journal.journal in
    let k = c.make_stages.ensures.kept told work m.planned in
    let made = c.in_ok-journal.ensures.made told work m.planned in
    let u = g.D.Disk.state c.journal_path.new.disk in
    let v = g.D.Disk.state c.sync_folders.new.disk in
    let are_lines = subst (AllByRecursion IsLine) c.journal.view_is c.journal.invariant in
    let kept = staged_keeps change work root paths s t m k lines are_lines made u v c.journal_path.ensures.tree (c.sync_folders.ensures.kept told) in
    preparing_between work s v kept

pub write_beside-requires-clause-beside : goal.write_beside-requires-clause-beside
write_beside-requires-clause-beside g c =
    λ told.
    let root = c.args.root.now in
    let s = g.D.Disk.state c.args.disk.now in
    let v = g.D.Disk.state c.sync_folders.new.disk in
    let (folder, leads) = some_is (directory_of s.tree root) (c.requires.directory told) in
    let at_t = directory_alike (c.in_ok-journal.ensures.adds told).ways root ∙ leads in
    let at_v = ap (λ (t : Tree). directory_of t root) ((c.sync_folders.ensures.kept told).tree ∙ c.journal_path.ensures.tree.tree) ∙ at_t in
    journal_path_in v.tree root folder c.as_str.result.now (g.met.D.Disk.is_tree c.sync_folders.new.disk told) at_v (c.as_str.ensures.same ∙ c.in_ok-path.ensures.path told folder at_t)

pub returns-in_err-temporary-clause-kept : goal.returns-in_err-temporary-clause-kept
returns-in_err-temporary-clause-kept g c =
    λ told work m.
    let change = g.R.Replaces.change c.args.replacer.now in
    let root = c.args.root.now in
    let paths = c.args.paths.now in
    let s = g.D.Disk.state c.args.disk.now in
    let t = g.D.Disk.state c.make_stages.new.disk in
    let lines = c.in_ok-journal.journal in
    let k = c.make_stages.ensures.kept told work m.planned in
    let made = c.in_ok-journal.ensures.made told work m.planned in
    let u = g.D.Disk.state c.journal_path.new.disk in
    let v = g.D.Disk.state c.sync_folders.new.disk in
    let are_lines = subst (AllByRecursion IsLine) c.journal.view_is c.journal.invariant in
    let kept = staged_keeps change work root paths s t m k lines are_lines made u v c.journal_path.ensures.tree (c.sync_folders.ensures.kept told) in
    let w = g.D.Disk.state c.write_beside.new.disk in
    let holds_t = g.met.D.Disk.holds_present c.make_stages.new.disk told in
    let holds_v = g.met.D.Disk.holds_present c.sync_folders.new.disk told in
    let is_files = paths_there t.tree u.tree lines c.journal_path.ensures.tree.tree (c.in_ok-journal.ensures.paths told) in
    let folders = line_folders u.tree lines (g.met.D.Disk.is_tree c.journal_path.new.disk told) is_files in
    let named = may_name change work root paths s t m k lines are_lines made u v c.journal_path.ensures.tree (c.sync_folders.ensures.kept told) (c.in_ok-sync_folders.ensures.synced told folders) in
    let leads = root_now work root t holds_t (preparing_still work s t m.planned.preparing_now k) m.leads in
    let are = root_paths work root c.as_str.result.now m.leads (c.as_str.ensures.same ∙ c.in_ok-path.ensures.path told work.root leads) in
    let written = between_on work s v w (preparing_between work s v kept) (naming_between work lines v w named (c.write_beside.ensures.kept told work root are named)) in
    written

pub returns-clause-kept : goal.returns-clause-kept
returns-clause-kept g c =
    λ told work m.
    let change = g.R.Replaces.change c.args.replacer.now in
    let root = c.args.root.now in
    let paths = c.args.paths.now in
    let s = g.D.Disk.state c.args.disk.now in
    let t = g.D.Disk.state c.make_stages.new.disk in
    let lines = c.in_ok-journal.journal in
    let k = c.make_stages.ensures.kept told work m.planned in
    let made = c.in_ok-journal.ensures.made told work m.planned in
    let u = g.D.Disk.state c.journal_path.new.disk in
    let v = g.D.Disk.state c.sync_folders.new.disk in
    let are_lines = subst (AllByRecursion IsLine) c.journal.view_is c.journal.invariant in
    let kept = staged_keeps change work root paths s t m k lines are_lines made u v c.journal_path.ensures.tree (c.sync_folders.ensures.kept told) in
    let w = g.D.Disk.state c.write_beside.new.disk in
    let holds_t = g.met.D.Disk.holds_present c.make_stages.new.disk told in
    let holds_v = g.met.D.Disk.holds_present c.sync_folders.new.disk told in
    let is_files = paths_there t.tree u.tree lines c.journal_path.ensures.tree.tree (c.in_ok-journal.ensures.paths told) in
    let folders = line_folders u.tree lines (g.met.D.Disk.is_tree c.journal_path.new.disk told) is_files in
    let named = may_name change work root paths s t m k lines are_lines made u v c.journal_path.ensures.tree (c.sync_folders.ensures.kept told) (c.in_ok-sync_folders.ensures.synced told folders) in
    let leads = root_now work root t holds_t (preparing_still work s t m.planned.preparing_now k) m.leads in
    let are = root_paths work root c.as_str.result.now m.leads (c.as_str.ensures.same ∙ c.in_ok-path.ensures.path told work.root leads) in
    let written = between_on work s v w (preparing_between work s v kept) (naming_between work lines v w named (c.write_beside.ensures.kept told work root are named)) in
    let x = g.D.Disk.state c.name_and_finish.new.disk in
    let none = no_journal_yet change work root paths s t m k lines are_lines made u v c.journal_path.ensures.tree (c.sync_folders.ensures.kept told) holds_v in
    let at_first = c.in_ok-temporary.ensures.written told work root are named none in
    let at_path = subst (λ (q : List ℕ). MayBeNamed work lines c.in_ok-temporary.temporary q root w) (c.as_str.ensures.same ∙ sym c.as_str-2.ensures.same) at_first in
    let ready = subst (λ (q : List ℕ). MayBeNamed work lines q c.as_str-2.result.now root w) (sym c.as_str-3.ensures.same) at_path in
    between_on work s w x written (c.name_and_finish.ensures.kept told work ready)

pub returns-clause-changed : goal.returns-clause-changed
returns-clause-changed g c =
    λ told work m.
    let change = g.R.Replaces.change c.args.replacer.now in
    let root = c.args.root.now in
    let paths = c.args.paths.now in
    let s = g.D.Disk.state c.args.disk.now in
    let t = g.D.Disk.state c.make_stages.new.disk in
    let lines = c.in_ok-journal.journal in
    let k = c.make_stages.ensures.kept told work m.planned in
    let made = c.in_ok-journal.ensures.made told work m.planned in
    let u = g.D.Disk.state c.journal_path.new.disk in
    let v = g.D.Disk.state c.sync_folders.new.disk in
    let are_lines = subst (AllByRecursion IsLine) c.journal.view_is c.journal.invariant in
    let kept = staged_keeps change work root paths s t m k lines are_lines made u v c.journal_path.ensures.tree (c.sync_folders.ensures.kept told) in
    let w = g.D.Disk.state c.write_beside.new.disk in
    let holds_t = g.met.D.Disk.holds_present c.make_stages.new.disk told in
    let holds_v = g.met.D.Disk.holds_present c.sync_folders.new.disk told in
    let is_files = paths_there t.tree u.tree lines c.journal_path.ensures.tree.tree (c.in_ok-journal.ensures.paths told) in
    let folders = line_folders u.tree lines (g.met.D.Disk.is_tree c.journal_path.new.disk told) is_files in
    let named = may_name change work root paths s t m k lines are_lines made u v c.journal_path.ensures.tree (c.sync_folders.ensures.kept told) (c.in_ok-sync_folders.ensures.synced told folders) in
    let leads = root_now work root t holds_t (preparing_still work s t m.planned.preparing_now k) m.leads in
    let are = root_paths work root c.as_str.result.now m.leads (c.as_str.ensures.same ∙ c.in_ok-path.ensures.path told work.root leads) in
    let written = between_on work s v w (preparing_between work s v kept) (naming_between work lines v w named (c.write_beside.ensures.kept told work root are named)) in
    let x = g.D.Disk.state c.name_and_finish.new.disk in
    let none = no_journal_yet change work root paths s t m k lines are_lines made u v c.journal_path.ensures.tree (c.sync_folders.ensures.kept told) holds_v in
    let at_first = c.in_ok-temporary.ensures.written told work root are named none in
    let at_path = subst (λ (q : List ℕ). MayBeNamed work lines c.in_ok-temporary.temporary q root w) (c.as_str.ensures.same ∙ sym c.as_str-2.ensures.same) at_first in
    let ready = subst (λ (q : List ℕ). MayBeNamed work lines q c.as_str-2.result.now root w) (sym c.as_str-3.ensures.same) at_path in
    told_ok _ _ _ c.name_and_finish.result c.map_err.result c.map_err.ensures.cases (c.name_and_finish.ensures.done told work ready) (changed_at_the_end work lines x)

pub returns-then-is_empty-clause-tree : goal.returns-then-is_empty-clause-tree
returns-then-is_empty-clause-tree g c =
    λ told work m.
    none_exchanged work c.in_ok-journal.journal (g.D.Disk.state c.args.disk.now) (g.D.Disk.state c.make_stages.new.disk) (c.in_ok-journal.ensures.made told work m.planned) (c.in_ok-journal.ensures.stages told)
    (c.is_empty.ensures.0 c.if-is_empty.true)

pub returns-clause-tree : goal.returns-clause-tree
returns-clause-tree g c =
    λ told work m.
    let change = g.R.Replaces.change c.args.replacer.now in
    let root = c.args.root.now in
    let paths = c.args.paths.now in
    let s = g.D.Disk.state c.args.disk.now in
    let t = g.D.Disk.state c.make_stages.new.disk in
    let lines = c.in_ok-journal.journal in
    let k = c.make_stages.ensures.kept told work m.planned in
    let made = c.in_ok-journal.ensures.made told work m.planned in
    let u = g.D.Disk.state c.journal_path.new.disk in
    let v = g.D.Disk.state c.sync_folders.new.disk in
    let are_lines = subst (AllByRecursion IsLine) c.journal.view_is c.journal.invariant in
    let kept = staged_keeps change work root paths s t m k lines are_lines made u v c.journal_path.ensures.tree (c.sync_folders.ensures.kept told) in
    let w = g.D.Disk.state c.write_beside.new.disk in
    let holds_t = g.met.D.Disk.holds_present c.make_stages.new.disk told in
    let holds_v = g.met.D.Disk.holds_present c.sync_folders.new.disk told in
    let is_files = paths_there t.tree u.tree lines c.journal_path.ensures.tree.tree (c.in_ok-journal.ensures.paths told) in
    let folders = line_folders u.tree lines (g.met.D.Disk.is_tree c.journal_path.new.disk told) is_files in
    let named = may_name change work root paths s t m k lines are_lines made u v c.journal_path.ensures.tree (c.sync_folders.ensures.kept told) (c.in_ok-sync_folders.ensures.synced told folders) in
    let leads = root_now work root t holds_t (preparing_still work s t m.planned.preparing_now k) m.leads in
    let are = root_paths work root c.as_str.result.now m.leads (c.as_str.ensures.same ∙ c.in_ok-path.ensures.path told work.root leads) in
    let written = between_on work s v w (preparing_between work s v kept) (naming_between work lines v w named (c.write_beside.ensures.kept told work root are named)) in
    let x = g.D.Disk.state c.name_and_finish.new.disk in
    let none = no_journal_yet change work root paths s t m k lines are_lines made u v c.journal_path.ensures.tree (c.sync_folders.ensures.kept told) holds_v in
    let at_first = c.in_ok-temporary.ensures.written told work root are named none in
    let at_path = subst (λ (q : List ℕ). MayBeNamed work lines c.in_ok-temporary.temporary q root w) (c.as_str.ensures.same ∙ sym c.as_str-2.ensures.same) at_first in
    let ready = subst (λ (q : List ℕ). MayBeNamed work lines q c.as_str-2.result.now root w) (sym c.as_str-3.ensures.same) at_path in
    let is_for = is_journal change work root paths s t m k lines are_lines made in
    let same = (c.sync_folders.ensures.kept told).tree ∙ c.journal_path.ensures.tree.tree in
    let added = subst (λ (q : List ℕ). AddsBeside (parent_of (parts_of c.as_str.result.now)) q v.tree w.tree) (sym c.as_str-3.ensures.same) (c.in_ok-temporary.ensures.tree told) in
    told_ok _ _ _ c.name_and_finish.result c.map_err.result c.map_err.ensures.cases
    (ok_both _ _ c.name_and_finish.result (c.name_and_finish.ensures.done told work ready) (c.name_and_finish.ensures.tree told work ready))
    (λ (end, left). exchanged work lines c.as_str-3.result.now (parent_of (parts_of c.as_str.result.now)) s t v w x m.planned.preparing_now (g.met.D.Disk.holds_present c.args.disk.now told) is_for
    (c.in_ok-journal.ensures.stages told) same added left (g.met.D.Disk.holds_present c.name_and_finish.new.disk told) end)

-- ---- why it isn't made

pub returns-in_err-journal-clause-fails : goal.returns-in_err-journal-clause-fails
returns-in_err-journal-clause-fails g c =
    told_on _ c.from_residual.result _ c.from_residual.ensures.1
    (staged_making (g.R.Replaces.change c.args.replacer.now) g.D.Disk.tells c.args.root.now c.args.paths.now (g.D.Disk.state c.args.disk.now) (g.D.Disk.state c.make_stages.new.disk) c.in_err-journal.field-0.0
    c.in_err-journal.ensures.free c.in_err-journal.ensures.fails)

pub returns-in_err-path-clause-fails : goal.returns-in_err-path-clause-fails
returns-in_err-path-clause-fails g c =
    let change = g.R.Replaces.change c.args.replacer.now in
    let root = c.args.root.now in
    let paths = c.args.paths.now in
    let s = g.D.Disk.state c.args.disk.now in
    let t = g.D.Disk.state c.make_stages.new.disk in
    let lines = c.in_ok-journal.journal in
    let u = g.D.Disk.state c.journal_path.new.disk in
    let free : LeavesAllButFree (course g.D.Disk.tells s u) = λ told. free_then s.tree t.tree u.tree (c.in_ok-journal.ensures.free told) (free_same t.tree u.tree c.journal_path.ensures.tree.tree) in
    told_on _ c.from_residual-in_err-path.result _ c.from_residual-in_err-path.ensures.1
    (step_making change g.D.Disk.tells root paths s t u (LeadsNowhere t root true) c.in_err-path.field-0.0 free c.in_ok-journal.ensures.never_falls
    (λ told. leads_somewhere t root (subst IsSome (sym (directory_alike (c.in_ok-journal.ensures.adds told).ways root)) (c.requires.directory told))) c.in_err-path.ensures.fails)

pub returns-in_err-sync_folders-clause-fails : goal.returns-in_err-sync_folders-clause-fails
returns-in_err-sync_folders-clause-fails g c =
    let change = g.R.Replaces.change c.args.replacer.now in
    let root = c.args.root.now in
    let paths = c.args.paths.now in
    let s = g.D.Disk.state c.args.disk.now in
    let t = g.D.Disk.state c.make_stages.new.disk in
    let lines = c.in_ok-journal.journal in
    let u = g.D.Disk.state c.journal_path.new.disk in
    let v = g.D.Disk.state c.sync_folders.new.disk in
    let free : LeavesAllButFree (course g.D.Disk.tells s v) =
    λ told. free_then s.tree t.tree v.tree (c.in_ok-journal.ensures.free told) (free_same t.tree v.tree ((c.sync_folders.ensures.kept told).tree ∙ c.journal_path.ensures.tree.tree)) in
    told_on _ c.from_residual-in_err-sync_folders.result _ c.from_residual-in_err-sync_folders.ensures.1
    (syncing_making change g.D.Disk.tells root paths s u v lines c.in_err-sync_folders.field-0.0 free (omega (arith, c.in_ok-journal.ensures.never_falls, c.journal_path.ensures.never_falls))
    (g.met.D.Disk.is_tree c.journal_path.new.disk) (λ told. paths_there t.tree u.tree lines c.journal_path.ensures.tree.tree (c.in_ok-journal.ensures.paths told)) c.in_err-sync_folders.ensures.fails)

pub returns-in_err-temporary-clause-fails : goal.returns-in_err-temporary-clause-fails
returns-in_err-temporary-clause-fails g c =
    let change = g.R.Replaces.change c.args.replacer.now in
    let root = c.args.root.now in
    let paths = c.args.paths.now in
    let s = g.D.Disk.state c.args.disk.now in
    let t = g.D.Disk.state c.make_stages.new.disk in
    let lines = c.in_ok-journal.journal in
    let v = g.D.Disk.state c.sync_folders.new.disk in
    let w = g.D.Disk.state c.write_beside.new.disk in
    let path = c.as_str.result.now in
    let ready : IsTrue g.D.Disk.tells → IsReady change paths root path lines s t v =
    λ told.
    let (folder, leads) = some_is (directory_of s.tree root) (c.requires.directory told) in
    let at_t = directory_alike (c.in_ok-journal.ensures.adds told).ways root ∙ leads in
    let text = c.as_str.ensures.same ∙ c.in_ok-path.ensures.path told folder at_t in
    record {
      folder = folder;
      leads = leads;
      path_is = text;
      folder_is = journal_folder s.tree root folder path (g.met.D.Disk.is_tree c.args.disk.now told) leads text;
      no_journal = c.requires.no_journal told folder leads;
      adds = c.in_ok-journal.ensures.adds told;
      stages = c.in_ok-journal.ensures.stages told;
      counted = c.in_ok-journal.ensures.counted told;
      paths_stand = c.in_ok-journal.ensures.paths told;
      same = (c.sync_folders.ensures.kept told).tree ∙ c.journal_path.ensures.tree.tree;
    } in
    let free : LeavesAllButFree (course g.D.Disk.tells s w) =
    λ told. free_then s.tree v.tree w.tree (free_then s.tree t.tree v.tree (c.in_ok-journal.ensures.free told) (free_same t.tree v.tree ((c.sync_folders.ensures.kept told).tree ∙ c.journal_path.ensures.tree.tree)))
    (c.in_err-temporary.ensures.free told) in
    told_on _ c.from_residual-in_err-temporary.result _ c.from_residual-in_err-temporary.ensures.1
    (writing_making change g.D.Disk.tells paths root path lines s t v ready
    (omega (arith, c.in_ok-journal.ensures.never_falls, c.journal_path.ensures.never_falls, c.sync_folders.ensures.never_falls)) w c.in_err-temporary.field-0.0 free c.in_err-temporary.ensures.fails)

pub returns-clause-fails : goal.returns-clause-fails
returns-clause-fails g c =
    let change = g.R.Replaces.change c.args.replacer.now in
    let root = c.args.root.now in
    let paths = c.args.paths.now in
    let s = g.D.Disk.state c.args.disk.now in
    let t = g.D.Disk.state c.make_stages.new.disk in
    let lines = c.in_ok-journal.journal in
    let v = g.D.Disk.state c.sync_folders.new.disk in
    let w = g.D.Disk.state c.write_beside.new.disk in
    let x = g.D.Disk.state c.name_and_finish.new.disk in
    let path = c.as_str.result.now in
    let ready : IsTrue g.D.Disk.tells → IsReady change paths root path lines s t v =
    λ told.
    let (folder, leads) = some_is (directory_of s.tree root) (c.requires.directory told) in
    let at_t = directory_alike (c.in_ok-journal.ensures.adds told).ways root ∙ leads in
    let text = c.as_str.ensures.same ∙ c.in_ok-path.ensures.path told folder at_t in
    record {
      folder = folder;
      leads = leads;
      path_is = text;
      folder_is = journal_folder s.tree root folder path (g.met.D.Disk.is_tree c.args.disk.now told) leads text;
      no_journal = c.requires.no_journal told folder leads;
      adds = c.in_ok-journal.ensures.adds told;
      stages = c.in_ok-journal.ensures.stages told;
      counted = c.in_ok-journal.ensures.counted told;
      paths_stand = c.in_ok-journal.ensures.paths told;
      same = (c.sync_folders.ensures.kept told).tree ∙ c.journal_path.ensures.tree.tree;
    } in
    let low : s.faults ≤ v.faults = omega (arith, c.in_ok-journal.ensures.never_falls, c.journal_path.ensures.never_falls, c.sync_folders.ensures.never_falls) in
    let low_w : s.faults ≤ w.faults = omega (arith, c.in_ok-journal.ensures.never_falls, c.journal_path.ensures.never_falls, c.sync_folders.ensures.never_falls, c.write_beside.ensures.never_falls) in
    told_err (IsUnfinished change paths (course g.D.Disk.tells s x)) (MakingFails change root paths (course g.D.Disk.tells s x)) _ c.name_and_finish.result c.map_err.result c.map_err.ensures.cases
    (end_making change g.D.Disk.tells paths root path c.as_str-2.result.now lines s t v w x c.in_ok-temporary.temporary c.as_str-3.result.now c.name_and_finish.result
    (c.as_str.ensures.same ∙ sym c.as_str-2.ensures.same) (sym c.as_str-3.ensures.same) ready low low_w c.in_ok-temporary.ensures.tree (g.met.D.Disk.is_tree c.make_stages.new.disk) c.name_and_finish.ensures.fails)
    (λ refused fails. fails)

pub returns-in_err-path-clause-kept : goal.returns-in_err-path-clause-kept
returns-in_err-path-clause-kept g c =
    λ told work m.
    let s = g.D.Disk.state c.args.disk.now in
    let t = g.D.Disk.state c.make_stages.new.disk in
    let u = g.D.Disk.state c.journal_path.new.disk in
    let k = c.make_stages.ensures.kept told work m.planned in
    preparing_between work s u (preparing_then work s t u k (preparing_same work t u (preparing_still work s t m.planned.preparing_now k) c.journal_path.ensures.tree))
