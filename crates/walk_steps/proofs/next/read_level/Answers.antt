use Rattle.std.proofs.Common.{◌≡◌, [], List, Option, None, Some, length, subst, ap, arith}
use Rattle.walk_rest.specs.declared.entry.DirEntry.{DirEntry}
use Rattle.walk_rest.specs.declared.level.Due.{Due}
use Rattle.walk_rest.specs.declared.level.Entries.{Entries}
use Rattle.walk_rest.specs.declared.level.Entries.TheVariants.{Unread}
use Rattle.walk_rest.specs.declared.level.Folder.{Folder}
use Rattle.walk_rest.specs.declared.level.Level.{Level}
use Rattle.walk_steps.specs.Inside.{levels_of, with_top}
use Rattle.walk_steps.specs.Steps.{LiesUnread}
use Rattle.walk_steps.proofs.leave.WithinLemmas.{below_of}
use Rattle.walk_steps.proofs.open.OpenLemmas.{on_ok, unread_there}
use Rattle.walk_steps.proofs.next.CauseLemmas.{caused_none, counts_from, counts_result, due_snoc}
use Rattle.walk_steps.proofs.next.ListedLemmas.{ok_result, one_result, room_unread, settled_result, to_list_root}
use Rattle.walk_steps.specs.Sound.{IsFresh, open_limit}
use Rattle.walk_steps.specs.Listed.{IsToList}
use Rattle.walk_steps.proofs.next.TurnLemmas.{part_ok, read_settled}
use Rattle.walk_steps.proofs.take.WaitsLemmas.{gives_result, waits_snoc}
use Rattle.walk_steps.proofs.next.read_level.Goals as goal

-- nothing is due of a level that lies unread
fresh_unread : (e : Entries) (first : Option DirEntry) (faults : List Due) → e ≡ Unread → IsFresh e first faults → (first ≡ None) × (faults ≡ [])
fresh_unread e first faults unread h = let P : Entries → Type 0 = λ x. IsFresh x first faults in subst P unread h

lies : (level : Level) (folder : Option Folder) → level.folder ≡ folder → level.entries ≡ Unread → IsFresh level.entries level.first level.faults.items → LiesUnread level folder
lies level folder is unread fresh =
    let none = fresh_unread level.entries level.first level.faults.items unread fresh in
    record { folder_is = is; first = none.0; unread = unread; faultless = none.1 }

pub read_root-requires-clause-sound : goal.read_root-requires-clause-sound
read_root-requires-clause-sound g c = below_of (g.D.Disk.state c.args.disk.now) (g.S.Order.sorts c.args.inside.now.order) c.args.inside.now c.args.level c.requires.sound

pub read_directory-requires-clause-sound : goal.read_directory-requires-clause-sound
read_directory-requires-clause-sound g c = below_of (g.D.Disk.state c.args.disk.now) (g.S.Order.sorts c.args.inside.now.order) c.args.inside.now c.args.level c.requires.sound

pub returns-in-None-clause-keeps : goal.returns-in-None-clause-keeps
returns-in-None-clause-keeps g c = c.read_root.ensures.keeps c.args.level (lies c.args.level None c.in-None.is c.requires.unread c.requires.sound.fresh)

pub returns-in-None-clause-kept : goal.returns-in-None-clause-kept
returns-in-None-clause-kept g c = c.read_root.ensures.kept c.args.level (lies c.args.level None c.in-None.is c.requires.unread c.requires.sound.fresh)

pub returns-in-None-clause-unlisted : goal.returns-in-None-clause-unlisted
returns-in-None-clause-unlisted g c = λ unsorted room. c.read_root.ensures.unlisted

pub returns-in-None-clause-reads : goal.returns-in-None-clause-reads
returns-in-None-clause-reads g c =
    let s = g.D.Disk.state c.args.disk.now in
    let now = g.D.Disk.state c.read_root.new.disk in
    let lying = lies c.args.level None c.in-None.is c.requires.unread c.requires.sound.fresh in
    part_ok g.D.Disk.tells g.S.Order.sorts g.S.Order.compares_by s now (with_top c.args.inside.now c.args.level) c.read_root.new.inside c.read_root.result
    (λ tells by rest same h. c.read_root.ensures.turns tells c.args.level lying by rest h)
    c.read_root.ensures.named
    c.read_root.ensures.sound
    (λ fits.
    let xs = c.args.inside.now.stack.items in
    let a = due_snoc xs c.args.level in
    let e = ap length lying.faultless in
    counts_result g.D.Disk.tells s s now (levels_of (with_top c.args.inside.now c.args.level)) xs (levels_of c.read_root.new.inside) c.read_root.result
    (omega arith) (omega (arith, a, e)) c.read_root.ensures.counted)
    c.read_root.ensures.caused
    (let xs = c.args.inside.now.stack.items in
    let a = waits_snoc xs c.args.level in
    gives_result (g.D.Disk.state c.args.disk.now) (g.D.Disk.state c.read_root.new.disk) (levels_of (with_top c.args.inside.now c.args.level)) xs (levels_of c.read_root.new.inside) c.read_root.result (omega (arith, a)) c.read_root.ensures.listed_each)
    (λ gives. settled_result c.args.inside.now.options.max_depth c.read_root.result c.read_root.new.inside.top (on_ok c.read_root.result (read_settled c.args.inside.now.options.max_depth c.read_root.new.inside.top) c.read_root.ensures.read))
    (λ unsorted gives room. one_result _ _ c.read_root.result c.read_root.ensures.unlisted)
    (λ tells by count compares sorts to_list none.
    let s = g.D.Disk.state c.args.disk.now in
    let zero_is = to_list_root s.tree c.args.inside.now.options.max_depth c.args.level.folder c.args.level.entries count c.in-None.is to_list in
    let a = c.read_root.ensures.unlisted in
    ok_result c.read_root.result (omega (arith, zero_is, a)))
    (c.read_root.ensures.less c.args.level lying)

pub returns-in_err-read_directory-in-Some-clause-keeps : goal.returns-in_err-read_directory-in-Some-clause-keeps
returns-in_err-read_directory-in-Some-clause-keeps g c =
    c.read_directory.ensures.keeps c.args.level (lies c.args.level (Some c.in-Some.folder) c.in-Some.is c.requires.unread c.requires.sound.fresh)

pub returns-in_err-read_directory-in-Some-clause-unlisted : goal.returns-in_err-read_directory-in-Some-clause-unlisted
returns-in_err-read_directory-in-Some-clause-unlisted g c = λ unsorted room.
    c.read_directory.ensures.unlisted unsorted (room_unread (open_limit c.args.inside.now.options) c.args.inside.now.options.max_depth c.args.inside.now.stack.items c.args.level c.in-Some.folder c.in-Some.is c.requires.unread room)

pub returns-clause-unlisted : goal.returns-clause-unlisted
returns-clause-unlisted g c = λ unsorted room.
    c.read_directory.ensures.unlisted unsorted (room_unread (open_limit c.args.inside.now.options) c.args.inside.now.options.max_depth c.args.inside.now.stack.items c.args.level c.in-Some.folder c.in-Some.is c.requires.unread room)

pub returns-clause-keeps : goal.returns-clause-keeps
returns-clause-keeps g c =
    c.read_directory.ensures.keeps c.args.level (lies c.args.level (Some c.in-Some.folder) c.in-Some.is c.requires.unread c.requires.sound.fresh)

pub returns-clause-kept : goal.returns-clause-kept
returns-clause-kept g c =
    c.in_ok-read_directory-in-Some.ensures.kept c.args.level (lies c.args.level (Some c.in-Some.folder) c.in-Some.is c.requires.unread c.requires.sound.fresh)

pub returns-clause-reads : goal.returns-clause-reads
returns-clause-reads g c =
    let read = c.in_ok-read_directory-in-Some.ensures in
    let here = lies c.args.level (Some c.in-Some.folder) c.in-Some.is c.requires.unread c.requires.sound.fresh in
    record {
      turns = λ tells by rest same h. read.moves c.args.level here tells by rest same h;
      named = λ e. cc e;
      sound = read.sound;
      counted =
          (λ fits.
          let s = g.D.Disk.state c.args.disk.now in
          let now = g.D.Disk.state c.read_directory.new.disk in
          let xs = c.args.inside.now.stack.items in
          let lying = lies c.args.level (Some c.in-Some.folder) c.in-Some.is c.requires.unread c.requires.sound.fresh in
          let a = due_snoc xs c.args.level in
          let e = ap length lying.faultless in
          counts_from 0 s s now (levels_of (with_top c.args.inside.now c.args.level)) xs (levels_of c.read_directory.new.inside) (omega arith) (omega (arith, a, e))
          (c.in_ok-read_directory-in-Some.ensures.counted c.args.level lying
          (λ tells shallow. let f = fits tells in unread_there s (g.S.Order.sorts c.args.inside.now.order) f.0 c.args.inside.now c.args.level c.in-Some.folder f.1 lying f.3 shallow)));
      caused = caused_none g.D.Disk.tells (g.D.Disk.state c.args.disk.now) (g.D.Disk.state c.read_directory.new.disk) c.read_directory.new.inside;
      listed_each =
          (let a = waits_snoc c.args.inside.now.stack.items c.args.level in
          let h = c.in_ok-read_directory-in-Some.ensures.listed_each in
          omega (arith, a, h));
      settles = λ gives. read_settled c.args.inside.now.options.max_depth c.read_directory.new.inside.top read.read;
      passes = λ unsorted gives room.
          c.read_directory.ensures.unlisted unsorted (room_unread (open_limit c.args.inside.now.options) c.args.inside.now.options.max_depth c.args.inside.now.stack.items c.args.level c.in-Some.folder c.in-Some.is c.requires.unread room);
      listed_whole =
          (λ tells by count compares sorts to_list none.
          let tree = (g.D.Disk.state c.args.disk.now).tree in
          let n = c.args.inside.now.options.max_depth in
          let unread = c.requires.unread in
          let F : _ → Type 0 = λ f. IsToList tree n f c.args.level.entries count in
          let E : _ → Type 0 = λ e. IsToList tree n (Some c.in-Some.folder) e count in
          c.in_ok-read_directory-in-Some.ensures.listed_whole tells by count compares sorts (subst E unread (subst F c.in-Some.is to_list)) none);
      less = read.less c.args.level here;
    }
