use Rattle.std.proofs.Common.{length, Some, None, refl, ap, arith}
use Rattle.std.specs.Prelude.{vec_len}
use Rattle.walk_rest.specs.declared.level.Level.{Level}
use Rattle.walk_rest.specs.declared.level.Entries.TheVariants.{Unread, Kept}
use Rattle.walk_rest.specs.Listing.{device_to}
use Rattle.walk_steps.specs.Sound.{opens}
use Rattle.walk_steps.proofs.leave.SoundLemmas.{all_same_reads, clear_unread}
use Rattle.walk_steps.proofs.open.OpenLemmas.{clear_from, is_sound_top, keeps_none, keeps_top, less_top, most_open, no_top, not_ok, read_moves, sound_on, sound_top}
use Rattle.walk_steps.proofs.next.CauseLemmas.{counts_read}
use Rattle.walk_steps.proofs.next.ListedLemmas.{listed_read}
use Rattle.walk_steps.proofs.take.ProgressLemmas.{kept_top}
use Rattle.walk_steps.proofs.take.WaitsLemmas.{counted_each, gives_read}
use Rattle.walk_steps.proofs.open.read_whole.Goals as goal

pub read_folder-requires : goal.read_folder-requires
read_folder-requires g c = c.requires.order

pub returns-in_err-entries-clause-moves : goal.returns-in_err-entries-clause-moves
returns-in_err-entries-clause-moves g c = λ lying lies tells by rest compares h. not_ok _ c.from_residual.result c.from_residual.ensures.0

pub returns-in_err-entries-clause-sound : goal.returns-in_err-entries-clause-sound
returns-in_err-entries-clause-sound g c = not_ok _ c.from_residual.result c.from_residual.ensures.0

pub returns-in_err-entries-clause-less : goal.returns-in_err-entries-clause-less
returns-in_err-entries-clause-less g c = λ lying lies. not_ok _ c.from_residual.result c.from_residual.ensures.0

pub returns-in_err-entries-clause-keeps : goal.returns-in_err-entries-clause-keeps
returns-in_err-entries-clause-keeps g c = λ lying lies.
    let s = g.D.Disk.state c.args.disk.now in
    let now = g.D.Disk.state c.read_folder.new.disk in
    let inside = c.args.inside.now in
    let r = c.read_folder.ensures in
    let sorts = g.S.Order.sorts inside.order in
    let k = most_open s now c.args.folder.depth sorts inside.options (opens inside.stack.items) r.unopened r.lists c.requires.whole c.requires.sound.few in
    keeps_none s now inside inside lying k.0 lies.unread (record { options = refl; order = refl; root = refl }) (no_top inside c.requires.taken)
    (sound_on s now inside.stack.items c.requires.sound.lists r.lists.open_list) r.lists.open_count k.1 k.2 r.tree r.faults r.later r.lists.open_list

pub returns-clause-moves : goal.returns-clause-moves
returns-clause-moves g c = λ lying lies tells by rest compares h.
    let s = g.D.Disk.state c.args.disk.now in
    let now = g.D.Disk.state c.read_folder.new.disk in
    let inside = c.args.inside.now in
    let r = c.in_ok-entries.ensures in
    let level : Level = record { folder = Some c.args.folder; first = None; entries = Kept c.in_ok-entries.entries; faults = c.read_folder.new.faults } in
    read_moves s now (g.S.Order.sorts inside.order) by inside lying level c.args.folder rest lies h refl refl tt r.depth r.tree.tree
    (all_same_reads s now Unread inside.stack.items (clear_unread inside.stack.items) (λ number apart. r.lists.open_list number))
    (λ inner contents. record {
      counted = now;
      due = c.new-faults.result.items;
      none_due = c.new-faults.ensures.items;
      same = refl;
      reads = r.read tells by (device_to s.tree inside.root) inner compares contents;
    })

pub returns-clause-sound : goal.returns-clause-sound
returns-clause-sound g c =
    let s = g.D.Disk.state c.args.disk.now in
    let now = g.D.Disk.state c.read_folder.new.disk in
    let inside = c.args.inside.now in
    let r = c.in_ok-entries.ensures in
    let few = c.requires.sound.few in
    let level : Level = record { folder = Some c.args.folder; first = None; entries = Kept c.in_ok-entries.entries; faults = c.read_folder.new.faults } in
    is_sound_top now (g.S.Order.sorts inside.order) inside level
    (sound_top s now inside.stack.items level c.requires.sound.lists (clear_from s level.entries inside.stack.items c.requires.sound.lists (λ number is. tt)) (λ number apart. r.lists.open_list number) r.depth)
    c.requires.sound.read (omega (arith, few)) c.requires.sound.shallow tt tt

pub returns-clause-keeps : goal.returns-clause-keeps
returns-clause-keeps g c = λ lying lies.
    let s = g.D.Disk.state c.args.disk.now in
    let now = g.D.Disk.state c.read_folder.new.disk in
    let inside = c.args.inside.now in
    let r = c.in_ok-entries.ensures in
    let level : Level = record { folder = Some c.args.folder; first = None; entries = Kept c.in_ok-entries.entries; faults = c.read_folder.new.faults } in
    let k = most_open s now c.args.folder.depth (g.S.Order.sorts inside.order) inside.options (opens inside.stack.items) r.unopened r.lists c.requires.whole c.requires.sound.few in
    let count = r.lists.open_count in
    keeps_top s now inside lying level k.0 lies.unread
    (sound_top s now inside.stack.items level c.requires.sound.lists (clear_from s level.entries inside.stack.items c.requires.sound.lists (λ number is. tt)) (λ number apart. r.lists.open_list number) r.depth)
    (omega (arith, count)) k.1 k.2 r.tree r.faults r.later (λ number apart. r.lists.open_list number) (λ number is. tt)

pub returns-clause-less : goal.returns-clause-less
returns-clause-less g c = λ lying lies.
    let s = g.D.Disk.state c.args.disk.now in
    let now = g.D.Disk.state c.read_folder.new.disk in
    let inside = c.args.inside.now in
    let r = c.in_ok-entries.ensures in
    let level : Level = record { folder = Some c.args.folder; first = None; entries = Kept c.in_ok-entries.entries; faults = c.read_folder.new.faults } in
    let taken = r.taken in
    let passed = r.passed in
    let none = ap length c.new-faults.ensures.items in
    let n = c.in_ok-entries.entries.ok.0 in
    less_top s now inside lying level (Some c.args.folder) lies (clear_from s level.entries inside.stack.items c.requires.sound.lists (λ number is. tt)) (λ number apart. r.lists.open_list number) refl refl
    (omega (arith, taken, passed, none, n))

pub returns-in_err-entries-clause-counted : goal.returns-in_err-entries-clause-counted
returns-in_err-entries-clause-counted g c = λ there. not_ok _ c.from_residual.result c.from_residual.ensures.0

pub returns-clause-counted : goal.returns-clause-counted
returns-clause-counted g c = λ there.
    let level : Level = record { folder = Some c.args.folder; first = None; entries = Kept c.in_ok-entries.entries; faults = c.read_folder.new.faults } in
    counts_read (g.D.Disk.state c.args.disk.now) (g.D.Disk.state c.read_folder.new.disk) c.args.inside.now.stack.items level c.new-faults.result.items c.new-faults.ensures.items (c.in_ok-entries.ensures.due there)

pub returns-in_err-entries-clause-read : goal.returns-in_err-entries-clause-read
returns-in_err-entries-clause-read g c = not_ok _ c.from_residual.result c.from_residual.ensures.0

pub returns-in_err-entries-clause-kept : goal.returns-in_err-entries-clause-kept
returns-in_err-entries-clause-kept g c = λ lying lies. not_ok _ c.from_residual.result c.from_residual.ensures.0

pub returns-in_err-entries-clause-listed_whole : goal.returns-in_err-entries-clause-listed_whole
returns-in_err-entries-clause-listed_whole g c = λ tells by count compares to_list none. not_ok _ c.from_residual.result c.from_residual.ensures.0

pub returns-in_err-entries-clause-unlisted : goal.returns-in_err-entries-clause-unlisted
returns-in_err-entries-clause-unlisted g c = λ deep. (c.read_folder.ensures.unopened deep).listed

pub returns-clause-read : goal.returns-clause-read
returns-clause-read g c = record { level = _; on_top = refl; read = tt; first = refl }

pub returns-clause-kept : goal.returns-clause-kept
returns-clause-kept g c = λ lying lies.
    let s = g.D.Disk.state c.args.disk.now in
    let now = g.D.Disk.state c.read_folder.new.disk in
    let r = c.in_ok-entries.ensures in
    let level : Level = record { folder = Some c.args.folder; first = None; entries = Kept c.in_ok-entries.entries; faults = c.read_folder.new.faults } in
    let n = c.in_ok-entries.entries.ok.0 in
    let more = counted_each (vec_len c.in_ok-entries.entries) s now r.taken r.later in
    kept_top s now c.args.inside.now.stack.items lying level (omega (arith, n, more))

pub returns-clause-unlisted : goal.returns-clause-unlisted
returns-clause-unlisted g c = λ deep. (c.read_folder.ensures.unopened deep).listed

pub returns-clause-listed_whole : goal.returns-clause-listed_whole
returns-clause-listed_whole g c = λ tells by count compares to_list none.
    let s = g.D.Disk.state c.args.disk.now in
    let inside = c.args.inside.now in
    let r = c.in_ok-entries.ensures in
    let device = device_to s.tree inside.root in
    listed_read s (g.D.Disk.state c.read_folder.new.disk) inside.options (g.S.Order.sorts inside.order) by device c.args.folder c.new-faults.result.items c.read_folder.new.faults.items _ count
    (λ inner contents. r.read tells by device inner compares contents) r.unopened to_list none

pub returns-in_err-entries-clause-listed_each : goal.returns-in_err-entries-clause-listed_each
returns-in_err-entries-clause-listed_each g c = not_ok _ c.from_residual.result c.from_residual.ensures.0

pub returns-clause-listed_each : goal.returns-clause-listed_each
returns-clause-listed_each g c =
    let s = g.D.Disk.state c.args.disk.now in
    let now = g.D.Disk.state c.read_folder.new.disk in
    let r = c.in_ok-entries.ensures in
    let level : Level = record { folder = Some c.args.folder; first = None; entries = Kept c.in_ok-entries.entries; faults = c.read_folder.new.faults } in
    let n = c.in_ok-entries.entries.ok.0 in
    gives_read s now c.args.inside.now.stack.items level (vec_len c.in_ok-entries.entries) refl (omega (arith, n)) (counted_each (vec_len c.in_ok-entries.entries) s now r.taken r.later)
