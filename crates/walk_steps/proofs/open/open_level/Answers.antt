use Rattle.std.proofs.Common.{◌≤◌, ◌<◌, ℕ, Bool, Some, None, refl, ap, arith}
use Rattle.walk_rest.specs.declared.level.Folder.{Folder}
use Rattle.walk_rest.specs.declared.level.Level.{Level}
use Rattle.walk_rest.specs.declared.level.Entries.{Entries}
use Rattle.walk_rest.specs.declared.level.Entries.TheVariants.{Unread, Open, Kept}
use Rattle.walk_rest.specs.Listing.{manner_of}
use Rattle.walk_steps.specs.Sound.{IsShallow, held_limit, open_in}
use Rattle.walk_steps.proofs.leave.SoundLemmas.{all_same_reads}
use Rattle.walk_steps.proofs.open.OpenLemmas.{clear_from, is_sound_top, keeps_none, keeps_top, known_folder, less_top, no_top, not_ok, opened_to, read_moves, sound_on, sound_top}
use Rattle.walk_steps.proofs.next.CauseLemmas.{counts_read}
use Rattle.walk_steps.proofs.take.ProgressLemmas.{kept_opened}
use Rattle.walk_steps.proofs.take.WaitsLemmas.{gives_opened}
use Rattle.walk_steps.proofs.open.open_level.Goals as goal

one_at_most : (e : Entries) → open_in e ≤ 1
one_at_most Unread = omega arith
one_at_most (Open list) = omega arith
one_at_most (Kept kept) = omega arith

shallow_opened : (n : ℕ) (folder : Folder) (e : Entries) → folder.depth < n → IsShallow n (Some folder) e
shallow_opened n folder Unread less = tt
shallow_opened n folder (Open list) less = omega (arith, less)
shallow_opened n folder (Kept kept) less = tt

pub open_list-requires : goal.open_list-requires
open_list-requires g c = record { shallow = c.requires.countable }

pub returns-in_err-entries-clause-moves : goal.returns-in_err-entries-clause-moves
returns-in_err-entries-clause-moves g c = λ lying lies tells by rest compares h. not_ok _ c.from_residual.result c.from_residual.ensures.0

pub returns-in_err-entries-clause-sound : goal.returns-in_err-entries-clause-sound
returns-in_err-entries-clause-sound g c = not_ok _ c.from_residual.result c.from_residual.ensures.0

pub returns-in_err-entries-clause-less : goal.returns-in_err-entries-clause-less
returns-in_err-entries-clause-less g c = λ lying lies. not_ok _ c.from_residual.result c.from_residual.ensures.0

pub returns-in_err-entries-clause-keeps : goal.returns-in_err-entries-clause-keeps
returns-in_err-entries-clause-keeps g c = λ lying lies.
    let s = g.D.Disk.state c.args.disk.now in
    let now = g.D.Disk.state c.open_list.new.disk in
    let inside = c.args.inside.now in
    let sorts = g.S.Order.sorts inside.order in
    let r = c.in_err-entries.ensures in
    let later = r.listed in
    let room = c.requires.room in
    keeps_none s now inside inside lying 1 lies.unread (record { options = refl; order = refl; root = refl }) (no_top inside c.requires.taken)
    (sound_on s now inside.stack.items c.requires.sound.lists (λ number. ap (λ lists. lists number) r.refused.open_list)) r.refused.open_count r.most (omega (arith, room)) r.tree r.faults (omega (arith, later)) (λ number. ap (λ lists. lists number) r.refused.open_list)

pub returns-clause-moves : goal.returns-clause-moves
returns-clause-moves g c = λ lying lies tells by rest compares h.
    let s = g.D.Disk.state c.args.disk.now in
    let now = g.D.Disk.state c.open_list.new.disk in
    let inside = c.args.inside.now in
    let sorts = g.S.Order.sorts inside.order in
    let r = c.in_ok-entries.ensures in
    let level : Level = record { folder = Some c.args.folder; first = None; entries = c.in_ok-entries.entries; faults = c.open_list.new.faults } in
    let clear = clear_from s c.in_ok-entries.entries inside.stack.items c.requires.sound.lists r.apart in
    read_moves s now sorts by inside lying level c.args.folder rest lies h refl refl r.read r.readable r.tree.tree (all_same_reads s now c.in_ok-entries.entries inside.stack.items clear r.others)
    (λ inner contents.
    opened_to s now (manner_of s.tree inside.options sorts by inside.root) c.args.folder inner c.new-faults.result.items level c.requires.unsorted c.requires.shallow c.new-faults.ensures.items r.faults contents (r.opened tells))

pub returns-clause-sound : goal.returns-clause-sound
returns-clause-sound g c =
    let s = g.D.Disk.state c.args.disk.now in
    let now = g.D.Disk.state c.open_list.new.disk in
    let inside = c.args.inside.now in
    let sorts = g.S.Order.sorts inside.order in
    let r = c.in_ok-entries.ensures in
    let level : Level = record { folder = Some c.args.folder; first = None; entries = c.in_ok-entries.entries; faults = c.open_list.new.faults } in
    let clear = clear_from s c.in_ok-entries.entries inside.stack.items c.requires.sound.lists r.apart in
    let one = one_at_most c.in_ok-entries.entries in
    let held = ap (λ (b : Bool). held_limit b inside.options) c.requires.unsorted in
    let room = c.requires.room in
    is_sound_top now sorts inside level (sound_top s now inside.stack.items level c.requires.sound.lists clear r.others r.readable) c.requires.sound.read (omega (arith, one, held, room)) c.requires.sound.shallow (shallow_opened inside.options.max_depth c.args.folder c.in_ok-entries.entries c.requires.shallow) r.read

pub returns-clause-keeps : goal.returns-clause-keeps
returns-clause-keeps g c = λ lying lies.
    let s = g.D.Disk.state c.args.disk.now in
    let now = g.D.Disk.state c.open_list.new.disk in
    let inside = c.args.inside.now in
    let sorts = g.S.Order.sorts inside.order in
    let r = c.in_ok-entries.ensures in
    let level : Level = record { folder = Some c.args.folder; first = None; entries = c.in_ok-entries.entries; faults = c.open_list.new.faults } in
    let clear = clear_from s c.in_ok-entries.entries inside.stack.items c.requires.sound.lists r.apart in
    let room = c.requires.room in
    let later = r.listed in
    keeps_top s now inside lying level 1 lies.unread (sound_top s now inside.stack.items level c.requires.sound.lists clear r.others r.readable) r.count r.most (omega (arith, room)) r.tree r.faults (omega (arith, later)) r.others r.apart

pub returns-clause-less : goal.returns-clause-less
returns-clause-less g c = λ lying lies.
    let s = g.D.Disk.state c.args.disk.now in
    let now = g.D.Disk.state c.open_list.new.disk in
    let inside = c.args.inside.now in
    let sorts = g.S.Order.sorts inside.order in
    let r = c.in_ok-entries.ensures in
    let level : Level = record { folder = Some c.args.folder; first = None; entries = c.in_ok-entries.entries; faults = c.open_list.new.faults } in
    let clear = clear_from s c.in_ok-entries.entries inside.stack.items c.requires.sound.lists r.apart in
    let light = r.light in
    let later = r.listed in
    let none = c.new-faults.ensures.len in
    let n = c.open_list.new.faults.ok.0 in
    less_top s now inside lying level (Some c.args.folder) lies clear r.others refl (known_folder c.in_ok-entries.entries c.args.folder) (omega (arith, light, later, none, n))

pub returns-in_err-entries-clause-counted : goal.returns-in_err-entries-clause-counted
returns-in_err-entries-clause-counted g c = λ there. not_ok _ c.from_residual.result c.from_residual.ensures.0

pub returns-clause-counted : goal.returns-clause-counted
returns-clause-counted g c = λ there.
    let level : Level = record { folder = Some c.args.folder; first = None; entries = c.in_ok-entries.entries; faults = c.open_list.new.faults } in
    counts_read (g.D.Disk.state c.args.disk.now) (g.D.Disk.state c.open_list.new.disk) c.args.inside.now.stack.items level c.new-faults.result.items c.new-faults.ensures.items (c.in_ok-entries.ensures.counted there)

pub returns-in_err-entries-clause-read : goal.returns-in_err-entries-clause-read
returns-in_err-entries-clause-read g c = not_ok _ c.from_residual.result c.from_residual.ensures.0

pub returns-in_err-entries-clause-kept : goal.returns-in_err-entries-clause-kept
returns-in_err-entries-clause-kept g c = λ lying lies. not_ok _ c.from_residual.result c.from_residual.ensures.0

pub returns-in_err-entries-clause-unlisted : goal.returns-in_err-entries-clause-unlisted
returns-in_err-entries-clause-unlisted g c = c.open_list.ensures.listed

pub returns-clause-read : goal.returns-clause-read
returns-clause-read g c = record { level = _; on_top = refl; read = c.in_ok-entries.ensures.read; first = refl }

pub returns-clause-kept : goal.returns-clause-kept
returns-clause-kept g c = λ lying lies.
    let level : Level = record { folder = Some c.args.folder; first = None; entries = c.in_ok-entries.entries; faults = c.open_list.new.faults } in
    let light = c.in_ok-entries.ensures.light in
    let none = c.new-faults.ensures.len in
    let same = c.open_list.ensures.listed in
    kept_opened (g.D.Disk.state c.args.disk.now) (g.D.Disk.state c.open_list.new.disk) c.args.inside.now.stack.items lying level c.in_ok-entries.ensures.read (omega (arith, light, none)) (omega (arith, same))

pub returns-clause-unlisted : goal.returns-clause-unlisted
returns-clause-unlisted g c = c.open_list.ensures.listed

pub returns-in_err-entries-clause-listed_each : goal.returns-in_err-entries-clause-listed_each
returns-in_err-entries-clause-listed_each g c = not_ok _ c.from_residual.result c.from_residual.ensures.0

pub returns-clause-listed_each : goal.returns-clause-listed_each
returns-clause-listed_each g c =
    let level : Level = record { folder = Some c.args.folder; first = None; entries = c.in_ok-entries.entries; faults = c.open_list.new.faults } in
    let light = c.in_ok-entries.ensures.light in
    let none = c.new-faults.ensures.len in
    let same = c.open_list.ensures.listed in
    gives_opened (g.D.Disk.state c.args.disk.now) (g.D.Disk.state c.open_list.new.disk) c.args.inside.now.stack.items level refl (omega (arith, light, none)) (omega (arith, same))
