use Rattle.std.proofs.Common.{[], ◌∷◌, ◌++◌, inl, inr, sym, subst, ◌∙◌, ap, arith}
use Rattle.std.specs.Prelude.{IsSome, OnOk}
use Rattle.sd_io.specs.Tree.{Tree}
use Rattle.sd_io.specs.Lists.{directory_of}
use Rattle.walk_steps.specs.Inside.{HasRest, levels_of, with_top}
use Rattle.walk_steps.specs.Steps.{MovesTo}
use Rattle.walk_steps.specs.Sound.{open_limit}
use Rattle.walk_steps.proofs.leave.WithinLemmas.{keeps_on}
use Rattle.walk_steps.proofs.next.StepLemmas.{moves_more}
use Rattle.walk_steps.proofs.open.OpenLemmas.{keeps_refused, keeps_room, less_room, no_top, not_ok, on_ok, room_sound, same_walk, still_taken}
use Rattle.walk_steps.proofs.next.CauseLemmas.{counts_on}
use Rattle.walk_steps.proofs.take.WaitsLemmas.{gives_on}
use Rattle.walk_steps.proofs.take.ProgressLemmas.{kept_below, kept_on}
use Rattle.walk_steps.proofs.open.read_directory.Goals as goal
use Rattle.walk_steps.proofs.open.read_directory.Goals.{then-inside-folder-via-then-inside-folder, then-inside-folder-via-else-inside-folder+then-sorts}

pub read_whole-requires-clause-whole : goal.read_whole-requires-clause-whole
read_whole-requires-clause-whole g c = λ shallow. elim c.then-inside-folder.branch [
  | then-inside-folder-via-then-inside-folder w ↦ absurd (omega (arith, w.if-inside-folder.true, shallow))
  | then-inside-folder-via-else-inside-folder+then-sorts w ↦ sym w.sorts.ensures ∙ w.if-sorts.true
]

pub returns-in_err-make_room-clause-moves : goal.returns-in_err-make_room-clause-moves
returns-in_err-make_room-clause-moves g c = λ lying lies tells by rest compares h. not_ok _ c.from_residual.result c.from_residual.ensures.0

pub returns-in_err-make_room-clause-less : goal.returns-in_err-make_room-clause-less
returns-in_err-make_room-clause-less g c = λ lying lies. not_ok _ c.from_residual.result c.from_residual.ensures.0

pub returns-in_err-make_room-clause-keeps : goal.returns-in_err-make_room-clause-keeps
returns-in_err-make_room-clause-keeps g c = λ lying lies.
    let r = c.make_room.ensures in
    let inside = c.args.inside.now in
    let mid = c.make_room.new.inside in
    keeps_refused (g.D.Disk.state c.args.disk.now) (g.D.Disk.state c.make_room.new.disk) inside mid lying lies.unread (same_walk inside mid r.same)
    (no_top mid (still_taken inside mid r.same c.requires.taken)) r.lists r.within r.tree r.faults r.later r.others

pub open_level-requires-clause-sound : goal.open_level-requires-clause-sound
open_level-requires-clause-sound g c =
    let r = c.make_room.ensures in
    let inside = c.args.inside.now in
    let mid = c.make_room.new.inside in
    let walk = same_walk inside mid r.same in
    room_sound (g.D.Disk.state c.make_room.new.disk) (g.S.Order.sorts inside.order) (g.S.Order.sorts mid.order) inside mid walk (ap g.S.Order.sorts walk.order) r.lists r.read r.not_more c.requires.sound.few (r.shallow inside.options.max_depth c.requires.sound.shallow)

pub open_level-requires-clause-taken : goal.open_level-requires-clause-taken
open_level-requires-clause-taken g c = still_taken c.args.inside.now c.make_room.new.inside c.make_room.ensures.same c.requires.taken

pub open_level-requires-clause-unsorted : goal.open_level-requires-clause-unsorted
open_level-requires-clause-unsorted g c =
    let walk = same_walk c.args.inside.now c.make_room.new.inside c.make_room.ensures.same in
    ap g.S.Order.sorts walk.order ∙ (sym c.sorts.ensures ∙ c.if-sorts.false)

pub open_level-requires-clause-shallow : goal.open_level-requires-clause-shallow
open_level-requires-clause-shallow g c =
    let walk = same_walk c.args.inside.now c.make_room.new.inside c.make_room.ensures.same in
    let deep = ap (λ o. o.max_depth) walk.options in
    omega (arith, deep, c.if-inside-folder.false)

pub open_level-requires-clause-room : goal.open_level-requires-clause-room
open_level-requires-clause-room g c =
    let walk = same_walk c.args.inside.now c.make_room.new.inside c.make_room.ensures.same in
    let room = c.in_ok-make_room.ensures.room in
    let limit = ap open_limit walk.options in
    omega (arith, room, limit)

pub returns-clause-moves : goal.returns-clause-moves
returns-clause-moves g c = λ lying lies tells by rest compares h.
    let s = g.D.Disk.state c.args.disk.now in
    let now = g.D.Disk.state c.make_room.new.disk in
    let last = g.D.Disk.state c.open_level.new.disk in
    let inside = c.args.inside.now in
    let mid = c.make_room.new.inside in
    let new = c.open_level.new.inside in
    let r = c.in_ok-make_room.ensures in
    let walk = same_walk inside mid r.same in
    let m = r.moves tells by lying c.args.folder rest lies h in
    let k = c.open_level.ensures.keeps lying lies in
    let P : g.row.S.Denot → Type 0 = λ o. g.S.Order.compares_by o by → HasRest {S = g.row.S.Denot} now (g.S.Order.sorts o) by (with_top mid lying) m.new
    → OnOk c.open_level.result (MovesTo {S = g.row.S.Denot} now (g.S.Order.sorts o) by m.new last new) in
    on_ok c.open_level.result (moves_more s now last (g.S.Order.sorts inside.order) by (with_top mid lying) new rest r.faults k.faults m)
    (subst P walk.order (c.open_level.ensures.moves lying lies tells by m.new) compares m.left)

pub returns-clause-keeps : goal.returns-clause-keeps
returns-clause-keeps g c = λ lying lies.
    let s = g.D.Disk.state c.args.disk.now in
    let now = g.D.Disk.state c.make_room.new.disk in
    let inside = c.args.inside.now in
    let mid = c.make_room.new.inside in
    let r = c.make_room.ensures in
    keeps_on s now (g.D.Disk.state c.open_level.new.disk) (with_top inside lying) (with_top mid lying) c.open_level.new.inside
    (keeps_room s now inside mid lying lies.unread (same_walk inside mid r.same) r.lists r.within r.tree r.faults r.later r.others) (c.open_level.ensures.keeps lying lies)

pub returns-clause-less : goal.returns-clause-less
returns-clause-less g c = λ lying lies.
    let s = g.D.Disk.state c.args.disk.now in
    let now = g.D.Disk.state c.make_room.new.disk in
    on_ok c.open_level.result (less_room s now c.args.inside.now c.make_room.new.inside lying _ lies.unread c.in_ok-make_room.ensures.work) (c.open_level.ensures.less lying lies)

pub returns-in_err-make_room-clause-counted : goal.returns-in_err-make_room-clause-counted
returns-in_err-make_room-clause-counted g c = λ lying lies there. not_ok _ c.from_residual.result c.from_residual.ensures.0

pub returns-clause-counted : goal.returns-clause-counted
returns-clause-counted g c = λ lying lies there.
    let s = g.D.Disk.state c.args.disk.now in
    let now = g.D.Disk.state c.make_room.new.disk in
    let last = g.D.Disk.state c.open_level.new.disk in
    let r = c.in_ok-make_room.ensures in
    let P : Tree → Type 0 = λ t. IsSome (directory_of t c.args.folder.path) in
    on_ok c.open_level.result
    (counts_on 0 s now last c.args.inside.now.stack.items c.make_room.new.inside.stack.items (levels_of c.open_level.new.inside) (c.open_level.ensures.keeps lying lies).faults r.counted)
    (c.open_level.ensures.counted (λ tells. subst P (sym r.tree.tree) (there tells c.if-inside-folder.false)))

-- ---- what is listed

pub returns-in_err-make_room-clause-read : goal.returns-in_err-make_room-clause-read
returns-in_err-make_room-clause-read g c = not_ok _ c.from_residual.result c.from_residual.ensures.0

pub returns-in_err-make_room-clause-kept : goal.returns-in_err-make_room-clause-kept
returns-in_err-make_room-clause-kept g c = λ lying lies. not_ok _ c.from_residual.result c.from_residual.ensures.0

pub returns-in_err-make_room-clause-listed_whole : goal.returns-in_err-make_room-clause-listed_whole
returns-in_err-make_room-clause-listed_whole g c = λ tells by count compares sorts to_list none. not_ok _ c.from_residual.result c.from_residual.ensures.0

pub returns-in_err-make_room-clause-unlisted : goal.returns-in_err-make_room-clause-unlisted
returns-in_err-make_room-clause-unlisted g c = λ unsorted room. elim room [ inl deep ↦ absurd (omega (arith, deep, c.if-inside-folder.false)) | inr few ↦ c.make_room.ensures.roomy few ]

pub returns-clause-unlisted : goal.returns-clause-unlisted
returns-clause-unlisted g c = λ unsorted room.
    elim room [ inl deep ↦ absurd (omega (arith, deep, c.if-inside-folder.false)) | inr few ↦ c.open_level.ensures.unlisted ∙ c.make_room.ensures.roomy few ]

pub returns-clause-kept : goal.returns-clause-kept
returns-clause-kept g c = λ lying lies.
    let s = g.D.Disk.state c.args.disk.now in
    let now = g.D.Disk.state c.make_room.new.disk in
    let r = c.in_ok-make_room.ensures in
    let xs = c.args.inside.now.stack.items in
    let ys = c.make_room.new.inside.stack.items in
    on_ok c.open_level.result
    (kept_on s now (g.D.Disk.state c.open_level.new.disk) (xs ++ lying ∷ []) (ys ++ lying ∷ []) (levels_of c.open_level.new.inside) (kept_below s now xs ys lying r.later r.kept))
    (c.open_level.ensures.kept lying lies)

pub returns-clause-listed_whole : goal.returns-clause-listed_whole
returns-clause-listed_whole g c = λ tells by count compares sorts to_list none. absurd (let e = sym c.if-sorts.false ∙ (c.sorts.ensures ∙ sorts) in cc e)

pub returns-in_err-make_room-clause-listed_each : goal.returns-in_err-make_room-clause-listed_each
returns-in_err-make_room-clause-listed_each g c = not_ok _ c.from_residual.result c.from_residual.ensures.0

pub returns-clause-listed_each : goal.returns-clause-listed_each
returns-clause-listed_each g c =
    on_ok c.open_level.result
    (gives_on 0 (g.D.Disk.state c.args.disk.now) (g.D.Disk.state c.make_room.new.disk) (g.D.Disk.state c.open_level.new.disk) c.args.inside.now.stack.items c.make_room.new.inside.stack.items (levels_of c.open_level.new.inside) c.in_ok-make_room.ensures.listed_each)
    c.open_level.ensures.listed_each
