use Rattle.std.proofs.Common.{◌∷◌, [], None, Some, Err, inl, inr, length, length-append, refl, sym, subst, ◌∙◌, ap, arith}
use Rattle.walk_rest.specs.declared.error.Error.TheVariants as error
use Rattle.walk_steps.specs.Causes.{faults_due}
use Rattle.walk_steps.specs.Inside.{levels_of, with_top}
use Rattle.walk_steps.specs.Sound.{depth_below}
use Rattle.walk_steps.proofs.leave.SoundLemmas.{sound_split, sound_one}
use Rattle.walk_steps.proofs.leave.WithinLemmas.{keeps_on}
use Rattle.walk_steps.proofs.next.CauseLemmas.{caused_disk, caused_none, caused_result, counts_result, counts_same, due_snoc, read_not, top_not}
use Rattle.walk_steps.proofs.next.StepLemmas.{allowed_one, no_items}
use Rattle.walk_steps.proofs.next.TakeStepLemmas.{Takes, same_read, take_sound, take_keeps, take_taken, take_left, left_sound, left_keeps, left_less, take_less, take_failed, popped_levels, turned_result, little_result}
use Rattle.walk_steps.specs.Sound.{AreRead}
use Rattle.walk_steps.proofs.next.ListedLemmas.{hidden_listed, settled_top}
use Rattle.walk_steps.proofs.leave.OthersLemmas.{shallow_split}
use Rattle.walk_steps.specs.Listed.{waits_in}
use Rattle.walk_steps.proofs.take.ProgressLemmas.{took_met}
use Rattle.walk_steps.proofs.take.WaitsLemmas.{gives_met, waits_snoc}
use Rattle.walk_steps.proofs.next.take_next.Goals as goal

pub take_entry-requires-clause-readable : goal.take_entry-requires-clause-readable
take_entry-requires-clause-readable g c = (sound_split (g.D.Disk.state c.args.disk.now) c.args.inside.now.stack.items c.args.level c.requires.sound.lists).1

pub close_level-requires : goal.close_level-requires
close_level-requires g c = sound_one (g.D.Disk.state c.take_entry.new.disk) c.take_entry.new.level c.take_entry.ensures.readable

pub returns-in-Ok-None-clause-turns : goal.returns-in-Ok-None-clause-turns
returns-in-Ok-None-clause-turns g c = λ tells by rest h.
    let s = g.D.Disk.state c.args.disk.now in
    let now = g.D.Disk.state c.take_entry.new.disk in
    let last = g.D.Disk.state c.close_level.new.disk in
    let e = c.take_entry.ensures in
    let t : Takes s now c.args.level c.take_entry.new.level = record { same = e.same; readable = e.readable; others = e.others; open_lists = e.open; tree = e.tree; faults = e.faults; later = e.later } in
    let ended = (rw c.in-Ok-None.field-0-is at c.in-Ok-None.ensures.ended) tells in
    take_left s now last (g.S.Order.sorts c.args.inside.now.order) by c.args.inside.now _ c.args.level c.take_entry.new.level rest t c.requires.sound c.requires.read c.requires.first c.requires.faultless ended
    c.close_level.ensures.others c.close_level.ensures.tree c.close_level.ensures.faults (record { options = refl; order = refl; root = refl }) refl
    (popped_levels c.pop.new.self.items c.pop.result c.args.inside.now.stack.items c.pop.ensures.items) h

pub returns-in-Ok-None-clause-sound : goal.returns-in-Ok-None-clause-sound
returns-in-Ok-None-clause-sound g c =
    let s = g.D.Disk.state c.args.disk.now in
    let now = g.D.Disk.state c.take_entry.new.disk in
    let last = g.D.Disk.state c.close_level.new.disk in
    let e = c.take_entry.ensures in
    let t : Takes s now c.args.level c.take_entry.new.level = record { same = e.same; readable = e.readable; others = e.others; open_lists = e.open; tree = e.tree; faults = e.faults; later = e.later } in
    left_sound s now last (g.S.Order.sorts c.args.inside.now.order) c.args.inside.now _ c.args.level c.take_entry.new.level t c.requires.sound c.close_level.ensures.others
    (record { options = refl; order = refl; root = refl }) c.pop.ensures.items
    (λ none. no_items c.pop.new.self.items (let z = (rw none at c.pop.ensures.cases).1 in omega (arith, z, c.pop.new.self.ok.0)))

pub returns-in-Ok-None-clause-keeps : goal.returns-in-Ok-None-clause-keeps
returns-in-Ok-None-clause-keeps g c =
    let s = g.D.Disk.state c.args.disk.now in
    let now = g.D.Disk.state c.take_entry.new.disk in
    let last = g.D.Disk.state c.close_level.new.disk in
    let e = c.take_entry.ensures in
    let t : Takes s now c.args.level c.take_entry.new.level = record { same = e.same; readable = e.readable; others = e.others; open_lists = e.open; tree = e.tree; faults = e.faults; later = e.later } in
    left_keeps s now last (g.S.Order.sorts c.args.inside.now.order) c.args.inside.now _ c.args.level c.take_entry.new.level t c.requires.sound c.close_level.ensures.others
    (record { options = refl; order = refl; root = refl }) c.pop.ensures.items c.close_level.ensures.tree c.close_level.ensures.faults c.close_level.ensures.listed c.close_level.ensures.count c.close_level.ensures.most

pub returns-in-Ok-None-clause-less : goal.returns-in-Ok-None-clause-less
returns-in-Ok-None-clause-less g c =
    let s = g.D.Disk.state c.args.disk.now in
    let now = g.D.Disk.state c.take_entry.new.disk in
    let last = g.D.Disk.state c.close_level.new.disk in
    let e = c.take_entry.ensures in
    let t : Takes s now c.args.level c.take_entry.new.level = record { same = e.same; readable = e.readable; others = e.others; open_lists = e.open; tree = e.tree; faults = e.faults; later = e.later } in
    left_less s now last (g.S.Order.sorts c.args.inside.now.order) c.args.inside.now (record c.args.inside.now { stack = c.pop.new.self; top = c.pop.result }) c.args.level c.take_entry.new.level t c.requires.sound c.close_level.ensures.others
    c.pop.ensures.items c.close_level.ensures.listed c.in-Ok-None.ensures.not_more

pub meet-requires-clause-sound : goal.meet-requires-clause-sound
meet-requires-clause-sound g c =
    let s = g.D.Disk.state c.args.disk.now in
    let now = g.D.Disk.state c.take_entry.new.disk in
    let e = c.take_entry.ensures in
    let t : Takes s now c.args.level c.take_entry.new.level = record { same = e.same; readable = e.readable; others = e.others; open_lists = e.open; tree = e.tree; faults = e.faults; later = e.later } in
    take_sound s now (g.S.Order.sorts c.args.inside.now.order) c.args.inside.now c.args.level c.take_entry.new.level t c.requires.sound

pub meet-requires-clause-read : goal.meet-requires-clause-read
meet-requires-clause-read g c = same_read c.args.level.entries c.take_entry.new.level.entries c.take_entry.ensures.same.entries c.requires.read

pub meet-requires-clause-first : goal.meet-requires-clause-first
meet-requires-clause-first g c = c.take_entry.ensures.same.first ∙ c.requires.first

pub meet-requires-clause-faultless : goal.meet-requires-clause-faultless
meet-requires-clause-faultless g c = c.take_entry.ensures.same.faults ∙ c.requires.faultless

pub meet-requires-clause-depth : goal.meet-requires-clause-depth
meet-requires-clause-depth g c = (rw c.in-Ok-Some.field-0-is at c.in-Ok-Some.ensures.depth) ∙ ap depth_below (sym c.take_entry.ensures.same.folder)

pub returns-in-Ok-Some-clause-turns : goal.returns-in-Ok-Some-clause-turns
returns-in-Ok-Some-clause-turns g c = λ tells by rest h.
    let s = g.D.Disk.state c.args.disk.now in
    let now = g.D.Disk.state c.take_entry.new.disk in
    let last = g.D.Disk.state c.meet.new.disk in
    let sorts = g.S.Order.sorts c.args.inside.now.order in
    let e = c.take_entry.ensures in
    let t : Takes s now c.args.level c.take_entry.new.level = record { same = e.same; readable = e.readable; others = e.others; open_lists = e.open; tree = e.tree; faults = e.faults; later = e.later } in
    let took = (rw c.in-Ok-Some.field-0-is at c.in-Ok-Some.ensures.taken) tells in
    let taken = take_taken s now sorts by c.args.inside.now c.args.level c.take_entry.new.level c.in-Ok-Some.entry rest t c.requires.sound c.requires.read c.requires.first c.requires.faultless took h in
    turned_result s now last sorts by rest c.meet.new.inside c.meet.result e.faults c.meet.ensures.keeps.faults (c.meet.ensures.turns tells by rest taken)

pub returns-in-Ok-Some-clause-keeps : goal.returns-in-Ok-Some-clause-keeps
returns-in-Ok-Some-clause-keeps g c =
    let s = g.D.Disk.state c.args.disk.now in
    let now = g.D.Disk.state c.take_entry.new.disk in
    let e = c.take_entry.ensures in
    let t : Takes s now c.args.level c.take_entry.new.level = record { same = e.same; readable = e.readable; others = e.others; open_lists = e.open; tree = e.tree; faults = e.faults; later = e.later } in
    keeps_on s now (g.D.Disk.state c.meet.new.disk) (with_top c.args.inside.now c.args.level) (with_top c.args.inside.now c.take_entry.new.level) c.meet.new.inside
    (take_keeps s now (g.S.Order.sorts c.args.inside.now.order) c.args.inside.now c.args.level c.take_entry.new.level t c.requires.sound) c.meet.ensures.keeps

pub returns-in-Ok-Some-clause-less : goal.returns-in-Ok-Some-clause-less
returns-in-Ok-Some-clause-less g c =
    let s = g.D.Disk.state c.args.disk.now in
    let now = g.D.Disk.state c.take_entry.new.disk in
    let last = g.D.Disk.state c.meet.new.disk in
    let e = c.take_entry.ensures in
    let t : Takes s now c.args.level c.take_entry.new.level = record { same = e.same; readable = e.readable; others = e.others; open_lists = e.open; tree = e.tree; faults = e.faults; later = e.later } in
    let l = take_less s now (g.S.Order.sorts c.args.inside.now.order) c.args.inside.now c.args.level c.take_entry.new.level 5 t c.requires.sound (rw c.in-Ok-Some.field-0-is at c.in-Ok-Some.ensures.worked) in
    little_result c.meet.result _ _ _ l c.meet.ensures.little

pub depth_in-depth-requires : goal.depth_in-depth-requires
depth_in-depth-requires g c = rw c.take_entry.ensures.same.folder (c.take_entry.ensures.deep (rw c.in-Err-Failed.field-0-is at c.in-Err-Failed.is))

pub returns-in-Err-Failed-clause-turns : goal.returns-in-Err-Failed-clause-turns
returns-in-Err-Failed-clause-turns g c = λ tells by rest h.
    let s = g.D.Disk.state c.args.disk.now in
    let now = g.D.Disk.state c.take_entry.new.disk in
    let e = c.take_entry.ensures in
    let t : Takes s now c.args.level c.take_entry.new.level = record { same = e.same; readable = e.readable; others = e.others; open_lists = e.open; tree = e.tree; faults = e.faults; later = e.later } in
    let is = rw c.in-Err-Failed.field-0-is at c.in-Err-Failed.is in
    take_failed s now (g.S.Order.sorts c.args.inside.now.order) by c.args.inside.now c.args.level c.take_entry.new.level _ rest t c.requires.sound c.requires.read (e.failing is) c.requires.first c.requires.faultless
    c.depth_in-depth.ensures (e.failed tells is) (e.cause is) h

pub returns-in-Err-Failed-clause-sound : goal.returns-in-Err-Failed-clause-sound
returns-in-Err-Failed-clause-sound g c =
    let s = g.D.Disk.state c.args.disk.now in
    let now = g.D.Disk.state c.take_entry.new.disk in
    let e = c.take_entry.ensures in
    let t : Takes s now c.args.level c.take_entry.new.level = record { same = e.same; readable = e.readable; others = e.others; open_lists = e.open; tree = e.tree; faults = e.faults; later = e.later } in
    take_sound s now (g.S.Order.sorts c.args.inside.now.order) c.args.inside.now c.args.level c.take_entry.new.level t c.requires.sound

pub returns-in-Err-Failed-clause-keeps : goal.returns-in-Err-Failed-clause-keeps
returns-in-Err-Failed-clause-keeps g c =
    let s = g.D.Disk.state c.args.disk.now in
    let now = g.D.Disk.state c.take_entry.new.disk in
    let e = c.take_entry.ensures in
    let t : Takes s now c.args.level c.take_entry.new.level = record { same = e.same; readable = e.readable; others = e.others; open_lists = e.open; tree = e.tree; faults = e.faults; later = e.later } in
    take_keeps s now (g.S.Order.sorts c.args.inside.now.order) c.args.inside.now c.args.level c.take_entry.new.level t c.requires.sound

pub returns-in-Err-Failed-clause-less : goal.returns-in-Err-Failed-clause-less
returns-in-Err-Failed-clause-less g c =
    let s = g.D.Disk.state c.args.disk.now in
    let now = g.D.Disk.state c.take_entry.new.disk in
    let e = c.take_entry.ensures in
    let t : Takes s now c.args.level c.take_entry.new.level = record { same = e.same; readable = e.readable; others = e.others; open_lists = e.open; tree = e.tree; faults = e.faults; later = e.later } in
    let w = e.wasted (rw c.in-Err-Failed.field-0-is at c.in-Err-Failed.is) in
    let l = take_less s now (g.S.Order.sorts c.args.inside.now.order) c.args.inside.now c.args.level c.take_entry.new.level 1 t c.requires.sound (omega (arith, w)) in
    omega (arith, l)

pub returns-in-Err-clause-keeps : goal.returns-in-Err-clause-keeps
returns-in-Err-clause-keeps g c =
    let s = g.D.Disk.state c.args.disk.now in
    let now = g.D.Disk.state c.take_entry.new.disk in
    let e = c.take_entry.ensures in
    let t : Takes s now c.args.level c.take_entry.new.level = record { same = e.same; readable = e.readable; others = e.others; open_lists = e.open; tree = e.tree; faults = e.faults; later = e.later } in
    take_keeps s now (g.S.Order.sorts c.args.inside.now.order) c.args.inside.now c.args.level c.take_entry.new.level t c.requires.sound

-- ---- causes and counts

pub returns-in-Ok-None-clause-caused : goal.returns-in-Ok-None-clause-caused
returns-in-Ok-None-clause-caused g c = caused_none g.D.Disk.tells (g.D.Disk.state c.args.disk.now) (g.D.Disk.state c.close_level.new.disk) _

pub returns-in-Ok-None-clause-counted : goal.returns-in-Ok-None-clause-counted
returns-in-Ok-None-clause-counted g c =
    let later = c.take_entry.ensures.faults in
    let same = c.close_level.ensures.faults in
    let xs = c.args.inside.now.stack.items in
    let a = due_snoc xs c.args.level in
    let b = ap length c.requires.faultless in
    let d = ap faults_due (popped_levels c.pop.new.self.items c.pop.result xs c.pop.ensures.items) in
    inl (omega (arith, later, same, a, b, d))

pub returns-in-Ok-Some-clause-caused : goal.returns-in-Ok-Some-clause-caused
returns-in-Ok-Some-clause-caused g c =
    caused_result g.D.Disk.tells (g.D.Disk.state c.args.disk.now) (g.D.Disk.state c.take_entry.new.disk) (g.D.Disk.state c.meet.new.disk) c.meet.result c.meet.new.inside c.take_entry.ensures.faults c.meet.ensures.caused

pub returns-in-Ok-Some-clause-counted : goal.returns-in-Ok-Some-clause-counted
returns-in-Ok-Some-clause-counted g c =
    let xs = c.args.inside.now.stack.items in
    let a = due_snoc xs c.args.level in
    let b = due_snoc xs c.take_entry.new.level in
    let d = ap length c.take_entry.ensures.same.faults in
    counts_result g.D.Disk.tells (g.D.Disk.state c.args.disk.now) (g.D.Disk.state c.take_entry.new.disk) (g.D.Disk.state c.meet.new.disk) (levels_of (with_top c.args.inside.now c.args.level)) (levels_of (with_top c.args.inside.now c.take_entry.new.level))
    (levels_of c.meet.new.inside) c.meet.result c.take_entry.ensures.faults (omega (arith, a, b, d)) c.meet.ensures.counted

pub returns-in-Err-Failed-clause-caused : goal.returns-in-Err-Failed-clause-caused
returns-in-Err-Failed-clause-caused g c =
    caused_disk g.D.Disk.tells (g.D.Disk.state c.args.disk.now) (g.D.Disk.state c.take_entry.new.disk) None c.depth_in-depth.result _
    (top_not (Some (Err (error.Disk None c.depth_in-depth.result))) c.take_entry.new.level (read_not c.take_entry.new.level.entries (same_read c.args.level.entries c.take_entry.new.level.entries c.take_entry.ensures.same.entries c.requires.read)))

pub returns-in-Err-Failed-clause-counted : goal.returns-in-Err-Failed-clause-counted
returns-in-Err-Failed-clause-counted g c =
    let xs = c.args.inside.now.stack.items in
    let a = due_snoc xs c.args.level in
    let b = due_snoc xs c.take_entry.new.level in
    let d = ap length c.take_entry.ensures.same.faults in
    counts_same 1 (g.D.Disk.state c.args.disk.now) (g.D.Disk.state c.take_entry.new.disk) (levels_of (with_top c.args.inside.now c.args.level)) (levels_of (with_top c.args.inside.now c.take_entry.new.level)) (omega (arith, a, b, d))
    (allowed_one _ _ (c.take_entry.ensures.cause (rw c.in-Err-Failed.field-0-is at c.in-Err-Failed.is)))

-- ---- what is listed

pub returns-in-Ok-None-clause-settles : goal.returns-in-Ok-None-clause-settles
returns-in-Ok-None-clause-settles g c = λ gives.
    settled_top c.args.inside.now.options.max_depth c.pop.new.self.items c.pop.result (subst AreRead (sym (popped_levels c.pop.new.self.items c.pop.result c.args.inside.now.stack.items c.pop.ensures.items)) c.requires.sound.read)

pub returns-in-Ok-None-clause-passes : goal.returns-in-Ok-None-clause-passes
returns-in-Ok-None-clause-passes g c = λ gives. c.close_level.ensures.listed ∙ (rw c.in-Ok-None.field-0-is at c.in-Ok-None.ensures.none_listed)

pub returns-in-Ok-Some-clause-passes : goal.returns-in-Ok-Some-clause-passes
returns-in-Ok-Some-clause-passes g c = λ gives.
    let n = c.args.inside.now.options.max_depth in
    let level = c.args.level in
    hidden_listed n c.in-Ok-Some.entry.depth (g.D.Disk.state c.args.disk.now).listed (g.D.Disk.state c.take_entry.new.disk).listed (g.D.Disk.state c.meet.new.disk).listed level.folder level.entries c.meet.result
    (shallow_split n c.args.inside.now.stack.items level c.requires.sound.shallow).1 (rw c.in-Ok-Some.field-0-is at c.in-Ok-Some.ensures.depth) c.take_entry.ensures.later c.take_entry.ensures.at_most_one c.meet.ensures.listed (c.meet.ensures.hides gives)

-- ---- entries below the root

pub returns-in-Ok-None-clause-listed_each : goal.returns-in-Ok-None-clause-listed_each
returns-in-Ok-None-clause-listed_each g c =
    let later = c.take_entry.ensures.later in
    let same = c.close_level.ensures.listed in
    let xs = c.args.inside.now.stack.items in
    let a = waits_snoc xs c.args.level in
    let d = ap waits_in (popped_levels c.pop.new.self.items c.pop.result xs c.pop.ensures.items) in
    omega (arith, later, same, a, d)

pub returns-in-Ok-Some-clause-listed_each : goal.returns-in-Ok-Some-clause-listed_each
returns-in-Ok-Some-clause-listed_each g c =
    gives_met (g.D.Disk.state c.args.disk.now) (g.D.Disk.state c.take_entry.new.disk) (g.D.Disk.state c.meet.new.disk) c.args.inside.now.stack.items c.args.level c.take_entry.new.level (levels_of c.meet.new.inside) c.in-Ok-Some.entry c.meet.result
    (rw c.in-Ok-Some.field-0-is at c.in-Ok-Some.ensures.listed_each) c.meet.ensures.listed c.meet.ensures.listed_each

pub returns-in-Err-Failed-clause-listed_each : goal.returns-in-Err-Failed-clause-listed_each
returns-in-Err-Failed-clause-listed_each g c =
    let xs = c.args.inside.now.stack.items in
    let a = waits_snoc xs c.args.level in
    let b = waits_snoc xs c.take_entry.new.level in
    let less = c.take_entry.ensures.waits in
    omega (arith, a, b, less)

-- ---- what is done

pub returns-in-Ok-None-clause-progress : goal.returns-in-Ok-None-clause-progress
returns-in-Ok-None-clause-progress g c =
    let xs = c.args.inside.now.stack.items in
    let a = length-append xs (c.args.level ∷ []) in
    let d = ap length (popped_levels c.pop.new.self.items c.pop.result xs c.pop.ensures.items) in
    inr (inl (omega (arith, a, d)))

pub returns-in-Ok-Some-clause-progress : goal.returns-in-Ok-Some-clause-progress
returns-in-Ok-Some-clause-progress g c =
    took_met None (g.D.Disk.state c.args.disk.now) (g.D.Disk.state c.take_entry.new.disk) (g.D.Disk.state c.meet.new.disk) c.args.inside.now.stack.items c.args.level c.take_entry.new.level
    (levels_of c.meet.new.inside) c.meet.result (rw c.in-Ok-Some.field-0-is at c.in-Ok-Some.ensures.takes) c.meet.ensures.listed c.meet.ensures.kept

pub returns-in-Err-Failed-clause-progress : goal.returns-in-Err-Failed-clause-progress
returns-in-Err-Failed-clause-progress g c = inr (inr (inr (_, refl)))
