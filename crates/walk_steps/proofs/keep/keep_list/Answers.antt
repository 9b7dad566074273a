use Rattle.std.proofs.Common.{◌≡◌, ◌+◌, ap, inl, inr, arith}
use Rattle.std.specs.Prelude.{slice_set}
use Rattle.walk_steps.specs.Sound.{open_in, opens}
use Rattle.walk_steps.proofs.keep.KeepLemmas.{ReplacesOne, stands, replaced, kept_counted, kept_oldest, kept_waits, kept_work, level_set, open_one, readable_at}
use Rattle.walk_steps.proofs.take.ProgressLemmas.{kept_among}
use Rattle.walk_steps.proofs.keep.keep_list.Given as given
use Rattle.walk_steps.proofs.keep.keep_list.Goals as goal

pub keep_level-requires-clause-readable : goal.keep_level-requires-clause-readable
keep_level-requires-clause-readable g c =
    let at = stands c.args.levels.now.items c.as_slice.result.now c.in-Some.place c.index_mut.result.now c.as_slice.ensures.value c.in-Some.ensures.found c.index_mut.ensures.value in
    readable_at (g.D.Disk.state c.args.disk.now) at.lower at.upper c.index_mut.result.now (rw at.are at c.requires.sound)

failed : (g : given.Over) (c : goal.After-from_residual g) → ReplacesOne (g.D.Disk.state c.args.disk.now) c.args.levels.now.items (g.D.Disk.state c.keep_level.new.disk) (slice_set c.args.levels.now.items c.in-Some.place c.keep_level.new.level) c.index_mut.result.now c.keep_level.new.level
failed g c =
    let at = stands c.args.levels.now.items c.as_slice.result.now c.in-Some.place c.index_mut.result.now c.as_slice.ensures.value c.in-Some.ensures.found c.index_mut.ensures.value in
    let k = c.keep_level.ensures in
    replaced (g.D.Disk.state c.args.disk.now) (g.D.Disk.state c.keep_level.new.disk) c.args.levels.now.items c.in-Some.place c.index_mut.result.now c.keep_level.new.level at c.requires.sound
    k.others k.readable k.read k.count k.most (inl c.in_err-keep_level.ensures.refused) k.folder

pub returns-in_err-keep_level-clause-sound : goal.returns-in_err-keep_level-clause-sound
returns-in_err-keep_level-clause-sound g c = (failed g c).sound

pub returns-in_err-keep_level-clause-read : goal.returns-in_err-keep_level-clause-read
returns-in_err-keep_level-clause-read g c = (failed g c).read

pub returns-in_err-keep_level-clause-not_more : goal.returns-in_err-keep_level-clause-not_more
returns-in_err-keep_level-clause-not_more g c = (let e = (failed g c).count in let same = ap open_in c.in_err-keep_level.ensures.refused in omega (arith, e, same))

pub returns-in_err-keep_level-clause-within : goal.returns-in_err-keep_level-clause-within
returns-in_err-keep_level-clause-within g c = (failed g c).within

pub returns-in_err-keep_level-clause-others : goal.returns-in_err-keep_level-clause-others
returns-in_err-keep_level-clause-others g c = (failed g c).others

kept : (g : given.Over) (c : goal.In_ok-keep_level g) → ReplacesOne (g.D.Disk.state c.args.disk.now) c.args.levels.now.items (g.D.Disk.state c.keep_level.new.disk) (slice_set c.args.levels.now.items c.in-Some.place c.keep_level.new.level) c.index_mut.result.now c.keep_level.new.level
kept g c =
    let at = stands c.args.levels.now.items c.as_slice.result.now c.in-Some.place c.index_mut.result.now c.as_slice.ensures.value c.in-Some.ensures.found c.index_mut.ensures.value in
    let k = c.keep_level.ensures in
    replaced (g.D.Disk.state c.args.disk.now) (g.D.Disk.state c.keep_level.new.disk) c.args.levels.now.items c.in-Some.place c.index_mut.result.now c.keep_level.new.level at c.requires.sound
    k.others k.readable k.read k.count k.most (inr c.in_ok-keep_level.ensures.closed) k.folder

-- one list fewer is open
fewer : (g : given.Over) (c : goal.In_ok-keep_level g) → opens (slice_set c.args.levels.now.items c.in-Some.place c.keep_level.new.level) + 1 ≡ opens c.args.levels.now.items
fewer g c =
    let at = stands c.args.levels.now.items c.as_slice.result.now c.in-Some.place c.index_mut.result.now c.as_slice.ensures.value c.in-Some.ensures.found c.index_mut.ensures.value in
    let e = (kept g c).count in
    let one = open_one c.index_mut.result.now.entries at.is_open in
    let none = c.in_ok-keep_level.ensures.closed in
    omega (arith, e, one, none)

pub returns-in_ok-keep_level-clause-kept : goal.returns-in_ok-keep_level-clause-kept
returns-in_ok-keep_level-clause-kept g c = λ tells. kept_oldest (g.D.Disk.state c.args.disk.now) (g.D.Disk.state c.keep_level.new.disk) c.args.levels.now.items c.in-Some.place c.index_mut.result.now c.keep_level.new.level
    (stands c.args.levels.now.items c.as_slice.result.now c.in-Some.place c.index_mut.result.now c.as_slice.ensures.value c.in-Some.ensures.found c.index_mut.ensures.value) c.requires.sound
    c.keep_level.ensures.others (c.in_ok-keep_level.ensures.kept tells)

pub returns-in_ok-keep_level-clause-sound : goal.returns-in_ok-keep_level-clause-sound
returns-in_ok-keep_level-clause-sound g c = (kept g c).sound

pub returns-in_ok-keep_level-clause-read : goal.returns-in_ok-keep_level-clause-read
returns-in_ok-keep_level-clause-read g c = (kept g c).read

pub returns-in_ok-keep_level-clause-fewer : goal.returns-in_ok-keep_level-clause-fewer
returns-in_ok-keep_level-clause-fewer g c = fewer g c

pub returns-in_ok-keep_level-clause-not_more : goal.returns-in_ok-keep_level-clause-not_more
returns-in_ok-keep_level-clause-not_more g c = (let e = fewer g c in omega (arith, e))

pub returns-in_ok-keep_level-clause-within : goal.returns-in_ok-keep_level-clause-within
returns-in_ok-keep_level-clause-within g c = (kept g c).within

pub returns-in_ok-keep_level-clause-others : goal.returns-in_ok-keep_level-clause-others
returns-in_ok-keep_level-clause-others g c = (kept g c).others

pub returns-in_ok-keep_level-clause-work : goal.returns-in_ok-keep_level-clause-work
returns-in_ok-keep_level-clause-work g c = kept_work (g.D.Disk.state c.args.disk.now) (g.D.Disk.state c.keep_level.new.disk) c.args.levels.now.items c.in-Some.place c.index_mut.result.now c.keep_level.new.level
    (stands c.args.levels.now.items c.as_slice.result.now c.in-Some.place c.index_mut.result.now c.as_slice.ensures.value c.in-Some.ensures.found c.index_mut.ensures.value) c.requires.sound
    c.keep_level.ensures.others c.in_ok-keep_level.ensures.work

pub returns-in_err-keep_level-clause-apart : goal.returns-in_err-keep_level-clause-apart
returns-in_err-keep_level-clause-apart g c = (failed g c).apart

pub returns-in_err-keep_level-clause-shallow : goal.returns-in_err-keep_level-clause-shallow
returns-in_err-keep_level-clause-shallow g c = (failed g c).shallow

pub returns-in_ok-keep_level-clause-apart : goal.returns-in_ok-keep_level-clause-apart
returns-in_ok-keep_level-clause-apart g c = (kept g c).apart

pub returns-in_ok-keep_level-clause-shallow : goal.returns-in_ok-keep_level-clause-shallow
returns-in_ok-keep_level-clause-shallow g c = (kept g c).shallow

pub returns-in_ok-keep_level-clause-counted : goal.returns-in_ok-keep_level-clause-counted
returns-in_ok-keep_level-clause-counted g c = kept_counted (g.D.Disk.state c.args.disk.now) (g.D.Disk.state c.keep_level.new.disk) c.args.levels.now.items c.in-Some.place c.index_mut.result.now c.keep_level.new.level
    (stands c.args.levels.now.items c.as_slice.result.now c.in-Some.place c.index_mut.result.now c.as_slice.ensures.value c.in-Some.ensures.found c.index_mut.ensures.value) c.in_ok-keep_level.ensures.due

pub returns-in_ok-keep_level-clause-listed_each : goal.returns-in_ok-keep_level-clause-listed_each
returns-in_ok-keep_level-clause-listed_each g c = kept_waits (g.D.Disk.state c.args.disk.now) (g.D.Disk.state c.keep_level.new.disk) c.args.levels.now.items c.in-Some.place c.index_mut.result.now c.keep_level.new.level
    (stands c.args.levels.now.items c.as_slice.result.now c.in-Some.place c.index_mut.result.now c.as_slice.ensures.value c.in-Some.ensures.found c.index_mut.ensures.value) c.in_ok-keep_level.ensures.listed_each

pub returns-in_ok-keep_level-clause-kept_listed : goal.returns-in_ok-keep_level-clause-kept_listed
returns-in_ok-keep_level-clause-kept_listed g c =
    let at = stands c.args.levels.now.items c.as_slice.result.now c.in-Some.place c.index_mut.result.now c.as_slice.ensures.value c.in-Some.ensures.found c.index_mut.ensures.value in
    kept_among (g.D.Disk.state c.args.disk.now) (g.D.Disk.state c.keep_level.new.disk) c.args.levels.now.items _ at.lower at.upper c.index_mut.result.now c.keep_level.new.level at.are
    (level_set c.args.levels.now.items at.lower at.upper c.index_mut.result.now c.keep_level.new.level c.in-Some.place at.are at.at) c.in_ok-keep_level.ensures.kept_listed
