use Rattle.std.proofs.Common.{◌∙◌, refl, sym, subst}
use Rattle.journal_text.specs.Paths.{IsResolvedPath}
use Rattle.change_phases.specs.Phases.{placing}
use Rattle.journal.proofs.KeepingLemmas.{keeps_same, keeps_then, settled_still}
use Rattle.journal.proofs.FileLemmas.{read_is, put_kept, put_placed, read_then_placed, read_before, ok_then}
use Rattle.journal.proofs.SameFilesLemmas.{changes_one}
use Rattle.journal.proofs.CauseLemmas.{told_on, stage_cause, put_fails}
use Rattle.journal.proofs.placing.place_file.Goals as goal

pub returns-in_err-stage-clause-kept : goal.returns-in_err-stage-clause-kept
returns-in_err-stage-clause-kept g c = λ told work lines has p. keeps_same placing work lines _ _ p (record { tree = refl; clock = refl; outcomes = refl })

pub returns-in_err-bytes-clause-kept : goal.returns-in_err-bytes-clause-kept
returns-in_err-bytes-clause-kept g c = λ told work lines has p. keeps_same placing work lines _ _ p c.in_err-bytes.ensures.tree

pub returns-clause-kept : goal.returns-clause-kept
returns-clause-kept g c =
    λ told work lines has p.
    let before = g.D.Disk.state c.args.disk.now in
    let middle = g.D.Disk.state c.read_file.new.self in
    let read = keeps_same placing work lines before middle p c.in_ok-bytes.ensures.tree in
    let now = settled_still placing work lines before middle p read in
    let is = g.met.D.Disk.is_tree c.read_file.new.self told in
    let holds = g.met.D.Disk.holds_present c.read_file.new.self told in
    let bytes = read_is work lines c.args.line.now has middle is holds now c.as_str.result.now c.in_ok-bytes.bytes.items (c.as_str.ensures.same ∙ c.in_ok-stage.ensures)
    (read_before before middle c.in_ok-bytes.ensures.tree c.as_str.result.now c.in_ok-bytes.bytes.items (c.in_ok-bytes.ensures.bytes told)) in
    keeps_then placing work lines before middle (g.D.Disk.state c.put_file.new.disk) read
    (put_kept work lines c.args.line.now has middle is holds now (g.D.Disk.state c.put_file.new.disk) c.as_str-2.result.now c.deref.result.now c.as_str-2.ensures.same (c.deref.ensures.value ∙ bytes)
    (c.put_file.ensures.crash told) (c.put_file.ensures.settled told))

pub returns-clause-placed : goal.returns-clause-placed
returns-clause-placed g c =
    λ told work lines has p.
    let before = g.D.Disk.state c.args.disk.now in
    let middle = g.D.Disk.state c.read_file.new.self in
    let read = keeps_same placing work lines before middle p c.in_ok-bytes.ensures.tree in
    let now = settled_still placing work lines before middle p read in
    let is = g.met.D.Disk.is_tree c.read_file.new.self told in
    let holds = g.met.D.Disk.holds_present c.read_file.new.self told in
    let bytes = read_is work lines c.args.line.now has middle is holds now c.as_str.result.now c.in_ok-bytes.bytes.items (c.as_str.ensures.same ∙ c.in_ok-stage.ensures)
    (read_before before middle c.in_ok-bytes.ensures.tree c.as_str.result.now c.in_ok-bytes.bytes.items (c.in_ok-bytes.ensures.bytes told)) in
    ok_then _ _ c.put_file.result (c.put_file.ensures.done told)
    (λ put. read_then_placed before middle c.in_ok-bytes.ensures.tree work c.args.line.now (g.D.Disk.state c.put_file.new.disk)
    (put_placed work lines c.args.line.now has middle is holds now (g.D.Disk.state c.put_file.new.disk) c.as_str-2.result.now c.deref.result.now c.as_str-2.ensures.same (c.deref.ensures.value ∙ bytes) (c.put_file.ensures.settled told) put))

pub returns-in_err-bytes-clause-fails : goal.returns-in_err-bytes-clause-fails
returns-in_err-bytes-clause-fails g c =
    told_on _ c.from_residual-in_err-bytes.result _ c.from_residual-in_err-bytes.ensures.1
    (stage_cause g.D.Disk.tells (g.D.Disk.state c.args.disk.now) (g.D.Disk.state c.read_file.new.self) c.args.line.now c.as_str.result.now c.in_err-bytes.field-0.0 (c.as_str.ensures.same ∙ c.in_ok-stage.ensures)
    c.in_err-bytes.ensures.cause c.in_err-bytes.ensures.not_taken c.in_err-bytes.ensures.absent)

pub returns-clause-tree : goal.returns-clause-tree
returns-clause-tree g c =
    λ told.
    changes_one c.args.line.now c.as_str-2.result.now c.deref.result.now (g.D.Disk.state c.args.disk.now) (g.D.Disk.state c.read_file.new.self) (g.D.Disk.state c.put_file.new.disk) c.put_file.result
    c.as_str-2.ensures.same c.in_ok-bytes.ensures.tree (c.put_file.ensures.done told)

pub returns-clause-fails : goal.returns-clause-fails
returns-clause-fails g c =
    put_fails g.D.Disk.tells (g.D.Disk.state c.args.disk.now) (g.D.Disk.state c.read_file.new.self) (g.D.Disk.state c.put_file.new.disk) c.args.line.now c.as_str-2.result.now c.put_file.result c.as_str-2.ensures.same
    (subst IsResolvedPath (sym c.as_str-2.ensures.same) c.as_str-2.ensures.path) c.in_ok-bytes.ensures.tree c.in_ok-bytes.ensures.cause.never_falls c.put_file.ensures.cause
