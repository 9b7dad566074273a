use Rattle.std.proofs.Common.{refl, inl, arith}
use Rattle.sd_io.specs.declared.fault.DiskFault.TheVariants as disk
use Rattle.sd_io.proofs.WayLemmas.{same_ways, writes_ways}
use Rattle.file_exchange.proofs.exchanging.PlaceLemmas.{leads_to_file}
use Rattle.file_exchange.proofs.exchanging.CauseLemmas.{at_err, at_ok, passed_as, before_move, move_ok, move_err, move_disk, move_move, move_named, step_cause, no_cause}
use Rattle.file_exchange.proofs.exchanging.FillingLemmas.{at_source, can_rename, then_ways, wrote_after, wrote_ways, renamed, renamed_ways, filled, synced, write_refused, sync_refused, rename_leaves, moved, may_have_moved}
use Rattle.file_exchange.proofs.exchanging.fill_and_rename.Goals as goal

pub returns-in_err-write_file-clause-refused : goal.returns-in_err-write_file-clause-refused
returns-in_err-write_file-clause-refused g c =
    λ told. at_err c.from_residual.result (inl (write_refused _ _ _ c.args.bytes.now (c.requires told) _
    (wrote_after c.in_err-write_file.field-0.0 _ _ _ (c.in_err-write_file.ensures.failed told) c.in_err-write_file.ensures.refused)).1)

pub returns-in_err-write_file-clause-old : goal.returns-in_err-write_file-clause-old
returns-in_err-write_file-clause-old g c =
    λ told is. (write_refused _ _ _ c.args.bytes.now (c.requires told) _
    (wrote_after c.in_err-write_file.field-0.0 _ _ _ (c.in_err-write_file.ensures.failed told) c.in_err-write_file.ensures.refused)).1

pub returns-in_err-write_file-clause-crash : goal.returns-in_err-write_file-clause-crash
returns-in_err-write_file-clause-crash g c =
    λ told. (write_refused _ _ _ c.args.bytes.now (c.requires told) _
    (wrote_after c.in_err-write_file.field-0.0 _ _ _ (c.in_err-write_file.ensures.failed told) c.in_err-write_file.ensures.refused)).0

pub returns-in_err-write_file-clause-ways : goal.returns-in_err-write_file-clause-ways
returns-in_err-write_file-clause-ways g c =
    λ told. wrote_ways _ _ _ (wrote_after c.in_err-write_file.field-0.0 _ _ _ (c.in_err-write_file.ensures.failed told) c.in_err-write_file.ensures.refused)

pub returns-in_err-sync-clause-refused : goal.returns-in_err-sync-clause-refused
returns-in_err-sync-clause-refused g c =
    λ told. at_err c.from_residual-in_err-sync.result (inl (sync_refused _ _ _ _ (c.requires told) _ _ (filled _ _ _ _ (c.requires told) _ (c.in_ok-write_file.ensures.written told))
    (wrote_after c.in_err-sync.field-0.0 _ _ _ (c.in_err-sync.ensures.failed told) c.in_err-sync.ensures.refused)).1)

pub returns-in_err-sync-clause-old : goal.returns-in_err-sync-clause-old
returns-in_err-sync-clause-old g c =
    λ told is. (sync_refused _ _ _ _ (c.requires told) _ _ (filled _ _ _ _ (c.requires told) _ (c.in_ok-write_file.ensures.written told))
    (wrote_after c.in_err-sync.field-0.0 _ _ _ (c.in_err-sync.ensures.failed told) c.in_err-sync.ensures.refused)).1

pub returns-in_err-sync-clause-crash : goal.returns-in_err-sync-clause-crash
returns-in_err-sync-clause-crash g c =
    λ told. (sync_refused _ _ _ _ (c.requires told) _ _ (filled _ _ _ _ (c.requires told) _ (c.in_ok-write_file.ensures.written told))
    (wrote_after c.in_err-sync.field-0.0 _ _ _ (c.in_err-sync.ensures.failed told) c.in_err-sync.ensures.refused)).0

pub returns-in_err-sync-clause-ways : goal.returns-in_err-sync-clause-ways
returns-in_err-sync-clause-ways g c =
    λ told. then_ways (writes_ways _ _ _ _ (c.in_ok-write_file.ensures.written told))
    (wrote_ways _ _ _ (wrote_after c.in_err-sync.field-0.0 _ _ _ (c.in_err-sync.ensures.failed told) c.in_err-sync.ensures.refused))

pub returns-clause-moved : goal.returns-clause-moved
returns-clause-moved g c =
    λ told.
    let two = c.requires told in
    let full = synced _ _ _ _ two _ _ (filled _ _ _ _ two _ (c.in_ok-write_file.ensures.written told)) (c.in_ok-sync.ensures.synced told) in
    move_ok _ c.rename.result c.map_err.result c.map_err.ensures.cases (at_ok c.rename.result (c.rename.ensures.renamed told) (moved _ _ _ _ two _ _ full))

pub returns-clause-refused : goal.returns-clause-refused
returns-clause-refused g c =
    λ told.
    let two = c.requires told in
    let full = synced _ _ _ _ two _ _ (filled _ _ _ _ two _ (c.in_ok-write_file.ensures.written told)) (c.in_ok-sync.ensures.synced told) in
    at_err c.map_err.result (may_have_moved _ _ _ _ two _ _ full (renamed c.rename.result _ _ _ _ (c.rename.ensures.renamed told) (c.rename.ensures.failed told) c.rename.ensures.refused))

pub returns-clause-crash : goal.returns-clause-crash
returns-clause-crash g c =
    λ told.
    let two = c.requires told in
    let full = synced _ _ _ _ two _ _ (filled _ _ _ _ two _ (c.in_ok-write_file.ensures.written told)) (c.in_ok-sync.ensures.synced told) in
    rename_leaves _ _ _ _ two _ _ full (renamed c.rename.result _ _ _ _ (c.rename.ensures.renamed told) (c.rename.ensures.failed told) c.rename.ensures.refused)

pub returns-clause-ways : goal.returns-clause-ways
returns-clause-ways g c =
    λ told. then_ways (then_ways (writes_ways _ _ _ _ (c.in_ok-write_file.ensures.written told)) (same_ways _ _ (c.in_ok-sync.ensures.synced told).tree))
    (renamed_ways _ _ _ _ (renamed c.rename.result _ _ _ _ (c.rename.ensures.renamed told) (c.rename.ensures.failed told) c.rename.ensures.refused))

pub returns-in_err-write_file-clause-cause : goal.returns-in_err-write_file-clause-cause
returns-in_err-write_file-clause-cause g c =
    step_cause _ _ _ _ _ _ (λ f is. passed_as c.from_residual.result _ f c.from_residual.ensures.1 is) (omega arith) c.in_err-write_file.ensures.cause c.in_err-write_file.ensures.not_taken
    (λ told is. leads_to_file _ _ _ (at_source _ _ _ c.args.bytes.now (c.requires told)) (c.in_err-write_file.ensures.absent told is))

pub returns-in_err-sync-clause-cause : goal.returns-in_err-sync-clause-cause
returns-in_err-sync-clause-cause g c =
    step_cause _ _ _ _ _ _ (λ f is. passed_as c.from_residual-in_err-sync.result _ f c.from_residual-in_err-sync.ensures.1 is) c.in_ok-write_file.ensures.cause.never_falls
    c.in_err-sync.ensures.cause c.in_err-sync.ensures.not_taken
    (λ told is.
    let full = filled _ _ _ _ (c.requires told) _ (c.in_ok-write_file.ensures.written told) in
    leads_to_file _ _ _ full.filled.leaves (c.in_err-sync.ensures.absent told is))

pub returns-clause-cause : goal.returns-clause-cause
returns-clause-cause g c =
    step_cause _ _ _ _ _ _ (λ f is. (move_disk c.rename.result c.map_err.result f c.map_err.ensures.cases is).0) (omega (arith, c.in_ok-write_file.ensures.cause.never_falls, c.in_ok-sync.ensures.cause.never_falls))
    c.rename.ensures.cause c.rename.ensures.not_taken
    (λ told is.
    let two = c.requires told in
    let full = synced _ _ _ _ two _ _ (filled _ _ _ _ two _ (c.in_ok-write_file.ensures.written told)) (c.in_ok-sync.ensures.synced told) in
    can_rename _ _ _ _ two _ full (c.rename.ensures.absent told is))

pub returns-clause-move_cause : goal.returns-clause-move_cause
returns-clause-move_cause g c =
    step_cause _ _ _ _ _ _ (λ f is. (move_move c.rename.result c.map_err.result f c.map_err.ensures.cases is).0) (omega (arith, c.in_ok-write_file.ensures.cause.never_falls, c.in_ok-sync.ensures.cause.never_falls))
    c.rename.ensures.cause c.rename.ensures.not_taken
    (λ told is.
    let two = c.requires told in
    let full = synced _ _ _ _ two _ _ (filled _ _ _ _ two _ (c.in_ok-write_file.ensures.written told)) (c.in_ok-sync.ensures.synced told) in
    can_rename _ _ _ _ two _ full (c.rename.ensures.absent told is))

pub returns-clause-old : goal.returns-clause-old
returns-clause-old g c = λ told is. absurd (let memory = (move_disk c.rename.result c.map_err.result disk.Failed c.map_err.ensures.cases is).1 in cc)

pub returns-clause-memory : goal.returns-clause-memory
returns-clause-memory g c = λ is. (move_move c.rename.result c.map_err.result disk.NoMemory c.map_err.ensures.cases is).1 refl

pub returns-clause-not_no_name : goal.returns-clause-not_no_name
returns-clause-not_no_name g c = λ is. move_named c.rename.result c.map_err.result c.map_err.ensures.cases is

pub returns-in_err-write_file-clause-move_cause : goal.returns-in_err-write_file-clause-move_cause
returns-in_err-write_file-clause-move_cause g c =
    no_cause _ _ _ c.from_residual.result c.in_err-write_file.ensures.cause.never_falls (λ f is. before_move c.from_residual.result _ f c.from_residual.ensures.1 is)

pub returns-in_err-sync-clause-move_cause : goal.returns-in_err-sync-clause-move_cause
returns-in_err-sync-clause-move_cause g c =
    no_cause _ _ _ c.from_residual-in_err-sync.result (omega (arith, c.in_ok-write_file.ensures.cause.never_falls, c.in_err-sync.ensures.cause.never_falls))
    (λ f is. before_move c.from_residual-in_err-sync.result _ f c.from_residual-in_err-sync.ensures.1 is)

pub returns-in_err-write_file-clause-memory : goal.returns-in_err-write_file-clause-memory
returns-in_err-write_file-clause-memory g c = λ is. before_move c.from_residual.result _ disk.NoMemory c.from_residual.ensures.1 is

pub returns-in_err-sync-clause-memory : goal.returns-in_err-sync-clause-memory
returns-in_err-sync-clause-memory g c = λ is. before_move c.from_residual-in_err-sync.result _ disk.NoMemory c.from_residual-in_err-sync.ensures.1 is
