use Rattle.std.proofs.Common.{rules, ◌≡◌, ◌≢◌, ◌∙◌, inl, inr, sym, ap, Err, arith}
use Rattle.sd_io.specs.Paths.{parts_of}
use Rattle.sd_io.specs.Disk.{SameTree}
use Rattle.sd_io.specs.declared.fault.DiskFault.{DiskFault}
use Rattle.sd_io.specs.declared.fault.DiskFault.TheVariants as disk
use Rattle.file_exchange.specs.declared.fault.ExchangeFault.{ExchangeFault}
use Rattle.file_exchange.specs.declared.fault.ExchangeFault.TheVariants as exchange_fault
use Rattle.file_exchange.proofs.exchanging.CauseLemmas.{on_ok, at_err, if_err, before_move, failed_before, failed_risen, risen_since, later_cause, no_cause}
use Rattle.file_exchange.proofs.exchanging.PlaceLemmas.{file_path_in}
use Rattle.file_exchange.proofs.exchanging.ExchangeLemmas.{nothing_left, is_ready, still_path, exchanged_still, leaves_new, left_old, left, cleared, crash_cleared, settled_tree, settled_crash, settled_durable}
use Rattle.file_exchange.proofs.exchanging.exchange.Goals as goal

pub create_temporary-requires : goal.create_temporary-requires
create_temporary-requires g c = record {
  beside = λ told. file_path_in _ c.args.path.now (g.met.D.Disk.is_tree c.args.disk.now told) (c.requires told);
  like = c.requires;
}

pub fill_and_rename-requires : goal.fill_and_rename-requires
fill_and_rename-requires g c =
    λ told.
    let created = rw c.in-Some.is at (c.in_ok-temporary.ensures.created told) in
    rw c.as_str-temporary.ensures.same
    (is_ready (g.D.Disk.state c.args.disk.now) (g.D.Disk.state c.create_temporary.new.disk) _ _ c.args.bytes.now (g.met.D.Disk.is_tree c.args.disk.now told) (c.requires told) created)

pub settle-requires : goal.settle-requires
settle-requires g c =
    λ told.
    let created = rw c.in-Some.is at (c.in_ok-temporary.ensures.created told) in
    still_path (g.D.Disk.state c.args.disk.now) (g.D.Disk.state c.create_temporary.new.disk) _ _ c.args.bytes.now (g.met.D.Disk.is_tree c.args.disk.now told) (c.requires told) created _
    (rw c.as_str-temporary.ensures.same at (c.in-Ok.ensures.moved told))

pub returns-in_err-temporary-clause-refused : goal.returns-in_err-temporary-clause-refused
returns-in_err-temporary-clause-refused g c = λ told. at_err c.from_residual.result (nothing_left _ _ _ c.args.bytes.now (c.in_err-temporary.ensures.refused told)).2

pub returns-in_err-temporary-clause-crash : goal.returns-in_err-temporary-clause-crash
returns-in_err-temporary-clause-crash g c = λ told. (nothing_left _ _ _ _ (c.in_err-temporary.ensures.refused told)).0

pub returns-in_err-temporary-clause-settled : goal.returns-in_err-temporary-clause-settled
returns-in_err-temporary-clause-settled g c = λ told. (nothing_left _ _ (parts_of c.args.path.now) c.args.bytes.now (c.in_err-temporary.ensures.refused told)).1

pub returns-in-Ok-clause-exchanged : goal.returns-in-Ok-clause-exchanged
returns-in-Ok-clause-exchanged g c =
    λ told.
    let created = rw c.in-Some.is at (c.in_ok-temporary.ensures.created told) in
    let moved = rw c.as_str-temporary.ensures.same at (c.in-Ok.ensures.moved told) in
    let same = settled_tree (g.D.Disk.state c.args.disk.now) (g.D.Disk.state c.create_temporary.new.disk) _ _ c.args.bytes.now (g.met.D.Disk.is_tree c.args.disk.now told) (c.requires told) created
    c.settle.result _ _ moved (c.settle.ensures.settled told) (c.settle.ensures.refused told) in
    on_ok c.settle.result
    (exchanged_still (g.D.Disk.state c.args.disk.now) (g.D.Disk.state c.create_temporary.new.disk) _ _ c.args.bytes.now (g.met.D.Disk.is_tree c.args.disk.now told) (c.requires told) created (g.D.Disk.state c.fill_and_rename.new.disk) (g.D.Disk.state c.settle.new.disk) moved same)

pub returns-in-Ok-clause-refused : goal.returns-in-Ok-clause-refused
returns-in-Ok-clause-refused g c =
    λ told.
    let created = rw c.in-Some.is at (c.in_ok-temporary.ensures.created told) in
    let moved = rw c.as_str-temporary.ensures.same at (c.in-Ok.ensures.moved told) in
    let is = g.met.D.Disk.is_tree c.args.disk.now told in
    let same = settled_tree (g.D.Disk.state c.args.disk.now) (g.D.Disk.state c.create_temporary.new.disk) _ _ c.args.bytes.now is (c.requires told) created
    c.settle.result _ _ moved (c.settle.ensures.settled told) (c.settle.ensures.refused told) in
    at_err c.settle.result
    (leaves_new (g.D.Disk.state c.args.disk.now) (g.D.Disk.state c.create_temporary.new.disk) _ _ c.args.bytes.now is (c.requires told) created _
    (exchanged_still (g.D.Disk.state c.args.disk.now) (g.D.Disk.state c.create_temporary.new.disk) _ _ c.args.bytes.now is (c.requires told) created (g.D.Disk.state c.fill_and_rename.new.disk) (g.D.Disk.state c.settle.new.disk) moved same))

pub returns-in-Ok-clause-crash : goal.returns-in-Ok-clause-crash
returns-in-Ok-clause-crash g c =
    λ told.
    let created = rw c.in-Some.is at (c.in_ok-temporary.ensures.created told) in
    (settled_crash (g.D.Disk.state c.args.disk.now) (g.D.Disk.state c.create_temporary.new.disk) _ _ c.args.bytes.now (g.met.D.Disk.is_tree c.args.disk.now told) (c.requires told) created
    c.settle.result _ _ (g.met.D.Disk.holds_present c.fill_and_rename.new.disk told) (rw c.as_str-temporary.ensures.same at (c.in-Ok.ensures.crash told)) (c.settle.ensures.settled told) (c.settle.ensures.refused told)).0

pub returns-in-Ok-clause-settled : goal.returns-in-Ok-clause-settled
returns-in-Ok-clause-settled g c =
    λ told.
    let created = rw c.in-Some.is at (c.in_ok-temporary.ensures.created told) in
    (settled_crash (g.D.Disk.state c.args.disk.now) (g.D.Disk.state c.create_temporary.new.disk) _ _ c.args.bytes.now (g.met.D.Disk.is_tree c.args.disk.now told) (c.requires told) created
    c.settle.result _ _ (g.met.D.Disk.holds_present c.fill_and_rename.new.disk told) (rw c.as_str-temporary.ensures.same at (c.in-Ok.ensures.crash told)) (c.settle.ensures.settled told) (c.settle.ensures.refused told)).1

pub returns-in-Ok-clause-durable : goal.returns-in-Ok-clause-durable
returns-in-Ok-clause-durable g c =
    λ told.
    let created = rw c.in-Some.is at (c.in_ok-temporary.ensures.created told) in
    settled_durable (g.D.Disk.state c.args.disk.now) (g.D.Disk.state c.create_temporary.new.disk) _ _ c.args.bytes.now (g.met.D.Disk.is_tree c.args.disk.now told) (c.requires told) created
    c.settle.result _ _ (g.met.D.Disk.is_tree c.fill_and_rename.new.disk told) (g.met.D.Disk.holds_present c.args.disk.now told) (g.met.D.Disk.holds_present c.fill_and_rename.new.disk told)
    (rw c.as_str-temporary.ensures.same at (c.in-Ok.ensures.crash told)) (rw c.as_str-temporary.ensures.same at (c.in-Ok.ensures.moved told)) (c.settle.ensures.settled told)

pub returns-clause-refused : goal.returns-clause-refused
returns-clause-refused g c =
    λ told.
    let created = rw c.in-Some.is at (c.in_ok-temporary.ensures.created told) in
    left (g.D.Disk.state c.args.disk.now) (g.D.Disk.state c.create_temporary.new.disk) _ _ _ (g.met.D.Disk.is_tree c.args.disk.now told) (c.requires told) created
    (g.D.Disk.state c.fill_and_rename.new.disk) (g.D.Disk.state c.clear.new.disk) (c.in-Err.ensures.ways told)
    (rw c.as_str-temporary.ensures.same at (c.in-Err.ensures.refused told)) (rw c.as_str-temporary.ensures.same at (c.clear.ensures.tree told))

pub returns-clause-crash : goal.returns-clause-crash
returns-clause-crash g c =
    λ told.
    let created = rw c.in-Some.is at (c.in_ok-temporary.ensures.created told) in
    (crash_cleared (g.D.Disk.state c.args.disk.now) (g.D.Disk.state c.create_temporary.new.disk) _ _ _ (g.met.D.Disk.is_tree c.args.disk.now told) (c.requires told) created
    (g.D.Disk.state c.fill_and_rename.new.disk) (g.D.Disk.state c.clear.new.disk) (c.in-Err.ensures.ways told)
    (rw c.as_str-temporary.ensures.same at (c.in-Err.ensures.crash told)) (rw c.as_str-temporary.ensures.same at (c.clear.ensures.tree told))).0

pub returns-clause-settled : goal.returns-clause-settled
returns-clause-settled g c =
    λ told.
    let created = rw c.in-Some.is at (c.in_ok-temporary.ensures.created told) in
    (crash_cleared (g.D.Disk.state c.args.disk.now) (g.D.Disk.state c.create_temporary.new.disk) _ _ _ (g.met.D.Disk.is_tree c.args.disk.now told) (c.requires told) created
    (g.D.Disk.state c.fill_and_rename.new.disk) (g.D.Disk.state c.clear.new.disk) (c.in-Err.ensures.ways told)
    (rw c.as_str-temporary.ensures.same at (c.in-Err.ensures.crash told)) (rw c.as_str-temporary.ensures.same at (c.clear.ensures.tree told))).1

pub returns-in-Ok-clause-old : goal.returns-in-Ok-clause-old
returns-in-Ok-clause-old g c = λ told is. absurd (c.settle.ensures.moved is)

pub returns-in-Ok-clause-cleared : goal.returns-in-Ok-clause-cleared
returns-in-Ok-clause-cleared g c =
    λ told.
    let created = rw c.in-Some.is at (c.in_ok-temporary.ensures.created told) in
    let moved = rw c.as_str-temporary.ensures.same at (c.in-Ok.ensures.moved told) in
    let same = settled_tree (g.D.Disk.state c.args.disk.now) (g.D.Disk.state c.create_temporary.new.disk) _ _ c.args.bytes.now (g.met.D.Disk.is_tree c.args.disk.now told) (c.requires told) created
    c.settle.result _ _ moved (c.settle.ensures.settled told) (c.settle.ensures.refused told) in
    if_err c.settle.result (λ fault failed. inl (exchanged_still (g.D.Disk.state c.args.disk.now) (g.D.Disk.state c.create_temporary.new.disk) _ _ c.args.bytes.now (g.met.D.Disk.is_tree c.args.disk.now told) (c.requires told) created (g.D.Disk.state c.fill_and_rename.new.disk) (g.D.Disk.state c.settle.new.disk) moved same).others)

pub returns-in-Ok-clause-none_free : goal.returns-in-Ok-clause-none_free
returns-in-Ok-clause-none_free g c = λ told is. absurd (c.settle.ensures.not_no_name is)

pub returns-in-Ok-clause-not_written : goal.returns-in-Ok-clause-not_written
returns-in-Ok-clause-not_written g c = λ told is. absurd (c.settle.ensures.not_no_name is)

pub returns-in-Ok-clause-none_free_untold : goal.returns-in-Ok-clause-none_free_untold
returns-in-Ok-clause-none_free_untold g c = λ untold is. absurd (c.settle.ensures.not_no_name is)

pub returns-in-Ok-clause-cause : goal.returns-in-Ok-clause-cause
returns-in-Ok-clause-cause g c =
    later_cause _ _ _ _ c.settle.result (omega (arith, c.in_ok-temporary.ensures.cause.never_falls, c.in-Ok.ensures.cause.never_falls)) c.settle.ensures.cause

pub returns-in-Ok-clause-move_cause : goal.returns-in-Ok-clause-move_cause
returns-in-Ok-clause-move_cause g c =
    later_cause _ _ _ _ c.settle.result (omega (arith, c.in_ok-temporary.ensures.cause.never_falls, c.in-Ok.ensures.cause.never_falls)) c.settle.ensures.move_cause

pub returns-clause-old : goal.returns-clause-old
returns-clause-old g c =
    λ told is.
    let created = rw c.in-Some.is at (c.in_ok-temporary.ensures.created told) in
    let failed : c.clear.result ≡ exchange_fault.Disk disk.Failed = cc in
    let before = failed_before c.clear.result c.in-Err.fault (inl failed) c.clear.ensures.fault in
    let fault : c.in-Err.fault ≡ exchange_fault.Disk disk.Failed = elim c.clear.ensures.fault [ inl none ↦ absurd (before.0 none) | inr same ↦ sym same ∙ failed ] in
    left_old (g.D.Disk.state c.args.disk.now) (g.D.Disk.state c.create_temporary.new.disk) _ _ c.args.bytes.now (g.met.D.Disk.is_tree c.args.disk.now told) (c.requires told) created
    (g.D.Disk.state c.fill_and_rename.new.disk) (g.D.Disk.state c.clear.new.disk) (c.in-Err.ensures.ways told)
    (rw c.as_str-temporary.ensures.same at (c.in-Err.ensures.old told (ap (λ (e : ExchangeFault). Err e) fault))) (rw c.as_str-temporary.ensures.same at (c.clear.ensures.tree told))

pub returns-clause-cleared : goal.returns-clause-cleared
returns-clause-cleared g c =
    λ told is.
    let created = rw c.in-Some.is at (c.in_ok-temporary.ensures.created told) in
    let before = failed_before c.clear.result c.in-Err.fault is c.clear.ensures.fault in
    let risen = risen_since _ _ _ c.in_ok-temporary.ensures.cause.never_falls (failed_risen _ _ _ c.in-Err.fault c.in-Err.ensures.cause c.in-Err.ensures.move_cause before.1) in
    cleared (g.D.Disk.state c.args.disk.now) (g.D.Disk.state c.create_temporary.new.disk) _ _ _ (g.met.D.Disk.is_tree c.args.disk.now told) (c.requires told) created
    (g.D.Disk.state c.fill_and_rename.new.disk) (g.D.Disk.state c.clear.new.disk) (c.in-Err.ensures.ways told)
    (rw c.as_str-temporary.ensures.same at (c.in-Err.ensures.refused told)) (rw c.as_str-temporary.ensures.same at (c.clear.ensures.tree told))
    (rw c.as_str-temporary.ensures.same at (c.clear.ensures.cleared told before.0)) risen c.clear.ensures.faults

pub returns-in_default-clause-refused : goal.returns-in_default-clause-refused
returns-in_default-clause-refused g c =
    λ told.
    let same : SameTree (g.D.Disk.state c.args.disk.now) (g.D.Disk.state c.create_temporary.new.disk) = search rules in
    (nothing_left _ _ (parts_of c.args.path.now) c.args.bytes.now same).2
