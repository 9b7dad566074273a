use Rattle.std.proofs.Common.{◌≡◌, ◌≢◌, rules, refl, subst, sym, arith, ◌+◌}
use Rattle.sd_io.specs.declared.fault.DiskFault.TheVariants as disk
use Rattle.file_exchange.specs.Reserved.{IsReservedPath}
use Rattle.file_exchange.proofs.exchanging.CauseLemmas.{same_error, step_cause}
use Rattle.file_exchange.proofs.exchanging.CreatingLemmas.{created, none_absent, one_more, none_free}
use Rattle.file_exchange.proofs.exchanging.create_temporary.Goals as goal
use Rattle.file_exchange.proofs.exchanging.create_temporary.Goals.{else-loop-number-test, then-loop-number-test+in_ok-path+in-Err+else-ne+else-number-lt65535}

pub loop-number-preserved : goal.loop-number-preserved
loop-number-preserved g c =
    let taken : c.in-Err.fault ≡ disk.Taken = search rules in
    let reserved = subst (IsReservedPath c.args.beside.now c.loop-number.number) (sym c.as_str.ensures.same) c.in_ok-path.ensures.path in
    one_more _ _ _ _ _ c.as_str.result.now _ _ c.in-Err.fault c.loop-number.invariant (g.met.D.Disk.is_tree c.loop-number.disk) c.requires.beside reserved
    c.in-Err.ensures.taken c.in-Err.ensures.refused c.in-Err.ensures.lists c.in-Err.ensures.cause taken

pub returns-in-Ok-clause-created : goal.returns-in-Ok-clause-created
returns-in-Ok-clause-created g c =
    λ told.
    let reserved = subst (IsReservedPath c.args.beside.now c.loop-number.number) (sym c.as_str.ensures.same) c.in_ok-path.ensures.path in
    created _ _ _ c.as_str.result.now _ c.loop-number.number (c.loop-number.invariant.same told) (g.met.D.Disk.is_tree c.loop-number.disk told) (c.requires.beside told) (c.requires.like told) reserved _ _ (omega arith)
    (c.loop-number.invariant.taken told) (c.in-Ok.ensures.created told) refl (sym c.as_str.ensures.same)

pub returns-in-Err-clause-cause : goal.returns-in-Err-clause-cause
returns-in-Err-clause-cause g c =
    let reserved = subst (IsReservedPath c.args.beside.now c.loop-number.number) (sym c.as_str.ensures.same) c.in_ok-path.ensures.path in
    let not_taken : c.in-Err.fault ≢ disk.Taken = search rules in
    step_cause _ _ _ _ _ _ (same_error c.in-Err.fault) c.loop-number.invariant.never_falls c.in-Err.ensures.cause (λ taken. not_taken (cc))
    (λ told absent. none_absent _ _ _ c.as_str.result.now _ c.loop-number.number (c.loop-number.invariant.same told) (g.met.D.Disk.is_tree c.loop-number.disk told) (c.requires.beside told) (c.requires.like told) reserved (c.in-Err.ensures.absent told absent))

pub returns-clause-none_free : goal.returns-clause-none_free
returns-clause-none_free g c =
    λ told.
    elim c.loop-number-test.branch [
      | else-loop-number-test w ↦ absurd (omega arith)
      | then-loop-number-test+in_ok-path+in-Err+else-ne+else-number-lt65535 w ↦
          let taken : w.in-Err.fault ≡ disk.Taken = search rules in
          let reserved = subst (IsReservedPath c.args.beside.now c.loop-number.number) (sym w.as_str.ensures.same) w.in_ok-path.ensures.path in
          let tried = one_more _ _ _ _ _ w.as_str.result.now _ _ w.in-Err.fault c.loop-number.invariant (g.met.D.Disk.is_tree c.loop-number.disk) c.requires.beside reserved
          w.in-Err.ensures.taken w.in-Err.ensures.refused w.in-Err.ensures.lists w.in-Err.ensures.cause taken in
          none_free _ _ (c.loop-number.number + 1) (omega arith) (tried.taken told)
    ]
