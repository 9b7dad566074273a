use Rattle.std.proofs.Common.{arith}
use Rattle.error_line.proofs.line.LineLemmas.{grown, grown_by_part}
use Rattle.error_line.proofs.shown.write_shown.Goals as goal

pub loop-place-preserved : goal.loop-place-preserved
loop-place-preserved g c =
    let before = c.loop-place.invariant in
    let written = c.in_ok-write_all.ensures in
    record {
      appended = λ told. grown _ _ _ _ (before.appended told) (written.written told);
      never_falls = omega (arith, before.never_falls, written.never_falls);
    }

pub returns-then-has_end-clause-appended : goal.returns-then-has_end-clause-appended
returns-then-has_end-clause-appended g c = λ told. grown _ _ _ _ (c.loop-place.invariant.appended told) (c.in_ok-write_all.ensures.written told)

pub returns-in_err-write_all-clause-appended : goal.returns-in_err-write_all-clause-appended
returns-in_err-write_all-clause-appended g c = λ told. grown_by_part _ _ _ _ (c.loop-place.invariant.appended told) (c.in_err-write_all.ensures.refused told)
