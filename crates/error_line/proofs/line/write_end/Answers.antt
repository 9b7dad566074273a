use Rattle.std.proofs.Common.{refl}
use Rattle.error_line.proofs.line.LineLemmas.{shown_and_end, shown_in_part}
use Rattle.error_line.proofs.line.write_end.Goals as goal

pub returns-in-Ok : goal.returns-in-Ok
returns-in-Ok g c = shown_and_end _ _ _ _ _ c.in-Ok.ensures.appended c.in-Ok.ensures.never_falls c.write_bytes.ensures

pub returns-in-Err : goal.returns-in-Err
returns-in-Err g c = shown_in_part _ _ _ c.in-Err.failed c.in-Err.ensures.appended c.in-Err.ensures.never_falls (c.in-Err.ensures.cause refl)
