use Rattle.std.proofs.Common.{[], ◌++◌, codes}
use Rattle.error_line.proofs.line.LineLemmas.{goes_on, stops}
use Rattle.error_line.proofs.line.print_shown.Goals as goal

pub returns-in-Ok : goal.returns-in-Ok
returns-in-Ok g c = (c.write_end.ensures.0, goes_on _ _ (codes "error: ") (c.write_end.ensures.0 ++ codes "\n") _ _ _ c.in-Ok.ensures c.write_end.ensures.1)

pub returns-in-Err : goal.returns-in-Err
returns-in-Err g c = ([], stops _ _ (codes "error: ") (codes "\n") _ _ c.in-Err.ensures)
