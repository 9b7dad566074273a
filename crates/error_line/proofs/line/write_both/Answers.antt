use Rattle.error_line.proofs.line.LineLemmas.{goes_on, stops}
use Rattle.error_line.proofs.line.write_both.Goals as goal

pub returns-in-Ok : goal.returns-in-Ok
returns-in-Ok g c = goes_on _ _ c.args.first.now c.args.second.now _ _ _ c.in-Ok.ensures c.write_bytes-in-Ok.ensures

pub returns-in-Err : goal.returns-in-Err
returns-in-Err g c = stops _ _ c.args.first.now c.args.second.now _ _ c.in-Err.ensures
