use Rattle.std.proofs.Common.{◌++◌, codes}
use Rattle.error_line.proofs.line.LineLemmas.{goes_on, same_text, stops}
use Rattle.error_line.proofs.line.print_text.Goals as goal

pub returns-in-Ok : goal.returns-in-Ok
returns-in-Ok g c =
    goes_on _ _ (codes "error: ") (c.args.text.now ++ codes "\n") _ _ _ c.in-Ok.ensures
    (same_text _ c.args.text.now (codes "\n") _ _ c.as_bytes.ensures.value c.write_both.ensures)

pub returns-in-Err : goal.returns-in-Err
returns-in-Err g c = stops _ _ (codes "error: ") (c.args.text.now ++ codes "\n") _ _ c.in-Err.ensures
