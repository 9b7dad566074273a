use Rattle.std.proofs.Common.{refl}
use Rattle.sd_core.proofs.commands.TreeLemmas.{swept}
use Rattle.sd_core.proofs.commands.tree_command.Goals as goal

pub returns-in-Err : goal.returns-in-Err
returns-in-Err g c = swept _ _ _ _ _ _ _ _ c.in-Err.ensures (refl, refl)

pub returns-in-Err-print_report : goal.returns-in-Err-print_report
returns-in-Err-print_report g c =
    let p = c.in-Err-print_report.ensures in
    swept _ _ _ _ _ _ _ _ c.in-Ok.ensures (p.cause refl, p.refused)

pub returns-in-Ok-print_report : goal.returns-in-Ok-print_report
returns-in-Ok-print_report g c = swept _ _ _ _ _ _ _ _ c.in-Ok.ensures c.in-Ok-print_report.ensures.printed
