use Rattle.std.proofs.Common.{refl}
use Rattle.sd_core.proofs.top.CarryLemmas.{refused, begun}
use Rattle.sd_core.proofs.top.carry_out.Goals as goal

pub returns-in-Err : goal.returns-in-Err
returns-in-Err g c = refused _ _ c.in-Err.fault c.of_replacer.result c.of_replacer.ensures c.in-Err.ensures.refused (refl, refl, refl)

pub returns-in-Ok : goal.returns-in-Ok
returns-in-Ok g c = begun _ _ _ c.in-Ok.ensures.made c.an_asked_replacement_is_readable.ensures c.begin.result c.begin.ensures
