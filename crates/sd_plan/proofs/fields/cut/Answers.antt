use Rattle.sd_plan.proofs.fields.CutLemmas.{lacks_byte, cut_at}
use Rattle.sd_plan.proofs.fields.cut.Goals as goal

pub returns-in_err-at-clause-none : goal.returns-in_err-at-clause-none
returns-in_err-at-clause-none c = rw c.from_residual.ensures (lacks_byte c.args.byte c.args.text.now c.in_err-at.ensures)

pub returns-clause-found : goal.returns-clause-found
returns-clause-found c = cut_at c.args.byte c.args.text.now c.in_ok-at.at c.in_ok-at.ensures
