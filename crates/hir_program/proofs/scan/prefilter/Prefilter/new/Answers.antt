use Rattle.std.proofs.Common.{sym, ap, ◌∙◌, true≢false, eq-eqb}
use Rattle.std.specs.Prelude.{not}
use Rattle.hir_program.proofs.scan.prefilter.Prefilter.new.Goals as goal

pub returns-then-is_alone-clause-stops : goal.returns-then-is_alone-clause-stops
returns-then-is_alone-clause-stops c b low other =
    c.passed_over-passed.ensures b low
    (ap not (c.is_alone.ensures c.if-is_alone.true b low (λ same. true≢false (sym (eq-eqb b c.loop-byte.byte same) ∙ other))))
