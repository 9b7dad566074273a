use Rattle.std.proofs.Common.{◌-◌, length, arith, length-drop}
use Rattle.std.proofs.lemmas.List.{take_rest}
use Rattle.hir_program.proofs.scan.prefilter.PrefilterLemmas.{passed_one}
use Rattle.hir_program.proofs.scan.prefilter.next_of_one.Goals as goal

pub returns-in-Some-clause-passed : goal.returns-in-Some-clause-passed
returns-in-Some-clause-passed c q low high =
    passed_one c.args.text.now c.args.byte c.args.at c.in-Some.more q c.in-Some.ensures.0.before low high

pub returns-in-None-clause-passed : goal.returns-in-None-clause-passed
returns-in-None-clause-passed c q low high =
    passed_one c.args.text.now c.args.byte c.args.at (length c.args.text.now - c.args.at) q
    (λ k from until. c.in-None.ensures k from (rw take_rest (omega (arith, length-drop c.args.at c.args.text.now)))) low (omega (arith, c.requires))
