use Rattle.std.proofs.Common.{[], ◌∷◌, arith}
use Rattle.std.proofs.lemmas.Result.{err_from_is_err_and}
use Rattle.grep_regex.proofs.building.LengthLemmas.{refused_terminator, too_long}
use Rattle.grep_regex.proofs.building.check_length.Goals as goal

pub returns-in_err-check_terminator-clause-refused : goal.returns-in_err-check_terminator-clause-refused
returns-in_err-check_terminator-clause-refused c =
    let p = err_from_is_err_and c.from_residual.result c.from_residual.ensures.1 in
    rw (p.1, p.2) (refused_terminator c.args.options.now (c.args.pattern.now ∷ []) _ c.in_err-check_terminator.ensures.refused)

pub returns-clause-refused : goal.returns-clause-refused
returns-clause-refused c =
    rw c.new.ensures
    (too_long c.args.options.now c.args.pattern.now c.utf8.pattern c.in_ok-check_terminator.ensures.ascii (omega arith))
