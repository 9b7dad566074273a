use Rattle.std.proofs.Common.{◌≤◌, [], sym, subst, arith}
use Rattle.std.proofs.lemmas.Grind.{common_steps}
use Rattle.std.specs.Option.{option_map_or}
use Rattle.grep_matcher.specs.Terminators.{terminator_bytes}
use Rattle.grep_regex.specs.Building.{IsBeyondAscii}
use Rattle.grep_regex.proofs.building.BuildingLemmas.{beyond_terminator}
use Rattle.grep_regex.proofs.building.check_terminator.Goals as goal

pub returns-in-Some-clause-refused : goal.returns-in-Some-clause-refused
returns-in-Some-clause-refused c =
    let byte = c.as_byte-in-Some.result in
    let beyond : 128 ≤ byte = grind (arith, common_steps) in
    rw c.new.ensures
    (subst (λ told. IsBeyondAscii (option_map_or terminator_bytes told []) byte) (sym c.in-Some.is)
    (beyond_terminator c.in-Some.terminator byte c.as_byte-in-Some.ensures beyond))
