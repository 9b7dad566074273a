use Rattle.glob_match.specs.Places.{IsNowhere}
use Rattle.glob_match.proofs.braces.nowhere.Given as goal

abbrev pub invariant-loop : goal.invariant-loop
invariant-loop l = IsNowhere l.counter l.none.items
