use Rattle.std.proofs.Common.{◌≡◌, sym, ◌∙◌, arith}
use Rattle.program_tests.specs.Swapped.{spans}
use Rattle.program_tests.proofs.swapping.SwappedLemmas.{swapped-none, spans-few}
use Rattle.program_tests.proofs.swapping.SwapReplaces.change.Goals as goal

pub returns-then-changed-eq0-clause-changed : goal.returns-then-changed-eq0-clause-changed
returns-then-changed-eq0-clause-changed c =
    let none : spans c.args.self.now.find.now 0 c.args.content.now ≡ 0 = sym c.in_ok-changed.ensures.count ∙ c.if-changed-eq0.true in
    (sym (swapped-none _ c.args.self.now.with.now _ none), sym none)

pub returns-clause-few : goal.returns-clause-few
returns-clause-few c = omega (arith, c.in_ok-changed.ensures.count, spans-few c.args.self.now.find.now 0 c.args.content.now)
