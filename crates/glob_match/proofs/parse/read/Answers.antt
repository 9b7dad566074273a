use Rattle.std.proofs.Common.{◌≤◌, false, true, length, arith, subst}
use Rattle.glob_match.proofs.parse.ReadingLemmas.{IsAtMost, symbols_at_most, tokens_at_most}
use Rattle.glob_match.proofs.parse.read.Goals as goal
use Rattle.glob_match.proofs.parse.read.Goals.{then-nests_well, else-nests_well}

pub returns-clause-at_most : goal.returns-clause-at_most
returns-clause-at_most c =
    let symbols_read = rw c.in-Some.is at c.in_ok-symbols.ensures in
    let tokens_read = rw (c.in-Some-2.is, c.deref.ensures.value) at c.in_ok-tokens.ensures in
    let symbols : length c.in-Some.symbols.items ≤ length c.args.text.now = subst (IsAtMost (length c.args.text.now)) symbols_read (symbols_at_most false c.args.text.now) in
    let tokens : length c.in-Some-2.tokens.items ≤ length c.in-Some.symbols.items = subst (IsAtMost (length c.in-Some.symbols.items)) tokens_read (tokens_at_most 0 true c.in-Some.symbols.items) in
    elim c.if-nests_well.branch [
      | then-nests_well w ↦ rw w.result-is (omega arith)
      | else-nests_well w ↦ rw w.result-is tt
    ]
