use Rattle.pattern_syntax.proofs.categories.CategoryLemmas.{own_set, others_set}
use Rattle.pattern_syntax.proofs.categories.named_set.Goals as goal

pub returns-then-letter-ne80-clause-found : goal.returns-then-letter-ne80-clause-found
returns-then-letter-ne80-clause-found c =
    let found = rw c.in-Some.is at c.in_ok-set.ensures.found in
    (own_set c.args.flags c.args.letter c.args.name.now c.in-Some.set c.if-letter-ne80.true found.0, found.1)

pub returns-clause-found : goal.returns-clause-found
returns-clause-found c =
    let found = rw c.in-Some.is at c.in_ok-set.ensures.found in
    (others_set c.args.flags c.args.letter c.args.name.now c.in-Some.set c.in_ok-others.others c.if-letter-ne80.false found.0 c.in_ok-others.ensures, found.1)
