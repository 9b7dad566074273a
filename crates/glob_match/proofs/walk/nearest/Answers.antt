use Rattle.glob_match.proofs.walk.nearest.Goals as goal

pub returns-in-One : goal.returns-in-One
returns-in-One c = rw c.in-One.is (c.nearest_one.ensures c.in-One.field-0 c.args.next.now)
