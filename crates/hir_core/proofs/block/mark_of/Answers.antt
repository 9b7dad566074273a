use Rattle.std.proofs.Common.{◌-◌, ◌*◌, arith}
use Rattle.hir_core.proofs.block.MarkLemmas.{mark-within}
use Rattle.hir_core.proofs.block.mark_of.Goals as goal

pub overflow_mul-result : goal.overflow_mul-result
overflow_mul-result c =
    let k = mark-within c.args.spots c.args.places.begin c.args.places.end c.args.at c.args.spot (c.args.spots * (c.args.places.end - c.args.places.begin))
    (omega arith) c.requires.begin c.requires.end c.requires.spot in
    omega (arith, k, c.requires.few)

pub overflow_add-result : goal.overflow_add-result
overflow_add-result c =
    let k = mark-within c.args.spots c.args.places.begin c.args.places.end c.args.at c.args.spot (c.args.spots * (c.args.places.end - c.args.places.begin))
    (omega arith) c.requires.begin c.requires.end c.requires.spot in
    omega (arith, k, c.requires.few)

pub returns-clause-within : goal.returns-clause-within
returns-clause-within c =
    mark-within c.args.spots c.args.places.begin c.args.places.end c.args.at c.args.spot (c.args.spots * (c.args.places.end - c.args.places.begin))
    (omega arith) c.requires.begin c.requires.end c.requires.spot
