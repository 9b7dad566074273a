use Rattle.std.proofs.Common.{◌≡◌, ◌+◌, [], ◌∷◌, vec_len, ap, arith}
use Rattle.hir_tree.specs.Core.{numbers}
use Rattle.hir_tree.specs.Cores.{core_of}
use Rattle.hir_program.specs.declared.spot.Spot.TheVariants as spot
use Rattle.hir_program.proofs.compile.CompileLemmas.{program-placed, program-closes, program-preferred}
use Rattle.hir_program.proofs.compile.program.Goals as goal

pub returns-clause-stands : goal.returns-clause-stands
returns-clause-stands c =
    let core = core_of c.args.hir.now in
    let count : c.size-count.result ≡ numbers core = omega arith in
    let none : vec_len c.in_ok-spots.spots ≡ 0 = c.in_ok-spots.ensures.len in
    let begun : c.push_ends.new.out.items ≡ spot.Open 2 ∷ spot.Close 0 (numbers core + 2) ∷ [] =
    rw (c.in_ok-push_ends.ensures, c.in_ok-spots.ensures.items, count) (ap (λ n. spot.Open (n + 2) ∷ spot.Close 0 (numbers core + 2) ∷ []) none) in
    program-placed c.push_ends.new.out.items c.compile.new.out.items c.push.new.self.items core begun c.in_ok-compile.ensures c.in_ok-push.ensures.items

pub returns-clause-falls : goal.returns-clause-falls
returns-clause-falls c = program-closes c.push.new.self.items (core_of c.args.hir.now) (returns-clause-stands c)

pub returns-clause-preferred : goal.returns-clause-preferred
returns-clause-preferred c = program-preferred c.push.new.self.items (core_of c.args.hir.now) (returns-clause-stands c)
