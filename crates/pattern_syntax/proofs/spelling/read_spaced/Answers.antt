use Rattle.std.proofs.Common.{◌≡◌, ◌<◌, ◌∷◌, length, drop, sym, subst, arith}
use Rattle.pattern_syntax.specs.Flags.{seen}
use Rattle.pattern_syntax.specs.Escapes.{Spells}
use Rattle.pattern_syntax.proofs.spelling.SpellingLemmas.{spells_next, spells_end}
use Rattle.pattern_syntax.proofs.spelling.read_spaced.Goals as goal

pub returns-in_default-clause-none : goal.returns-in_default-clause-none
returns-in_default-clause-none c = λ cs t counted spelled.
    let text = c.args.text.now in
    let fewer : length c.loop-flags.read.items < length cs = omega arith in
    spells_end c.args.flags c.loop-flags.read.items cs (drop c.args.at text) (drop c.loop-flags.place text) t c.loop-flags.invariant.0 c.in_default.ensures.none spelled fewer

pub loop-flags-preserved : goal.loop-flags-preserved
loop-flags-preserved c =
    let text = c.args.text.now in
    let next : seen c.args.flags (drop c.loop-flags.place text) ≡ c.in-Some.c ∷ drop c.in-Some.next text = cc c.in-Some.ensures.found in (
      subst (λ z. Spells c.args.flags z (drop c.args.at text) (drop c.in-Some.next text)) (sym c.in_ok-push.ensures.items)
          (spells_next c.args.flags c.loop-flags.read.items (drop c.args.at text) (drop c.loop-flags.place text) c.in-Some.c (drop c.in-Some.next text) c.loop-flags.invariant.0 next),
      omega (arith, c.in-Some.ensures.within),
      omega arith,
    )
