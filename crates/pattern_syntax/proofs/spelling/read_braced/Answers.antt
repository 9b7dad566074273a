use Rattle.std.proofs.Common.{◌≡◌, ◌≤◌, ◌∷◌, false, length, drop, sym, subst, arith}
use Rattle.pattern_syntax.specs.Flags.{has, seen}
use Rattle.pattern_syntax.specs.Escapes.{Spells}
use Rattle.pattern_syntax.proofs.spelling.SpellingLemmas.{not_same, spells_next, has_next, closed_end}
use Rattle.pattern_syntax.proofs.spelling.read_braced.Goals as goal

pub returns-then-c-eq125-clause-found : goal.returns-then-c-eq125-clause-found
returns-then-c-eq125-clause-found c =
    let text = c.args.text.now in
    let next : seen c.args.flags (drop c.loop-c.place text) ≡ 125 ∷ drop c.in-Some-next_character.next text = cc c.in-Some-next_character.ensures.found in
    let within : c.in-Some-next_character.next ≤ length text = omega (arith, c.in-Some-next_character.ensures.within) in record {
      inner = c.loop-c.invariant.2;
      within = within;
      spelled =
          spells_next c.args.flags (123 ∷ c.loop-c.read.items) (drop c.args.at text) (drop c.loop-c.place text) 125 (drop c.in-Some-next_character.next text) c.loop-c.invariant.0
          next;
    }

pub loop-c-preserved : goal.loop-c-preserved
loop-c-preserved c =
    let text = c.args.text.now in
    let read = c.loop-c.read.items in
    let last = c.in-Some-next_character.c in
    let next : seen c.args.flags (drop c.loop-c.place text) ≡ c.in-Some-next_character.c ∷ drop c.in-Some-next_character.next text = cc c.in-Some-next_character.ensures.found in (
      subst (λ z. Spells c.args.flags (123 ∷ z) (drop c.args.at text) (drop c.in-Some-next_character.next text)) (sym c.in_ok-push.ensures.items)
          (spells_next c.args.flags (123 ∷ read) (drop c.args.at text) (drop c.loop-c.place text) last (drop c.in-Some-next_character.next text) c.loop-c.invariant.0 next),
      omega (arith, c.in-Some-next_character.ensures.within),
      subst (λ z. has 125 z ≡ false) (sym c.in_ok-push.ensures.items) (has_next 125 read last c.loop-c.invariant.2 (not_same last 125 c.if-c-eq125.false)),
    )

pub returns-clause-none : goal.returns-clause-none
returns-clause-none c = λ cs t inner spelled.
    let text = c.args.text.now in
    closed_end c.args.flags (123 ∷ c.loop-c.read.items) (123 ∷ cs) (drop c.args.at text) (drop c.loop-c.place text) t c.loop-c.invariant.2 c.loop-c.invariant.0
    c.in_default-next_character.ensures.none spelled
