use Rattle.std.proofs.Common.{arith, subst, true, false, eq-eqb}
use Rattle.std.proofs.lemmas.Bool.{ne_eqb}
use Rattle.glob_match.proofs.parse.ReadingLemmas.{SymbolsSoFar, symbols_escaped, symbols_backslash, symbols_plain}
use Rattle.glob_match.proofs.parse.symbols_of.Goals as goal
use Rattle.glob_match.proofs.parse.symbols_of.Goals.{then-escaped+in_ok-push, else-escaped+then-c-eq92, else-escaped+else-c-eq92+in_ok-push-2}

pub loop-c-preserved : goal.loop-c-preserved
loop-c-preserved c = elim c.if-escaped.branch [
  | then-escaped+in_ok-push w ↦
      let so_far : SymbolsSoFar c.args.text.now c.loop-c.symbols.items true c.loop-c.c-index = subst (λ b. SymbolsSoFar c.args.text.now c.loop-c.symbols.items b c.loop-c.c-index) w.if-escaped.true c.loop-c.invariant in
      rw (w.symbols-is, w.escaped-is, w.in_ok-push.ensures.items, w.escape.ensures) (symbols_escaped c.args.text.now c.loop-c.symbols.items c.loop-c.c-index c.c-item.result _ so_far (omega arith) c.c-item.is)
  | else-escaped+then-c-eq92 w ↦
      let so_far : SymbolsSoFar c.args.text.now c.loop-c.symbols.items false c.loop-c.c-index = subst (λ b. SymbolsSoFar c.args.text.now c.loop-c.symbols.items b c.loop-c.c-index) w.if-escaped.false c.loop-c.invariant in
      rw (w.symbols-is, w.escaped-is) (symbols_backslash c.args.text.now c.loop-c.symbols.items c.loop-c.c-index c.c-item.result _ so_far (omega arith) c.c-item.is (eq-eqb _ _ w.if-c-eq92.true))
  | else-escaped+else-c-eq92+in_ok-push-2 w ↦
      let so_far : SymbolsSoFar c.args.text.now c.loop-c.symbols.items false c.loop-c.c-index = subst (λ b. SymbolsSoFar c.args.text.now c.loop-c.symbols.items b c.loop-c.c-index) w.if-escaped.false c.loop-c.invariant in
      rw (w.symbols-is, w.escaped-is, w.if-escaped.false, w.in_ok-push-2.ensures.items) (symbols_plain c.args.text.now c.loop-c.symbols.items c.loop-c.c-index c.c-item.result _ so_far (omega arith) c.c-item.is (ne_eqb _ _ w.if-c-eq92.false))
]
