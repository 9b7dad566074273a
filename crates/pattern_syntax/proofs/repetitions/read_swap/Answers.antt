use Rattle.std.proofs.Common.{◌≡◌, ◌<◌, true, length, drop, sym, ap, ◌∙◌, arith}
use Rattle.pattern_syntax.specs.Flags.{begins, rest}
use Rattle.pattern_syntax.proofs.runs.RunLemmas.{NextIs, next_is}
use Rattle.pattern_syntax.proofs.repetitions.read_swap.Goals as goal

pub returns-then-is_next : goal.returns-then-is_next
returns-then-is_next c =
    let there : begins 63 (drop c.behind_blanks-mark.result c.args.text.now) ≡ true = sym c.is_next.ensures ∙ c.if-is_next.true in
    let mark : NextIs 63 c.args.text.now c.behind_blanks-mark.result = next_is 63 c.args.text.now c.behind_blanks-mark.result there in
    let within : c.behind_blanks-mark.result < length c.args.text.now = mark.within in
    record {
      swaps = sym (ap (begins 63) (sym c.behind_blanks-mark.ensures.seen) ∙ there);
      left = sym (ap rest (sym c.behind_blanks-mark.ensures.seen) ∙ ap rest mark.written);
      within = omega arith;
    }
