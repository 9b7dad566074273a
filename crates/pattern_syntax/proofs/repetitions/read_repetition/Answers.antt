use Rattle.std.proofs.Common.{◌≡◌, ◌&&◌, sym, ap, ◌∙◌, subst}
use Rattle.pattern_syntax.specs.CountReaders.{IsSwapRead}
use Rattle.pattern_syntax.proofs.repetitions.RepetitionLemmas.{repetition_at, no_repetition}
use Rattle.pattern_syntax.proofs.repetitions.read_repetition.Goals as goal
use Rattle.pattern_syntax.proofs.repetitions.read_repetition.Goals.{then-count, else-count}

pub returns-in-None : goal.returns-in-None
returns-in-None c =
    no_repetition c.args.flags c.args.text.now c.args.at c.behind_blanks-start.result c.behind_blanks-start.ensures.seen c.in-None.ensures

pub returns-after-count : goal.returns-after-count
returns-after-count c =
    let same : c.if-count.read_swap ≡ (c.in-Some.count.braced && c.args.flags.spaces) =
    elim c.if-count.branch [
      | then-count w ↦ w.read_swap-is ∙ sym (ap (λ b. b && c.args.flags.spaces) w.if-count.true)
      | else-count w ↦ w.read_swap-is ∙ w.if-count.false ∙ sym (ap (λ b. b && c.args.flags.spaces) w.if-count.false)
    ] in
    repetition_at c.args.flags c.args.text.now c.args.at c.behind_blanks-start.result c.in-Some.count c.read_swap-swaps.result.0 c.read_swap-swaps.result.1
    c.requires c.behind_blanks-start.ensures.within c.behind_blanks-start.ensures.seen c.in-Some.ensures
    (subst (λ b. IsSwapRead b c.args.text.now c.in-Some.count.next c.read_swap-swaps.result) same c.read_swap-swaps.ensures)
