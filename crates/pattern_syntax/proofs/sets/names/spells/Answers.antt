use Rattle.std.proofs.Common.{sym, ap, get_or, ext_get_or, arith}
use Rattle.std.proofs.lemmas.Bool.Decides.{nat_tests}
use Rattle.std.proofs.lemmas.Grind.{common_steps}
use Rattle.pattern_syntax.proofs.sets.NameLemmas.{equal_texts, unequal_texts}
use Rattle.pattern_syntax.proofs.sets.names.spells.Goals as goal

pub returns-then-text-i : goal.returns-then-text-i
returns-then-text-i c =
    sym (unequal_texts c.args.word.now c.args.text.now (λ e. grind (arith, nat_tests, common_steps, ap (λ xs. get_or xs c.loop-i.i 0) e)))

pub returns : goal.returns
returns c =
    sym (equal_texts _ _ (sym (ext_get_or 0 c.args.text.now c.args.word.now (grind (arith, nat_tests, common_steps)) (λ i h. grind (
      arith,
      nat_tests,
      common_steps,
      c.loop-i.invariant i,
    )))))
