use Rattle.std.proofs.Common.{IfOk, IsTrue, ◌↔◌, map, sym, subst, true≢false, arith}
use Rattle.hir_tree.specs.Tree.{tree_of}
use Rattle.pattern_core.specs.Answers.{HasOneTwice}
use Rattle.grep_regex.specs.ReadSoFar.{names_in_all}
use Rattle.grep_regex.proofs.reading.PatternLemmas.{few_single, repeats_if}
use Rattle.grep_regex.proofs.reading.ReadPatterns.repeats_name.Goals as goal

pub returns-then-len-lt2-clause-repeats : goal.returns-then-len-lt2-clause-repeats
returns-then-len-lt2-clause-repeats c o folded texts are = (
  λ t. absurd (true≢false (sym t)),
  λ twice. absurd (few_single o folded texts c.args.self.now are c.if-self.false (omega arith) twice),
)

pub returns-clause-repeats : goal.returns-clause-repeats
returns-clause-repeats c =
    repeats_if c.args.self.now c.has_double_name.result c.if-self.false
    (subst (λ hirs. IfOk c.has_double_name.result (λ double. IsTrue double ↔ HasOneTwice (names_in_all (map tree_of hirs)))) c.deref.ensures.value c.has_double_name.ensures)
