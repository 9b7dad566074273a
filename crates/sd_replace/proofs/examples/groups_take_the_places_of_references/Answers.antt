use Rattle.std.proofs.Common.{ℕ, [], ◌∷◌, codes, refl}
use Rattle.grep_matcher.specs.Span.{Span}
use Rattle.hir_tree.proofs.RunsComputing.{matching}
use Rattle.sd_replace.specs.Examples.{a_or_b, every}
use Rattle.sd_replace.specs.declared.replacer.Substitute.TheVariants.{Expanded}
use Rattle.sd_replace.proofs.examples.CoverTests.{computed}
use Rattle.sd_replace.proofs.examples.groups_take_the_places_of_references.Goals as goal

abbrev at : ℕ → ℕ → Span
at start end = record { start = start; end = end }

pub returns-clause-numbers : goal.returns-clause-numbers
unfolding matching
returns-clause-numbers c = computed (every a_or_b (Expanded (codes "<$1$2>"))) (codes "ab") (codes "<a><b>") 2 (at 0 1 ∷ at 1 2 ∷ []) refl refl refl

pub returns-clause-names : goal.returns-clause-names
unfolding matching
returns-clause-names c = computed (every a_or_b (Expanded (codes "$n$$"))) (codes "ab") (codes "$b$") 2 (at 0 1 ∷ at 1 2 ∷ []) refl refl refl

pub returns-clause-longest_name : goal.returns-clause-longest_name
unfolding matching
returns-clause-longest_name c = computed (every a_or_b (Expanded (codes "$1a.${1}a"))) (codes "a") (codes ".aa") 1 (at 0 1 ∷ []) refl refl refl

pub returns-clause-no_group : goal.returns-clause-no_group
unfolding matching
returns-clause-no_group c = computed (every a_or_b (Expanded (codes "$3$"))) (codes "b") (codes "$") 1 (at 0 1 ∷ []) refl refl refl
