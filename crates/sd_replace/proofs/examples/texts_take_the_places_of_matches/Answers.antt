use Rattle.std.proofs.Common.{ℕ, [], ◌∷◌, codes, refl}
use Rattle.grep_matcher.specs.Span.{Span}
use Rattle.hir_tree.proofs.RunsComputing.{matching}
use Rattle.sd_replace.specs.Examples.{a, every, xs}
use Rattle.sd_replace.specs.declared.replacer.Substitute.TheVariants.{Literal}
use Rattle.sd_replace.proofs.examples.CoverTests.{computed}
use Rattle.sd_replace.proofs.examples.texts_take_the_places_of_matches.Goals as goal

abbrev at : ℕ → ℕ → Span
at start end = record { start = start; end = end }

pub returns-clause-each : goal.returns-clause-each
unfolding matching
returns-clause-each c = computed (every a (Literal (codes "$1"))) (codes "aba") (codes "$1b$1") 2 (at 0 1 ∷ at 2 3 ∷ []) refl refl refl

pub returns-clause-none : goal.returns-clause-none
unfolding matching
returns-clause-none c = computed (every a (Literal (codes "b"))) (codes "cd") (codes "cd") 0 ([]) refl refl refl

pub returns-clause-empty : goal.returns-clause-empty
unfolding matching
returns-clause-empty c = computed (every xs (Literal (codes "-"))) (codes "axb") (codes "-a-b-") 3 (at 0 0 ∷ at 1 2 ∷ at 3 3 ∷ []) refl refl refl

pub returns-clause-of_nothing : goal.returns-clause-of_nothing
unfolding matching
returns-clause-of_nothing c = computed (every xs (Literal (codes "-"))) (codes "") (codes "-") 1 (at 0 0 ∷ []) refl refl refl
