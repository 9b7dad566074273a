use Rattle.std.proofs.Common.{ℕ, [], ◌∷◌, codes, refl}
use Rattle.grep_matcher.specs.Span.{Span}
use Rattle.hir_tree.proofs.RunsComputing.{matching}
use Rattle.sd_replace.specs.Examples.{a, first, first_in_lines}
use Rattle.sd_replace.specs.declared.replacer.Substitute.TheVariants.{Literal}
use Rattle.sd_replace.proofs.examples.CoverTests.{computed}
use Rattle.sd_replace.proofs.examples.limits_count_the_first_matches.Goals as goal

abbrev at : ℕ → ℕ → Span
at start end = record { start = start; end = end }

pub returns-clause-over_all : goal.returns-clause-over_all
unfolding matching
returns-clause-over_all c = computed (first 2 a (Literal (codes "b"))) (codes "aaa") (codes "bba") 2 (at 0 1 ∷ at 1 2 ∷ at 2 3 ∷ []) refl refl refl

pub returns-clause-over_lines : goal.returns-clause-over_lines
unfolding matching
returns-clause-over_lines c = computed (first 1 a (Literal (codes "b"))) (codes "aa\na") (codes "ba\na") 1 (at 0 1 ∷ at 1 2 ∷ at 3 4 ∷ []) refl refl refl

pub returns-clause-in_each_line : goal.returns-clause-in_each_line
unfolding matching
returns-clause-in_each_line c = computed (first_in_lines 1 a (Literal (codes "b"))) (codes "aa\na") (codes "ba\nb") 2 (at 0 1 ∷ at 1 2 ∷ at 3 4 ∷ []) refl refl refl

pub returns-clause-in_later_lines : goal.returns-clause-in_later_lines
unfolding matching
returns-clause-in_later_lines c = computed (first_in_lines 1 a (Literal (codes "b"))) (codes "\n\naa\n") (codes "\n\nba\n") 1 (at 2 3 ∷ at 3 4 ∷ []) refl refl refl

pub returns-clause-no_limit : goal.returns-clause-no_limit
unfolding matching
returns-clause-no_limit c = computed (first_in_lines 0 a (Literal (codes "b"))) (codes "aa\na") (codes "bb\nb") 3 (at 0 1 ∷ at 1 2 ∷ at 3 4 ∷ []) refl refl refl
