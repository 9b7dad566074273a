-- The groups of a match.
use Rattle.std.specs.Prelude.{◌≡◌, ℕ, List, Option}
use Rattle.grep_matcher.specs.References.{LieIn}
use Rattle.grep_matcher.specs.Span.{Span}
use Rattle.grep_regex.specs.Matching.{spans_at}
use Rattle.hir_tree.specs.Tree.{Tree}

-- the groups are those of the match at a place, and lie in the text
abbrev pub AreOfMatch : Tree → List ℕ → ℕ → List (Option Span) → Type 0
AreOfMatch tree text place groups = (groups ≡ spans_at tree text place) × LieIn groups text
