-- What a matcher finds, and what it keeps beside its pattern.
use Rattle.std.specs.Prelude.{◌≡◌, ◌↔◌, ℕ, ◌<◌, ◌≤◌, IsTrue, All, List, [], length, map, Option, Some, None, IfSome}
use Rattle.grep_matcher.specs.ByteSets.{is_in}
use Rattle.grep_matcher.specs.NoMatch.{IsInNoMatch}
use Rattle.grep_matcher.specs.Span.{Span}
use Rattle.grep_matcher.specs.Terminators.{terminator_bytes}
use Rattle.grep_matcher.specs.declared.byte_set.ByteSet.{ByteSet}
use Rattle.grep_matcher.specs.declared.line_terminator.LineTerminator.{LineTerminator}
use Rattle.hir_tree.specs.Cores.{core_of_tree}
use Rattle.hir_tree.specs.Groups.{EachLiesWithin, start_of}
use Rattle.hir_tree.specs.Runs.{preferred}
use Rattle.hir_tree.specs.Spots.{groups_of_tree}
use Rattle.hir_tree.specs.Tree.{Tree}
use Rattle.hir_core.specs.Found.{span_of}
use Rattle.grep_regex.specs.NonMatching.{IsNonMatching, preferred_end}
use Rattle.grep_regex.specs.Options as options
use Rattle.grep_regex.specs.declared.names.Named.{Named}

-- names with the numbers of their groups
abbrev pub with_numbers : List Named → List options.Named
with_numbers names = map (λ named. (named.name, named.group)) names

-- the match of a pattern from a place, if it has one there
abbrev pub match_at : Tree → List ℕ → ℕ → Option (List (Option (ℕ × ℕ)))
match_at tree = preferred (core_of_tree tree) (groups_of_tree tree)

-- where it ends
abbrev pub end_at : Tree → List ℕ → ℕ → Option ℕ
end_at tree = preferred_end (core_of_tree tree) (groups_of_tree tree)

-- the spans of the groups of a match, if there is one
abbrev pub spans_of : Option (List (Option (ℕ × ℕ))) → List (Option Span)
spans_of None = []
spans_of (Some groups) = map span_of groups

-- the spans of the groups of the match of a pattern from a place
abbrev pub spans_at : Tree → List ℕ → ℕ → List (Option Span)
spans_at tree text at = spans_of (match_at tree text at)

-- a match from a place begins there, and each of its groups that is set lies in the text
abbrev pub IsWhole : List ℕ → ℕ → List (Option (ℕ × ℕ)) → Type 0
IsWhole text at found = (start_of found ≡ Some at) × EachLiesWithin (length text) found

-- each match of a pattern is whole
abbrev pub MatchesAreWhole : Tree → Type 0
MatchesAreWhole tree = (text : List ℕ) (at : ℕ) → at ≤ length text → IfSome (match_at tree text at) (IsWhole text at)

-- no match of a pattern holds a byte of the terminator, if there is one
abbrev pub EndsNoMatch : Tree → Option LineTerminator → Type 0
EndsNoMatch tree terminator = IfSome terminator (λ t. All (IsInNoMatch (end_at tree)) (terminator_bytes t))

-- what a matcher keeps of a pattern: the greatest index of a group, the names, the bytes in no match, and the terminator
pub record IsKept (tree : Tree) (greatest : ℕ) (named : List Named) (set : ByteSet) (told : Option LineTerminator) : Type 0 where
  pub groups : greatest ≡ groups_of_tree tree
  pub names : with_numbers named ≡ options.names_in tree
  pub non_matching : (byte : ℕ) → byte < 256 → IsTrue (is_in set byte) ↔ IsNonMatching tree byte
  pub terminator : EndsNoMatch tree told
