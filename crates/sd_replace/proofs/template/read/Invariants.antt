use Rattle.std.proofs.Common.{◌≡◌, ◌++◌, ℕ, List, length}
use Rattle.grep_matcher.specs.References.{expand}
use Rattle.hir_tree.specs.Tree.{tree_of}
use Rattle.grep_regex.specs.Options.{names_in, number_of}
use Rattle.sd_replace.specs.Templates.{pieces_text}
use Rattle.sd_replace.proofs.template.read.Given as goal

-- what the pieces so far stand for, followed by the rest's expansion, is what is wanted
abbrev pub invariant-loop-place : goal.invariant-loop-place
invariant-loop-place l = (text_of : ℕ → List ℕ) → expand text_of (number_of (names_in (tree_of l.matcher.searcher))) l.fn.text
    ≡ pieces_text text_of l.pieces.items ++ expand text_of (number_of (names_in (tree_of l.matcher.searcher))) l.rest

abbrev pub decreases-loop-place : goal.decreases-loop-place
decreases-loop-place l = length l.rest
