use Rattle.std.proofs.Common.{sym, ◌∙◌}
use Rattle.grep_matcher.proofs.ReferenceLemmas.{turn, last_turn, tail_is}
use Rattle.hir_tree.specs.Tree.{tree_of}
use Rattle.grep_regex.specs.Options.{names_in, number_of}
use Rattle.sd_replace.proofs.template.read.Goals as goal

pub loop-place-preserved : goal.loop-place-preserved
loop-place-preserved c = λ text_of.
    c.loop-place.invariant text_of
    ∙ turn text_of (number_of (names_in (tree_of c.args.matcher.now.searcher))) _ _ _ _ _ _ _ _ _ c.in-Some.ensures c.split_at.ensures.front c.split_at.ensures.back (c.in_ok-push_bytes.ensures text_of)
    c.in_ok-taken.ensures.taken (c.in_ok-taken.ensures.added text_of) (tail_is c.split_at.result.1.now c.in_ok-taken.taken)

pub returns : goal.returns
returns c = λ text_of. sym (c.loop-place.invariant text_of
    ∙ last_turn text_of (number_of (names_in (tree_of c.args.matcher.now.searcher))) _ _ _ c.in_default.ensures (c.in_ok-push_bytes-2.ensures text_of))
