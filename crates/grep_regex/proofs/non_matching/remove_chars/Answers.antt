use Rattle.std.proofs.Common.{◌↔◌, ◌⊎◌, ℕ, ◌+◌, List, drop, sym, subst}
use Rattle.grep_regex.specs.NonMatching.{Takes}
use Rattle.grep_regex.specs.Removed.{IsInUtf8Of}
use Rattle.grep_regex.proofs.non_matching.RemovedLemmas.{drop_here, one_kind_less}
use Rattle.grep_regex.proofs.non_matching.Utf8Lemmas.{taken_by_ranges}
use Rattle.grep_regex.proofs.non_matching.remove_chars.Goals as goal
use Rattle.hir_tree.specs.Tree.{class_chars}

pub loop-i-preserved : goal.loop-i-preserved
loop-i-preserved c =
    let ranges = c.args.ranges.now in let i = c.loop-i.i in let range = c.get-start.result in
    let taken = λ (xs : List (ℕ × ℕ)) (b : ℕ). Takes b (class_chars xs) in
    one_kind_less c.args.set.now c.loop-i.set c.remove_char_range.new.set (taken ranges) (taken (drop i ranges)) (IsInUtf8Of range) (taken (drop (i + 1) ranges)) c.loop-i.invariant
    (λ b. subst (λ (xs : List (ℕ × ℕ)). taken xs b ↔ (IsInUtf8Of range b ⊎ taken (drop (i + 1) ranges) b)) (sym (drop_here ranges i range c.get-start.ensures)) (taken_by_ranges range (drop (i + 1) ranges) b))
    c.remove_char_range.ensures
