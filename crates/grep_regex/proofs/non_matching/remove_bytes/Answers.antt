use Rattle.std.proofs.Common.{◌↔◌, ◌⊎◌, ℕ, ◌+◌, List, drop, sym, subst}
use Rattle.grep_regex.proofs.non_matching.RemovedLemmas.{drop_here, one_kind_less, range_lost}
use Rattle.grep_regex.proofs.non_matching.remove_bytes.Goals as goal
use Rattle.hir_tree.specs.Ranges.{Holds, IsWithin}

pub loop-i-preserved : goal.loop-i-preserved
loop-i-preserved c =
    let ranges = c.args.ranges.now in let i = c.loop-i.i in let range = c.get-start.result in
    one_kind_less c.args.set.now c.loop-i.set c.remove_all.new.self (Holds ranges) (Holds (drop i ranges)) (IsWithin range) (Holds (drop (i + 1) ranges)) c.loop-i.invariant
    (λ b. subst (λ (xs : List (ℕ × ℕ)). Holds xs b ↔ (IsWithin range b ⊎ Holds (drop (i + 1) ranges) b)) (sym (drop_here ranges i range c.get-start.ensures)) ((λ h. h), (λ h. h)))
    (range_lost c.loop-i.set c.remove_all.new.self range.0 range.1 c.remove_all.ensures)
