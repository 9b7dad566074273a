use Rattle.std.proofs.Common.{◌≡◌, ℕ, ◌<◌, ◌≤◌, arith}
use Rattle.grep_regex.specs.Removed.{IsContinuationOf, continuation_byte}
use Rattle.grep_regex.proofs.non_matching.RemovedLemmas.{both_lost, byte_lost, same_lost}
use Rattle.grep_regex.proofs.non_matching.Utf8Lemmas.{continuations_in_a_row}
use Rattle.grep_regex.proofs.non_matching.remove_continuations.Goals as goal

pub returns-2 : goal.returns-2
returns-2 c =
    let first = c.args.first in let last = c.args.last in let number = c.loop-number.number in
    let before = λ (b : ℕ). (n : ℕ) × (first ≤ n) × (n < number) × (continuation_byte n ≡ b) in
    let this = λ (b : ℕ). continuation_byte number ≡ b in
    same_lost c.args.set.now c.remove.new.self _ (IsContinuationOf (first, last))
    (λ b. continuations_in_a_row first last number b (omega arith) (omega arith))
    (both_lost c.args.set.now c.loop-number.set c.remove.new.self before this c.loop-number.invariant.lost (byte_lost c.loop-number.set c.remove.new.self (continuation_byte number) c.remove.ensures))
