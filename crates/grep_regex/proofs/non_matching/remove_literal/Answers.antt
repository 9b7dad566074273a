use Rattle.std.proofs.Common.{◌≡◌, ◌↔◌, ◌⊎◌, ℕ, ◌+◌, List, Contains, drop, sym, subst}
use Rattle.grep_regex.proofs.non_matching.RemovedLemmas.{byte_lost, contains_first_or_rest, drop_here, one_kind_less}
use Rattle.grep_regex.proofs.non_matching.remove_literal.Goals as goal

pub loop-i-preserved : goal.loop-i-preserved
loop-i-preserved c =
    let bytes = c.args.bytes.now in let i = c.loop-i.i in let byte = c.get.result in
    one_kind_less c.args.set.now c.loop-i.set c.remove.new.self (Contains bytes) (Contains (drop i bytes)) (λ (b : ℕ). byte ≡ b) (Contains (drop (i + 1) bytes)) c.loop-i.invariant
    (λ b. subst (λ (xs : List ℕ). Contains xs b ↔ ((byte ≡ b) ⊎ Contains (drop (i + 1) bytes) b)) (sym (drop_here bytes i byte c.get.ensures)) (contains_first_or_rest byte (drop (i + 1) bytes) b))
    (byte_lost c.loop-i.set c.remove.new.self byte c.remove.ensures)
