use Rattle.std.proofs.Common.{◌≡◌, ◌∙◌, ◌∷◌, [], ℕ, List, length, codes, sym, ap}
use Rattle.std.specs.Cmp.Lexicographic.{bytes_decides}
use Rattle.sd_journal.proofs.asking.WordLemmas.{two_words}
use Rattle.sd_journal.proofs.asking.asks_recovery.Goals as goal

pub returns-then-len-eq2-clause-asks : goal.returns-then-len-eq2-clause-asks
returns-then-len-eq2-clause-asks c =
    λ asks.
    let long : length c.args.words.now ≡ 2 = sym c.len.ensures ∙ c.if-len-eq2.true in
    let same : c.get.result.now ≡ codes "--recover" = (bytes_decides c.get.result.now (codes "--recover")).0 (sym c.eq.ensures ∙ asks) in
    let (root, are) = two_words c.args.words.now c.get.result.now long c.get.ensures.same in
    (root, are ∙ ap (λ (word : List ℕ). word ∷ root ∷ []) same)
