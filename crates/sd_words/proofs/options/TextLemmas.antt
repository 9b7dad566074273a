-- Lists of texts.
use Rattle.std.proofs.Common.{◌≡◌, ◌∙◌, ◌+◌, ℕ, List, [], ◌∷◌, ◌++◌, map, take, Some, suc, zero, sym, ap, arith}
use Rattle.std.specs.Prelude.{slice_get}
use Rattle.std.specs.Borrow.{Bor}
use Rattle.std.proofs.lemmas.List.{map_push}
use Rattle.std.proofs.lemmas.Option.{same_Some}

take_one : (words : List (List ℕ)) (i : ℕ) (word : List ℕ) → slice_get words i ≡ Some word → take (suc i) words ≡ take i words ++ word ∷ []
take_one [] i word at = cc
take_one (x ∷ xs) zero word at = ap (λ y. y ∷ []) (same_Some _ _ at)
take_one (x ∷ xs) (suc i) word at = ap (λ ys. x ∷ ys) (take_one xs i word at)

-- one more text is lent
pub lent_next : (words : List (List ℕ)) (i : ℕ) (old new : List (Bor (List ℕ))) (text : Bor (List ℕ)) → slice_get words i ≡ Some text.now
    → map (λ s. s.now) old ≡ take i words → new ≡ old ++ text ∷ [] → map (λ s. s.now) new ≡ take (i + 1) words
lent_next words i old new text at is pushed =
    let one : i + 1 ≡ suc i = omega arith in
    ap (map (λ (s : Bor (List ℕ)). s.now)) pushed ∙ map_push (λ (s : Bor (List ℕ)). s.now) old text ∙ ap (λ ts. ts ++ text.now ∷ []) is
    ∙ sym (take_one words i text.now at) ∙ ap (λ k. take k words) (sym one)
