-- The pieces of a text that is cut at its first `/`.
use Rattle.std.proofs.Common.{◌≡◌, ◌<◌, ◌+◌, ℕ, suc, List, [], ◌∷◌, length, refl, sym, ◌∙◌, ap, Bool, true, false, cond, arith}
use Rattle.std.specs.Prelude.{◌==◌, not}
use Rattle.std.specs.List.{slice_split, onto_first, position_or_len, before_first, after_first}
use Rattle.std.proofs.lemmas.List.Splits.{slice_split_first}
use Rattle.sd_io.specs.Paths.{pieces_of}

zero_suc : (n : ℕ) → 0 ≡ suc n → ⊥
zero_suc n e = omega arith

pub uncut : {X : Type 0} (p : X → Bool) (xs : List X) → position_or_len p xs ≡ length xs → slice_split p xs ≡ xs ∷ []
uncut p [] e = refl
uncut p (x ∷ xs) e = by (p x) e (λ h. uncut p xs h)
  where
    by : (b : Bool) → cond (not b) (1 + position_or_len p xs) 0 ≡ length (x ∷ xs) → (position_or_len p xs ≡ length xs → slice_split p xs ≡ xs ∷ []) → cond b ([] ∷ slice_split p xs) (onto_first x (slice_split p xs)) ≡ (x ∷ xs) ∷ []
    by true h go = absurd (zero_suc (length xs) h)
    by false h go = ap (onto_first x) (go (omega arith))

pub cut_here : (text part rest : List ℕ) → position_or_len (λ b. b == 47) text < length text → part ≡ before_first (λ b. b == 47) text → rest ≡ after_first (λ b. b == 47) text → pieces_of text ≡ part ∷ pieces_of rest
cut_here text part rest lt front back = slice_split_first (λ b. b == 47) text 0 lt ∙ ap (λ (x : List ℕ). x ∷ pieces_of (after_first (λ b. b == 47) text)) (sym front) ∙ ap (λ (x : List ℕ). part ∷ pieces_of x) (sym back)
