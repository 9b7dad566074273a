-- Globs that are read one after another.
use Rattle.std.proofs.Common.{◌≡◌, ℕ, zero, suc, ◌+◌, List, [], ◌∷◌, ◌++◌, take, arith, Some, sym, ap, subst}
use Rattle.std.specs.Prelude.{chars, None}
use Rattle.std.specs.List.{AllByRecursion, slice_get}
use Rattle.std.proofs.lemmas.Option.{same_Some}
use Rattle.glob_match.specs.Reading.{pieces_of}
use Rattle.chosen_files.specs.Globs.{IsValid, IsFirstInvalid}

-- one more element
take_suc : {X : Type 0} (xs : List X) (n : ℕ) (x : X) → slice_get xs n ≡ Some x → take (suc n) xs ≡ take n xs ++ x ∷ []
take_suc [] n x at = cc
take_suc (y ∷ xs) zero x at = ap (λ z. z ∷ []) (same_Some y x at)
take_suc (y ∷ xs) (suc n) x at = ap (λ zs. y ∷ zs) (take_suc xs n x at)

pub take_more : {X : Type 0} (xs : List X) (n : ℕ) (x : X) → slice_get xs n ≡ Some x → take (n + 1) xs ≡ take n xs ++ x ∷ []
take_more {X} xs n x at =
    let same : n + 1 ≡ suc n = omega arith in
    subst (λ k. take k xs ≡ take n xs ++ x ∷ []) (sym same) (take_suc xs n x at)

pub valid_more : (globs : List (List ℕ)) (glob : List ℕ) → AllByRecursion IsValid globs → IsValid glob → AllByRecursion IsValid (globs ++ glob ∷ [])
valid_more [] glob all valid = (valid, tt)
valid_more (first ∷ globs) glob all valid = (all.0, valid_more globs glob all.1 valid)

-- the glob after valid ones is the first that is not
pub first_after : (globs : List (List ℕ)) (place : ℕ) (glob : List ℕ) → AllByRecursion IsValid (take place globs) → slice_get globs place ≡ Some glob
    → (IsValid glob → ⊥) → IsFirstInvalid globs place
first_after [] place glob all at not = cc
first_after (first ∷ globs) zero glob all at not = λ valid. not (subst IsValid (same_Some first glob at) valid)
first_after (first ∷ globs) (suc place) glob all at not = (all.0, first_after globs place glob all.1 at not)

pub not_valid : (glob : List ℕ) → pieces_of (chars glob) ≡ None → IsValid glob → ⊥
not_valid glob none valid = cc (none, valid)
