-- What becomes of bytes step by step.
use Rattle.std.proofs.Common.{◌≡◌, ◌==◌, ◌+◌, ◌-◌, ◌≤◌, ◌<◌, ℕ, zero, suc, Bool, List, [], ◌∷◌, ◌++◌, length, true, false, refl, sym, ap, ◌∙◌, drop, cond, arith, append_assoc}
use Rattle.std.proofs.lemmas.Bool.{cond-true, cond-false}
use Rattle.std.specs.List.{starts_with}
use Rattle.program_tests.specs.Swapped.{swapped, spans}

-- what is left of a text that was found is passed over
swapped-left : (find other : List ℕ) (left : ℕ) (bytes : List ℕ) → swapped find other left bytes ≡ swapped find other 0 (drop left bytes)
swapped-left find other zero [] = refl
swapped-left find other zero (byte ∷ bytes) = refl
swapped-left find other (suc left) [] = refl
swapped-left find other (suc left) (byte ∷ bytes) = swapped-left find other left bytes

spans-left : (find : List ℕ) (left : ℕ) (bytes : List ℕ) → spans find left bytes ≡ spans find 0 (drop left bytes)
spans-left find zero [] = refl
spans-left find zero (byte ∷ bytes) = refl
spans-left find (suc left) [] = refl
spans-left find (suc left) (byte ∷ bytes) = spans-left find left bytes

-- behind a text that is found the bytes go on
pub swapped-found : (find other rest tail : List ℕ) → 0 < length find → 0 < length rest → starts_with ◌==◌ rest find ≡ true
    → tail ≡ drop (length find) rest → swapped find other 0 rest ≡ other ++ swapped find other 0 tail
swapped-found [] other rest tail some more starts is = absurd (omega (arith, some))
swapped-found (f ∷ fs) other [] tail some more starts is = absurd (omega (arith, more))
swapped-found (f ∷ fs) other (byte ∷ bytes) tail some more starts is =
    let one : length (f ∷ fs) - 1 ≡ length fs = omega arith in
    let behind : drop (length (f ∷ fs) - 1) bytes ≡ tail = ap (λ n. drop n bytes) one ∙ sym is in
    let onward = swapped-left (f ∷ fs) other (length (f ∷ fs) - 1) bytes ∙ ap (λ left. swapped (f ∷ fs) other 0 left) behind in
    cond-true _ _ _ starts ∙ ap (λ new_bytes. other ++ new_bytes) onward

pub spans-found : (find rest tail : List ℕ) → 0 < length find → 0 < length rest → starts_with ◌==◌ rest find ≡ true
    → tail ≡ drop (length find) rest → spans find 0 rest ≡ spans find 0 tail + 1
spans-found [] rest tail some more starts is = absurd (omega (arith, some))
spans-found (f ∷ fs) [] tail some more starts is = absurd (omega (arith, more))
spans-found (f ∷ fs) (byte ∷ bytes) tail some more starts is =
    let one : length (f ∷ fs) - 1 ≡ length fs = omega arith in
    let behind : drop (length (f ∷ fs) - 1) bytes ≡ tail = ap (λ n. drop n bytes) one ∙ sym is in
    let onward = spans-left (f ∷ fs) (length (f ∷ fs) - 1) bytes ∙ ap (λ left. spans (f ∷ fs) 0 left) behind in
    cond-true _ _ _ starts ∙ ap (λ n. n + 1) onward

-- the new bytes so far, with one more text
pub one_more : (old new other behind rest whole : List ℕ) → new ≡ old ++ other → rest ≡ other ++ behind → old ++ rest ≡ whole → new ++ behind ≡ whole
one_more old new other behind rest whole grown found before = let assoc = append_assoc old other behind in cc

-- where the text isn't found, nothing changes
not_found : (found : Bool) (m n : ℕ) → cond found (m + 1) n ≡ 0 → (found ≡ false) × (n ≡ 0)
not_found true m n none = absurd (omega (arith, none))
not_found false m n none = (refl, none)

pub swapped-none : (find other bytes : List ℕ) → spans find 0 bytes ≡ 0 → swapped find other 0 bytes ≡ bytes
swapped-none find other [] none = refl
swapped-none find other (byte ∷ bytes) none =
    let here = not_found (starts_with ◌==◌ (byte ∷ bytes) find) _ _ none in
    cond-false _ _ _ here.0 ∙ ap (λ new_bytes. byte ∷ new_bytes) (swapped-none find other bytes here.1)

-- there are no more than bytes
few_here : (found : Bool) (m n k : ℕ) → m ≤ k → n ≤ k → cond found (m + 1) n ≤ k + 1
few_here true m n k found passed = omega (arith, found)
few_here false m n k found passed = omega (arith, passed)

pub spans-few : (find : List ℕ) (left : ℕ) (bytes : List ℕ) → spans find left bytes ≤ length bytes
spans-few find zero [] = omega arith
spans-few find (suc left) [] = omega arith
spans-few find (suc left) (byte ∷ bytes) = let few = spans-few find left bytes in omega (arith, few)
spans-few find zero (byte ∷ bytes) =
    let few = few_here (starts_with ◌==◌ (byte ∷ bytes) find) _ _ (length bytes) (spans-few find (length find - 1) bytes) (spans-few find zero bytes) in
    omega (arith, few)
