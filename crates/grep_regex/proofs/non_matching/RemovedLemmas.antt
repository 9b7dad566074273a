-- What a set of bytes has lost.
use Rattle.std.proofs.Common.{◌≡◌, ◌↔◌, ◌⊎◌, ◌==◌, ℕ, ◌<◌, not, ◌&&◌, nat_le, Bool, true, false, IsTrue, Decides, List, [], ◌∷◌, Contains, suc, length, drop, slice_get, Some, refl, sym, ap, subst, ◌∙◌, inl, inr, ⊎_elim, arith, add-one, drop-cons, ◌+◌}
use Rattle.std.proofs.lemmas.Bool.Decides.{nat_tests}
use Rattle.std.proofs.lemmas.List.Elements.{Contains-append_left, Contains-append_right, Contains-append_cases, Contains-push, Contains-push_cases}
use Rattle.std.proofs.lemmas.Option.{get_or_from_slice_get, slice_get_within}
use Rattle.grep_matcher.specs.ByteSets.{is_in}
use Rattle.grep_matcher.specs.declared.byte_set.ByteSet.{ByteSet}
use Rattle.grep_regex.specs.Removed.{HasLost}
use Rattle.hir_tree.specs.Ranges.{IsWithin}

-- beside the bytes of a kind the first set holds what the second does beside those of another
abbrev pub IsSameWithout : ByteSet → ByteSet → (ℕ → Type 0) → (ℕ → Type 0) → Type 0
IsSameWithout first second Kind Other = (b : ℕ) → b < 256 → (IsTrue (is_in first b) × (Kind b → ⊥)) ↔ (IsTrue (is_in second b) × (Other b → ⊥))

-- where a set loses some of the bytes that are left to lose, the rest is left
pub one_kind_less : (old set new : ByteSet) (All Left Lost Rest : ℕ → Type 0)
    → IsSameWithout old set All Left → ((b : ℕ) → Left b ↔ (Lost b ⊎ Rest b)) → HasLost set new Lost → IsSameWithout old new All Rest
one_kind_less old set new All Left Lost Rest same split lost b small = (
  (λ h.
      let held = (same b small).0 h in
      ((lost b small).1 (held.0, λ gone. held.1 ((split b).1 (inl gone))), λ rest. held.1 ((split b).1 (inr rest)))),
  (λ h.
      let kept = (lost b small).0 h.0 in
      (same b small).1 (kept.0, λ left. ⊎_elim kept.1 h.1 ((split b).0 left))),
)

-- where the last of what is left is lost, all of the kind is lost
pub last_lost : (old set new : ByteSet) (All Left : ℕ → Type 0) → IsSameWithout old set All Left → HasLost set new Left → HasLost old new All
last_lost old set new All Left same lost b small = (
  (λ held. (same b small).1 ((lost b small).0 held)),
  (λ h. (lost b small).1 ((same b small).0 h)),
)

-- one kind after another
pub both_lost : (old set new : ByteSet) (Kind Other : ℕ → Type 0) → HasLost old set Kind → HasLost set new Other → HasLost old new (λ b. Kind b ⊎ Other b)
both_lost old set new Kind Other first second b small = (
  (λ held.
      let later = (second b small).0 held in let earlier = (first b small).0 later.0 in
      (earlier.0, λ either. ⊎_elim earlier.1 later.1 either)),
  (λ h. (second b small).1 ((first b small).1 (h.0, λ k. h.1 (inl k)), λ o. h.1 (inr o))),
)

-- the same kind in other words
pub same_lost : (old new : ByteSet) (Kind Other : ℕ → Type 0) → ((b : ℕ) → Kind b ↔ Other b) → HasLost old new Kind → HasLost old new Other
same_lost old new Kind Other same lost b small = (
  (λ held. let h = (lost b small).0 held in (h.0, λ o. h.1 ((same b).1 o))),
  (λ h. (lost b small).1 (h.0, λ k. h.1 ((same b).0 k))),
)

-- a test of the kind tells which bytes are lost
pub lost_where_tested : (old new : ByteSet) (Kind : ℕ → Type 0) (test : ℕ → Bool) → ((b : ℕ) → Decides (test b) (Kind b))
    → ((b : ℕ) → b < 256 → is_in new b ≡ (not (test b) && is_in old b)) → HasLost old new Kind
lost_where_tested old new Kind test decides is b small = cases (is_in new b) (is_in old b) (test b) (Kind b) (decides b) (is b small)
  where
    cases : (x y t : Bool) (K : Type 0) → Decides t K → x ≡ (not t && y) → (x ≡ true) ↔ ((y ≡ true) × (K → ⊥))
    cases x y true K tells e = ((λ h. let k : true ≡ false = sym h ∙ e in cc), (λ h. absurd (h.1 (tells.0 refl))))
    cases x y false K tells e = ((λ h. (sym e ∙ h, λ k. let no = tells.1 k in cc)), (λ h. e ∙ h.0))

-- one byte
pub byte_lost : (old new : ByteSet) (byte : ℕ) → ((b : ℕ) → b < 256 → is_in new b ≡ (not (b == byte) && is_in old b)) → HasLost old new (λ b. byte ≡ b)
byte_lost old new byte is = lost_where_tested old new (λ b. byte ≡ b) (λ b. b == byte) (λ b. (byte_test b, byte_tested b)) is
  where
    byte_test : (b : ℕ) → (b == byte) ≡ true → byte ≡ b
    byte_test b h = grind (arith, nat_tests)

    byte_tested : (b : ℕ) → byte ≡ b → (b == byte) ≡ true
    byte_tested b h = grind (arith, nat_tests)

-- the bytes from one to another
pub range_lost : (old new : ByteSet) (start end : ℕ) → ((b : ℕ) → b < 256 → is_in new b ≡ (not (nat_le start b && nat_le b end) && is_in old b))
    → HasLost old new (IsWithin (start, end))
range_lost old new start end is = lost_where_tested old new (IsWithin (start, end)) (λ b. nat_le start b && nat_le b end) (λ b. (range_test b, range_tested b)) is
  where
    range_test : (b : ℕ) → (nat_le start b && nat_le b end) ≡ true → IsWithin (start, end) b
    range_test b h = grind (arith, nat_tests)

    range_tested : (b : ℕ) → IsWithin (start, end) b → (nat_le start b && nat_le b end) ≡ true
    range_tested b h = grind (arith, nat_tests)

-- what a list holds is its first element or what the others hold
pub contains_first_or_rest : (x : ℕ) (rest : List ℕ) (b : ℕ) → Contains (x ∷ rest) b ↔ ((x ≡ b) ⊎ Contains rest b)
contains_first_or_rest x rest b = (
  (λ h. ⊎_elim (λ one. ⊎_elim (λ none. absurd (is_empty none)) (λ e. inl e) (Contains-push_cases [] x b one)) (λ other. inr other) (Contains-append_cases (x ∷ []) rest b h)),
  (λ h. ⊎_elim (λ (e : x ≡ b). subst (λ (y : ℕ). Contains (x ∷ rest) y) e (Contains-append_left (x ∷ []) rest x (Contains-push [] x))) (λ other. Contains-append_right (x ∷ []) rest b other) h),
)
  where
    is_empty : Contains [] b → ⊥
    is_empty h = omega (arith, h.1)

-- what is left of a list from a place on is the element there and what comes after it
pub drop_here : {A : Type 0} (xs : List A) (i : ℕ) (x : A) → slice_get xs i ≡ Some x → drop i xs ≡ x ∷ drop (i + 1) xs
drop_here xs i x found =
    let within : i < length xs = slice_get_within xs i x found in
    let same = get_or_from_slice_get xs i x x found in
    drop-cons xs i x within ∙ ap (λ y. y ∷ drop (suc i) xs) same ∙ ap (λ (n : ℕ). x ∷ drop n xs) (sym (add-one i))
