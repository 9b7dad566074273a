-- Names that stand twice, one name more.
use Rattle.std.proofs.Common.{◌≡◌, ◌⊎◌, inl, inr, ◌↔◌, ℕ, Bool, true, false, cond, IsTrue, List, [], ◌∷◌, ◌++◌, refl, sym, ◌∙◌, true≢false}
use Rattle.std.specs.declared.cmp.Ordering.{Ordering}
use Rattle.std.specs.Ordering.{nat_cmp}
use Rattle.std.specs.Cmp.Lexicographic.{slice_cmp}
use Rattle.std.specs.BTreeMap.{is_at}
use Rattle.std.specs.BTreeSet.{BTreeSet, contains}
use Rattle.std.proofs.lemmas.Map.Text.{is_eq-slice_cmp}
use Rattle.std.proofs.lemmas.Slice.Eq.{bytes_eq-Decides}
use Rattle.pattern_core.specs.Answers.{IsAmong, HasOneTwice}

pub among_on : (name other : List ℕ) (names : List (List ℕ)) → IsAmong name (names ++ other ∷ []) → IsAmong name names ⊎ (name ≡ other)
among_on name other [] (inl e) = inr e
among_on name other [] (inr h) = absurd h
among_on name other (n ∷ ns) (inl e) = inl (inl e)
among_on name other (n ∷ ns) (inr h) = elim (among_on name other ns h) [ inl i ↦ inl (inr i) | inr e ↦ inr e ]

pub among_back : (name other : List ℕ) (names : List (List ℕ)) → IsAmong name names ⊎ (name ≡ other) → IsAmong name (names ++ other ∷ [])
among_back name other [] (inl h) = absurd h
among_back name other [] (inr e) = inl e
among_back name other (n ∷ ns) (inl (inl e)) = inl e
among_back name other (n ∷ ns) (inl (inr h)) = inr (among_back name other ns (inl h))
among_back name other (n ∷ ns) (inr e) = inr (among_back name other ns (inr e))

pub twice_on : (name : List ℕ) (names : List (List ℕ)) → HasOneTwice (names ++ name ∷ []) → HasOneTwice names ⊎ IsAmong name names
twice_on name [] (inl h) = absurd h
twice_on name [] (inr h) = absurd h
twice_on name (n ∷ ns) (inl h) = elim (among_on n name ns h) [ inl i ↦ inl (inl i) | inr e ↦ inr (inl (sym e)) ]
twice_on name (n ∷ ns) (inr h) = elim (twice_on name ns h) [ inl i ↦ inl (inr i) | inr i ↦ inr (inr i) ]

pub twice_back : (name : List ℕ) (names : List (List ℕ)) → HasOneTwice names ⊎ IsAmong name names → HasOneTwice (names ++ name ∷ [])
twice_back name [] (inl h) = absurd h
twice_back name [] (inr h) = absurd h
twice_back name (n ∷ ns) (inl (inl h)) = inl (among_back n name ns (inl h))
twice_back name (n ∷ ns) (inl (inr h)) = inr (twice_back name ns (inl h))
twice_back name (n ∷ ns) (inr (inl e)) = inl (among_back n name ns (inr (sym e)))
twice_back name (n ∷ ns) (inr (inr h)) = inr (twice_back name ns (inr h))

-- ---- a set of names

abbrev order : List ℕ → List ℕ → Ordering
order = slice_cmp nat_cmp

same_key : (key q : List ℕ) → is_at (order key) q ≡ true → key ≡ q
same_key key q h = (bytes_eq-Decides key q).0 (sym (is_eq-slice_cmp key q) ∙ h)

key_same : (key q : List ℕ) → key ≡ q → is_at (order key) q ≡ true
key_same key q e = is_eq-slice_cmp key q ∙ (bytes_eq-Decides key q).1 e

known_by : (old new : BTreeSet (List ℕ)) (key : List ℕ) (names : List (List ℕ)) (q : List ℕ) (b : Bool) → is_at (order key) q ≡ b
    → (IsTrue (contains order old q) ↔ IsAmong q names) → contains order new q ≡ cond b true (contains order old q)
    → IsTrue (contains order new q) ↔ IsAmong q (names ++ key ∷ [])
known_by old new key names q true e known now = (λ _. among_back q key names (inr (sym (same_key key q e))), λ _. now)
known_by old new key names q false e known now = (
  λ t. among_back q key names (inl (known.0 (sym now ∙ t))),
  λ among. elim (among_on q key names among) [
    | inl i ↦ now ∙ known.1 i
    | inr s ↦ absurd (true≢false (sym (key_same key q (sym s)) ∙ e))
  ],
)

-- one name more is known
pub known_more : (old new : BTreeSet (List ℕ)) (key : List ℕ) (names : List (List ℕ)) → ((q : List ℕ) → IsTrue (contains order old q) ↔ IsAmong q names)
    → ((q : List ℕ) → contains order new q ≡ cond (is_at (order key) q) true (contains order old q))
    → (q : List ℕ) → IsTrue (contains order new q) ↔ IsAmong q (names ++ key ∷ [])
known_more old new key names known now q = known_by old new key names q (is_at (order key) q) refl (known q) (now q)
