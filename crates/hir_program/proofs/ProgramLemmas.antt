-- What a program gives, as a recursion without a bound.
use Rattle.std.proofs.Common.{◌≡◌, ℕ, zero, suc, ◌+◌, ◌-◌, ◌*◌, ◌<◌, ◌≤◌, Bool, true, false, cond, inl, inr, List, [], ◌∷◌, ◌++◌, length, Option, Some, None, if◌then◌else◌, refl, sym, ap, ap₂, ◌∙◌, eq-eqb, arith}
use Rattle.std.specs.Prelude.{◌||◌, option_map}
use Rattle.std.specs.List.{flat_map}
use Rattle.std.proofs.Math.Nat.{mul-le-mul_left}
use Rattle.std.proofs.Math.Bool.{false-or}
use Rattle.std.proofs.lemmas.Bool.{cases_lt, cond-false, or_left, ne_eqb}
use Rattle.std.proofs.lemmas.List.{get_or_past}
use Rattle.hir_tree.specs.Looks.{holds}
use Rattle.hir_tree.specs.Runs.{moved, mark, is_seen, byte_size, char_size, as_list, take_size}
use Rattle.hir_program.specs.Program.{spot_at, is_close, Way, way, marked, opened, closed, Gives, follow, visit_as, visit_spot, gives_within, unseen, tie, rank, gives, ClosesFall}
use Rattle.hir_program.specs.declared.spot.Spot.{Spot}
use Rattle.hir_program.specs.declared.spot.Spot.TheVariants as spot
use Rattle.hir_tree.proofs.RunsLemmas.{TakesWithin, byte_size-within, char_size-within}

-- at most all are unseen
pub unseen_le : (n : ℕ) (seen : List ℕ) → unseen n seen ≤ n
unseen_le zero seen = omega arith
unseen_le (suc n) seen = let h = unseen_le n seen in cases (is_seen n seen) h
  where
    cases : (b : Bool) → unseen n seen ≤ n → (if b then 0 else 1) + unseen n seen ≤ suc n
    cases true h = omega arith
    cases false h = omega arith

-- only q changes
seen_other : (n q : ℕ) (seen : List ℕ) → (q ≡ n → ⊥) → is_seen n (q ∷ seen) ≡ is_seen n seen
seen_other n q seen h = ap (λ b. b || is_seen n seen) (ne_eqb q n h) ∙ false-or _

pub unseen_kept : (n q : ℕ) (seen : List ℕ) → n ≤ q → unseen n (q ∷ seen) ≡ unseen n seen
unseen_kept zero q seen h = refl
unseen_kept (suc n) q seen h =
    ap₂ (λ (b : Bool) (m : ℕ). (if b then 0 else 1) + m) (seen_other n q seen (λ e. omega arith)) (unseen_kept n q seen (omega arith))

pub unseen_less : (n q : ℕ) (seen : List ℕ) → q < n → is_seen q seen ≡ false → unseen n (q ∷ seen) + 1 ≡ unseen n seen
unseen_less zero q seen h e = absurd (omega arith)
unseen_less (suc n) q seen h e =
    elim (cases_lt q n) [
      | inl below ↦
          let rest = unseen_less n q seen below e in
          let same : is_seen n (q ∷ seen) ≡ is_seen n seen = seen_other n q seen (λ e. omega arith) in
          let bit : ℕ = if is_seen n seen then 0 else 1 in
          ap (λ (b : Bool). (if b then 0 else 1) + unseen n (q ∷ seen) + 1) same ∙ (let goal : bit + unseen n (q ∷ seen) + 1 ≡ bit + unseen n seen = omega arith in goal)
      | inr above ↦
          let here : q ≡ n = omega arith in
          last here
    ]
  where
    last : q ≡ n → unseen (suc n) (q ∷ seen) + 1 ≡ unseen (suc n) seen
    last here =
        let now : is_seen n (q ∷ seen) ≡ true = or_left _ _ (eq-eqb q n here) in
        let before : is_seen n seen ≡ false = ap (λ m. is_seen m seen) (sym here) ∙ e in
        let rest : unseen n (q ∷ seen) ≡ unseen n seen = unseen_kept n q seen (omega arith) in
        rw (now, before, rest) (omega arith)

-- the spot, unless the place is past the end
pub not_fail : (spots : List Spot) (q : ℕ) (s : Spot) → spot_at spots q ≡ s → (s ≡ spot.Fail → ⊥) → q < length spots
not_fail spots q s e other =
    elim (cases_lt q (length spots)) [ inl h ↦ h | inr h ↦ absurd (other (sym e ∙ get_or_past spots q spot.Fail h)) ]

tie_le : (spots : List Spot) (q : ℕ) → tie (spot_at spots q) q ≤ length spots
tie_le spots q = cases (spot_at spots q) refl
  where
    cases : (s : Spot) → spot_at spots q ≡ s → tie s q ≤ length spots
    cases (spot.Close i f) e = omega (arith, not_fail spots q _ e (λ h. cc))
    cases (spot.Bytes f set) e = omega arith
    cases (spot.Chars f set) e = omega arith
    cases (spot.Look l f) e = omega arith
    cases (spot.Jump f) e = omega arith
    cases (spot.Split a b) e = omega arith
    cases (spot.Open f) e = omega arith
    cases spot.Fail e = omega arith
    cases spot.Match e = omega arith

module _ (text : List ℕ) (spots : List Spot) where
  -- a spot that marks itself leads to lower rank at the same place
  rank_falls : (q p at : ℕ) (seen : List ℕ) → q < length spots → is_seen q seen ≡ false
      → (length text - at) * ((length spots + 1) * (length spots + 2)) + (unseen (length spots) (q ∷ seen) * (length spots + 1) + tie (spot_at spots p) p)
      < (length text - at) * ((length spots + 1) * (length spots + 2)) + (unseen (length spots) seen * (length spots + 1) + 0)
  rank_falls q p at seen lt new =
      let less = unseen_less (length spots) q seen lt new in
      let small = tie_le spots p in
      below (unseen (length spots) (q ∷ seen)) (unseen (length spots) seen) (length spots) _ _ less small
    where
      below : (u v n t k : ℕ) → u + 1 ≡ v → t ≤ n → k + (u * (n + 1) + t) < k + (v * (n + 1) + 0)
      below u v n t k e h = rw (sym e) (omega arith)

  -- a byte leads to lower rank, whatever is seen
  rank_falls_on : (p at k : ℕ) (seen later : List ℕ) → at < length text → 0 < k
      → (length text - (at + k)) * ((length spots + 1) * (length spots + 2)) + (unseen (length spots) later * (length spots + 1) + tie (spot_at spots p) p)
      < (length text - at) * ((length spots + 1) * (length spots + 2)) + (unseen (length spots) seen * (length spots + 1) + 0)
  rank_falls_on p at k seen later lt some =
      below (length text - (at + k)) (length text - at) (unseen (length spots) later) (length spots) _ _ (omega arith) (unseen_le (length spots) later) (tie_le spots p)
    where
      below : (a b u n t v : ℕ) → a < b → u ≤ n → t ≤ n → a * ((n + 1) * (n + 2)) + (u * (n + 1) + t) < b * ((n + 1) * (n + 2)) + (v * (n + 1) + 0)
      below a b u n t v h hu ht =
          let one : ((n + 1) * (n + 2)) * (a + 1) ≤ ((n + 1) * (n + 2)) * b = mul-le-mul_left _ h2 in
          let two : (n + 1) * u ≤ (n + 1) * n = mul-le-mul_left _ hu in
          omega arith
        where
          h2 : a + 1 ≤ b
          h2 = omega arith

  untied : (q : ℕ) (s : Spot) → spot_at spots q ≡ s → is_close s ≡ false → tie (spot_at spots q) q ≡ 0
  untied q s e plain = ap (λ x. tie x q) e ∙ cond-false _ _ _ plain

  -- a spot that marks itself, or takes a byte, or ends a group, leads to lower rank
  pub rank-marked : (q p : ℕ) (s : Spot) (t u : Way) → spot_at spots q ≡ s → is_close s ≡ false → (s ≡ spot.Fail → ⊥) → is_seen q t.run.seen ≡ false
      → u.run.at ≡ t.run.at → u.run.seen ≡ q ∷ t.run.seen → rank text spots p u < rank text spots q t
  unfolding rank
  rank-marked q p s t u e plain other new at seen =
      rw (at, seen, untied q s e plain) (rank_falls q p t.run.at t.run.seen (not_fail spots q s e other) new)

  pub rank-moved : (q p k : ℕ) (s : Spot) (t u : Way) → spot_at spots q ≡ s → is_close s ≡ false → (0 < k) × (t.run.at + k ≤ length text)
      → u.run.at ≡ t.run.at + k → rank text spots p u < rank text spots q t
  unfolding rank
  rank-moved q p k s t u e plain within at =
      rw (at, untied q s e plain) (rank_falls_on p t.run.at k t.run.seen u.run.seen (omega arith) (omega arith))

  pub rank-closed : ClosesFall spots → (q i f : ℕ) (t u : Way) → spot_at spots q ≡ spot.Close i f → u.run.at ≡ t.run.at → u.run.seen ≡ t.run.seen
      → rank text spots f u < rank text spots q t
  unfolding rank
  rank-closed falls q i f t u e at seen =
      let low = falls q i f e in
      let mine : tie (spot_at spots q) q ≡ q + 1 = ap (λ x. tie x q) e in
      rw (at, seen, mine) (omega (arith, low))

  -- what a visit gives depends only on what lower ranks give
  pub visit-below : ClosesFall spots → (g h : Gives) (q : ℕ) (t : Way)
      → ((p : ℕ) (u : Way) → rank text spots p u < rank text spots q t → g p u ≡ h p u)
      → visit_spot text spots g q t ≡ visit_spot text spots h q t
  unfolding rank
  visit-below falls g h q t same = cases (spot_at spots q) refl
    where
      lower : (s : Spot) → spot_at spots q ≡ s → is_close s ≡ false → (s ≡ spot.Fail → ⊥) → is_seen q t.run.seen ≡ false
          → (p : ℕ) (u : Way) → u.run.at ≡ t.run.at → u.run.seen ≡ q ∷ t.run.seen → g p u ≡ h p u
      lower s e plain other new p u at seen =
          same p u (rw (at, seen, untied q s e plain) (rank_falls q p t.run.at t.run.seen (not_fail spots q s e other) new))

      seen_or : (s : Spot) → ((is_seen q t.run.seen ≡ false) → follow text spots g s (marked q t) ≡ follow text spots h s (marked q t))
          → (b : Bool) → is_seen q t.run.seen ≡ b
          → cond b [] (follow text spots g s (marked q t)) ≡ cond b [] (follow text spots h s (marked q t))
      seen_or s k true e = refl
      seen_or s k false e = k e

      take : (size : ℕ → Option ℕ) → TakesWithin text size → (f : ℕ) → tie (spot_at spots q) q ≡ 0
          → flat_map (λ r. g f (way t.starts r)) (take_size size (mark q t.run)) ≡ flat_map (λ r. h f (way t.starts r)) (take_size size (mark q t.run))
      take size within f untie = taken (size t.run.at) refl
        where
          taken : (o : Option ℕ) → size t.run.at ≡ o
              → flat_map (λ r. g f (way t.starts r)) (as_list (option_map (λ k. moved k (mark q t.run)) o))
              ≡ flat_map (λ r. h f (way t.starts r)) (as_list (option_map (λ k. moved k (mark q t.run)) o))
          taken None e = refl
          taken (Some k) e =
              let b : (0 < k) × (t.run.at + k ≤ length text) = within t.run.at k e in
              ap (λ xs. xs ++ []) (same f (way t.starts (moved k (mark q t.run))) (rw untie (rank_falls_on f t.run.at k t.run.seen [] (omega arith) (omega arith))))

      cases : (s : Spot) → spot_at spots q ≡ s → visit_as text spots g s q t ≡ visit_as text spots h s q t
      cases (spot.Close i f) e =
          let low = falls q i f e in
          let mine : tie (spot_at spots q) q ≡ q + 1 = ap (λ x. tie x q) e in
          same f (closed i t) (rw mine (omega (arith, low)))
      cases (spot.Bytes f set) e = seen_or (spot.Bytes f set) (λ new. take (byte_size set text) (byte_size-within set text) f (untied q _ e refl)) _ refl
      cases (spot.Chars f set) e =
          seen_or (spot.Chars f set) (λ new. take (char_size set text) (char_size-within set text) f (untied q _ e refl)) _ refl
      cases (spot.Look l f) e =
          seen_or (spot.Look l f) (λ new. ap (λ xs. cond (holds l text t.run.at) xs []) (lower _ e refl (λ x. cc) new f (marked q t) refl refl)) _ refl
      cases (spot.Jump f) e = seen_or (spot.Jump f) (λ new. lower _ e refl (λ x. cc) new f (marked q t) refl refl) _ refl
      cases (spot.Split a b) e =
          seen_or (spot.Split a b)
          (λ new. ap₂ (λ xs ys. xs ++ ys) (lower _ e refl (λ x. cc) new a (marked q t) refl refl) (lower _ e refl (λ x. cc) new b (marked q t) refl refl)) _ refl
      cases (spot.Open f) e = seen_or (spot.Open f) (λ new. lower _ e refl (λ x. cc) new f (opened (marked q t)) refl refl) _ refl
      cases spot.Fail e = refl
      cases spot.Match e = refl

  -- a bound above the rank doesn't matter
  pub gives-within : ClosesFall spots → (m n q : ℕ) (t : Way) → rank text spots q t < m → rank text spots q t < n
      → gives_within text spots m q t ≡ gives_within text spots n q t
  unfolding gives_within
  gives-within falls zero n q t lm ln = absurd (omega arith)
  gives-within falls (suc m) zero q t lm ln = absurd (omega arith)
  gives-within falls (suc m) (suc n) q t lm ln =
      visit-below falls (gives_within text spots m) (gives_within text spots n) q t
      (λ p u less. gives-within falls m n p u (omega arith) (omega arith))

  -- what a spot gives is what a visit gives
  pub gives-eq : ClosesFall spots → (q : ℕ) (t : Way) → gives text spots q t ≡ visit_spot text spots (gives text spots) q t
  unfolding gives gives_within
  gives-eq falls q t =
      visit-below falls (gives_within text spots (rank text spots q t)) (gives text spots) q t
      (λ p u less. gives-within falls (rank text spots q t) (suc (rank text spots p u)) p u less (omega arith))
