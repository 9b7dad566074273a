-- Ends of groups that were visited at a place: what follows them was visited too, or is tried next.
use Rattle.std.proofs.Common.{◌≡◌, ℕ, zero, suc, ◌+◌, ◌<◌, ◌≤◌, Bool, true, false, ◌⊎◌, inl, inr, List, [], ◌∷◌, if◌then◌else◌, refl, sym, ap, ◌∙◌, subst, true≢false, eq-eqb, arith}
use Rattle.std.specs.Prelude.{◌||◌, ◌&&◌, not}
use Rattle.std.proofs.lemmas.Bool.{and_parts, cases_lt, or_left, ne_eqb}
use Rattle.hir_tree.specs.Runs.{is_seen}
use Rattle.hir_core.specs.Pass.{fresh}
use Rattle.hir_program.specs.Program.{spot_at, is_close, is_unmarked, tie, Way, closed, gives, ClosesFall}
use Rattle.hir_program.specs.declared.spot.Spot.{Spot}
use Rattle.hir_program.specs.declared.spot.Spot.TheVariants as spot
use Rattle.hir_program.proofs.PlacedLemmas.{gives-close}
use Rattle.hir_program.proofs.EntryLemmas.{gives_seen}
use Rattle.hir_core.proofs.PruningLemmas.{mono}
use Rattle.hir_core.proofs.closure.ClosureLemmas.{Entry, Answered}

-- ---- spots that a test holds of

-- those below n
abbrev pub members_of : (ℕ → Bool) → ℕ → List ℕ
members_of test zero = []
members_of test (suc n) = if test n then n ∷ members_of test n else members_of test n

members_past : (test : ℕ → Bool) (n m : ℕ) → n ≤ m → is_seen m (members_of test n) ≡ false
members_past test zero m h = refl
members_past test (suc n) m h = cases (members_past test n m (omega arith)) (test n)
  where
    cases : is_seen m (members_of test n) ≡ false → (b : Bool) → is_seen m (if b then n ∷ members_of test n else members_of test n) ≡ false
    cases rest true = ap (λ b. b || is_seen m (members_of test n)) (ne_eqb n m (λ e. omega (arith, e))) ∙ rest
    cases rest false = rest

members_are : (test : ℕ → Bool) (n m : ℕ) → m < n → is_seen m (members_of test n) ≡ test m
members_are test zero m h = absurd (omega arith)
members_are test (suc n) m h =
    elim (cases_lt m n) [ inl less ↦ below less (members_are test n m less) (test n) | inr more ↦ here (omega arith) (test n) refl ]
  where
    below : m < n → is_seen m (members_of test n) ≡ test m → (b : Bool) → is_seen m (if b then n ∷ members_of test n else members_of test n) ≡ test m
    below less rest true = ap (λ b. b || is_seen m (members_of test n)) (ne_eqb n m (λ e. omega (arith, e))) ∙ rest
    below less rest false = rest

    here : n ≡ m → (b : Bool) → test n ≡ b → is_seen m (if b then n ∷ members_of test n else members_of test n) ≡ test m
    here same true v = or_left _ _ (eq-eqb n m same) ∙ sym (ap test (sym same) ∙ v)
    here same false v = members_past test n m (omega (arith, same)) ∙ sym (ap test (sym same) ∙ v)

-- a spot that was visited, and isn't the end of a group
abbrev pub is_own : List Spot → (ℕ → Bool) → ℕ → Bool
is_own spots visited q = visited q && not (is_close (spot_at spots q))

-- these are they
abbrev pub AreOwn : List Spot → (ℕ → Bool) → List ℕ → Type 0
AreOwn spots visited list = (q : ℕ) → is_seen q list ≡ is_own spots visited q

-- the spots below a number that none of them reaches
abbrev pub own_below : List Spot → (ℕ → Bool) → ℕ → List ℕ
own_below spots visited = members_of (is_own spots visited)

pub AreOwn-below : (spots : List Spot) (visited : ℕ → Bool) (n : ℕ) → ((q : ℕ) → n ≤ q → visited q ≡ false) → AreOwn spots visited (own_below spots visited n)
AreOwn-below spots visited n none q =
    elim (cases_lt q n) [
      | inl less ↦ members_are (is_own spots visited) n q less
      | inr more ↦ members_past (is_own spots visited) n q more ∙ sym (ap (λ b. b && not (is_close (spot_at spots q))) (none q more))
    ]

pub own_of : (spots : List Spot) (visited : ℕ → Bool) (list : List ℕ) → AreOwn spots visited list → (q : ℕ) → visited q ≡ true
    → is_close (spot_at spots q) ≡ false → is_seen q list ≡ true
own_of spots visited list are q v plain = are q ∙ ap (λ b. b && not (is_close (spot_at spots q))) v ∙ ap not plain

pub was_own : (spots : List Spot) (visited : ℕ → Bool) (list : List ℕ) → AreOwn spots visited list → (q : ℕ) → is_seen q list ≡ true → visited q ≡ true
was_own spots visited list are q seen = (and_parts (visited q) (not (is_close (spot_at spots q))) (sym (are q) ∙ seen)).0

-- ---- ends of groups

module _ (text : List ℕ) (spots : List Spot) (falls : ClosesFall spots) (at : ℕ) where
  -- Where the end of a group was visited, so was what follows it, or that is tried next; or else the end gives nothing, unless
  -- something before it does.
  abbrev pub Ends : (ℕ → Bool) → Bool → (ℕ → Type 0) → Type 0
  Ends visited done next =
      (q i f : ℕ) → spot_at spots q ≡ spot.Close i f → visited q ≡ true
      → (done ≡ true) ⊎ ((gives text spots q (fresh at) ≡ []) ⊎ (((visited f ≡ true) × ((spot_at spots f ≡ spot.Match) → ⊥)) ⊎ next f))

  -- an end gives nothing where what follows it gives nothing
  close_dead : (q i f : ℕ) (t : Way) → spot_at spots q ≡ spot.Close i f → gives text spots f t ≡ [] → gives text spots q t ≡ []
  close_dead q i f t k dead = gives-close text spots falls q i f t k ∙ mono text spots falls f t (closed i t) refl (λ m seen. seen) dead

  -- What was visited since is marked, what was tried next was visited, and what follows a new end is tried next.
  pub Ends-on : (visited visited' : ℕ → Bool) (done done' : Bool) (next next' : ℕ → Type 0)
      → ((q : ℕ) → visited q ≡ true → visited' q ≡ true) → (done ≡ true → done' ≡ true)
      → ((f : ℕ) → next f → (gives text spots f (fresh at) ≡ []) ⊎ (((visited' f ≡ true) × ((spot_at spots f ≡ spot.Match) → ⊥)) ⊎ next' f))
      → ((q i f : ℕ) → spot_at spots q ≡ spot.Close i f → visited' q ≡ true → visited q ≡ false → next' f)
      → Ends visited done next → Ends visited' done' next'
  Ends-on visited visited' done done' next next' stay up was_next new ends q i f k v' = cases (visited q) refl
    where
      cases : (b : Bool) → visited q ≡ b
          → (done' ≡ true) ⊎ ((gives text spots q (fresh at) ≡ []) ⊎ (((visited' f ≡ true) × ((spot_at spots f ≡ spot.Match) → ⊥)) ⊎ next' f))
      cases false v = inr (inr (inr (new q i f k v' v)))
      cases true v =
          elim (ends q i f k v) [
            | inl some ↦ inl (up some)
            | inr rest ↦ elim rest [
              | inl dead ↦ inr (inl dead)
              | inr went ↦ elim went [
                | inl was ↦ inr (inr (inl (stay f was.0, was.1)))
                | inr is_next ↦ elim (was_next f is_next) [
                  | inl dead ↦ inr (inl (close_dead q i f (fresh at) k dead))
                  | inr on ↦ inr (inr on)
                ]
              ]
            ]
          ]

  -- where all that was visited gives nothing, unless something before does
  pub Ends-spent : (visited : ℕ → Bool) (done : Bool) (next : ℕ → Type 0)
      → ((q : ℕ) → visited q ≡ true → (done ≡ true) ⊎ (gives text spots q (fresh at) ≡ [])) → Ends visited done next
  Ends-spent visited done next spent q i f k v = elim (spent q v) [ inl some ↦ inl some | inr dead ↦ inr (inl dead) ]

  module _ (visited : ℕ → Bool) (done : Bool) (next : ℕ → Type 0) (t : Way) (here : t.run.at ≡ at) (ends : Ends visited done next)
      (own : (q : ℕ) → visited q ≡ true → is_unmarked (spot_at spots q) ≡ false → (done ≡ true) ⊎ (gives text spots q t ≡ [])) where
    -- an end that was visited gives nothing more
    abbrev IsOver : ℕ → Type 0
    IsOver q =
        (i f : ℕ) → ((p : ℕ) → next p → q < tie (spot_at spots p) p) → spot_at spots q ≡ spot.Close i f → visited q ≡ true
        → (done ≡ true) ⊎ (gives text spots q t ≡ [])

    over-step : (q : ℕ) → ((p : ℕ) → p < q → IsOver p) → IsOver q
    over-step q lower i f other k v =
        elim (ends q i f k v) [
          | inl some ↦ inl some
          | inr rest ↦ elim rest [
            | inl dead ↦ inr (mono text spots falls q (fresh at) t (sym here) (λ m seen. absurd (true≢false (sym seen))) dead)
            | inr went ↦ elim went [
              | inl was ↦ elim (cases (spot_at spots f) refl was.0 was.1) [
                | inl some ↦ inl some
                | inr dead ↦ inr (close_dead q i f t k dead)
              ]
              | inr is_next ↦ absurd (let low = falls q i f k in let high = other f is_next in omega arith)
            ]
          ]
        ]
      where
        cases : (s : Spot) → spot_at spots f ≡ s → visited f ≡ true → ((spot_at spots f ≡ spot.Match) → ⊥) → (done ≡ true) ⊎ (gives text spots f t ≡ [])
        cases (spot.Close j g) e v m =
            let mine : tie (spot_at spots f) f ≡ f + 1 = ap (λ s. tie s f) e in
            let low : f < q = omega (arith, falls q i f k) in
            lower f low j g (λ p n. let high = other p n in omega arith) e v
        cases spot.Match e v m = absurd (m e)
        cases spot.Fail e v m = own f v (ap is_unmarked e)
        cases (spot.Bytes g set) e v m = own f v (ap is_unmarked e)
        cases (spot.Chars g set) e v m = own f v (ap is_unmarked e)
        cases (spot.Look l g) e v m = own f v (ap is_unmarked e)
        cases (spot.Jump g) e v m = own f v (ap is_unmarked e)
        cases (spot.Split a b) e v m = own f v (ap is_unmarked e)
        cases (spot.Open g) e v m = own f v (ap is_unmarked e)

    over-below : (n q : ℕ) → q < n → IsOver q
    over-below zero q less = absurd (omega arith)
    over-below (suc n) q less = over-step q (λ p low. over-below n p (omega arith))

    over : (q : ℕ) → IsOver q
    over q = over-below (suc q) q (omega arith)

  -- a spot whose marks are own
  pub own_plain : (s : Spot) → is_unmarked s ≡ false → is_close s ≡ false
  own_plain (spot.Close i f) plain = plain
  own_plain _ plain = refl

  -- an entry at an end that was visited gives nothing, unless something before it does
  pub ended-entry : (visited : ℕ → Bool) (list : List ℕ) (done : Bool) (next : ℕ → Type 0) (e : Entry) (i f : ℕ) → e.way.run.at ≡ at
      → AreOwn spots visited list → Answered text spots falls at list done e → Ends visited done next → ((p : ℕ) → next p → e.spot ≡ p)
      → spot_at spots e.spot ≡ spot.Close i f → visited e.spot ≡ true → (done ≡ true) ⊎ (gives text spots e.spot e.way ≡ [])
  ended-entry visited list done next e i f here are answered ends first k =
      over visited done next e.way here ends own e.spot i f above k
    where
      own : (q : ℕ) → visited q ≡ true → is_unmarked (spot_at spots q) ≡ false → (done ≡ true) ⊎ (gives text spots q e.way ≡ [])
      own q v plain =
          elim (answered q (own_of spots visited list are q v (own_plain (spot_at spots q) plain))) [
            | inl some ↦ inl some
            | inr rest ↦ elim rest [
              | inl seen ↦ inr (gives_seen text spots falls q (spot_at spots q) e.way refl plain seen)
              | inr dead ↦ inr dead
            ]
          ]

      above : (p : ℕ) → next p → e.spot < tie (spot_at spots p) p
      above p n =
          let mine : tie (spot_at spots e.spot) e.spot ≡ e.spot + 1 = ap (λ s. tie s e.spot) k in
          subst (λ x. e.spot < tie (spot_at spots x) x) (first p n) (omega arith)

  -- When nothing is left to be tried, all that was visited gives nothing, unless something before does.
  pub ended-all : (visited : ℕ → Bool) (list : List ℕ) (done : Bool) (next : ℕ → Type 0) → AreOwn spots visited list → Ends visited done next
      → ((p : ℕ) → next p → ⊥) → ((q : ℕ) → is_seen q list ≡ true → (done ≡ true) ⊎ (gives text spots q (fresh at) ≡ []))
      → (q : ℕ) → visited q ≡ true → (done ≡ true) ⊎ (gives text spots q (fresh at) ≡ [])
  ended-all visited list done next are ends none spent q v = cases (spot_at spots q) refl
    where
      plain : is_close (spot_at spots q) ≡ false → (done ≡ true) ⊎ (gives text spots q (fresh at) ≡ [])
      plain still = spent q (own_of spots visited list are q v still)

      cases : (s : Spot) → spot_at spots q ≡ s → (done ≡ true) ⊎ (gives text spots q (fresh at) ≡ [])
      cases (spot.Close i f) k =
          over visited done next (fresh at) refl ends
          (λ p was mark. spent p (own_of spots visited list are p was (own_plain (spot_at spots p) mark))) q i f (λ p n. absurd (none p n)) k v
      cases spot.Match k = plain (ap is_close k)
      cases spot.Fail k = plain (ap is_close k)
      cases (spot.Bytes f set) k = plain (ap is_close k)
      cases (spot.Chars f set) k = plain (ap is_close k)
      cases (spot.Look l f) k = plain (ap is_close k)
      cases (spot.Jump f) k = plain (ap is_close k)
      cases (spot.Split a b) k = plain (ap is_close k)
      cases (spot.Open f) k = plain (ap is_close k)
