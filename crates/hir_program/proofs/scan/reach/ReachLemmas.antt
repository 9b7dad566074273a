-- A walk over spots that goes to each once.
use Rattle.std.proofs.Common.{◌≡◌, ℕ, ◌+◌, ◌*◌, ◌<◌, ◌≤◌, Bool, true, false, ◌⊎◌, inl, inr, List, [], ◌∷◌, ◌++◌, length, get_or, set, if◌then◌else◌, refl, sym, ap, ◌∙◌, subst, true≢false, arith, take, drop, length-append, get_or-set_same, get_or-set_other}
use Rattle.std.specs.List.{Contains, sum_by}
use Rattle.std.specs.Prelude.{Option}
use Rattle.std.proofs.lemmas.Bool.{cases_eq, cases_lt}
use Rattle.std.proofs.lemmas.Grind.{common_steps}
use Rattle.std.proofs.Math.ListN.{get_or-append}
use Rattle.std.proofs.lemmas.List.{get_or_default, get_or_past, get_or_push, length-set, set_past}
use Rattle.std.proofs.lemmas.List.Elements.{Contains-append_left, Contains-append_right, Contains-push_cases}
use Rattle.std.proofs.lemmas.List.Sums.{sum_by-set}
use Rattle.hir_tree.specs.declared.look.Look.{Look}
use Rattle.hir_program.specs.Program.{spot_at}
use Rattle.hir_program.specs.Masks.{ways_on, is_reached, new_ways, Asks, AllAsk, IsClosed}
use Rattle.hir_program.specs.declared.spot.Spot.{Spot}
use Rattle.hir_program.specs.declared.spot.Spot.TheVariants as spot

-- the spot was reached, or is on the stack
abbrev pub IsPending : List Bool → List ℕ → ℕ → Type 0
IsPending reached stack q = (is_reached reached q ≡ true) ⊎ Contains stack q

-- Where the walk begins, that is pending, and so is each spot to which one leads that was reached, unless it asks the look.
pub record Walks (spots : List Spot) (look : Option Look) (from : ℕ) (reached : List Bool) (stack : List ℕ) : Type 0 where
  pub room : length reached ≡ length spots
  pub first : IsPending reached stack from
  pub on : (q p : ℕ) → is_reached reached q ≡ true → Contains (ways_on (spot_at spots q)) p → Asks look (spot_at spots q) ⊎ IsPending reached stack p

not_contained : {A : Type 0} (x : A) → Contains [] x → ⊥
not_contained x h = absurd (omega (arith, h.1))

-- one more spot is marked, if it asks the look
pub AllAsk-push : (spots : List Spot) (look : Option Look) (marked : List Bool) (s : Spot) (b : Bool) (i : ℕ) → length marked ≡ i → i < length spots
    → s ≡ get_or spots i s → (b ≡ true → Asks look s) → AllAsk spots look marked → AllAsk spots look (marked ++ b ∷ [])
AllAsk-push spots look marked s b i count within there asks h q low is = elim (cases_lt q (length marked)) [
  | inl before ↦ h q before (sym (get_or-append marked (b ∷ []) true q before) ∙ is)
  | inr after ↦
      let here : length marked ≡ q = omega (arith, low, after, length-append marked (b ∷ [])) in
      let spot_is : s ≡ spot_at spots q =
      there ∙ get_or_default spots i s spot.Fail within ∙ ap (λ (k : ℕ). get_or spots k spot.Fail) (sym count ∙ here) in
      subst (Asks look) spot_is (asks (sym (get_or_push marked b true q here) ∙ is))
]

-- the walk at its begin
pub Walks-begin : (spots : List Spot) (look : Option Look) (from : ℕ) (reached : List Bool) → length reached ≡ length spots
    → AllAsk spots look reached → Walks spots look from reached (from ∷ [])
Walks-begin spots look from reached room ask = record {
  room = room;
  first = inr (0, omega arith, refl);
  on = λ q p r leads. elim (cases_lt q (length reached)) [
    | inl within ↦ inl (ask q within r)
    | inr past ↦ absurd (not_contained p (subst (λ s. Contains (ways_on s) p) (get_or_past spots q spot.Fail (omega arith)) leads))
  ];
}

-- what is reached now
reached_here : (reached : List Bool) (q : ℕ) → is_reached (set reached q true) q ≡ true
reached_here reached q = elim (cases_lt q (length reached)) [
  | inl within ↦ get_or-set_same reached q true true within
  | inr past ↦ ap (λ (xs : List Bool). get_or xs q true) (set_past reached q true past) ∙ get_or_past reached q true past
]

-- what was reached is still reached
reached_more : (reached : List Bool) (q p : ℕ) → is_reached reached p ≡ true → is_reached (set reached q true) p ≡ true
reached_more reached q p h = elim (cases_eq p q) [
  | inl here ↦ ap (λ (i : ℕ). get_or (set reached q true) i true) here ∙ reached_here reached q
  | inr other ↦ get_or-set_other reached q p true true other ∙ h
]

-- and nothing else
reached_only : (reached : List Bool) (q p : ℕ) → is_reached (set reached q true) p ≡ true → is_reached reached p ≡ false → p ≡ q
reached_only reached q p now before = elim (cases_eq p q) [
  | inl here ↦ here
  | inr other ↦ absurd (true≢false (sym now ∙ get_or-set_other reached q p true true other ∙ before))
]

new_if : (s : Spot) (b : Bool) → b ≡ false → (if b then [] else ways_on s) ≡ ways_on s
new_if s true e = absurd (true≢false e)
new_if s false e = refl

-- what was pending is still pending once a spot was taken from the stack and reached
still : (reached : List Bool) (rest more : List ℕ) (q p : ℕ) → IsPending reached (rest ++ q ∷ []) p → IsPending (set reached q true) (rest ++ more) p
still reached rest more q p (inl r) = inl (reached_more reached q p r)
still reached rest more q p (inr on) = elim (Contains-push_cases rest q p on) [
  | inl there ↦ inr (Contains-append_left rest more p there)
  | inr here ↦ inl (ap (λ (i : ℕ). get_or (set reached q true) i true) (sym here) ∙ reached_here reached q)
]

-- a spot more
pub Walks-next : (spots : List Spot) (look : Option Look) (from : ℕ) (reached : List Bool) (rest : List ℕ) (q : ℕ) → Walks spots look from reached (rest ++ q ∷ [])
    → Walks spots look from (set reached q true) (rest ++ new_ways reached q (spot_at spots q))
Walks-next spots look from reached rest q h = record {
  room = length-set reached q true ∙ h.room;
  first = still reached rest (new_ways reached q (spot_at spots q)) q from h.first;
  on = λ m p r leads. cases m p r leads (is_reached reached m) refl;
}
  where
    cases : (m p : ℕ) → is_reached (set reached q true) m ≡ true → Contains (ways_on (spot_at spots m)) p → (b : Bool) → is_reached reached m ≡ b
        → Asks look (spot_at spots m) ⊎ IsPending (set reached q true) (rest ++ new_ways reached q (spot_at spots q)) p
    cases m p r leads true before = elim (h.on m p before leads) [
      | inl asks ↦ inl asks
      | inr pending ↦ inr (still reached rest (new_ways reached q (spot_at spots q)) q p pending)
    ]
    cases m p r leads false before =
        let here : m ≡ q = reached_only reached q m r before in
        let new : is_reached reached q ≡ false = ap (is_reached reached) (sym here) ∙ before in
        let ways : ways_on (spot_at spots m) ≡ new_ways reached q (spot_at spots q) =
        ap (λ (i : ℕ). ways_on (spot_at spots i)) here ∙ sym (new_if (spot_at spots q) (is_reached reached q) new) in
        inr (inr (Contains-append_right rest (new_ways reached q (spot_at spots q)) p (subst (λ (xs : List ℕ). Contains xs p) ways leads)))

-- when the stack is empty
only_reached : (reached : List Bool) (p : ℕ) → IsPending reached [] p → is_reached reached p ≡ true
only_reached reached p (inl r) = r
only_reached reached p (inr on) = absurd (not_contained p on)

pub Walks-end : (spots : List Spot) (look : Option Look) (from : ℕ) (reached : List Bool) → Walks spots look from reached []
    → (is_reached reached from ≡ true) × IsClosed spots look reached
Walks-end spots look from reached h = (
  only_reached reached from h.first,
  λ q p r leads. elim (h.on q p r leads) [ inl asks ↦ inl asks | inr pending ↦ inr (only_reached reached p pending) ],
)

-- a spot that is still to be reached
abbrev unreached : Bool → ℕ
unreached true = 0
unreached false = 1

-- a number that falls with each spot that is taken from the stack
abbrev pub walk_weight : List Bool → List ℕ → ℕ
walk_weight reached stack = 2 * sum_by unreached reached + length stack

few_ways : (s : Spot) → length (ways_on s) ≤ 2
few_ways (spot.Bytes f set) = omega arith
few_ways (spot.Chars f set) = omega arith
few_ways (spot.Look l f) = omega arith
few_ways (spot.Jump f) = omega arith
few_ways (spot.Split a b) = omega arith
few_ways (spot.Open f) = omega arith
few_ways (spot.Close i f) = omega arith
few_ways spot.Fail = omega arith
few_ways spot.Match = omega arith

pub walk_weight-falls : (spots : List Spot) (reached : List Bool) (rest : List ℕ) (q : ℕ)
    → walk_weight (set reached q true) (rest ++ new_ways reached q (spot_at spots q)) < walk_weight reached (rest ++ q ∷ [])
walk_weight-falls spots reached rest q = cases (is_reached reached q) refl
  where
    cases : (b : Bool) → is_reached reached q ≡ b
        → 2 * sum_by unreached (set reached q true) + length (rest ++ (if b then [] else ways_on (spot_at spots q))) < 2 * sum_by unreached reached + length (rest ++ q ∷ [])
    cases true e = elim (cases_lt q (length reached)) [
      | inl within ↦
          let sums = sum_by-set unreached reached q true true within in
          let old : unreached (get_or reached q true) ≡ 0 = ap unreached e in
          omega (arith, sums, old, length-append rest [], length-append rest (q ∷ []))
      | inr past ↦
          let sums : sum_by unreached (set reached q true) ≡ sum_by unreached reached = ap (sum_by unreached) (set_past reached q true past) in
          omega (arith, sums, length-append rest [], length-append rest (q ∷ []))
    ]
    cases false e = elim (cases_lt q (length reached)) [
      | inl within ↦
          let sums = sum_by-set unreached reached q true true within in
          let old : unreached (get_or reached q true) ≡ 1 = ap unreached e in
          omega (arith, sums, old, few_ways (spot_at spots q), length-append rest (ways_on (spot_at spots q)), length-append rest (q ∷ []))
      | inr past ↦ absurd (true≢false (sym (get_or_past reached q true past) ∙ e))
    ]

-- a list that was lent and has kept its length
pub lent_back : {A : Type 0} (now old : List A) (n : ℕ) → n ≡ length old → length now ≡ length old → take n (now ++ drop (length now) old) ≡ now
lent_back now old n whole same = grind (arith, common_steps)

-- the walk once a spot was taken from the stack and visited
module _ (spots : List Spot) (look : Option Look) (from : ℕ) (reached : List Bool) (stack rest : List ℕ) (q : ℕ) (popped : stack ≡ rest ++ q ∷ [])
    (lent now : List Bool) (same : lent ≡ reached) (visited : now ≡ set lent q true) (next : List ℕ) (leads : next ≡ rest ++ new_ways lent q (spot_at spots q))
    (n : ℕ) (whole : n ≡ length reached) where
  back : take n (now ++ drop (length now) reached) ≡ set reached q true
  back =
      let is : now ≡ set reached q true = visited ∙ ap (λ (xs : List Bool). set xs q true) same in
      lent_back now reached n whole (ap length is ∙ length-set reached q true) ∙ is

  next_is : next ≡ rest ++ new_ways reached q (spot_at spots q)
  next_is = leads ∙ ap (λ (xs : List Bool). rest ++ new_ways xs q (spot_at spots q)) same

  pub Walks-visited : Walks spots look from reached stack → Walks spots look from (take n (now ++ drop (length now) reached)) next
  Walks-visited h =
      subst (λ (xs : List Bool). Walks spots look from xs next) (sym back)
      (subst (λ (ss : List ℕ). Walks spots look from (set reached q true) ss) (sym next_is)
      (Walks-next spots look from reached rest q (subst (Walks spots look from reached) popped h)))

  pub walk_weight-visited : walk_weight (take n (now ++ drop (length now) reached)) next < walk_weight reached stack
  walk_weight-visited =
      subst (λ (xs : List Bool). walk_weight xs next < walk_weight reached stack) (sym back)
      (subst (λ (ss : List ℕ). walk_weight (set reached q true) ss < walk_weight reached stack) (sym next_is)
      (subst (λ (ss : List ℕ). walk_weight (set reached q true) (rest ++ new_ways reached q (spot_at spots q)) < walk_weight reached ss) (sym popped) (walk_weight-falls spots reached rest q)))
