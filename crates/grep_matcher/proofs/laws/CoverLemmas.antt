-- The fair cover, by recursion on its spans.
use Rattle.std.proofs.Common.{◌≡◌, ℕ, suc, ◌+◌, ◌<◌, ◌≤◌, ◌⊎◌, inl, inr, zero, List, [], ◌∷◌, arith, refl, sym, subst, Option, Some, Contains, length}
use Rattle.std.specs.List.{AllByRecursion}
use Rattle.std.proofs.lemmas.List.Elements.{recursion_from_All, All-from_recursion}
use Rattle.std.proofs.lemmas.Bool.{cases_lt, cases_eq}
use Rattle.grep_matcher.specs.Span.{Span, same_span}
use Rattle.grep_matcher.specs.Cover.{IsLawful, MayFollow, IsInTurn, AccountsFor, IsFairCover, NoneBetween, prefers}

-- what the matcher prefers, but for the empty span at the end of the one before
abbrev pub after_span : (ℕ → ℕ → Type 0) → ℕ → ℕ → ℕ → Type 0
after_span P last place end = P place end × (place ≡ last → end ≡ last → ⊥)

-- the fair cover from a place on: up to the first span nothing is preferred, and the rest begins at its end
abbrev pub Chain : (ℕ → ℕ → Type 0) → ℕ → ℕ → List Span → Type 0
Chain P n at [] = NoneBetween P at (n + 1)
Chain P n at (x ∷ xs) = (at ≤ x.start) × (x.start ≤ n) × P x.start x.end × NoneBetween P at x.start × Chain (after_span P x.end) n x.end xs

abbrev make : ℕ → ℕ → Span
make s e = record { start = s; end = e }

pub chain_unique : (P : ℕ → ℕ → Type 0) → ((a b c : ℕ) → P a b → P a c → b ≡ c) → (n at : ℕ) (xs ys : List Span) → Chain P n at xs → Chain P n at ys → xs ≡ ys
chain_unique P one n at [] [] h k = refl
chain_unique P one n at [] (y ∷ ys) h k = absurd (h y.start y.end k.0 (omega arith) k.2)
chain_unique P one n at (x ∷ xs) [] h k = absurd (k x.start x.end h.0 (omega arith) h.2)
chain_unique P one n at (x ∷ xs) (y ∷ ys) h k =
    let below : x.start < y.start → ⊥ = λ lt. k.3 x.start x.end h.0 lt h.2 in
    let above : y.start < x.start → ⊥ = λ lt. h.3 y.start y.end k.0 lt k.2 in
    let starts : x.start ≡ y.start = omega arith in
    let ends : x.end ≡ y.end = one x.start x.end y.end h.2 (subst (λ (s : ℕ). P s y.end) (sym starts) k.2) in
    let rest : Chain (after_span P x.end) n x.end ys = subst (λ (e : ℕ). Chain (after_span P e) n e ys) (sym ends) k.4 in
    let tails : xs ≡ ys = chain_unique (after_span P x.end) (λ a b c p q. one a b c p.0 q.0) n x.end xs ys h.4 rest in
    let heads : x ≡ y = same_span x y starts ends in cc

-- a chain from a later place, before which nothing is preferred, under a choice that agrees from there on
pub chain_earlier : (P Q : ℕ → ℕ → Type 0) (n at from : ℕ) (xs : List Span) → from ≤ at → NoneBetween Q from at
    → ((place end : ℕ) → at ≤ place → P place end → Q place end) → ((place end : ℕ) → at ≤ place → Q place end → P place end)
    → ((place end : ℕ) → place ≤ n → P place end → place ≤ end)
    → Chain P n at xs → Chain Q n from xs
chain_earlier P Q n at from [] le none there back up h = λ place end l r q.
    elim (cases_lt place at) [ inl lt ↦ none place end l lt q | inr ge ↦ h place end ge r (back place end ge q) ]
chain_earlier P Q n at from (x ∷ xs) le none there back up h =
    let rise : x.start ≤ x.end = up x.start x.end h.1 h.2 in (
      omega arith,
      h.1,
      there x.start x.end h.0 h.2,
      λ place end l r q. elim (cases_lt place at) [ inl lt ↦ none place end l lt q | inr ge ↦ h.3 place end ge r (back place end ge q) ],
      chain_earlier (after_span P x.end) (after_span Q x.end) n x.end x.end xs (omega arith) (λ place end l r q. absurd (omega arith))
          (λ place end l p. (there place end (omega arith) p.0, p.1)) (λ place end l q. (back place end (omega arith) q.0, q.1))
          (λ place end l p. up place end l p.0) h.4,
    )

-- from the definition to the chain and back

abbrev Taken : List Span → ℕ → ℕ → Type 0
Taken [] place end = ⊥
Taken (x ∷ xs) place end = AccountsFor x place end ⊎ Taken xs place end

abbrev Good : (ℕ → ℕ → Type 0) → ℕ → ℕ → Span → Type 0
Good P at n x = (at ≤ x.start) × (x.start ≤ n) × P x.start x.end

both : (P Q R : Span → Type 0) → ((x : Span) → P x → Q x → R x) → (xs : List Span) → AllByRecursion P xs → AllByRecursion Q xs → AllByRecursion R xs
both P Q R f [] h k = tt
both P Q R f (x ∷ xs) h k = (f x h.0 k.0, both P Q R f xs h.1 k.1)

weaker : (P Q : Span → Type 0) → ((x : Span) → P x → Q x) → (xs : List Span) → AllByRecursion P xs → AllByRecursion Q xs
weaker P Q f [] h = tt
weaker P Q f (x ∷ xs) h = (f x h.0, weaker P Q f xs h.1)

abbrev Rises : Span → Type 0
Rises x = x.start ≤ x.end

abbrev Later : ℕ → Span → Type 0
Later last y = (last ≤ y.start) × (y.start ≡ last → y.start < y.end)

later : (x : Span) (xs : List Span) → IsInTurn (x ∷ xs) → AllByRecursion Rises xs → AllByRecursion (Later x.end) xs
later x [] turn rises = tt
later x (y ∷ ys) turn rises =
    let rise : y.start ≤ y.end = rises.0 in
    let first : MayFollow x y = turn.0 in
    (first, weaker (Later y.end) (Later x.end) (λ z h. (omega arith, λ e. absurd (omega (arith, first.1)))) ys (later y ys turn.1 rises.1))

not_before : (low : ℕ) (xs : List Span) (place end : ℕ) → AllByRecursion (λ y. low ≤ y.start) xs → AllByRecursion Rises xs → Taken xs place end → low ≤ place
not_before low [] place end after rises h = absurd h
not_before low (x ∷ xs) place end after rises (inl h) =
    let a : low ≤ x.start = after.0 in
    let b : x.start ≤ x.end = rises.0 in
    elim h [ inl e ↦ omega arith | inr r ↦ elim r [ inl w ↦ omega arith | inr w ↦ omega arith ] ]
not_before low (x ∷ xs) place end after rises (inr h) = not_before low xs place end after.1 rises.1 h

module _ (P : ℕ → ℕ → Type 0) (n : ℕ) where
  abbrev Lawful : Type 0
  Lawful = (place end : ℕ) → place ≤ n → P place end → (place ≤ end) × (end ≤ n)

  abbrev OneEnd : Type 0
  OneEnd = (a b c : ℕ) → P a b → P a c → b ≡ c

  abbrev Missed : ℕ → List Span → Type 0
  Missed at xs = (place end : ℕ) → at ≤ place → place ≤ n → P place end → Taken xs place end

after_one : (P : ℕ → ℕ → Type 0) (n last : ℕ) → OneEnd P n → OneEnd (after_span P last) n
after_one P n last one = λ a b c p q. one a b c p.0 q.0

after_lawful : (P : ℕ → ℕ → Type 0) (n last : ℕ) → Lawful P n → Lawful (after_span P last) n
after_lawful P n last lawful = λ place end l p. lawful place end l p.0

to_chain : (P : ℕ → ℕ → Type 0) (n at : ℕ) (xs : List Span) → Lawful P n → OneEnd P n → AllByRecursion (Good P at n) xs → IsInTurn xs → Missed P n at xs → Chain P n at xs
to_chain P n at [] lawful one good turn missed = λ place end l r p. missed place end l (omega arith) p
to_chain P n at (x ∷ xs) lawful one good turn missed =
    let here : Good P at n x = good.0 in
    let rise = lawful x.start x.end here.1 here.2 in
    let rises : AllByRecursion Rises xs = weaker (Good P at n) Rises (λ y g. (lawful y.start y.end g.1 g.2).0) xs good.1 in
    let late : AllByRecursion (Later x.end) xs = later x xs turn rises in
    let turns : IsInTurn xs = turn_tail x xs turn in
    let goods : AllByRecursion (Good (after_span P x.end) x.end n) xs = both (Good P at n) (Later x.end) (Good (after_span P x.end) x.end n) (λ y g l. (l.0, g.1, (g.2, λ s e. let lt : y.start < y.end = l.1 s in omega arith))) xs good.1 late in (
      here.0,
      here.1,
      here.2,
      λ place end l r p. elim (missed place end l (omega arith) p) [
        | inl h ↦ elim h [ inl e ↦ omega arith | inr w ↦ elim w [ inl v ↦ omega arith | inr v ↦ omega arith ] ]
        | inr h ↦ absurd (let low = not_before x.end xs place end (weaker (Later x.end) (λ y. x.end ≤ y.start) (λ y l'. l'.0) xs late) rises h in omega arith)
      ],
      to_chain (after_span P x.end) n x.end xs (after_lawful P n x.end lawful) (after_one P n x.end one) goods turns
          (λ place end l r p. elim (missed place end (omega arith) r p.0) [
            | inl h ↦ absurd (elim h [
              | inl e ↦ let same : end ≡ x.end = one x.start end x.end (subst (λ (s : ℕ). P s end) e p.0) here.2 in p.1 (omega arith) same
              | inr w ↦ elim w [ inl v ↦ omega arith | inr v ↦ p.1 v.0 (omega arith) ]
            ])
            | inr h ↦ h
          ]),
    )
  where
    turn_tail : (x : Span) (xs : List Span) → IsInTurn (x ∷ xs) → IsInTurn xs
    turn_tail x [] t = tt
    turn_tail x (y ∷ ys) t = t.1

-- where a place stands against a span
from_chain : (P : ℕ → ℕ → Type 0) (n at : ℕ) (xs : List Span) → Lawful P n → Chain P n at xs → AllByRecursion (Good P at n) xs × IsInTurn xs × Missed P n at xs
from_chain P n at [] lawful h = (tt, tt, λ place end l r p. h place end l (omega arith) p)
from_chain P n at (x ∷ xs) lawful h =
    let rise = lawful x.start x.end h.1 h.2 in
    let rest = from_chain (after_span P x.end) n x.end xs (after_lawful P n x.end lawful) h.4 in (
      ((h.0, h.1, h.2), weaker (Good (after_span P x.end) x.end n) (Good P at n) (λ y g. (omega arith, g.1, g.2.0)) xs rest.0),
      turn x xs rise.0 rest.0 rest.1 (λ y g. (lawful y.start y.end g.1 g.2.0).0),
      λ place end l r p. elim (cases_lt place x.start) [
        | inl lt ↦ absurd (h.3 place end l lt p)
        | inr ge ↦ elim (cases_eq place x.start) [
          | inl e ↦ inl (inl e)
          | inr ne ↦ elim (cases_lt place x.end) [
            | inl lt ↦ inl (inr (inl (omega arith, lt)))
            | inr ge_end ↦ elim (cases_eq place x.end) [
              | inl e ↦ elim (cases_eq end x.end) [
                | inl f ↦ inl (inr (inr (e, omega arith)))
                | inr f ↦ inr (rest.2 place end ge_end r (p, λ _ g. f g))
              ]
              | inr f ↦ inr (rest.2 place end ge_end r (p, λ g _. f g))
            ]
          ]
        ]
      ],
    )
  where
    turn : (x : Span) (xs : List Span) → x.start ≤ x.end → AllByRecursion (Good (after_span P x.end) x.end n) xs → IsInTurn xs → ((y : Span) → Good (after_span P x.end) x.end n y → y.start ≤ y.end) → IsInTurn (x ∷ xs)
    turn x [] rise goods t up = tt
    turn x (y ∷ ys) rise goods t up =
        let good : Good (after_span P x.end) x.end n y = goods.0 in
        let r : y.start ≤ y.end = up y good in
        let not_empty : y.start ≡ x.end → y.end ≡ x.end → ⊥ = good.2.1 in
        ((good.0, λ e. elim (cases_lt y.start y.end) [ inl lt ↦ lt | inr ge ↦ absurd (not_empty e (omega arith)) ]), t)

-- membership by recursion
Contains-cons : (x : Span) (xs : List Span) (y : Span) → Contains (x ∷ xs) y → (x ≡ y) ⊎ Contains xs y
Contains-cons x xs y (zero, lt, is) = inl is
Contains-cons x xs y (suc k, lt, is) = inr (k, omega arith, is)

taken_from : (xs : List Span) (place end : ℕ) (y : Span) → Contains xs y → AccountsFor y place end → Taken xs place end
taken_from [] place end y (k, lt, is) a = absurd (omega arith)
taken_from (x ∷ xs) place end y h a = elim (Contains-cons x xs y h) [
  | inl e ↦ inl (subst (λ (z : Span). AccountsFor z place end) (sym e) a)
  | inr r ↦ inr (taken_from xs place end y r a)
]

taken_to : (xs : List Span) (place end : ℕ) → Taken xs place end → (y : Span) × Contains xs y × AccountsFor y place end
taken_to [] place end h = absurd h
taken_to (x ∷ xs) place end (inl h) = (x, (0, omega arith, refl), h)
taken_to (x ∷ xs) place end (inr h) = let r = taken_to xs place end h in (r.0, (suc r.1.0, omega arith, r.1.2), r.2)

pub chain_from_cover : (preferred : ℕ → Option ℕ) (at n : ℕ) (xs : List Span) → IsLawful preferred n → IsFairCover preferred at n xs → Chain (prefers preferred) n at xs
chain_from_cover preferred at n xs lawful h =
    to_chain (prefers preferred) n at xs lawful (λ a b c p q. cc) (recursion_from_All (Good (prefers preferred) at n) xs h.each_preferred) h.in_turn
    (λ place end l r p. let found = h.none_missed place end l r p in taken_from xs place end found.0 found.1 found.2)

pub cover_from_chain : (preferred : ℕ → Option ℕ) (at n : ℕ) (xs : List Span) → IsLawful preferred n → Chain (prefers preferred) n at xs → IsFairCover preferred at n xs
cover_from_chain preferred at n xs lawful h =
    let parts = from_chain (prefers preferred) n at xs lawful h in
    record {
      each_preferred = All-from_recursion (Good (prefers preferred) at n) xs parts.0;
      in_turn = parts.1;
      none_missed = λ place end l r p. taken_to xs place end (parts.2 place end l r p);
    }

pub fair_cover_unique : (preferred : ℕ → Option ℕ) (at n : ℕ) (xs ys : List Span) → IsLawful preferred n → IsFairCover preferred at n xs → IsFairCover preferred at n ys → xs ≡ ys
fair_cover_unique preferred at n xs ys lawful h k =
    chain_unique (prefers preferred) (λ a b c p q. cc) n at xs ys (chain_from_cover preferred at n xs lawful h) (chain_from_cover preferred at n ys lawful k)

-- the chain exists

abbrev pub Decides : (ℕ → ℕ → Type 0) → Type 0
Decides P = (place : ℕ) → ((end : ℕ) × P place end) ⊎ ((end : ℕ) → P place end → ⊥)

after_decides : (P : ℕ → ℕ → Type 0) (last : ℕ) → ((a b c : ℕ) → P a b → P a c → b ≡ c) → Decides P → Decides (after_span P last)
after_decides P last one dec place = elim (dec place) [
  | inl (e, p) ↦ elim (cases_eq place last) [
    | inl a ↦ elim (cases_eq e last) [
      | inl b ↦ inr (λ end q. q.1 a (let same : end ≡ e = one place end e q.0 p in omega arith))
      | inr b ↦ inl (e, (p, λ _ c. b c))
    ]
    | inr a ↦ inl (e, (p, λ c _. a c))
  ]
  | inr none ↦ inr (λ end q. none end q.0)
]

pub chain_exists : (fuel : ℕ) (P : ℕ → ℕ → Type 0) (n at : ℕ) → ((a b c : ℕ) → P a b → P a c → b ≡ c) → ((place end : ℕ) → place ≤ n → P place end → place ≤ end) → Decides P
    → n + 1 ≤ fuel + at → (xs : List Span) × Chain P n at xs
chain_exists zero P n at one up dec le = ([], λ place end l r p. absurd (omega arith))
chain_exists (suc k) P n at one up dec le = elim (cases_lt n at) [
  | inl over ↦ ([], λ place end l r p. absurd (omega arith))
  | inr in_range ↦ elim (dec at) [
    | inl (e, p) ↦
        let rise : at ≤ e = up at e in_range p in
        elim (cases_lt at e) [
          | inl lt ↦ let tail = chain_exists k (after_span P e) n e (after_one P n e one) (λ place end l q. up place end l q.0) (after_decides P e one dec) (omega arith) in
              (make at e ∷ tail.0, (omega arith, in_range, p, λ place end l r q. absurd (omega arith), tail.1))
          | inr ge ↦ let tail = chain_exists k (after_span P e) n (at + 1) (after_one P n e one) (λ place end l q. up place end l q.0) (after_decides P e one dec) (omega arith) in (
            make at e ∷ tail.0,
            (
              omega arith,
              in_range,
              p,
              λ place end l r q. absurd (omega arith),
              chain_earlier (after_span P e) (after_span P e) n (at + 1) e tail.0 (omega arith)
                  (λ place end l r q. let here : place ≡ at = omega arith in q.1 (omega arith) (let same : end ≡ e = one at end e (subst (λ (s : ℕ). P s end) here q.0) p in same))
                  (λ place end l q. q) (λ place end l q. q) (λ place end l q. up place end l q.0) tail.1,
            ),
          )
        ]
    | inr none ↦ let tail = chain_exists k P n (at + 1) one up dec (omega arith) in
        (tail.0, chain_earlier P P n (at + 1) at tail.0 (omega arith) (λ place end l r q. let here : place ≡ at = omega arith in none end (subst (λ (s : ℕ). P s end) here q)) (λ place end l q. q) (λ place end l q. q) up tail.1)
  ]
]

-- ---- how many spans a cover has

-- where every place that is preferred lies from `low` on, a chain to n has at most n + 1 - low spans
chain_short : (P : ℕ → ℕ → Type 0) → ((a b c : ℕ) → P a b → P a c → b ≡ c) → (n at low : ℕ) (xs : List Span) → ((place end : ℕ) → place ≤ n → P place end → place ≤ end)
    → low ≤ n + 1 → ((place end : ℕ) → at ≤ place → P place end → low ≤ place) → Chain P n at xs → length xs + low ≤ n + 1
chain_short P one n at low [] up within from h = omega arith
chain_short P one n at low (x ∷ xs) up within from h =
    let first : low ≤ x.start = from x.start x.end h.0 h.2 in
    let rise : x.start ≤ x.end = up x.start x.end h.1 h.2 in
    let rest : length xs + (x.start + 1) ≤ n + 1 = chain_short (after_span P x.end) (λ a b c p q. one a b c p.0 q.0) n x.end (x.start + 1) xs (λ place end l p. up place end l p.0) (omega arith) later h.4 in
    omega arith
  where
    later : (place end : ℕ) → x.end ≤ place → after_span P x.end place end → x.start + 1 ≤ place
    later place end l p = elim (cases_eq place x.start) [
      | inl same ↦
          let rise : x.start ≤ x.end = up x.start x.end h.1 h.2 in
          let here : place ≡ x.end = omega arith in
          absurd (p.1 here (one x.start end x.end (subst (λ (s : ℕ). P s end) same p.0) h.2))
      | inr other ↦ let rise : x.start ≤ x.end = up x.start x.end h.1 h.2 in omega arith
    ]

-- a fair cover of n bytes has at most n + 1 spans
pub cover_short : (preferred : ℕ → Option ℕ) (n : ℕ) (xs : List Span) → IsLawful preferred n → IsFairCover preferred 0 n xs → length xs ≤ n + 1
cover_short preferred n xs lawful cover =
    let short = chain_short (prefers preferred) (λ a b c p q. let k : preferred a ≡ Some b = p in let l : preferred a ≡ Some c = q in cc) n 0 0 xs (λ place end l p. (lawful place end l p).0) (omega arith) (λ place end l p. omega arith) (chain_from_cover preferred 0 n xs lawful cover) in
    omega arith
