-- What follows from where a core stands in a program.
use Rattle.std.proofs.Common.{◌≡◌, ℕ, ◌+◌, ◌<◌, ◌≤◌, Bool, true, false, ◌⊎◌, inl, inr, List, length, true≢false, if◌then◌else◌, refl, sym, ap, ◌∙◌, arith}
use Rattle.std.proofs.lemmas.Bool.{cases_lt}
use Rattle.std.proofs.lemmas.List.{get_or_past}
use Rattle.hir_tree.specs.Core.{Core, empty, byte_in, char_in, look, group, pair, choice, none, plus, numbers}
use Rattle.hir_program.specs.Program.{spot_at, is_close, tie, ClosesFall, Placed}
use Rattle.hir_program.specs.declared.spot.Spot.{Spot}
use Rattle.hir_program.specs.declared.spot.Spot.TheVariants as spot

-- n spots from q on are the same
abbrev pub Same : List Spot → List Spot → ℕ → ℕ → Type 0
Same old new q n = (p : ℕ) → q ≤ p → p < q + n → spot_at new p ≡ spot_at old p

-- where its spots are the same, a core stands in one program as in the other
pub Placed-same : (old new : List Spot) (core : Core) (n f : ℕ) → Same old new n (numbers core) → Placed old n f core → Placed new n f core
Placed-same old new empty n f same p = same n (omega arith) (omega arith) ∙ p
Placed-same old new (byte_in set) n f same p = same n (omega arith) (omega arith) ∙ p
Placed-same old new (char_in set) n f same p = same n (omega arith) (omega arith) ∙ p
Placed-same old new (look l) n f same p = same n (omega arith) (omega arith) ∙ p
Placed-same old new (group i a) n f same p = (
  same n (omega arith) (omega arith) ∙ p.0,
  same (n + 1) (omega arith) (omega arith) ∙ p.1,
  Placed-same old new a (n + 2) (n + 1) (λ q lo hi. same q (omega arith) (omega arith)) p.2,
)
Placed-same old new (pair a b) n f same p = (
  same n (omega arith) (omega arith) ∙ p.0,
  Placed-same old new a (n + 1) (n + 1 + numbers a) (λ q lo hi. same q (omega arith) (omega arith)) p.1,
  Placed-same old new b (n + 1 + numbers a) f (λ q lo hi. same q (omega arith) (omega arith)) p.2,
)
Placed-same old new (choice a b) n f same p = (
  same n (omega arith) (omega arith) ∙ p.0,
  Placed-same old new a (n + 1) f (λ q lo hi. same q (omega arith) (omega arith)) p.1,
  Placed-same old new b (n + 1 + numbers a) f (λ q lo hi. same q (omega arith) (omega arith)) p.2,
)
Placed-same old new none n f same p = same n (omega arith) (omega arith) ∙ p
Placed-same old new (plus greedy a) n f same p = (
  same n (omega arith) (omega arith) ∙ p.0,
  same (n + 1) (omega arith) (omega arith) ∙ p.1,
  Placed-same old new a (n + 2) (n + 1) (λ q lo hi. same q (omega arith) (omega arith)) p.2,
)

-- the first spot of a core isn't the end of a group
pub entry_open : (spots : List Spot) (core : Core) (n f : ℕ) → Placed spots n f core → is_close (spot_at spots n) ≡ false
entry_open spots empty n f p = ap is_close p
entry_open spots (byte_in set) n f p = ap is_close p
entry_open spots (char_in set) n f p = ap is_close p
entry_open spots (look l) n f p = ap is_close p
entry_open spots (group i a) n f p = ap is_close p.0
entry_open spots (pair a b) n f p = ap is_close p.0
entry_open spots (choice a b) n f p = ap is_close p.0
entry_open spots none n f p = ap is_close p
entry_open spots (plus greedy a) n f p = ap is_close p.0

no_tie : (s : Spot) (q k : ℕ) → is_close s ≡ false → tie s q ≤ k
no_tie s q k e = rw e (omega arith)

again_open : (greedy : Bool) (a b : ℕ) → is_close (if greedy then spot.Split a b else spot.Split b a) ≡ false
again_open true a b = refl
again_open false a b = refl

-- each end of a group among these leads to f, or falls
abbrev pub FallsBut : List Spot → ℕ → ℕ → ℕ → Type 0
FallsBut spots n k f = (q i g : ℕ) → n ≤ q → q < n + k → spot_at spots q ≡ spot.Close i g → (g ≡ f) ⊎ (tie (spot_at spots g) g ≤ q)

FallsBut-one : (spots : List Spot) (n f : ℕ) → is_close (spot_at spots n) ≡ false → FallsBut spots n 1 f
FallsBut-one spots n f e q i g lo hi is =
    let here : n ≡ q = omega arith in
    absurd (true≢false (sym (ap is_close is) ∙ ap (λ m. is_close (spot_at spots m)) (sym here) ∙ e))

-- two stretches, the first of which leads to g
FallsBut-join : (spots : List Spot) (n j k t f g : ℕ) → t ≡ j + k → FallsBut spots n j g → FallsBut spots (n + j) k f
    → (g ≡ f) ⊎ ((q : ℕ) → n ≤ q → tie (spot_at spots g) g ≤ q) → FallsBut spots n t f
FallsBut-join spots n j k t f g sum one two lead q i h lo hi is =
    elim (cases_lt q (n + j)) [
      | inl low ↦ elim (one q i h lo low is) [
        | inl same ↦ elim lead [ inl e ↦ inl (same ∙ e) | inr falls ↦ inr (rw same (falls q lo)) ]
        | inr falls ↦ inr falls
      ]
      | inr high ↦ two q i h high (omega arith) is
    ]

close_to : (s : Spot) (i j f g : ℕ) → s ≡ spot.Close i f → s ≡ spot.Close j g → g ≡ f
close_to s i j f g e h = cc

pub placed-falls : (spots : List Spot) (core : Core) (n f : ℕ) → Placed spots n f core → FallsBut spots n (numbers core) f
placed-falls spots empty n f p = FallsBut-one spots n f (ap is_close p)
placed-falls spots (byte_in set) n f p = FallsBut-one spots n f (ap is_close p)
placed-falls spots (char_in set) n f p = FallsBut-one spots n f (ap is_close p)
placed-falls spots (look l) n f p = FallsBut-one spots n f (ap is_close p)
placed-falls spots (group i a) n f p =
    λ q j g lo hi is.
    elim (cases_lt q (n + 2)) [
      | inl low ↦ elim (cases_lt q (n + 1)) [
        | inl first ↦
            let here : n ≡ q = omega arith in
            absurd (true≢false (sym (ap is_close is) ∙ ap (λ m. is_close (spot_at spots m)) (sym here) ∙ ap is_close p.0))
        | inr second ↦
            let here : q ≡ n + 1 = omega arith in
            inl (close_to (spot_at spots q) i j f g (ap (spot_at spots) here ∙ p.1) is)
      ]
      | inr high ↦ elim (placed-falls spots a (n + 2) (n + 1) p.2 q j g high (omega arith) is) [
        | inl same ↦
            let bound : tie (spot_at spots (n + 1)) (n + 1) ≡ n + 1 + 1 = ap (λ s. tie s (n + 1)) p.1 in
            inr (rw (same, bound) (omega arith))
        | inr falls ↦ inr falls
      ]
    ]
placed-falls spots (pair a b) n f p =
    let m : ℕ = n + 1 + numbers a in
    let rest = FallsBut-join spots (n + 1) (numbers a) (numbers b) (numbers a + numbers b) f m refl (placed-falls spots a (n + 1) m p.1) (placed-falls spots b m f p.2)
    (inr (λ q lo. no_tie (spot_at spots m) m q (entry_open spots b m f p.2))) in
    FallsBut-join spots n 1 (numbers a + numbers b) (1 + numbers a + numbers b) f f (omega arith) (FallsBut-one spots n f (ap is_close p.0)) rest (inl refl)
placed-falls spots (choice a b) n f p =
    let m : ℕ = n + 1 + numbers a in
    let rest = FallsBut-join spots (n + 1) (numbers a) (numbers b) (numbers a + numbers b) f f refl (placed-falls spots a (n + 1) f p.1) (placed-falls spots b m f p.2) (inl refl) in
    FallsBut-join spots n 1 (numbers a + numbers b) (1 + numbers a + numbers b) f f (omega arith) (FallsBut-one spots n f (ap is_close p.0)) rest (inl refl)
placed-falls spots none n f p = FallsBut-one spots n f (ap is_close p)
placed-falls spots (plus greedy a) n f p =
    λ q j g lo hi is.
    elim (cases_lt q (n + 2)) [
      | inl low ↦ elim (cases_lt q (n + 1)) [
        | inl first ↦
            let here : n ≡ q = omega arith in
            absurd (true≢false (sym (ap is_close is) ∙ ap (λ m. is_close (spot_at spots m)) (sym here) ∙ ap is_close p.0))
        | inr second ↦
            let here : n + 1 ≡ q = omega arith in
            absurd (true≢false (sym (ap is_close is) ∙ ap (λ m. is_close (spot_at spots m)) (sym here) ∙ ap is_close p.1 ∙ again_open greedy (n + 2) f))
      ]
      | inr high ↦ elim (placed-falls spots a (n + 2) (n + 1) p.2 q j g high (omega arith) is) [
        | inl same ↦ inr (rw same (no_tie (spot_at spots (n + 1)) (n + 1) q (ap is_close p.1 ∙ again_open greedy (n + 2) f)))
        | inr falls ↦ inr falls
      ]
    ]

-- in a whole program the ends of groups fall
pub program-falls : (spots : List Spot) (core : Core) → length spots ≡ numbers core + 1 → Placed spots 0 (numbers core) core
    → spot_at spots (numbers core) ≡ spot.Match → ClosesFall spots
program-falls spots core len p end q i g is =
    elim (cases_lt q (numbers core)) [
      | inl low ↦ elim (placed-falls spots core 0 (numbers core) p q i g (omega arith) (omega arith) is) [
        | inl same ↦ rw same (no_tie (spot_at spots (numbers core)) (numbers core) q (ap is_close end))
        | inr falls ↦ falls
      ]
      | inr high ↦ elim (cases_lt (numbers core) q) [
        | inl past ↦ absurd (true≢false (sym (ap is_close is) ∙ ap is_close (get_or_past spots q spot.Fail (omega arith))))
        | inr here ↦
            let same : numbers core ≡ q = omega arith in
            absurd (true≢false (sym (ap is_close is) ∙ ap (λ m. is_close (spot_at spots m)) (sym same) ∙ ap is_close end))
      ]
    ]
