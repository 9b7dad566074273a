-- The entries of a stack by their places.
use Rattle.std.proofs.Common.{◌≡◌, ℕ, ◌<◌, ◌≤◌, Bool, List, [], ◌∷◌, ◌++◌, if◌then◌else◌, refl, sym, ap, ◌∙◌, eq-eqb, arith}
use Rattle.std.specs.Prelude.{◌==◌, nat_lt}
use Rattle.std.specs.List.{AllByRecursion}
use Rattle.std.proofs.lemmas.Bool.{le-ltb, lt-ltb, ne_eqb}
use Rattle.hir_core.proofs.closure.ClosureLemmas.{Entry}

-- where an entry is
abbrev pub place : Entry → ℕ
place e = e.way.run.at

-- the entries past a place
abbrev pub over : ℕ → List Entry → List Entry
over p [] = []
over p (e ∷ es) = if nat_lt p (place e) then e ∷ over p es else over p es

-- the entries at a place
abbrev pub level : ℕ → List Entry → List Entry
level p [] = []
level p (e ∷ es) = if place e == p then e ∷ level p es else level p es

-- no entry is past this place, nor past the one above it
abbrev pub Falling : ℕ → List Entry → Type 0
Falling top [] = Unit {0}
Falling top (e ∷ es) = (place e ≤ top) × Falling (place e) es

-- all are at this place
abbrev pub AllAt : ℕ → List Entry → Type 0
AllAt p es = AllByRecursion (λ (e : Entry). place e ≡ p) es

pub over_in : (p : ℕ) (e : Entry) (es : List Entry) → p < place e → over p (e ∷ es) ≡ e ∷ over p es
over_in p e es h = ap (λ (b : Bool). if b then e ∷ over p es else over p es) (lt-ltb p (place e) h)

pub over_out : (p : ℕ) (e : Entry) (es : List Entry) → place e ≤ p → over p (e ∷ es) ≡ over p es
over_out p e es h = ap (λ (b : Bool). if b then e ∷ over p es else over p es) (le-ltb p (place e) h)

pub level_in : (p : ℕ) (e : Entry) (es : List Entry) → place e ≡ p → level p (e ∷ es) ≡ e ∷ level p es
level_in p e es h = ap (λ (b : Bool). if b then e ∷ level p es else level p es) (eq-eqb (place e) p h)

pub level_out : (p : ℕ) (e : Entry) (es : List Entry) → (place e ≡ p → ⊥) → level p (e ∷ es) ≡ level p es
level_out p e es h = ap (λ (b : Bool). if b then e ∷ level p es else level p es) (ne_eqb (place e) p h)

-- none is past the highest
pub over_none : (p top : ℕ) (es : List Entry) → Falling top es → top ≤ p → over p es ≡ []
over_none p top [] h k = refl
over_none p top (e ∷ es) h k = over_out p e es (omega (arith, h.0)) ∙ over_none p (place e) es h.1 (omega (arith, h.0))

-- nor at a place past it
pub level_none : (p top : ℕ) (es : List Entry) → Falling top es → top < p → level p es ≡ []
level_none p top [] h k = refl
level_none p top (e ∷ es) h k = level_out p e es (λ same. omega (arith, h.0, same)) ∙ level_none p (place e) es h.1 (omega (arith, h.0))

-- entries of a place before others
module _ (p : ℕ) (es : List Entry) where
  pub over_more : (cs : List Entry) (at : ℕ) → AllAt at cs → p < at → over p (cs ++ es) ≡ cs ++ over p es
  over_more [] at h k = refl
  over_more (c ∷ cs) at h k = over_in p c (cs ++ es) (omega (arith, h.0)) ∙ ap (λ xs. c ∷ xs) (over_more cs at h.1 k)

  pub over_same : (cs : List Entry) (at : ℕ) → AllAt at cs → at ≤ p → over p (cs ++ es) ≡ over p es
  over_same [] at h k = refl
  over_same (c ∷ cs) at h k = over_out p c (cs ++ es) (omega (arith, h.0)) ∙ over_same cs at h.1 k

  pub level_more : (cs : List Entry) → AllAt p cs → level p (cs ++ es) ≡ cs ++ level p es
  level_more [] h = refl
  level_more (c ∷ cs) h = level_in p c (cs ++ es) h.0 ∙ ap (λ xs. c ∷ xs) (level_more cs h.1)

  pub level_same : (cs : List Entry) (at : ℕ) → AllAt at cs → (at ≡ p → ⊥) → level p (cs ++ es) ≡ level p es
  level_same [] at h k = refl
  level_same (c ∷ cs) at h k = level_out p c (cs ++ es) (λ same. k (sym h.0 ∙ same)) ∙ level_same cs at h.1 k

  pub falling_more : (cs : List Entry) (top : ℕ) → AllAt p cs → p ≤ top → Falling p es → Falling top (cs ++ es)
  falling_more [] top h k f = falling_up es f k
    where
      falling_up : (es : List Entry) → Falling p es → p ≤ top → Falling top es
      falling_up [] f k = tt
      falling_up (e ∷ es) f k = (omega (arith, f.0), f.1)
  falling_more (c ∷ cs) top h k f =
      let here : place c ≡ p = h.0 in (omega (arith, here), falling_more cs (place c) h.1 (omega (arith, here)) f)
