-- Visits that are counted.
use Rattle.std.proofs.Common.{◌≡◌, ℕ, zero, suc, ◌+◌, ◌-◌, ◌*◌, ◌≤◌, Bool, true, false, List, [], ◌∷◌, length, refl, sym, ap, ◌∙◌, arith, if◌then◌else◌}
use Rattle.std.specs.Prelude.{◌&&◌, not, slice_set, replicate}
use Rattle.sd_base.specs.Steps.{IsTicked, TicksAtMost}
use Rattle.sd_base.specs.declared.steps.Steps.{Steps}
use Rattle.sd_base.proofs.StepsLemmas.{ticked_none, ticked_add, ticked_as, at_most}
use Rattle.std.proofs.Math.Nat.{mul-le-mul_left}
use Rattle.std.proofs.lemmas.List.Sums.{sum_by-cons}
use Rattle.hir_program.specs.Program.{spot_at}
use Rattle.hir_core.specs.Pass.{was_visited, visiting, is_counted, visit_ticks, counted, counted_visits, CountsVisits}
use Rattle.hir_program.specs.declared.spot.Spot.{Spot}
use Rattle.hir_program.specs.declared.spot.Spot.TheVariants as spot

suc_len : (a b : ℕ) → suc a ≡ suc b → a ≡ b
suc_len a b e = omega arith

-- a visit more
visits_set : (spots : List Spot) (bits : List Bool) (q : ℕ) → length bits ≡ length spots
    → counted_visits spots (slice_set bits q true) ≡ counted_visits spots bits + visit_ticks (spot_at spots q) (was_visited bits q)
visits_set [] [] q e = refl
visits_set [] (b ∷ bits) q e = absurd (omega arith)
visits_set (s ∷ spots) [] q e = absurd (omega arith)
visits_set (s ∷ spots) (b ∷ bits) zero e = cases (is_counted s) b
  where
    cases : (c b : Bool) → (if c && true then 1 else 0) + counted_visits spots bits
        ≡ ((if c && b then 1 else 0) + counted_visits spots bits) + (if c && not b then 1 else 0)
    cases true true = omega arith
    cases true false = omega arith
    cases false true = omega arith
    cases false false = omega arith
visits_set (s ∷ spots) (b ∷ bits) (suc q) e = let rest = visits_set spots bits q (omega arith) in omega arith

pub visits-visiting : (spots : List Spot) (bits : List Bool) (q : ℕ) → length bits ≡ length spots
    → counted_visits spots (visiting (spot_at spots q) q bits) ≡ counted_visits spots bits + visit_ticks (spot_at spots q) (was_visited bits q)
visits-visiting spots bits q e = cases (spot_at spots q) refl
  where
    cases : (s : Spot) → spot_at spots q ≡ s → counted_visits spots (visiting s q bits) ≡ counted_visits spots bits + visit_ticks s (was_visited bits q)
    cases (spot.Close i f) k = visits_set spots bits q e ∙ ap (λ s. counted_visits spots bits + visit_ticks s (was_visited bits q)) k
    cases spot.Match k = omega arith
    cases (spot.Bytes f set) k = visits_set spots bits q e ∙ ap (λ s. counted_visits spots bits + visit_ticks s (was_visited bits q)) k
    cases (spot.Chars f set) k = visits_set spots bits q e ∙ ap (λ s. counted_visits spots bits + visit_ticks s (was_visited bits q)) k
    cases (spot.Look l f) k = visits_set spots bits q e ∙ ap (λ s. counted_visits spots bits + visit_ticks s (was_visited bits q)) k
    cases (spot.Jump f) k = visits_set spots bits q e ∙ ap (λ s. counted_visits spots bits + visit_ticks s (was_visited bits q)) k
    cases (spot.Split a b) k = visits_set spots bits q e ∙ ap (λ s. counted_visits spots bits + visit_ticks s (was_visited bits q)) k
    cases (spot.Open f) k = visits_set spots bits q e ∙ ap (λ s. counted_visits spots bits + visit_ticks s (was_visited bits q)) k
    cases spot.Fail k = visits_set spots bits q e ∙ ap (λ s. counted_visits spots bits + visit_ticks s (was_visited bits q)) k

-- no more visits than spots
pub visits-at_most : (spots : List Spot) (bits : List Bool) → counted_visits spots bits ≤ counted spots
visits-at_most [] bits = omega arith
visits-at_most (s ∷ spots) [] = omega arith
visits-at_most (s ∷ spots) (b ∷ bits) =
    rw (sum_by-cons (λ (s : Spot). if is_counted s then 1 else 0) s spots) (cases (is_counted s) b (visits-at_most spots bits))
  where
    cases : (c b : Bool) → counted_visits spots bits ≤ counted spots
        → (if c && b then 1 else 0) + counted_visits spots bits ≤ (if c then 1 else 0) + counted spots
    cases true true h = omega arith
    cases true false h = omega arith
    cases false b h = omega arith

-- at first none
pub visits-none : (spots : List Spot) (n : ℕ) → counted_visits spots (replicate n false) ≡ 0
visits-none [] n = refl
visits-none (s ∷ spots) zero = refl
visits-none (s ∷ spots) (suc n) = cases (is_counted s) (visits-none spots n)
  where
    cases : (c : Bool) → counted_visits spots (replicate n false) ≡ 0 → (if c && false then 1 else 0) + counted_visits spots (replicate n false) ≡ 0
    cases true h = omega arith
    cases false h = omega arith

module _ {L : Type 0} (noted : L → L) (spots : List Spot) where
  pub CountsVisits-none : (bits : List Bool) (steps : Steps L) → CountsVisits noted spots bits bits steps steps
  CountsVisits-none bits steps = record { taken = 0; more = omega arith; ticked = ticked_none noted steps }

  pub CountsVisits-add : (a b c : List Bool) (old mid new : Steps L) → CountsVisits noted spots a b old mid → CountsVisits noted spots b c mid new
      → CountsVisits noted spots a c old new
  CountsVisits-add a b c old mid new h k = record { taken = h.taken + k.taken; more = omega (arith, h.more, k.more); ticked = ticked_add h.ticked k.ticked }

  -- one turn
  pub CountsVisits-turn : (bits bits' : List Bool) (q : ℕ) (old new : Steps L) → length bits ≡ length spots → bits' ≡ visiting (spot_at spots q) q bits
      → IsTicked noted (visit_ticks (spot_at spots q) (was_visited bits q)) old new → CountsVisits noted spots bits bits' old new
  CountsVisits-turn bits bits' q old new room e ticked = record {
    taken = visit_ticks (spot_at spots q) (was_visited bits q);
    more = sym (ap (counted_visits spots) e ∙ visits-visiting spots bits q room);
    ticked = ticked;
  }

  -- a turn that comes to a match
  pub CountsVisits-match : (bits bits' : List Bool) (q : ℕ) (old new : Steps L) → bits' ≡ bits → spot_at spots q ≡ spot.Match
      → IsTicked noted (visit_ticks (spot_at spots q) (was_visited bits q)) old new → CountsVisits noted spots bits bits' old new
  CountsVisits-match bits bits' q old new e k ticked = record {
    taken = 0;
    more = let same = ap (counted_visits spots) e in omega arith;
    ticked = ticked_as (ap (λ s. visit_ticks s (was_visited bits q)) k) ticked;
  }

  -- at a place, where nothing was visited before
  pub CountsVisits-place : (n : ℕ) (unset bits : List Bool) (old new : Steps L) → unset ≡ replicate n false → CountsVisits noted spots unset bits old new
      → TicksAtMost noted (counted spots) old new
  CountsVisits-place n unset bits old new e h =
      at_most (omega (arith, h.more, ap (counted_visits spots) e, visits-none spots n, visits-at_most spots bits)) h.ticked

-- one place more
pub place_more : (at place n : ℕ) → at ≤ place → (place - at) * n + n ≤ (place + 1 - at) * n
place_more at place n h = let one : place + 1 - at ≡ (place - at) + 1 = omega arith in rw one (omega arith)

-- up to the end of the text there are no more places
pub all_places : (at place len n : ℕ) → place ≤ len + 1 → (place - at) * n ≤ (len + 1 - at) * n
all_places at place len n h = let k : n * (place - at) ≤ n * (len + 1 - at) = mul-le-mul_left n (omega arith) in omega arith

pub places_more : (at place len n : ℕ) → at ≤ place → place ≤ len → (place - at) * n + n ≤ (len + 1 - at) * n
places_more at place len n h k =
    let one = place_more at place n h in let all = all_places at (place + 1) len n (omega arith) in omega arith

-- up to a later place there are more places
pub places_to : (at place to n : ℕ) → at ≤ place → place + 1 ≤ to → (place - at) * n + n ≤ (to - at) * n
places_to at place to n h k =
    let one = place_more at place n h in let all = all_places at (place + 1) (to - 1) n (omega arith) in
    let same : (to - 1) + 1 - at ≡ to - at = omega arith in
    omega (arith, ap (λ m. m * n) same)
