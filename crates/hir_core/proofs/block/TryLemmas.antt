-- The spots that are tried in a block, each once at each place, and the ticks of them.
use Rattle.std.proofs.Common.{◌≡◌, ℕ, zero, suc, ◌+◌, ◌-◌, ◌*◌, ◌<◌, ◌≤◌, Bool, true, false, List, [], ◌∷◌, ◌++◌, length, if◌then◌else◌}
use Rattle.std.proofs.Common.{refl, sym, ap, ◌∙◌, arith}
use Rattle.std.specs.Prelude.{◌&&◌, not, slice_set, replicate}
use Rattle.std.proofs.Math.Nat.{mul-le-mul_left}
use Rattle.std.proofs.lemmas.List.{length-append, get_or_append_left, get_or-append-add}
use Rattle.std.proofs.lemmas.List.Sums.{sum_by-append}
use Rattle.sd_base.specs.Steps.{IsTicked, TicksAtMost}
use Rattle.sd_base.specs.declared.steps.Steps.{Steps}
use Rattle.sd_base.proofs.StepsLemmas.{at_most}
use Rattle.hir_core.specs.Blocks.{mark_of}
use Rattle.hir_core.specs.Pass.{CountsVisits, counted, counted_visits, is_counted, visit_ticks, was_visited}
use Rattle.hir_program.specs.Program.{spot_at}
use Rattle.hir_core.specs.Tries.{spots_over, CountsTries}
use Rattle.hir_program.specs.declared.spot.Spot.{Spot}
use Rattle.hir_program.specs.declared.spot.Spot.TheVariants as spot
use Rattle.hir_core.proofs.closure.VisitLemmas.{CountsVisits-none, CountsVisits-add, visits-at_most, visits-none}

-- ---- the spots of several places

-- so many rows
spots_over-length : (places : ℕ) (spots : List Spot) → length (spots_over places spots) ≡ length spots * places
spots_over-length zero spots = omega arith
spots_over-length (suc places) spots =
    length-append spots (spots_over places spots) ∙ (let rest = spots_over-length places spots in omega (arith, rest))

-- as many counted visits in each
spots_over-counted : (places : ℕ) (spots : List Spot) → counted (spots_over places spots) ≡ places * counted spots
spots_over-counted zero spots = omega arith
spots_over-counted (suc places) spots =
    sum_by-append (λ s. if is_counted s then 1 else 0) spots (spots_over places spots)
    ∙ (let rest = spots_over-counted places spots in omega (arith, rest))

-- the spot of a mark
spots_over-at : (places : ℕ) (spots : List Spot) (row q : ℕ) → row < places → q < length spots
    → spot_at (spots_over places spots) (row * length spots + q) ≡ spot_at spots q
spots_over-at zero spots row q h few = absurd (omega arith)
spots_over-at (suc places) spots zero q h few =
    let here : zero * length spots + q ≡ q = omega arith in
    ap (spot_at (spots ++ spots_over places spots)) here ∙ get_or_append_left spots (spots_over places spots) spot.Fail q few
spots_over-at (suc places) spots (suc row) q h few =
    let there : suc row * length spots + q ≡ length spots + (row * length spots + q) = omega arith in
    ap (spot_at (spots ++ spots_over places spots)) there
    ∙ get_or-append-add spots (spots_over places spots) (row * length spots + q) spot.Fail
    ∙ spots_over-at places spots row q (omega arith) few

-- ---- ticks

-- a visit more, where there are as many marks as spots, or more
tries_set : (spots : List Spot) (bits : List Bool) (q : ℕ) → length spots ≤ length bits
    → counted_visits spots (slice_set bits q true) ≡ counted_visits spots bits + visit_ticks (spot_at spots q) (was_visited bits q)
tries_set [] bits q e = refl
tries_set (s ∷ spots) [] q e = absurd (omega arith)
tries_set (s ∷ spots) (b ∷ bits) zero e = cases (is_counted s) b
  where
    cases : (c b : Bool) → (if c && true then 1 else 0) + counted_visits spots bits
        ≡ ((if c && b then 1 else 0) + counted_visits spots bits) + (if c && not b then 1 else 0)
    cases true true = omega arith
    cases true false = omega arith
    cases false true = omega arith
    cases false false = omega arith
tries_set (s ∷ spots) (b ∷ bits) (suc q) e = let rest = tries_set spots bits q (omega arith) in omega arith

-- nothing is visited
pub visits_none : {L : Type 0} {noted : L → L} {spots : List Spot} {marks : List Bool} {steps : Steps L} → CountsVisits noted spots marks marks steps steps
visits_none {noted = noted} {spots = spots} {marks = marks} {steps = steps} = CountsVisits-none noted spots marks steps

-- visits add up
pub visits_then : {L : Type 0} {noted : L → L} {spots : List Spot} {a b c : List Bool} {old mid new : Steps L}
    → CountsVisits noted spots a b old mid → CountsVisits noted spots b c mid new → CountsVisits noted spots a c old new
visits_then {noted = noted} {spots = spots} {a = a} {b = b} {c = c} {old = old} {mid = mid} {new = new} first more =
    CountsVisits-add noted spots a b c old mid new first more

module _ {L : Type 0} (noted : L → L) (spots : List Spot) (begin end : ℕ) where
  -- a spot is tried at a place
  pub CountsTries-one : (at q mark : ℕ) (marks marks' : List Bool) (old new : Steps L)
      → length spots * (end - begin) ≤ length marks → begin ≤ at → at < end → q < length spots → mark ≡ mark_of (length spots) begin at q → was_visited marks mark ≡ false → marks' ≡ slice_set marks mark true
      → IsTicked noted (visit_ticks (spot_at spots q) false) old new → CountsTries noted spots begin end marks marks' old new
  CountsTries-one at q mark marks marks' old new room from to few same unset set ticked = record {
    taken = visit_ticks (spot_at spots q) false;
    more = sym (ap (counted_visits all) set ∙ tries_set all marks mark enough ∙ ap (λ n. counted_visits all marks + n) one);
    ticked = ticked;
  }
    where
      all : List Spot
      all = spots_over (end - begin) spots

      enough : length all ≤ length marks
      enough = let rows = spots_over-length (end - begin) spots in omega (arith, rows, room)

      here : spot_at all mark ≡ spot_at spots q
      here = ap (spot_at all) same ∙ spots_over-at (end - begin) spots (at - begin) q (omega arith) few

      one : visit_ticks (spot_at all mark) (was_visited marks mark) ≡ visit_ticks (spot_at spots q) false
      one = ap (λ s. visit_ticks s (was_visited marks mark)) here ∙ ap (visit_ticks (spot_at spots q)) unset

  -- in a block, where nothing was tried before
  pub CountsTries-block : (n : ℕ) (unset marks : List Bool) (old new : Steps L) → unset ≡ replicate n false
      → CountsTries noted spots begin end unset marks old new → TicksAtMost noted ((end - begin) * counted spots) old new
  CountsTries-block n unset marks old new e h =
      let all : List Spot = spots_over (end - begin) spots in
      let most : counted all ≡ (end - begin) * counted spots = spots_over-counted (end - begin) spots in
      at_most (omega (arith, h.more, ap (counted_visits all) e, visits-none all n, visits-at_most all marks, most)) h.ticked

-- a block more, up to a later place
pub blocks_to : (at begin end to n : ℕ) → at ≤ begin → begin ≤ end → end ≤ to → (begin - at) * n + (end - begin) * n ≤ (to - at) * n
blocks_to at begin end to n h k m =
    let parts : (begin - at) + (end - begin) ≡ end - at = omega arith in
    let more : n * (end - at) ≤ n * (to - at) = mul-le-mul_left n (omega arith) in
    omega (arith, ap (λ p. p * n) parts, more)
