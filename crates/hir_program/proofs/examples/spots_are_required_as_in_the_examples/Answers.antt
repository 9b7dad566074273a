-- Why spots are required, or not, in the program of `[ab]c`.
use Rattle.std.proofs.Common.{◌≡◌, ◌∷◌, [], None, Bool, false, ℕ, zero, suc, if◌then◌else◌, ◌<◌, inl, inr, true, codes, slice_index, arith, refl, sym, ap, subst, ◌∙◌, true≢false}
use Rattle.std.proofs.lemmas.Bool.{cases_eq}
use Rattle.std.specs.List.{flat_map}
use Rattle.std.specs.Prelude.{option_map}
use Rattle.hir_tree.specs.Runs.{as_list, begin, byte_size, is_seen, mark, moved}
use Rattle.hir_program.specs.Examples.{a_or_b_then_c}
use Rattle.hir_program.specs.Masks.{HasBit, AreDead, Covers, IsDead, next_of}
use Rattle.hir_program.specs.Program.{gives_within, some_run, spot_at, way}
use Rattle.hir_program.proofs.scan.bits.MaskLemmas.{HasBit-above, HasBit-pow_only}
use Rattle.hir_program.proofs.examples.spots_are_required_as_in_the_examples.Goals as goal

bit_0_of_1 : HasBit 1 0
unfolding HasBit
bit_0_of_1 = omega arith

bit_0_of_3 : HasBit 3 0
unfolding HasBit
bit_0_of_3 = omega arith

bit_1_of_3 : HasBit 3 1
unfolding HasBit
bit_1_of_3 = omega arith

bit_1_of_2 : HasBit 2 1
unfolding HasBit
bit_1_of_2 = omega arith

-- src/examples.rt:21:1
pub returns-clause-last : goal.returns-clause-last
returns-clause-last c = record {
  begun = λ i has. elim (cases_eq i 0) [
    | inl here ↦ subst (λ (j : ℕ). HasBit 3 j) (sym here) bit_0_of_3
    | inr other ↦ absurd (other (HasBit-pow_only 0 i has))
  ];
  follows = λ i lt has not. elim (cases_eq i 0) [
    | inl here ↦ subst (λ (j : ℕ). Covers a_or_b_then_c (0 ∷ 1 ∷ []) None 3 (next_of (spot_at a_or_b_then_c (slice_index (0 ∷ 1 ∷ []) j)))) (sym here)
        (λ text at dead. dead.dead 1 (omega arith) bit_1_of_3)
    | inr other ↦ absurd (not (subst (λ (j : ℕ). HasBit 2 j) (one i lt other) bit_1_of_2))
  ];
  unsure = HasBit-above 3 62 (omega arith);
}
  where
    one : (i : ℕ) → i < 2 → (i ≡ 0 → ⊥) → 1 ≡ i
    one i lt other = omega arith

-- src/examples.rt:21:1
pub returns-clause-first : goal.returns-clause-first
returns-clause-first c = record {
  begun = λ i has. has;
  follows = λ i lt has not. absurd (not has);
  unsure = HasBit-above 1 62 (omega arith);
}

-- src/examples.rt:21:1
pub returns-clause-not_begun : goal.returns-clause-not_begun
returns-clause-not_begun c r = let e : ◌≡◌ {A = ℕ} 0 1 = HasBit-pow_only 1 0 (r.begun 0 bit_0_of_1) in omega arith

-- `[ab]` takes nothing before `c`
first_is_dead : IsDead (codes "c") a_or_b_then_c 0 0
unfolding gives_within byte_size
first_is_dead zero w here = refl
first_is_dead (suc n) w here = nothing (is_seen 0 w.run.seen) w.run.at here
  where
    nothing : (seen : Bool) (at : ℕ) → at ≡ 0
        → (if seen then [] else flat_map (λ r. gives_within (codes "c") a_or_b_then_c n 1 (way w.starts r)) (as_list (option_map (λ k. moved k (mark 0 w.run)) (byte_size ((97, 98) ∷ []) (codes "c") at)))) ≡ []
    nothing true at here = refl
    nothing false at here = ap (λ x. flat_map (λ r. gives_within (codes "c") a_or_b_then_c n 1 (way w.starts r)) (as_list (option_map (λ k. moved k (mark 0 w.run)) (byte_size ((97, 98) ∷ []) (codes "c") x)))) here

all_are_dead : AreDead (codes "c") a_or_b_then_c (0 ∷ 1 ∷ []) None 0 1
all_are_dead = record {
  unmatched = HasBit-above 1 62 (omega arith);
  asked = λ has. absurd (HasBit-above 1 63 (omega arith) has);
  dead = λ i lt has. subst (λ (j : ℕ). IsDead (codes "c") a_or_b_then_c 0 (slice_index (0 ∷ 1 ∷ []) j)) (sym (HasBit-pow_only 0 i has)) first_is_dead;
}

-- but `c` does
last_gives : some_run (gives_within (codes "c") a_or_b_then_c 2 1 (way [] (begin 0 0))) ≡ true
unfolding gives_within byte_size
last_gives = refl

-- src/examples.rt:21:1
pub returns-clause-not_followed : goal.returns-clause-not_followed
returns-clause-not_followed c r =
    let covers : Covers a_or_b_then_c (0 ∷ 1 ∷ []) None 1 1 = r.follows 0 (omega arith) bit_0_of_1 (λ has. no_bit has) in
    let dead : gives_within (codes "c") a_or_b_then_c 2 1 (way [] (begin 0 0)) ≡ [] = covers (codes "c") 0 all_are_dead 2 (way [] (begin 0 0)) refl in
    true≢false (sym last_gives ∙ ap some_run dead)
  where
    no_bit : HasBit 2 0 → ⊥
    no_bit has = let e : ◌≡◌ {A = ℕ} 0 1 = HasBit-pow_only 1 0 has in omega arith
