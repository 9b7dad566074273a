-- Bytes that are run over at a loop of a program.
use Rattle.std.proofs.Common.{◌≡◌, ℕ, suc, ◌+◌, ◌-◌, ◌<◌, ◌≤◌, Bool, false, inl, inr, List, length, ap, subst, arith}
use Rattle.std.proofs.lemmas.Bool.{cases_lt}
use Rattle.std.proofs.lemmas.List.{get_or_past}
use Rattle.hir_core.specs.RunsOver.{RunsOver, StepsOver}
use Rattle.hir_program.specs.Loops.{AreWays}
use Rattle.hir_core.specs.Pass.{visit_ticks}
use Rattle.hir_program.specs.Program.{spot_at}
use Rattle.hir_program.specs.declared.loops.Ways.{Ways}
use Rattle.hir_program.specs.declared.spot.Spot.{Spot}
use Rattle.hir_program.specs.declared.spot.Spot.TheVariants as spot

-- a loop is a spot of the program
pub loop-within : (spots : List Spot) (q : ℕ) (w : Ways) → AreWays spots q w → q < length spots
loop-within spots q w are = elim (cases_lt q (length spots)) [
  | inl few ↦ few
  | inr many ↦
      let fail : spot_at spots q ≡ spot.Fail = get_or_past spots q spot.Fail many in
      absurd (elim are.sides [ inl split ↦ cc | inr split ↦ let k = split.0 in cc ])
]

-- it ends no match
pub loop-live : (spots : List Spot) (q : ℕ) (w : Ways) → AreWays spots q w → (spot_at spots q ≡ spot.Match) → ⊥
loop-live spots q w are ends = elim are.sides [ inl split ↦ cc | inr split ↦ let k = split.0 in cc ]

-- nor a group
pub loop-plain : (spots : List Spot) (q : ℕ) (w : Ways) (i f : ℕ) → AreWays spots q w → (spot_at spots q ≡ spot.Close i f) → ⊥
loop-plain spots q w i f are ends = elim are.sides [ inl split ↦ cc | inr split ↦ let k = split.0 in cc ]

-- its visits are counted
pub loop-counted : (spots : List Spot) (q : ℕ) (w : Ways) → AreWays spots q w → visit_ticks (spot_at spots q) false ≡ 1
loop-counted spots q w are = elim are.sides [
  | inl split ↦ ap (λ (s : Spot). visit_ticks s false) split
  | inr split ↦ ap (λ (s : Spot). visit_ticks s false) split.0
]

-- a byte more is run over
pub RunsOver-next : (text : List ℕ) (spots : List Spot) (begin end q from at next : ℕ) (old now new : List Bool) → from ≤ at → next ≡ at + 1
    → RunsOver text spots begin end q (at - from) from old now → StepsOver text spots begin end q at now new
    → RunsOver text spots begin end q (next - from) from old new
RunsOver-next text spots begin end q from at next old now new forward is over step =
    subst (λ (n : ℕ). RunsOver text spots begin end q n from old new) (let k : suc (at - from) ≡ next - from = omega arith in k)
    (now, over, subst (λ (i : ℕ). StepsOver text spots begin end q i now new) (let k : at ≡ from + (at - from) = omega arith in k) step)
