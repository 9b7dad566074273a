-- A program has no more spots with counted visits than its core takes.
use Rattle.std.proofs.Common.{◌≡◌, ℕ, zero, suc, ◌+◌, ◌≤◌, Bool, true, false, List, [], ◌∷◌, length, if◌then◌else◌, refl, ap, ◌∙◌, sym, arith}
use Rattle.std.proofs.lemmas.List.Sums.{sum_by-cons}
use Rattle.hir_tree.specs.Core.{Core, empty, byte_in, char_in, look, group, pair, choice, none, plus, numbers}
use Rattle.hir_program.specs.Laid.{IsProgram}
use Rattle.hir_tree.specs.Cores.{core_spots}
use Rattle.hir_core.specs.Pass.{is_counted, counted}
use Rattle.hir_program.specs.Program.{spot_at, Placed}
use Rattle.hir_program.specs.declared.spot.Spot.{Spot}
use Rattle.hir_program.specs.declared.spot.Spot.TheVariants as spot

-- the counted visits of a spot
abbrev one_if : Spot → ℕ
one_if s = if is_counted s then 1 else 0

module _ (spots : List Spot) where
  -- how many of so many spots from here on have counted visits
  abbrev tally : ℕ → ℕ → ℕ
  tally n zero = 0
  tally n (suc count) = one_if (spot_at spots n) + tally (suc n) count

  tally_first : (n count whole : ℕ) (s : Spot) → spot_at spots n ≡ s → whole ≡ count + 1 → tally n whole ≡ one_if s + tally (n + 1) count
  tally_first n count whole s e k =
      let as_suc : whole ≡ suc count = omega arith in
      let next : suc n ≡ n + 1 = omega arith in
      ap (tally n) as_suc ∙ ap (λ t. one_if t + tally (suc n) count) e ∙ ap (λ m. one_if s + tally m count) next

  tally_join : (n a b whole : ℕ) → whole ≡ a + b → tally n whole ≡ tally n a + tally (n + a) b
  tally_join n zero b whole e =
      let same : whole ≡ b = omega arith in
      let here : n ≡ n + 0 = omega arith in
      omega (arith, ap (tally n) same, ap (λ m. tally m b) here)
  tally_join n (suc a) b whole e =
      let rest : tally n whole ≡ one_if (spot_at spots n) + tally (suc n) (a + b) = ap (tally n) (let k : whole ≡ suc (a + b) = omega arith in k) in
      let inner = tally_join (suc n) a b (a + b) refl in
      let there : tally (suc n + a) b ≡ tally (n + suc a) b = ap (λ m. tally m b) (let k : suc n + a ≡ n + suc a = omega arith in k) in
      omega (arith, rest, inner, there)

  -- a spot counts one at most
  at_most_one : (s : Spot) → one_if s ≤ 1
  at_most_one s = cases (is_counted s)
    where
      cases : (b : Bool) → (if b then 1 else 0) ≤ 1
      cases true = omega arith
      cases false = omega arith

  -- the spots of a group: those of its body, and its end
  group_tally : (i n f m : ℕ) (a : Core) → Placed spots n f (group i a) → tally (n + 2) (numbers a) ≤ m
      → tally n (2 + numbers a) ≤ one_if (spot.Close i f) + m
  group_tally i n f m a p body =
      let one : tally n (2 + numbers a) ≡ 0 + tally (n + 1) (numbers a + 1) = tally_first n (numbers a + 1) (2 + numbers a) (spot.Open (n + 2)) p.0 (omega arith) in
      let two : tally (n + 1) (numbers a + 1) ≡ one_if (spot.Close i f) + tally (n + 1 + 1) (numbers a) =
      tally_first (n + 1) (numbers a) (numbers a + 1) (spot.Close i f) p.1 refl in
      let here : tally (n + 1 + 1) (numbers a) ≡ tally (n + 2) (numbers a) = ap (λ m. tally m (numbers a)) (let k : n + 1 + 1 ≡ n + 2 = omega arith in k) in
      omega (arith, one, two, here, body)

  -- the spots of a core that is placed in the program
  placed_tally : (core : Core) (n f : ℕ) → Placed spots n f core → tally n (numbers core) ≤ core_spots core
  placed_tally empty n f p = let one = tally_first n 0 1 (spot.Jump f) p refl in omega (arith, one)
  placed_tally (byte_in ranges) n f p = let one = tally_first n 0 1 (spot.Bytes f ranges) p refl in omega (arith, one)
  placed_tally (char_in ranges) n f p = let one = tally_first n 0 1 (spot.Chars f ranges) p refl in omega (arith, one)
  placed_tally (look l) n f p = let one = tally_first n 0 1 (spot.Look l f) p refl in omega (arith, one)
  placed_tally (group i a) n f p =
      let whole = group_tally i n f (core_spots a) a p (placed_tally a (n + 2) (n + 1) p.2) in
      omega (arith, whole, at_most_one (spot.Close i f))
  placed_tally (pair a b) n f p =
      let one : tally n (1 + numbers a + numbers b) ≡ 0 + tally (n + 1) (numbers a + numbers b) =
      tally_first n (numbers a + numbers b) (1 + numbers a + numbers b) (spot.Jump (n + 1)) p.0 (omega arith) in
      let two = tally_join (n + 1) (numbers a) (numbers b) (numbers a + numbers b) refl in
      let first = placed_tally a (n + 1) (n + 1 + numbers a) p.1 in
      let second = placed_tally b (n + 1 + numbers a) f p.2 in
      omega (arith, one, two, first, second)
  placed_tally (choice a b) n f p =
      let one : tally n (1 + numbers a + numbers b) ≡ 1 + tally (n + 1) (numbers a + numbers b) =
      tally_first n (numbers a + numbers b) (1 + numbers a + numbers b) (spot.Split (n + 1) (n + 1 + numbers a)) p.0 (omega arith) in
      let two = tally_join (n + 1) (numbers a) (numbers b) (numbers a + numbers b) refl in
      let first = placed_tally a (n + 1) f p.1 in
      let second = placed_tally b (n + 1 + numbers a) f p.2 in
      omega (arith, one, two, first, second)
  placed_tally none n f p = let one = tally_first n 0 1 spot.Fail p refl in omega (arith, one)
  placed_tally (plus greedy a) n f p =
      let one : tally n (2 + numbers a) ≡ 0 + tally (n + 1) (numbers a + 1) = tally_first n (numbers a + 1) (2 + numbers a) (spot.Jump (n + 2)) p.0 (omega arith) in
      let two = tally_first (n + 1) (numbers a) (numbers a + 1) (if greedy then spot.Split (n + 2) f else spot.Split f (n + 2)) p.1 refl in
      let again : one_if (if greedy then spot.Split (n + 2) f else spot.Split f (n + 2)) ≡ 1 = both greedy in
      let here : tally (n + 1 + 1) (numbers a) ≡ tally (n + 2) (numbers a) = ap (λ m. tally m (numbers a)) (let k : n + 1 + 1 ≡ n + 2 = omega arith in k) in
      let body = placed_tally a (n + 2) (n + 1) p.2 in
      omega (arith, one, two, again, here, body)
    where
      both : (b : _) → one_if (if b then spot.Split (n + 2) f else spot.Split f (n + 2)) ≡ 1
      both true = refl
      both false = refl

tally_shift : (s : Spot) (rest : List Spot) (n count : ℕ) → tally (s ∷ rest) (suc n) count ≡ tally rest n count
tally_shift s rest n zero = refl
tally_shift s rest n (suc count) = ap (λ m. one_if (spot_at rest n) + m) (tally_shift s rest (suc n) count)

counted_tally : (spots : List Spot) → counted spots ≡ tally spots 0 (length spots)
counted_tally [] = refl
counted_tally (s ∷ rest) =
    sum_by-cons one_if s rest ∙ ap (λ m. one_if s + m) (counted_tally rest ∙ sym (tally_shift s rest 0 (length rest)))

-- The counted visits of a program are at most the spots of its core: its end as the whole match counts none.
pub counted-core : (core : Core) (spots : List Spot) → IsProgram core spots → counted spots ≤ core_spots core
counted-core core spots h =
    let size = numbers (group 0 core) in
    let whole : counted spots ≡ tally spots 0 (length spots) = counted_tally spots in
    let parts = tally_join spots 0 size 1 (length spots) h.size in
    let start : tally spots (0 + size) 1 ≡ tally spots size 1 = ap (λ m. tally spots m 1) (let k : 0 + size ≡ size = omega arith in k) in
    let end : tally spots size 1 ≡ 0 + tally spots (size + 1) 0 = tally_first spots size 0 1 spot.Match h.ends refl in
    let body : tally spots 0 size ≤ 0 + core_spots core = group_tally spots 0 0 size (core_spots core) core h.placed (placed_tally spots core 2 1 h.placed.2) in
    omega (arith, whole, parts, start, end, body)
