-- The core of a tree takes no more spots than are counted on the tree.
use Rattle.std.proofs.Common.{◌≡◌, ◌≤◌, ℕ, zero, suc, ◌+◌, ◌-◌, ◌*◌, Bool, true, false, Option, Some, None, List, [], ◌∷◌, length, map, replicate, refl, ap, ◌∙◌, arith}
use Rattle.std.specs.Prelude.{sum}
use Rattle.std.proofs.Math.Nat.{mul-le-mul_left}
use Rattle.std.proofs.lemmas.Bool.Decides.{nat_tests}
use Rattle.std.proofs.lemmas.List.Sums.{sum_by-cons}
use Rattle.hir_tree.specs.Core.{Core, pair, plus, literal as literal_core, one_byte, pair_all, choice_all, optional, copies, up_to, with_more, repeat}
use Rattle.hir_tree.specs.Cores.{core_of_tree, cores_of_trees, core_spots}
use Rattle.hir_tree.specs.Spots.{spots_of_tree, spots_of_trees, repeated_spots}
use Rattle.hir_tree.specs.Tree.{Tree, Trees, empty, literal, class_chars, class_bytes, look, repetition, capture, concat, alternation, none, more}

-- the spots of several cores together
abbrev total : List Core → ℕ
total [] = 0
total (a ∷ rest) = core_spots a + total rest

pair_spots : (cs : List Core) → core_spots (pair_all cs) ≡ total cs
pair_spots [] = refl
pair_spots (a ∷ []) = omega arith
pair_spots (a ∷ b ∷ rest) = ap (λ n. core_spots a + n) (pair_spots (b ∷ rest))

choice_spots : (cs : List Core) → core_spots (choice_all cs) ≡ total cs + length cs
choice_spots [] = omega arith
choice_spots (a ∷ rest) = omega (arith, choice_spots rest)

bytes_spots : (bytes : List ℕ) → total (map one_byte bytes) ≡ length bytes
bytes_spots [] = refl
bytes_spots (b ∷ rest) = omega (arith, bytes_spots rest)

literal_spots : (bytes : List ℕ) → core_spots (literal_core bytes) ≡ length bytes
literal_spots bytes = pair_spots (map one_byte bytes) ∙ bytes_spots bytes

optional_spots : (greedy : Bool) (a : Core) → core_spots (optional greedy a) ≡ core_spots a + 1
optional_spots true a = omega arith
optional_spots false a = omega arith

copies_spots : (n : ℕ) (a b : Core) → core_spots (copies n a b) ≡ n * core_spots a + core_spots b
copies_spots zero a b = omega arith
copies_spots (suc n) a b = omega (arith, copies_spots n a b)

up_to_spots : (greedy : Bool) (n : ℕ) (a : Core) → core_spots (up_to greedy n a) ≡ n * (core_spots a + 1)
up_to_spots greedy zero a = omega arith
up_to_spots greedy (suc zero) a = omega (arith, optional_spots greedy a)
up_to_spots greedy (suc (suc n)) a = omega (arith, up_to_spots greedy (suc n) a, optional_spots greedy (pair a (up_to greedy (suc n) a)))

replicate_spots : (n : ℕ) (a : Core) → total (replicate n a) ≡ n * core_spots a
replicate_spots zero a = omega arith
replicate_spots (suc n) a = omega (arith, replicate_spots n a)

with_more_spots : (greedy : Bool) (n more : ℕ) (a : Core) → core_spots (with_more greedy n more a) ≡ n * core_spots a + more * (core_spots a + 1)
with_more_spots greedy n zero a = omega (arith, pair_spots (replicate n a), replicate_spots n a)
with_more_spots greedy n (suc m) a = omega (arith, copies_spots n a (up_to greedy (suc m) a), up_to_spots greedy (suc m) a)

endless_spots : (greedy : Bool) (a : Core) (s least : ℕ) → core_spots a ≤ s → core_spots (repeat least None greedy a) ≤ repeated_spots s least None
endless_spots greedy a s zero within = omega (arith, optional_spots greedy (plus greedy a))
endless_spots greedy a s (suc n) within =
    let more : n * core_spots a ≤ n * s = mul-le-mul_left n within in
    let all : core_spots (repeat (suc n) None greedy a) ≤ suc n * s + 1 = omega (arith, copies_spots n a (plus greedy a), more) in
    grind (arith, nat_tests)

bounded_spots : (greedy : Bool) (a : Core) (s least most : ℕ) → core_spots a ≤ s
    → core_spots (repeat least (Some most) greedy a) ≤ least * s + (most - least) * (s + 1)
bounded_spots greedy a s least most within =
    let more : least * core_spots a ≤ least * s = mul-le-mul_left least within in
    let further : (most - least) * (core_spots a + 1) ≤ (most - least) * (s + 1) = mul-le-mul_left (most - least) (omega arith) in
    omega (arith, with_more_spots greedy least (most - least) a, more, further)

repeat_within : (greedy : Bool) (a : Core) (s least : ℕ) (most : Option ℕ) → core_spots a ≤ s → core_spots (repeat least most greedy a) ≤ repeated_spots s least most
repeat_within greedy a s least None within = endless_spots greedy a s least within
repeat_within greedy a s zero (Some zero) within = omega arith
repeat_within greedy a s zero (Some (suc n)) within = let bound = bounded_spots greedy a s 0 (suc n) within in grind (arith, nat_tests)
repeat_within greedy a s (suc m) (Some n) within = let bound = bounded_spots greedy a s (suc m) n within in grind (arith, nat_tests)

sum_le : (a b x : ℕ) (xs : List ℕ) → a ≤ x → b ≤ sum xs → a + b ≤ sum (x ∷ xs)
sum_le a b x xs first rest = omega (arith, sum_by-cons (λ n. n) x xs)

mutual
  pub core_within : (tree : Tree) → core_spots (core_of_tree tree) ≤ spots_of_tree tree
  core_within empty = omega arith
  core_within (literal bytes) = omega (arith, literal_spots bytes)
  core_within (class_chars ranges) = omega arith
  core_within (class_bytes ranges) = omega arith
  core_within (look kind) = omega arith
  core_within (repetition least most greedy part) = repeat_within greedy (core_of_tree part) (spots_of_tree part) least most (core_within part)
  core_within (capture index name part) = omega (arith, core_within part)
  core_within (concat parts) = omega (arith, pair_spots (cores_of_trees parts), (cores_within parts).0)
  core_within (alternation parts) = omega (arith, choice_spots (cores_of_trees parts), (cores_within parts).0, (cores_within parts).1)

  cores_within : (parts : Trees) → (total (cores_of_trees parts) ≤ sum (spots_of_trees parts)) × (length (cores_of_trees parts) ≡ length (spots_of_trees parts))
  cores_within none = (omega arith, refl)
  cores_within (more part rest) = (sum_le _ _ (spots_of_tree part) (spots_of_trees rest) (core_within part) (cores_within rest).0, omega (arith, (cores_within rest).1))
