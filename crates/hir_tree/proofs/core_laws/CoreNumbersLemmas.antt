-- The core of a sound tree has fewer numbers than twice the spots of the tree.
use Rattle.std.proofs.Common.{◌≡◌, ◌≤◌, ℕ, zero, suc, ◌+◌, ◌-◌, ◌*◌, ◌<◌, nat_lt, max, Bool, true, false, Option, Some, None, List, [], ◌∷◌, map, replicate, length, arith}
use Rattle.std.specs.Prelude.{sum}
use Rattle.std.proofs.lemmas.Bool.{and_parts}
use Rattle.std.proofs.lemmas.Bool.Decides.{nat_tests}
use Rattle.std.proofs.lemmas.List.Sums.{sum_by-cons}
use Rattle.std.proofs.Math.Nat.{mul-le-mul_left}
use Rattle.hir_tree.specs.Core.{Core, numbers, pair, pair_all, choice_all, plus, literal as literal_core, one_byte, optional, copies, up_to, with_more, repeat}
use Rattle.hir_tree.specs.Cores.{core_of_tree, cores_of_trees}
use Rattle.hir_tree.specs.Sound.{is_sound_tree, are_sound_trees, is_ordered}
use Rattle.hir_tree.specs.Spots.{spots_of_tree, spots_of_trees, repeated_spots}
use Rattle.hir_tree.specs.Tree.{Tree, Trees, empty, literal, class_chars, class_bytes, look, repetition, capture, concat, alternation, none, more}

-- the numbers of several cores together, and one more for each
abbrev total : List Core → ℕ
total [] = 0
total (a ∷ rest) = numbers a + 1 + total rest

pub some_numbers : (a : Core) → 0 < numbers a
some_numbers Core.empty = omega arith
some_numbers (Core.byte_in ranges) = omega arith
some_numbers (Core.char_in ranges) = omega arith
some_numbers (Core.look kind) = omega arith
some_numbers (Core.group index a) = omega arith
some_numbers (Core.pair a b) = omega arith
some_numbers (Core.choice a b) = omega arith
some_numbers Core.none = omega arith
some_numbers (Core.plus greedy a) = omega arith

pair_numbers : (cs : List Core) → numbers (pair_all cs) + 1 ≤ max 2 (total cs)
pair_numbers [] = omega arith
pair_numbers (a ∷ []) = omega arith
pair_numbers (a ∷ b ∷ rest) = omega (arith, pair_numbers (b ∷ rest), some_numbers b)

choice_numbers : (cs : List Core) → numbers (choice_all cs) + 1 ≡ total cs + 2
choice_numbers [] = omega arith
choice_numbers (a ∷ rest) = omega (arith, choice_numbers rest)

pub copies_numbers : (n : ℕ) (a b : Core) → numbers (copies n a b) ≡ n * (numbers a + 1) + numbers b
copies_numbers zero a b = omega arith
copies_numbers (suc n) a b = omega (arith, copies_numbers n a b)

pub optional_numbers : (greedy : Bool) (a : Core) → numbers (optional greedy a) ≡ numbers a + 2
optional_numbers true a = omega arith
optional_numbers false a = omega arith

pub up_to_numbers : (greedy : Bool) (n : ℕ) (a : Core) → numbers (up_to greedy (suc n) a) + 1 ≡ suc n * (numbers a + 3)
up_to_numbers greedy zero a = omega (arith, optional_numbers greedy a)
up_to_numbers greedy (suc n) a = omega (arith, optional_numbers greedy (pair a (up_to greedy (suc n) a)), up_to_numbers greedy n a)

replicate_total : (n : ℕ) (a : Core) → total (replicate n a) ≡ n * (numbers a + 1)
replicate_total zero a = omega arith
replicate_total (suc n) a = omega (arith, replicate_total n a)

with_more_numbers : (greedy : Bool) (n more : ℕ) (a : Core) → numbers (with_more greedy n more a) + 1 ≤ max 2 (n * (numbers a + 1) + more * (numbers a + 3))
with_more_numbers greedy n zero a = omega (arith, pair_numbers (replicate n a), replicate_total n a)
with_more_numbers greedy n (suc m) a = omega (arith, copies_numbers n a (up_to greedy (suc m) a), up_to_numbers greedy m a)

bytes_numbers : (bs : List ℕ) → total (map one_byte bs) ≡ 2 * length bs
bytes_numbers [] = omega arith
bytes_numbers (b ∷ rest) = omega (arith, bytes_numbers rest)

endless_numbers : (greedy : Bool) (a : Core) (s least : ℕ) → numbers a < 2 * s → numbers (repeat least None greedy a) < 2 * repeated_spots s least None
endless_numbers greedy a s zero within = omega (arith, optional_numbers greedy (plus greedy a))
endless_numbers greedy a s (suc n) within =
    let more : n * (numbers a + 1) ≤ n * (2 * s) = mul-le-mul_left n (omega arith) in
    let all : numbers (repeat (suc n) None greedy a) + 1 ≤ 2 * (suc n * s + 1) = omega (arith, copies_numbers n a (plus greedy a), more) in
    grind (arith, nat_tests)

bounded_numbers : (greedy : Bool) (a : Core) (s least most : ℕ) → numbers a < 2 * s
    → numbers (repeat least (Some most) greedy a) + 1 ≤ max 2 (2 * (least * s + (most - least) * (s + 1)))
bounded_numbers greedy a s least most within =
    let more : least * (numbers a + 1) ≤ least * (2 * s) = mul-le-mul_left least (omega arith) in
    let further : (most - least) * (numbers a + 3) ≤ (most - least) * (2 * (s + 1)) = mul-le-mul_left (most - least) (omega arith) in
    omega (arith, with_more_numbers greedy least (most - least) a, more, further)

repeat_numbers : (greedy : Bool) (a : Core) (s least : ℕ) (most : Option ℕ) → numbers a < 2 * s → numbers (repeat least most greedy a) < 2 * repeated_spots s least most
repeat_numbers greedy a s least None within = endless_numbers greedy a s least within
repeat_numbers greedy a s zero (Some zero) within = omega (arith, bounded_numbers greedy a s 0 0 within)
repeat_numbers greedy a s zero (Some (suc n)) within =
    let bound = bounded_numbers greedy a s 0 (suc n) within in
    let all : numbers (repeat 0 (Some (suc n)) greedy a) < 2 * (0 * s + (suc n - 0) * (s + 1)) = omega (arith, bound) in
    grind (arith, nat_tests)
repeat_numbers greedy a s (suc m) (Some n) within =
    let bound = bounded_numbers greedy a s (suc m) n within in
    let all : numbers (repeat (suc m) (Some n) greedy a) < 2 * (suc m * s + (n - suc m) * (s + 1)) = omega (arith, bound, within) in
    grind (arith, nat_tests)

sum_more : (a b x : ℕ) (xs : List ℕ) → a < 2 * x → b ≤ 2 * sum xs → a + 1 + b ≤ 2 * sum (x ∷ xs)
sum_more a b x xs first rest = omega (arith, sum_by-cons (λ n. n) x xs)

-- one more for each part leaves room for the choice that has none
room : (n : ℕ) (xs : List ℕ) → n ≤ 2 * sum xs → n + 2 ≤ 2 * max 1 (sum xs + length xs)
room n [] le = omega (arith, le)
room n (x ∷ xs) le = omega (arith, le)

literal_numbers : (bytes : List ℕ) → nat_lt 0 (length bytes) ≡ true → numbers (literal_core bytes) < 2 * length bytes
literal_numbers bytes sound =
    let some : 0 < length bytes = grind (arith, nat_tests) in
    omega (arith, pair_numbers (map one_byte bytes), bytes_numbers bytes)

mutual
  pub numbers_within : (tree : Tree) → is_sound_tree tree ≡ true → numbers (core_of_tree tree) < 2 * spots_of_tree tree
  numbers_within empty sound = omega arith
  numbers_within (literal bytes) sound = literal_numbers bytes sound
  numbers_within (class_chars ranges) sound = omega arith
  numbers_within (class_bytes ranges) sound = omega arith
  numbers_within (look kind) sound = omega arith
  numbers_within (repetition least most greedy part) sound =
      repeat_numbers greedy (core_of_tree part) (spots_of_tree part) least most (numbers_within part (and_parts (is_ordered least most) (is_sound_tree part) sound).1)
  numbers_within (capture index name part) sound = omega (arith, numbers_within part sound)
  numbers_within (concat parts) sound = omega (arith, pair_numbers (cores_of_trees parts), numbers_of_each parts sound)
  numbers_within (alternation parts) sound =
      omega (arith, choice_numbers (cores_of_trees parts), room (total (cores_of_trees parts)) (spots_of_trees parts) (numbers_of_each parts sound))

  numbers_of_each : (parts : Trees) → are_sound_trees parts ≡ true → total (cores_of_trees parts) ≤ 2 * sum (spots_of_trees parts)
  numbers_of_each none sound = omega arith
  numbers_of_each (more part rest) sound =
      let each = and_parts (is_sound_tree part) (are_sound_trees rest) sound in
      sum_more _ _ (spots_of_tree part) (spots_of_trees rest) (numbers_within part each.0) (numbers_of_each rest each.1)
