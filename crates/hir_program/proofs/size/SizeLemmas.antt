-- How many numbers the cores of several parts take, and those of repeated parts, cut off at a limit.
use Rattle.std.proofs.Common.{◌≡◌, ℕ, zero, suc, ◌+◌, ◌-◌, ◌*◌, ◌<◌, ◌≤◌, min, max, Bool, List, [], ◌∷◌, map, length, refl, ap, inl, inr, arith}
use Rattle.std.proofs.lemmas.Bool.{cases_lt}
use Rattle.hir_tree.specs.Core.{Core, empty, plus, at_least, optional, numbers, pair, pair_all, choice_all, one_byte, literal, copies, up_to, with_more}
use Rattle.hir_program.specs.Laid.{total_numbers}
use Rattle.hir_tree.proofs.CoreNumbersLemmas.{some_numbers, copies_numbers, optional_numbers, up_to_numbers}

-- parts in a row take one more for each after the first
pub pair_total : (a : Core) (rest : List Core) → numbers (pair_all (a ∷ rest)) ≡ total_numbers (a ∷ rest) + length rest
pair_total a [] = omega arith
pair_total a (b ∷ rest) = omega (arith, pair_total b rest)

-- a choice takes one more for each part, and one for having none
pub choice_total : (cs : List Core) → numbers (choice_all cs) ≡ total_numbers cs + length cs + 1
choice_total [] = omega arith
choice_total (a ∷ rest) = omega (arith, choice_total rest)

bytes_total : (bs : List ℕ) → total_numbers (map one_byte bs) ≡ length bs
bytes_total [] = omega arith
bytes_total (b ∷ rest) = omega (arith, bytes_total rest)

bytes_length : (bs : List ℕ) → length (map one_byte bs) ≡ length bs
bytes_length [] = refl
bytes_length (b ∷ rest) = ap suc (bytes_length rest)

-- bytes in a row take two each, but for the last
pub literal_numbers : (bs : List ℕ) → numbers (literal bs) ≡ max (length bs + (length bs - 1)) 1
literal_numbers [] = omega arith
literal_numbers (b ∷ rest) = omega (arith, pair_total (one_byte b) (map one_byte rest), bytes_total rest, bytes_length rest)

-- a product is cut off at a limit as it is where its factor was cut off before
pub cut_product : (n a s k limit : ℕ) → s ≡ min a limit → min (n * min (s + k) limit) limit ≡ min (n * (a + k)) limit
cut_product zero a s k limit e = omega arith
cut_product (suc n) a s k limit e = elim (cases_lt (a + k) limit) [
  | inl below ↦ let same : min (s + k) limit ≡ a + k = omega arith in rw same refl
  | inr above ↦
      let cut : min (s + k) limit ≡ limit = omega arith in
      rw cut (omega arith)
]

copies_same : (greedy : Bool) (n : ℕ) (a : Core) → copies n a a ≡ with_more greedy (suc n) zero a
copies_same greedy zero a = refl
copies_same greedy (suc n) a = ap (pair a) (copies_same greedy n a)

-- copies of a part and none more: the last is the part itself
pub copies_alone : (greedy : Bool) (count more : ℕ) (a : Core) → more ≤ 0 → 0 < count → copies (count - 1) a a ≡ with_more greedy count more a
copies_alone greedy zero more a none some = absurd (omega arith)
copies_alone greedy (suc n) zero a none some =
    let before : suc n - 1 ≡ n = omega arith in
    rw before (copies_same greedy n a)
copies_alone greedy (suc n) (suc m) a none some = absurd (omega arith)

-- copies of a part and some more
pub copies_more : (greedy : Bool) (count more : ℕ) (a : Core) → 0 < more → copies count a (up_to greedy more a) ≡ with_more greedy count more a
copies_more greedy count zero a some = absurd (omega arith)
copies_more greedy count (suc m) a some = refl

-- parts that may be left out, one in another
pub up_to_counted : (greedy : Bool) (count : ℕ) (a : Core) → 0 < count → numbers (up_to greedy count a) ≡ (count - 1) * (numbers a + 3) + numbers a + 2
up_to_counted greedy zero a some = absurd (omega arith)
up_to_counted greedy (suc n) a some =
    let before : suc n - 1 ≡ n = omega arith in
    rw before (omega (arith, up_to_numbers greedy n a))

-- parts in a row, also where there are none
pub row_total : (cs : List Core) → numbers (pair_all cs) ≡ max (total_numbers cs + (length cs - 1)) 1
row_total [] = omega arith
row_total (a ∷ rest) = omega (arith, pair_total a rest, some_numbers a)

-- what stands behind copies adds to them
pub copies_below : (count : ℕ) (a b : Core) → numbers (copies count a empty) ≤ numbers (copies count a b)
copies_below count a b = omega (arith, copies_numbers count a empty, copies_numbers count a b, some_numbers b)

-- copies of a part and any number more
pub copies_endless : (greedy : Bool) (count : ℕ) (a : Core) → 0 < count → copies (count - 1) a (plus greedy a) ≡ at_least greedy count a
copies_endless greedy zero a some = absurd (omega arith)
copies_endless greedy (suc n) a some =
    let before : suc n - 1 ≡ n = omega arith in
    rw before refl

-- copies, the first of which stands by itself
pub copies_on : (left : ℕ) (a b : Core) → 0 < left → copies left a b ≡ pair a (copies (left - 1) a b)
copies_on zero a b some = absurd (omega arith)
copies_on (suc n) a b some =
    let before : suc n - 1 ≡ n = omega arith in
    rw before refl

pub copies_hold : (left : ℕ) (a b : Core) → 0 < left → numbers a + 1 + numbers b ≤ numbers (copies left a b)
copies_hold left a b some = omega (arith, ap numbers (copies_on left a b some), copies_numbers (left - 1) a b)

-- parts that may be left out, the first of which stands by itself
pub up_to_on : (greedy : Bool) (left : ℕ) (a : Core) → 1 < left → up_to greedy left a ≡ optional greedy (pair a (up_to greedy (left - 1) a))
up_to_on greedy zero a some = absurd (omega arith)
up_to_on greedy (suc zero) a some = absurd (omega arith)
up_to_on greedy (suc (suc n)) a some =
    let before : suc (suc n) - 1 ≡ suc n = omega arith in
    rw before refl

pub up_to_last : (greedy : Bool) (left : ℕ) (a : Core) → left ≡ 1 → up_to greedy left a ≡ optional greedy a
up_to_last greedy left a one = rw one refl

pub up_to_some : (greedy : Bool) (left : ℕ) (a : Core) → 1 < left → numbers (up_to greedy left a) ≡ 3 + numbers a + numbers (up_to greedy (left - 1) a)
up_to_some greedy left a some =
    omega (arith, ap numbers (up_to_on greedy left a some), optional_numbers greedy (pair a (up_to greedy (left - 1) a)))

pub up_to_one : (greedy : Bool) (left : ℕ) (a : Core) → left ≡ 1 → numbers (up_to greedy left a) ≡ numbers a + 2
up_to_one greedy left a one = omega (arith, ap numbers (up_to_last greedy left a one), optional_numbers greedy a)

pub up_to_hold : (greedy : Bool) (count : ℕ) (a : Core) → 0 < count → numbers a + 2 ≤ numbers (up_to greedy count a)
up_to_hold greedy count a some = omega (arith, up_to_counted greedy count a some)
