-- The core of a tree that was stripped.
use Rattle.std.proofs.Common.{◌≡◌, ℕ, zero, suc, ◌+◌, ◌-◌, ◌<◌, ◌≤◌, nat_lt, min, max, Bool, true, false, cond, List, [], ◌∷◌, length, map, replicate, Option, Some, None, if◌then◌else◌, refl, sym, ap, ap₂, ◌∙◌, true≢false, inl, inr, All, arith}
use Rattle.std.specs.Prelude.{◌&&◌, ◌||◌, ◌==◌, not, filter}
use Rattle.std.specs.List.{list_any, slice_range}
use Rattle.std.proofs.lemmas.Bool.{cases_lt}
use Rattle.std.proofs.lemmas.Bool.Decides.{nat_tests}
use Rattle.std.proofs.lemmas.Option.{none-some}
use Rattle.hir_tree.specs.Core.{Core, pair, choice, plus, pair_all, choice_all, one_byte, optional, copies, up_to, at_least, with_more, repeat}
use Rattle.hir_tree.specs.Cores.{core_of_tree, cores_of_trees}
use Rattle.hir_tree.specs.Runs.{Run, runs}
use Rattle.grep_regex.specs.Stripping.{without, strip_byte, strip_each, stripped, asks_for, one_asks_for, not_allowed, is_one_of, is_clear}
use Rattle.hir_tree.specs.Tree.{Tree, Trees, none, more}
use Rattle.hir_tree.specs.Tree as tree
use Rattle.grep_regex.proofs.laws.FilterLemmas.{cut_core}
use Rattle.grep_regex.proofs.laws.StrippingLemmas.{without-filters, not-or}

module _ (cut : List (ℕ × ℕ) → List (ℕ × ℕ)) where
  -- the cut core
  abbrev cutted : Core → Core
  cutted = cut_core cut

  cut-pairs : (cs : List Core) → cutted (pair_all cs) ≡ pair_all (map cutted cs)
  cut-pairs [] = refl
  cut-pairs (a ∷ []) = refl
  cut-pairs (a ∷ b ∷ rest) = ap (pair (cutted a)) (cut-pairs (b ∷ rest))

  cut-choices : (cs : List Core) → cutted (choice_all cs) ≡ choice_all (map cutted cs)
  cut-choices [] = refl
  cut-choices (a ∷ rest) = ap (choice (cutted a)) (cut-choices rest)

  cut-copies : (n : ℕ) (a b : Core) → cutted (copies n a b) ≡ copies n (cutted a) (cutted b)
  cut-copies zero a b = refl
  cut-copies (suc n) a b = ap (pair (cutted a)) (cut-copies n a b)

  cut-optional : (greedy : Bool) (a : Core) → cutted (optional greedy a) ≡ optional greedy (cutted a)
  cut-optional true a = refl
  cut-optional false a = refl

  cut-up_to : (greedy : Bool) (n : ℕ) (a : Core) → cutted (up_to greedy n a) ≡ up_to greedy n (cutted a)
  cut-up_to greedy zero a = refl
  cut-up_to greedy (suc zero) a = cut-optional greedy a
  cut-up_to greedy (suc (suc n)) a =
      cut-optional greedy (pair a (up_to greedy (suc n) a)) ∙ ap (λ b. optional greedy (pair (cutted a) b)) (cut-up_to greedy (suc n) a)

  cut-same : (n : ℕ) (a : Core) → map cutted (replicate n a) ≡ replicate n (cutted a)
  cut-same zero a = refl
  cut-same (suc n) a = ap (λ cs. cutted a ∷ cs) (cut-same n a)

  cut-with_more : (greedy : Bool) (n more : ℕ) (a : Core) → cutted (with_more greedy n more a) ≡ with_more greedy n more (cutted a)
  cut-with_more greedy n zero a = cut-pairs (replicate n a) ∙ ap pair_all (cut-same n a)
  cut-with_more greedy n (suc m) a = cut-copies n a (up_to greedy (suc m) a) ∙ ap (copies n (cutted a)) (cut-up_to greedy (suc m) a)

  cut-at_least : (greedy : Bool) (n : ℕ) (a : Core) → cutted (at_least greedy n a) ≡ at_least greedy n (cutted a)
  cut-at_least greedy zero a = cut-optional greedy (plus greedy a)
  cut-at_least greedy (suc n) a = cut-copies n a (plus greedy a)

  pub cut-repeat : (least : ℕ) (most : Option ℕ) (greedy : Bool) (a : Core) → cutted (repeat least most greedy a) ≡ repeat least most greedy (cutted a)
  cut-repeat least None greedy a = cut-at_least greedy least a
  cut-repeat least (Some most) greedy a = cut-with_more greedy least (most - least) a

-- another byte stays
kept-byte : (b c : ℕ) → (c == b) ≡ false → without b ((c, c) ∷ []) ≡ (c, c) ∷ []
kept-byte b c e = elim (cases_lt c b) [
  | inl lt ↦
      let first : nat_lt c b ≡ true = grind (arith, nat_tests) in
      let second : nat_lt b c ≡ false = grind (arith, nat_tests) in
      let low : min c (b - 1) ≡ c = omega arith in
      rw (first, second, low) refl
  | inr ge ↦
      let first : nat_lt c b ≡ false = grind (arith, nat_tests) in
      let second : nat_lt b c ≡ true = grind (arith, nat_tests) in
      let some : b < c = grind (arith, nat_tests) in
      let high : max c (b + 1) ≡ c = omega (arith, some) in
      rw (first, second, high) refl
]

pub or-none : (x y : Bool) → (x || y) ≡ false → (x ≡ false) × (y ≡ false)
or-none true y e = absurd (true≢false e)
or-none false y e = (refl, e)

kept-bytes : (b : ℕ) (bytes : List ℕ) → list_any (λ c. c == b) bytes ≡ false → map (cut_core (without b)) (map one_byte bytes) ≡ map one_byte bytes
kept-bytes b [] e = refl
kept-bytes b (c ∷ bytes) e =
    let parts = or-none (c == b) (list_any (λ c. c == b) bytes) e in
    ap₂ (λ set cs. Core.byte_in set ∷ cs) (kept-byte b c parts.0) (kept-bytes b bytes parts.1)

mutual
  -- the core of the stripped tree is the old core, stripped
  pub core-stripped : (b : ℕ) (t : Tree) → asks_for b t ≡ false → core_of_tree (strip_byte b t) ≡ cut_core (without b) (core_of_tree t)
  core-stripped b tree.empty e = refl
  core-stripped b (tree.literal bytes) e = sym (cut-pairs (without b) (map one_byte bytes) ∙ ap pair_all (kept-bytes b bytes e))
  core-stripped b (tree.class_chars ranges) e = refl
  core-stripped b (tree.class_bytes ranges) e = refl
  core-stripped b (tree.look kind) e = refl
  core-stripped b (tree.repetition least most greedy part) e =
      ap (repeat least most greedy) (core-stripped b part e) ∙ sym (cut-repeat (without b) least most greedy (core_of_tree part))
  core-stripped b (tree.capture index name part) e = ap (Core.group index) (core-stripped b part e)
  core-stripped b (tree.concat parts) e = ap pair_all (cores-stripped b parts e) ∙ sym (cut-pairs (without b) (cores_of_trees parts))
  core-stripped b (tree.alternation parts) e = ap choice_all (cores-stripped b parts e) ∙ sym (cut-choices (without b) (cores_of_trees parts))

  cores-stripped : (b : ℕ) (ts : Trees) → one_asks_for b ts ≡ false → cores_of_trees (strip_each b ts) ≡ map (cut_core (without b)) (cores_of_trees ts)
  cores-stripped b none e = refl
  cores-stripped b (more part rest) e =
      let parts = or-none (asks_for b part) (one_asks_for b rest) e in
      ap₂ (λ c cs. c ∷ cs) (core-stripped b part parts.0) (cores-stripped b rest parts.1)

-- one test after another
filter-twice : {A : Type 0} (p q r : A → Bool) → ((x : A) → r x ≡ (p x && q x)) → (xs : List A) → filter q (filter p xs) ≡ filter r xs
filter-twice p q r h [] = refl
filter-twice p q r h (x ∷ xs) = cases (p x) (r x) (h x) (filter-twice p q r h xs)
  where
    cases : (a c : Bool) → c ≡ (a && q x) → filter q (filter p xs) ≡ filter r xs
        → filter q (cond a (x ∷ filter p xs) (filter p xs)) ≡ cond c (x ∷ filter r xs) (filter r xs)
    cases true c e rest = ap₂ (λ b ys. cond b (x ∷ ys) ys) (sym e) rest
    cases false c e rest = rest ∙ ap (λ b. cond b (x ∷ filter r xs) (filter r xs)) (sym e)

filter-all : {A : Type 0} (p : A → Bool) → ((x : A) → p x ≡ true) → (xs : List A) → filter p xs ≡ xs
filter-all p h [] = refl
filter-all p h (x ∷ xs) = ap₂ (λ b ys. cond b (x ∷ ys) ys) (h x) (filter-all p h xs)

no-byte : (xs : List ℕ) → list_any (is_one_of []) xs ≡ false
no-byte [] = refl
no-byte (x ∷ xs) = no-byte xs

or-parts : (p q : ℕ → Bool) (xs : List ℕ) → list_any (λ x. p x || q x) xs ≡ (list_any (λ x. p x || false) xs || list_any q xs)
or-parts p q [] = refl
or-parts p q (x ∷ xs) = ap (λ t. (p x || q x) || t) (or-parts p q xs) ∙ swap (p x) (q x) (list_any (λ x. p x || false) xs) (list_any q xs)
  where
    swap : (a b c d : Bool) → ((a || b) || (c || d)) ≡ (((a || false) || c) || (b || d))
    swap true b c d = refl
    swap false true true d = refl
    swap false true false d = refl
    swap false false c d = refl

-- clear of the first byte, and of the others
clear-parts : (b : ℕ) (rest text : List ℕ) (from to : ℕ) → is_clear (b ∷ rest) text from to ≡ (is_clear (b ∷ []) text from to && is_clear rest text from to)
clear-parts b rest text from to =
    ap not (or-parts (λ c. c == b) (is_one_of rest) (slice_range text from to))
    ∙ not-or (list_any (is_one_of (b ∷ [])) (slice_range text from to)) (list_any (is_one_of rest) (slice_range text from to))

-- a tree that can be stripped
pub allowed-parts : (b : ℕ) (rest : List ℕ) (t : Tree) → not_allowed (b ∷ rest) t ≡ None → (asks_for b t ≡ false) × (not_allowed rest (strip_byte b t) ≡ None)
allowed-parts b rest t e = cases (asks_for b t) refl e
  where
    cases : (a : Bool) → asks_for b t ≡ a → (if a then Some b else not_allowed rest (strip_byte b t)) ≡ None
        → (asks_for b t ≡ false) × (not_allowed rest (strip_byte b t) ≡ None)
    cases true k e = absurd (none-some b (sym e))
    cases false k e = (k, e)

pub stripping-filters : (bytes : List ℕ) (t : Tree) → All (λ b. b < 128) bytes → not_allowed bytes t ≡ None
    → (text : List ℕ) (n : ℕ) (r : Run) → r.at ≤ length text
    → runs text (core_of_tree (stripped bytes t)) n r ≡ filter (λ s. is_clear bytes text r.at s.at) (runs text (core_of_tree t) n r)
stripping-filters [] t small e text n r within =
    sym (filter-all (λ s. is_clear [] text r.at s.at) (λ s. ap not (no-byte (slice_range text r.at s.at))) (runs text (core_of_tree t) n r))
stripping-filters (b ∷ rest) t small e text n r within =
    let parts = allowed-parts b rest t e in
    stripping-filters rest (strip_byte b t) (λ k d lt. small (suc k) d (omega arith)) parts.1 text n r within
    ∙ ap (filter (λ s. is_clear rest text r.at s.at))
    (ap (λ core. runs text core n r) (core-stripped b t parts.0) ∙ without-filters b (small 0 b (omega arith)) text (core_of_tree t) n r within)
    ∙ filter-twice (λ s. is_clear (b ∷ []) text r.at s.at) (λ s. is_clear rest text r.at s.at) (λ s. is_clear (b ∷ rest) text r.at s.at)
    (λ s. clear-parts b rest text r.at s.at) (runs text (core_of_tree t) n r)
