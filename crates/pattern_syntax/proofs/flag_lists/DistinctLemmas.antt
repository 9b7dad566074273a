-- Lists without a character twice.
use Rattle.std.proofs.Common.{◌≡◌, ℕ, ◌+◌, ◌<◌, Bool, true, false, not, List, [], ◌∷◌, ◌++◌, ◌==◌, ◌&&◌, ◌||◌, length, take, drop, get_or, refl, sym, ap, ap₂, ◌∙◌, ⊎_elim, true≢false}
use Rattle.std.proofs.lemmas.Bool.{and_parts, and_from, and_left, and_right, both_ways, cases_Bool, eqb-true, eq-eqb, or_parts, or_from, or_left, or_right, or_cases, false_from_ne_true}
use Rattle.std.proofs.lemmas.List.{take-append-drop, take_more}
use Rattle.pattern_syntax.specs.Flags.{has, are_letters}
use Rattle.pattern_syntax.specs.Runs.{is_flag}
use Rattle.pattern_syntax.specs.OpeningReaders.{are_distinct}
use Rattle.pattern_syntax.proofs.BlanksLemmas.{cut_at}
use Rattle.std.specs.List.{list_all}

has_not_more : (c x : ℕ) (xs : List ℕ) → has c xs ≡ false → (x == c) ≡ false → has c (xs ++ (x ∷ [])) ≡ false
has_not_more c x [] h n = or_from (x == c) false n refl
has_not_more c x (d ∷ xs) h n =
    let parts = or_parts (d == c) (has c xs) h in or_from (d == c) (has c (xs ++ (x ∷ []))) parts.0 (has_not_more c x xs parts.1 n)

turned : (c x : ℕ) → (c == x) ≡ false → (x == c) ≡ false
turned c x h = false_from_ne_true (x == c) (λ e. both_ways (c == x) h (eq-eqb c x (sym (eqb-true x c e))))

-- one more that isn't among them
pub distinct_more : (xs : List ℕ) (x : ℕ) → are_distinct xs ≡ true → has x xs ≡ false → are_distinct (xs ++ (x ∷ [])) ≡ true
distinct_more [] x d h = refl
distinct_more (c ∷ xs) x d h =
    let parts = and_parts (not (has c xs)) (are_distinct xs) d in
    let apart = or_parts (c == x) (has x xs) h in
    let none : has c xs ≡ false = ⊎_elim (λ yes. absurd (true≢false (sym parts.0 ∙ ap not yes))) (λ no. no) (cases_Bool (has c xs)) in
    and_from (not (has c (xs ++ (x ∷ [])))) (are_distinct (xs ++ (x ∷ []))) (ap not (has_not_more c x xs none (turned c x apart.0)))
    (distinct_more xs x parts.1 apart.1)

has_there : (c x : ℕ) (xs ys : List ℕ) → (c == x) ≡ true → has c (xs ++ (x ∷ ys)) ≡ true
has_there c x [] ys h = or_left (x == c) (has c ys) (eq-eqb x c (sym (eqb-true c x h)))
has_there c x (d ∷ xs) ys h = or_right (d == c) (has c (xs ++ (x ∷ ys))) (has_there c x xs ys h)

-- one that is among those before it
pub stands_twice : (xs ys : List ℕ) (x : ℕ) → has x xs ≡ true → are_distinct (xs ++ (x ∷ ys)) ≡ false
stands_twice [] ys x h = absurd (true≢false (sym h))
stands_twice (c ∷ xs) ys x h =
    ⊎_elim
    (λ here. and_left (not (has c (xs ++ (x ∷ ys)))) (are_distinct (xs ++ (x ∷ ys))) (ap not (has_there c x xs ys here)))
    (λ later. and_right (not (has c (xs ++ (x ∷ ys)))) (are_distinct (xs ++ (x ∷ ys))) (stands_twice xs ys x later))
    (or_cases (c == x) (has x xs) h)

-- the characters before a place, it, and those behind it
pub around : (cs : List ℕ) (i d : ℕ) → i < length cs → cs ≡ take i cs ++ (get_or cs i d ∷ drop (i + 1) cs)
around cs i d lt = sym (take-append-drop i cs) ∙ ap (λ z. take i cs ++ z) (cut_at cs i d lt)

pub distinct_step : (cs : List ℕ) (i d : ℕ) → i < length cs → are_distinct (take i cs) ≡ true → has (get_or cs i d) (take i cs) ≡ false → are_distinct (take (i + 1) cs) ≡ true
distinct_step cs i d lt distinct none = ap are_distinct (take_more cs i d lt) ∙ distinct_more (take i cs) (get_or cs i d) distinct none

pub twice_at : (cs : List ℕ) (i d : ℕ) → i < length cs → has (get_or cs i d) (take i cs) ≡ true → are_distinct cs ≡ false
twice_at cs i d lt there = ap are_distinct (around cs i d lt) ∙ stands_twice (take i cs) (drop (i + 1) cs) (get_or cs i d) there

-- ---- letters of flags

pub flag_no_dash : (c : ℕ) → is_flag c ≡ true → (45 == c) ≡ false
flag_no_dash c h = false_from_ne_true (45 == c) (λ e. true≢false (sym h ∙ ap is_flag (sym (eqb-true 45 c e))))

has_skip : (c : ℕ) → (45 == c) ≡ false → (xs ys : List ℕ) → has c (xs ++ (45 ∷ ys)) ≡ has c (xs ++ ys)
has_skip c n [] ys = ap (λ b. b || has c ys) n
has_skip c n (x ∷ xs) ys = ap (λ b. (x == c) || b) (has_skip c n xs ys)

no_dash : (cs : List ℕ) → list_all is_flag cs ≡ true → has 45 cs ≡ false
no_dash [] h = refl
no_dash (c ∷ cs) h =
    let parts = and_parts (is_flag c) (list_all is_flag cs) h in or_from (c == 45) (has 45 cs) (turned 45 c (flag_no_dash c parts.0)) (no_dash cs parts.1)

-- a `-` among letters doesn't matter
pub distinct_skip : (xs ys : List ℕ) → list_all is_flag xs ≡ true → list_all is_flag ys ≡ true → are_distinct (xs ++ (45 ∷ ys)) ≡ are_distinct (xs ++ ys)
distinct_skip [] ys a b = ap (λ z. not z && are_distinct ys) (no_dash ys b)
distinct_skip (x ∷ xs) ys a b =
    let parts = and_parts (is_flag x) (list_all is_flag xs) a in
    ap₂ (λ p q. not p && q) (has_skip x (flag_no_dash x parts.0) xs ys) (distinct_skip xs ys parts.1 b)

pub all_left : (p : ℕ → Bool) (xs ys : List ℕ) → list_all p (xs ++ ys) ≡ true → list_all p xs ≡ true
all_left p [] ys h = refl
all_left p (x ∷ xs) ys h = let parts = and_parts (p x) (list_all p (xs ++ ys)) h in and_from (p x) (list_all p xs) parts.0 (all_left p xs ys parts.1)

pub all_right : (p : ℕ → Bool) (xs ys : List ℕ) → list_all p (xs ++ ys) ≡ true → list_all p ys ≡ true
all_right p [] ys h = h
all_right p (x ∷ xs) ys h = all_right p xs ys (and_parts (p x) (list_all p (xs ++ ys)) h).1

pub all_both : (p : ℕ → Bool) (xs ys : List ℕ) → list_all p xs ≡ true → list_all p ys ≡ true → list_all p (xs ++ ys) ≡ true
all_both p [] ys a b = b
all_both p (x ∷ xs) ys a b = let parts = and_parts (p x) (list_all p xs) a in and_from (p x) (list_all p (xs ++ ys)) parts.0 (all_both p xs ys parts.1 b)

pub letters_are_flags : (cs : List ℕ) → are_letters cs ≡ true → list_all is_flag cs ≡ true
letters_are_flags [] h = refl
letters_are_flags (c ∷ cs) h =
    let parts = and_parts (is_flag c && not (has c cs)) (are_letters cs) h in
    and_from (is_flag c) (list_all is_flag cs) (and_parts (is_flag c) (not (has c cs)) parts.0).0 (letters_are_flags cs parts.1)

pub letters_are_distinct : (cs : List ℕ) → are_letters cs ≡ true → are_distinct cs ≡ true
letters_are_distinct [] h = refl
letters_are_distinct (c ∷ cs) h =
    let parts = and_parts (is_flag c && not (has c cs)) (are_letters cs) h in
    and_from (not (has c cs)) (are_distinct cs) (and_parts (is_flag c) (not (has c cs)) parts.0).1 (letters_are_distinct cs parts.1)

pub letters_from : (cs : List ℕ) → list_all is_flag cs ≡ true → are_distinct cs ≡ true → are_letters cs ≡ true
letters_from [] a d = refl
letters_from (c ∷ cs) a d =
    let flags = and_parts (is_flag c) (list_all is_flag cs) a in
    let parts = and_parts (not (has c cs)) (are_distinct cs) d in
    and_from (is_flag c && not (has c cs)) (are_letters cs) (and_from (is_flag c) (not (has c cs)) flags.0 parts.0) (letters_from cs flags.1 parts.1)
