-- The tests of what stands at a place and of its outcomes.
use Rattle.std.proofs.Common.{◌≡◌, ℕ, List, [], ◌∷◌, ◌++◌, map, refl, ◌∙◌, ap, Bool, true, false, cond, arith}
use Rattle.std.specs.Prelude.{Option, Some, None, not, ◌&&◌, ◌||◌, ◌==◌, IsSome}
use Rattle.std.specs.List.{list_any, list_all}
use Rattle.std.specs.Cmp.Lexicographic.{bytes_decides}
use Rattle.std.proofs.lemmas.Bool.Decides.{nat_tests}
use Rattle.sd_io.specs.Tree.{Content, directory, link, file, other, Node, file_content, file_node}
use Rattle.sd_io.specs.Outcomes.{Left, gone, this, any_file, Outcome, own, older, own_of, left_behind, settled, settled_left, alone, content_of}
use Rattle.mem_io.specs.Log.{same_content, fits_test, is_left, is_own_of, is_tidy, is_gone, has_other, alone_or_gone, alone_by_own}
use Rattle.mem_io.specs.LogHolds.{both}
use Rattle.sd_io.proofs.OutcomeLemmas.{own_append, own_twice, own_settled}

-- ---- contents

number_itself : (n : ℕ) → (n == n) ≡ true
number_itself n = grind (arith, nat_tests)

pub content_itself : (c : Content) → same_content c c ≡ true
content_itself directory = refl
content_itself (link t) = (bytes_decides t t).1 refl
content_itself (file b m) = (λ i. (bytes_decides b b).1 refl i && (m == m)) ∙ number_itself m
content_itself other = refl

-- what fits something is not absent
fits_other : (c : Content) (left : Left) → fits_test (Some c) left ≡ true → not (is_gone left) ≡ true
fits_other c gone e = cc
fits_other c (this node) e = refl
fits_other c any_file e = refl

-- ---- some outcome passes a test

pub any_last : (f : Outcome → Bool) (xs : List Outcome) (x : Outcome) → f x ≡ true → list_any f (xs ++ x ∷ []) ≡ true
any_last f [] x e = ap (λ b. b || false) e
any_last f (y ∷ ys) x e = by (any_last f ys x e) (f y)
  where
    by : list_any f (ys ++ x ∷ []) ≡ true → (b : Bool) → (b || list_any f (ys ++ x ∷ [])) ≡ true
    by rest true = refl
    by rest false = rest

pub any_first : (f : Outcome → Bool) (xs ys : List Outcome) → list_any f xs ≡ true → list_any f (xs ++ ys) ≡ true
any_first f [] ys e = cc
any_first f (x ∷ xs) ys e = by (any_first f xs ys) (f x) e
  where
    by : (list_any f xs ≡ true → list_any f (xs ++ ys) ≡ true) → (b : Bool) → (b || list_any f xs) ≡ true → (b || list_any f (xs ++ ys)) ≡ true
    by rest true e = refl
    by rest false e = rest e

-- one test passes where another does
pub any_more : (f g : Outcome → Bool) (change : Outcome → Outcome) (xs : List Outcome) → ((x : Outcome) → f x ≡ true → g (change x) ≡ true) → list_any f xs ≡ true → list_any g (map change xs) ≡ true
any_more f g change [] passes e = cc
any_more f g change (x ∷ xs) passes e = by (any_more f g change xs passes) (f x) (passes x) e
  where
    by : (list_any f xs ≡ true → list_any g (map change xs) ≡ true) → (b : Bool) → (b ≡ true → g (change x) ≡ true) → (b || list_any f xs) ≡ true → (g (change x) || list_any g (map change xs)) ≡ true
    by rest true here e = ap (λ b. b || list_any g (map change xs)) (here refl)
    by rest false here e = or_last (g (change x)) (rest e)
      where
        or_last : (b : Bool) → list_any g (map change xs) ≡ true → (b || list_any g (map change xs)) ≡ true
        or_last true e = refl
        or_last false e = e

-- an own outcome is one of all
pub any_own : (f g : Outcome → Bool) (xs : List Outcome) → ((x : Outcome) → f x ≡ true → g x ≡ true) → list_any f (own_of xs) ≡ true → list_any g xs ≡ true
any_own f g [] passes e = cc
any_own f g (x ∷ xs) passes e = by (any_own f g xs passes) x.is_own x.left e
  where
    or_last : (b : Bool) → list_any g xs ≡ true → (b || list_any g xs) ≡ true
    or_last true e = refl
    or_last false e = e

    first : (o : Outcome) (b : Bool) → (b ≡ true → g o ≡ true) → (list_any f (own_of xs) ≡ true → list_any g xs ≡ true) → (b || list_any f (own_of xs)) ≡ true → (g o || list_any g xs) ≡ true
    first o true here rest e = ap (λ b. b || list_any g xs) (here refl)
    first o false here rest e = or_last (g o) (rest e)

    by : (list_any f (own_of xs) ≡ true → list_any g xs ≡ true) → (b : Bool) (left : Left) → list_any f (cond b (record { is_own = b; left = left } ∷ own_of xs) (own_of xs)) ≡ true
        → (g (record { is_own = b; left = left }) || list_any g xs) ≡ true
    by rest true left e = first (record { is_own = true; left = left }) (f (record { is_own = true; left = left })) (passes (record { is_own = true; left = left })) rest e
    by rest false left e = or_last (g (record { is_own = false; left = left })) (rest e)

-- what stands has an outcome other than absent
pub standing_other : (c : Content) (xs : List Outcome) → is_left (Some c) xs ≡ true → has_other xs ≡ true
standing_other c xs e = any_own (λ outcome. fits_test (Some c) outcome.left) (λ outcome. not (is_gone outcome.left)) xs (λ x. fits_other c x.left) e

-- what is left is so with more outcomes
pub left_more : (found : Option Content) (xs ys : List Outcome) → is_left found xs ≡ true → is_left found (xs ++ ys) ≡ true
left_more None xs ys e = any_first (λ outcome. fits_test None outcome.left) xs ys e
left_more (Some c) xs ys e =
    let test = λ (outcome : Outcome). fits_test (Some c) outcome.left in
    ap (list_any test) (own_append xs ys) ∙ any_first test (own_of xs) (own_of ys) e

-- any bytes of a file may be left
pub any_file_last : (bytes : List ℕ) (mode : ℕ) (outcomes : List Outcome) → is_left (Some (file bytes mode)) (outcomes ++ own any_file ∷ []) ≡ true
any_file_last bytes mode outcomes =
    ap (list_any (λ outcome. fits_test (Some (file bytes mode)) outcome.left)) (own_append outcomes (own any_file ∷ []))
    ∙ any_last (λ outcome. fits_test (Some (file bytes mode)) outcome.left) (own_of outcomes) (own any_file) refl

-- a settled file is still left
pub settled_left_still : (node : Node) (xs : List Outcome) → is_left (Some node.content) xs ≡ true → is_left (Some node.content) (map (settled node) xs) ≡ true
settled_left_still node xs e =
    let test = λ (outcome : Outcome). fits_test (Some node.content) outcome.left in
    ap (list_any test) (own_settled node xs) ∙ any_more test test (settled node) (own_of xs) still e
  where
    lefts : (b : Bool) (left : Left) → fits_test (Some node.content) left ≡ true → fits_test (Some node.content) (cond b (settled_left node left) left) ≡ true
    lefts false left e = e
    lefts true gone e = e
    lefts true (this earlier) e = e
    lefts true any_file e = content_itself node.content

    still : (x : Outcome) → fits_test (Some node.content) x.left ≡ true → fits_test (Some node.content) (settled node x).left ≡ true
    still x e = lefts x.is_own x.left e

-- ---- marks

-- nothing that was left behind is own, nor what is added as older
pub none_own : (xs : List Outcome) → list_any (λ outcome. outcome.is_own) (left_behind xs ++ older gone ∷ []) ≡ false
none_own [] = refl
none_own (x ∷ xs) = none_own xs

none_behind : (ys : List Outcome) → not (list_any (λ outcome. outcome.is_own) (left_behind ys)) ≡ true
none_behind [] = refl
none_behind (y ∷ ys) = none_behind ys

-- a free place stays tidy with what others leave behind
pub free_tidy_more : (xs ys : List Outcome) → is_tidy None xs ≡ true → is_tidy None (xs ++ left_behind ys) ≡ true
free_tidy_more [] ys e = none_behind ys
free_tidy_more (x ∷ xs) ys e = by (free_tidy_more xs ys) x.is_own e
  where
    by : (is_tidy None xs ≡ true → is_tidy None (xs ++ left_behind ys) ≡ true) → (b : Bool) → not (b || list_any (λ outcome. outcome.is_own) xs) ≡ true
        → not (b || list_any (λ outcome. outcome.is_own) (xs ++ left_behind ys)) ≡ true
    by rest true e = cc
    by rest false e = rest e

-- all are own
all_own : (c : Content) (xs : List Outcome) → list_all (is_own_of c) xs ≡ true → own_of xs ≡ xs
all_own c [] e = refl
all_own c (x ∷ xs) e = by (all_own c xs) x.is_own x.left e
  where
    by : (list_all (is_own_of c) xs ≡ true → own_of xs ≡ xs) → (b : Bool) (left : Left) → (is_own_of c (record { is_own = b; left = left }) && list_all (is_own_of c) xs) ≡ true
        → cond b (record { is_own = b; left = left } ∷ own_of xs) (own_of xs) ≡ record { is_own = b; left = left } ∷ xs
    by rest true left e = ap (λ os. record { is_own = true; left = left } ∷ os) (rest (both (fits_test (Some c) left) (list_all (is_own_of c) xs) e).1)
    by rest false left e = cc

no_own : (xs : List Outcome) → is_tidy None xs ≡ true → own_of xs ≡ []
no_own [] e = refl
no_own (x ∷ xs) e = by (no_own xs) x.is_own x.left e
  where
    by : (is_tidy None xs ≡ true → own_of xs ≡ []) → (b : Bool) (left : Left) → not (b || list_any (λ outcome. outcome.is_own) xs) ≡ true
        → cond b (record { is_own = b; left = left } ∷ own_of xs) (own_of xs) ≡ []
    by rest true left e = cc
    by rest false left e = rest e

-- ---- what stands alone in a folder

-- where own ones are, they stand alone
some_own : (test : Outcome → Bool) (xs : List Outcome) → list_any test (own_of xs) ≡ true → alone_by_own xs ≡ own_of xs
some_own test xs e = by (own_of xs) e
  where
    by : (os : List Outcome) → list_any test os ≡ true → alone_or_gone os ≡ os
    by [] e = cc
    by (o ∷ os) e = refl

pub alone_told : (stands : Option Node) (outcomes : List Outcome) → is_left (content_of stands) outcomes ≡ true → is_tidy (content_of stands) outcomes ≡ true → alone_by_own outcomes ≡ alone stands outcomes
alone_told None outcomes left tidy = ap alone_or_gone (no_own outcomes tidy)
alone_told (Some node) outcomes left tidy = by node.content left tidy
  where
    by : (c : Content) → list_any (λ outcome. fits_test (Some c) outcome.left) (own_of outcomes) ≡ true → is_tidy (Some c) outcomes ≡ true
        → alone_by_own outcomes ≡ alone (Some (record { content = c; dev = node.dev; ino = node.ino })) outcomes
    by directory left tidy = some_own (λ outcome. fits_test (Some directory) outcome.left) outcomes left ∙ all_own directory outcomes tidy
    by (link t) left tidy = some_own (λ outcome. fits_test (Some (link t)) outcome.left) outcomes left ∙ all_own (link t) outcomes tidy
    by (file b m) left tidy = some_own (λ outcome. fits_test (Some (file b m)) outcome.left) outcomes left
    by other left tidy = some_own (λ outcome. fits_test (Some other) outcome.left) outcomes left ∙ all_own other outcomes tidy

-- what stands alone is what stands
pub alone_left : (found : Option Content) (xs : List Outcome) → is_left found xs ≡ true → is_tidy found xs ≡ true → is_left found (alone_by_own xs) ≡ true
alone_left None xs left tidy = ap (λ os. is_left None (alone_or_gone os)) (no_own xs tidy)
alone_left (Some c) xs left tidy =
    let test = λ (outcome : Outcome). fits_test (Some c) outcome.left in
    ap (λ os. list_any test (own_of os)) (some_own test xs left) ∙ ap (list_any test) (own_twice xs) ∙ left

pub alone_tidy : (found : Option Content) (xs : List Outcome) → is_left found xs ≡ true → is_tidy found xs ≡ true → is_tidy found (alone_by_own xs) ≡ true
alone_tidy None xs left tidy = ap (λ os. is_tidy None (alone_or_gone os)) (no_own xs tidy)
alone_tidy (Some directory) xs left tidy =
    ap (list_all (is_own_of directory)) (some_own (λ outcome. fits_test (Some directory) outcome.left) xs left ∙ all_own directory xs tidy) ∙ tidy
alone_tidy (Some (link t)) xs left tidy =
    ap (list_all (is_own_of (link t))) (some_own (λ outcome. fits_test (Some (link t)) outcome.left) xs left ∙ all_own (link t) xs tidy) ∙ tidy
alone_tidy (Some (file b m)) xs left tidy = refl
alone_tidy (Some other) xs left tidy =
    ap (list_all (is_own_of other)) (some_own (λ outcome. fits_test (Some other) outcome.left) xs left ∙ all_own other xs tidy) ∙ tidy

pub alone_other : (xs : List Outcome) → has_other (alone_by_own xs) ≡ true → has_other xs ≡ true
alone_other xs e = any_own (λ outcome. not (is_gone outcome.left)) (λ outcome. not (is_gone outcome.left)) xs (λ x h. h) (by (own_of xs) e)
  where
    by : (os : List Outcome) → has_other (alone_or_gone os) ≡ true → has_other os ≡ true
    by [] e = cc
    by (o ∷ os) e = e

-- ---- files

-- what a regular file's content is
pub file_is : (o : Option Node) → IsSome (file_node o) → (f : List ℕ × ℕ) × (content_of o ≡ Some (file f.0 f.1))
file_is None e = cc
file_is (Some node) e = by node.content e
  where
    by : (c : Content) → IsSome (file_content c) → (f : List ℕ × ℕ) × (Some c ≡ Some (file f.0 f.1))
    by directory e = cc
    by (link target) e = cc
    by (file b m) e = ((b, m), refl)
    by other e = cc
