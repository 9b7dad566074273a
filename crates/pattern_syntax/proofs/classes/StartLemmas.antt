-- What a class begins with.
use Rattle.std.specs.Prelude.{is_some}
use Rattle.std.proofs.Common.{◌≡◌, ◌<◌, ◌≤◌, ℕ, ◌+◌, Bool, true, false, ◌||◌, ◌&&◌, ◌==◌, not, nat_lt, if◌then◌else◌, List, [], ◌∷◌, ◌++◌, length, map, refl, sym, ap, ap₂, ◌∙◌, arith}
use Rattle.std.specs.List.{list_any}
use Rattle.std.specs.Int.{from_bool}
use Rattle.std.proofs.lemmas.Bool.Decides.{nat_tests}
use Rattle.unicode.specs.Binary.{is_uppercase}
use Rattle.pattern_syntax.specs.declared.classes.heads.ClassHead.{ClassHead}
use Rattle.pattern_syntax.specs.Flags.{Blank, is_nil}
use Rattle.pattern_syntax.specs.Class.{Head, head_set, head_count}
use Rattle.pattern_syntax.specs.ClassProgress.{start}
use Rattle.pattern_syntax.specs.ClassReading.{framed, held, IsHead}
use Rattle.pattern_syntax.proofs.RangesLemmas.{same_set}
use Rattle.pattern_syntax.proofs.classes.UnionLemmas.{literals_as, same_literals, same_frame, dash_small, bracket_small}

more_than_none : (n : ℕ) → 0 < n → nat_lt 0 n ≡ true
more_than_none n h = grind (arith, nat_tests)

some_dashes : (ds : List (List Blank)) → nat_lt 0 (length ds) ≡ not (is_nil ds)
some_dashes [] = refl
some_dashes (d ∷ ds) = more_than_none (length (d ∷ ds)) (omega arith)

abbrev dash_of : List Blank → ℕ
dash_of bs = 45

abbrev brackets : Bool → List ℕ
brackets b = if b then 93 ∷ [] else []

any_literal : (ds : List (List Blank)) (b : Bool) → nat_lt 0 (length ds + (if b then 1 else 0)) ≡ not (is_nil (map dash_of ds ++ brackets b))
any_literal [] true = refl
any_literal [] false = refl
any_literal (d ∷ ds) b = more_than_none (length (d ∷ ds) + (if b then 1 else 0)) (omega arith)

no_upper : (ds : List (List Blank)) (b : Bool) → list_any is_uppercase (map dash_of ds ++ brackets b) ≡ false
no_upper [] true = ap (λ x. x || false) bracket_small
no_upper [] false = refl
no_upper (d ∷ ds) b = ap₂ (λ x y. x || y) dash_small (no_upper ds b)

leading_set : (dashes : ℕ) (bracket : Bool) (h : Head) → dashes ≡ length h.dashes → bracket ≡ is_some h.bracket → (c : ℕ)
    → ((c == 45 && nat_lt 0 dashes) || (c == 93 && bracket)) ≡ head_set h c
leading_set dashes bracket h d b c =
    ap₂ (λ x y. (c == 45 && x) || (c == 93 && y)) (ap (nat_lt 0) d ∙ some_dashes h.dashes) b

-- the class of which a head was read
pub started : (head : ClassHead) (h : Head) (ranges : List (ℕ × ℕ)) (count : ℕ) → IsHead head h
    → ((c : ℕ) → held ranges c ≡ ((c == 45 && nat_lt 0 head.dashes) || (c == 93 && head.bracket))) → count ≡ head.dashes + (if head.bracket then 1 else 0)
    → framed head.negated (record { waiting = (start h).waiting; union = held ranges; left = (start h).left; count = count; deepest = 0; literals = literals_as (nat_lt 0 count) false })
    ≡ framed (is_some h.negated) (start h)
started head h ranges count is members many =
    let counted : count ≡ head_count h = many ∙ ap₂ (λ n b. n + (if b then 1 else 0)) is.1 is.2 in
    same_frame _ _ _ _ _ _ _ _ _ _ _ _ _ _ is.0 refl
    (same_set _ _ (λ c. members c ∙ leading_set head.dashes head.bracket h is.1 is.2 c))
    refl counted refl
    (same_literals _ _ _ _ (ap (nat_lt 0) counted ∙ any_literal h.dashes (is_some h.bracket)) (sym (no_upper h.dashes (is_some h.bracket))))

-- ---- the leading members, as they are added

one_true : (x : Bool) → x ≡ (x && true)
one_true true = refl
one_true false = refl

one_false : (x : Bool) → (x && false) ≡ false
one_false true = refl
one_false false = refl

pub first_pushed : (c dashes : ℕ) (held_before : Bool) → held_before ≡ false → 0 < dashes → (held_before || c == 45) ≡ (c == 45 && nat_lt 0 dashes)
first_pushed c dashes b e more = ap (λ b. b || c == 45) e ∙ one_true (c == 45) ∙ ap (λ b. c == 45 && b) (sym (more_than_none dashes more))

none_less : (n : ℕ) → n ≤ 0 → nat_lt 0 n ≡ false
none_less n h = grind (arith, nat_tests)

pub first_none : (c dashes : ℕ) (held_before : Bool) → held_before ≡ false → dashes ≤ 0 → held_before ≡ (c == 45 && nat_lt 0 dashes)
first_none c dashes b e none = e ∙ sym (one_false (c == 45)) ∙ ap (λ b. c == 45 && b) (sym (none_less dashes none))

pub second_pushed : (x y bracket : Bool) → bracket ≡ true → (x || y) ≡ (x || (y && bracket))
second_pushed x y b e = ap (λ y. x || y) (one_true y ∙ ap (λ b. y && b) (sym e))

or_false : (x : Bool) → x ≡ (x || false)
or_false true = refl
or_false false = refl

pub second_none : (x y bracket : Bool) → bracket ≡ false → x ≡ (x || (y && bracket))
second_none x y b e = or_false x ∙ ap (λ z. x || z) (sym (one_false y) ∙ ap (λ b. y && b) (sym e))

pub byte_if : (b : Bool) → from_bool b ≡ (if b then 1 else 0)
byte_if true = refl
byte_if false = refl
