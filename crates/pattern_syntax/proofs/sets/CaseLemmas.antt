-- Sets closed under folding.
use Rattle.std.proofs.Common.{◌≡◌, ⊎_elim, ℕ, ◌+◌, ◌-◌, ◌<◌, ◌≤◌, Bool, true, false, not, ◌&&◌, ◌||◌, ◌==◌, nat_le, List, [], ◌∷◌, length, take, if◌then◌else◌, refl, sym, ap, ap₂, ◌∙◌, true≢false, leb-true, arith}
use Rattle.std.specs.List.{list_all, list_any}
use Rattle.std.specs.Char.{to_ascii_lowercase, to_ascii_uppercase, is_ascii_alphabetic, is_ascii_lowercase, is_ascii_uppercase}
use Rattle.std.proofs.lemmas.List.{take_all}
use Rattle.std.proofs.lemmas.Bool.{and_parts, cases_Bool}
use Rattle.std.proofs.lemmas.Bool.Decides.{nat_tests}
use Rattle.unicode.specs.CaseFolding.{fold_pairs}
use Rattle.ucd_case.specs.FoldOtherRows.{fold_other_rows}
use Rattle.regex_class.specs.Ranges.{in_range, in_ranges, range_at}
use Rattle.regex_class.proofs.RangesLemmas.{in_ranges-more, in_ranges-nil}
use Rattle.pattern_syntax.specs.declared.flags.Flags.{Flags}
use Rattle.pattern_syntax.specs.Sets.{Set, closed, with_alike, with_cases}
use Rattle.pattern_syntax.proofs.sets.MemberLemmas.{Ends}

-- FOLDING OF CHARACTERS

lead_within : List (ℕ × ℕ) → Bool
lead_within = list_all (λ (p : ℕ × ℕ). nat_le p.1 0x10_FFFF)

image_ends : (ps : List (ℕ × ℕ)) → lead_within ps ≡ true → (s : Set) → Ends (λ c. list_any (λ (p : ℕ × ℕ). (p.1 == c) && s p.0) ps)
unfolding lead_within
image_ends [] within s c above = refl
image_ends (p ∷ ps) within s c above =
    let parts = and_parts (nat_le p.1 0x10_FFFF) (lead_within ps) within in
    let last : p.1 ≤ 0x10_FFFF = leb-true p.1 0x10_FFFF parts.0 in
    let later : list_any (λ (p : ℕ × ℕ). (p.1 == c) && s p.0) ps ≡ false = image_ends ps parts.1 s c above in
    let other : (p.1 == c) ≡ false = grind (arith, nat_tests) in
    ap₂ (λ a b. (a && s p.0) || b) other later

pairs_within : lead_within fold_pairs ≡ true
unfolding lead_within fold_pairs fold_other_rows
pairs_within = refl

pub alike_ends : (s : Set) → Ends s → Ends (with_alike s)
alike_ends s ends c above = ap₂ ◌||◌ (ends c above) (image_ends fold_pairs pairs_within s c above)

-- FOLDING OF ASCII LETTERS

-- the other case of an ASCII letter in the set
abbrev pub cased : Set → Set
cased s c = (is_ascii_lowercase c && s (c - 32)) || (is_ascii_uppercase c && s (c + 32))

lower_case : (s : Set) (c : ℕ) → is_ascii_lowercase c ≡ true → (s c || cased s c) ≡ with_cases s c
lower_case s c lower =
    let low : 97 ≤ c = grind (arith, nat_tests) in
    let high : c ≤ 122 = grind (arith, nat_tests) in
    let upper : is_ascii_uppercase c ≡ false = grind (arith, nat_tests) in
    let letter : is_ascii_alphabetic c ≡ true = grind (arith, nat_tests) in
    let same : to_ascii_lowercase c ≡ c = grind (arith, nat_tests) in
    let other : to_ascii_uppercase c ≡ c - 32 = grind (arith, nat_tests) in
    ap₂ (λ l u. s c || ((l && s (c - 32)) || (u && s (c + 32)))) lower upper ∙ mine_too (s c) (s (c - 32))
    ∙ sym (ap (λ l. s c || (l && (s (to_ascii_lowercase c) || s (to_ascii_uppercase c)))) letter ∙ ap₂ (λ d e. s c || (s d || s e)) same other)
  where
    mine_too : (a b : Bool) → (a || (b || false)) ≡ (a || (a || b))
    mine_too true b = refl
    mine_too false true = refl
    mine_too false false = refl

upper_case : (s : Set) (c : ℕ) → is_ascii_uppercase c ≡ true → (s c || cased s c) ≡ with_cases s c
upper_case s c upper =
    let low : 65 ≤ c = grind (arith, nat_tests) in
    let high : c ≤ 90 = grind (arith, nat_tests) in
    let lower : is_ascii_lowercase c ≡ false = grind (arith, nat_tests) in
    let letter : is_ascii_alphabetic c ≡ true = grind (arith, nat_tests) in
    let other : to_ascii_lowercase c ≡ c + 32 = grind (arith, nat_tests) in
    let same : to_ascii_uppercase c ≡ c = grind (arith, nat_tests) in
    ap₂ (λ l u. s c || ((l && s (c - 32)) || (u && s (c + 32)))) lower upper ∙ mine_too (s c) (s (c + 32))
    ∙ sym (ap (λ l. s c || (l && (s (to_ascii_lowercase c) || s (to_ascii_uppercase c)))) letter ∙ ap₂ (λ d e. s c || (s d || s e)) other same)
  where
    mine_too : (a b : Bool) → (a || b) ≡ (a || (b || a))
    mine_too true b = refl
    mine_too false true = refl
    mine_too false false = refl

no_letter : (s : Set) (c : ℕ) → is_ascii_lowercase c ≡ false → is_ascii_uppercase c ≡ false → (s c || cased s c) ≡ with_cases s c
no_letter s c lower upper = rw (lower, upper) refl

-- with the other cases
pub cases_are : (s : Set) (c : ℕ) → (s c || cased s c) ≡ with_cases s c
cases_are s c =
    ⊎_elim
    (λ lower. lower_case s c lower)
    (λ other. ⊎_elim (λ upper. upper_case s c upper) (λ none. no_letter s c other none) (cases_Bool (is_ascii_uppercase c)))
    (cases_Bool (is_ascii_lowercase c))

pub cases_end : (s : Set) → Ends s → Ends (with_cases s)
cases_end s ends c above =
    let letter : is_ascii_alphabetic c ≡ false = grind (arith, nat_tests) in
    ap₂ (λ a b. a || (b && (s (to_ascii_lowercase c) || s (to_ascii_uppercase c)))) (ends c above) letter

-- one more range
grown : (o l u a b d e : Bool) → ((o || ((l && a) || (u && b))) || (l && d)) || (u && e) ≡ (o || ((l && (a || d)) || (u && (b || e))))
grown true l u a b d e = refl
grown false true true a b d e = grind arith
grown false true false a b d e = grind arith
grown false false true a b d e = grind arith
grown false false false a b d e = refl

-- what is there after so many ranges: the set itself, and the other cases of those
abbrev pub HasCased : List (ℕ × ℕ) → List (ℕ × ℕ) → ℕ → Type 0
HasCased ranges own i = (c : ℕ) → in_ranges ranges c ≡ (in_ranges own c || cased (in_ranges (take i own)) c)

pub cased_start : (ranges own : List (ℕ × ℕ)) → ranges ≡ own → HasCased ranges own 0
cased_start ranges own e c = ap (λ rs. in_ranges rs c) e ∙ grind (arith, in_ranges-nil (c - 32), in_ranges-nil (c + 32))

pub cased_next : (ranges middle new own : List (ℕ × ℕ)) (i : ℕ) (r : ℕ × ℕ) → i < length own → r ≡ range_at own i
    → ((c : ℕ) → in_ranges middle c ≡ (in_ranges ranges c || (is_ascii_lowercase c && in_range r (c - 32))))
    → ((c : ℕ) → in_ranges new c ≡ (in_ranges middle c || (is_ascii_uppercase c && in_range r (c + 32))))
    → HasCased ranges own i → HasCased new own (i + 1)
cased_next ranges middle new own i r within here lower upper so_far c =
    let more = λ (d : ℕ). in_ranges-more own i d within ∙ ap (λ z. in_ranges (take i own) d || in_range z d) (sym here) in
    upper c
    ∙ ap (λ b. b || (is_ascii_uppercase c && in_range r (c + 32))) (lower c ∙ ap (λ b. b || (is_ascii_lowercase c && in_range r (c - 32))) (so_far c))
    ∙ grown (in_ranges own c) (is_ascii_lowercase c) (is_ascii_uppercase c) (in_ranges (take i own) (c - 32)) (in_ranges (take i own) (c + 32)) (in_range r (c - 32)) (in_range r (c + 32))
    ∙ sym (ap₂ (λ a b. in_ranges own c || ((is_ascii_lowercase c && a) || (is_ascii_uppercase c && b))) (more (c - 32)) (more (c + 32)))

-- all ranges were looked at
pub cased_end : (ranges own items : List (ℕ × ℕ)) (i : ℕ) → length own ≤ i → own ≡ items → HasCased ranges own i
    → (c : ℕ) → in_ranges ranges c ≡ with_cases (in_ranges items) c
cased_end ranges own items i past same so_far c =
    so_far c ∙ ap (λ rs. in_ranges own c || cased (in_ranges rs) c) (take_all i own past)
    ∙ ap (λ rs. in_ranges rs c || cased (in_ranges rs) c) same ∙ cases_are (in_ranges items) c

both_chosen : (folds unicode : Bool) (alike cases own : Set) → not folds ≡ false → unicode ≡ true
    → (c : ℕ) → alike c ≡ (if folds then (if unicode then alike else cases) else own) c
both_chosen true true alike cases own folded characters c = refl
both_chosen true false alike cases own folded characters c = absurd (true≢false (sym characters))
both_chosen false unicode alike cases own folded characters c = absurd (true≢false folded)

-- characters fold
pub closed_alike : (k : Flags) (s : Set) → not k.folds ≡ false → k.unicode ≡ true → (c : ℕ) → with_alike s c ≡ closed k s c
closed_alike k s = both_chosen k.folds k.unicode (with_alike s) (with_cases s) s
