-- What stands before the character that comes next is blanks.
use Rattle.std.proofs.Common.{◌≡◌, ◌≤◌, ℕ, Bool, true, false, List, [], ◌∷◌, ◌++◌, ◌==◌, ◌||◌, if◌then◌else◌, length, refl, sym, ap, ◌∙◌, eqb-true, arith}
use Rattle.ucd_props.proofs.Computing.{ucd_props}
use Rattle.unicode.specs.Binary.{is_white_space}
use Rattle.pattern_syntax.specs.declared.flags.Flags.{Flags}
use Rattle.pattern_syntax.specs.Flags.{Blank, white, comment, write_blanks, FineBlanks, has, ends_line, passed, after_line, seen, seen_if}
use Rattle.pattern_syntax.proofs.BlanksLemmas.{passed_white, passed_clear, left_line, left_on, left_comment}

newline_white : is_white_space 10 ≡ true
unfolding ucd_props
newline_white = refl

pub nil_cons : (c : ℕ) (t : List ℕ) → [] ≡ c ∷ t → ⊥
nil_cons c t e = cc

pub or_none : (a b : Bool) → a ≡ false → b ≡ false → (a || b) ≡ false
or_none false b p q = q
or_none true b p q = p

-- blanks, and behind them the character
abbrev pub Split : Flags → List ℕ → ℕ → List ℕ → Type 0
Split k w c v = (bs : List Blank) × FineBlanks k bs (c ∷ v) × (w ≡ write_blanks bs (c ∷ v))

-- the rest of a comment's line, blanks, and behind them the character
abbrev Line : Flags → List ℕ → ℕ → List ℕ → Type 0
Line k w c v =
    (cs : List ℕ) × (bs : List Blank) × (has 10 cs ≡ false) × (ends_line (write_blanks bs (c ∷ v)) ≡ true) × FineBlanks k bs (c ∷ v)
    × (w ≡ cs ++ write_blanks bs (c ∷ v))

line_by : (k : Flags) (d : ℕ) (t : List ℕ) (c : ℕ) (v : List ℕ) → k.spaces ≡ true → (passed t ≡ c ∷ v → Split k t c v)
    → (after_line t ≡ c ∷ v → Line k t c v) → (b : Bool) → (d == 10) ≡ b → after_line (d ∷ t) ≡ c ∷ v → Line k (d ∷ t) c v
line_by k d t c v on pass line true e h =
    let s = pass (sym (left_line d t e) ∙ h) in
    ([], white d ∷ s.0, refl, e, (on, ap is_white_space (eqb-true d 10 e) ∙ newline_white, s.1), ap (λ w. d ∷ w) s.2)
line_by k d t c v on pass line false e h =
    let l = line (sym (left_on d t e) ∙ h) in
    (d ∷ l.0, l.1, or_none (d == 10) (has 10 l.0) e l.2, l.3, l.4, ap (λ w. d ∷ w) l.5)

pass_by : (k : Flags) (d : ℕ) (t : List ℕ) (c : ℕ) (v : List ℕ) → k.spaces ≡ true → (passed t ≡ c ∷ v → Split k t c v)
    → (after_line t ≡ c ∷ v → Line k t c v) → (a b : Bool) → (d == 35) ≡ a → is_white_space d ≡ b → passed (d ∷ t) ≡ c ∷ v → Split k (d ∷ t) c v
pass_by k d t c v on pass line true b e w h =
    let l = line (sym (left_comment d t e) ∙ h) in (
      comment l.0 ∷ l.1,
      (on, l.2, l.3, l.4),
      ap (λ z. d ∷ z) l.5 ∙ ap (λ z. z ∷ (l.0 ++ write_blanks l.1 (c ∷ v))) (eqb-true d 35 e),
    )
pass_by k d t c v on pass line false true e w h =
    let s = pass (sym (passed_white d t w) ∙ h) in
    (white d ∷ s.0, (on, w, s.1), ap (λ w. d ∷ w) s.2)
pass_by k d t c v on pass line false false e w h = ([], tt, sym (passed_clear (d ∷ t) (w, e)) ∙ h)

splits : (k : Flags) → k.spaces ≡ true → (w : List ℕ) (c : ℕ) (v : List ℕ) → (passed w ≡ c ∷ v → Split k w c v) × (after_line w ≡ c ∷ v → Line k w c v)
splits k on [] c v = ((λ h. absurd (nil_cons c v h)), (λ h. absurd (nil_cons c v h)))
splits k on (d ∷ t) c v =
    let r = splits k on t c v in
    ((λ h. pass_by k d t c v on r.0 r.1 (d == 35) (is_white_space d) refl refl h), (λ h. line_by k d t c v on r.0 r.1 (d == 10) refl h))

split_by : (k : Flags) (b : Bool) → k.spaces ≡ b → (w : List ℕ) (c : ℕ) (v : List ℕ) → seen_if b w ≡ c ∷ v → Split k w c v
split_by k true on w c v h = (splits k on w c v).0 h
split_by k false on w c v h = ([], tt, h)

pub split : (k : Flags) (w : List ℕ) (c : ℕ) (v : List ℕ) → seen k w ≡ c ∷ v → Split k w c v
split k w c v h = split_by k k.spaces refl w c v h

-- only the first character behind blanks counts
ends_head : (bs : List Blank) (c : ℕ) (t u : List ℕ) → ends_line (write_blanks bs (c ∷ t)) ≡ ends_line (write_blanks bs (c ∷ u))
ends_head [] c t u = refl
ends_head (white d ∷ bs) c t u = refl
ends_head (comment cs ∷ bs) c t u = refl

pub blanks_head : (k : Flags) (bs : List Blank) (c : ℕ) (t u : List ℕ) → FineBlanks k bs (c ∷ t) → FineBlanks k bs (c ∷ u)
blanks_head k [] c t u f = tt
blanks_head k (white d ∷ bs) c t u f = (f.0, f.1, blanks_head k bs c t u f.2)
blanks_head k (comment cs ∷ bs) c t u f = (f.0, f.1, sym (ends_head bs c t u) ∙ f.2, blanks_head k bs c t u f.3)

-- what is seen is no longer than the text
either_shorter : (a b : Bool) (x y z : List ℕ) (n : ℕ) → length x ≤ n → length y ≤ n → length z ≤ n → length (if a then x else if b then y else z) ≤ n
either_shorter true b x y z n p q r = p
either_shorter false true x y z n p q r = q
either_shorter false false x y z n p q r = r

line_shorter : (a : Bool) (x y : List ℕ) (n : ℕ) → length x ≤ n → length y ≤ n → length (if a then x else y) ≤ n
line_shorter true x y n p q = p
line_shorter false x y n p q = q

passed_shorter : (w : List ℕ) → (length (passed w) ≤ length w) × (length (after_line w) ≤ length w)
passed_shorter [] = (omega arith, omega arith)
passed_shorter (c ∷ t) =
    let r = passed_shorter t in
    let p : length (passed t) ≤ length (c ∷ t) = omega (arith, r.0) in
    let q : length (after_line t) ≤ length (c ∷ t) = omega (arith, r.1) in (
      either_shorter (c == 35) (is_white_space c) (after_line t) (passed t) (c ∷ t) (length (c ∷ t)) q p (omega arith),
      line_shorter (c == 10) (passed t) (after_line t) (length (c ∷ t)) p q,
    )

shorter_by : (b : Bool) (w : List ℕ) → length (seen_if b w) ≤ length w
shorter_by true w = (passed_shorter w).0
shorter_by false w = omega arith

pub seen_shorter : (k : Flags) (w : List ℕ) → length (seen k w) ≤ length w
seen_shorter k w = shorter_by k.spaces w
