-- What is passed over is made of blanks, and none of them comes next.
use Rattle.std.proofs.Common.{◌≡◌, ◌≤◌, ℕ, suc, Bool, true, false, ◌==◌, ◌||◌, ◌&&◌, if◌then◌else◌, List, [], ◌∷◌, ◌++◌, length, refl, sym, ap, ap₂, ◌∙◌, subst, eqb-true, arith}
use Rattle.ucd_props.proofs.Computing.{ucd_props}
use Rattle.unicode.specs.Binary.{is_white_space}
use Rattle.pattern_syntax.specs.declared.flags.Flags.{Flags}
use Rattle.pattern_syntax.specs.Flags.{Blank, white, comment, write_blanks, FineBlanks, has, ends_line, passed, after_line, seen, seen_if}
use Rattle.pattern_syntax.specs.Class.{is_blank_start}
use Rattle.pattern_syntax.proofs.BlanksLemmas.{IsClear, left_of, seen_behind, passed_blanks}
use Rattle.pattern_syntax.proofs.ClassMoves.{IsNoBlank, spaces_on}

abbrev then_by : Bool → Bool → List ℕ → List ℕ → List ℕ → List ℕ
then_by d w a b c = if d then a else if w then b else c

clear_by : (c : ℕ) (t : List ℕ) (d w : Bool) → (c == 35) ≡ d → is_white_space c ≡ w → IsClear (after_line t) → IsClear (passed t)
    → IsClear (then_by d w (after_line t) (passed t) (c ∷ t))
clear_by c t true w e f x y = x
clear_by c t false true e f x y = y
clear_by c t false false e f x y = (f, e)

clear_line : (t : List ℕ) (b : Bool) → IsClear (passed t) → IsClear (after_line t) → IsClear (if b then passed t else after_line t)
clear_line t true x y = x
clear_line t false x y = y

left_clear : (in_comment : Bool) (t : List ℕ) → IsClear (left_of in_comment t)
left_clear true [] = tt
left_clear false [] = tt
left_clear true (c ∷ t) = clear_line t (c == 10) (left_clear false t) (left_clear true t)
left_clear false (c ∷ t) = clear_by c t (c == 35) (is_white_space c) refl refl (left_clear true t) (left_clear false t)

-- nothing that is passed over comes next behind what was
pub seen_clear : (k : Flags) (t : List ℕ) → k.spaces ≡ true → IsClear (seen k t)
seen_clear k t on = subst (λ b. IsClear (seen_if b t)) (sym on) (left_clear false t)

no_start : (b : Bool) (c : ℕ) → (b ≡ true → IsNoBlank c) → (b && (is_white_space c || (c == 35))) ≡ false
no_start false c h = refl
no_start true c h = let f : IsNoBlank c = h refl in ap₂ (λ x y. x || y) f.0 f.1

pub seen_start : (k : Flags) (w : List ℕ) (c : ℕ) (t : List ℕ) → seen k w ≡ c ∷ t → is_blank_start k c ≡ false
seen_start k w c t e = no_start k.spaces c (λ on. subst IsClear e (seen_clear k w on))

short_by : (c : ℕ) (t : List ℕ) (d w : Bool) → length (after_line t) ≤ length t → length (passed t) ≤ length t
    → length (then_by d w (after_line t) (passed t) (c ∷ t)) ≤ suc (length t)
short_by c t true w x y = omega arith
short_by c t false true x y = omega arith
short_by c t false false x y = omega arith

short_line : (t : List ℕ) (b : Bool) → length (passed t) ≤ length t → length (after_line t) ≤ length t
    → length (if b then passed t else after_line t) ≤ suc (length t)
short_line t true x y = omega arith
short_line t false x y = omega arith

left_short : (in_comment : Bool) (t : List ℕ) → length (left_of in_comment t) ≤ length t
left_short true [] = omega arith
left_short false [] = omega arith
left_short true (c ∷ t) = short_line t (c == 10) (left_short false t) (left_short true t)
left_short false (c ∷ t) = short_by c t (c == 35) (is_white_space c) (left_short true t) (left_short false t)

seen_short_if : (b : Bool) (t : List ℕ) → length (seen_if b t) ≤ length t
seen_short_if true t = left_short false t
seen_short_if false t = omega arith

pub seen_short : (k : Flags) (t : List ℕ) → length (seen k t) ≤ length t
seen_short k t = seen_short_if k.spaces t

-- a text is these blanks and another
abbrev pub Blanked : Flags → List ℕ → List ℕ → Type 0
Blanked k t v = (bs : List Blank) × (t ≡ write_blanks bs v) × FineBlanks k bs v

-- a text is the rest of a comment, blanks and another
abbrev Commented : Flags → List ℕ → List ℕ → Type 0
Commented k t v = (cs : List ℕ) × (bs : List Blank) × (t ≡ cs ++ write_blanks bs v) × (has 10 cs ≡ false) × (ends_line (write_blanks bs v) ≡ true) × FineBlanks k bs v

newline_white : is_white_space 10 ≡ true
unfolding ucd_props
newline_white = refl

line_by : (k : Flags) (c : ℕ) (t : List ℕ) (b : Bool) → k.spaces ≡ true → (c == 10) ≡ b → Blanked k t (passed t) → Commented k t (after_line t)
    → Commented k (c ∷ t) (if b then passed t else after_line t)
line_by k c t true on e (bs, s, f) more =
    ([], white c ∷ bs, ap (λ w. c ∷ w) s, refl, e, (on, ap is_white_space (eqb-true c 10 e) ∙ newline_white, f))
line_by k c t false on e none (cs, bs, s, free, end, f) =
    (c ∷ cs, bs, ap (λ w. c ∷ w) s, ap (λ b. b || has 10 cs) e ∙ free, end, f)

blank_by : (k : Flags) (c : ℕ) (t : List ℕ) (d w : Bool) → k.spaces ≡ true → (c == 35) ≡ d → is_white_space c ≡ w → Commented k t (after_line t)
    → Blanked k t (passed t) → Blanked k (c ∷ t) (then_by d w (after_line t) (passed t) (c ∷ t))
blank_by k c t true w on e f (cs, bs, s, free, end, g) more = (comment cs ∷ bs, ap₂ (λ c w. c ∷ w) (eqb-true c 35 e) s, (on, free, end, g))
blank_by k c t false true on e f none (bs, s, g) = (white c ∷ bs, ap (λ w. c ∷ w) s, (on, f, g))
blank_by k c t false false on e f none more = ([], refl, tt)

abbrev Split : Flags → Bool → List ℕ → Type 0
Split k true t = Commented k t (after_line t)
Split k false t = Blanked k t (passed t)

split : (k : Flags) → k.spaces ≡ true → (in_comment : Bool) (t : List ℕ) → Split k in_comment t
split k on true [] = ([], [], refl, refl, refl, tt)
split k on false [] = ([], refl, tt)
split k on true (c ∷ t) = line_by k c t (c == 10) on refl (split k on false t) (split k on true t)
split k on false (c ∷ t) = blank_by k c t (c == 35) (is_white_space c) on refl refl (split k on true t) (split k on false t)

seen_by : (k : Flags) (b : Bool) (t : List ℕ) → k.spaces ≡ b → Blanked k t (seen_if b t)
seen_by k true t e = split k e false t
seen_by k false t e = ([], refl, tt)

-- what is passed over is blanks
pub blanks_seen : (k : Flags) (t : List ℕ) → Blanked k t (seen k t)
blanks_seen k t = seen_by k k.spaces t refl

pub seen_same : (k : Flags) (t : List ℕ) → (k.spaces ≡ true → IsClear t) → seen k t ≡ t
seen_same k t clear = seen_behind k [] t tt clear

-- behind one blank the same is seen
pub seen_blank : (k : Flags) (b : Blank) (t : List ℕ) → FineBlanks k (b ∷ []) t → seen k (write_blanks (b ∷ []) t) ≡ seen k t
seen_blank k b t f =
    let on : k.spaces ≡ true = spaces_on k b t f in
    ap (λ s. seen_if s (write_blanks (b ∷ []) t)) on ∙ passed_blanks k (b ∷ []) t f ∙ ap (λ s. seen_if s t) (sym on)

pub first_fine : (k : Flags) (b : Blank) (bs : List Blank) (t : List ℕ) → FineBlanks k (b ∷ bs) t → FineBlanks k (b ∷ []) (write_blanks bs t)
first_fine k (white c) bs t f = (f.0, f.1, tt)
first_fine k (comment cs) bs t f = (f.0, f.1, f.2, tt)

pub rest_fine : (k : Flags) (b : Blank) (bs : List Blank) (t : List ℕ) → FineBlanks k (b ∷ bs) t → FineBlanks k bs t
rest_fine k (white c) bs t f = f.2
rest_fine k (comment cs) bs t f = f.3

pub written_first : (b : Blank) (bs : List Blank) (t : List ℕ) → write_blanks (b ∷ bs) t ≡ write_blanks (b ∷ []) (write_blanks bs t)
written_first (white c) bs t = refl
written_first (comment cs) bs t = refl
