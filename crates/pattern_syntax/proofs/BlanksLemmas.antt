-- What is passed over.
use Rattle.std.proofs.Common.{◌≡◌, ℕ, Bool, true, false, List, [], ◌∷◌, ◌++◌, ◌==◌, ◌||◌, ◌&&◌, if◌then◌else◌, eqb-true, eq-eqb, not, ◌+◌, ◌<◌, length, drop, get_or, drop-cons, add-one, refl, sym, ap, ◌∙◌, true≢false}
use Rattle.ucd_props.proofs.Computing.{ucd_props}
use Rattle.unicode.specs.Binary.{is_white_space}
use Rattle.pattern_syntax.specs.declared.flags.Flags.{Flags}
use Rattle.pattern_syntax.specs.Flags.{Blank, white, comment, write_blanks, FineBlanks, has, ends_line, passed, after_line, seen, seen_if}

abbrev pub head : List ℕ → ℕ
head [] = 0
head (c ∷ t) = c

abbrev pub tail : List ℕ → List ℕ
tail [] = []
tail (c ∷ t) = t

pub no_or_left : (a b : Bool) → (a || b) ≡ false → a ≡ false
no_or_left false b h = refl
no_or_left true b h = h

pub no_or_right : (a b : Bool) → (a || b) ≡ false → b ≡ false
no_or_right false b h = h
no_or_right true b h = absurd (true≢false h)

-- no blank begins here
abbrev pub IsClear : List ℕ → Type 0
IsClear [] = Unit {0}
IsClear (c ∷ t) = (is_white_space c ≡ false) × ((c == 35) ≡ false)

newline_white : is_white_space 10 ≡ true
unfolding ucd_props
newline_white = refl

pub number_sign : is_white_space 35 ≡ false
unfolding ucd_props
number_sign = refl

white_number_by : (c : ℕ) (b : Bool) → is_white_space c ≡ true → (c == 35) ≡ b → b ≡ false
white_number_by c false w e = refl
white_number_by c true w e = absurd (true≢false (sym w ∙ ap is_white_space (eqb-true c 35 e) ∙ number_sign))

white_number : (c : ℕ) → is_white_space c ≡ true → (c == 35) ≡ false
white_number c w = white_number_by c (c == 35) w refl

abbrev choose : Bool → Bool → List ℕ → List ℕ → List ℕ → List ℕ
choose d w a b c = if d then a else if w then b else c

-- white space is passed over
pub passed_white : (c : ℕ) (t : List ℕ) → is_white_space c ≡ true → passed (c ∷ t) ≡ passed t
passed_white c t w =
    ap (λ b. choose b (is_white_space c) (after_line t) (passed t) (c ∷ t)) (white_number c w)
    ∙ ap (λ b. choose false b (after_line t) (passed t) (c ∷ t)) w

-- what is clear isn't
pub passed_clear : (t : List ℕ) → IsClear t → passed t ≡ t
passed_clear [] f = refl
passed_clear (c ∷ t) f =
    ap (λ b. choose b (is_white_space c) (after_line t) (passed t) (c ∷ t)) f.1
    ∙ ap (λ b. choose false b (after_line t) (passed t) (c ∷ t)) f.0

line_by : (c : ℕ) (cs : List ℕ) (b d : Bool) → (b || d) ≡ false → b ≡ false
line_by c cs b d h = no_or_left b d h

-- a comment ends with its line
after_comment : (cs t : List ℕ) → has 10 cs ≡ false → after_line (cs ++ t) ≡ after_line t
after_comment [] t h = refl
after_comment (c ∷ cs) t h =
    ap (λ b. if b then passed (cs ++ t) else after_line (cs ++ t)) (no_or_left (c == 10) (has 10 cs) h) ∙ after_comment cs t (no_or_right (c == 10) (has 10 cs) h)

after_end : (t : List ℕ) → ends_line t ≡ true → after_line t ≡ passed t
after_end [] h = refl
after_end (c ∷ t) h =
    ap (λ b. if b then passed t else after_line t) h ∙ sym (passed_white c t (ap is_white_space (eqb-true c 10 h) ∙ newline_white))

-- all blanks are passed over
pub passed_blanks : (k : Flags) (bs : List Blank) (t : List ℕ) → FineBlanks k bs t → passed (write_blanks bs t) ≡ passed t
passed_blanks k [] t f = refl
passed_blanks k (white c ∷ bs) t f = passed_white c (write_blanks bs t) f.1 ∙ passed_blanks k bs t f.2
passed_blanks k (comment cs ∷ bs) t f = after_comment cs (write_blanks bs t) f.1 ∙ after_end (write_blanks bs t) f.2 ∙ passed_blanks k bs t f.3

seen_by : (k : Flags) (b : Bool) (bs : List Blank) (t : List ℕ) → k.spaces ≡ b → FineBlanks k bs t → (b ≡ true → IsClear t) → seen_if b (write_blanks bs t) ≡ t
seen_by k true bs t e f c = passed_blanks k bs t f ∙ passed_clear t (c refl)
seen_by k false [] t e f c = refl
seen_by k false (white d ∷ bs) t e f c = absurd (true≢false (sym f.0 ∙ e))
seen_by k false (comment cs ∷ bs) t e f c = absurd (true≢false (sym f.0 ∙ e))

-- behind blanks is seen what follows them
pub seen_behind : (k : Flags) (bs : List Blank) (t : List ℕ) → FineBlanks k bs t → (k.spaces ≡ true → IsClear t) → seen k (write_blanks bs t) ≡ t
seen_behind k bs t f c = seen_by k k.spaces bs t refl f c

pub three : (a b c : Bool) → (not a && not b && not c) ≡ true → (a ≡ false) × (b ≡ false) × (c ≡ false)
three false false false h = (refl, refl, refl)
three false false true h = absurd (true≢false (sym h))
three false true c h = absurd (true≢false (sym h))
three true b c h = absurd (true≢false (sym h))

pub two : (a b : Bool) → (not a && not b) ≡ true → (a ≡ false) × (b ≡ false)
two false false h = (refl, refl)
two false true h = absurd (true≢false (sym h))
two true b h = absurd (true≢false (sym h))

pub apart : (c d : ℕ) → (c == d) ≡ false → c ≡ d → ⊥
apart c d e f = true≢false (sym (eq-eqb c d f) ∙ e)

pub bracket_clear : is_white_space 93 ≡ false
unfolding ucd_props
bracket_clear = refl

pub dash_clear : is_white_space 45 ≡ false
unfolding ucd_props
dash_clear = refl

pub slash_clear : is_white_space 92 ≡ false
unfolding ucd_props
slash_clear = refl

pub and_clear : is_white_space 38 ≡ false
unfolding ucd_props
and_clear = refl

pub tilde_clear : is_white_space 126 ≡ false
unfolding ucd_props
tilde_clear = refl

-- one character further
pub cut_at : (t : List ℕ) (i d : ℕ) → i < length t → drop i t ≡ get_or t i d ∷ drop (i + 1) t
cut_at t i d within = rw add-one (drop-cons t i d within)

-- what is left of a text, within a comment or not
abbrev pub left_of : Bool → List ℕ → List ℕ
left_of true t = after_line t
left_of false t = passed t

pub left_end : (comment : Bool) → left_of comment [] ≡ []
left_end true = refl
left_end false = refl

pub left_line : (c : ℕ) (t : List ℕ) → (c == 10) ≡ true → left_of true (c ∷ t) ≡ passed t
left_line c t h = ap (λ b. if b then passed t else after_line t) h

pub left_on : (c : ℕ) (t : List ℕ) → (c == 10) ≡ false → left_of true (c ∷ t) ≡ after_line t
left_on c t h = ap (λ b. if b then passed t else after_line t) h

pub left_comment : (c : ℕ) (t : List ℕ) → (c == 35) ≡ true → passed (c ∷ t) ≡ after_line t
left_comment c t h = ap (λ b. choose b (is_white_space c) (after_line t) (passed t) (c ∷ t)) h
