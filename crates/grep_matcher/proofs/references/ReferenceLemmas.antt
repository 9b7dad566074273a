-- Texts with references to groups.
use Rattle.std.proofs.Common.{◌≡◌, ◌≢◌, ℕ, zero, suc, ◌-◌, ◌^◌, ◌<◌, ◌≤◌, Bool, true, false, cond, ◌&&◌, eqb, ltb, List, [], ◌∷◌, ◌++◌, length, take, drop, get_or, slice_get, Option, Some, None, Result, Ok, Err, MatchOption, MatchResult, OnOk, refl, sym, ◌∙◌, ap, subst, arith, append_assoc, append-nil, take_all, get_or-take, length-take-le}
use Rattle.std.proofs.lemmas.Bool.Decides.{nat_tests}
use Rattle.std.proofs.lemmas.List.{drop_more, drop_all, take_rest}
use Rattle.std.proofs.lemmas.List.Sums.{take_while-cons, prefix_len_passes, prefix_len-le-length}
use Rattle.std.proofs.lemmas.Str.{IsUtf8-from_ascii}
use Rattle.std.proofs.lemmas.Str.Ascii.{IsAscii-nil, IsAscii-cons}
use Rattle.std.proofs.lemmas.Str.Parse.{IsNumeralModel, numerals_by_value, tells_all_ascii_digits, parse_plain}
use Rattle.std.specs.List.{prefix_len, flat_map}
use Rattle.std.specs.Option.{option_map_or}
use Rattle.std.specs.Result.{result_ok}
use Rattle.std.specs.Str.{IsAscii, IsUtf8, all_ascii_digits}
use Rattle.std.specs.Str.Parse.{ParsesUnsigned, digits_value}
use Rattle.memchr.specs.Find.{IsFirstByte, is_byte}
use Rattle.grep_matcher.specs.Replaced.{Extends}
use Rattle.grep_matcher.specs.Reached.{Reached, at_first, by_a_call}
use Rattle.grep_matcher.proofs.references.ReachedLemmas.{reached_on}
use Rattle.grep_matcher.specs.References.{is_word, name_at, Target, number, named, target, Reference, reference_at, reference_by, begins_with, braced, after_dollar, Piece, byte, two_dollars, group, Front, front, reference_or, dollars_or_byte, pieces_after, pieces, meaning, expand, Adds, Looks, Keeps, Appends, Answers}

word_is_ascii : (b : ℕ) → is_word b ≡ true → b < 128
word_is_ascii b h = grind (arith, nat_tests)

word_is_no_plus : (b : ℕ) → is_word b ≡ true → b ≢ 43
word_is_no_plus b h = grind (arith, nat_tests)

name_is_ascii : (text : List ℕ) → IsAscii (name_at text)
name_is_ascii [] = IsAscii-nil
name_is_ascii (b ∷ text) = subst IsAscii (sym (take_while-cons is_word b text)) (by (is_word b) refl (name_is_ascii text))
  where
    by : (v : Bool) → is_word b ≡ v → IsAscii (name_at text) → IsAscii (cond v (b ∷ name_at text) [])
    by true e rest = IsAscii-cons b (name_at text) (word_is_ascii b e) rest
    by false e rest = IsAscii-nil

-- what the code knows of the text that it takes for a name
pub name_found : {S E : Type 0} (now : S → List ℕ) (text : List ℕ) (n : ℕ) (r : Result S E) (Q : E → Type 0) → n ≡ prefix_len is_word text → 0 < n
    → MatchResult r (λ s. (now s ≡ take n text) × IsUtf8 (take n text)) (λ e. ¬ (IsUtf8 (take n text)) × Q e)
    → MatchOption (result_ok r) (name_at text ≡ []) (λ s. (now s ≡ name_at text) × (0 < length (now s)) × (get_or (now s) 0 0 ≢ 43))
name_found now text n (Ok s) Q e positive h =
    let whole : now s ≡ name_at text = h.0 ∙ ap (λ (k : ℕ). take k text) e in
    let first : is_word (get_or text 0 0) ≡ true = prefix_len_passes is_word text 0 0 (omega arith) in
    let same : get_or (now s) 0 0 ≡ get_or text 0 0 = ap (λ (l : List ℕ). get_or l 0 0) h.0 ∙ get_or-take n text 0 0 positive in
    (whole, (let size : length (take n text) ≡ n = length-take-le n text (rw e (prefix_len-le-length is_word text)) in omega (arith, ap length h.0)), λ plus. word_is_no_plus (get_or text 0 0) first (sym same ∙ plus))
name_found now text n (Err error) Q e positive h = absurd (h.0 (subst (λ (k : ℕ). IsUtf8 (take k text)) (sym e) (IsUtf8-from_ascii (name_at text) (name_is_ascii text))))

decimal : IsNumeralModel (λ ds. all_ascii_digits ds ≡ true) (digits_value 10)
decimal = numerals_by_value (λ ds. all_ascii_digits ds ≡ true) tells_all_ascii_digits

target_if : (b c : Bool) (n : ℕ) (name : List ℕ) → b ≡ true → c ≡ true → number n ≡ cond (b && c) (number n) (named name)
target_if true true n name p q = refl
target_if true false n name p q = cc
target_if false c n name p q = cc

target_unless : (b c : Bool) (n : ℕ) (name : List ℕ) → ¬ ((b ≡ true) × (c ≡ true)) → named name ≡ cond (b && c) (number n) (named name)
target_unless true true n name p = absurd (p (refl, refl))
target_unless true false n name p = refl
target_unless false c n name p = refl

-- a name that is parsed
pub read_number : {E : Type 0} (name : List ℕ) (r : Result ℕ E) (n : ℕ) → ParsesUnsigned 32 10 name r → get_or name 0 0 ≢ 43 → r ≡ Ok n → number n ≡ target name
read_number {E} name (Ok x) n h first e =
    let p = parse_plain decimal {E = E} 32 name (Ok x) h first in
    let same : x ≡ n = cc in
    let value : digits_value 10 name ≡ n = sym p.1 ∙ same in
    rw (← value) (target_if (all_ascii_digits name) (ltb (digits_value 10 name) (2 ^ 32)) (digits_value 10 name) name p.0.0 (grind (arith, nat_tests, p.0.2)))
read_number {E} name (Err x) n h first e = absurd (cc)

pub read_name : {E : Type 0} (name : List ℕ) (r : Result ℕ E) (error : E) → ParsesUnsigned 32 10 name r → get_or name 0 0 ≢ 43 → 0 < length name → r ≡ Err error → named name ≡ target name
read_name {E} name (Ok x) error h first positive e = absurd (cc)
read_name {E} name (Err x) error h first positive e =
    let p = parse_plain decimal {E = E} 32 name (Err x) h first in
    target_unless (all_ascii_digits name) (ltb (digits_value 10 name) (2 ^ 32)) (digits_value 10 name) name (λ q. p (q.0, positive, (let below = q.1 in grind (arith, nat_tests))))

-- the pieces after n bytes are those of the text without them
pieces_skip : (n : ℕ) (text : List ℕ) → pieces_after n text ≡ pieces (drop n text)
pieces_skip zero text = refl
pieces_skip (suc n) [] = refl
pieces_skip (suc n) (b ∷ text) = pieces_skip n text

pub expand_front : (text_of : ℕ → List ℕ) (number_of : List ℕ → Option ℕ) (b : ℕ) (text : List ℕ) → 0 < (front b text).width
    → expand text_of number_of (b ∷ text) ≡ meaning text_of number_of (front b text).piece ++ expand text_of number_of (drop (front b text).width (b ∷ text))
expand_front text_of number_of b text positive = ap (λ (ps : List Piece). meaning text_of number_of (front b text).piece ++ flat_map (meaning text_of number_of) ps)
    (pieces_skip ((front b text).width - 1) text ∙ ap pieces (sym (one_less (front b text).width positive)))
  where
    one_less : (w : ℕ) → 0 < w → drop w (b ∷ text) ≡ drop (w - 1) text
    one_less zero h = absurd (omega arith)
    one_less (suc w) h = let e : suc w - 1 ≡ w = omega arith in rw e refl

-- a byte other than `$` is itself
plain_front : (b : ℕ) (text : List ℕ) → b ≢ 36 → front b text ≡ record { piece = byte b; width = 1 }
plain_front b text h = let e : eqb b 36 ≡ false = grind (arith, nat_tests) in rw e refl

pub expand_plain : (text_of : ℕ → List ℕ) (number_of : List ℕ → Option ℕ) (n : ℕ) (text : List ℕ) → n ≤ length text → ((k : ℕ) → k < n → get_or text k 0 ≢ 36)
    → expand text_of number_of text ≡ take n text ++ expand text_of number_of (drop n text)
expand_plain text_of number_of zero text l h = refl
expand_plain text_of number_of (suc n) [] l h = refl
expand_plain text_of number_of (suc n) (b ∷ text) l h =
    let one : front b text ≡ record { piece = byte b; width = 1 } = plain_front b text (h 0 (omega arith)) in
    let later : expand text_of number_of text ≡ take n text ++ expand text_of number_of (drop n text) = expand_plain text_of number_of n text (omega arith) (λ k lt. h (suc k) (omega arith)) in
    ap (λ (f : Front). meaning text_of number_of f.piece ++ flat_map (meaning text_of number_of) (pieces_after (f.width - 1) text)) one ∙ ap (λ (l : List ℕ). b ∷ l) later

-- where `$` stands first, the bytes before it are themselves
no_dollar_before : (text : List ℕ) (place k : ℕ) → IsFirstByte (is_byte 36) text (Some place) → k < place → get_or text k 0 ≢ 36
no_dollar_before text place k first lt e = first.0.before k (omega arith) lt (grind (arith, nat_tests))

no_dollar : (text : List ℕ) (k : ℕ) → IsFirstByte (is_byte 36) text None → k < length text → get_or text k 0 ≢ 36
no_dollar text k none lt e = none k (omega arith) lt (grind (arith, nat_tests))

-- a text that begins with `$`
opened : (text : List ℕ) → slice_get text 0 ≡ Some 36 → text ≡ 36 ∷ drop 1 text
opened [] h = absurd (cc)
opened (b ∷ text) h = let e : b ≡ 36 = cc in cc

pub front_dollar : (text : List ℕ) (place : ℕ) (front : List ℕ) → IsFirstByte (is_byte 36) text (Some place) → front ≡ drop place text → slice_get front 0 ≡ Some 36
front_dollar text place front first e =
    let at : get_or text place 0 ≡ 36 = grind (arith, nat_tests, first.1) in
    ap (λ (l : List ℕ). slice_get l 0) (e ∙ drop_more text place 0 first.0.high) ∙ ap (λ (b : ℕ). Some b) at

either : {A : Type 0} (P : A → Type 0) (b : Bool) (x y : A) → P x → P y → P (cond b x y)
either P true x y p q = p
either P false x y p q = q

IsWide : Option Reference → Type 0
IsWide None = Unit {0}
IsWide (Some reference) = 0 < reference.width

by_name_is_wide : (name : List ℕ) (around : ℕ) → IsWide (reference_by name around)
unfolding IsWide
by_name_is_wide [] around = tt
by_name_is_wide (b ∷ name) around = omega arith

reference_is_wide : (text : List ℕ) → IsWide (reference_at text)
unfolding IsWide
reference_is_wide [] = tt
reference_is_wide (b ∷ text) =
    either IsWide (eqb b 36) (after_dollar text) None
    (either IsWide (begins_with 123 text) (braced (drop 1 text)) (reference_by (name_at text) 1)
    (either IsWide (begins_with 125 (drop (length (name_at (drop 1 text))) (drop 1 text))) (reference_by (name_at (drop 1 text)) 3) None (by_name_is_wide (name_at (drop 1 text)) 3) tt)
    (by_name_is_wide (name_at text) 1))
    tt

wide_or : (o : Option Reference) (other : Front) → IsWide o → 0 < other.width → 0 < (reference_or o other).width
unfolding IsWide
wide_or None other h k = k
wide_or (Some reference) other h k = h

-- each front takes a byte or more
pub front_width : (b : ℕ) (text : List ℕ) → 0 < (front b text).width
front_width b text =
    wide_or (reference_at (b ∷ text)) (dollars_or_byte b text) (reference_is_wide (b ∷ text))
    (either (λ (f : Front). 0 < f.width) (eqb b 36 && begins_with 36 text) (record { piece = two_dollars; width = 2 }) (record { piece = byte b; width = 1 }) (omega arith) (omega arith))

joined : (written before middle later copied after from rest : List ℕ) → copied ≡ written ++ before → after ≡ copied ++ middle → from ≡ middle ++ later → rest ≡ before ++ from
    → written ++ rest ≡ after ++ later
joined written before middle later copied after from rest c a f r = rw (r, f, a, c, append_assoc, append_assoc) refl

-- One more turn: what is written, followed by the rest's expansion, stays the same.
pub turn : (text_of : ℕ → List ℕ) (number_of : List ℕ → Option ℕ) (rest before from next : List ℕ) (place taken : ℕ) (written copied after : List ℕ)
    → IsFirstByte (is_byte 36) rest (Some place) → before ≡ take place rest → from ≡ drop place rest → copied ≡ written ++ before
    → taken ≡ (front 36 (drop 1 from)).width → after ≡ copied ++ meaning text_of number_of (front 36 (drop 1 from)).piece → next ≡ drop taken from
    → written ++ expand text_of number_of rest ≡ after ++ expand text_of number_of next
turn text_of number_of rest before from next place taken written copied after first b f c t a n =
    let plain : expand text_of number_of rest ≡ take place rest ++ expand text_of number_of (drop place rest)
    = expand_plain text_of number_of place rest (omega (arith, first.0.high)) (λ k lt. no_dollar_before rest place k first lt) in
    let begun : from ≡ 36 ∷ drop 1 from = opened from (front_dollar rest place from first f) in
    let one : expand text_of number_of (36 ∷ drop 1 from) ≡ meaning text_of number_of (front 36 (drop 1 from)).piece ++ expand text_of number_of (drop (front 36 (drop 1 from)).width (36 ∷ drop 1 from))
    = expand_front text_of number_of 36 (drop 1 from) (front_width 36 (drop 1 from)) in
    let same : expand text_of number_of from ≡ meaning text_of number_of (front 36 (drop 1 from)).piece ++ expand text_of number_of (drop (front 36 (drop 1 from)).width from)
    = subst (λ (l : List ℕ). expand text_of number_of l ≡ meaning text_of number_of (front 36 (drop 1 from)).piece ++ expand text_of number_of (drop (front 36 (drop 1 from)).width l)) (sym begun) one in
    let later : next ≡ drop (front 36 (drop 1 from)).width from = n ∙ ap (λ (k : ℕ). drop k from) t in
    joined written before (meaning text_of number_of (front 36 (drop 1 from)).piece) (expand text_of number_of next) copied after (expand text_of number_of from) (expand text_of number_of rest)
    c a (same ∙ ap (λ (l : List ℕ). meaning text_of number_of (front 36 (drop 1 from)).piece ++ expand text_of number_of l) (sym later))
    (plain ∙ ap (λ (l : List ℕ). l ++ expand text_of number_of (drop place rest)) (sym b) ∙ ap (λ (l : List ℕ). before ++ expand text_of number_of l) (sym f))

-- the last turn
pub last_turn : (text_of : ℕ → List ℕ) (number_of : List ℕ → Option ℕ) (rest written after : List ℕ) → IsFirstByte (is_byte 36) rest None → after ≡ written ++ rest
    → written ++ expand text_of number_of rest ≡ after
last_turn text_of number_of rest written after none a =
    let plain : expand text_of number_of rest ≡ take (length rest) rest ++ expand text_of number_of (drop (length rest) rest)
    = expand_plain text_of number_of (length rest) rest (omega arith) (λ k lt. no_dollar rest k none lt) in
    let ends : drop (length rest) rest ≡ [] = drop_all (length rest) rest (omega arith) in
    let whole : expand text_of number_of rest ≡ rest
    = plain ∙ ap (λ (l : List ℕ). take (length rest) rest ++ expand text_of number_of l) ends ∙ append-nil (take (length rest) rest) ∙ take_all (length rest) rest (omega arith) in
    ap (λ (l : List ℕ). written ++ l) whole ∙ sym a

-- what the code slices off
pub tail_is : (l : List ℕ) (n : ℕ) → take (length l - n) (drop n l) ≡ drop n l
tail_is l n = take_rest l n

pub extends_twice : (first written before copied after : List ℕ) → Extends first written → copied ≡ written ++ before → Extends copied after → Extends first after
extends_twice first written before copied after (x, p) c (y, q) = ((x ++ before) ++ y, rw (q, c, p, append_assoc, append_assoc, append_assoc) refl)

-- calls from a later state can come from the first
pub keeps_on : {A D R : Type 0} (step : A → ℕ → D → R → D → A → Type 0) (bytes_of : D → List ℕ) (first middle : A) → Reached (Adds step) first middle → Keeps step bytes_of first → Keeps step bytes_of middle
keeps_on step bytes_of first middle r keeps f i before answer after g s called = keeps f i before answer after g (reached_on (Adds step) first middle r f s) called

pub appends_on : {A D R E : Type 0} (step : A → ℕ → D → Result R E → D → A → Type 0) (bytes_of : D → List ℕ) (first middle : A) → Reached (Adds step) first middle → (text_of : ℕ → List ℕ)
    → Appends step bytes_of first text_of → Appends step bytes_of middle text_of
appends_on step bytes_of first middle r text_of appends f i before answer after g s called = appends f i before answer after g (reached_on (Adds step) first middle r f s) called

pub answers_on : {N S : Type 0} (step : N → S → Option ℕ → N → Type 0) (name_of : S → List ℕ) (first middle : N) → Reached (Looks step) first middle → (number_of : List ℕ → Option ℕ)
    → Answers step name_of first number_of → Answers step name_of middle number_of
answers_on step name_of first middle r number_of answers f name answer g s called = answers f name answer g (reached_on (Looks step) first middle r f s) called

pub one_added : {A D R : Type 0} (step : A → ℕ → D → R → D → A → Type 0) (f : A) (i : ℕ) (before : D) (answer : R) (after : D) (g : A) → step f i before answer after g → Reached (Adds step) f g
one_added step f i before answer after g called = by_a_call f g at_first (i, before, answer, after, called)

pub one_looked : {N S : Type 0} (step : N → S → Option ℕ → N → Type 0) (f : N) (name : S) (answer : Option ℕ) (g : N) → step f name answer g → Reached (Looks step) f g
one_looked step f name answer g called = by_a_call f g at_first (name, answer, called)

-- What a call adds is the meaning of the reference: by number, by a name with a number, and by a name without one.
pub number_added : {A D R E N S : Type 0} (step : A → ℕ → D → Result R E → D → A → Type 0) (bytes_of : D → List ℕ) (looks : N → S → Option ℕ → N → Type 0) (name_of : S → List ℕ) (t : Target)
    (f : A) (n : N) (i : ℕ) (before : D) (answer : Result R E) (after : D) (h : A) → t ≡ number i → step f i before answer after h
    → OnOk answer ((text_of : ℕ → List ℕ) (number_of : List ℕ → Option ℕ) → Appends step bytes_of f text_of → Answers looks name_of n number_of → bytes_of after ≡ bytes_of before ++ meaning text_of number_of (group t))
number_added step bytes_of looks name_of t f n i before (Ok x) after h e called = λ text_of number_of appends answers.
    appends f i before (Ok x) after h at_first called ∙ ap (λ (s : Target). bytes_of before ++ meaning text_of number_of (group s)) (sym e)
number_added step bytes_of looks name_of t f n i before (Err x) after h e called = tt

pub name_added : {A D R E N S : Type 0} (step : A → ℕ → D → Result R E → D → A → Type 0) (bytes_of : D → List ℕ) (looks : N → S → Option ℕ → N → Type 0) (name_of : S → List ℕ) (t : Target)
    (f : A) (n m : N) (name : S) (i : ℕ) (before : D) (answer : Result R E) (after : D) (h : A) → t ≡ named (name_of name) → looks n name (Some i) m → step f i before answer after h
    → OnOk answer ((text_of : ℕ → List ℕ) (number_of : List ℕ → Option ℕ) → Appends step bytes_of f text_of → Answers looks name_of n number_of → bytes_of after ≡ bytes_of before ++ meaning text_of number_of (group t))
name_added step bytes_of looks name_of t f n m name i before (Ok x) after h e looked called = λ text_of number_of appends answers.
    appends f i before (Ok x) after h at_first called
    ∙ ap (λ (o : Option ℕ). bytes_of before ++ option_map_or text_of o []) (answers n name (Some i) m at_first looked)
    ∙ ap (λ (s : Target). bytes_of before ++ meaning text_of number_of (group s)) (sym e)
name_added step bytes_of looks name_of t f n m name i before (Err x) after h e looked called = tt

pub nothing_added : {N S : Type 0} (looks : N → S → Option ℕ → N → Type 0) (name_of : S → List ℕ) (t : Target) (n m : N) (name : S) → t ≡ named (name_of name) → looks n name None m
    → (text_of : ℕ → List ℕ) (number_of : List ℕ → Option ℕ) → Answers looks name_of n number_of → (bytes : List ℕ) → bytes ≡ bytes ++ meaning text_of number_of (group t)
nothing_added looks name_of t n m name e looked text_of number_of answers bytes =
    sym (append-nil bytes) ∙ ap (λ (o : Option ℕ). bytes ++ option_map_or text_of o []) (answers n name None m at_first looked)
    ∙ ap (λ (s : Target). bytes ++ meaning text_of number_of (group s)) (sym e)

-- where the texts that a closure adds are known
pub with_texts : {A D R E N S X Y : Type 0} (r : Result X Y) (step : A → ℕ → D → Result R E → D → A → Type 0) (bytes_of : D → List ℕ) (f : A) (looks : N → S → Option ℕ → N → Type 0) (name_of : S → List ℕ) (n : N)
    (old new replacement : List ℕ) (text_of : ℕ → List ℕ)
    → OnOk r ((texts : ℕ → List ℕ) (number_of : List ℕ → Option ℕ) → Appends step bytes_of f texts → Answers looks name_of n number_of → new ≡ old ++ expand texts number_of replacement)
    → Appends step bytes_of f text_of
    → OnOk r ((number_of : List ℕ → Option ℕ) → Answers looks name_of n number_of → new ≡ old ++ expand text_of number_of replacement)
with_texts (Ok x) step bytes_of f looks name_of n old new replacement text_of whole appends = λ number_of answers. whole text_of number_of appends answers
with_texts (Err e) step bytes_of f looks name_of n old new replacement text_of whole appends = tt

-- where the numbers that a closure answers are known
pub with_numbers : {N S X Y : Type 0} (r : Result X Y) (looks : N → S → Option ℕ → N → Type 0) (name_of : S → List ℕ) (n : N) (old new replacement : List ℕ) (text_of : ℕ → List ℕ) (number_of : List ℕ → Option ℕ)
    → OnOk r ((numbers : List ℕ → Option ℕ) → Answers looks name_of n numbers → new ≡ old ++ expand text_of numbers replacement)
    → Answers looks name_of n number_of
    → OnOk r (new ≡ old ++ expand text_of number_of replacement)
with_numbers (Ok x) looks name_of n old new replacement text_of number_of whole answers = whole number_of answers
with_numbers (Err e) looks name_of n old new replacement text_of number_of whole answers = tt
