-- Numbers with white space round them are written one way.
use Rattle.std.proofs.Common.{◌≡◌, ℕ, ◌+◌, ◌-◌, ◌*◌, ◌<◌, ◌≤◌, ◌^◌, Bool, true, false, not, List, [], ◌∷◌, ◌++◌, ◌&&◌, length, take, drop, get_or, refl, sym, ap, ◌∙◌, arith, append_assoc, true≢false, length-drop}
use Rattle.std.proofs.lemmas.Bool.{and_parts, and_from, both_ways, leb-true, ltb-true, lt-ltb, agree_below, agree_below_at}
use Rattle.std.proofs.lemmas.List.{length-take}
use Rattle.std.specs.Prelude.{nat_le}
use Rattle.std.specs.List.{slice_range, list_all}
use Rattle.ucd_props.proofs.Computing.{ucd_props}
use Rattle.unicode.specs.Binary.{is_white_space}
use Rattle.std.specs.Char.{digit_value, is_ascii_digit}
use Rattle.pattern_syntax.specs.Flags.{is_nil}
use Rattle.pattern_syntax.specs.Runs.{comes}
use Rattle.pattern_syntax.specs.Syntax.{Number, write_number, fine_number, value}
use Rattle.pattern_syntax.specs.CountReaders.{WholeNumber, NumberAt}
use Rattle.pattern_syntax.proofs.BlanksLemmas.{cut_at}
use Rattle.pattern_syntax.proofs.SameBlanks.{head}
use Rattle.pattern_syntax.proofs.runs.RunLemmas.{RunAt, one_run}
use Rattle.std.specs.Str.Parse.{digits_value_after}

none_below : agree_below (λ c. is_white_space c && is_ascii_digit c) (λ c. false) 58 ≡ true
unfolding ucd_props
none_below = refl

-- a digit isn't white space
pub digit_white : (c : ℕ) → is_ascii_digit c ≡ true → is_white_space c ≡ true → ⊥
digit_white c d w =
    let most : c ≤ 57 = leb-true c 57 (and_parts (nat_le 48 c) (nat_le c 57) d).1 in
    let below : c < 58 = omega arith in
    both_ways (is_white_space c && is_ascii_digit c)
    (agree_below_at (λ c. is_white_space c && is_ascii_digit c) (λ c. false) 58 c none_below below)
    (and_from (is_white_space c) (is_ascii_digit c) w d)

not_white : (c : ℕ) (b : Bool) → is_ascii_digit c ≡ true → is_white_space c ≡ b → b ≡ false
not_white c true d w = absurd (digit_white c d w)
not_white c false d w = refl

not_digit : (c : ℕ) (b : Bool) → is_white_space c ≡ true → is_ascii_digit c ≡ b → b ≡ false
not_digit c true w d = absurd (digit_white c d w)
not_digit c false w d = refl

pub number_parts : (n : Number) (t : List ℕ) → write_number n t ≡ n.before ++ (n.digits ++ (n.behind ++ t))
number_parts n t = append_assoc (n.before ++ n.digits) n.behind t ∙ append_assoc n.before n.digits (n.behind ++ t)

pub record FineParts (n : Number) : Type 0 where
  pub before : list_all is_white_space n.before ≡ true
  pub behind : list_all is_white_space n.behind ≡ true
  pub some : not (is_nil n.digits) ≡ true
  pub digits : list_all is_ascii_digit n.digits ≡ true
  pub small : value n < 2 ^ 32

pub fine_parts : (n : Number) → fine_number n ≡ true → FineParts n
fine_parts n h =
    let four = and_parts _ _ h in
    let three = and_parts _ _ four.0 in
    let two = and_parts _ _ three.0 in
    let both = and_parts _ _ two.0 in
    record { before = both.0; behind = both.1; some = two.1; digits = three.1; small = ltb-true (value n) (2 ^ 32) four.1 }

pub parts_fine : (n : Number) → FineParts n → fine_number n ≡ true
parts_fine n f =
    and_from _ _ (and_from _ _ (and_from _ _ (and_from _ _ f.before f.behind) f.some) f.digits) (lt-ltb (value n) (2 ^ 32) f.small)

-- digits that come next are no white space
digits_clear : (ds x : List ℕ) → not (is_nil ds) ≡ true → list_all is_ascii_digit ds ≡ true → comes is_white_space (ds ++ x) ≡ false
digits_clear [] x h d = absurd (true≢false (sym h))
digits_clear (c ∷ ds) x h d = not_white c (is_white_space c) (and_parts (is_ascii_digit c) (list_all is_ascii_digit ds) d).0 refl

white_clear : (ws : List ℕ) (c : ℕ) (t : List ℕ) → list_all is_white_space ws ≡ true → is_ascii_digit c ≡ false → comes is_ascii_digit (ws ++ (c ∷ t)) ≡ false
white_clear [] c t a d = d
white_clear (w ∷ ws) c t a d = not_digit w (is_ascii_digit w) (and_parts (is_white_space w) (list_all is_white_space ws) a).0 refl

-- a number is whole before what is neither white space nor a digit
pub ended : (n : Number) (c : ℕ) (t : List ℕ) → fine_number n ≡ true → is_white_space c ≡ false → is_ascii_digit c ≡ false → WholeNumber n (c ∷ t)
ended n c t f w d = record { fine = f; digits_end = white_clear n.behind c t (fine_parts n f).behind d; white_ends = w }

abbrev made : List ℕ → List ℕ → List ℕ → Number
made before digits behind = record { before = before; digits = digits; behind = behind }

pub one_number : (n m : Number) (t u : List ℕ) → WholeNumber n t → WholeNumber m u → write_number n t ≡ write_number m u → (n ≡ m) × (t ≡ u)
one_number n m t u f g e =
    let x = fine_parts n f.fine in
    let y = fine_parts m g.fine in
    let a =
    one_run is_white_space n.before m.before (n.digits ++ (n.behind ++ t)) (m.digits ++ (m.behind ++ u)) x.before y.before
    (digits_clear n.digits (n.behind ++ t) x.some x.digits) (digits_clear m.digits (m.behind ++ u) y.some y.digits)
    (sym (number_parts n t) ∙ e ∙ number_parts m u) in
    let b = one_run is_ascii_digit n.digits m.digits (n.behind ++ t) (m.behind ++ u) x.digits y.digits f.digits_end g.digits_end a.1 in
    let c = one_run is_white_space n.behind m.behind t u x.behind y.behind f.white_ends g.white_ends b.1 in
    (ap (λ z. made z n.digits n.behind) a.0 ∙ ap (λ z. made m.before z n.behind) b.0 ∙ ap (λ z. made m.before m.digits z) c.0, c.1)

starts_by : (ws ds x : List ℕ) (c : ℕ) (v : List ℕ) → list_all is_white_space ws ≡ true → not (is_nil ds) ≡ true → list_all is_ascii_digit ds ≡ true
    → is_white_space c ≡ false → is_ascii_digit c ≡ false → c ∷ v ≡ ws ++ (ds ++ x) → ⊥
starts_by (w ∷ ws) ds x c v a s d p q e = both_ways (is_white_space w) (sym (ap is_white_space (ap head e)) ∙ p) (and_parts (is_white_space w) (list_all is_white_space ws) a).0
starts_by [] [] x c v a s d p q e = true≢false (sym s)
starts_by [] (g ∷ ds) x c v a s d p q e = both_ways (is_ascii_digit g) (sym (ap is_ascii_digit (ap head e)) ∙ q) (and_parts (is_ascii_digit g) (list_all is_ascii_digit ds) d).0

-- what is neither white space nor a digit begins no number
pub begins_no_number : (n : Number) (t : List ℕ) (c : ℕ) (v : List ℕ) → fine_number n ≡ true → is_white_space c ≡ false → is_ascii_digit c ≡ false
    → c ∷ v ≡ write_number n t → ⊥
begins_no_number n t c v f p q e =
    let x = fine_parts n f in starts_by n.before n.digits (n.behind ++ t) c v x.before x.some x.digits p q (e ∙ number_parts n t)

-- ---- the number at a place

pub some_digits : (cs : List ℕ) → 0 < length cs → not (is_nil cs) ≡ true
some_digits [] lt = absurd (omega arith)
some_digits (c ∷ cs) lt = refl

pub slice_some : (text : List ℕ) (at end : ℕ) → at < end → end ≤ length text → not (is_nil (slice_range text at end)) ≡ true
slice_some text at end lt le =
    some_digits (slice_range text at end) (let l : length (drop at text) ≡ length text - at = length-drop at text in omega (arith, length-take (end - at) (drop at text), l))

-- the digits of a number at a place are those that stand there
pub same_digits : (text : List ℕ) (at start end : ℕ) → RunAt is_white_space text at start → RunAt is_ascii_digit text start end
    → (n : Number) (t : List ℕ) → drop at text ≡ write_number n t → WholeNumber n t → n.digits ≡ slice_range text start end
same_digits text at start end r s n t e f =
    let x = fine_parts n f.fine in
    let a =
    one_run is_white_space n.before (slice_range text at start) (n.digits ++ (n.behind ++ t)) (drop start text) x.before r.passes
    (digits_clear n.digits (n.behind ++ t) x.some x.digits) r.stops (sym (number_parts n t) ∙ sym e ∙ r.written) in
    (one_run is_ascii_digit n.digits (slice_range text start end) (n.behind ++ t) (drop end text) x.digits s.passes f.digits_end s.stops (a.1 ∙ s.written)).0

pub no_digits : (text : List ℕ) (at start end : ℕ) → RunAt is_white_space text at start → RunAt is_ascii_digit text start end → start ≡ end
    → (n : Number) (t : List ℕ) → drop at text ≡ write_number n t → WholeNumber n t → ⊥
no_digits text at start end r s same n t e f =
    let none : slice_range text start end ≡ [] = ap (λ z. take z (drop start text)) (let z : end - start ≡ 0 = omega arith in z) in
    true≢false (sym (fine_parts n f.fine).some ∙ ap (λ z. not (is_nil z)) (same_digits text at start end r s n t e f ∙ none))

pub large_digits : (text : List ℕ) (at start end : ℕ) → RunAt is_white_space text at start → RunAt is_ascii_digit text start end
    → (digits_value_after 10 0 (slice_range text start end) < 2 ^ 32 → ⊥)
    → (n : Number) (t : List ℕ) → drop at text ≡ write_number n t → WholeNumber n t → ⊥
large_digits text at start end r s large n t e f =
    let same : value n ≡ digits_value_after 10 0 (slice_range text start end) = ap (digits_value_after 10 0) (same_digits text at start end r s n t e f) in
    let small : value n < 2 ^ 32 = (fine_parts n f.fine).small in
    large (omega (arith, same, small))

pub number_at : (text : List ℕ) (at start end next number : ℕ) → at ≤ start → start < end → end ≤ next → next ≤ length text
    → RunAt is_white_space text at start → RunAt is_ascii_digit text start end → RunAt is_white_space text end next
    → digits_value_after 10 0 (slice_range text start end) < 2 ^ 32 → number ≡ digits_value_after 10 0 (slice_range text start end) → NumberAt text at number next
number_at text at start end next number o lt onward within r s q small v =
    let n = made (slice_range text at start) (slice_range text start end) (slice_range text end next) in
    let last : end ≤ length text = omega arith in
    record {
      number = n;
      goes_on = ((omega arith), within);
      written = r.written ∙ ap (λ z. slice_range text at start ++ z) (s.written ∙ ap (λ z. slice_range text start end ++ z) q.written) ∙ sym (number_parts n (drop next text));
      whole = record {
        fine = parts_fine n (record { before = r.passes; behind = q.passes; some = slice_some text start end lt last; digits = s.passes; small = small });
        digits_end = sym (ap (comes is_ascii_digit) q.written) ∙ s.stops;
        white_ends = q.stops;
      };
      value_is = v;
    }

-- ---- what digits spell

pub value_least : (high : ℕ) (ds : List ℕ) → high ≤ digits_value_after 10 high ds
value_least high [] = omega arith
value_least high (d ∷ ds) = let more : high * 10 + digit_value d ≤ digits_value_after 10 (high * 10 + digit_value d) ds = value_least (high * 10 + digit_value d) ds in omega arith

pub value_step : (high : ℕ) (ds : List ℕ) (i d : ℕ) → i < length ds
    → digits_value_after 10 high (drop i ds) ≡ digits_value_after 10 (high * 10 + digit_value (get_or ds i d)) (drop (i + 1) ds)
value_step high ds i d lt = ap (digits_value_after 10 high) (cut_at ds i d lt)

-- a number that is too large stays so
pub too_large : (high v : ℕ) (ds : List ℕ) (i d : ℕ) → i < length ds → digits_value_after 10 high (drop i ds) ≡ v → (high * 10 + digit_value (get_or ds i d) < 2 ^ 32 → ⊥) → v < 2 ^ 32 → ⊥
too_large high v ds i d lt e large small =
    let least : high * 10 + digit_value (get_or ds i d) ≤ digits_value_after 10 (high * 10 + digit_value (get_or ds i d)) (drop (i + 1) ds) =
    value_least (high * 10 + digit_value (get_or ds i d)) (drop (i + 1) ds) in
    let step : digits_value_after 10 high (drop i ds) ≡ digits_value_after 10 (high * 10 + digit_value (get_or ds i d)) (drop (i + 1) ds) = value_step high ds i d lt in
    large (omega arith)
