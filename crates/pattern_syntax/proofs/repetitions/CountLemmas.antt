-- Counts are written one way.
use Rattle.std.proofs.Common.{◌≡◌, ℕ, ◌+◌, ◌<◌, ◌≤◌, Bool, true, false, List, ◌∷◌, ◌&&◌, Option, Some, None, length, drop, refl, sym, ap, ◌∙◌, arith, true≢false}
use Rattle.std.specs.Prelude.{nat_le}
use Rattle.std.proofs.lemmas.Bool.{and_parts, and_from, leb-true, le-leb}
use Rattle.ucd_props.proofs.Computing.{ucd_props}
use Rattle.unicode.specs.Binary.{is_white_space}
use Rattle.pattern_syntax.specs.declared.repetitions.Counted.{Counted}
use Rattle.pattern_syntax.specs.Flags.{begins}
use Rattle.pattern_syntax.specs.Syntax.{Number, Count, optional, star, plus, exactly, at_least, between, write_number, write_count, fine_number, fine_count, value}
use Rattle.pattern_syntax.specs.SetTree.{repetition}
use Rattle.pattern_syntax.specs.CountReaders.{WholeNumber, NumberAt, CountAt}
use Rattle.pattern_syntax.proofs.BlanksLemmas.{apart}
use Rattle.pattern_syntax.proofs.SameBlanks.{head, tail}
use Rattle.pattern_syntax.proofs.runs.RunLemmas.{NextIs}
use Rattle.pattern_syntax.proofs.repetitions.NumberLemmas.{one_number, ended, begins_no_number}

comma_clear : is_white_space 44 ≡ false
unfolding ucd_props
comma_clear = refl

brace_clear : is_white_space 125 ≡ false
unfolding ucd_props
brace_clear = refl

comma_ends : (n : Number) (t : List ℕ) → fine_number n ≡ true → WholeNumber n (44 ∷ t)
comma_ends n t f = ended n 44 t f comma_clear refl

brace_ends : (n : Number) (t : List ℕ) → fine_number n ≡ true → WholeNumber n (125 ∷ t)
brace_ends n t f = ended n 125 t f brace_clear refl

pub record FineBetween (n m : Number) : Type 0 where
  pub least : fine_number n ≡ true
  pub most : fine_number m ≡ true
  pub ordered : value n ≤ value m

fine_between : (n m : Number) → fine_count (between n m) ≡ true → FineBetween n m
fine_between n m f =
    let a = and_parts (fine_number n && fine_number m) (nat_le (value n) (value m)) f in
    let b = and_parts (fine_number n) (fine_number m) a.0 in
    record { least = b.0; most = b.1; ordered = leb-true (value n) (value m) a.1 }

-- what stands behind the first number in braces
abbrev pub Behind : Count → List ℕ → Number → List ℕ → Type 0
Behind (exactly n) t r rest = (r ≡ n) × (rest ≡ 125 ∷ t)
Behind (at_least n) t r rest = (r ≡ n) × (rest ≡ 44 ∷ 125 ∷ t)
Behind (between n m) t r rest = (r ≡ n) × (rest ≡ 44 ∷ write_number m (125 ∷ t)) × FineBetween n m
Behind _ t r rest = ⊥

behind_first : (r : Number) (rest : List ℕ) → WholeNumber r rest → (n : Count) (t : List ℕ) → fine_count n ≡ true → 123 ∷ write_number r rest ≡ write_count n t
    → Behind n t r rest
behind_first r rest w optional t f e = apart 123 63 refl (ap head e)
behind_first r rest w star t f e = apart 123 42 refl (ap head e)
behind_first r rest w plus t f e = apart 123 43 refl (ap head e)
behind_first r rest w (exactly n) t f e = one_number r n rest (125 ∷ t) w (brace_ends n t f) (ap tail e)
behind_first r rest w (at_least n) t f e = one_number r n rest (44 ∷ 125 ∷ t) w (comma_ends n (125 ∷ t) f) (ap tail e)
behind_first r rest w (between n m) t f e =
    let g = fine_between n m f in
    let same = one_number r n rest (44 ∷ write_number m (125 ∷ t)) w (comma_ends n (write_number m (125 ∷ t)) g.least) (ap tail e) in
    (same.0, same.1, g)

-- ---- one count

-- the second of two counts in braces, by what stands behind the first number
same_exactly : (n : Number) (t : List ℕ) (m : Count) (u : List ℕ) → Behind m u n (125 ∷ t) → (exactly n ≡ m) × (t ≡ u)
same_exactly n t (exactly m) u b = (ap exactly b.0, ap tail b.1)
same_exactly n t (at_least m) u b = absurd (apart 125 44 refl (ap head b.1))
same_exactly n t (between m p) u b = absurd (apart 125 44 refl (ap head b.1))
same_exactly n t optional u b = absurd b
same_exactly n t star u b = absurd b
same_exactly n t plus u b = absurd b

same_at_least : (n : Number) (t : List ℕ) (m : Count) (u : List ℕ) → Behind m u n (44 ∷ 125 ∷ t) → (at_least n ≡ m) × (t ≡ u)
same_at_least n t (exactly m) u b = absurd (apart 44 125 refl (ap head b.1))
same_at_least n t (at_least m) u b = (ap at_least b.0, ap (λ z. tail (tail z)) b.1)
same_at_least n t (between m p) u b = absurd (begins_no_number p (125 ∷ u) 125 t b.2.most brace_clear refl (ap tail b.1))
same_at_least n t optional u b = absurd b
same_at_least n t star u b = absurd b
same_at_least n t plus u b = absurd b

same_between : (n p : Number) (t : List ℕ) → fine_number p ≡ true → (m : Count) (u : List ℕ) → Behind m u n (44 ∷ write_number p (125 ∷ t)) → (between n p ≡ m) × (t ≡ u)
same_between n p t f (exactly m) u b = absurd (apart 44 125 refl (ap head b.1))
same_between n p t f (at_least m) u b = absurd (begins_no_number p (125 ∷ t) 125 u f brace_clear refl (sym (ap tail b.1)))
same_between n p t f (between m q) u b =
    let more = one_number p q (125 ∷ t) (125 ∷ u) (brace_ends p t f) (brace_ends q u b.2.most) (ap tail b.1) in
    (ap (λ z. between z p) b.0 ∙ ap (λ z. between m z) more.0, ap tail more.1)
same_between n p t f optional u b = absurd b
same_between n p t f star u b = absurd b
same_between n p t f plus u b = absurd b

-- the same text is written by one count
pub one_count : (n m : Count) (t u : List ℕ) → fine_count n ≡ true → fine_count m ≡ true → write_count n t ≡ write_count m u → (n ≡ m) × (t ≡ u)
one_count optional optional t u f g e = (refl, ap tail e)
one_count star star t u f g e = (refl, ap tail e)
one_count plus plus t u f g e = (refl, ap tail e)
one_count (exactly n) m t u f g e = same_exactly n t m u (behind_first n (125 ∷ t) (brace_ends n t f) m u g e)
one_count (at_least n) m t u f g e = same_at_least n t m u (behind_first n (44 ∷ 125 ∷ t) (comma_ends n (125 ∷ t) f) m u g e)
one_count (between n p) m t u f g e =
    let x = fine_between n p f in
    same_between n p t x.most m u (behind_first n (44 ∷ write_number p (125 ∷ t)) (comma_ends n (write_number p (125 ∷ t)) x.least) m u g e)
one_count n m t u f g e = absurd (apart (head (write_count n t)) (head (write_count m u)) refl (ap head e))

-- ---- the count at a place

pub no_first : (v : List ℕ) → ((n : Number) (t : List ℕ) → v ≡ write_number n t → WholeNumber n t → ⊥)
    → (n : Count) (t : List ℕ) → 123 ∷ v ≡ write_count n t → fine_count n ≡ true → ⊥
no_first v none optional t e f = apart 123 63 refl (ap head e)
no_first v none star t e f = apart 123 42 refl (ap head e)
no_first v none plus t e f = apart 123 43 refl (ap head e)
no_first v none (exactly n) t e f = none n (125 ∷ t) (ap tail e) (brace_ends n t f)
no_first v none (at_least n) t e f = none n (44 ∷ 125 ∷ t) (ap tail e) (comma_ends n (125 ∷ t) f)
no_first v none (between n m) t e f = none n (44 ∷ write_number m (125 ∷ t)) (ap tail e) (comma_ends n (write_number m (125 ∷ t)) (fine_between n m f).least)

pub no_sign : (r : Number) (rest : List ℕ) → begins 125 rest ≡ false → begins 44 rest ≡ false → (n : Count) (t : List ℕ) → Behind n t r rest → ⊥
no_sign r rest x y (exactly n) t b = true≢false (sym (ap (begins 125) b.1) ∙ x)
no_sign r rest x y (at_least n) t b = true≢false (sym (ap (begins 44) b.1) ∙ y)
no_sign r rest x y (between n m) t b = true≢false (sym (ap (begins 44) b.1) ∙ y)
no_sign r rest x y optional t b = b
no_sign r rest x y star t b = b
no_sign r rest x y plus t b = b

pub no_second : (r : Number) (v : List ℕ) → begins 125 v ≡ false → ((m : Number) (t : List ℕ) → v ≡ write_number m t → WholeNumber m t → ⊥)
    → (n : Count) (t : List ℕ) → Behind n t r (44 ∷ v) → ⊥
no_second r v x none (exactly n) t b = apart 44 125 refl (ap head b.1)
no_second r v x none (at_least n) t b = true≢false (sym (ap (begins 125) (ap tail b.1)) ∙ x)
no_second r v x none (between n m) t b = none m (125 ∷ t) (ap tail b.1) (brace_ends m t b.2.most)
no_second r v x none optional t b = b
no_second r v x none star t b = b
no_second r v x none plus t b = b

-- two numbers that are out of order, or no brace behind them
pub no_end : (r q : Number) (v w : List ℕ) → begins 125 v ≡ false → v ≡ write_number q w → WholeNumber q w → (value r ≤ value q → begins 125 w ≡ false)
    → (n : Count) (t : List ℕ) → Behind n t r (44 ∷ v) → ⊥
no_end r q v w x e whole h (exactly n) t b = apart 44 125 refl (ap head b.1)
no_end r q v w x e whole h (at_least n) t b = true≢false (sym (ap (begins 125) (ap tail b.1)) ∙ x)
no_end r q v w x e whole h (between n m) t b =
    let same = one_number q m w (125 ∷ t) whole (brace_ends m t b.2.most) (sym e ∙ ap tail b.1) in
    let least : value r ≡ value n = ap value b.0 in
    let most : value q ≡ value m = ap value same.0 in
    let ordered : value n ≤ value m = b.2.ordered in
    true≢false (sym (ap (begins 125) same.1) ∙ h (omega (arith, least, most, ordered)))
no_end r q v w x e whole h optional t b = b
no_end r q v w x e whole h star t b = b
no_end r q v w x e whole h plus t b = b

pub behind_at : (text : List ℕ) (at place min : ℕ) → NextIs 123 text at → (r : NumberAt text (at + 1) min place)
    → (n : Count) (t : List ℕ) → drop at text ≡ write_count n t → fine_count n ≡ true → Behind n t r.number (drop place text)
behind_at text at place min o r n t e f =
    behind_first r.number (drop place text) r.whole n t f (ap (λ z. 123 ∷ z) (sym r.written) ∙ sym o.written ∙ e)

abbrev counted : ℕ → Option ℕ → Bool → ℕ → Counted
counted min max braced next = record { min = min; max = max; braced = braced; next = next }

pub exactly_at : (text : List ℕ) (at place min : ℕ) → NextIs 123 text at → NumberAt text (at + 1) min place → NextIs 125 text place
    → CountAt text at (counted min (Some min) true (place + 1))
exactly_at text at place min o r b =
    let onward : at + 1 < place = r.goes_on.0 in
    let within : place < length text = b.within in
    record {
      count = exactly r.number;
      goes_on = ((omega arith), (omega arith));
      written = o.written ∙ ap (λ z. 123 ∷ z) (r.written ∙ ap (write_number r.number) b.written);
      fine = r.whole.fine;
      counts = λ greedy part. ap (λ v. repetition v (Some v) greedy part) (sym r.value_is);
      braced = refl;
    }

pub at_least_at : (text : List ℕ) (at place min : ℕ) → NextIs 123 text at → NumberAt text (at + 1) min place → NextIs 44 text place → NextIs 125 text (place + 1)
    → CountAt text at (counted min None true (place + 2))
at_least_at text at place min o r s b =
    let onward : at + 1 < place = r.goes_on.0 in
    let within : place + 1 < length text = b.within in
    let two : place + 1 + 1 ≡ place + 2 = omega arith in
    record {
      count = at_least r.number;
      goes_on = ((omega arith), (omega arith));
      written =
          o.written
          ∙ ap (λ z. 123 ∷ z) (r.written ∙ ap (write_number r.number) (s.written ∙ ap (λ z. 44 ∷ z) (b.written ∙ ap (λ i. 125 ∷ drop i text) two)));
      fine = r.whole.fine;
      counts = λ greedy part. ap (λ v. repetition v None greedy part) (sym r.value_is);
      braced = refl;
    }

pub between_at : (text : List ℕ) (at place end min max : ℕ) → NextIs 123 text at → NumberAt text (at + 1) min place → NextIs 44 text place
    → NumberAt text (place + 1) max end → NextIs 125 text end → min ≤ max → CountAt text at (counted min (Some max) true (end + 1))
between_at text at place end min max o r s q b ordered =
    let onward : at + 1 < place = r.goes_on.0 in
    let further : place + 1 < end = q.goes_on.0 in
    let within : end < length text = b.within in
    let least : min ≡ value r.number = r.value_is in
    let most : max ≡ value q.number = q.value_is in
    let le : value r.number ≤ value q.number = omega arith in
    record {
      count = between r.number q.number;
      goes_on = ((omega arith), (omega arith));
      written =
          o.written
          ∙ ap (λ z. 123 ∷ z) (r.written ∙ ap (write_number r.number) (s.written ∙ ap (λ z. 44 ∷ z) (q.written ∙ ap (write_number q.number) b.written)));
      fine = and_from _ _ (and_from _ _ r.whole.fine q.whole.fine) (le-leb (value r.number) (value q.number) le);
      counts = λ greedy part. ap (λ v. repetition v (Some (value q.number)) greedy part) (sym least) ∙ ap (λ v. repetition min (Some v) greedy part) (sym most);
      braced = refl;
    }
