-- The repetition at a place.
use Rattle.std.proofs.Common.{◌≡◌, ℕ, ◌<◌, ◌≤◌, Bool, true, false, List, [], ◌∷◌, ◌&&◌, ◌||◌, if◌then◌else◌, None, length, drop, refl, sym, ap, ◌∙◌, subst, true≢false, arith, length-drop}
use Rattle.std.proofs.lemmas.Bool.{and_from, eqb-true}
use Rattle.pattern_syntax.specs.declared.flags.Flags.{Flags}
use Rattle.pattern_syntax.specs.declared.repetitions.Counted.{Counted}
use Rattle.pattern_syntax.specs.Flags.{Blank, write_blanks, FineBlanks, seen, seen_if, begins, rest, is_nil}
use Rattle.pattern_syntax.specs.Syntax.{Count, Repeated, write_count, fine_count, is_braced, write_swap}
use Rattle.pattern_syntax.specs.Tokens.{write_repeated, swap_comes, FineRepeated}
use Rattle.pattern_syntax.specs.Readers.{RepetitionAt}
use Rattle.pattern_syntax.specs.CountReaders.{CountAt, IsCountRead, IsSwapRead}
use Rattle.pattern_syntax.proofs.BlankSplits.{Blanks, blanks_seen, blanks_onward, no_shorter}
use Rattle.pattern_syntax.proofs.BlanksLemmas.{seen_behind}
use Rattle.pattern_syntax.proofs.repetitions.OneRepeated.{made, count_clear, fine_counted}

begins_rest : (c : ℕ) (t : List ℕ) → begins c t ≡ true → t ≡ c ∷ rest t
begins_rest c [] h = absurd (true≢false (sym h))
begins_rest c (d ∷ t) h = ap (λ d. d ∷ t) (eqb-true d c h)

record Gap (k : Flags) (braced : Bool) (t : List ℕ) : Type 0 where
  blanks : List Blank
  fine : FineBlanks k blanks (seen_if (braced && k.spaces) t)
  written : t ≡ write_blanks blanks (seen_if (braced && k.spaces) t)
  only : (braced || is_nil blanks) ≡ true

gap_before : (k : Flags) (braced : Bool) (t : List ℕ) → Gap k braced t
gap_before k true t = let b = blanks_seen k t in record { blanks = b.blanks; fine = b.fine; written = b.written; only = refl }
gap_before k false t = record { blanks = []; fine = tt; written = refl; only = refl }

same_seen : (k : Flags) (braced : Bool) (t : List ℕ) → (if braced then seen k t else t) ≡ seen_if (braced && k.spaces) t
same_seen k true t = refl
same_seen k false t = refl

-- what is read of a `?` behind a count
record Swap (k : Flags) (n : Count) (t : List ℕ) (swaps : Bool) (u : List ℕ) : Type 0 where
  gap : List Blank
  fine : FineBlanks k gap (write_swap swaps u)
  written : t ≡ write_blanks gap (write_swap swaps u)
  only : ((swaps && is_braced n) || is_nil gap) ≡ true
  told : (swaps || (if swap_comes k n u then false else true)) ≡ true

swap_of : (k : Flags) (n : Count) (t : List ℕ) (swaps : Bool) (u : List ℕ) → swaps ≡ begins 63 (seen_if (is_braced n && k.spaces) t)
    → u ≡ (if swaps then rest (seen_if (is_braced n && k.spaces) t) else t) → Swap k n t swaps u
swap_of k n t true u s e =
    let g = gap_before k (is_braced n) t in
    let there : seen_if (is_braced n && k.spaces) t ≡ 63 ∷ u =
    begins_rest 63 (seen_if (is_braced n && k.spaces) t) (sym s) ∙ ap (λ z. 63 ∷ z) (sym e) in
    record {
      gap = g.blanks;
      fine = subst (λ z. FineBlanks k g.blanks z) there g.fine;
      written = g.written ∙ ap (write_blanks g.blanks) there;
      only = g.only;
      told = refl;
    }
swap_of k n t false u s e =
    let none : swap_comes k n u ≡ false =
    ap (begins 63) (ap (λ t. if is_braced n then seen k t else t) e ∙ same_seen k (is_braced n) t) ∙ sym s in
    record { gap = []; fine = tt; written = sym e; only = refl; told = ap (λ b. if b then false else true) none }

no_shorter_swap : (swaps : Bool) (t : List ℕ) → length t ≤ length (write_swap swaps t)
no_shorter_swap true t = omega arith
no_shorter_swap false t = omega arith

pub repetition_at : (k : Flags) (text : List ℕ) (at start : ℕ) (c : Counted) (swaps : Bool) (next : ℕ) → at ≤ length text → start ≤ length text
    → drop start text ≡ seen k (drop at text) → CountAt text start c → IsSwapRead (c.braced && k.spaces) text c.next (swaps, next)
    → RepetitionAt k text at (record { min = c.min; max = c.max; swaps = swaps }) next
repetition_at k text at start c swaps next a l e n s =
    let b : Blanks k (drop at text) (drop start text) = subst (λ u. Blanks k (drop at text) u) (sym e) (blanks_seen k (drop at text)) in
    let braced : (c.braced && k.spaces) ≡ (is_braced n.count && k.spaces) = ap (λ b. b && k.spaces) n.braced in
    let w : Swap k n.count (drop c.next text) swaps (drop next text) =
    swap_of k n.count (drop c.next text) swaps (drop next text) (s.swaps ∙ ap (λ b. begins 63 (seen_if b (drop c.next text))) braced)
    (s.left ∙ ap (λ b. if swaps then rest (seen_if b (drop c.next text)) else drop c.next text) braced) in
    let v = write_blanks w.gap (write_swap swaps (drop next text)) in
    let there : drop start text ≡ write_count n.count v = n.written ∙ ap (write_count n.count) w.written in
    let onward : at ≤ start = blanks_onward k text at start a l b in
    let long : length (drop c.next text) ≡ length v = ap length w.written in
    let longer : length (write_swap swaps (drop next text)) ≤ length v = no_shorter w.gap (write_swap swaps (drop next text)) in
    let longest : length (drop next text) ≤ length (write_swap swaps (drop next text)) = no_shorter_swap swaps (drop next text) in
    let further : start < c.next = n.goes_on.0 in
    let within : next ≤ length text = s.within in
    let inside : c.next ≤ length text = n.goes_on.1 in
    record {
      repeated = made b.blanks n.count w.gap swaps;
      goes_on = ((omega (arith, length-drop c.next text, length-drop next text)), within);
      written = b.written ∙ ap (write_blanks b.blanks) there;
      fine = (subst (λ z. FineBlanks k b.blanks z) there b.fine, w.fine, and_from (fine_count n.count && ((swaps && is_braced n.count) || is_nil w.gap)) (swaps || (if swap_comes k n.count (drop next text) then false else true)) (and_from (fine_count n.count) ((swaps && is_braced n.count) || is_nil w.gap) n.fine w.only) w.told);
      counts = n.counts;
      swaps = refl;
    }

-- where no count stands behind the blanks, no repetition does
pub no_repetition : (k : Flags) (text : List ℕ) (at start : ℕ) → drop start text ≡ seen k (drop at text) → IsCountRead text start None
    → (r : Repeated) (t : List ℕ) → drop at text ≡ write_repeated r t → FineRepeated k r t → ⊥
no_repetition k text at start e none r t w f =
    let v = write_blanks r.gap (write_swap r.swaps t) in
    none r.count v (e ∙ ap (seen k) w ∙ seen_behind k r.before (write_count r.count v) f.0 (λ x. count_clear r.count v)) (fine_counted k r t f)
