-- A reading goes on with the repetition that comes next of an item.
use Rattle.std.proofs.Common.{◌≡◌, ℕ, Bool, true, false, List, [], ◌∷◌, ◌==◌, ◌||◌, ◌&&◌, not, if◌then◌else◌, eqb-true, refl, sym, ap, ◌∙◌, subst, true≢false}
use Rattle.ucd_props.proofs.Computing.{ucd_props}
use Rattle.unicode.specs.Binary.{is_white_space}
use Rattle.pattern_syntax.proofs.BlanksLemmas.{seen_behind}
use Rattle.pattern_syntax.specs.declared.flags.Flags.{Flags}
use Rattle.pattern_syntax.specs.Flags.{Blank, white, comment, write_blanks, FineBlanks, begins, seen, is_nil}
use Rattle.pattern_syntax.specs.Syntax.{Count, optional, star, plus, exactly, at_least, between, Repeated, is_braced, swaps_next, fine_count, write_count, write_repeats, FineRepeats, write_swap}
use Rattle.pattern_syntax.specs.Reads.{Part, Found, repeat}
use Rattle.pattern_syntax.specs.Tokens.{write_repeated, swap_comes, FineRepeated}
use Rattle.pattern_core.specs.Progress.{Gathered, Level, push, After, Rest, RestItem}
use Rattle.pattern_core.proofs.parsing.BlankLemmas.{Stops}
use Rattle.pattern_core.proofs.parsing.TokenLemmas.{count_clear, no_mark, no_mark_seen, no_repetition}

-- at one place stands at most one repetition
abbrev pub OneRepeated : Type 0
OneRepeated = (k : Flags) (r q : Repeated) (s t : List ℕ) → write_repeated r s ≡ write_repeated q t → FineRepeated k r s → FineRepeated k q t → (r ≡ q) × (s ≡ t)

count_mark : (m : Count) (t : List ℕ) → begins 63 (write_count m t) ≡ begins 63 (write_count m [])
count_mark optional t = refl
count_mark star t = refl
count_mark plus t = refl
count_mark (exactly a) t = refl
count_mark (at_least a) t = refl
count_mark (between a b) t = refl

mark_not_white : is_white_space 63 ≡ false
unfolding ucd_props
mark_not_white = refl

white_mark : (c : ℕ) (b : Bool) → is_white_space c ≡ true → (c == 63) ≡ b → b ≡ false
white_mark c false w e = refl
white_mark c true w e = absurd (true≢false (sym w ∙ ap is_white_space (eqb-true c 63 e) ∙ mark_not_white))

blank_mark : (k : Flags) (b : Blank) (bs : List Blank) (t : List ℕ) → FineBlanks k (b ∷ bs) t → begins 63 (write_blanks (b ∷ bs) t) ≡ false
blank_mark k (white c) bs t f = white_mark c (c == 63) f.1 refl
blank_mark k (comment cs) bs t f = refl

and_true : (b : Bool) → b ≡ (b && true)
and_true false = refl
and_true true = refl

and_false : (b : Bool) → false ≡ (b && false)
and_false false = refl
and_false true = refl

-- both words on a `?` that comes next say the same
mark_by : (k : Flags) (d : Bool) (before : List Blank) (m : Count) (w : List ℕ) → FineBlanks k before (write_count m w)
    → begins 63 (if d then seen k (write_blanks before (write_count m w)) else write_blanks before (write_count m w)) ≡ (begins 63 (write_count m []) && (d || is_nil before))
mark_by k true before m w f =
    ap (begins 63) (seen_behind k before (write_count m w) f (λ _. count_clear m w)) ∙ count_mark m w ∙ and_true (begins 63 (write_count m []))
mark_by k false [] m w f = count_mark m w ∙ and_true (begins 63 (write_count m []))
mark_by k false (b ∷ bs) m w f = blank_mark k b bs (write_count m w) f ∙ and_false (begins 63 (write_count m []))

and_shift : (a b s n : Bool) → (a && (b && (s || not n))) ≡ (a && b && (s || (if n then false else true)))
and_shift false b s n = refl
and_shift true false s n = refl
and_shift true true true n = refl
and_shift true true false true = refl
and_shift true true false false = refl

module _ (after : After) (stop : Stops after) (k : Flags) (n : Gathered) where
  mark_none : (l : Level) (m : Count) (d : Bool) (v : List ℕ) (found : Found) → Rest after k n l v found → begins 63 (if d then seen k v else v) ≡ false
  mark_none l m true v found r = no_mark_seen after stop k n l v found r
  mark_none l m false v found r = no_mark after stop k n l v found r

  same_marks : (l : Level) (m : Count) (rs : List Repeated) (v : List ℕ) (found : Found) → FineRepeats k rs v → Rest after k n l v found
      → swap_comes k m (write_repeats rs v) ≡ swaps_next m rs
  same_marks l m [] v found f r = mark_none l m (is_braced m) v found r
  same_marks l m (q ∷ rs) v found f r = mark_by k (is_braced m) q.before q.count (write_blanks q.gap (write_swap q.swaps (write_repeats rs v))) f.0

  same_fine : (l : Level) (r : Repeated) (rs : List Repeated) (v : List ℕ) (found : Found) → FineRepeats k rs v → Rest after k n l v found
      → (fine_count r.count && (((r.swaps && is_braced r.count) || is_nil r.gap) && (r.swaps || not (swaps_next r.count rs))))
      ≡ (fine_count r.count && ((r.swaps && is_braced r.count) || is_nil r.gap)
      && (r.swaps || (if swap_comes k r.count (write_repeats rs v) then false else true)))
  same_fine l r rs v found f x =
      let own = (r.swaps && is_braced r.count) || is_nil r.gap in
      and_shift (fine_count r.count) own r.swaps (swaps_next r.count rs)
      ∙ ap (λ b. fine_count r.count && own && (r.swaps || (if b then false else true))) (sym (same_marks l r.count rs v found f x))

  -- the first of some repetitions is one at its place
  first_fine : (l : Level) (r : Repeated) (rs : List Repeated) (v : List ℕ) (found : Found) → FineRepeats k (r ∷ rs) v → Rest after k n l v found
      → FineRepeated k r (write_repeats rs v)
  first_fine l r rs v found f x = (f.0, f.1, sym (same_fine l r rs v found f.3 x) ∙ f.2)

  more_fine : (l : Level) (r : Repeated) (rs : List Repeated) (v : List ℕ) (found : Found) → FineRepeated k r (write_repeats rs v) → FineRepeats k rs v
      → Rest after k n l v found → FineRepeats k (r ∷ rs) v
  more_fine l r rs v found f g x = (f.0, f.1, same_fine l r rs v found g x ∙ f.2, g)

  repeat_of : OneRepeated → (l : Level) (a : Part) (r : Repeated) (t : List ℕ) (found : Found) → FineRepeated k r t → (rs : List Repeated) (v : List ℕ)
      → FineRepeats k rs v → write_repeated r t ≡ write_repeats rs v → Rest after k n (push (repeat k rs a) l) v found
      → RestItem after k n l (repeat k (r ∷ []) a) t found
  repeat_of one l a r t found f [] v g e x =
      let w = write_blanks r.gap (write_swap r.swaps t) in
      absurd (no_repetition after stop k n (push a l) r.before r.count w found f.0 (subst (λ v. Rest after k n (push a l) v found) (sym e) x))
  repeat_of one l a r t found f (q ∷ rs) v g e x =
      let same = one k r q t (write_repeats rs v) e f (first_fine (push (repeat k (q ∷ rs) a) l) q rs v found g x) in
      (rs, v, g.3, same.1, subst (λ q. Rest after k n (push (repeat k (q ∷ rs) a) l) v found) (sym same.0) x)

  -- the repetition at the place is read
  pub repeat_on : OneRepeated → (l : Level) (a : Part) (r : Repeated) (t : List ℕ) (found : Found) → FineRepeated k r t
      → RestItem after k n l a (write_repeated r t) found → RestItem after k n l (repeat k (r ∷ []) a) t found
  repeat_on one l a r t found f (rs, v, g, e, x) = repeat_of one l a r t found f rs v g e x

  pub repeat_back : (l : Level) (a : Part) (r : Repeated) (t : List ℕ) (found : Found) → FineRepeated k r t
      → RestItem after k n l (repeat k (r ∷ []) a) t found → RestItem after k n l a (write_repeated r t) found
  repeat_back l a r t found f (rs, v, g, e, x) = (
    r ∷ rs,
    v,
    more_fine (push (repeat k (r ∷ rs) a) l) r rs v found (subst (FineRepeated k r) e f) g x,
    ap (write_repeated r) e,
    x,
  )

  done_of : (l : Level) (a : Part) (t : List ℕ) (found : Found) → ((r : Repeated) (u : List ℕ) → t ≡ write_repeated r u → FineRepeated k r u → ⊥)
      → (rs : List Repeated) (v : List ℕ) → FineRepeats k rs v → t ≡ write_repeats rs v → Rest after k n (push (repeat k rs a) l) v found
      → Rest after k n (push a l) t found
  done_of l a t found none [] v g e x = subst (λ v. Rest after k n (push a l) v found) (sym e) x
  done_of l a t found none (r ∷ rs) v g e x =
      absurd (none r (write_repeats rs v) e (first_fine (push (repeat k (r ∷ rs) a) l) r rs v found g x))

  -- where no repetition comes the item is done
  pub done_on : (l : Level) (a : Part) (t : List ℕ) (found : Found) → ((r : Repeated) (u : List ℕ) → t ≡ write_repeated r u → FineRepeated k r u → ⊥)
      → RestItem after k n l a t found → Rest after k n (push a l) t found
  done_on l a t found none (rs, v, g, e, x) = done_of l a t found none rs v g e x

  pub done_back : (l : Level) (a : Part) (t : List ℕ) (found : Found) → Rest after k n (push a l) t found → RestItem after k n l a t found
  done_back l a t found x = ([], t, tt, refl, x)
