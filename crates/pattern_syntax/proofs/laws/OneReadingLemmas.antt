-- A text has at most one reading.
use Rattle.std.proofs.Common.{◌≡◌, ℕ, Bool, true, false, List, [], ◌∷◌, ◌==◌, ◌||◌, ◌&&◌, not, if◌then◌else◌, refl, sym, ap, ap₂, ◌∙◌, subst, true≢false, eqb-true}
use Rattle.ucd_props.proofs.Computing.{ucd_props}
use Rattle.unicode.specs.Binary.{is_white_space}
use Rattle.pattern_syntax.specs.declared.flags.Flags.{Flags}
use Rattle.pattern_syntax.specs.Flags.{FlagList, apply, Blank, white, comment, write_blanks, FineBlanks, has, begins, seen, is_nil}
use Rattle.pattern_syntax.specs.Class.{is_blank_start}
use Rattle.pattern_syntax.specs.Syntax.{Syntax, end, bar as bar_before, pass, set as set_before, single, group, Single, Count, optional, star, plus, exactly, at_least, between, Kind, Repeated, inside_flags, write, write_count, write_repeats, Fine, FineRepeats, fine_count, swaps_next, is_braced, write_swap}
use Rattle.pattern_syntax.specs.Tokens.{Token, bar, set, item, opens, closes, write_token, write_repeated, swap_comes, FineRepeated}
use Rattle.pattern_syntax.specs.Reads.{Found, Reads, found_of}
use Rattle.pattern_syntax.proofs.BlanksLemmas.{apart, seen_behind}
use Rattle.pattern_syntax.proofs.SameBlanks.{tail}
use Rattle.pattern_syntax.proofs.repetitions.OneRepeated.{count_clear}
use Rattle.pattern_syntax.proofs.laws.OneClassLemmas.{one_blank}
use Rattle.pattern_syntax.proofs.laws.OneTokenLemmas.{OneOpening, one_token, single_low, single_kind, kind_at}
use Rattle.pattern_syntax.proofs.laws.StartsLemmas.{Front, token_front, operators, NoOperator, no_operator_first, opens_fine, IsStop}

-- two repetitions at one place are one
abbrev pub OneRepeated : Type 0
OneRepeated = (k : Flags) (r q : Repeated) (s t : List ℕ) → write_repeated r s ≡ write_repeated q t → FineRepeated k r s → FineRepeated k q t → (r ≡ q) × (s ≡ t)

count_mark : (m : Count) (t : List ℕ) → begins 63 (write_count m t) ≡ begins 63 (write_count m [])
count_mark optional t = refl
count_mark star t = refl
count_mark plus t = refl
count_mark (exactly a) t = refl
count_mark (at_least a) t = refl
count_mark (between a b) t = refl

mark_not_white : is_white_space 63 ≡ false
unfolding ucd_props
mark_not_white = refl

white_mark : (c : ℕ) (b : Bool) → is_white_space c ≡ true → (c == 63) ≡ b → b ≡ false
white_mark c false w e = refl
white_mark c true w e = absurd (true≢false (sym w ∙ ap is_white_space (eqb-true c 63 e) ∙ mark_not_white))

blank_mark : (k : Flags) (b : Blank) (bs : List Blank) (t : List ℕ) → FineBlanks k (b ∷ bs) t → begins 63 (write_blanks (b ∷ bs) t) ≡ false
blank_mark k (white c) bs t f = white_mark c (c == 63) f.1 refl
blank_mark k (comment cs) bs t f = refl

and_true : (b : Bool) → b ≡ (b && true)
and_true false = refl
and_true true = refl

and_false : (b : Bool) → false ≡ (b && false)
and_false false = refl
and_false true = refl

-- both words on a `?` that comes next say the same
pub mark_by : (k : Flags) (d : Bool) (before : List Blank) (m : Count) (w : List ℕ) → FineBlanks k before (write_count m w)
    → begins 63 (if d then seen k (write_blanks before (write_count m w)) else write_blanks before (write_count m w)) ≡ (begins 63 (write_count m []) && (d || is_nil before))
mark_by k true before m w f =
    ap (begins 63) (seen_behind k before (write_count m w) f (λ _. count_clear m w)) ∙ count_mark m w ∙ and_true (begins 63 (write_count m []))
mark_by k false [] m w f = count_mark m w ∙ and_true (begins 63 (write_count m []))
mark_by k false (b ∷ bs) m w f = blank_mark k b bs (write_count m w) f ∙ and_false (begins 63 (write_count m []))

pub and_shift : (a b s n : Bool) → (a && (b && (s || not n))) ≡ (a && b && (s || (if n then false else true)))
and_shift false b s n = refl
and_shift true false s n = refl
and_shift true true true n = refl
and_shift true true false true = refl
and_shift true true false false = refl

-- ---- repetitions

swap_at_end : (k : Flags) (d : Bool) (t : List ℕ) → NoOperator k t → begins 63 (if d then seen k t else t) ≡ false
swap_at_end k true t none = (none 63 refl).1
swap_at_end k false t none = (none 63 refl).0

pub swap_told : (k : Flags) (m : Count) (rs : List Repeated) (t : List ℕ) → NoOperator k t → FineRepeats k rs t → swap_comes k m (write_repeats rs t) ≡ swaps_next m rs
swap_told k m [] t none f = swap_at_end k (is_braced m) t none
swap_told k m (r ∷ rs) t none f = mark_by k (is_braced m) r.before r.count (write_blanks r.gap (write_swap r.swaps (write_repeats rs t))) f.0

-- the first of them, before the others
pub fine_repeated : (k : Flags) (r : Repeated) (rs : List Repeated) (t : List ℕ) → NoOperator k t → FineRepeats k (r ∷ rs) t → FineRepeated k r (write_repeats rs t)
fine_repeated k r rs t none f = (
  f.0,
  f.1,
  sym (and_shift (fine_count r.count) ((r.swaps && is_braced r.count) || is_nil r.gap) r.swaps (swap_comes k r.count (write_repeats rs t)))
      ∙ ap (λ n. fine_count r.count && (((r.swaps && is_braced r.count) || is_nil r.gap) && (r.swaps || not n))) (swap_told k r.count rs t none f.3)
      ∙ f.2,
)

operator_of : Count → ℕ
operator_of optional = 63
operator_of star = 42
operator_of plus = 43
operator_of (exactly a) = 123
operator_of (at_least a) = 123
operator_of (between a b) = 123

is_operator : (m : Count) → has (operator_of m) operators ≡ true
unfolding operator_of
is_operator optional = refl
is_operator star = refl
is_operator plus = refl
is_operator (exactly a) = refl
is_operator (at_least a) = refl
is_operator (between a b) = refl

begins_count : (m : Count) (t : List ℕ) → begins (operator_of m) (write_count m t) ≡ true
unfolding operator_of
begins_count optional t = refl
begins_count star t = refl
begins_count plus t = refl
begins_count (exactly a) t = refl
begins_count (at_least a) t = refl
begins_count (between a b) t = refl

no_repeated : (k : Flags) (r : Repeated) (t w : List ℕ) → NoOperator k w → FineBlanks k r.before (write_count r.count t) → w ≡ write_blanks r.before (write_count r.count t) → ⊥
no_repeated k r t w none f e =
    true≢false
    (sym (begins_count r.count t)
    ∙ ap (begins (operator_of r.count)) (sym (ap (seen k) e ∙ seen_behind k r.before (write_count r.count t) f (λ on. count_clear r.count t)))
    ∙ (none (operator_of r.count) (is_operator r.count)).1)

abbrev behind_count : Repeated → List Repeated → List ℕ → List ℕ
behind_count r rs t = write_blanks r.gap (write_swap r.swaps (write_repeats rs t))

module _ (one_opening : OneOpening) (one_repeated : OneRepeated) where
  one_repeats : (k : Flags) (rs qs : List Repeated) (s t : List ℕ) → NoOperator k s → NoOperator k t → FineRepeats k rs s → FineRepeats k qs t
      → write_repeats rs s ≡ write_repeats qs t → (rs ≡ qs) × (s ≡ t)
  one_repeats k [] [] s t x y f g e = (refl, e)
  one_repeats k [] (q ∷ qs) s t x y f g e = absurd (no_repeated k q (behind_count q qs t) s x g.0 e)
  one_repeats k (r ∷ rs) [] s t x y f g e = absurd (no_repeated k r (behind_count r rs s) t y f.0 (sym e))
  one_repeats k (r ∷ rs) (q ∷ qs) s t x y f g e =
      let first = one_repeated k r q (write_repeats rs s) (write_repeats qs t) e (fine_repeated k r rs s x f) (fine_repeated k q qs t y g) in
      let more = one_repeats k rs qs s t x y f.3 g.3 first.1 in
      (ap (λ r. r ∷ rs) first.0 ∙ ap (λ rs. q ∷ rs) more.0, more.1)

  -- ---- syntaxes

  abbrev text_kind : Flags → List ℕ → ℕ
  text_kind k [] = 8
  text_kind k (c ∷ t) = if is_blank_start k c then 9 else kind_at c

  front_kind : (k : Flags) (w : List ℕ) (n : ℕ) → Front k w n → text_kind k w ≡ n
  front_kind k w n front = ap (text_kind k) front.text ∙ ap (λ b. if b then 9 else kind_at front.first) front.clear ∙ front.is

  blank_kind : (k : Flags) (b : Blank) (t : List ℕ) → FineBlanks k (b ∷ []) t → text_kind k (write_blanks (b ∷ []) t) ≡ 9
  blank_kind k (white c) t f = ap₂ (λ x y. if x && (y || (c == 35)) then 9 else kind_at c) f.0 f.1
  blank_kind k (comment cs) t f = ap (λ x. if x && (is_white_space 35 || true) then 9 else kind_at 35) f.0 ∙ hash (is_white_space 35)
    where
      hash : (b : Bool) → (if b || true then 9 else kind_at 35) ≡ 9
      hash true = refl
      hash false = refl

  abbrev syntax_kind : Syntax → ℕ
  syntax_kind end = 8
  syntax_kind (bar_before p) = 6
  syntax_kind (pass b p) = 9
  syntax_kind (set_before bs l p) = 7
  syntax_kind (single x rs p) = single_kind x
  syntax_kind (group m q rs p) = 7

  syntax_begins : (k : Flags) (p : Syntax) (u : List ℕ) → Fine k p u → IsStop u → text_kind k (write p u) ≡ syntax_kind p
  syntax_begins k end [] f s = refl
  syntax_begins k end (c ∷ u) f s = subst (λ c. text_kind k (c ∷ u) ≡ 8) (sym s) (front_kind k (41 ∷ u) 8 (token_front k closes u tt))
  syntax_begins k (bar_before p) u f s = front_kind k (write_token bar (write p u)) 6 (token_front k bar (write p u) tt)
  syntax_begins k (pass b p) u f s = blank_kind k b (write p u) f.0
  syntax_begins k (set_before bs l p) u f s = front_kind k (write_token (set bs l) (write p u)) 7 (token_front k (set bs l) (write p u) (f.0, f.1, f.2))
  syntax_begins k (single x rs p) u f s =
      let t = write_repeats rs (write p u) in front_kind k (write_token (item x) t) (single_kind x) (token_front k (item x) t f.0)
  syntax_begins k (group m q rs p) u f s =
      let t = write_repeats rs (write p u) in
      front_kind k (write_token (opens m) (write q (41 ∷ t))) 7 (token_front k (opens m) (write q (41 ∷ t)) (opens_fine k m q t f.0 f.1))

  same_kind : (k : Flags) (p q : Syntax) (u v : List ℕ) → Fine k p u → Fine k q v → IsStop u → IsStop v → write p u ≡ write q v → syntax_kind p ≡ syntax_kind q
  same_kind k p q u v f g x y e = sym (syntax_begins k p u f x) ∙ ap (text_kind k) e ∙ syntax_begins k q v g y

  single_is_item : (x y : Single) → item x ≡ item y → x ≡ y
  single_is_item x y e = ap single_in e
    where
      single_in : Token → Single
      single_in (item z) = z
      single_in _ = x

  kind_in : (m n : Kind) → opens m ≡ opens n → m ≡ n
  kind_in m n e = ap of e
    where
      of : Token → Kind
      of (opens z) = z
      of _ = m

  blanks_in : (bs cs : List Blank) (l j : FlagList) → set bs l ≡ set cs j → bs ≡ cs
  blanks_in bs cs l j e = ap of e
    where
      of : Token → List Blank
      of (set zs i) = zs
      of _ = bs

  flags_in : (bs cs : List Blank) (l j : FlagList) → set bs l ≡ set cs j → l ≡ j
  flags_in bs cs l j e = ap of e
    where
      of : Token → FlagList
      of (set zs i) = i
      of _ = l

  abbrev is_set : Token → ℕ
  is_set (set bs l) = 1
  is_set _ = 0

  syntax_by : (k : Flags) (p q : Syntax) (u v : List ℕ) → Fine k p u → Fine k q v → IsStop u → IsStop v → write p u ≡ write q v → syntax_kind p ≡ syntax_kind q → (p ≡ q) × (u ≡ v)
  syntax_by k end end u v f g x y e i = (refl, e)
  syntax_by k end (bar_before q) u v f g x y e i = absurd (apart 8 6 refl i)
  syntax_by k end (pass c q) u v f g x y e i = absurd (apart 8 9 refl i)
  syntax_by k end (set_before cs j q) u v f g x y e i = absurd (apart 8 7 refl i)
  syntax_by k end (single d qs q) u v f g x y e i = absurd (single_low d 8 refl (sym i))
  syntax_by k end (group n z qs q) u v f g x y e i = absurd (apart 8 7 refl i)
  syntax_by k (bar_before p) end u v f g x y e i = absurd (apart 6 8 refl i)
  syntax_by k (bar_before p) (bar_before q) u v f g x y e i =
      let text = ap tail e in
      let more = syntax_by k p q u v f g x y text (same_kind k p q u v f g x y text) in
      (ap bar_before more.0, more.1)
  syntax_by k (bar_before p) (pass c q) u v f g x y e i = absurd (apart 6 9 refl i)
  syntax_by k (bar_before p) (set_before cs j q) u v f g x y e i = absurd (apart 6 7 refl i)
  syntax_by k (bar_before p) (single d qs q) u v f g x y e i = absurd (single_low d 6 refl (sym i))
  syntax_by k (bar_before p) (group n z qs q) u v f g x y e i = absurd (apart 6 7 refl i)
  syntax_by k (pass b p) end u v f g x y e i = absurd (apart 9 8 refl i)
  syntax_by k (pass b p) (bar_before q) u v f g x y e i = absurd (apart 9 6 refl i)
  syntax_by k (pass b p) (pass c q) u v f g x y e i =
      let first = one_blank k b c (write p u) (write q v) f.0 g.0 e in
      let more = syntax_by k p q u v f.1 g.1 x y first.1 (same_kind k p q u v f.1 g.1 x y first.1) in
      (ap (λ b. pass b p) first.0 ∙ ap (pass c) more.0, more.1)
  syntax_by k (pass b p) (set_before cs j q) u v f g x y e i = absurd (apart 9 7 refl i)
  syntax_by k (pass b p) (single d qs q) u v f g x y e i = absurd (single_low d 9 refl (sym i))
  syntax_by k (pass b p) (group n z qs q) u v f g x y e i = absurd (apart 9 7 refl i)
  syntax_by k (set_before bs l p) end u v f g x y e i = absurd (apart 7 8 refl i)
  syntax_by k (set_before bs l p) (bar_before q) u v f g x y e i = absurd (apart 7 6 refl i)
  syntax_by k (set_before bs l p) (pass c q) u v f g x y e i = absurd (apart 7 9 refl i)
  syntax_by k (set_before bs l p) (set_before cs j q) u v f g x y e i =
      let first = one_token one_opening k (set bs l) (set cs j) (write p u) (write q v) e (f.0, f.1, f.2) (g.0, g.1, g.2) in
      let flags = flags_in bs cs l j first.0 in
      let fine : Fine (apply l k) q v = subst (λ l. Fine (apply l k) q v) (sym flags) g.3 in
      let more = syntax_by (apply l k) p q u v f.3 fine x y first.1 (same_kind (apply l k) p q u v f.3 fine x y first.1) in
      (ap (λ bs. set_before bs l p) (blanks_in bs cs l j first.0) ∙ ap (λ l. set_before cs l p) flags ∙ ap (set_before cs j) more.0, more.1)
  syntax_by k (set_before bs l p) (single d qs q) u v f g x y e i = absurd (single_low d 7 refl (sym i))
  syntax_by k (set_before bs l p) (group n z qs q) u v f g x y e i =
      let t = write_repeats qs (write q v) in
      absurd (apart 1 0 refl (ap is_set (one_token one_opening k (set bs l) (opens n) (write p u) (write z (41 ∷ t)) e (f.0, f.1, f.2) (opens_fine k n z t g.0 g.1)).0))
  syntax_by k (single a rs p) end u v f g x y e i = absurd (single_low a 8 refl i)
  syntax_by k (single a rs p) (bar_before q) u v f g x y e i = absurd (single_low a 6 refl i)
  syntax_by k (single a rs p) (pass c q) u v f g x y e i = absurd (single_low a 9 refl i)
  syntax_by k (single a rs p) (set_before cs j q) u v f g x y e i = absurd (single_low a 7 refl i)
  syntax_by k (single a rs p) (single d qs q) u v f g x y e i =
      let s = write p u in
      let t = write q v in
      let first = one_token one_opening k (item a) (item d) (write_repeats rs s) (write_repeats qs t) e f.0 g.0 in
      let again = one_repeats k rs qs s t (no_operator_first k p u f.2 x) (no_operator_first k q v g.2 y) f.1 g.1 first.1 in
      let more = syntax_by k p q u v f.2 g.2 x y again.1 (same_kind k p q u v f.2 g.2 x y again.1) in
      (ap (λ a. single a rs p) (single_is_item a d first.0) ∙ ap (λ rs. single d rs p) again.0 ∙ ap (single d qs) more.0, more.1)
  syntax_by k (single a rs p) (group n z qs q) u v f g x y e i = absurd (single_low a 7 refl i)
  syntax_by k (group m r rs p) end u v f g x y e i = absurd (apart 7 8 refl i)
  syntax_by k (group m r rs p) (bar_before q) u v f g x y e i = absurd (apart 7 6 refl i)
  syntax_by k (group m r rs p) (pass c q) u v f g x y e i = absurd (apart 7 9 refl i)
  syntax_by k (group m r rs p) (set_before cs j q) u v f g x y e i =
      let t = write_repeats rs (write p u) in
      absurd (apart 0 1 refl (ap is_set (one_token one_opening k (opens m) (set cs j) (write r (41 ∷ t)) (write q v) e (opens_fine k m r t f.0 f.1) (g.0, g.1, g.2)).0))
  syntax_by k (group m r rs p) (single d qs q) u v f g x y e i = absurd (single_low d 7 refl (sym i))
  syntax_by k (group m r rs p) (group n z qs q) u v f g x y e i =
      let s = write p u in
      let t = write q v in
      let w = write_repeats rs s in
      let o = write_repeats qs t in
      let first = one_token one_opening k (opens m) (opens n) (write r (41 ∷ w)) (write z (41 ∷ o)) e (opens_fine k m r w f.0 f.1) (opens_fine k n z o g.0 g.1) in
      let kinds = kind_in m n first.0 in
      let fine : Fine (inside_flags m k) z (41 ∷ o) = subst (λ m. Fine (inside_flags m k) z (41 ∷ o)) (sym kinds) g.1 in
      let inner = syntax_by (inside_flags m k) r z (41 ∷ w) (41 ∷ o) f.1 fine refl refl first.1 (same_kind (inside_flags m k) r z (41 ∷ w) (41 ∷ o) f.1 fine refl refl first.1) in
      let again = one_repeats k rs qs s t (no_operator_first k p u f.3 x) (no_operator_first k q v g.3 y) f.2 g.2 (ap tail inner.1) in
      let more = syntax_by k p q u v f.3 g.3 x y again.1 (same_kind k p q u v f.3 g.3 x y again.1) in
      (ap (λ m. group m r rs p) kinds ∙ ap (λ r. group n r rs p) inner.0 ∙ ap (λ rs. group n z rs p) again.0 ∙ ap (group n z qs) more.0, more.1)

  -- two syntaxes of one text are one
  one_syntax : (k : Flags) (p q : Syntax) → Fine k p [] → Fine k q [] → write p [] ≡ write q [] → p ≡ q
  one_syntax k p q f g e = (syntax_by k p q [] [] f g tt tt e (same_kind k p q [] [] f g tt tt e)).0

  pub one_reading : (k : Flags) (text : List ℕ) (a b : Found) → Reads k text a → Reads k text b → a ≡ b
  one_reading k text a b x y = x.read ∙ ap (found_of k) (one_syntax k x.syntax y.syntax x.fine y.fine (sym x.written ∙ y.written)) ∙ sym y.read
