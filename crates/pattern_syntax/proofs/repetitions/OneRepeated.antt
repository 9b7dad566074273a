-- One repetition is written at a place.
use Rattle.std.proofs.Common.{◌≡◌, ℕ, Bool, true, false, List, [], ◌∷◌, ◌&&◌, ◌||◌, if◌then◌else◌, refl, sym, ap, ◌∙◌, subst, ⊎_elim, true≢false}
use Rattle.std.proofs.lemmas.Bool.{and_parts, cases_Bool}
use Rattle.ucd_props.proofs.Computing.{ucd_props}
use Rattle.pattern_syntax.specs.declared.flags.Flags.{Flags}
use Rattle.pattern_syntax.specs.Flags.{Blank, write_blanks, FineBlanks, seen, begins, is_nil}
use Rattle.pattern_syntax.specs.Syntax.{Count, optional, star, plus, exactly, at_least, between, Repeated, write_count, fine_count, is_braced, write_swap}
use Rattle.pattern_syntax.specs.Tokens.{write_repeated, swap_comes, FineRepeated}
use Rattle.pattern_syntax.proofs.BlanksLemmas.{seen_behind}
use Rattle.pattern_syntax.proofs.SameBlanks.{tail, IsClear, same_blanks}
use Rattle.pattern_syntax.proofs.repetitions.CountLemmas.{one_count}

pub count_clear : (m : Count) (t : List ℕ) → IsClear (write_count m t)
unfolding ucd_props
count_clear optional t = (refl, refl)
count_clear star t = (refl, refl)
count_clear plus t = (refl, refl)
count_clear (exactly a) t = (refl, refl)
count_clear (at_least a) t = (refl, refl)
count_clear (between a b) t = (refl, refl)

pub mark_clear : (t : List ℕ) → IsClear (63 ∷ t)
unfolding ucd_props
mark_clear t = (refl, refl)

nil_is : (bs : List Blank) → is_nil bs ≡ true → bs ≡ []
nil_is [] h = refl
nil_is (b ∷ bs) h = absurd (true≢false (sym h))

-- the blanks behind a count, and whether a `?` swaps the greed
pub record FineGap (k : Flags) (n : Count) (bs : List Blank) (swaps : Bool) (t : List ℕ) : Type 0 where
  pub blanks : FineBlanks k bs (write_swap swaps t)
  pub only : ((swaps && is_braced n) || is_nil bs) ≡ true
  pub told : (swaps || (if swap_comes k n t then false else true)) ≡ true

-- a `?` behind blanks swaps the greed
mark_comes : (k : Flags) (n : Count) (bs : List Blank) (s t : List ℕ) → FineBlanks k bs (63 ∷ s) → (is_braced n || is_nil bs) ≡ true → t ≡ write_blanks bs (63 ∷ s)
    → swap_comes k n t ≡ true
mark_comes k n bs s t f h e =
    ⊎_elim
    (λ yes.
    ap (λ b. begins 63 (if b then seen k t else t)) yes
    ∙ ap (begins 63) (ap (seen k) e ∙ seen_behind k bs (63 ∷ s) f (λ x. mark_clear s)))
    (λ no.
    let none : bs ≡ [] = nil_is bs (sym (ap (λ b. b || is_nil bs) no) ∙ h) in
    ap (λ b. begins 63 (if b then seen k t else t)) no ∙ ap (begins 63) (e ∙ ap (λ bs. write_blanks bs (63 ∷ s)) none))
    (cases_Bool (is_braced n))

no_mark : (k : Flags) (n : Count) (bs cs : List Blank) (s t : List ℕ) → FineGap k n bs true s → FineGap k n cs false t
    → write_blanks bs (63 ∷ s) ≡ write_blanks cs t → ⊥
no_mark k n bs cs s t f g e =
    let after : t ≡ write_blanks bs (63 ∷ s) = sym (e ∙ ap (λ cs. write_blanks cs t) (nil_is cs g.only)) in
    let comes = mark_comes k n bs s t f.blanks f.only after in
    true≢false (sym g.told ∙ ap (λ b. if b then false else true) comes)

same_gap : (k : Flags) (n : Count) (bs cs : List Blank) (x y : Bool) (s t : List ℕ) → FineGap k n bs x s → FineGap k n cs y t
    → write_blanks bs (write_swap x s) ≡ write_blanks cs (write_swap y t) → (bs ≡ cs) × (x ≡ y) × (s ≡ t)
same_gap k n bs cs true true s t f g e =
    let same = same_blanks k bs cs (63 ∷ s) (63 ∷ t) f.blanks g.blanks (mark_clear s) (mark_clear t) e in (same.0, refl, ap tail same.1)
same_gap k n bs cs true false s t f g e = absurd (no_mark k n bs cs s t f g e)
same_gap k n bs cs false true s t f g e = absurd (no_mark k n cs bs t s g f (sym e))
same_gap k n bs cs false false s t f g e =
    let first = nil_is bs f.only in
    let second = nil_is cs g.only in
    (first ∙ sym second, refl, sym (ap (λ bs. write_blanks bs s) first) ∙ e ∙ ap (λ cs. write_blanks cs t) second)

pub fine_gap : (k : Flags) (r : Repeated) (t : List ℕ) → FineRepeated k r t → FineGap k r.count r.gap r.swaps t
fine_gap k r t f =
    let a = and_parts _ _ f.2 in
    let b = and_parts _ _ a.0 in
    record { blanks = f.1; only = b.1; told = a.1 }

pub fine_counted : (k : Flags) (r : Repeated) (t : List ℕ) → FineRepeated k r t → fine_count r.count ≡ true
fine_counted k r t f =
    let a = and_parts _ _ f.2 in (and_parts _ _ a.0).0

abbrev pub made : List Blank → Count → List Blank → Bool → Repeated
made before count gap swaps = record { before = before; count = count; gap = gap; swaps = swaps }

pub one_repeated : (k : Flags) (r q : Repeated) (s t : List ℕ) → write_repeated r s ≡ write_repeated q t → FineRepeated k r s → FineRepeated k q t
    → (r ≡ q) × (s ≡ t)
one_repeated k r q s t e f g =
    let v = write_blanks r.gap (write_swap r.swaps s) in
    let w = write_blanks q.gap (write_swap q.swaps t) in
    let a = same_blanks k r.before q.before (write_count r.count v) (write_count q.count w) f.0 g.0 (count_clear r.count v) (count_clear q.count w) e in
    let b = one_count r.count q.count v w (fine_counted k r s f) (fine_counted k q t g) a.1 in
    let c =
    same_gap k q.count r.gap q.gap r.swaps q.swaps s t (subst (λ n. FineGap k n r.gap r.swaps s) b.0 (fine_gap k r s f)) (fine_gap k q t g) b.1 in (
      ap (λ z. made z r.count r.gap r.swaps) a.0
          ∙ ap (λ z. made q.before z r.gap r.swaps) b.0
          ∙ ap (λ z. made q.before q.count z r.swaps) c.0
          ∙ ap (λ z. made q.before q.count q.gap z) c.1,
      c.2,
    )
