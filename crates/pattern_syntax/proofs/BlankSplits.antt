-- Blanks that stand before what is seen.
use Rattle.std.proofs.Common.{◌≡◌, ℕ, ◌≤◌, true, false, List, [], ◌∷◌, ◌++◌, ◌==◌, if◌then◌else◌, length, drop, refl, sym, ap, ◌∙◌, subst, ⊎_elim, arith, length-append, length-drop}
use Rattle.std.proofs.lemmas.Bool.{cases_Bool, or_from, eqb-true}
use Rattle.ucd_props.proofs.Computing.{ucd_props}
use Rattle.unicode.specs.Binary.{is_white_space}
use Rattle.pattern_syntax.specs.declared.flags.Flags.{Flags}
use Rattle.pattern_syntax.specs.Flags.{Blank, white, comment, write_blanks, FineBlanks, has, ends_line, passed, after_line, seen}
use Rattle.pattern_syntax.proofs.BlanksLemmas.{passed_white, passed_clear, left_comment, left_line, left_on}

-- blanks, and the text `u` behind them
pub record Blanks (k : Flags) (t u : List ℕ) : Type 0 where
  pub blanks : List Blank
  pub fine : FineBlanks k blanks u
  pub written : t ≡ write_blanks blanks u

-- the rest of a line, and then blanks
record Line (k : Flags) (t u : List ℕ) : Type 0 where
  line : List ℕ
  blanks : List Blank
  ends : has 10 line ≡ false
  line_ends : ends_line (write_blanks blanks u) ≡ true
  fine : FineBlanks k blanks u
  written : t ≡ line ++ write_blanks blanks u

newline_white : is_white_space 10 ≡ true
unfolding ucd_props
newline_white = refl

module _ (k : Flags) (x : k.spaces ≡ true) where
  put_comment : (c : ℕ) (t : List ℕ) → Line k t (after_line t) → (c == 35) ≡ true → Blanks k (c ∷ t) (passed (c ∷ t))
  put_comment c t l h =
      subst (λ u. Blanks k (c ∷ t) u) (sym (left_comment c t h))
      (record {
        blanks = comment l.line ∷ l.blanks;
        fine = (x, l.ends, l.line_ends, l.fine);
        written = ap (λ d. d ∷ t) (eqb-true c 35 h) ∙ ap (λ z. 35 ∷ z) l.written;
      })

  put_white : (c : ℕ) (t : List ℕ) → Blanks k t (passed t) → is_white_space c ≡ true → Blanks k (c ∷ t) (passed (c ∷ t))
  put_white c t b w =
      subst (λ u. Blanks k (c ∷ t) u) (sym (passed_white c t w))
      (record { blanks = white c ∷ b.blanks; fine = (x, w, b.fine); written = ap (λ z. c ∷ z) b.written })

  put_none : (c : ℕ) (t : List ℕ) → (c == 35) ≡ false → is_white_space c ≡ false → Blanks k (c ∷ t) (passed (c ∷ t))
  put_none c t h w = subst (λ u. Blanks k (c ∷ t) u) (sym (passed_clear (c ∷ t) (w, h))) (record { blanks = []; fine = tt; written = refl })

  end_line : (c : ℕ) (t : List ℕ) → Blanks k t (passed t) → (c == 10) ≡ true → Line k (c ∷ t) (after_line (c ∷ t))
  end_line c t b h =
      subst (λ u. Line k (c ∷ t) u) (sym (left_line c t h))
      (record {
        line = [];
        blanks = white c ∷ b.blanks;
        ends = refl;
        line_ends = h;
        fine = (x, ap is_white_space (eqb-true c 10 h) ∙ newline_white, b.fine);
        written = ap (λ z. c ∷ z) b.written;
      })

  put_line : (c : ℕ) (t : List ℕ) → Line k t (after_line t) → (c == 10) ≡ false → Line k (c ∷ t) (after_line (c ∷ t))
  put_line c t l h =
      subst (λ u. Line k (c ∷ t) u) (sym (left_on c t h))
      (record {
        line = c ∷ l.line;
        blanks = l.blanks;
        ends = or_from (c == 10) (has 10 l.line) h l.ends;
        line_ends = l.line_ends;
        fine = l.fine;
        written = ap (λ z. c ∷ z) l.written;
      })

  splits : (t : List ℕ) → Blanks k t (passed t) × Line k t (after_line t)
  splits [] = (record { blanks = []; fine = tt; written = refl }, record { line = []; blanks = []; ends = refl; line_ends = refl; fine = tt; written = refl })
  splits (c ∷ t) =
      let more = splits t in (
        ⊎_elim
            (λ h. put_comment c t more.1 h)
            (λ h. ⊎_elim (λ w. put_white c t more.0 w) (λ w. put_none c t h w) (cases_Bool (is_white_space c)))
            (cases_Bool (c == 35)),
        ⊎_elim (λ h. end_line c t more.0 h) (λ h. put_line c t more.1 h) (cases_Bool (c == 10)),
      )

-- before what is seen stand blanks
pub blanks_seen : (k : Flags) (t : List ℕ) → Blanks k t (seen k t)
blanks_seen k t =
    ⊎_elim
    (λ x. subst (λ u. Blanks k t u) (sym (ap (λ b. if b then passed t else t) x)) (splits k x t).0)
    (λ x. subst (λ u. Blanks k t u) (sym (ap (λ b. if b then passed t else t) x)) (record { blanks = []; fine = tt; written = refl }))
    (cases_Bool k.spaces)

pub no_shorter : (bs : List Blank) (u : List ℕ) → length u ≤ length (write_blanks bs u)
no_shorter [] u = omega arith
no_shorter (white c ∷ bs) u = let more : length u ≤ length (write_blanks bs u) = no_shorter bs u in omega arith
no_shorter (comment cs ∷ bs) u =
    let more : length u ≤ length (write_blanks bs u) = no_shorter bs u in omega (arith, length-append cs (write_blanks bs u))

-- blanks lead onward
pub blanks_onward : (k : Flags) (text : List ℕ) (at next : ℕ) → at ≤ length text → next ≤ length text → Blanks k (drop at text) (drop next text) → at ≤ next
blanks_onward k text at next a n b =
    let longer : length (drop next text) ≤ length (write_blanks b.blanks (drop next text)) = no_shorter b.blanks (drop next text) in
    let same : length (drop at text) ≡ length (write_blanks b.blanks (drop next text)) = ap length b.written in
    omega (arith, length-drop at text, length-drop next text)
