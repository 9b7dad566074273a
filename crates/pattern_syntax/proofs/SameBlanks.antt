-- Blanks split one way.
use Rattle.std.proofs.Common.{◌≡◌, ℕ, Bool, true, false, List, [], ◌∷◌, ◌++◌, ◌==◌, ◌||◌, refl, sym, ap, ◌∙◌, subst, true≢false}
use Rattle.unicode.specs.Binary.{is_white_space}
use Rattle.pattern_syntax.proofs.BlanksLemmas.{number_sign}
use Rattle.pattern_syntax.specs.declared.flags.Flags.{Flags}
use Rattle.pattern_syntax.specs.Flags.{Blank, white, comment, write_blanks, FineBlanks, has, ends_line}

abbrev pub head : List ℕ → ℕ
head [] = 0
head (c ∷ t) = c

abbrev pub tail : List ℕ → List ℕ
tail [] = []
tail (c ∷ t) = t

or_left : (a b : Bool) → (a || b) ≡ false → a ≡ false
or_left false b h = refl
or_left true b h = h

or_right : (a b : Bool) → (a || b) ≡ false → b ≡ false
or_right false b h = h
or_right true b h = absurd (true≢false h)

-- no blank begins here
abbrev pub IsClear : List ℕ → Type 0
IsClear [] = Unit {0}
IsClear (c ∷ t) = (is_white_space c ≡ false) × ((c == 35) ≡ false)

pub same_line : (cs ds w v : List ℕ) → has 10 cs ≡ false → has 10 ds ≡ false → ends_line w ≡ true → ends_line v ≡ true → cs ++ w ≡ ds ++ v → (cs ≡ ds) × (w ≡ v)
same_line [] [] w v a b x y e = (refl, e)
same_line [] (d ∷ ds) w v a b x y e = absurd (true≢false (sym x ∙ ap ends_line e ∙ or_left (d == 10) (has 10 ds) b))
same_line (c ∷ cs) [] w v a b x y e = absurd (true≢false (sym y ∙ ap ends_line (sym e) ∙ or_left (c == 10) (has 10 cs) a))
same_line (c ∷ cs) (d ∷ ds) w v a b x y e =
    let more = same_line cs ds w v (or_right (c == 10) (has 10 cs) a) (or_right (d == 10) (has 10 ds) b) x y (ap tail e) in
    (ap (λ c. c ∷ cs) (ap head e) ∙ ap (λ cs. d ∷ cs) more.0, more.1)

pub same_blanks : (k : Flags) (bs cs : List Blank) (t u : List ℕ) → FineBlanks k bs t → FineBlanks k cs u → IsClear t → IsClear u
    → write_blanks bs t ≡ write_blanks cs u → (bs ≡ cs) × (t ≡ u)
same_blanks k [] [] t u f g x y e = (refl, e)
same_blanks k [] (white d ∷ cs) t u f g x y e = absurd (true≢false (sym g.1 ∙ (subst IsClear e x).0))
same_blanks k [] (comment ds ∷ cs) t u f g x y e = absurd (true≢false (subst IsClear e x).1)
same_blanks k (white c ∷ bs) [] t u f g x y e = absurd (true≢false (sym f.1 ∙ (subst IsClear (sym e) y).0))
same_blanks k (comment c ∷ bs) [] t u f g x y e = absurd (true≢false (subst IsClear (sym e) y).1)
same_blanks k (white c ∷ bs) (white d ∷ cs) t u f g x y e =
    let more = same_blanks k bs cs t u f.2 g.2 x y (ap tail e) in
    (ap (λ c. white c ∷ bs) (ap head e) ∙ ap (λ bs. white d ∷ bs) more.0, more.1)
same_blanks k (white c ∷ bs) (comment ds ∷ cs) t u f g x y e = absurd (true≢false (sym f.1 ∙ ap is_white_space (ap head e) ∙ number_sign))
same_blanks k (comment ds ∷ bs) (white c ∷ cs) t u f g x y e = absurd (true≢false (sym g.1 ∙ ap is_white_space (ap head (sym e)) ∙ number_sign))
same_blanks k (comment c ∷ bs) (comment d ∷ cs) t u f g x y e =
    let line = same_line c d (write_blanks bs t) (write_blanks cs u) f.1 g.1 f.2 g.2 (ap tail e) in
    let more = same_blanks k bs cs t u f.3 g.3 x y line.1 in
    (ap (λ c. comment c ∷ bs) line.0 ∙ ap (λ bs. comment d ∷ bs) more.0, more.1)
