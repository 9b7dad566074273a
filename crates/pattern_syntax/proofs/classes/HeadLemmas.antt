-- The leading `-` of a class, as they are read.
use Rattle.std.proofs.Common.{◌≡◌, ℕ, false, List, [], ◌∷◌, ◌++◌, codes, refl, sym, ap, subst}
use Rattle.pattern_syntax.specs.declared.flags.Flags.{Flags}
use Rattle.pattern_syntax.specs.Flags.{Blank, write_blanks, FineBlanks, begins, seen}
use Rattle.pattern_syntax.specs.Class.{write_dashes, FineDashes}

abbrev pub FineSoFar : Flags → List (List Blank) → List ℕ → Type 0
FineSoFar k [] t = Unit {0}
FineSoFar k (bs ∷ more) t = FineBlanks k bs (codes "-" ++ write_dashes more t) × FineSoFar k more t

pub write_one_more : (ds : List (List Blank)) (bs : List Blank) (t : List ℕ) → write_dashes (ds ++ bs ∷ []) t ≡ write_dashes ds (write_blanks bs (45 ∷ t))
write_one_more [] bs t = refl
write_one_more (cs ∷ ds) bs t = ap (λ w. write_blanks cs (45 ∷ w)) (write_one_more ds bs t)

pub fine_one_more : (k : Flags) (ds : List (List Blank)) (bs : List Blank) (t : List ℕ) → FineSoFar k ds (write_blanks bs (45 ∷ t)) → FineBlanks k bs (45 ∷ t)
    → FineSoFar k (ds ++ bs ∷ []) t
fine_one_more k [] bs t f g = (g, tt)
fine_one_more k (cs ∷ ds) bs t f g =
    (subst (λ w. FineBlanks k cs (45 ∷ w)) (sym (write_one_more ds bs t)) f.0, fine_one_more k ds bs t f.1 g)

-- no more follows
pub fine_dashes : (k : Flags) (ds : List (List Blank)) (t : List ℕ) → FineSoFar k ds t → begins 45 (seen k t) ≡ false → FineDashes k ds t
fine_dashes k [] t f none = none
fine_dashes k (bs ∷ ds) t f none = (f.0, fine_dashes k ds t f.1 none)
