-- The text of a line: it has the line's fields, is one line, and tells the line.
use Rattle.std.proofs.Common.{◌≡◌, ◌≢◌, ℕ, false, List, [], ◌∷◌, ◌++◌, refl, sym, ap, subst, ◌∙◌, arith}
use Rattle.std.specs.Prelude.{decimal}
use Rattle.sd_plan.specs.Digest.{digits_of}
use Rattle.sd_plan.specs.Escaped.{escaped}
use Rattle.sd_plan.specs.Plan.{IsPlanLine, mark_of, line_text}
use Rattle.sd_plan.specs.Reading.{Lacks, IsCut, HasFields, IsLineText, IsDigestField, IsMarkField, IsCountField, IsPathField}
use Rattle.sd_plan.specs.declared.line.PlanLine.{PlanLine}
use Rattle.sd_plan.proofs.fields.CutLemmas.{Lacks-append, cut_once, cut_lacks}
use Rattle.sd_plan.proofs.escaping.EscapeLemmas.{escaped_line, escaped_tells}
use Rattle.sd_plan.proofs.fields.FieldLemmas.{digits_lack, digits_tell, mark_lacks, mark_tells, decimal_lacks, decimal_tells}

-- fields of which four lack a space, parted by spaces
abbrev pub parted : (a b c d e : List ℕ) → List ℕ
parted a b c d e = a ++ 32 ∷ (b ++ 32 ∷ (c ++ 32 ∷ (d ++ 32 ∷ e)))

pub line_parted : (line : PlanLine) → line_text line ≡ parted (digits_of line.before) (digits_of line.after) (mark_of line.changed ∷ []) (decimal line.replaced) (escaped line.path)
unfolding line_text
line_parted line = refl

-- ---- a line has its fields, and a text has one way to have five fields

pub line_fields : (text : List ℕ) (line : PlanLine) → IsLineText text line
    → HasFields text (digits_of line.before) (digits_of line.after) (mark_of line.changed ∷ []) (decimal line.replaced) (escaped line.path)
line_fields text line is = record {
  rest = digits_of line.after ++ 32 ∷ ((mark_of line.changed ∷ []) ++ 32 ∷ (decimal line.replaced ++ 32 ∷ escaped line.path));
  rest_2 = (mark_of line.changed ∷ []) ++ 32 ∷ (decimal line.replaced ++ 32 ∷ escaped line.path);
  rest_3 = decimal line.replaced ++ 32 ∷ escaped line.path;
  cut = record { parts = is.text_is ∙ line_parted line; first = digits_lack 32 line.before refl is.is_line.before.are_bytes };
  cut_2 = record { parts = refl; first = digits_lack 32 line.after refl is.is_line.after.are_bytes };
  cut_3 = record { parts = refl; first = mark_lacks 32 line.changed (omega arith) };
  cut_4 = record { parts = refl; first = decimal_lacks 32 line.replaced (omega arith) };
}

pub record SameFields (a b c d e a' b' c' d' e' : List ℕ) : Type 0 where
  pub before : a ≡ a'
  pub after : b ≡ b'
  pub mark : c ≡ c'
  pub count : d ≡ d'
  pub path : e ≡ e'

pub fields_once : (text a b c d e a' b' c' d' e' : List ℕ) → HasFields text a b c d e → HasFields text a' b' c' d' e' → SameFields a b c d e a' b' c' d' e'
fields_once text a b c d e a' b' c' d' e' one other =
    let (before, rest) = cut_once 32 text a a' one.rest other.rest one.cut other.cut in
    let (after, rest_2) = cut_once 32 one.rest b b' one.rest_2 other.rest_2 one.cut_2 (subst (λ (t : List ℕ). IsCut 32 t b' other.rest_2) (sym rest) other.cut_2) in
    let (mark, rest_3) = cut_once 32 one.rest_2 c c' one.rest_3 other.rest_3 one.cut_3 (subst (λ (t : List ℕ). IsCut 32 t c' other.rest_3) (sym rest_2) other.cut_3) in
    let (count, path) = cut_once 32 one.rest_3 d d' e e' one.cut_4 (subst (λ (t : List ℕ). IsCut 32 t d' e') (sym rest_3) other.cut_4) in
    record { before = before; after = after; mark = mark; count = count; path = path }

pub fields_parted : (text a b c d e : List ℕ) → HasFields text a b c d e → text ≡ parted a b c d e
fields_parted text a b c d e has =
    has.cut.parts ∙ ap (λ (r : List ℕ). a ++ 32 ∷ r) (has.cut_2.parts ∙ ap (λ (r : List ℕ). b ++ 32 ∷ r) (has.cut_3.parts ∙ ap (λ (r : List ℕ). c ++ 32 ∷ r) has.cut_4.parts))

-- ---- the fields of a text are those of its line

pub record FieldsOf (a b c d e : List ℕ) (line : PlanLine) : Type 0 where
  pub before : IsDigestField a line.before
  pub after : IsDigestField b line.after
  pub mark : IsMarkField c line.changed
  pub count : IsCountField d line.replaced
  pub path : IsPathField e line.path

pub fields_of_line : (text a b c d e : List ℕ) (line : PlanLine) → HasFields text a b c d e → IsLineText text line → FieldsOf a b c d e line
fields_of_line text a b c d e line has is =
    let same = fields_once text a b c d e _ _ _ _ _ has (line_fields text line is) in
    record {
      before = (is.is_line.before, same.before);
      after = (is.is_line.after, same.after);
      mark = same.mark;
      count = (is.fits, same.count);
      path = (is.is_line.path_text, same.path);
    }

pub line_of_fields : (text a b c d e : List ℕ) (line : PlanLine) → HasFields text a b c d e → FieldsOf a b c d e line
    → (line.changed ≡ false → line.before ≡ line.after) → line.path ≢ [] → IsLineText text line
line_of_fields text a b c d e line has of same some = record {
  is_line = record { before = of.before.0; after = of.after.0; unchanged = same; path_text = of.path.0; path_some = some };
  fits = of.count.0;
  text_is = fields_parted text a b c d e has ∙ whole ∙ sym (line_parted line);
}
  where
    whole : parted a b c d e ≡ parted (digits_of line.before) (digits_of line.after) (mark_of line.changed ∷ []) (decimal line.replaced) (escaped line.path)
    whole = λ i. parted (of.before.1 i) (of.after.1 i) (of.mark i) (of.count.1 i) (of.path.1 i)

-- ---- a line is one line, and its text tells it

pub line_is_one_line : (line : PlanLine) → IsPlanLine line → Lacks 10 (line_text line)
line_is_one_line line is = subst (Lacks 10) (sym (line_parted line))
    (joined (digits_of line.before) _ (digits_lack 10 line.before refl is.before.are_bytes)
    (joined (digits_of line.after) _ (digits_lack 10 line.after refl is.after.are_bytes)
    (joined (mark_of line.changed ∷ []) _ (mark_lacks 10 line.changed (omega arith))
    (joined (decimal line.replaced) _ (decimal_lacks 10 line.replaced (omega arith)) (escaped_line line.path)))))
  where
    joined : (a b : List ℕ) → Lacks 10 a → Lacks 10 b → Lacks 10 (a ++ 32 ∷ b)
    joined a b h k = Lacks-append 10 a (32 ∷ b) h ((λ e. absurd (omega arith)), k)

same_line : (l m : PlanLine) → l.before ≡ m.before → l.after ≡ m.after → l.changed ≡ m.changed → l.replaced ≡ m.replaced → l.path ≡ m.path → l ≡ m
same_line l m before after changed replaced path = λ i. record {
  before = before i;
  after = after i;
  changed = changed i;
  replaced = replaced i;
  path = path i;
}

pub line_tells : (text : List ℕ) (l m : PlanLine) → IsLineText text l → IsLineText text m → l ≡ m
line_tells text l m is other =
    let same = fields_once text _ _ _ _ _ _ _ _ _ _ (line_fields text l is) (line_fields text m other) in
    same_line l m
    (digits_tell l.before m.before is.is_line.before.are_bytes other.is_line.before.are_bytes same.before)
    (digits_tell l.after m.after is.is_line.after.are_bytes other.is_line.after.are_bytes same.after)
    (mark_tells l.changed m.changed same.mark)
    (decimal_tells l.replaced m.replaced is.fits other.fits same.count)
    (escaped_tells l.path m.path same.path)

-- ---- a text that doesn't have them

pub no_cut : (text : List ℕ) → Lacks 32 text → (a b c d e : List ℕ) → HasFields text a b c d e → ⊥
no_cut text none a b c d e has = cut_lacks 32 text a has.rest none has.cut

pub no_cut_2 : (text front rest : List ℕ) → IsCut 32 text front rest → Lacks 32 rest → (a b c d e : List ℕ) → HasFields text a b c d e → ⊥
no_cut_2 text front rest cut none a b c d e has =
    let (_, same) = cut_once 32 text front a rest has.rest cut has.cut in
    cut_lacks 32 has.rest b has.rest_2 (subst (Lacks 32) same none) has.cut_2

pub no_cut_3 : (text front rest front_2 rest_2 : List ℕ) → IsCut 32 text front rest → IsCut 32 rest front_2 rest_2 → Lacks 32 rest_2
    → (a b c d e : List ℕ) → HasFields text a b c d e → ⊥
no_cut_3 text front rest front_2 rest_2 cut cut_2 none a b c d e has =
    let (_, same) = cut_once 32 text front a rest has.rest cut has.cut in
    let (_, same_2) = cut_once 32 has.rest front_2 b rest_2 has.rest_2 (subst (λ (t : List ℕ). IsCut 32 t front_2 rest_2) same cut_2) has.cut_2 in
    cut_lacks 32 has.rest_2 c has.rest_3 (subst (Lacks 32) same_2 none) has.cut_3

pub no_cut_4 : (text front rest front_2 rest_2 front_3 rest_3 : List ℕ) → IsCut 32 text front rest → IsCut 32 rest front_2 rest_2 → IsCut 32 rest_2 front_3 rest_3 → Lacks 32 rest_3
    → (a b c d e : List ℕ) → HasFields text a b c d e → ⊥
no_cut_4 text front rest front_2 rest_2 front_3 rest_3 cut cut_2 cut_3 none a b c d e has =
    let (_, same) = cut_once 32 text front a rest has.rest cut has.cut in
    let (_, same_2) = cut_once 32 has.rest front_2 b rest_2 has.rest_2 (subst (λ (t : List ℕ). IsCut 32 t front_2 rest_2) same cut_2) has.cut_2 in
    let (_, same_3) = cut_once 32 has.rest_2 front_3 c rest_3 has.rest_3 (subst (λ (t : List ℕ). IsCut 32 t front_3 rest_3) same_2 cut_3) has.cut_3 in
    cut_lacks 32 has.rest_3 d e (subst (Lacks 32) same_3 none) has.cut_4
