-- The text of a plan tells the plan; why a text that is read so far is the text of none.
use Rattle.std.proofs.Common.{◌≡◌, ◌≢◌, ℕ, ◌+◌, ◌^◌, ◌<◌, List, [], ◌∷◌, ◌++◌, length, refl, sym, ap, ◌∙◌, append_assoc, arith}
use Rattle.std.specs.Prelude.{codes, decimal}
use Rattle.std.specs.List.{AllByRecursion}
use Rattle.std.proofs.lemmas.List.Sums.{sum_by-append, sum_by-cons}
use Rattle.std.proofs.lemmas.List.Concat.{flat_map-append}
use Rattle.sd_plan.specs.Report.{report_text}
use Rattle.sd_plan.specs.Plan.{IsPlanLine, IsPlan, IsTextOf, changed_in, replaced_in, line_text, lines_text, report_of, text_of}
use Rattle.sd_plan.specs.Reading.{Lacks, IsLineText}
use Rattle.sd_plan.specs.declared.line.PlanLine.{PlanLine}
use Rattle.sd_plan.proofs.fields.CutLemmas.{Lacks-append, cut_same}
use Rattle.sd_plan.proofs.fields.FieldLemmas.{decimal_lacks}
use Rattle.sd_plan.proofs.reading.LineLemmas.{line_is_one_line, line_tells}

-- ---- the lines of a text

pub lines_text-append : (xs ys : List PlanLine) → lines_text (xs ++ ys) ≡ lines_text xs ++ lines_text ys
unfolding lines_text
lines_text-append xs ys = flat_map-append (λ (line : PlanLine). line_text line ++ 10 ∷ []) xs ys

pub lines_text-cons : (line : PlanLine) (lines : List PlanLine) (rest : List ℕ) → lines_text (line ∷ lines) ++ rest ≡ line_text line ++ 10 ∷ (lines_text lines ++ rest)
unfolding lines_text
lines_text-cons line lines rest =
    append_assoc (line_text line ++ 10 ∷ []) (lines_text lines) rest ∙ append_assoc (line_text line) (10 ∷ []) (lines_text lines ++ rest)

pub lines_text-nil : lines_text [] ≡ []
unfolding lines_text
lines_text-nil = refl

-- the report is one line, with its newline
pub report_front : ℕ → ℕ → ℕ → List ℕ
report_front chosen changed replaced = codes "chosen " ++ (decimal chosen ++ (codes ", changed " ++ (decimal changed ++ (codes ", replaced " ++ decimal replaced))))

pub report_parts : (chosen changed replaced : ℕ) → report_text chosen changed replaced ≡ report_front chosen changed replaced ++ 10 ∷ []
unfolding report_text report_front
report_parts chosen changed replaced = search (append_assoc)

pub report_is_one_line : (chosen changed replaced : ℕ) → Lacks 10 (report_front chosen changed replaced)
unfolding report_front
report_is_one_line chosen changed replaced =
    Lacks-append 10 (codes "chosen ") _ (search (arith))
    (Lacks-append 10 (decimal chosen) _ (decimal_lacks 10 chosen (omega arith))
    (Lacks-append 10 (codes ", changed ") _ (search (arith))
    (Lacks-append 10 (decimal changed) _ (decimal_lacks 10 changed (omega arith))
    (Lacks-append 10 (codes ", replaced ") _ (search (arith)) (decimal_lacks 10 replaced (omega arith))))))

-- ---- plans

abbrev IsFit : PlanLine → Type 0
IsFit line = IsPlanLine line × (line.replaced < 2 ^ 128)

fit_lines : (lines : List PlanLine) → AllByRecursion IsPlanLine lines → replaced_in lines < 2 ^ 128 → AllByRecursion IsFit lines
fit_lines [] each fits = tt
fit_lines (line ∷ lines) each fits =
    let whole : replaced_in (line ∷ lines) ≡ line.replaced + replaced_in lines = sum_by-cons (λ (line : PlanLine). line.replaced) line lines in
    ((each.0, omega arith), fit_lines lines each.1 (omega arith))

pub each-append : {X : Type 0} (P : X → Type 0) (xs ys : List X) → AllByRecursion P (xs ++ ys) → AllByRecursion P ys
each-append P [] ys all = all
each-append P (x ∷ xs) ys all = each-append P xs ys all.1

pub each-push : {X : Type 0} (P : X → Type 0) (xs : List X) (y : X) → AllByRecursion P xs → P y → AllByRecursion P (xs ++ y ∷ [])
each-push P [] y all here = (here, tt)
each-push P (x ∷ xs) y all here = (all.0, each-push P xs y all.1 here)

pub IsPlan-push : (lines : List PlanLine) (line : PlanLine) → IsPlan lines → IsPlanLine line → replaced_in lines + line.replaced < 2 ^ 128 → IsPlan (lines ++ line ∷ [])
IsPlan-push lines line is here fits =
    let whole : replaced_in (lines ++ line ∷ []) ≡ replaced_in lines + (0 + line.replaced) = sum_by-append (λ (line : PlanLine). line.replaced) lines (line ∷ []) in
    record { each = each-push IsPlanLine lines line is.each here; fits = omega arith }

-- ---- the front of a text

pub no_back : (a b : List ℕ) → a ++ b ≡ [] → b ≡ []
no_back [] b e = e
no_back (x ∷ a) b e = absurd (none x (a ++ b) e)
  where
    none : (x : ℕ) (xs : List ℕ) → x ∷ xs ≡ [] → ⊥
    none x xs e = cc

-- where lines begin lines that end with a line of another kind, they are the first ones of them
lines_front : (done lines : List PlanLine) (rest front : List ℕ) → AllByRecursion IsFit done → AllByRecursion IsFit lines → Lacks 10 front → rest ≢ []
    → lines_text lines ++ (front ++ 10 ∷ []) ≡ lines_text done ++ rest
    → (more : List PlanLine) × (lines ≡ done ++ more) × (rest ≡ lines_text more ++ (front ++ 10 ∷ []))
lines_front [] lines rest front fit fits line some e = (lines, refl, sym (e ∙ ap (λ (l : List ℕ). l ++ rest) lines_text-nil))
lines_front (d ∷ done) [] rest front fit fits line some e =
    let both : front ++ 10 ∷ [] ≡ line_text d ++ 10 ∷ (lines_text done ++ rest) = sym (ap (λ (l : List ℕ). l ++ (front ++ 10 ∷ [])) lines_text-nil) ∙ e ∙ lines_text-cons d done rest in
    let (_, back) = cut_same 10 front (line_text d) [] (lines_text done ++ rest) line (line_is_one_line d fit.0.0) both in
    absurd (some (no_back (lines_text done) rest (sym back)))
lines_front (d ∷ done) (l ∷ lines) rest front fit fits line some e =
    let both : line_text l ++ 10 ∷ (lines_text lines ++ (front ++ 10 ∷ [])) ≡ line_text d ++ 10 ∷ (lines_text done ++ rest) = sym (lines_text-cons l lines (front ++ 10 ∷ [])) ∙ e ∙ lines_text-cons d done rest in
    let (same, back) = cut_same 10 (line_text l) (line_text d) _ _ (line_is_one_line l fits.0.0) (line_is_one_line d fit.0.0) both in
    let is_l : IsLineText (line_text l) l = record { is_line = fits.0.0; fits = fits.0.1; text_is = refl } in
    let is_d : IsLineText (line_text l) d = record { is_line = fit.0.0; fits = fit.0.1; text_is = same } in
    let first : l ≡ d = line_tells (line_text l) l d is_l is_d in
    let (more, later, rest_is) = lines_front done lines rest front fit.1 fits.1 line some back in
    (more, (λ i. first i ∷ later i), rest_is)

pub first_line : (x y : List ℕ) → codes "sd-plan 1\n" ++ x ≡ codes "sd-plan 1\n" ++ y → x ≡ y
first_line x y e = cc

pub text_parts : (lines : List PlanLine) → text_of lines ≡ codes "sd-plan 1\n" ++ (lines_text lines ++ report_of lines)
unfolding text_of
text_parts lines = refl

-- The text is read as the first line and these lines, up to a rest that isn't empty behind a line.
pub record IsReadTo (text : List ℕ) (done : List PlanLine) (rest : List ℕ) : Type 0 where
  pub is_plan : IsPlan done
  pub parts : text ≡ codes "sd-plan 1\n" ++ (lines_text done ++ rest)
  pub begun : rest ≡ [] → done ≡ []

-- what is read so far are the first lines of each plan of the text
pub more_lines : (text : List ℕ) (done lines : List PlanLine) (rest : List ℕ) → IsReadTo text done rest → IsTextOf text lines
    → (more : List PlanLine) × (lines ≡ done ++ more) × (rest ≡ lines_text more ++ report_of lines)
more_lines text done lines rest read is = by_rest rest refl
  where
    both : lines_text lines ++ report_of lines ≡ lines_text done ++ rest
    both = first_line _ _ (sym (text_parts lines) ∙ sym is.text_is ∙ read.parts)

    report_is : report_of lines ≡ report_front (length lines) (changed_in lines) (replaced_in lines) ++ 10 ∷ []
    report_is = report_parts (length lines) (changed_in lines) (replaced_in lines)

    none : (x : ℕ) (xs : List ℕ) → x ∷ xs ≡ [] → ⊥
    none x xs e = cc

    by_rest : (r : List ℕ) → rest ≡ r → (more : List PlanLine) × (lines ≡ done ++ more) × (rest ≡ lines_text more ++ report_of lines)
    by_rest [] e =
        let nothing : done ≡ [] = read.begun e in
        (lines, ap (λ (l : List PlanLine). l ++ lines) (sym nothing), sym (both ∙ ap (λ (l : List PlanLine). lines_text l ++ rest) nothing ∙ ap (λ (l : List ℕ). l ++ rest) lines_text-nil))
    by_rest (x ∷ xs) e =
        let some : rest ≢ [] = λ h. none x xs (sym e ∙ h) in
        let (more, lines_are, rest_is) = lines_front done lines rest _ (fit_lines done read.is_plan.each read.is_plan.fits) (fit_lines lines is.is_plan.each is.is_plan.fits)
        (report_is_one_line (length lines) (changed_in lines) (replaced_in lines)) some (ap (λ (l : List ℕ). lines_text lines ++ l) (sym report_is) ∙ both) in
        (more, lines_are, rest_is ∙ ap (λ (l : List ℕ). lines_text more ++ l) (sym report_is))
