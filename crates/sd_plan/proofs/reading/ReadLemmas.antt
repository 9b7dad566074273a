-- A plan's text that is read so far: how it goes on, and why there is no plan of it.
use Rattle.std.proofs.Common.{◌≡◌, ◌≢◌, ℕ, ◌+◌, ◌^◌, ◌<◌, ◌≤◌, List, [], ◌∷◌, ◌++◌, length, refl, sym, ap, subst, ◌∙◌, append_assoc, append-nil, arith}
use Rattle.std.specs.Prelude.{codes}
use Rattle.std.specs.List.{AllByRecursion}
use Rattle.std.proofs.lemmas.List.Sums.{sum_by-append, sum_by-cons}
use Rattle.sd_plan.specs.Plan.{IsPlanLine, IsTextOf, changed_in, replaced_in, line_text, lines_text, report_of}
use Rattle.sd_plan.specs.Reading.{Lacks, IsCut, IsLineText}
use Rattle.sd_plan.specs.declared.line.PlanLine.{PlanLine}
use Rattle.sd_plan.proofs.fields.CutLemmas.{cut_same, cut_none}
use Rattle.sd_plan.proofs.reading.LineLemmas.{line_is_one_line, line_tells}
use Rattle.sd_plan.proofs.reading.TextLemmas.{IsReadTo, lines_text-append, lines_text-cons, lines_text-nil, report_front, report_parts, report_is_one_line, each-append, IsPlan-push, no_back, text_parts, more_lines}

empty : {A : Type 0} (x : A) (xs : List A) → x ∷ xs ≡ [] → ⊥
empty x xs e = cc

no_report : (lines : List PlanLine) → report_of lines ≡ [] → ⊥
no_report lines e = empty 10 [] (no_back (report_front (length lines) (changed_in lines) (replaced_in lines)) (10 ∷ []) (sym (report_parts (length lines) (changed_in lines) (replaced_in lines)) ∙ e))

-- ---- how it goes on

pub read_first : (text rest : List ℕ) → text ≡ codes "sd-plan 1\n" ++ rest → IsReadTo text [] rest
read_first text rest e = record {
  is_plan = record { each = tt; fits = omega arith };
  parts = e ∙ ap (λ (l : List ℕ). codes "sd-plan 1\n" ++ (l ++ rest)) (sym lines_text-nil);
  begun = λ _. refl;
}

one_line : (line : PlanLine) → lines_text (line ∷ []) ≡ line_text line ++ 10 ∷ []
one_line line = sym (append-nil (lines_text (line ∷ []))) ∙ lines_text-cons line [] [] ∙ ap (λ (l : List ℕ). line_text line ++ 10 ∷ l) (append-nil (lines_text []) ∙ lines_text-nil)

pub read_line_more : (text : List ℕ) (done : List PlanLine) (rest line after : List ℕ) (next : PlanLine) → IsReadTo text done rest → IsCut 10 rest line after → after ≢ []
    → IsLineText line next → replaced_in done + next.replaced < 2 ^ 128 → IsReadTo text (done ++ next ∷ []) after
read_line_more text done rest line after next read cut some is fits = record {
  is_plan = IsPlan-push done next read.is_plan is.is_line fits;
  parts = read.parts ∙ ap (λ (l : List ℕ). codes "sd-plan 1\n" ++ l) (ap (λ (r : List ℕ). lines_text done ++ r) rest_is ∙ sym joined);
  begun = λ e. absurd (some e);
}
  where
    rest_is : rest ≡ (line_text next ++ 10 ∷ []) ++ after
    rest_is = cut.parts ∙ ap (λ (l : List ℕ). l ++ 10 ∷ after) is.text_is ∙ sym (append_assoc (line_text next) (10 ∷ []) after)

    joined : lines_text (done ++ next ∷ []) ++ after ≡ lines_text done ++ ((line_text next ++ 10 ∷ []) ++ after)
    joined = ap (λ (l : List ℕ). l ++ after) (lines_text-append done (next ∷ []) ∙ ap (λ (l : List ℕ). lines_text done ++ l) (one_line next))
        ∙ append_assoc (lines_text done) (line_text next ++ 10 ∷ []) after

pub read_whole : (text : List ℕ) (done : List PlanLine) (rest : List ℕ) → IsReadTo text done rest → rest ≡ report_of done → IsTextOf text done
read_whole text done rest read e = record {
  is_plan = read.is_plan;
  text_is = read.parts ∙ ap (λ (r : List ℕ). codes "sd-plan 1\n" ++ (lines_text done ++ r)) e ∙ sym (text_parts done);
}

-- ---- why there is none

pub refused_first : (text : List ℕ) (lines : List PlanLine) → IsTextOf text lines → (rest : List ℕ) × (text ≡ codes "sd-plan 1\n" ++ rest)
refused_first text lines is = (lines_text lines ++ report_of lines, is.text_is ∙ text_parts lines)

pub refused_uncut : (text : List ℕ) (done lines : List PlanLine) (rest : List ℕ) → IsReadTo text done rest → Lacks 10 rest → IsTextOf text lines → ⊥
refused_uncut text done lines rest read none is =
    let (more, _, rest_is) = more_lines text done lines rest read is in
    let front = report_front (length lines) (changed_in lines) (replaced_in lines) in
    let cut : rest ≡ (lines_text more ++ front) ++ 10 ∷ [] =
    rest_is ∙ ap (λ (l : List ℕ). lines_text more ++ l) (report_parts (length lines) (changed_in lines) (replaced_in lines)) ∙ sym (append_assoc (lines_text more) front (10 ∷ [])) in
    cut_none 10 (lines_text more ++ front) [] (subst (Lacks 10) cut none)

-- the next line, where something follows it
record HasNext (lines done : List PlanLine) (line : List ℕ) : Type 0 where
  next : PlanLine
  more : List PlanLine
  lines_are : lines ≡ done ++ next ∷ more
  is : IsLineText line next

next_of : (text : List ℕ) (done lines : List PlanLine) (rest line after : List ℕ) → IsReadTo text done rest → IsCut 10 rest line after → after ≢ [] → IsTextOf text lines → HasNext lines done line
next_of text done lines rest line after read cut some is =
    let (more, lines_are, rest_is) = more_lines text done lines rest read is in by_more more lines_are rest_is
  where
    by_more : (more : List PlanLine) → lines ≡ done ++ more → rest ≡ lines_text more ++ report_of lines → HasNext lines done line
    by_more [] lines_are rest_is =
        let report_is = report_parts (length lines) (changed_in lines) (replaced_in lines) in
        let (_, back) = cut_same 10 line (report_front (length lines) (changed_in lines) (replaced_in lines)) after [] cut.first (report_is_one_line (length lines) (changed_in lines) (replaced_in lines))
        (sym cut.parts ∙ rest_is ∙ ap (λ (l : List ℕ). l ++ report_of lines) lines_text-nil ∙ report_is) in
        absurd (some back)
    by_more (next ∷ more) lines_are rest_is =
        let each : AllByRecursion IsPlanLine (next ∷ more) = each-append IsPlanLine done (next ∷ more) (subst (AllByRecursion IsPlanLine) lines_are is.is_plan.each) in
        let (line_is, _) = cut_same 10 line (line_text next) after (lines_text more ++ report_of lines) cut.first (line_is_one_line next each.0)
        (sym cut.parts ∙ rest_is ∙ lines_text-cons next more (report_of lines)) in
        let whole : replaced_in lines ≡ replaced_in done + replaced_in (next ∷ more) = ap replaced_in lines_are ∙ sum_by-append (λ (line : PlanLine). line.replaced) done (next ∷ more) in
        let part : replaced_in (next ∷ more) ≡ next.replaced + replaced_in more = sum_by-cons (λ (line : PlanLine). line.replaced) next more in
        let fits : replaced_in lines < 2 ^ 128 = is.is_plan.fits in
        record { next = next; more = more; lines_are = lines_are; is = record { is_line = each.0; fits = omega arith; text_is = line_is } }

pub refused_line : (text : List ℕ) (done lines : List PlanLine) (rest line after : List ℕ) → IsReadTo text done rest → IsCut 10 rest line after → after ≢ []
    → ((next : PlanLine) → IsLineText line next → ⊥) → IsTextOf text lines → ⊥
refused_line text done lines rest line after read cut some none is =
    let has = next_of text done lines rest line after read cut some is in none has.next has.is

pub refused_sum : (text : List ℕ) (done lines : List PlanLine) (rest line after : List ℕ) (next : PlanLine) → IsReadTo text done rest → IsCut 10 rest line after → after ≢ []
    → IsLineText line next → 2 ^ 128 ≤ replaced_in done + next.replaced → IsTextOf text lines → ⊥
refused_sum text done lines rest line after next read cut some here great is =
    let has = next_of text done lines rest line after read cut some is in
    let same : next.replaced ≡ has.next.replaced = ap (λ (line : PlanLine). line.replaced) (line_tells line next has.next here has.is) in
    let whole : replaced_in lines ≡ replaced_in done + replaced_in (has.next ∷ has.more) = ap replaced_in has.lines_are ∙ sum_by-append (λ (line : PlanLine). line.replaced) done (has.next ∷ has.more) in
    let part : replaced_in (has.next ∷ has.more) ≡ has.next.replaced + replaced_in has.more = sum_by-cons (λ (line : PlanLine). line.replaced) has.next has.more in
    let fits : replaced_in lines < 2 ^ 128 = is.is_plan.fits in
    omega arith

-- the last line is the report
last_of : (text : List ℕ) (done lines : List PlanLine) (rest line : List ℕ) → IsReadTo text done rest → IsCut 10 rest line [] → IsTextOf text lines → (lines ≡ done) × (rest ≡ report_of done)
last_of text done lines rest line read cut is =
    let (more, lines_are, rest_is) = more_lines text done lines rest read is in by_more more lines_are rest_is
  where
    by_more : (more : List PlanLine) → lines ≡ done ++ more → rest ≡ lines_text more ++ report_of lines → (lines ≡ done) × (rest ≡ report_of done)
    by_more [] lines_are rest_is =
        let same : lines ≡ done = lines_are ∙ append-nil done in
        (same, rest_is ∙ ap (λ (l : List ℕ). l ++ report_of lines) lines_text-nil ∙ ap report_of same)
    by_more (next ∷ more) lines_are rest_is =
        let each : AllByRecursion IsPlanLine (next ∷ more) = each-append IsPlanLine done (next ∷ more) (subst (AllByRecursion IsPlanLine) lines_are is.is_plan.each) in
        let (_, back) = cut_same 10 line (line_text next) [] (lines_text more ++ report_of lines) cut.first (line_is_one_line next each.0)
        (sym cut.parts ∙ rest_is ∙ lines_text-cons next more (report_of lines)) in
        absurd (no_report lines (no_back (lines_text more) (report_of lines) (sym back)))

pub refused_report : (text : List ℕ) (done lines : List PlanLine) (rest line : List ℕ) → IsReadTo text done rest → IsCut 10 rest line [] → rest ≢ report_of done → IsTextOf text lines → ⊥
refused_report text done lines rest line read cut other is = other (last_of text done lines rest line read cut is).1

-- ---- a text is the text of at most one plan

pub text_tells : (text : List ℕ) (one other : List PlanLine) → IsTextOf text one → IsTextOf text other → one ≡ other
text_tells text one other is also =
    let front = report_front (length one) (changed_in one) (replaced_in one) in
    let read : IsReadTo text one (report_of one) = record {
      is_plan = is.is_plan;
      parts = is.text_is ∙ text_parts one;
      begun = λ e. absurd (no_report one e);
    } in
    let cut : IsCut 10 (report_of one) front [] = record {
      parts = report_parts (length one) (changed_in one) (replaced_in one);
      first = report_is_one_line (length one) (changed_in one) (replaced_in one);
    } in
    sym (last_of text one other (report_of one) front read cut also).0
