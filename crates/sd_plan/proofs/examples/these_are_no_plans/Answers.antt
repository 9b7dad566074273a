use Rattle.std.proofs.Common.{◌≡◌, ◌≢◌, ℕ, ◌*◌, List, [], ◌∷◌, ◌++◌, length, refl, ap, ◌∙◌, arith}
use Rattle.std.specs.Prelude.{codes}
use Rattle.std.specs.Fmt.{digits}
use Rattle.hex.specs.Hex.{lower_digits}
use Rattle.hex.proofs.HexLemmas.{length-encode_with}
use Rattle.sd_plan.specs.Report.{report_text}
use Rattle.sd_plan.specs.Plan.{IsTextOf}
use Rattle.sd_plan.specs.Reading.{HasFields, IsLineText}
use Rattle.sd_plan.specs.declared.line.PlanLine.{PlanLine}
use Rattle.sd_plan.proofs.reading.LineLemmas.{fields_of_line}
use Rattle.sd_plan.proofs.reading.ReadLemmas.{read_first, refused_first, refused_uncut, refused_line, refused_report}
use Rattle.sd_plan.proofs.examples.these_are_no_plans.Goals as goal

none : (x : ℕ) (xs : List ℕ) → [] ≡ x ∷ xs → ⊥
none x xs e = cc

some : (x : ℕ) (xs : List ℕ) → x ∷ xs ≡ [] → ⊥
some x xs e = cc

empty : (lines : List PlanLine) → IsTextOf [] lines → ⊥
empty lines is = let (rest, e) = refused_first [] lines is in none 115 _ e

version : (a b : ℕ) (x y : List ℕ) → a ≢ b → codes "sd-plan " ++ a ∷ x ≡ codes "sd-plan " ++ b ∷ y → ⊥
version a b x y apart e = let same : a ≡ b = cc in apart same

other_version : (lines : List PlanLine) → IsTextOf (codes "sd-plan 2\nchosen 0, changed 0, replaced 0\n") lines → ⊥
other_version lines is = let (rest, e) = refused_first _ lines is in version 50 49 _ (10 ∷ rest) (omega arith) e

no_report : (lines : List PlanLine) → IsTextOf (codes "sd-plan 1\n") lines → ⊥
no_report lines is = refused_uncut _ [] lines [] (read_first _ [] refl) tt is

other : (a b : ℕ) (x y : List ℕ) → a ≢ b → codes "chosen " ++ a ∷ x ≡ codes "chosen " ++ b ∷ y → ⊥
other a b x y apart e = let same : a ≡ b = cc in apart same

other_numbers : (lines : List PlanLine) → IsTextOf (codes "sd-plan 1\nchosen 1, changed 0, replaced 0\n") lines → ⊥
unfolding report_text digits
other_numbers lines is =
    refused_report _ [] lines (codes "chosen 1, changed 0, replaced 0\n") (codes "chosen 1, changed 0, replaced 0") (read_first _ _ refl)
    (record { parts = refl; first = search (arith) }) (λ e. other 49 48 _ _ (omega arith) e) is

no_newline : (lines : List PlanLine) → IsTextOf (codes "sd-plan 1\nchosen 0, changed 0, replaced 0") lines → ⊥
no_newline lines is = refused_uncut _ [] lines (codes "chosen 0, changed 0, replaced 0") (read_first _ _ refl) (search (arith)) is

-- the report has five fields, but the first is no digest
no_line : (line : PlanLine) → IsLineText (codes "chosen 0, changed 0, replaced 0") line → ⊥
no_line line is =
    let has : HasFields (codes "chosen 0, changed 0, replaced 0") (codes "chosen") (codes "0,") (codes "changed") (codes "0,") (codes "replaced 0") = record {
      rest = codes "0, changed 0, replaced 0";
      rest_2 = codes "changed 0, replaced 0";
      rest_3 = codes "0, replaced 0";
      cut = record { parts = refl; first = search (arith) };
      cut_2 = record { parts = refl; first = search (arith) };
      cut_3 = record { parts = refl; first = search (arith) };
      cut_4 = record { parts = refl; first = search (arith) };
    } in
    let fields = fields_of_line _ _ _ _ _ _ line has is in
    let long : 6 ≡ 2 * length line.before = ap length fields.before.1 ∙ length-encode_with lower_digits line.before in
    omega (arith, long, fields.before.0.length_is)

a_line_after : (lines : List PlanLine) → IsTextOf (codes "sd-plan 1\nchosen 0, changed 0, replaced 0\n\n") lines → ⊥
a_line_after lines is =
    refused_line _ [] lines (codes "chosen 0, changed 0, replaced 0\n\n") (codes "chosen 0, changed 0, replaced 0") (codes "\n") (read_first _ _ refl)
    (record { parts = refl; first = search (arith) }) (some 10 []) no_line is

pub returns : goal.returns
returns c = record {
  empty = empty;
  other_version = other_version;
  no_report = no_report;
  other_numbers = other_numbers;
  no_newline = no_newline;
  a_line_after = a_line_after;
}
