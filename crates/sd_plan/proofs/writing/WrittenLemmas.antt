-- Texts that are written piece by piece.
use Rattle.std.proofs.Common.{◌≡◌, ℕ, List, [], ◌∷◌, ◌++◌, sym, ap, ◌∙◌, append_assoc}
use Rattle.std.specs.Prelude.{codes, decimal}
use Rattle.sd_plan.specs.Report.{report_text}
use Rattle.sd_plan.specs.Digest.{digits_of}
use Rattle.sd_plan.specs.Escaped.{escaped}
use Rattle.sd_plan.specs.Plan.{mark_of, line_text, lines_text, report_of, text_of}
use Rattle.sd_plan.specs.declared.line.PlanLine.{PlanLine}
use Rattle.sd_plan.proofs.reading.LineLemmas.{parted, line_parted}
use Rattle.sd_plan.proofs.reading.TextLemmas.{text_parts}

-- four fields, each with a space, the last field, and a newline
pub written_fields : (a b c d e o0 o1 o2 o3 o4 o5 o6 : List ℕ) → o1 ≡ o0 ++ (a ++ 32 ∷ []) → o2 ≡ o1 ++ (b ++ 32 ∷ []) → o3 ≡ o2 ++ (c ++ 32 ∷ []) → o4 ≡ o3 ++ (d ++ 32 ∷ [])
    → o5 ≡ o4 ++ e → o6 ≡ o5 ++ 10 ∷ [] → o6 ≡ o0 ++ (parted a b c d e ++ 10 ∷ [])
written_fields a b c d e o0 o1 o2 o3 o4 o5 o6 e1 e2 e3 e4 e5 e6 = rw (e6, e5, e4, e3, e2, e1) (simp append_assoc)

pub written_line : (line : PlanLine) (o0 o1 o2 o3 o4 o5 o6 : List ℕ) → o1 ≡ o0 ++ (digits_of line.before ++ 32 ∷ []) → o2 ≡ o1 ++ (digits_of line.after ++ 32 ∷ [])
    → o3 ≡ o2 ++ ((mark_of line.changed ∷ []) ++ 32 ∷ []) → o4 ≡ o3 ++ (decimal line.replaced ++ 32 ∷ [])
    → o5 ≡ o4 ++ escaped line.path → o6 ≡ o5 ++ 10 ∷ [] → o6 ≡ o0 ++ (line_text line ++ 10 ∷ [])
written_line line o0 o1 o2 o3 o4 o5 o6 e1 e2 e3 e4 e5 e6 =
    written_fields (digits_of line.before) (digits_of line.after) (mark_of line.changed ∷ []) (decimal line.replaced) (escaped line.path) o0 o1 o2 o3 o4 o5 o6 e1 e2 e3 e4 e5 e6
    ∙ ap (λ (l : List ℕ). o0 ++ (l ++ 10 ∷ [])) (sym (line_parted line))

-- seven pieces
pub written_report : (x y z : ℕ) (o0 o1 o2 o3 o4 o5 o6 : List ℕ) → o0 ≡ codes "chosen " → o1 ≡ o0 ++ decimal x → o2 ≡ o1 ++ codes ", changed " → o3 ≡ o2 ++ decimal y
    → o4 ≡ o3 ++ codes ", replaced " → o5 ≡ o4 ++ decimal z → o6 ≡ o5 ++ codes "\n" → o6 ≡ report_text x y z
unfolding report_text
written_report x y z o0 o1 o2 o3 o4 o5 o6 e0 e1 e2 e3 e4 e5 e6 = rw (e6, e5, e4, e3, e2, e1, e0)

-- the first line, the lines, and the report
pub written_plan : (lines : List PlanLine) (o0 o1 o2 : List ℕ) → o0 ≡ codes "sd-plan 1\n" → o1 ≡ o0 ++ lines_text lines → o2 ≡ o1 ++ report_of lines → o2 ≡ text_of lines
written_plan lines o0 o1 o2 e0 e1 e2 = rw (e2, e1, e0) (append_assoc (codes "sd-plan 1\n") (lines_text lines) (report_of lines) ∙ sym (text_parts lines))
