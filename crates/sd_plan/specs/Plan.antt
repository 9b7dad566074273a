-- Plans, and their texts.
use Rattle.std.specs.Prelude.{◌≡◌, ◌≢◌, ◌<◌, ◌^◌, ℕ, Bool, true, false, List, [], ◌∷◌, ◌++◌, length, codes, decimal, sum_by, count_by}
use Rattle.std.specs.List.{AllByRecursion, flat_map, join_with_byte}
use Rattle.std.specs.Str.{IsUtf8}
use Rattle.sd_plan.specs.Digest.{IsDigest, digits_of}
use Rattle.sd_plan.specs.Escaped.{escaped}
use Rattle.sd_plan.specs.Report.{report_text}
use Rattle.sd_plan.specs.declared.line.PlanLine.{PlanLine}

-- ---- what a plan is

-- A line of a plan: its digests are digests, and the same where nothing changes; its path is a text, and not empty.
pub record IsPlanLine (line : PlanLine) : Type 0 where
  pub before : IsDigest line.before
  pub after : IsDigest line.after
  pub unchanged : line.changed ≡ false → line.before ≡ line.after
  pub path_text : IsUtf8 line.path
  pub path_some : line.path ≢ []

-- how many of the lines' files change
abbrev pub changed_in : List PlanLine → ℕ
changed_in lines = count_by (λ (line : PlanLine). line.changed) lines

-- how many spans are replaced in all of them
abbrev pub replaced_in : List PlanLine → ℕ
replaced_in lines = sum_by (λ (line : PlanLine). line.replaced) lines

-- each line is one of a plan, and what is replaced in all of them fits 128 bits
pub record IsPlan (lines : List PlanLine) : Type 0 where
  pub each : AllByRecursion IsPlanLine lines
  pub fits : replaced_in lines < 2 ^ 128

-- these lines are a plan, and these are its counts
pub record IsCounted (lines : List PlanLine) (changed replaced : ℕ) : Type 0 where
  pub is_plan : IsPlan lines
  pub changed_is : changed ≡ changed_in lines
  pub replaced_is : replaced ≡ replaced_in lines

-- ---- its text

-- `+` where the file changes, else `=`
abbrev pub mark_of : Bool → ℕ
mark_of true = 43
mark_of false = 61

-- the fields of a line: both digests in digits, the mark, the number of spans in decimal digits, the path escaped
abbrev pub fields_of : PlanLine → List (List ℕ)
fields_of line =
    digits_of line.before ∷ digits_of line.after ∷ (mark_of line.changed ∷ []) ∷ decimal line.replaced ∷ escaped line.path ∷ []

-- the fields, parted by one space each
unfoldable pub line_text : PlanLine → List ℕ
line_text line = join_with_byte 32 (fields_of line)

-- each line, with a newline
unfoldable pub lines_text : List PlanLine → List ℕ
lines_text lines = flat_map (λ line. line_text line ++ 10 ∷ []) lines

-- the report of all lines
abbrev pub report_of : List PlanLine → List ℕ
report_of lines = report_text (length lines) (changed_in lines) (replaced_in lines)

-- the line `sd-plan 1`, the lines in order, and their report
unfoldable pub text_of : List PlanLine → List ℕ
text_of lines = codes "sd-plan 1\n" ++ (lines_text lines ++ report_of lines)

-- the text is the text of this plan
pub record IsTextOf (text : List ℕ) (lines : List PlanLine) : Type 0 where
  pub is_plan : IsPlan lines
  pub text_is : text ≡ text_of lines

-- the text is the text of no plan
abbrev pub IsNoPlan : List ℕ → Type 0
IsNoPlan text = (lines : List PlanLine) → IsTextOf text lines → ⊥
