-- How a plan's text is read.
use Rattle.std.specs.Prelude.{◌≡◌, ◌≢◌, ◌<◌, ◌^◌, ℕ, Bool, List, [], ◌∷◌, ◌++◌, decimal, Option, Some, None}
use Rattle.std.specs.Str.{IsUtf8}
use Rattle.sd_plan.specs.Digest.{IsDigest, digits_of}
use Rattle.sd_plan.specs.Escaped.{escaped}
use Rattle.sd_plan.specs.Plan.{IsPlanLine, mark_of, line_text}
use Rattle.sd_plan.specs.declared.line.PlanLine.{PlanLine}

-- What is found is such; where nothing is found, nothing is such.
abbrev pub Finds : {X : Type 0} → (X → Type 0) → Option X → Type 0
Finds {X} P None = (x : X) → P x → ⊥
Finds P (Some x) = P x

-- the byte stands nowhere in the text
abbrev pub Lacks : ℕ → List ℕ → Type 0
Lacks byte [] = Unit {0}
Lacks byte (c ∷ text) = (c ≢ byte) × Lacks byte text

-- the text is cut at the first such byte
pub record IsCut (byte : ℕ) (text front back : List ℕ) : Type 0 where
  pub parts : text ≡ front ++ byte ∷ back
  pub first : Lacks byte front

-- the text has five fields, parted by one space each, of which the last may hold spaces
pub record HasFields (text before after mark count path : List ℕ) : Type 0 where
  pub rest : List ℕ
  pub rest_2 : List ℕ
  pub rest_3 : List ℕ
  pub cut : IsCut 32 text before rest
  pub cut_2 : IsCut 32 rest after rest_2
  pub cut_3 : IsCut 32 rest_2 mark rest_3
  pub cut_4 : IsCut 32 rest_3 count path

-- digits of a digest, in lower case
abbrev pub IsDigestField : List ℕ → List ℕ → Type 0
IsDigestField field digest = IsDigest digest × (field ≡ digits_of digest)

abbrev pub IsMarkField : List ℕ → Bool → Type 0
IsMarkField field changed = field ≡ mark_of changed ∷ []

-- a number of 128 bits, without leading zeros
abbrev pub IsCountField : List ℕ → ℕ → Type 0
IsCountField field count = (count < 2 ^ 128) × (field ≡ decimal count)

abbrev pub IsPathField : List ℕ → List ℕ → Type 0
IsPathField field path = IsUtf8 path × (field ≡ escaped path)

-- the text of a line, without its newline
pub record IsLineText (text : List ℕ) (line : PlanLine) : Type 0 where
  pub is_line : IsPlanLine line
  pub fits : line.replaced < 2 ^ 128
  pub text_is : text ≡ line_text line
