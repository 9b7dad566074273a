-- A haystack with another text in the place of each span.
use Rattle.std.specs.Prelude.{◌≡◌, ℕ, ◌≤◌, List, [], ◌∷◌, ◌++◌, drop, slice_range}
use Rattle.grep_matcher.specs.Span.{Span}

-- From the place `at` on: the bytes up to the next span, that span's new text, and so on from its end.
abbrev pub replaced_from : (Span → List ℕ) → List ℕ → ℕ → List Span → List ℕ
replaced_from text_of haystack at [] = drop at haystack
replaced_from text_of haystack at (span ∷ spans) = slice_range haystack at span.start ++ (text_of span ++ replaced_from text_of haystack span.end spans)

-- the span's end isn't before its start, and not past n
abbrev pub LiesWithin : ℕ → Span → Type 0
LiesWithin n span = (span.start ≤ span.end) × (span.end ≤ n)

-- the new bytes are the old ones and more
abbrev pub Extends : List ℕ → List ℕ → Type 0
Extends old new = (more : List ℕ) × (new ≡ old ++ more)

-- how far a replacing call has come: the closure, the place up to which the haystack is copied, and the bytes written
pub record Written (F : Type 0) : Type 0 where
  pub closure : F
  pub at : ℕ
  pub bytes : List ℕ

-- The haystack is copied up to the span. Then the closure is called, with what is written so far, and the span is left out.
abbrev pub Replaces : {F D R : Type 0} → (F → Span → D → R → D → F → Type 0) → (D → List ℕ) → List ℕ → Written F → Span → R → Written F → Type 0
Replaces {F} {D} {R} call bytes_of haystack p span r q =
    (before after : D) × (bytes_of before ≡ p.bytes ++ slice_range haystack p.at span.start) × call p.closure span before r after q.closure × (q.bytes ≡ bytes_of after) × (q.at ≡ span.end)
