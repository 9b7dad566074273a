-- What a replacer does to bytes.
use Rattle.std.specs.Prelude.{◌≡◌, ◌≢◌, ℕ, ◌<◌, ◌≤◌, ◌==◌, ◌||◌, nat_lt, Bool, true, if◌then◌else◌}
use Rattle.std.specs.Prelude.{List, [], ◌∷◌, ◌++◌, length, take, slice_index}
use Rattle.std.specs.List.{count_by}
use Rattle.grep_matcher.specs.Span.{Span}
use Rattle.grep_matcher.specs.Cover.{IsFairCover}
use Rattle.grep_matcher.specs.Replaced.{replaced_from}
use Rattle.grep_matcher.specs.References.{expand, group_text}
use Rattle.hir_tree.specs.Tree.{Tree}
use Rattle.grep_regex.specs.Matching.{end_at, spans_at}
use Rattle.grep_regex.specs.Options.{names_in, number_of}
use Rattle.sd_replace.specs.declared.replacer.Counted.{Counted}
use Rattle.sd_replace.specs.declared.replacer.Counted.TheVariants.{OverAll, InEachLine}
use Rattle.sd_replace.specs.declared.replacer.Substitute.{Substitute}
use Rattle.sd_replace.specs.declared.replacer.Substitute.TheVariants.{Literal, Expanded}

-- A REPLACER as data: the pattern that is searched for, what takes the place of a match, how many matches are replaced at most,
-- where 0 is no limit, and whether these are counted over the whole or in each line.
pub record Replacement : Type 0 where
  pub pattern : Tree
  pub substitute : Substitute
  pub limit : ℕ
  pub counted : Counted

-- ---- which spans are replaced

-- the line of a place: the number of line feeds before it
abbrev pub line_of : List ℕ → ℕ → ℕ
line_of bytes place = count_by (λ byte. byte == 10) (take place bytes)

-- two places are counted together: over the whole always, else where they lie in one line
abbrev pub are_together : Counted → List ℕ → ℕ → ℕ → Bool
are_together OverAll bytes one other = true
are_together InEachLine bytes one other = line_of bytes one == line_of bytes other

-- how many of the spans begin at a place that is counted together with this one
abbrev pub together_with : Counted → List ℕ → ℕ → List Span → ℕ
together_with counted bytes place spans = count_by (λ span. are_together counted bytes place span.start) spans

-- one more span is within the limit: there is none, or fewer than so many of the spans before are counted together with it
abbrev pub is_within : Counted → ℕ → List ℕ → List Span → Span → Bool
is_within counted limit bytes before span = limit == 0 || nat_lt (together_with counted bytes span.start before) limit

-- of the spans that stand after others, those within the limit
abbrev pub within_after : Counted → ℕ → List ℕ → List Span → List Span → List Span
within_after counted limit bytes before [] = []
within_after counted limit bytes before (span ∷ spans) =
    (if is_within counted limit bytes before span then span ∷ [] else []) ++ within_after counted limit bytes (before ++ span ∷ []) spans

-- of the spans of a cover, those that a replacer replaces
abbrev pub replaced_of : Replacement → List ℕ → List Span → List Span
replaced_of replacement bytes spans = within_after replacement.counted replacement.limit bytes [] spans

-- ---- what takes their place

-- What takes the place of a match whose groups have these texts: the text itself, or the text with those of the groups in the
-- place of its references. A name without a group becomes nothing.
abbrev pub substituted : Substitute → Tree → (ℕ → List ℕ) → List ℕ
substituted (Literal text) tree text_of = text
substituted (Expanded text) tree text_of = expand text_of (number_of (names_in tree)) text

-- the new text of a span, which is a match. A group that isn't set becomes nothing.
abbrev pub text_at : Replacement → List ℕ → Span → List ℕ
text_at replacement bytes span = substituted replacement.substitute replacement.pattern (group_text bytes (spans_at replacement.pattern bytes span.start))

-- THE CHANGE of a replacer: of the fair cover by the preferred matches of the pattern, the spans within the limit give way to
-- their texts, and are counted.
pub record Changes (replacement : Replacement) (bytes new_bytes : List ℕ) (count : ℕ) : Type 0 where
  pub spans : List Span
  pub cover : IsFairCover (end_at replacement.pattern bytes) 0 (length bytes) spans
  pub bytes_are : new_bytes ≡ replaced_from (text_at replacement bytes) bytes 0 (replaced_of replacement bytes spans)
  pub count_is : count ≡ length (replaced_of replacement bytes spans)

-- a span of the bytes without a line feed
abbrev pub HoldsNoLineFeed : List ℕ → Span → Type 0
HoldsNoLineFeed bytes span = (i : ℕ) → span.start ≤ i → i < span.end → slice_index bytes i ≢ 10
