-- A source that is read piece by piece.
use Rattle.std.proofs.Common.{◌≡◌, ◌<◌, ◌≤◌, ℕ, ◌+◌, ◌^◌, Bool, List, [], ◌++◌, length, take, drop, sym, ◌∙◌, ap, subst, inl, inr, append_assoc, length-append, arith}
use Rattle.std.proofs.lemmas.List.{append-nil, take-append-le, take-append-drop, length-take-le, take_all}
use Rattle.std.proofs.lemmas.Bool.{cases_lt}
use Rattle.std.specs.Prelude.{IsTrue}
use Rattle.sd_io.specs.Count.{HasRisen}
use Rattle.sd_io.specs.Streams.{SourceState, GivesBytes, taken_after}
use Rattle.sd_course.specs.Course.{course}
use Rattle.stream_rewrite.specs.Reading.{Gives, HasTaken, ReadsAll, HasGivenOver}

-- the given part of a buffer
piece_is : (left buffer : List ℕ) (n : ℕ) → n ≤ length left → take n (take n left ++ drop n buffer) ≡ take n left
piece_is left buffer n within =
    let full : length (take n left) ≡ n = length-take-le n left within in
    take-append-le n (take n left) (drop n buffer) (omega arith) ∙ take_all n (take n left) (omega arith)

-- a piece more was given
gives_more : (old s t : SourceState) (content buffer filled : List ℕ) (n : ℕ) → Gives old content s → GivesBytes s buffer n t filled → Gives old (content ++ take n filled) t
gives_more old s t content buffer filled n given b =
    let piece : take n filled ≡ take n s.left = ap (take n) b.filled_is ∙ piece_is s.left buffer n b.within in
    given
    ∙ ap (λ (l : List ℕ). content ++ l) (sym (take-append-drop n s.left))
    ∙ sym (append_assoc content (take n s.left) (drop n s.left))
    ∙ ap (λ (l : List ℕ). (content ++ l) ++ drop n s.left) (sym piece)
    ∙ ap (λ (l : List ℕ). (content ++ take n filled) ++ l) (sym b.left_is)

-- and counted
taken_more : (old s t : SourceState) (k n : ℕ) → HasTaken old k s → t.taken ≡ taken_after s.taken n → HasTaken old (k + n) t
taken_more old s t k n (inl exact) e = elim (cases_lt (old.taken + k + n) (2 ^ 64)) [ inl small ↦ inl (omega arith) | inr large ↦ inr (omega arith) ]
taken_more old s t k n (inr last) e = inr (omega arith)

-- so many are more than the cap
pub over_cap : (tells : Bool) (old s : SourceState) (cap n : ℕ) → HasTaken old n s → cap < n → HasGivenOver cap (course tells old s)
over_cap tells old s cap n (inl exact) more = inl (omega arith)
over_cap tells old s cap n (inr last) more = inr last

pub longer : (old s : SourceState) (content : List ℕ) (cap : ℕ) → Gives old content s → cap < length content → cap < length old.left
longer old s content cap given more = let all = ap (λ (l : List ℕ). length l) given in omega (arith, all, length-append content s.left)

-- all was given
pub all_read : (old s t : SourceState) (content buffer filled : List ℕ) (n : ℕ) → Gives old content s → GivesBytes s buffer n t filled → n ≡ 0 → s.left ≡ [] → ReadsAll old content t
all_read old s t content buffer filled n given b none empty = record {
  all = given ∙ ap (λ (l : List ℕ). content ++ l) empty ∙ append-nil content;
  ended = b.left_is ∙ ap (λ (k : ℕ). drop k s.left) none ∙ empty;
}

-- ---- the content with a piece more

grown : (content piece new : List ℕ) (n : ℕ) → n ≤ length piece → new ≡ content ++ take n piece → length new ≡ length content + n
grown content piece new n within e = ap (λ (l : List ℕ). length l) e ∙ length-append content (take n piece) ∙ ap (λ (k : ℕ). length content + k) (length-take-le n piece within)

pub taken_new : (old s t : SourceState) (content piece new : List ℕ) (n : ℕ) → n ≤ length piece → new ≡ content ++ take n piece → HasTaken old (length content) s → t.taken ≡ taken_after s.taken n
    → HasTaken old (length new) t
taken_new old s t content piece new n within e taken rose = subst (λ (k : ℕ). HasTaken old k t) (sym (grown content piece new n within e)) (taken_more old s t (length content) n taken rose)

pub gives_new : (old s t : SourceState) (content buffer filled new : List ℕ) (n : ℕ) → new ≡ content ++ take n filled → Gives old content s → GivesBytes s buffer n t filled → Gives old new t
gives_new old s t content buffer filled new n e given b = subst (λ (l : List ℕ). Gives old l t) (sym e) (gives_more old s t content buffer filled n given b)

-- a fault more
pub risen_since : (before middle now : ℕ) → before ≤ middle → HasRisen middle now → HasRisen before now
risen_since before middle now low (inl rose) = inl (omega arith)
risen_since before middle now low (inr last) = inr last
