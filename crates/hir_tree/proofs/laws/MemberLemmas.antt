-- The members of a set of ranges, and the bytes that they take.
use Rattle.std.proofs.Common.{◌≡◌, ◌↔◌, ℕ, nat_le, Bool, true, false, List, [], ◌∷◌, length, drop, Option, Some, None, encode_utf8, refl, sym, ap, ◌∙◌, inl, inr, true≢false, arith}
use Rattle.std.specs.Prelude.{◌&&◌, ◌||◌}
use Rattle.std.proofs.lemmas.Bool.{or_left, or_right}
use Rattle.std.proofs.lemmas.Bool.Decides.{nat_tests}
use Rattle.std.proofs.lemmas.Option.{none-some}
use Rattle.bstr.specs.Utf8.{Decoded, decoded, good}
use Rattle.bstr.proofs.lemmas.SoundLemmas.{SpellsChar-decoded}
use Rattle.bstr.proofs.lemmas.EncodeLemmas.{decoded-encode}
use Rattle.hir_tree.specs.Laws.{MemberBeginsAt}
use Rattle.hir_tree.specs.Ranges.{IsWithin, Holds}
use Rattle.hir_tree.specs.Runs.{in_set, size_in, char_size}
use Rattle.hir_tree.specs.Sides.{char_after}
use Rattle.hir_tree.proofs.runs_laws.RunsLemmas.{size_in-parts}

-- the test of one range
within-tested : (range : ℕ × ℕ) (n : ℕ) → IsWithin range n → (nat_le range.0 n && nat_le n range.1) ≡ true
within-tested range n within = grind (arith, nat_tests)

tested-within : (range : ℕ × ℕ) (n : ℕ) → (nat_le range.0 n && nat_le n range.1) ≡ true → IsWithin range n
tested-within range n tested = (grind (arith, nat_tests), grind (arith, nat_tests))

-- what the test finds the ranges hold
held-found : (set : List (ℕ × ℕ)) (n : ℕ) → Holds set n → in_set set n ≡ true
held-found [] n held = absurd held
held-found (range ∷ rest) n (inl within) = or_left _ _ (within-tested range n within)
held-found (range ∷ rest) n (inr more) = or_right _ _ (held-found rest n more)

found-held : (set : List (ℕ × ℕ)) (n : ℕ) → in_set set n ≡ true → Holds set n
found-held [] n found = absurd (true≢false (sym found))
found-held (range ∷ rest) n found = cases (found-held rest n) (nat_le range.0 n && nat_le n range.1) refl found
  where
    cases : (in_set rest n ≡ true → Holds rest n) → (b : Bool) → (nat_le range.0 n && nat_le n range.1) ≡ b → (b || in_set rest n) ≡ true
        → Holds (range ∷ rest) n
    cases later true here found = inl (tested-within range n here)
    cases later false here found = inr (later found)

pub member-held : (set : List (ℕ × ℕ)) (n : ℕ) → (in_set set n ≡ true) ↔ Holds set n
member-held set n = (found-held set n, held-found set n)

module _ (set : List (ℕ × ℕ)) (text : List ℕ) (at : ℕ) where
  -- a member that begins at the place takes its bytes
  member-taken : (k : ℕ) → MemberBeginsAt set text at k → char_size set text at ≡ Some k
  unfolding char_size
  member-taken k (c, held, (scalar, (rest, begins)), same) =
      let here : decoded (drop at text) ≡ good c (length (encode_utf8 c)) = ap decoded begins ∙ decoded-encode c rest scalar in
      ap (λ (front : Decoded). size_in set front.size front.char) here ∙ rw (held-found set c held, same) refl

  -- what takes bytes at the place is a member that begins there
  taken-member : (k : ℕ) → char_size set text at ≡ Some k → MemberBeginsAt set text at k
  unfolding char_size
  taken-member k taken =
      let parts = size_in-parts set (decoded (drop at text)).size (char_after text at) k taken in
      let spelt = SpellsChar-decoded (drop at text) parts.0 parts.1 in
      (parts.0, found-held set parts.0 parts.2, (spelt.scalar, (drop (decoded (drop at text)).size (drop at text), spelt.bytes)), spelt.width ∙ parts.3)

  pub char_size-some : (k : ℕ) → (char_size set text at ≡ Some k) ↔ MemberBeginsAt set text at k
  char_size-some k = (taken-member k, member-taken k)

  pub char_size-none : (char_size set text at ≡ None) ↔ ((k : ℕ) → MemberBeginsAt set text at k → ⊥)
  char_size-none = (
    (λ none k member. none-some k (sym none ∙ member-taken k member)),
    (λ never. cases (char_size set text at) refl never),
  )
    where
      cases : (o : Option ℕ) → char_size set text at ≡ o → ((k : ℕ) → MemberBeginsAt set text at k → ⊥) → o ≡ None
      cases None is never = refl
      cases (Some k) is never = absurd (never k (taken-member k is))
