-- Taking a byte out of the classes of a pattern filters its runs.
use Rattle.std.proofs.Common.{◌≡◌, ℕ, zero, suc, ◌+◌, ◌-◌, ◌<◌, ◌≤◌, nat_le, Bool, true, false, List, [], ◌∷◌, ◌++◌, length, take, drop, get_or, Option, Some, None, if◌then◌else◌, refl, sym, ap, ap₂, ◌∙◌, arith, drop-drop, append-nil}
use Rattle.std.specs.Prelude.{◌&&◌, ◌||◌, ◌==◌, not, filter, encode_utf8, slice_get}
use Rattle.std.specs.List.{list_any, slice_range}
use Rattle.std.proofs.Math.Seq.{take-add, take-append_seam}
use Rattle.std.proofs.lemmas.Bool.{ne_eqb}
use Rattle.std.proofs.lemmas.Bool.Decides.{nat_tests}
use Rattle.std.proofs.lemmas.List.Folds.{list_any-append}
use Rattle.std.proofs.lemmas.Option.{none-some, same_Some}
use Rattle.std.proofs.lemmas.Str.{inside_one, encode_ascii}
use Rattle.bstr.specs.Utf8.{decoded}
use Rattle.bstr.proofs.lemmas.SoundLemmas.{SpellsChar-decoded}
use Rattle.hir_tree.specs.Core.{Core}
use Rattle.hir_tree.specs.Runs.{Run, in_set, size_in, byte_size, char_size, runs}
use Rattle.hir_tree.specs.Sides.{byte_after, char_after}
use Rattle.grep_regex.specs.Stripping.{beside, without, is_one_of, is_clear}
use Rattle.grep_regex.proofs.laws.FilterLemmas.{cut_core, SetsAre, clear_size, runs-filtered}

-- a test of sets, at one range
in_range : ℕ × ℕ → ℕ → Bool
in_range r c = nat_le r.0 c && nat_le c r.1

-- what is left of a range holds all of it but the number
in_beside : (b c : ℕ) (r : ℕ × ℕ) → in_set (beside b r) c ≡ ((nat_le r.0 c && nat_le c r.1) && not (c == b))
in_beside b c r = grind (arith, nat_tests)

or-and : (x y n : Bool) → ((x && n) || (y && n)) ≡ ((x || y) && n)
or-and true y true = refl
or-and true true false = refl
or-and true false false = refl
or-and false y n = refl

-- so is it of a set
pub in_without : (b c : ℕ) (set : List (ℕ × ℕ)) → in_set (without b set) c ≡ (in_set set c && not (c == b))
in_without b c [] = refl
in_without b c (r ∷ set) =
    list_any-append (λ r. nat_le r.0 c && nat_le c r.1) (beside b r) (without b set)
    ∙ ap₂ (λ x y. x || y) (in_beside b c r) (in_without b c set)
    ∙ or-and (nat_le r.0 c && nat_le c r.1) (in_set set c) (not (c == b))

slice_range-here : (text : List ℕ) (at : ℕ) → slice_range text at at ≡ []
slice_range-here text at = let e : at - at ≡ 0 = omega arith in ap (λ (k : ℕ). take k (drop at text)) e

-- a text's part in two
slice_range-joined : (text : List ℕ) (a m e : ℕ) → a ≤ m → m ≤ e → slice_range text a e ≡ slice_range text a m ++ slice_range text m e
slice_range-joined text a m e low high =
    let whole : e - a ≡ (m - a) + (e - m) = omega arith in
    let middle : a + (m - a) ≡ m = omega arith in
    ap (λ (k : ℕ). take k (drop a text)) whole ∙ take-add (m - a) (e - m) (drop a text)
    ∙ ap (λ ys. take (m - a) (drop a text) ++ take (e - m) ys) (drop-drop (m - a) a text ∙ ap (λ (k : ℕ). drop k text) middle)

pub not-or : (x y : Bool) → not (x || y) ≡ (not x && not y)
not-or true y = refl
not-or false y = refl

module _ (bytes text : List ℕ) where
  pub clear-here : (at : ℕ) → is_clear bytes text at at ≡ true
  clear-here at = ap (λ xs. not (list_any (is_one_of bytes) xs)) (slice_range-here text at)

  pub clear-joined : (a m e : ℕ) → a ≤ m → m ≤ e → is_clear bytes text a e ≡ (is_clear bytes text a m && is_clear bytes text m e)
  clear-joined a m e low high =
      ap (λ xs. not (list_any (is_one_of bytes) xs)) (slice_range-joined text a m e low high)
      ∙ ap not (list_any-append (is_one_of bytes) (slice_range text a m) (slice_range text m e))
      ∙ not-or (list_any (is_one_of bytes) (slice_range text a m)) (list_any (is_one_of bytes) (slice_range text m e))

-- one byte of a text
pub slice_range-one : (text : List ℕ) (at c : ℕ) → slice_get text at ≡ Some c → slice_range text at (at + 1) ≡ c ∷ []
slice_range-one [] at c e = absurd (none-some c e)
slice_range-one (x ∷ text) zero c e = ap (λ y. y ∷ []) (same_Some x c e)
slice_range-one (x ∷ text) (suc at) c e =
    let n : suc at + 1 - suc at ≡ at + 1 - at = omega arith in
    ap (λ (k : ℕ). take k (drop at text)) n ∙ slice_range-one text at c e

-- of the bytes of a character an ASCII byte is the character itself
none_below : (c b : ℕ) → b < 128 → (c == b) ≡ false → (k : ℕ) → k < length (encode_utf8 c) → get_or (encode_utf8 c) k 0 ≡ b → ⊥
none_below c b small ne k lt e =
    let same : c ≡ get_or (encode_utf8 c) k 0 = inside_one c [] (encode_utf8 c) k (sym (append-nil (encode_utf8 c))) lt (omega arith) in
    grind (arith, nat_tests)

none_holds : (b : ℕ) (xs : List ℕ) → ((k : ℕ) → k < length xs → get_or xs k 0 ≡ b → ⊥) → list_any (is_one_of (b ∷ [])) xs ≡ false
none_holds b [] h = refl
none_holds b (x ∷ xs) h =
    ap₂ (λ s t. (s || false) || t) (ne_eqb x b (λ e. h 0 (omega arith) e)) (none_holds b xs (λ k lt e. h (suc k) (omega arith) e))

holds_ascii : (b c : ℕ) → b < 128 → list_any (is_one_of (b ∷ [])) (encode_utf8 c) ≡ (c == b)
holds_ascii b c small = cases (c == b) refl
  where
    one : c ≡ b → list_any (is_one_of (b ∷ [])) (encode_utf8 c) ≡ true
    one e =
        let low : c < 128 = omega arith in
        ap (list_any (is_one_of (b ∷ []))) (encode_ascii c low) ∙ grind (arith, nat_tests)

    cases : (t : Bool) → (c == b) ≡ t → list_any (is_one_of (b ∷ [])) (encode_utf8 c) ≡ t
    cases true e = one (grind (arith, nat_tests))
    cases false e = none_holds b (encode_utf8 c) (none_below c b small e)

-- nothing is asked of the sets
any_sets : (core : Core) → SetsAre (λ set. Unit {0}) (λ set. Unit {0}) core
any_sets Core.empty = tt
any_sets (Core.byte_in set) = tt
any_sets (Core.char_in set) = tt
any_sets (Core.look l) = tt
any_sets (Core.group i a) = any_sets a
any_sets (Core.pair a b) = (any_sets a, any_sets b)
any_sets (Core.choice a b) = (any_sets a, any_sets b)
any_sets Core.none = tt
any_sets (Core.plus greedy a) = any_sets a

module _ (b : ℕ) (small : b < 128) (text : List ℕ) where
  -- what keeps clear of the byte
  abbrev clear : ℕ → ℕ → Bool
  clear = is_clear (b ∷ []) text

  either : (x n : Bool) (k at : ℕ) → clear at (at + k) ≡ n
      → (if x && n then Some k else None) ≡ clear_size text clear (clear-here (b ∷ []) text) (clear-joined (b ∷ []) text) at (if x then Some k else None)
  either true n k at e = ap (λ t. if t then Some k else None) (sym e)
  either false n k at e = refl

  byte_clear : (at c : ℕ) → slice_get text at ≡ Some c → clear at (at + 1) ≡ not (c == b)
  byte_clear at c e = ap (λ xs. not (list_any (is_one_of (b ∷ [])) xs)) (slice_range-one text at c e) ∙ flat (c == b)
    where
      flat : (t : Bool) → not ((t || false) || false) ≡ not t
      flat true = refl
      flat false = refl

  bytes_cut : (set : List (ℕ × ℕ)) (at : ℕ)
      → byte_size (without b set) text at ≡ clear_size text clear (clear-here (b ∷ []) text) (clear-joined (b ∷ []) text) at (byte_size set text at)
  unfolding byte_size
  bytes_cut set at = cases (byte_after text at) refl
    where
      cases : (o : Option ℕ) → byte_after text at ≡ o
          → size_in (without b set) 1 o ≡ clear_size text clear (clear-here (b ∷ []) text) (clear-joined (b ∷ []) text) at (size_in set 1 o)
      cases None e = refl
      cases (Some c) e =
          ap (λ t. if t then Some 1 else None) (in_without b c set)
          ∙ either (in_set set c) (not (c == b)) 1 at (byte_clear at c e)

  char_clear : (at c : ℕ) → char_after text at ≡ Some c → clear at (at + (decoded (drop at text)).size) ≡ not (c == b)
  char_clear at c e =
      let spelt = SpellsChar-decoded (drop at text) c e in
      let size = (decoded (drop at text)).size in
      let width : at + size - at ≡ length (encode_utf8 c) = omega (arith, spelt.width) in
      let own : slice_range text at (at + size) ≡ encode_utf8 c =
      ap (λ (k : ℕ). take k (drop at text)) width ∙ ap (take (length (encode_utf8 c))) spelt.bytes ∙ take-append_seam (encode_utf8 c) (drop size (drop at text)) in
      ap (λ xs. not (list_any (is_one_of (b ∷ [])) xs)) own ∙ ap not (holds_ascii b c small)

  chars_cut : (set : List (ℕ × ℕ)) (at : ℕ)
      → char_size (without b set) text at ≡ clear_size text clear (clear-here (b ∷ []) text) (clear-joined (b ∷ []) text) at (char_size set text at)
  unfolding char_size
  chars_cut set at = cases (char_after text at) refl
    where
      cases : (o : Option ℕ) → char_after text at ≡ o
          → size_in (without b set) (decoded (drop at text)).size o
          ≡ clear_size text clear (clear-here (b ∷ []) text) (clear-joined (b ∷ []) text) at (size_in set (decoded (drop at text)).size o)
      cases None e = refl
      cases (Some c) e =
          ap (λ t. if t then Some (decoded (drop at text)).size else None) (in_without b c set)
          ∙ either (in_set set c) (not (c == b)) (decoded (drop at text)).size at (char_clear at c e)

  -- without an ASCII byte in its sets, a core has the runs that keep clear of the byte
  pub without-filters : (core : Core) (n : ℕ) (r : Run) → r.at ≤ length text
      → runs text (cut_core (without b) core) n r ≡ filter (λ s. is_clear (b ∷ []) text r.at s.at) (runs text core n r)
  without-filters core =
      runs-filtered text clear (clear-here (b ∷ []) text) (clear-joined (b ∷ []) text) (without b) (λ set. Unit {0}) (λ set. Unit {0})
      (λ set h. bytes_cut set) (λ set h. chars_cut set) core (any_sets core)
