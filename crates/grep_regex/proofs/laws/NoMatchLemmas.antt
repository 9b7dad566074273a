-- A byte that a pattern doesn't take is in no match.
use Rattle.std.proofs.Common.{◌≡◌, ◌≢◌, ℕ, zero, suc, ◌+◌, ◌-◌, ◌<◌, ◌≤◌, Bool, true, false, cond, inl, inr, List, [], ◌∷◌, length, map, take, drop, replicate, get_or, Option, Some, None, if◌then◌else◌, refl, sym, ap, ap₂, ◌∙◌, subst, true≢false, Contains, eq-eqb, get_or-drop, length-drop, length-take-le, arith}
use Rattle.std.specs.Prelude.{◌||◌, ◌==◌, not, filter, encode_utf8, slice_get, slice_set, slice_index, option_map, option_and_then}
use Rattle.std.specs.Char.{IsScalar}
use Rattle.std.specs.List.{list_any, slice_range, AllByRecursion}
use Rattle.std.proofs.Math.Seq.{take-append_seam}
use Rattle.std.proofs.lemmas.Bool.Decides.{nat_tests}
use Rattle.std.proofs.lemmas.Bool.{eqb-true}
use Rattle.std.proofs.lemmas.List.{get_or-take}
use Rattle.std.proofs.lemmas.List.Folds.{list_any_at}
use Rattle.std.proofs.lemmas.Option.{none-some, same_Some}
use Rattle.bstr.specs.Utf8.{decoded}
use Rattle.bstr.proofs.lemmas.SoundLemmas.{SpellsChar-decoded}
use Rattle.hir_tree.specs.Core.{Core, pair, choice, empty, plus, pair_all, choice_all, one_byte, optional, copies, up_to, with_more, repeat}
use Rattle.hir_tree.specs.Runs.{Run, in_set, size_in, byte_size, char_size, begin, mark, set_group, runs, first, preferred}
use Rattle.hir_tree.specs.Sides.{byte_after, char_after}
use Rattle.grep_regex.specs.Stripping.{is_one_of, is_clear}
use Rattle.grep_matcher.specs.NoMatch.{IsInNoMatch}
use Rattle.grep_regex.specs.NonMatching.{Takes, OneTakes, whole_end, preferred_end}
use Rattle.hir_tree.specs.Cores.{core_of_tree, cores_of_trees}
use Rattle.hir_tree.specs.Tree.{Tree, Trees, none, more}
use Rattle.hir_tree.specs.Tree as tree
use Rattle.hir_tree.proofs.ListLemmas.{All-weaker}
use Rattle.hir_tree.proofs.RunsLemmas.{GoesOn, runs-Forward}
use Rattle.grep_regex.proofs.laws.FilterLemmas.{cut_core, SetsAre, clear_size, runs-filtered}
use Rattle.grep_regex.proofs.laws.StrippingLemmas.{clear-here, clear-joined, slice_range-one}
use Rattle.pattern_syntax.proofs.RangesLemmas.{holds}

-- the set of which a byte is not in what a member takes
abbrev NoByte : ℕ → List (ℕ × ℕ) → Type 0
NoByte b set = in_set set b ≡ false

abbrev NoChar : ℕ → List (ℕ × ℕ) → Type 0
NoChar b set = (c : ℕ) → IsScalar c → in_set set c ≡ true → list_any (is_one_of (b ∷ [])) (encode_utf8 c) ≡ false

-- no set of the core takes the byte
abbrev Spares : ℕ → Core → Type 0
Spares b = SetsAre (NoByte b) (NoChar b)

module _ (b : ℕ) where
  spares-pairs : (cs : List Core) → AllByRecursion (Spares b) cs → Spares b (pair_all cs)
  spares-pairs [] h = tt
  spares-pairs (a ∷ []) h = h.0
  spares-pairs (a ∷ c ∷ rest) h = (h.0, spares-pairs (c ∷ rest) h.1)

  spares-choices : (cs : List Core) → AllByRecursion (Spares b) cs → Spares b (choice_all cs)
  spares-choices [] h = tt
  spares-choices (a ∷ rest) h = (h.0, spares-choices rest h.1)

  spares-copies : (n : ℕ) (a c : Core) → Spares b a → Spares b c → Spares b (copies n a c)
  spares-copies zero a c h k = k
  spares-copies (suc n) a c h k = (h, spares-copies n a c h k)

  spares-optional : (greedy : Bool) (a : Core) → Spares b a → Spares b (optional greedy a)
  spares-optional true a h = (h, tt)
  spares-optional false a h = (tt, h)

  spares-up_to : (greedy : Bool) (n : ℕ) (a : Core) → Spares b a → Spares b (up_to greedy n a)
  spares-up_to greedy zero a h = tt
  spares-up_to greedy (suc zero) a h = spares-optional greedy a h
  spares-up_to greedy (suc (suc n)) a h = spares-optional greedy (pair a (up_to greedy (suc n) a)) (h, spares-up_to greedy (suc n) a h)

  spares-same : (n : ℕ) (a : Core) → Spares b a → AllByRecursion (Spares b) (replicate n a)
  spares-same zero a h = tt
  spares-same (suc n) a h = (h, spares-same n a h)

  spares-repeat : (least : ℕ) (most : Option ℕ) (greedy : Bool) (a : Core) → Spares b a → Spares b (repeat least most greedy a)
  spares-repeat zero None greedy a h = spares-optional greedy (plus greedy a) h
  spares-repeat (suc n) None greedy a h = spares-copies n a (plus greedy a) h h
  spares-repeat least (Some most) greedy a h = more (most - least)
    where
      more : (k : ℕ) → Spares b (with_more greedy least k a)
      more zero = spares-pairs (replicate least a) (spares-same least a h)
      more (suc k) = spares-copies least a (up_to greedy (suc k) a) h (spares-up_to greedy (suc k) a h)

  -- one other byte
  other_byte : (c : ℕ) → (c ≡ b → ⊥) → in_set ((c, c) ∷ []) b ≡ false
  other_byte c ne = grind (arith, nat_tests)

  spares-bytes : (bytes : List ℕ) → (Contains bytes b → ⊥) → AllByRecursion (Spares b) (map one_byte bytes)
  spares-bytes [] h = tt
  spares-bytes (c ∷ bytes) h =
      (other_byte c (λ e. h (0, omega arith, e)), spares-bytes bytes (λ k. h (suc k.0, omega (arith, k.1), k.2)))

  not_true : (x : Bool) → (x ≡ true → ⊥) → x ≡ false
  not_true true h = absurd (h refl)
  not_true false h = refl

  any-contains : (xs : List ℕ) → list_any (is_one_of (b ∷ [])) xs ≡ true → Contains xs b
  any-contains [] e = absurd (true≢false (sym e))
  any-contains (c ∷ xs) e = cases (any-contains xs) (c == b) refl e
    where
      cases : (list_any (is_one_of (b ∷ [])) xs ≡ true → Contains xs b) → (t : Bool) → (c == b) ≡ t
          → ((t || false) || list_any (is_one_of (b ∷ [])) xs) ≡ true → Contains (c ∷ xs) b
      cases rest true k e = (0, omega arith, eqb-true c b k)
      cases rest false k e = let found = rest e in (suc found.0, omega (arith, found.1), found.2)

  mutual
    spares-tree : (t : Tree) → (Takes b t → ⊥) → Spares b (core_of_tree t)
    spares-tree tree.empty h = tt
    spares-tree (tree.literal bytes) h = spares-pairs (map one_byte bytes) (spares-bytes bytes h)
    spares-tree (tree.class_chars ranges) h =
        λ c scalar e. not_true _ (λ k. h (c, scalar, holds ranges c e, any-contains (encode_utf8 c) k))
    spares-tree (tree.class_bytes ranges) h = not_true _ (λ e. h (holds ranges b e))
    spares-tree (tree.look kind) h = tt
    spares-tree (tree.repetition least most greedy part) h = spares-repeat least most greedy (core_of_tree part) (spares-tree part h)
    spares-tree (tree.capture index name part) h = spares-tree part h
    spares-tree (tree.concat parts) h = spares-pairs (cores_of_trees parts) (spares-each parts h)
    spares-tree (tree.alternation parts) h = spares-choices (cores_of_trees parts) (spares-each parts h)

    spares-each : (ts : Trees) → (OneTakes b ts → ⊥) → AllByRecursion (Spares b) (cores_of_trees ts)
    spares-each none h = tt
    spares-each (more part rest) h = (spares-tree part (λ k. h (inl k)), spares-each rest (λ k. h (inr k)))

  module _ (text : List ℕ) where
    abbrev clear : ℕ → ℕ → Bool
    clear = is_clear (b ∷ []) text

    byte-spared : (set : List (ℕ × ℕ)) → NoByte b set → (at : ℕ)
        → byte_size set text at ≡ clear_size text clear (clear-here (b ∷ []) text) (clear-joined (b ∷ []) text) at (byte_size set text at)
    unfolding byte_size
    byte-spared set h at = cases (byte_after text at) refl
      where
        one : (c : ℕ) → slice_get text at ≡ Some c → (t : Bool) → in_set set c ≡ t
            → (if t then Some 1 else None) ≡ clear_size text clear (clear-here (b ∷ []) text) (clear-joined (b ∷ []) text) at (if t then Some 1 else None)
        one c e false k = refl
        one c e true k =
            let ne : (c == b) ≡ false = not_true (c == b) (λ same. true≢false (sym k ∙ ap (in_set set) (eqb-true c b same) ∙ h)) in
            let flat : clear at (at + 1) ≡ true = ap (λ xs. not (list_any (is_one_of (b ∷ [])) xs)) (slice_range-one text at c e) ∙ ap (λ t. not ((t || false) || false)) ne in
            ap (λ t. if t then Some 1 else None) (sym flat)

        cases : (o : Option ℕ) → byte_after text at ≡ o
            → size_in set 1 o ≡ clear_size text clear (clear-here (b ∷ []) text) (clear-joined (b ∷ []) text) at (size_in set 1 o)
        cases None e = refl
        cases (Some c) e = one c e (in_set set c) refl

    char-spared : (set : List (ℕ × ℕ)) → NoChar b set → (at : ℕ)
        → char_size set text at ≡ clear_size text clear (clear-here (b ∷ []) text) (clear-joined (b ∷ []) text) at (char_size set text at)
    unfolding char_size
    char-spared set h at = cases (char_after text at) refl
      where
        own : (c : ℕ) → char_after text at ≡ Some c → slice_range text at (at + (decoded (drop at text)).size) ≡ encode_utf8 c
        own c e =
            let spelt = SpellsChar-decoded (drop at text) c e in
            let size = (decoded (drop at text)).size in
            let width : at + size - at ≡ length (encode_utf8 c) = omega (arith, spelt.width) in
            ap (λ (k : ℕ). take k (drop at text)) width ∙ ap (take (length (encode_utf8 c))) spelt.bytes ∙ take-append_seam (encode_utf8 c) (drop size (drop at text))

        one : (c size : ℕ) → (in_set set c ≡ true → clear at (at + size) ≡ true) → (t : Bool) → in_set set c ≡ t
            → (if t then Some size else None) ≡ clear_size text clear (clear-here (b ∷ []) text) (clear-joined (b ∷ []) text) at (if t then Some size else None)
        one c size k false e = refl
        one c size k true e = ap (λ t. if t then Some size else None) (sym (k e))

        cases : (o : Option ℕ) → char_after text at ≡ o
            → size_in set (decoded (drop at text)).size o ≡ clear_size text clear (clear-here (b ∷ []) text) (clear-joined (b ∷ []) text) at (size_in set (decoded (drop at text)).size o)
        cases None e = refl
        cases (Some c) e =
            one c (decoded (drop at text)).size
            (λ k. ap (λ xs. not (list_any (is_one_of (b ∷ [])) xs)) (own c e) ∙ ap not (h c (SpellsChar-decoded (drop at text) c e).scalar k))
            (in_set set c) refl

    kept-pass : (p : Run → Bool) (rs : List Run) → AllByRecursion (λ r. p r ≡ true) (filter p rs)
    kept-pass p [] = tt
    kept-pass p (r ∷ rs) = cases (kept-pass p rs) (p r) refl
      where
        cases : AllByRecursion (λ s. p s ≡ true) (filter p rs) → (b : Bool) → p r ≡ b
            → AllByRecursion (λ s. p s ≡ true) (cond b (r ∷ filter p rs) (filter p rs))
        cases rest true e = (e, rest)
        cases rest false e = rest

    all-kept : (p : Run → Bool) (rs : List Run) → rs ≡ filter p rs → AllByRecursion (λ r. p r ≡ true) rs
    all-kept p rs e = subst (AllByRecursion (λ r. p r ≡ true)) (sym e) (kept-pass p rs)

    cut-none : (core : Core) → cut_core (λ set. set) core ≡ core
    cut-none empty = refl
    cut-none (Core.byte_in set) = refl
    cut-none (Core.char_in set) = refl
    cut-none (Core.look l) = refl
    cut-none (Core.group i a) = ap (Core.group i) (cut-none a)
    cut-none (pair a c) = ap₂ pair (cut-none a) (cut-none c)
    cut-none (choice a c) = ap₂ choice (cut-none a) (cut-none c)
    cut-none Core.none = refl
    cut-none (plus greedy a) = ap (plus greedy) (cut-none a)

    -- each run of a core that spares the byte keeps clear of it
    pub runs-clear : (core : Core) → Spares b core → (n : ℕ) (r : Run) → r.at ≤ length text
        → AllByRecursion (λ s. is_clear (b ∷ []) text r.at s.at ≡ true) (runs text core n r)
    runs-clear core h n r within =
        all-kept (λ s. clear r.at s.at) (runs text core n r)
        (ap (λ c. runs text c n r) (sym (cut-none core))
        ∙ runs-filtered text clear (clear-here (b ∷ []) text) (clear-joined (b ∷ []) text) (λ set. set) (NoByte b) (NoChar b) byte-spared char-spared core h n r within)

    -- an element of a part of the text is one of the text
    part-element : (at end i : ℕ) → end ≤ length text → at ≤ i → i < end → get_or (slice_range text at end) (i - at) 0 ≡ get_or text i 0
    part-element at end i within low high =
        let place : at + (i - at) ≡ i = omega arith in
        get_or-take (end - at) (drop at text) (i - at) 0 (omega arith) ∙ get_or-drop at text (i - at) 0 ∙ ap (λ (k : ℕ). get_or text k 0) place

    clear-means : (at end i : ℕ) → end ≤ length text → at ≤ i → i < end → clear at end ≡ true → get_or text i 0 ≡ b → ⊥
    clear-means at end i within low high kept same =
        let part = slice_range text at end in
        let width : length part ≡ end - at = length-take-le (end - at) (drop at text) (omega (arith, length-drop at text)) in
        let here : get_or part (i - at) 0 ≡ b = part-element at end i within low high ∙ same in
        let found : list_any (is_one_of (b ∷ [])) part ≡ true =
        list_any_at (is_one_of (b ∷ [])) part (i - at) 0 (omega (arith, width)) (ap (λ x. x || false) (eq-eqb (get_or part (i - at) 0) b here)) in
        true≢false (sym kept ∙ ap not found)

    -- the first run of the whole, and its end
    end-of : (at groups : ℕ) (rs : List Run) (end : ℕ)
        → AllByRecursion (λ s. (clear at s.at ≡ true) × (s.at ≤ length text)) rs
        → option_and_then whole_end (option_map (λ r. r.groups) (first (map (set_group 0 at) rs))) ≡ Some end
        → (clear at end ≡ true) × (end ≤ length text)
    end-of at groups [] end h e = absurd (none-some end e)
    end-of at groups (s ∷ rs) end h e = cases s.groups h.0 e
      where
        cases : (gs : List (Option (ℕ × ℕ))) → (clear at s.at ≡ true) × (s.at ≤ length text)
            → whole_end (slice_set gs 0 (Some (at, s.at))) ≡ Some end → (clear at end ≡ true) × (end ≤ length text)
        cases [] k e = absurd (none-some end e)
        cases (g ∷ gs) k e = subst (λ (m : ℕ). (clear at m ≡ true) × (m ≤ length text)) (same_Some s.at end e) k

    both : (P Q : Run → Type 0) (rs : List Run) → AllByRecursion P rs → AllByRecursion Q rs → AllByRecursion (λ s. P s × Q s) rs
    both P Q [] h k = tt
    both P Q (r ∷ rs) h k = ((h.0, k.0), both P Q rs h.1 k.1)

    pub no-match : (core : Core) → Spares b core → (groups at end i : ℕ) → at ≤ length text → preferred_end core groups text at ≡ Some end
        → at ≤ i → i < end → slice_index text i ≢ b
    unfolding preferred runs
    no-match core h groups at end i within found low high same =
        let r : Run = mark 0 (begin at groups) in
        let runs-all = both (λ s. clear at s.at ≡ true) (λ s. s.at ≤ length text) (runs text core 2 r) (runs-clear core h 2 r within)
        (All-weaker (GoesOn text r) (λ s. s.at ≤ length text) (runs text core 2 r) (runs-Forward text core 2 r within) (λ s goes. goes.within)) in
        let ends = end-of at groups (runs text core 2 r) end runs-all found in
        clear-means at end i ends.1 low high ends.0 same

-- a byte that isn't taken is in no match
pub not-taken : (b : ℕ) (t : Tree) (groups : ℕ) → (Takes b t → ⊥) → IsInNoMatch (preferred_end (core_of_tree t) groups) b
not-taken b t groups h text at end i within found low high = no-match b text (core_of_tree t) (spares-tree b t h) groups at end i within found low high
