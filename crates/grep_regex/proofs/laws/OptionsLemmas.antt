-- A matcher with a terminator takes none of its bytes.
use Rattle.std.proofs.Common.{◌≡◌, ℕ, zero, suc, ◌+◌, ◌<◌, max, Bool, true, false, inl, inr, List, [], ◌∷◌, length, get_or, None, if◌then◌else◌, refl, sym, ap, ap₂, ◌∙◌, subst, true≢false, All, Contains, eq-eqb, append-nil, arith}
use Rattle.std.specs.Prelude.{◌&&◌, ◌==◌, not, sum, encode_utf8}
use Rattle.std.proofs.lemmas.List.Folds.{list_any_at}
use Rattle.std.proofs.lemmas.Str.{inside_one}
use Rattle.grep_matcher.specs.NoMatch.{IsInNoMatch}
use Rattle.grep_regex.specs.NonMatching.{Takes, OneTakes, preferred_end}
use Rattle.grep_regex.specs.declared.options.Options.{Options}
use Rattle.grep_regex.specs.Options.{between, line_start, line_end, word_start_half, word_end_half, word_edge, edged, optioned, terminator, together}
use Rattle.hir_tree.specs.Ranges.{Holds}
use Rattle.hir_tree.specs.Runs.{in_set}
use Rattle.hir_tree.specs.Spots.{repeated_spots, greatest, spots_of_tree, spots_of_trees, groups_of_tree, groups_of_trees}
use Rattle.grep_regex.specs.Stripping.{without, strip_byte, strip_each, stripped, asks_for, one_asks_for, not_allowed}
use Rattle.hir_tree.specs.Cores.{core_of_tree}
use Rattle.hir_tree.specs.Tree.{Tree, Trees, none, more}
use Rattle.hir_tree.specs.Tree as tree
use Rattle.hir_tree.specs.declared.look.Look.{Look}
use Rattle.grep_regex.proofs.laws.NoMatchLemmas.{not-taken}
use Rattle.pattern_syntax.proofs.RangesLemmas.{held, holds}
use Rattle.grep_regex.proofs.laws.StrippingLemmas.{in_without}
use Rattle.grep_regex.proofs.laws.TreeLemmas.{or-none, allowed-parts}

and-left : (x y : Bool) → (x && y) ≡ true → x ≡ true
and-left true y e = refl
and-left false y e = absurd (true≢false (sym e))

-- what is left of a set is in it
pub less-held : (b : ℕ) (set : List (ℕ × ℕ)) (c : ℕ) → Holds (without b set) c → Holds set c
less-held b set c h =
    holds set c (and-left (in_set set c) (not (c == b)) (sym (in_without b c set) ∙ held (without b set) c h))

and-not : (x : Bool) → (x && not true) ≡ false
and-not true = refl
and-not false = refl

not-held : (b : ℕ) (set : List (ℕ × ℕ)) → Holds (without b set) b → ⊥
not-held b set h =
    true≢false (sym (held (without b set) b h) ∙ in_without b b set ∙ ap (λ t. in_set set b && not t) (eq-eqb b b refl) ∙ and-not (in_set set b))

-- the byte of an ASCII character is the character
own-byte : (c b : ℕ) → b < 128 → Contains (encode_utf8 c) b → c ≡ b
own-byte c b small has =
    let here : get_or (encode_utf8 c) has.0 0 ≡ b = get_or_default (encode_utf8 c) has.0 0 b has.1 ∙ has.2 in
    inside_one c [] (encode_utf8 c) has.0 (sym (append-nil (encode_utf8 c))) has.1 (omega arith) ∙ here
  where
    get_or_default : (xs : List ℕ) (k d e : ℕ) → k < length xs → get_or xs k d ≡ get_or xs k e
    get_or_default [] k d e lt = absurd (omega arith)
    get_or_default (x ∷ xs) zero d e lt = refl
    get_or_default (x ∷ xs) (suc k) d e lt = get_or_default xs k d e (omega arith)

mutual
  -- nothing that is stripped is taken
  strip-none : (b : ℕ) (t : Tree) → b < 128 → asks_for b t ≡ false → Takes b (strip_byte b t) → ⊥
  strip-none b tree.empty small e h = h
  strip-none b (tree.literal bytes) small e h =
      true≢false (sym (list_any_at (λ c. c == b) bytes h.0 b h.1 (eq-eqb _ b h.2)) ∙ e)
  strip-none b (tree.class_chars ranges) small e h =
      not-held b ranges (subst (Holds (without b ranges)) (own-byte h.0 b small h.3) h.2)
  strip-none b (tree.class_bytes ranges) small e h = not-held b ranges h
  strip-none b (tree.look kind) small e h = h
  strip-none b (tree.repetition least most greedy part) small e h = strip-none b part small e h
  strip-none b (tree.capture index name part) small e h = strip-none b part small e h
  strip-none b (tree.concat parts) small e h = strip-none-each b parts small e h
  strip-none b (tree.alternation parts) small e h = strip-none-each b parts small e h

  strip-none-each : (b : ℕ) (ts : Trees) → b < 128 → one_asks_for b ts ≡ false → OneTakes b (strip_each b ts) → ⊥
  strip-none-each b none small e h = h
  strip-none-each b (more part rest) small e h =
      let parts = or-none (asks_for b part) (one_asks_for b rest) e in
      elim h [ inl first ↦ strip-none b part small parts.0 first | inr later ↦ strip-none-each b rest small parts.1 later ]

mutual
  -- and nothing more is taken
  strip-less : (b d : ℕ) (t : Tree) → Takes b (strip_byte d t) → Takes b t
  strip-less b d tree.empty h = h
  strip-less b d (tree.literal bytes) h = h
  strip-less b d (tree.class_chars ranges) h = (h.0, h.1, less-held d ranges h.0 h.2, h.3)
  strip-less b d (tree.class_bytes ranges) h = less-held d ranges b h
  strip-less b d (tree.look kind) h = h
  strip-less b d (tree.repetition least most greedy part) h = strip-less b d part h
  strip-less b d (tree.capture index name part) h = strip-less b d part h
  strip-less b d (tree.concat parts) h = strip-less-each b d parts h
  strip-less b d (tree.alternation parts) h = strip-less-each b d parts h

  strip-less-each : (b d : ℕ) (ts : Trees) → OneTakes b (strip_each d ts) → OneTakes b ts
  strip-less-each b d none h = h
  strip-less-each b d (more part rest) h =
      elim h [ inl first ↦ inl (strip-less b d part first) | inr later ↦ inr (strip-less-each b d rest later) ]

all-less : (bytes : List ℕ) (b : ℕ) (t : Tree) → Takes b (stripped bytes t) → Takes b t
all-less [] b t h = h
all-less (d ∷ rest) b t h = strip-less b d t (all-less rest b (strip_byte d t) h)

-- no byte of those that are stripped is taken
pub stripped-none : (bytes : List ℕ) (t : Tree) → All (λ b. b < 128) bytes → not_allowed bytes t ≡ None → (b : ℕ) → Contains bytes b
    → Takes b (stripped bytes t) → ⊥
stripped-none [] t small e b has h = absurd (omega (arith, has.1))
stripped-none (d ∷ rest) t small e b (zero, lt, same) h =
    let parts = allowed-parts d rest t e in
    strip-none d t (small 0 d (omega arith)) parts.0 (subst (λ (m : ℕ). Takes m (strip_byte d t)) (sym same) (all-less rest b (strip_byte d t) h))
stripped-none (d ∷ rest) t small e b (suc k, lt, same) h =
    stripped-none rest (strip_byte d t) (λ j x le. small (suc j) x (omega arith)) (allowed-parts d rest t e).1 b (k, omega arith, same) h

between-less : (b : ℕ) (first last : Look) (t : Tree) → Takes b (between first last t) → Takes b t
between-less b first last t h = elim h [
  | inl never ↦ absurd never
  | inr later ↦ elim later [
    | inl there ↦ there
    | inr rest ↦ elim rest [ inl never ↦ absurd never | inr never ↦ absurd never ]
  ]
]

edged-less : (b : ℕ) (o : Options) (t : Tree) → Takes b (edged o t) → Takes b t
edged-less b o t = cases o.whole_line o.word o.word_edges
  where
    cases : (x y z : Bool)
        → Takes b (if x then between (line_start o) (line_end o) t
        else (if y then between (word_start_half o) (word_end_half o) t else (if z then between (word_edge o) (word_edge o) t else t))) → Takes b t
    cases true y z h = between-less b (line_start o) (line_end o) t h
    cases false true z h = between-less b (word_start_half o) (word_end_half o) t h
    cases false false true h = between-less b (word_edge o) (word_edge o) t h
    cases false false false h = h

pub no-terminator : (o : Options) (patterns : List Tree) → All (λ b. b < 128) (terminator o) → not_allowed (terminator o) (together patterns) ≡ None
    → (groups b : ℕ) → Contains (terminator o) b → IsInNoMatch (preferred_end (core_of_tree (optioned o patterns)) groups) b
no-terminator o patterns small e groups b has =
    not-taken b (optioned o patterns) groups
    (λ h. stripped-none (terminator o) (together patterns) small e b has (edged-less b o (stripped (terminator o) (together patterns)) h))

mutual
  same-spots : (b : ℕ) (t : Tree) → spots_of_tree (strip_byte b t) ≡ spots_of_tree t
  same-spots b tree.empty = refl
  same-spots b (tree.literal bytes) = refl
  same-spots b (tree.class_chars ranges) = refl
  same-spots b (tree.class_bytes ranges) = refl
  same-spots b (tree.look kind) = refl
  same-spots b (tree.repetition least most greedy part) = ap (λ n. repeated_spots n least most) (same-spots b part)
  same-spots b (tree.capture index name part) = ap (λ n. n + 2) (same-spots b part)
  same-spots b (tree.concat parts) = ap (λ ns. max 1 (sum ns)) (same-spots-each b parts)
  same-spots b (tree.alternation parts) = ap (λ ns. max 1 (sum ns + length ns)) (same-spots-each b parts)

  same-spots-each : (b : ℕ) (ts : Trees) → spots_of_trees (strip_each b ts) ≡ spots_of_trees ts
  same-spots-each b none = refl
  same-spots-each b (more part rest) = ap₂ (λ n ns. n ∷ ns) (same-spots b part) (same-spots-each b rest)

mutual
  same-groups : (b : ℕ) (t : Tree) → groups_of_tree (strip_byte b t) ≡ groups_of_tree t
  same-groups b tree.empty = refl
  same-groups b (tree.literal bytes) = refl
  same-groups b (tree.class_chars ranges) = refl
  same-groups b (tree.class_bytes ranges) = refl
  same-groups b (tree.look kind) = refl
  same-groups b (tree.repetition least most greedy part) = same-groups b part
  same-groups b (tree.capture index name part) = ap (λ n. max index n) (same-groups b part)
  same-groups b (tree.concat parts) = ap greatest (same-groups-each b parts)
  same-groups b (tree.alternation parts) = ap greatest (same-groups-each b parts)

  same-groups-each : (b : ℕ) (ts : Trees) → groups_of_trees (strip_each b ts) ≡ groups_of_trees ts
  same-groups-each b none = refl
  same-groups-each b (more part rest) = ap₂ (λ n ns. n ∷ ns) (same-groups b part) (same-groups-each b rest)

pub sizes-kept : (bytes : List ℕ) (t : Tree) → (spots_of_tree (stripped bytes t) ≡ spots_of_tree t) × (groups_of_tree (stripped bytes t) ≡ groups_of_tree t)
sizes-kept [] t = (refl, refl)
sizes-kept (b ∷ rest) t =
    let more = sizes-kept rest (strip_byte b t) in
    (more.0 ∙ same-spots b t, more.1 ∙ same-groups b t)
