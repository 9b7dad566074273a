-- Taking bytes out of the classes of a pattern, so that no match holds them.
use Rattle.std.specs.Prelude.{◌≡◌, ℕ, ◌+◌, ◌-◌, ◌<◌, ◌≤◌, ◌==◌, nat_lt, min, max, not, ◌&&◌, ◌||◌, Bool, false, List, [], ◌∷◌, ◌++◌, length, All, filter, Option, Some, None, if◌then◌else◌}
use Rattle.std.specs.List.{flat_map, list_any, slice_range}
use Rattle.hir_tree.specs.Runs.{Run, runs}
use Rattle.hir_tree.specs.Cores.{core_of_tree}
use Rattle.hir_tree.specs.Tree.{Tree, Trees, empty, literal, class_chars, class_bytes, look, repetition, capture, concat, alternation, none, more}

-- what is left of a range without a number: what lies below it, and what lies above it
abbrev pub beside : ℕ → ℕ × ℕ → List (ℕ × ℕ)
beside n range =
    (if nat_lt range.0 n then (range.0, min range.1 (n - 1)) ∷ [] else [])
    ++ (if nat_lt n range.1 then (max range.0 (n + 1), range.1) ∷ [] else [])

-- the ranges without a number
abbrev pub without : ℕ → List (ℕ × ℕ) → List (ℕ × ℕ)
without n ranges = flat_map (beside n) ranges

abbrev mutual
  -- a tree of which no class holds the byte
  pub strip_byte : ℕ → Tree → Tree
  strip_byte b empty = empty
  strip_byte b (literal bytes) = literal bytes
  strip_byte b (class_chars ranges) = class_chars (without b ranges)
  strip_byte b (class_bytes ranges) = class_bytes (without b ranges)
  strip_byte b (look kind) = look kind
  strip_byte b (repetition least most greedy part) = repetition least most greedy (strip_byte b part)
  strip_byte b (capture index name part) = capture index name (strip_byte b part)
  strip_byte b (concat parts) = concat (strip_each b parts)
  strip_byte b (alternation parts) = alternation (strip_each b parts)

  -- each of the trees
  pub strip_each : ℕ → Trees → Trees
  strip_each b none = none
  strip_each b (more part rest) = more (strip_byte b part) (strip_each b rest)

-- the bytes one after another: for `\r\n` first `\r`, then `\n`
abbrev pub stripped : List ℕ → Tree → Tree
stripped [] tree = tree
stripped (b ∷ rest) tree = stripped rest (strip_byte b tree)

-- the class is this number alone
abbrev pub is_alone : ℕ → List (ℕ × ℕ) → Bool
is_alone n [] = false
is_alone n (range ∷ []) = range.0 == n && range.1 == n
is_alone n (range ∷ other ∷ rest) = false

abbrev mutual
  -- a part of the tree must match the byte: a literal holds it, or a class is it alone
  pub asks_for : ℕ → Tree → Bool
  asks_for b empty = false
  asks_for b (literal bytes) = list_any (λ c. c == b) bytes
  asks_for b (class_chars ranges) = is_alone b ranges
  asks_for b (class_bytes ranges) = is_alone b ranges
  asks_for b (look kind) = false
  asks_for b (repetition least most greedy part) = asks_for b part
  asks_for b (capture index name part) = asks_for b part
  asks_for b (concat parts) = one_asks_for b parts
  asks_for b (alternation parts) = one_asks_for b parts

  -- so does one of the trees
  pub one_asks_for : ℕ → Trees → Bool
  one_asks_for b none = false
  one_asks_for b (more part rest) = asks_for b part || one_asks_for b rest

-- the byte for which the tree can't be stripped of these bytes, if there is one
abbrev pub not_allowed : List ℕ → Tree → Option ℕ
not_allowed [] tree = None
not_allowed (b ∷ rest) tree = if asks_for b tree then Some b else not_allowed rest (strip_byte b tree)

-- the byte is one of these
abbrev pub is_one_of : List ℕ → ℕ → Bool
is_one_of bytes c = list_any (λ b. c == b) bytes

-- between two places of a text stands none of these bytes
abbrev pub is_clear : List ℕ → List ℕ → ℕ → ℕ → Bool
is_clear bytes text from to = not (list_any (is_one_of bytes) (slice_range text from to))

-- THE FILTER LAW. Where a tree can be stripped of ASCII bytes, the runs of the stripped tree are those runs of the old one
-- whose text holds none of the bytes, in the same order, with the same groups and the same numbers seen.
abbrev pub StrippingLeavesTheClearRuns : Type 0
StrippingLeavesTheClearRuns = (bytes : List ℕ) (tree : Tree) → All (λ b. b < 128) bytes → not_allowed bytes tree ≡ None
    → (text : List ℕ) (n : ℕ) (r : Run) → r.at ≤ length text
    → runs text (core_of_tree (stripped bytes tree)) n r ≡ filter (λ s. is_clear bytes text r.at s.at) (runs text (core_of_tree tree) n r)
