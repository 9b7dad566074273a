-- When a pattern can't be stripped, in the rule's own words.
use Rattle.std.specs.Prelude.{◌≡◌, ◌↔◌, ◌⊎◌, ℕ, ◌<◌, true, List, [], ◌∷◌, All, Contains, None}
use Rattle.hir_tree.specs.Ranges.{AreByteRanges, AreCharRanges, Holds}
use Rattle.grep_regex.specs.Stripping.{asks_for, not_allowed, stripped, is_one_of}
use Rattle.hir_tree.specs.Tree.{Tree, Trees, empty, literal, class_chars, class_bytes, look, repetition, capture, concat, alternation, none, more}

-- a class that isn't empty and holds nothing but these bytes
abbrev pub HoldsOnly : List ℕ → List (ℕ × ℕ) → Type 0
HoldsOnly bytes ranges = ((c : ℕ) × Holds ranges c) × ((c : ℕ) → Holds ranges c → is_one_of bytes c ≡ true)

abbrev mutual
  -- A part of the tree must take one of the bytes: a literal holds it, or a class that isn't empty holds nothing but such bytes.
  pub MustTake : List ℕ → Tree → Type 0
  MustTake bytes empty = ⊥
  MustTake bytes (literal text) = (c : ℕ) × Contains text c × (is_one_of bytes c ≡ true)
  MustTake bytes (class_chars ranges) = HoldsOnly bytes ranges
  MustTake bytes (class_bytes ranges) = HoldsOnly bytes ranges
  MustTake bytes (look kind) = ⊥
  MustTake bytes (repetition least most greedy part) = MustTake bytes part
  MustTake bytes (capture index name part) = MustTake bytes part
  MustTake bytes (concat parts) = OneMustTake bytes parts
  MustTake bytes (alternation parts) = OneMustTake bytes parts

  -- so it is of one of the trees
  pub OneMustTake : List ℕ → Trees → Type 0
  OneMustTake bytes none = ⊥
  OneMustTake bytes (more part rest) = MustTake bytes part ⊎ OneMustTake bytes rest

abbrev mutual
  -- each class of the tree is sorted ranges that neither meet nor touch
  pub IsTidy : Tree → Type 0
  IsTidy empty = Unit {0}
  IsTidy (literal bytes) = Unit {0}
  IsTidy (class_chars ranges) = AreCharRanges ranges
  IsTidy (class_bytes ranges) = AreByteRanges ranges
  IsTidy (look kind) = Unit {0}
  IsTidy (repetition least most greedy part) = IsTidy part
  IsTidy (capture index name part) = IsTidy part
  IsTidy (concat parts) = AreTidy parts
  IsTidy (alternation parts) = AreTidy parts

  -- so it is of each of the trees
  pub AreTidy : Trees → Type 0
  AreTidy none = Unit {0}
  AreTidy (more part rest) = IsTidy part × AreTidy rest

-- a tree is asked for a byte exactly where a part must take it
abbrev pub AskingIsExact : Type 0
AskingIsExact = (b : ℕ) (tree : Tree) → IsTidy tree → (asks_for b tree ≡ true) ↔ MustTake (b ∷ []) tree

-- a tree can't be stripped of ASCII bytes exactly where a part must take one of them
abbrev pub StrippingIsRefusedExactly : Type 0
StrippingIsRefusedExactly = (bytes : List ℕ) (tree : Tree) → All (λ b. b < 128) bytes → IsTidy tree
    → (not_allowed bytes tree ≡ None) ↔ (MustTake bytes tree → ⊥)

-- and stays sorted ranges
abbrev pub StrippingKeepsTidy : Type 0
StrippingKeepsTidy = (bytes : List ℕ) (tree : Tree) → All (λ b. b < 128) bytes → IsTidy tree → IsTidy (stripped bytes tree)
