-- What a parser answers.
use Rattle.std.specs.Prelude.{◌≡◌, ◌⊎◌, ◌<◌, ◌≤◌, ◌^◌, ◌∷◌, ℕ, not, List, [], length, min}
use Rattle.std.specs.List.{list_any}
use Rattle.std.specs.Str.{chars}
use Rattle.unicode.specs.Binary.{is_uppercase}
use Rattle.hir_tree.specs.Tree.{tree_of}
use Rattle.pattern_syntax.specs.declared.flags.Flags.{Flags}
use Rattle.pattern_syntax.specs.Flags.{is_nil}
use Rattle.pattern_syntax.specs.SetTree.{with_sets}
use Rattle.pattern_syntax.specs.Reads.{Found, Reads}
use Rattle.pattern_core.specs.declared.flags.PatternFlags.{PatternFlags}
use Rattle.pattern_core.specs.declared.parsed.Parsed.{Parsed}

-- the flags of the grammar
abbrev pub flags_of : PatternFlags → Flags
flags_of flags = record {
  folds = flags.case_insensitive;
  multi = flags.multi_line;
  dot_all = flags.dot_matches_new_line;
  crlf = flags.crlf;
  swaps = flags.swap_greed;
  unicode = flags.unicode;
  spaces = flags.ignore_whitespace;
  octal = flags.octal;
}

-- the name is one of them
abbrev pub IsAmong : List ℕ → List (List ℕ) → Type 0
IsAmong name [] = ⊥
IsAmong name (n ∷ ns) = (name ≡ n) ⊎ IsAmong name ns

-- a name stands twice
abbrev pub HasOneTwice : List (List ℕ) → Type 0
HasOneTwice [] = ⊥
HasOneTwice (n ∷ ns) = IsAmong n ns ⊎ HasOneTwice ns

-- the bytes are fewer than 2^32, and their characters are read as this
abbrev pub IsRead : PatternFlags → List ℕ → Found → Type 0
IsRead flags bytes found = (length bytes < 2 ^ 32) × Reads (flags_of flags) (chars bytes) found

-- the lesser of the limit and 1000
abbrev pub most_depth : PatternFlags → ℕ
most_depth flags = min flags.nest_limit 1000

-- nothing is read
abbrev pub IsGrammar : PatternFlags → List ℕ → Type 0
IsGrammar flags bytes = (found : Found) → IsRead flags bytes found → ⊥

-- a reading nests deeper than its limit
abbrev pub IsNest : PatternFlags → List ℕ → Type 0
IsNest flags bytes = (found : Found) × (IsRead flags bytes found × (most_depth flags < found.part.depth))

-- a reading that doesn't nest too deep has a name twice
abbrev pub IsDoubleName : PatternFlags → List ℕ → Type 0
IsDoubleName flags bytes = (found : Found) × (IsRead flags bytes found × (found.part.depth ≤ most_depth flags) × HasOneTwice found.names)

-- A reading that doesn't nest too deep and has no name twice: its tree, its groups, whether a literal character stands there, and
-- whether one of them is upper case.
pub record IsPattern (flags : PatternFlags) (bytes : List ℕ) (parsed : Parsed) : Type 0 where
  pub found : Found
  pub read : IsRead flags bytes found
  pub nests : found.part.depth ≤ most_depth flags
  pub names : HasOneTwice found.names → ⊥
  pub tree : with_sets (tree_of parsed.hir) ≡ found.part.tree
  pub groups : parsed.groups ≡ found.groups
  pub literal : parsed.any_literal ≡ not (is_nil found.literals)
  pub uppercase : parsed.any_uppercase ≡ list_any is_uppercase found.literals
