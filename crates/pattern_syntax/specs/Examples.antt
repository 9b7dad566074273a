-- Worked readings: a tree with each set shown by those of a few characters that it holds.
use Rattle.std.specs.Prelude.{◌≡◌, ℕ, Bool, true, false, List, [], ◌∷◌, ◌++◌, codes, filter, Option}
use Rattle.hir_tree.specs.declared.look.Look.{Look}
use Rattle.pattern_syntax.specs.declared.flags.Flags.{Flags}
use Rattle.pattern_syntax.specs.SetTree.{SetTree, SetTrees, empty as no_tree, literal as literal_tree, chars as chars_tree, bytes as bytes_tree, looks as look_tree, repetition as repetition_tree, capture as capture_tree, concat as concat_tree, alternation as alternation_tree, none as no_trees, more as more_trees}
use Rattle.pattern_syntax.specs.Syntax.{Syntax, Fine, write}
use Rattle.pattern_syntax.specs.Reads.{found_of}

mutual
  pub data Shape : Type 0 where
    empty : Shape
    literal : List ℕ → Shape
    chars : List ℕ → Shape
    bytes : List ℕ → Shape
    looks : Look → Shape
    repetition : ℕ → Option ℕ → Bool → Shape → Shape
    capture : ℕ → Option (List ℕ) → Shape → Shape
    concat : Shapes → Shape
    alternation : Shapes → Shape

  pub data Shapes : Type 0 where
    none : Shapes
    more : Shape → Shapes → Shapes

-- the characters that are asked for
abbrev pub samples : List ℕ
samples = codes "abckzABK09 -]&^_\n" ++ 0xE9 ∷ 0x17F ∷ 0x212A ∷ []

abbrev mutual
  pub shown : SetTree → Shape
  shown no_tree = empty
  shown (literal_tree bs) = literal bs
  shown (chars_tree s) = chars (filter s samples)
  shown (bytes_tree s) = bytes (filter s samples)
  shown (look_tree l) = looks l
  shown (repetition_tree n m greedy a) = repetition n m greedy (shown a)
  shown (capture_tree i name a) = capture i name (shown a)
  shown (concat_tree parts) = concat (all_shown parts)
  shown (alternation_tree parts) = alternation (all_shown parts)

  pub all_shown : SetTrees → Shapes
  all_shown no_trees = none
  all_shown (more_trees a rest) = more (shown a) (all_shown rest)

abbrev pub shapes : List Shape → Shapes
shapes [] = none
shapes (a ∷ rest) = more a (shapes rest)

-- one after the other
abbrev pub row : List Shape → Shape
row parts = concat (shapes parts)

-- one of them
abbrev pub choice : List Shape → Shape
choice parts = alternation (shapes parts)

-- FLAGS
abbrev pub plain : Flags
plain = record { folds = false; multi = false; dot_all = false; crlf = false; swaps = false; unicode = true; spaces = false; octal = false }

abbrev pub of_bytes : Flags
of_bytes = record plain { unicode = false }

abbrev pub with_lines : Flags
with_lines = record plain { multi = true }

abbrev pub with_crlf : Flags
with_crlf = record plain { crlf = true }

abbrev pub with_crlf_lines : Flags
with_crlf_lines = record plain { multi = true; crlf = true }

abbrev pub with_dot_all : Flags
with_dot_all = record plain { dot_all = true }

abbrev pub with_spaces : Flags
with_spaces = record plain { spaces = true }

abbrev pub with_octal : Flags
with_octal = record plain { octal = true }

-- a text's tree, how deep it nests, how many groups it has, and its literal characters
abbrev pub IsReadAs : Flags → List ℕ → Shape → ℕ → ℕ → List ℕ → Type 0
IsReadAs k text shape depth groups literals =
    (p : Syntax) × (Fine k p []) × (text ≡ write p []) × (shown (found_of k p).part.tree ≡ shape) × ((found_of k p).part.depth ≡ depth)
    × ((found_of k p).groups ≡ groups) × ((found_of k p).literals ≡ literals)
