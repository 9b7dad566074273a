-- How patterns are read under the options of a matcher.
use Rattle.std.specs.Prelude.{◌≡◌, ℕ, ◌≤◌, ◌&&◌, ◌||◌, not, Bool, false, List, [], ◌∷◌, ◌++◌, flat_map, if◌then◌else◌}
use Rattle.std.specs.List.{list_any}
use Rattle.std.specs.Str.{chars}
use Rattle.unicode.specs.Binary.{is_uppercase}
use Rattle.hir_tree.specs.Tree.{Tree}
use Rattle.pattern_core.specs.Answers.{IsRead, IsGrammar, IsNest, HasOneTwice, most_depth}
use Rattle.pattern_core.specs.Escape.{encoded, escaped_text}
use Rattle.pattern_core.specs.declared.flags.PatternFlags.{PatternFlags}
use Rattle.pattern_syntax.specs.declared.flags.Flags.{Flags}
use Rattle.pattern_syntax.specs.Flags.{is_nil}
use Rattle.pattern_syntax.specs.Reads.{Found, Reads}
use Rattle.pattern_syntax.specs.SetTree.{SetTree, SetTrees, empty, literal, chars as chars_in, bytes, looks, repetition, capture, concat, alternation, none, more, with_sets}
use Rattle.grep_regex.specs.Exact.{IsTidy}
use Rattle.grep_regex.specs.declared.options.Options.{Options}

-- the flags that a pattern is read under, with letters folded or as they are
abbrev pub pattern_flags : Options → Bool → PatternFlags
pattern_flags o folded = record {
  case_insensitive = folded;
  multi_line = o.multi_line;
  dot_matches_new_line = o.dot_matches_new_line;
  swap_greed = o.swap_greed;
  ignore_whitespace = o.ignore_whitespace && not o.fixed_strings;
  unicode = o.unicode;
  octal = o.octal;
  crlf = o.crlf;
  nest_limit = o.nest_limit;
}

-- what is read as a pattern: the text, or with fixed strings the escaped text
abbrev pub written : Options → List ℕ → List ℕ
written o text = if o.fixed_strings then encoded (escaped_text (chars text)) else text

-- ---- one pattern

-- a pattern is read as this, and nests no deeper than its limit
pub record IsReadAs (o : Options) (folded : Bool) (text : List ℕ) (found : Found) : Type 0 where
  pub read : IsRead (pattern_flags o folded) (written o text) found
  pub nests : found.part.depth ≤ most_depth (pattern_flags o folded)

-- nothing is read in a pattern
abbrev pub IsUnread : Options → List ℕ → Type 0
IsUnread o text = IsGrammar (pattern_flags o false) (written o text)

-- a pattern nests deeper than its limit
abbrev pub NestsTooDeep : Options → List ℕ → Type 0
NestsTooDeep o text = IsNest (pattern_flags o false) (written o text)

-- ---- all patterns

-- each pattern is read as its own
abbrev pub AreReadAs : Options → Bool → List (List ℕ) → List Found → Type 0
AreReadAs o folded [] [] = Unit {0}
AreReadAs o folded [] (found ∷ rest) = ⊥
AreReadAs o folded (text ∷ texts) [] = ⊥
AreReadAs o folded (text ∷ texts) (found ∷ rest) = IsReadAs o folded text found × AreReadAs o folded texts rest

-- the first pattern that isn't read as one that nests within its limit is of this kind
pub record IsFirst (o : Options) (patterns : List (List ℕ)) (Kind : List ℕ → Type 0) : Type 0 where
  pub before : List (List ℕ)
  pub text : List ℕ
  pub behind : List (List ℕ)
  pub all : patterns ≡ before ++ text ∷ behind
  pub readings : List Found
  pub read : AreReadAs o false before readings
  pub kind : Kind text

-- the names of all groups, in their order
abbrev pub all_names : List Found → List (List ℕ)
all_names readings = flat_map (λ (found : Found). found.names) readings

-- the literal characters of all patterns
abbrev pub all_literals : List Found → List ℕ
all_literals readings = flat_map (λ (found : Found). found.literals) readings

-- Whether letters are folded: always, or where the patterns together have a literal and no upper-case literal.
abbrev pub folds : Options → List Found → Bool
folds o readings = o.case_insensitive || (o.case_smart && not (is_nil (all_literals readings)) && not (list_any is_uppercase (all_literals readings)))

-- the tree of what is read, with the one list of ranges for each class
pub record IsTreeOf (found : Found) (tree : Tree) : Type 0 where
  pub sets : with_sets tree ≡ found.part.tree
  pub tidy : IsTidy tree

abbrev pub AreTreesOf : List Found → List Tree → Type 0
AreTreesOf [] [] = Unit {0}
AreTreesOf [] (tree ∷ trees) = ⊥
AreTreesOf (found ∷ rest) [] = ⊥
AreTreesOf (found ∷ rest) (tree ∷ trees) = IsTreeOf found tree × AreTreesOf rest trees

-- THE TREES OF PATTERNS that are read: letters are folded by what is read where they stand as they are.
pub record AreTrees (o : Options) (patterns : List (List ℕ)) (trees : List Tree) : Type 0 where
  -- what is read with letters as they are
  pub plain : List Found
  pub are_plain : AreReadAs o false patterns plain
  -- and with letters folded, where they are
  pub readings : List Found
  pub are_read : AreReadAs o (folds o plain) patterns readings
  pub are : AreTreesOf readings trees

-- a name stands twice over all patterns
pub record HasDoubleName (o : Options) (patterns : List (List ℕ)) : Type 0 where
  pub readings : List Found
  pub are_read : AreReadAs o false patterns readings
  pub double : HasOneTwice (all_names readings)

abbrev mutual
  -- a tree without the text of its literals and the members of its classes
  pub outline : SetTree → SetTree
  outline empty = empty
  outline (literal text) = literal []
  outline (chars_in members) = literal []
  outline (bytes members) = literal []
  outline (looks kind) = looks kind
  outline (repetition least most greedy part) = repetition least most greedy (outline part)
  outline (capture index name part) = capture index name (outline part)
  outline (concat parts) = concat (outlines parts)
  outline (alternation parts) = alternation (outlines parts)

  -- each of the trees, so
  pub outlines : SetTrees → SetTrees
  outlines none = none
  outlines (more part rest) = more (outline part) (outlines rest)

-- the same but for literals and classes of the tree
pub record IsAlike (a b : Found) : Type 0 where
  pub depth : a.part.depth ≡ b.part.depth
  pub groups : a.groups ≡ b.groups
  pub names : a.names ≡ b.names
  pub literals : a.literals ≡ b.literals
  pub tree : outline a.part.tree ≡ outline b.part.tree

-- FOLDING LETTERS changes neither whether a text is read, nor what is read but for literals and classes of its tree.
abbrev pub FoldingChangesClassesAlone : Type 0
FoldingChangesClassesAlone = (k : Flags) (folded : Bool) (text : List ℕ) (found : Found) → Reads k text found
    → (other : Found) × (Reads (record k { folds = folded }) text other × IsAlike found other)
