-- What the code has of patterns that are read.
use Rattle.std.specs.Prelude.{◌≡◌, ◌≤◌, ◌↔◌, ℕ, Bool, not, ◌&&◌, IsTrue, MatchBool, List, [], ◌∷◌, flat_map, length, map, sum}
use Rattle.std.specs.List.{list_any}
use Rattle.std.specs.Ordering.{nat_cmp}
use Rattle.std.specs.Cmp.Lexicographic.{slice_cmp}
use Rattle.std.specs.BTreeSet.{BTreeSet, contains}
use Rattle.unicode.specs.Binary.{is_uppercase}
use Rattle.hir_tree.specs.Spots.{groups_of}
use Rattle.hir_tree.specs.Tree.{Tree, tree_of}
use Rattle.pattern_core.specs.Answers.{IsAmong, HasOneTwice, IsDoubleName, IsGrammar, IsNest}
use Rattle.pattern_core.specs.declared.fault.PatternFault.{PatternFault}
use Rattle.pattern_core.specs.declared.fault.PatternFault.TheVariants as pattern
use Rattle.pattern_core.specs.declared.flags.PatternFlags.{PatternFlags}
use Rattle.pattern_syntax.specs.Flags.{is_nil}
use Rattle.pattern_syntax.specs.Reads.{Found}
use Rattle.grep_regex.specs.Options.{names_in}
use Rattle.grep_regex.specs.Readings.{AreReadAs, AreTreesOf, all_literals, all_names}
use Rattle.grep_regex.specs.declared.options.Options.{Options}
use Rattle.grep_regex.specs.declared.reading.ReadPatterns.{ReadPatterns}

-- why a pattern is refused
abbrev pub IsPatternRefused : PatternFlags → List ℕ → PatternFault → Type 0
IsPatternRefused flags bytes pattern.Grammar = IsGrammar flags bytes
IsPatternRefused flags bytes pattern.Nest = IsNest flags bytes
IsPatternRefused flags bytes pattern.DoubleName = IsDoubleName flags bytes
IsPatternRefused flags bytes pattern.NoMemory = Unit {0}

-- no name stands twice in one of them
abbrev pub HaveSingleNames : List Found → Type 0
HaveSingleNames [] = Unit {0}
HaveSingleNames (found ∷ rest) = (HasOneTwice found.names → ⊥) × HaveSingleNames rest

-- the trees of these readings, of which none has a name twice, and their literal characters
pub record AreKept (texts : List (List ℕ)) (readings : List Found) (read : ReadPatterns) : Type 0 where
  pub trees : AreTreesOf readings (map tree_of read.hirs.items)
  pub single : HaveSingleNames readings
  pub numbers : sum (map groups_of read.hirs.items) ≤ sum (map length texts)
  pub literal : read.any_literal ≡ not (is_nil (all_literals readings))
  pub uppercase : read.any_uppercase ≡ list_any is_uppercase (all_literals readings)

-- patterns are read as these, where a name stands twice, or else they are kept
pub record AreRead (o : Options) (folded : Bool) (texts : List (List ℕ)) (read : ReadPatterns) : Type 0 where
  pub readings : List Found
  pub are_read : AreReadAs o folded texts readings
  pub kept : MatchBool read.has_double_name (HasOneTwice (all_names readings)) (AreKept texts readings read)

-- letters are to be folded yet
abbrev pub asks_to_fold : Options → ReadPatterns → Bool
asks_to_fold o read = o.case_smart && not o.case_insensitive && read.any_literal && not read.any_uppercase

-- ---- names

-- the names in trees, in their order
abbrev pub names_in_all : List Tree → List (List ℕ)
names_in_all trees = flat_map (λ tree. map (λ named. named.0) (names_in tree)) trees

-- these names are known, and none stands twice
pub record AreKnown (set : BTreeSet (List ℕ)) (names : List (List ℕ)) : Type 0 where
  pub known : (name : List ℕ) → IsTrue (contains (slice_cmp nat_cmp) set name) ↔ IsAmong name names
  pub single : HasOneTwice names → ⊥

-- names are known with those before, or one stands twice
abbrev pub AreAdded : BTreeSet (List ℕ) → List (List ℕ) → Bool → Type 0
AreAdded set names added = MatchBool added (AreKnown set names) (HasOneTwice names)
