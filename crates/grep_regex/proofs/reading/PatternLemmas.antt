-- All patterns: names that stand twice over them, and when letters are folded.
use Rattle.std.proofs.Common.{◌≡◌, ◌<◌, ◌^◌, ◌↔◌, ℕ, ◌&&◌, ◌||◌, Bool, true, false, not, IsTrue, MatchBool, Result, Ok, Err, IfOk, List, [], ◌∷◌, ◌++◌, length, map, sum, refl, sym, ap, ap₂, ◌∙◌, subst, arith}
use Rattle.std.specs.List.{list_any}
use Rattle.std.specs.Str.{chars}
use Rattle.std.proofs.lemmas.List.{append-nil}
use Rattle.unicode.specs.Binary.{is_uppercase}
use Rattle.hir_tree.specs.Spots.{groups_of}
use Rattle.hir_tree.specs.Tree.{Tree, tree_of}
use Rattle.hir_tree.specs.declared.hir.Hir.{Hir}
use Rattle.pattern_syntax.specs.declared.flags.Flags.{Flags}
use Rattle.pattern_syntax.specs.Flags.{is_nil}
use Rattle.pattern_syntax.specs.Reads.{Found, Reads}
use Rattle.pattern_core.specs.Answers.{HasOneTwice, flags_of}
use Rattle.sd_base.specs.declared.no_memory.NoMemory.{NoMemory}
use Rattle.grep_regex.specs.Building.{FitTogether}
use Rattle.grep_regex.specs.Readings.{AreReadAs, AreTrees, AreTreesOf, HasDoubleName, all_names, folds, pattern_flags, written}
use Rattle.grep_regex.specs.ReadSoFar.{AreKept, AreRead, HaveSingleNames, asks_to_fold, names_in_all}
use Rattle.grep_regex.specs.declared.options.Options.{Options}
use Rattle.grep_regex.specs.declared.reading.ReadPatterns.{ReadPatterns}
use Rattle.grep_regex.proofs.reading.GroupLemmas.{read_names}
use Rattle.grep_regex.proofs.reading.ReadLemmas.{all_otherwise}

-- ---- names

-- the names in the trees are those of the readings
trees_names : (o : Options) (folded : Bool) (texts : List (List ℕ)) (readings : List Found) (trees : List Tree) → AreReadAs o folded texts readings → AreTreesOf readings trees
    → names_in_all trees ≡ all_names readings
trees_names o folded [] [] [] are of = refl
trees_names o folded [] [] (tree ∷ trees) are of = absurd of
trees_names o folded [] (found ∷ readings) trees are of = absurd are
trees_names o folded (text ∷ texts) [] trees are of = absurd are
trees_names o folded (text ∷ texts) (found ∷ readings) [] are of = absurd of
trees_names o folded (text ∷ texts) (found ∷ readings) (tree ∷ trees) are of =
    ap₂ (λ xs ys. xs ++ ys) (read_names (flags_of (pattern_flags o folded)) (chars (written o text)) found are.0.read.1 tree of.0.sets) (trees_names o folded texts readings trees are.1 of.1)

-- one pattern alone has its own names
few_names : (readings : List Found) (trees : List Tree) → AreTreesOf readings trees → length trees < 2 → HaveSingleNames readings → HasOneTwice (all_names readings) → ⊥
few_names [] trees of few single twice = twice
few_names (found ∷ []) trees of few single twice = single.0 (subst HasOneTwice (append-nil found.names) twice)
few_names (found ∷ other ∷ readings) [] of few single twice = of
few_names (found ∷ other ∷ readings) (tree ∷ []) of few single twice = of.1
few_names (found ∷ other ∷ readings) (tree ∷ next ∷ trees) of few single twice = absurd (omega arith)

length_trees : (xs : List Hir) → length (map tree_of xs) ≡ length xs
length_trees [] = refl
length_trees (x ∷ xs) = let more = length_trees xs in omega arith

module _ (o : Options) (folded : Bool) (patterns : List (List ℕ)) (read : ReadPatterns) (are : AreRead o folded patterns read) where
  pub twice_of : read.has_double_name ≡ true → HasOneTwice (all_names are.readings)
  twice_of e = subst (λ b. MatchBool b (HasOneTwice (all_names are.readings)) (AreKept patterns are.readings read)) e are.kept

  pub kept_of : read.has_double_name ≡ false → AreKept patterns are.readings read
  kept_of e = subst (λ b. MatchBool b (HasOneTwice (all_names are.readings)) (AreKept patterns are.readings read)) e are.kept

  pub few_single : read.has_double_name ≡ false → length read.hirs.items < 2 → HasOneTwice (all_names are.readings) → ⊥
  few_single e few =
      let kept = kept_of e in
      let same = length_trees read.hirs.items in
      few_names are.readings (map tree_of read.hirs.items) kept.trees (omega arith) kept.single

  pub names_kept : read.has_double_name ≡ false → names_in_all (map tree_of read.hirs.items) ≡ all_names are.readings
  names_kept e = trees_names o folded patterns are.readings (map tree_of read.hirs.items) are.are_read (kept_of e).trees

  -- names that stand twice do so with letters as they are
  pub double_of : HasOneTwice (all_names are.readings) → HasDoubleName o patterns
  double_of twice =
      let plain = all_otherwise o folded false patterns are.readings are.are_read in
      record { readings = plain.others; are_read = plain.are_read; double = subst HasOneTwice plain.names twice }

  pub numbers_fit : read.has_double_name ≡ false → FitTogether patterns → sum (map groups_of read.hirs.items) < 2 ^ 32
  numbers_fit e fit = let kept = kept_of e in let fewer = kept.numbers in omega arith

-- ---- one reading

module _ (one_reading : (k : Flags) (text : List ℕ) (a b : Found) → Reads k text a → Reads k text b → a ≡ b) where
  same_readings : (o : Options) (folded : Bool) (texts : List (List ℕ)) (some others : List Found) → AreReadAs o folded texts some → AreReadAs o folded texts others → some ≡ others
  same_readings o folded [] [] [] a b = refl
  same_readings o folded [] [] (y ∷ ys) a b = absurd b
  same_readings o folded [] (x ∷ xs) ys a b = absurd a
  same_readings o folded (text ∷ texts) [] ys a b = absurd a
  same_readings o folded (text ∷ texts) (x ∷ xs) [] a b = absurd b
  same_readings o folded (text ∷ texts) (x ∷ xs) (y ∷ ys) a b =
      ap₂ (λ z zs. z ∷ zs) (one_reading (flags_of (pattern_flags o folded)) (chars (written o text)) x y a.0.read.1 b.0.read.1) (same_readings o folded texts xs ys a.1 b.1)

  pub single_of : (o : Options) (folded : Bool) (patterns : List (List ℕ)) (read : ReadPatterns) (are : AreRead o folded patterns read)
      → (HasOneTwice (all_names are.readings) → ⊥) → HasDoubleName o patterns → ⊥
  single_of o folded patterns read are single double =
      let plain = all_otherwise o folded false patterns are.readings are.are_read in
      let same : double.readings ≡ plain.others = same_readings o false patterns double.readings plain.others double.are_read plain.are_read in
      single (subst HasOneTwice (ap all_names same ∙ sym plain.names) double.double)

-- ---- folding

kept_case : (insensitive smart literal uppercase : Bool) → (smart && not insensitive && literal && not uppercase) ≡ false
    → insensitive ≡ (insensitive || (smart && literal && not uppercase))
kept_case true smart literal uppercase e = refl
kept_case false true literal uppercase e = sym e
kept_case false false literal uppercase e = refl

folded_case : (insensitive smart literal uppercase : Bool) → (smart && not insensitive && literal && not uppercase) ≡ true
    → true ≡ (insensitive || (smart && literal && not uppercase))
folded_case true smart literal uppercase e = refl
folded_case false true literal uppercase e = sym e
folded_case false false literal uppercase e = sym e

module _ (o : Options) (patterns : List (List ℕ)) (read : ReadPatterns) (are : AreRead o o.case_insensitive patterns read) (kept : read.has_double_name ≡ false) where
  abbrev of_literals : List ℕ → Bool
  of_literals cs = o.case_insensitive || (o.case_smart && not (is_nil cs) && not (list_any is_uppercase cs))

  -- what is read first is the trees
  pub trees_first : asks_to_fold o read ≡ false → AreTrees o patterns (map tree_of read.hirs.items)
  trees_first e =
      let plain = all_otherwise o o.case_insensitive false patterns are.readings are.are_read in
      let all = kept_of o o.case_insensitive patterns read are kept in
      let folded : o.case_insensitive ≡ folds o plain.others =
      kept_case o.case_insensitive o.case_smart read.any_literal read.any_uppercase e
      ∙ ap₂ (λ a b. o.case_insensitive || (o.case_smart && a && not b)) all.literal all.uppercase
      ∙ ap of_literals plain.literals in
      record {
        plain = plain.others;
        are_plain = plain.are_read;
        readings = are.readings;
        are_read = subst (λ b. AreReadAs o b patterns are.readings) folded are.are_read;
        are = all.trees;
      }

  -- what is read with letters folded is
  pub trees_folded : asks_to_fold o read ≡ true → (again : ReadPatterns) (read_again : AreRead o true patterns again) → again.has_double_name ≡ false
      → AreTrees o patterns (map tree_of again.hirs.items)
  trees_folded e again read_again kept_again =
      let plain = all_otherwise o o.case_insensitive false patterns are.readings are.are_read in
      let all = kept_of o o.case_insensitive patterns read are kept in
      let folded : true ≡ folds o plain.others =
      folded_case o.case_insensitive o.case_smart read.any_literal read.any_uppercase e
      ∙ ap₂ (λ a b. o.case_insensitive || (o.case_smart && a && not b)) all.literal all.uppercase
      ∙ ap of_literals plain.literals in
      record {
        plain = plain.others;
        are_plain = plain.are_read;
        readings = read_again.readings;
        are_read = subst (λ b. AreReadAs o b patterns read_again.readings) folded read_again.are_read;
        are = (kept_of o true patterns again read_again kept_again).trees;
      }

true_or_not : (b : Bool) → (b ≡ true → ⊥) → b ≡ false
true_or_not true other = absurd (other refl)
true_or_not false other = refl

-- where no name stands twice, what is read again is kept
pub kept_again : (o : Options) (folded : Bool) (patterns : List (List ℕ)) (read : ReadPatterns) → AreRead o folded patterns read → (HasDoubleName o patterns → ⊥) → read.has_double_name ≡ false
kept_again o folded patterns read are single =
    true_or_not read.has_double_name (λ e. single (double_of o folded patterns read are (twice_of o folded patterns read are e)))

-- whether a name stands twice over all patterns, from whether one does in their trees
pub repeats_if : (read : ReadPatterns) (result : Result Bool NoMemory) → read.has_double_name ≡ false
    → IfOk result (λ double. IsTrue double ↔ HasOneTwice (names_in_all (map tree_of read.hirs.items)))
    → IfOk result (λ repeats. (o : Options) (folded : Bool) (texts : List (List ℕ)) (are : AreRead o folded texts read) → IsTrue repeats ↔ HasOneTwice (all_names are.readings))
repeats_if read (Ok double) kept is = λ o folded texts are.
    let same = names_kept o folded texts read are kept in
    (λ t. subst HasOneTwice same (is.0 t), λ twice. is.1 (subst HasOneTwice (sym same) twice))
repeats_if read (Err e) kept is = tt
