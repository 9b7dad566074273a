-- A text to find is read as one tree.
use Rattle.std.proofs.Common.{◌≡◌, ℕ, Bool, false, List, [], ◌∷◌, refl, sym, ap, ap₂, ◌∙◌, subst}
use Rattle.std.specs.Str.{chars}
use Rattle.hir_tree.specs.Ranges.{AreByteRanges, AreCharRanges}
use Rattle.hir_tree.specs.Tree.{Tree, Trees, empty, literal, class_chars, class_bytes, look, repetition, capture, concat, alternation, none, more}
use Rattle.pattern_syntax.specs.declared.flags.Flags.{Flags}
use Rattle.pattern_syntax.specs.Reads.{Found, Reads}
use Rattle.pattern_syntax.specs.SetTree.{all_with_sets, with_sets}
use Rattle.pattern_core.specs.Answers.{flags_of}
use Rattle.grep_regex.specs.Exact.{AreTidy, IsTidy}
use Rattle.grep_regex.specs.Readings.{AreReadAs, AreTrees, AreTreesOf, IsReadAs, folds, pattern_flags, written}
use Rattle.grep_regex.specs.declared.options.Options.{Options}

abbrev pub OneReading : Type 0
OneReading = (k : Flags) (text : List ℕ) (a b : Found) → Reads k text a → Reads k text b → a ≡ b

abbrev pub OneListOfChars : Type 0
OneListOfChars = (xs ys : List (ℕ × ℕ)) → AreCharRanges xs → AreCharRanges ys → with_sets (class_chars xs) ≡ with_sets (class_chars ys) → xs ≡ ys

abbrev pub OneListOfBytes : Type 0
OneListOfBytes = (xs ys : List (ℕ × ℕ)) → AreByteRanges xs → AreByteRanges ys → with_sets (class_bytes xs) ≡ with_sets (class_bytes ys) → xs ≡ ys

module _ (one_reading : OneReading) (of_chars : OneListOfChars) (of_bytes : OneListOfBytes) where
  mutual
    -- tidy trees with the same sets are the same
    same_tree : (a b : Tree) → IsTidy a → IsTidy b → with_sets a ≡ with_sets b → a ≡ b
    same_tree empty empty p q e = refl
    same_tree empty _ p q e = absurd (cc)
    same_tree (literal x) (literal y) p q e = cc
    same_tree (literal x) _ p q e = absurd (cc)
    same_tree (class_chars x) (class_chars y) p q e = ap class_chars (of_chars x y p q e)
    same_tree (class_chars x) _ p q e = absurd (cc)
    same_tree (class_bytes x) (class_bytes y) p q e = ap class_bytes (of_bytes x y p q e)
    same_tree (class_bytes x) _ p q e = absurd (cc)
    same_tree (look x) (look y) p q e = cc
    same_tree (look x) _ p q e = absurd (cc)
    same_tree (repetition l m g x) (repetition l' m' g' y) p q e = let part : x ≡ y = same_tree x y p q (cc) in cc
    same_tree (repetition l m g x) _ p q e = absurd (cc)
    same_tree (capture i n x) (capture i' n' y) p q e = let part : x ≡ y = same_tree x y p q (cc) in cc
    same_tree (capture i n x) _ p q e = absurd (cc)
    same_tree (concat xs) (concat ys) p q e = ap concat (same_trees xs ys p q (cc))
    same_tree (concat xs) _ p q e = absurd (cc)
    same_tree (alternation xs) (alternation ys) p q e = ap alternation (same_trees xs ys p q (cc))
    same_tree (alternation xs) _ p q e = absurd (cc)

    same_trees : (a b : Trees) → AreTidy a → AreTidy b → all_with_sets a ≡ all_with_sets b → a ≡ b
    same_trees none none p q e = refl
    same_trees none (more y ys) p q e = absurd (cc)
    same_trees (more x xs) none p q e = absurd (cc)
    same_trees (more x xs) (more y ys) p q e =
        let first : x ≡ y = same_tree x y p.0 q.0 (cc) in
        let rest : xs ≡ ys = same_trees xs ys p.1 q.1 (cc) in
        cc

  -- texts are read as one
  one_found : (o : Options) (folded : Bool) (text : List ℕ) (a b : Found) → IsReadAs o folded text a → IsReadAs o folded text b → a ≡ b
  one_found o folded text a b p q = one_reading (flags_of (pattern_flags o folded)) (chars (written o text)) a b p.read.1 q.read.1

  pub one_list_found : (o : Options) (folded : Bool) (texts : List (List ℕ)) (a b : List Found) → AreReadAs o folded texts a → AreReadAs o folded texts b → a ≡ b
  one_list_found o folded [] [] [] p q = refl
  one_list_found o folded [] [] (y ∷ b) p q = absurd q
  one_list_found o folded [] (x ∷ a) b p q = absurd p
  one_list_found o folded (text ∷ texts) [] b p q = absurd p
  one_list_found o folded (text ∷ texts) (x ∷ a) [] p q = absurd q
  one_list_found o folded (text ∷ texts) (x ∷ a) (y ∷ b) p q = ap₂ (λ f fs. f ∷ fs) (one_found o folded text x y p.0 q.0) (one_list_found o folded texts a b p.1 q.1)

  one_list_of : (readings : List Found) (a b : List Tree) → AreTreesOf readings a → AreTreesOf readings b → a ≡ b
  one_list_of [] [] [] p q = refl
  one_list_of [] [] (y ∷ b) p q = absurd q
  one_list_of [] (x ∷ a) b p q = absurd p
  one_list_of (found ∷ readings) [] b p q = absurd p
  one_list_of (found ∷ readings) (x ∷ a) [] p q = absurd q
  one_list_of (found ∷ readings) (x ∷ a) (y ∷ b) p q =
      ap₂ (λ t ts. t ∷ ts) (same_tree x y p.0.tidy q.0.tidy (p.0.sets ∙ sym q.0.sets)) (one_list_of readings a b p.1 q.1)

  -- patterns have one list of trees
  pub one_list_of_trees : (o : Options) (patterns : List (List ℕ)) (a b : List Tree) → AreTrees o patterns a → AreTrees o patterns b → a ≡ b
  one_list_of_trees o patterns a b p q =
      let plain : p.plain ≡ q.plain = one_list_found o false patterns p.plain q.plain p.are_plain q.are_plain in
      let read : AreReadAs o (folds o q.plain) patterns p.readings = subst (λ f. AreReadAs o (folds o f) patterns p.readings) plain p.are_read in
      let readings : p.readings ≡ q.readings = one_list_found o (folds o q.plain) patterns p.readings q.readings read q.are_read in
      one_list_of q.readings a b (subst (λ r. AreTreesOf r a) readings p.are) q.are
