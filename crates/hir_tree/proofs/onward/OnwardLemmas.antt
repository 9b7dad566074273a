-- The core of a tree that looks nowhere has no looks.
use Rattle.std.proofs.Common.{◌≡◌, ℕ, zero, suc, ◌-◌, Bool, true, false, List, [], ◌∷◌, map, replicate, Option, Some, None, refl, ap, ◌∙◌}
use Rattle.std.specs.Prelude.{◌&&◌}
use Rattle.std.specs.List.{list_all, AllByRecursion}
use Rattle.std.proofs.lemmas.Bool.{and_parts, false≢true}
use Rattle.hir_tree.specs.Core.{Core, empty, byte_in, char_in, look, group, pair, choice, none, plus, one_byte, pair_all, choice_all, optional, copies, up_to, with_more, repeat}
use Rattle.hir_tree.specs.Cores.{core_of_tree, cores_of_trees}
use Rattle.hir_tree.specs.Hirs.{parts_of}
use Rattle.hir_tree.specs.Onward.{looks_nowhere, all_look_nowhere, looks_nowhere_of}
use Rattle.hir_tree.specs.Tree.{Tree, Trees, tree_of, trees}
use Rattle.hir_tree.specs.Tree as tree
use Rattle.hir_tree.specs.declared.hir.Hir.{Hir}
use Rattle.hir_tree.specs.declared.hir.Hir.TheVariants.{Concat, Alternation}
use Rattle.hir_tree.specs.declared.hir.Hirs.{Hirs}
use Rattle.hir_tree.proofs.tree_laws.TreeLemmas.{tree_concat, tree_alternation}

-- no node of the core is a look
abbrev pub HasNoLooks : Core → Type 0
HasNoLooks empty = Unit {0}
HasNoLooks (byte_in set) = Unit {0}
HasNoLooks (char_in set) = Unit {0}
HasNoLooks (look kind) = ⊥
HasNoLooks (group i a) = HasNoLooks a
HasNoLooks (pair a b) = HasNoLooks a × HasNoLooks b
HasNoLooks (choice a b) = HasNoLooks a × HasNoLooks b
HasNoLooks none = Unit {0}
HasNoLooks (plus greedy a) = HasNoLooks a

pairs-have_none : (cores : List Core) → AllByRecursion HasNoLooks cores → HasNoLooks (pair_all cores)
pairs-have_none [] h = tt
pairs-have_none (a ∷ []) h = h.0
pairs-have_none (a ∷ b ∷ rest) h = (h.0, pairs-have_none (b ∷ rest) h.1)

choices-have_none : (cores : List Core) → AllByRecursion HasNoLooks cores → HasNoLooks (choice_all cores)
choices-have_none [] h = tt
choices-have_none (a ∷ rest) h = (h.0, choices-have_none rest h.1)

bytes-have_none : (bytes : List ℕ) → AllByRecursion HasNoLooks (map one_byte bytes)
bytes-have_none [] = tt
bytes-have_none (b ∷ rest) = (tt, bytes-have_none rest)

optional-has_none : (greedy : Bool) (a : Core) → HasNoLooks a → HasNoLooks (optional greedy a)
optional-has_none true a h = (h, tt)
optional-has_none false a h = (tt, h)

copies-have_none : (n : ℕ) (a b : Core) → HasNoLooks a → HasNoLooks b → HasNoLooks (copies n a b)
copies-have_none zero a b h k = k
copies-have_none (suc n) a b h k = (h, copies-have_none n a b h k)

up_to-has_none : (greedy : Bool) (n : ℕ) (a : Core) → HasNoLooks a → HasNoLooks (up_to greedy n a)
up_to-has_none greedy zero a h = tt
up_to-has_none greedy (suc zero) a h = optional-has_none greedy a h
up_to-has_none greedy (suc (suc n)) a h =
    optional-has_none greedy (pair a (up_to greedy (suc n) a)) (h, up_to-has_none greedy (suc n) a h)

replicate-has_none : (n : ℕ) (a : Core) → HasNoLooks a → AllByRecursion HasNoLooks (replicate n a)
replicate-has_none zero a h = tt
replicate-has_none (suc n) a h = (h, replicate-has_none n a h)

with_more-has_none : (greedy : Bool) (n more : ℕ) (a : Core) → HasNoLooks a → HasNoLooks (with_more greedy n more a)
with_more-has_none greedy n zero a h = pairs-have_none (replicate n a) (replicate-has_none n a h)
with_more-has_none greedy n (suc m) a h = copies-have_none n a (up_to greedy (suc m) a) h (up_to-has_none greedy (suc m) a h)

repeat-has_none : (least : ℕ) (most : Option ℕ) (greedy : Bool) (a : Core) → HasNoLooks a → HasNoLooks (repeat least most greedy a)
repeat-has_none zero None greedy a h = optional-has_none greedy (plus greedy a) h
repeat-has_none (suc n) None greedy a h = copies-have_none n a (plus greedy a) h h
repeat-has_none least (Some most) greedy a h = with_more-has_none greedy least (most - least) a h

mutual
  pub core-has_none : (tree : Tree) → looks_nowhere tree ≡ true → HasNoLooks (core_of_tree tree)
  core-has_none tree.empty e = tt
  core-has_none (tree.literal bytes) e = pairs-have_none (map one_byte bytes) (bytes-have_none bytes)
  core-has_none (tree.class_chars ranges) e = tt
  core-has_none (tree.class_bytes ranges) e = tt
  core-has_none (tree.look kind) e = absurd (false≢true e)
  core-has_none (tree.repetition least most greedy part) e = repeat-has_none least most greedy (core_of_tree part) (core-has_none part e)
  core-has_none (tree.capture index name part) e = core-has_none part e
  core-has_none (tree.concat parts) e = pairs-have_none (cores_of_trees parts) (cores-have_none parts e)
  core-has_none (tree.alternation parts) e = choices-have_none (cores_of_trees parts) (cores-have_none parts e)

  cores-have_none : (parts : Trees) → all_look_nowhere parts ≡ true → AllByRecursion HasNoLooks (cores_of_trees parts)
  cores-have_none tree.none e = tt
  cores-have_none (tree.more part rest) e =
      let both = and_parts (looks_nowhere part) (all_look_nowhere rest) e in
      (core-has_none part both.0, cores-have_none rest both.1)

-- whether all parts look nowhere
parts-in-memory : (parts : List Hir) → all_look_nowhere (trees (map tree_of parts)) ≡ list_all looks_nowhere_of parts
parts-in-memory [] = refl
parts-in-memory (part ∷ rest) = ap (λ nowhere. looks_nowhere_of part && nowhere) (parts-in-memory rest)

pub nowhere-concat : (hirs : Hirs) → looks_nowhere_of (Concat hirs) ≡ list_all looks_nowhere_of (parts_of hirs)
nowhere-concat hirs = ap looks_nowhere (tree_concat hirs) ∙ parts-in-memory (parts_of hirs)

pub nowhere-alternation : (hirs : Hirs) → looks_nowhere_of (Alternation hirs) ≡ list_all looks_nowhere_of (parts_of hirs)
nowhere-alternation hirs = ap looks_nowhere (tree_alternation hirs) ∙ parts-in-memory (parts_of hirs)
