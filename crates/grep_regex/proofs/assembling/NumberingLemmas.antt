-- Trees with the numbers of their groups moved on.
use Rattle.std.proofs.Common.{◌≡◌, ◌≢◌, ℕ, zero, suc, ◌+◌, ◌<◌, ◌≤◌, List, [], ◌∷◌, ◌++◌, length, map, sum, slice_index_or, refl, sym, ap, ◌∙◌, arith, add_assoc, add-zero, zero-add}
use Rattle.std.proofs.lemmas.List.{map-append}
use Rattle.std.proofs.lemmas.List.Sums.{sum_by-cons, sum_by_push, sum-map}
use Rattle.hir_tree.specs.Spots.{greatest, groups_of, groups_of_tree}
use Rattle.hir_tree.specs.declared.hir.Hir.{Hir}
use Rattle.hir_tree.specs.Tree.{Tree, Trees, tree_of, empty, literal, class_chars, class_bytes, look, repetition, capture, concat, alternation, none, more, trees}
use Rattle.grep_regex.specs.Options.{each_numbered_from, numbered_from, numbered_on, one_of}

mutual
  -- numbers that are moved on by nothing stay
  pub numbered_from-zero : (tree : Tree) → numbered_from 0 tree ≡ tree
  numbered_from-zero empty = refl
  numbered_from-zero (literal bytes) = refl
  numbered_from-zero (class_chars ranges) = refl
  numbered_from-zero (class_bytes ranges) = refl
  numbered_from-zero (look kind) = refl
  numbered_from-zero (repetition least most greedy part) = ap (repetition least most greedy) (numbered_from-zero part)
  numbered_from-zero (capture index name part) =
      ap (λ n. capture n name (numbered_from 0 part)) (zero-add index) ∙ ap (capture index name) (numbered_from-zero part)
  numbered_from-zero (concat parts) = ap concat (each_numbered_from-zero parts)
  numbered_from-zero (alternation parts) = ap alternation (each_numbered_from-zero parts)

  pub each_numbered_from-zero : (parts : Trees) → each_numbered_from 0 parts ≡ parts
  each_numbered_from-zero none = refl
  each_numbered_from-zero (more part rest) =
      ap (λ tree. more tree (each_numbered_from 0 rest)) (numbered_from-zero part) ∙ ap (more part) (each_numbered_from-zero rest)

-- each tree of a list
pub each_numbered_from-trees : (n : ℕ) (parts : List Tree) → each_numbered_from n (trees parts) ≡ trees (map (numbered_from n) parts)
each_numbered_from-trees n [] = refl
each_numbered_from-trees n (part ∷ rest) = ap (more (numbered_from n part)) (each_numbered_from-trees n rest)

-- one pattern more is numbered on from all before it
pub numbered_on-append : (n : ℕ) (before : List Tree) (tree : Tree)
    → numbered_on n (before ++ tree ∷ []) ≡ numbered_on n before ++ numbered_from (n + sum (map groups_of_tree before)) tree ∷ []
numbered_on-append n [] tree = ap (λ m. numbered_from m tree ∷ []) (sym (add-zero n))
numbered_on-append n (first ∷ rest) tree =
    ap (λ patterns. numbered_from n first ∷ patterns) (numbered_on-append (n + groups_of_tree first) rest tree)
    ∙ ap (λ m. numbered_from n first ∷ (numbered_on (n + groups_of_tree first) rest ++ numbered_from m tree ∷ []))
    (add_assoc n (groups_of_tree first) (sum (map groups_of_tree rest))
    ∙ ap (λ m. n + m) (sym (sum_by-cons (λ m. m) (groups_of_tree first) (map groups_of_tree rest))))

-- the groups of the trees in memory
pub groups_each : (hirs : List Hir) → map groups_of_tree (map tree_of hirs) ≡ map groups_of hirs
groups_each [] = refl
groups_each (hir ∷ rest) = ap (λ groups. groups_of hir ∷ groups) (groups_each rest)

-- one pattern more in memory
pub numbered_pushed : (done patterns : List Hir) (hir moved : Hir) (groups : ℕ)
    → map tree_of patterns ≡ numbered_on 0 (map tree_of done) → groups ≡ sum (map groups_of done)
    → tree_of moved ≡ numbered_from groups (tree_of hir)
    → map tree_of (patterns ++ moved ∷ []) ≡ numbered_on 0 (map tree_of (done ++ hir ∷ []))
numbered_pushed done patterns hir moved groups numbered counted is =
    let before : groups ≡ 0 + sum (map groups_of_tree (map tree_of done)) =
    counted ∙ ap sum (sym (groups_each done)) ∙ sym (zero-add (sum (map groups_of_tree (map tree_of done))))
    in map-append tree_of patterns (moved ∷ [])
    ∙ ap (λ trees. trees ++ tree_of moved ∷ []) numbered
    ∙ ap (λ tree. numbered_on 0 (map tree_of done) ++ tree ∷ []) (is ∙ ap (λ n. numbered_from n (tree_of hir)) before)
    ∙ sym (numbered_on-append 0 (map tree_of done) (tree_of hir))
    ∙ ap (numbered_on 0) (sym (map-append tree_of done (hir ∷ [])))

pub counted_pushed : (done : List Hir) (hir : Hir) → sum (map groups_of done) + groups_of hir ≡ sum (map groups_of (done ++ hir ∷ []))
counted_pushed done hir =
    sym
    (sum-map groups_of (done ++ hir ∷ [])
    ∙ sum_by_push groups_of done hir
    ∙ ap (λ n. n + groups_of hir) (sym (sum-map groups_of done)))

-- one pattern stands by itself
pub one_alone : (patterns : List Hir) (only : Hir) → length patterns ≡ 1 → only ≡ slice_index_or patterns 0 only
    → tree_of only ≡ one_of (map tree_of patterns)
one_alone [] only one is = absurd (omega arith)
one_alone (first ∷ []) only one is = ap tree_of is
one_alone (first ∷ second ∷ rest) only one is = absurd (omega arith)

-- others are an alternation
pub others_alternate : (patterns : List Hir) → length patterns ≢ 1
    → alternation (trees (map tree_of patterns)) ≡ one_of (map tree_of patterns)
others_alternate [] others = refl
others_alternate (first ∷ []) others = absurd (others refl)
others_alternate (first ∷ second ∷ rest) others = refl

-- the groups of a tree in memory are at most the greatest of those in its row
pub at_most_greatest : (parts : List Hir) (i : ℕ) (part : Hir) → i < length parts → part ≡ slice_index_or parts i part
    → groups_of part ≤ greatest (map groups_of_tree (map tree_of parts))
at_most_greatest [] i part within is = absurd (omega arith)
at_most_greatest (first ∷ rest) zero part within is =
    let same : groups_of part ≡ groups_of first = ap groups_of is in omega arith
at_most_greatest (first ∷ rest) (suc i) part within is =
    let below : groups_of part ≤ greatest (map groups_of_tree (map tree_of rest)) =
    at_most_greatest rest i part (omega arith) is
    in omega arith
