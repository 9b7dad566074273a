-- The tree of parts in a row.
use Rattle.std.proofs.Common.{◌≡◌, ◌<◌, ℕ, List, [], ◌∷◌, length, map, refl, ap, ◌∙◌, arith}
use Rattle.hir_tree.specs.Hirs.{parts_of}
use Rattle.hir_tree.specs.Tree as hir_tree
use Rattle.hir_tree.specs.Tree.{tree_of}
use Rattle.hir_tree.specs.declared.hir.Hir.{Hir}
use Rattle.hir_tree.specs.declared.hir.Hir.TheVariants.{Concat, Alternation}
use Rattle.hir_tree.specs.declared.hir.Hirs.{Hirs}
use Rattle.pattern_syntax.specs.Reads.{united}
use Rattle.pattern_syntax.specs.SetTree.{SetTree, SetTrees, concat, alternation, more, trees, with_sets, all_with_sets}

abbrev set_tree_of : Hir → SetTree
set_tree_of hir = with_sets (tree_of hir)

all_sets : (parts : List Hir) → all_with_sets (hir_tree.trees (map tree_of parts)) ≡ trees (map set_tree_of parts)
all_sets [] = refl
all_sets (part ∷ rest) = ap (more (set_tree_of part)) (all_sets rest)

united_many : (make : SetTrees → SetTree) (parts : List Hir) (depth : ℕ) → 1 < length parts
    → make (trees (map set_tree_of parts)) ≡ (united make (map set_tree_of parts) depth).tree
united_many make [] depth many = absurd (omega arith)
united_many make (a ∷ []) depth many = absurd (omega arith)
united_many make (a ∷ b ∷ rest) depth many = refl

-- the law of trees in a row
abbrev pub ConcatIsOfParts : Type 0
ConcatIsOfParts = (hirs : Hirs) → tree_of (Concat hirs) ≡ hir_tree.concat (hir_tree.trees (map tree_of (parts_of hirs)))

pub concat_many : ConcatIsOfParts → (hirs : Hirs) (parts : List Hir) → parts_of hirs ≡ parts → 1 < length parts → (depth : ℕ)
    → with_sets (tree_of (Concat hirs)) ≡ (united concat (map set_tree_of parts) depth).tree
concat_many law hirs parts same many depth =
    ap with_sets (law hirs) ∙ ap concat (all_sets (parts_of hirs)) ∙ ap (λ hs. concat (trees (map set_tree_of hs))) same ∙ united_many concat parts depth many

abbrev pub AlternationIsOfParts : Type 0
AlternationIsOfParts = (hirs : Hirs) → tree_of (Alternation hirs) ≡ hir_tree.alternation (hir_tree.trees (map tree_of (parts_of hirs)))

pub alternation_many : AlternationIsOfParts → (hirs : Hirs) (parts : List Hir) → parts_of hirs ≡ parts → 1 < length parts → (depth : ℕ)
    → with_sets (tree_of (Alternation hirs)) ≡ (united alternation (map set_tree_of parts) depth).tree
alternation_many law hirs parts same many depth =
    ap with_sets (law hirs) ∙ ap alternation (all_sets (parts_of hirs)) ∙ ap (λ hs. alternation (trees (map set_tree_of hs))) same
    ∙ united_many alternation parts depth many
