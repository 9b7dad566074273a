-- Trees in a row.
use Rattle.std.proofs.Common.{◌≡◌, ◌⊎◌, inl, inr, ℕ, ◌+◌, ◌<◌, Bool, true, false, List, [], ◌∷◌, length, map, take, get_or, refl, sym, ap, ap₂, ◌∙◌, subst, All}
use Rattle.std.specs.Prelude.{◌||◌}
use Rattle.std.specs.Bool.{OnFalse}
use Rattle.std.specs.List.{list_any, AllByRecursion}
use Rattle.std.proofs.lemmas.List.{take_more}
use Rattle.std.proofs.lemmas.List.Elements.{All-append, All-from_recursion, recursion_from_All}
use Rattle.std.proofs.lemmas.List.Folds.{list_any_more}
use Rattle.hir_tree.specs.Hirs.{parts_of}
use Rattle.hir_tree.specs.Tree.{Tree, Trees, alternation, concat, more, trees, tree_of}
use Rattle.hir_tree.specs.declared.hir.Hir.{Hir}
use Rattle.hir_tree.specs.declared.hir.Hir.TheVariants.{Concat, Alternation}
use Rattle.hir_tree.specs.declared.hir.Hirs.{Hirs}
use Rattle.grep_regex.specs.Exact.{IsTidy, AreTidy}
use Rattle.grep_regex.specs.Stripping.{asks_for, one_asks_for, strip_byte, strip_each}

-- one element more
pub all-next : {X : Type 0} (P : X → Type 0) (xs : List X) (i : ℕ) (x : X) → i < length xs → x ≡ get_or xs i x
    → All P (take i xs) → P x → All P (take (i + 1) xs)
all-next P xs i x within here all p =
    rw (take_more xs i x within) (All-append P (take i xs) (get_or xs i x ∷ []) all (All-from_recursion P (get_or xs i x ∷ []) (subst P here p, tt)))

pub any-next : {X : Type 0} (p : X → Bool) (xs : List X) (i : ℕ) (x : X) → i < length xs → x ≡ get_or xs i x
    → list_any p (take i xs) ≡ false → p x ≡ false → list_any p (take (i + 1) xs) ≡ false
any-next p xs i x within here before not = list_any_more p xs i x within ∙ ap₂ (λ a b. a || b) before (ap p (sym here) ∙ not)

pub on-false : {P Q : Type 0} (b : Bool) → (P → Q) → OnFalse b P → OnFalse b Q
on-false true f h = tt
on-false false f h = f h

-- the tree of parts in a row
abbrev pub IsRow : Tree → List Hir → Type 0
IsRow tree parts = (tree ≡ concat (trees (map tree_of parts))) ⊎ (tree ≡ alternation (trees (map tree_of parts)))

pub row : (hir : Hir) (hirs : Hirs) (parts : List Hir) → (hir ≡ Concat hirs) ⊎ (hir ≡ Alternation hirs)
    → tree_of (Concat hirs) ≡ concat (trees (map tree_of (parts_of hirs))) → tree_of (Alternation hirs) ≡ alternation (trees (map tree_of (parts_of hirs)))
    → parts ≡ parts_of hirs → IsRow (tree_of hir) parts
row hir hirs parts is of_concat of_alternation same = elim is [
  | inl e ↦ inl (ap tree_of e ∙ of_concat ∙ ap (λ ps. concat (trees (map tree_of ps))) (sym same))
  | inr e ↦ inr (ap tree_of e ∙ of_alternation ∙ ap (λ ps. alternation (trees (map tree_of ps))) (sym same))
]

one-asks : (b : ℕ) (parts : List Hir) → one_asks_for b (trees (map tree_of parts)) ≡ list_any (λ part. asks_for b (tree_of part)) parts
one-asks b [] = refl
one-asks b (part ∷ rest) = ap (λ others. asks_for b (tree_of part) || others) (one-asks b rest)

-- it asks for a byte where a part does
pub row-asks : (b : ℕ) (tree : Tree) (parts : List Hir) → IsRow tree parts → list_any (λ part. asks_for b (tree_of part)) parts ≡ asks_for b tree
row-asks b tree parts is = elim is [
  | inl e ↦ sym (ap (asks_for b) e ∙ one-asks b parts)
  | inr e ↦ sym (ap (asks_for b) e ∙ one-asks b parts)
]

each-tidy : (parts : List Hir) → AllByRecursion (λ part. IsTidy (tree_of part)) parts → AreTidy (trees (map tree_of parts))
each-tidy [] all = tt
each-tidy (part ∷ rest) all = (all.0, each-tidy rest all.1)

-- it is tidy where each part is
pub row-tidy : (tree : Tree) (parts : List Hir) → IsRow tree parts → All (λ part. IsTidy (tree_of part)) parts → IsTidy tree
row-tidy tree parts is all =
    let each = each-tidy parts (recursion_from_All (λ part. IsTidy (tree_of part)) parts all) in
    elim is [ inl e ↦ subst IsTidy (sym e) each | inr e ↦ subst IsTidy (sym e) each ]

each-stripped : (b : ℕ) (parts : List Hir) → trees (map (λ part. strip_byte b (tree_of part)) parts) ≡ strip_each b (trees (map tree_of parts))
each-stripped b [] = refl
each-stripped b (part ∷ rest) = ap (more (strip_byte b (tree_of part))) (each-stripped b rest)

-- the stripped parts in a row are the row stripped
pub row-stripped : (kind : Trees → Tree) (b : ℕ) (new old : Tree) (stripped parts all : List Hir)
    → ((each : Trees) → kind (strip_each b each) ≡ strip_byte b (kind each))
    → new ≡ kind (trees (map tree_of stripped)) → map tree_of stripped ≡ map (λ part. strip_byte b (tree_of part)) parts → parts ≡ all
    → old ≡ kind (trees (map tree_of all)) → new ≡ strip_byte b old
row-stripped kind b new old stripped parts all inside is each same was =
    is ∙ ap (λ ts. kind (trees ts)) each ∙ ap kind (each-stripped b parts) ∙ inside (trees (map tree_of parts))
    ∙ ap (λ ps. strip_byte b (kind (trees (map tree_of ps)))) same ∙ ap (strip_byte b) (sym was)
