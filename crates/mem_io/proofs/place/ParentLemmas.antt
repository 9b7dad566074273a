-- Parents of name lists.
use Rattle.std.proofs.Common.{◌≡◌, ◌-◌, [], ◌∷◌, ◌++◌, take, length, refl, ◌∙◌, ap, true}
use native.Mathlib.Numerals.{unary_clauses}
use Rattle.sd_io.specs.Tree.{Name, NameList}
use Rattle.sd_io.specs.Paths.{parent_of}
use Rattle.sd_io.specs.Outcomes.{is_in, is_nonempty, same_place}
use Rattle.std.specs.Prelude.{◌&&◌}

-- the parent has all names but the last
pub parent_of-take : (place : NameList) → take (length place - 1) place ≡ parent_of place
parent_of-take [] = refl
parent_of-take (name ∷ []) = refl
parent_of-take (name ∷ next ∷ more) = simp unary_clauses (ap (λ place. name ∷ place) (simp unary_clauses at (parent_of-take (next ∷ more))))

-- a name's parent is the folder before it
pub parent_of-last : (folder : NameList) (name : Name) → parent_of (folder ++ name ∷ []) ≡ folder
parent_of-last [] name = refl
parent_of-last (first ∷ []) name = refl
parent_of-last (first ∷ next ∷ folder) name = ap (λ place. first ∷ place) (parent_of-last (next ∷ folder) name)

-- a place lies in the folder of all its names but the last
pub is_in_last : (folder place front : NameList) (name : Name) → place ≡ front ++ name ∷ [] → is_in folder place ≡ same_place front folder
is_in_last folder place front name is =
    ap (is_in folder) is ∙ ap (λ b. b && same_place (parent_of (front ++ name ∷ [])) folder) (nonempty front) ∙ ap (λ p. same_place p folder) (parent_of-last front name)
  where
    nonempty : (front : NameList) → is_nonempty (front ++ name ∷ []) ≡ true
    nonempty [] = refl
    nonempty (first ∷ rest) = refl
