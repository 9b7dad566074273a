-- Places that end in a name: where they lie, and their text.
use Rattle.std.proofs.Common.{◌≡◌, ℕ, zero, suc, ◌+◌, ◌<◌, ◌≤◌, List, [], ◌∷◌, ◌++◌, take, length, get_or, refl, sym, ◌∙◌, ap, Bool, true, false, cond, append_assoc, arith}
use Rattle.std.specs.Prelude.{Option, Some, None, ◌&&◌}
use Rattle.std.specs.List.{join_with_byte}
use Rattle.std.specs.Str.{bytes_eq}
use Rattle.std.specs.Cmp.Lexicographic.{pointwise, nat_list_eq_equiv}
use Rattle.std.proofs.lemmas.List.{take_more, length-take}
use Rattle.sd_io.specs.Tree.{Name, NameList}
use Rattle.sd_io.specs.Files.{path_text}
use Rattle.sd_io.specs.Lists.{name_below}
use Rattle.mem_io.specs.MemTrail.{begins_with}

-- ---- the name of a place in a folder

either : (b : Bool) (o : Option Name) → cond b o o ≡ o
either true o = refl
either false o = refl

nested : (a b : Bool) (o : Option Name) → cond a (cond b o None) None ≡ cond (a && b) o None
nested true b o = refl
nested false b o = refl

-- the top lies in no folder
pub name_below_top : (folder : NameList) → name_below folder [] ≡ None
name_below_top [] = refl
name_below_top (m ∷ folder) = refl

below_last : (folder front : NameList) (name : Name) → name_below folder (front ++ name ∷ []) ≡ cond (pointwise bytes_eq front folder) (Some name) None
below_last [] [] name = refl
below_last [] (n ∷ []) name = refl
below_last [] (n ∷ next ∷ front) name = refl
below_last (m ∷ folder) [] name = ap (λ o. cond (bytes_eq m name) o None) (name_below_top folder) ∙ either (bytes_eq m name) None
below_last (m ∷ folder) (n ∷ front) name =
    ap (λ o. cond (bytes_eq m n) o None) (below_last folder front name) ∙ nested (bytes_eq m n) (pointwise bytes_eq front folder) (Some name)
    ∙ ap (λ b. cond (b && pointwise bytes_eq front folder) (Some name) None) (nat_list_eq_equiv.symm m n)

-- a place lies in the folder of its other names, under its last name
pub name_below_last : (folder place front : NameList) (name : Name) (test : Bool) → place ≡ front ++ name ∷ [] → test ≡ pointwise bytes_eq front folder → name_below folder place ≡ cond test (Some name) None
name_below_last folder place front name test is tested = ap (name_below folder) is ∙ below_last folder front name ∙ ap (λ b. cond b (Some name) None) (sym tested)

-- ---- a place that begins with another

and_if : (a b : Bool) → (a && b) ≡ cond a b false
and_if true b = refl
and_if false b = refl

-- a place begins with another where its first names are those
pub starts_as : (place q : NameList) → pointwise bytes_eq place (take (length place) q) ≡ begins_with place q
starts_as [] q = refl
starts_as (name ∷ place) [] = refl
starts_as (name ∷ place) (other ∷ q) = ap (λ b. bytes_eq name other && b) (starts_as place q) ∙ and_if (bytes_eq name other) (begins_with place q)

-- ---- the text of a path

join_last : (first : Name) (names : NameList) (name : Name) → join_with_byte 47 ((first ∷ names) ++ name ∷ []) ≡ join_with_byte 47 (first ∷ names) ++ 47 ∷ name
join_last first [] name = refl
join_last first (next ∷ names) name = ap (λ text. first ++ 47 ∷ text) (join_last next names name) ∙ sym (append_assoc first (47 ∷ join_with_byte 47 (next ∷ names)) (47 ∷ name))

text_last : (names : NameList) (name : Name) → 0 < length names → path_text (names ++ name ∷ []) ≡ (path_text names ++ 47 ∷ []) ++ name
text_last [] name some = absurd (omega arith)
text_last (first ∷ names) name some = ap (λ text. 47 ∷ text) (join_last first names name ∙ sym (append_assoc (join_with_byte 47 (first ∷ names)) (47 ∷ []) name))

one_more : (names : NameList) (i : ℕ) (name : Name) → i < length names → name ≡ get_or names i name → take (i + 1) names ≡ take i names ++ name ∷ []
one_more names i name within is = take_more names i name within ∙ ap (λ n. take i names ++ n ∷ []) (sym is)

-- the first name comes right behind the first `/`
pub path_text_first : (names : NameList) (i : ℕ) (name before shown after : List ℕ) → before ≡ path_text (take i names) → after ≡ before ++ shown → shown ≡ name → i ≤ 0 → i < length names → name ≡ get_or names i name → after ≡ path_text (take (i + 1) names)
path_text_first names zero name before shown after was text same first within is = cc (ap path_text (one_more names 0 name within is))
path_text_first names (suc i) name before shown after was text same first within is = absurd (omega arith)

-- each next name comes behind a `/` of its own
pub path_text_next : (names : NameList) (i : ℕ) (name before between shown after : List ℕ) → before ≡ path_text (take i names) → between ≡ before ++ 47 ∷ [] → after ≡ between ++ shown → shown ≡ name → 0 < i → i < length names → name ≡ get_or names i name → after ≡ path_text (take (i + 1) names)
path_text_next names i name before between shown after was slash text same next within is =
    let step = ap path_text (one_more names i name within is) ∙ text_last (take i names) name (omega (arith, length-take i names)) in
    cc step
