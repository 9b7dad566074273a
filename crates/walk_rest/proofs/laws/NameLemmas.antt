-- The file name of an entry is its name in its folder.
use Rattle.std.proofs.Common.{rules, ◌≡◌, ◌-◌, ℕ, suc, Bool, true, false, cond, List, [], ◌∷◌, ◌++◌, length, Some, None, refl, sym, ◌∙◌, ap, arith, append_assoc, get_or, eqb}
use Rattle.std.specs.Prelude.{nat_eq, not, ◌||◌, ◌&&◌, ◌==◌, All}
use Rattle.std.specs.Option.{option_and_then, option_map_or}
use Rattle.std.specs.List.{slice_split, onto_first, ends_with}
use Rattle.std.specs.Str.{bytes_eq}
use Rattle.std.proofs.lemmas.Bool.{eqb-true}
use Rattle.std.proofs.lemmas.List.{get_or_default}
use Rattle.std.proofs.lemmas.List.Splits.{slice_split_none}
use Rattle.sd_io.specs.Tree.{Name, IsName, name_cmp}
use Rattle.sd_io.specs.Paths.{parts_of, pieces_of, kept, is_dropped, is_up, folder_and_name}
use Rattle.sd_io.specs.declared.meta.RawEntry.{RawEntry}
use Rattle.sd_io.proofs.PathTextLemmas.{differs}
use Rattle.walk_rest.specs.declared.level.Folder.{Folder}
use Rattle.walk_rest.specs.Plan.{path_below, entry_below}
use Rattle.walk_rest.specs.Names.{file_name, by_file_name}

abbrev pub is_slash : ℕ → Bool
is_slash b = b == 47

no_slashes : (name : Name) → IsName name → All (λ b. is_slash b ≡ false) name
no_slashes name is k d lt = by (eqb (get_or name k d) 47) refl
  where
    by : (b : Bool) → eqb (get_or name k d) 47 ≡ b → eqb (get_or name k d) 47 ≡ false
    by true e = absurd (is.no_slash (k, lt, get_or_default name k 47 d lt ∙ eqb-true (get_or name k d) 47 e))
    by false e = e

-- a split has a first part
split_some : (xs : List ℕ) → (a : List ℕ) × (rest : List (List ℕ)) × (slice_split is_slash xs ≡ a ∷ rest)
split_some [] = ([], [], refl)
split_some (x ∷ xs) = by (split_some xs) (is_slash x)
  where
    by : (a : List ℕ) × (rest : List (List ℕ)) × (slice_split is_slash xs ≡ a ∷ rest) → (b : Bool)
        → (a : List ℕ) × (rest : List (List ℕ)) × (cond b ([] ∷ slice_split is_slash xs) (onto_first x (slice_split is_slash xs)) ≡ a ∷ rest)
    by r true = ([], slice_split is_slash xs, refl)
    by r false = (x ∷ r.0, r.1, ap (onto_first x) r.2)

pub split_append : (xs name : List ℕ) → slice_split is_slash name ≡ name ∷ [] → slice_split is_slash (xs ++ 47 ∷ name) ≡ slice_split is_slash xs ++ name ∷ []
split_append [] name h = ap (λ r. [] ∷ r) h
split_append (x ∷ xs) name h = by (split_append xs name h) (split_some xs) (is_slash x)
  where
    by : slice_split is_slash (xs ++ 47 ∷ name) ≡ slice_split is_slash xs ++ name ∷ [] → (a : List ℕ) × (rest : List (List ℕ)) × (slice_split is_slash xs ≡ a ∷ rest) → (b : Bool)
        → cond b ([] ∷ slice_split is_slash (xs ++ 47 ∷ name)) (onto_first x (slice_split is_slash (xs ++ 47 ∷ name))) ≡ cond b ([] ∷ slice_split is_slash xs) (onto_first x (slice_split is_slash xs)) ++ name ∷ []
    by r s true = ap (λ z. [] ∷ z) r
    by r s false = ap (onto_first x) r ∙ (ap (λ z. onto_first x (z ++ name ∷ [])) s.2 ∙ sym (ap (λ z. onto_first x z ++ name ∷ []) s.2))

pub kept_append : (xs ys : List (List ℕ)) → kept (xs ++ ys) ≡ kept xs ++ kept ys
kept_append [] ys = refl
kept_append (x ∷ xs) ys = by (kept_append xs ys) (not (is_dropped x))
  where
    by : kept (xs ++ ys) ≡ kept xs ++ kept ys → (b : Bool) → cond b (x ∷ kept (xs ++ ys)) (kept (xs ++ ys)) ≡ cond b (x ∷ kept xs) (kept xs) ++ kept ys
    by r true = ap (λ z. x ∷ z) r
    by r false = r

kept_name : (name : Name) → IsName name → kept (name ∷ []) ≡ name ∷ []
kept_name name is =
    let dropped : is_dropped name ≡ false = ap (λ b. b || bytes_eq name (46 ∷ [])) (differs name [] is.nonempty) ∙ differs name (46 ∷ []) is.not_dot in
    ap (λ b. cond (not b) (name ∷ []) []) dropped

parts_append : (front : List ℕ) (name : Name) → IsName name → parts_of (front ++ 47 ∷ name) ≡ parts_of front ++ name ∷ []
unfolding parts_of
parts_append front name is =
    ap kept (split_append front name (slice_split_none is_slash name (no_slashes name is)))
    ∙ (kept_append (pieces_of front) (name ∷ []) ∙ ap (λ z. kept (pieces_of front) ++ z) (kept_name name is))

last_part : (xs : List Name) (name : Name) → is_up name ≡ false → folder_and_name (xs ++ name ∷ []) ≡ Some (xs, name)
last_part [] name up = ap (λ b. cond b None (Some ([], name))) up
last_part (x ∷ []) name up = ap (option_and_then (λ (p : List Name × Name). Some (x ∷ p.0, p.1))) (last_part [] name up)
last_part (x ∷ y ∷ xs) name up = ap (option_and_then (λ (p : List Name × Name). Some (x ∷ p.0, p.1))) (last_part (y ∷ xs) name up)

-- ---- a folder's text and `/`

abbrev ends : List ℕ → Bool
ends xs = ends_with nat_eq xs (47 ∷ [])

ends_cons : (x y : ℕ) (ys : List ℕ) → ends (x ∷ y ∷ ys) ≡ ends (y ∷ ys)
ends_cons x y ys = let e : length (x ∷ y ∷ ys) - 1 ≡ suc (length (y ∷ ys) - 1) = omega arith in rw e refl

same_of : (a b : ℕ) → nat_eq a b ≡ true → a ≡ b
same_of a b e = search rules

and_left : (a : Bool) → (a && true) ≡ true → a ≡ true
and_left true e = refl
and_left false e = e

ends_front : (xs : List ℕ) → ends xs ≡ true → (front : List ℕ) × (xs ≡ front ++ 47 ∷ [])
ends_front [] e = absurd (cc e)
ends_front (x ∷ []) e = ([], λ i. sym (same_of 47 x (and_left (nat_eq 47 x) e)) i ∷ [])
ends_front (x ∷ y ∷ ys) e = let r = ends_front (y ∷ ys) (sym (ends_cons x y ys) ∙ e) in (x ∷ r.0, ap (λ z. x ∷ z) r.1)

below_slash : (folder name : List ℕ) → (front : List ℕ) × (path_below folder name ≡ front ++ 47 ∷ name)
below_slash folder name = by (ends folder) refl
  where
    by : (b : Bool) → ends folder ≡ b → (front : List ℕ) × (cond b (folder ++ name) ((folder ++ 47 ∷ []) ++ name) ≡ front ++ 47 ∷ name)
    by true e = let r = ends_front folder e in (r.0, ap (λ z. z ++ name) r.1 ∙ append_assoc r.0 (47 ∷ []) name)
    by false e = (folder, append_assoc folder (47 ∷ []) name)

pub file_name_below : (folder : List ℕ) (name : Name) → IsName name → file_name (path_below folder name) ≡ name
file_name_below folder name is =
    let r = below_slash folder name in
    let up : is_up name ≡ false = differs name (46 ∷ 46 ∷ []) is.not_dots in
    let parts : folder_and_name (parts_of (path_below folder name)) ≡ Some (parts_of r.0, name) = ap (λ p. folder_and_name (parts_of p)) r.1 ∙ (ap folder_and_name (parts_append r.0 name is) ∙ last_part (parts_of r.0) name up) in
    ap (λ o. option_map_or (λ (p : List Name × Name). p.1) o (path_below folder name)) parts

pub by_names : (folder : Folder) (a b : RawEntry) → IsName a.name → IsName b.name → by_file_name (entry_below folder a) (entry_below folder b) ≡ name_cmp a.name b.name
by_names folder a b p q = λ i. name_cmp (file_name_below folder.path a.name p i) (file_name_below folder.path b.name q i)
