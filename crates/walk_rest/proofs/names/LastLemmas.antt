-- The last part of a path.
use Rattle.std.proofs.Common.{◌≡◌, ℕ, Bool, true, false, cond, not, List, [], ◌∷◌, ◌++◌, take, drop, Option, Some, None, refl, sym, ◌∙◌, ap, map, get_or, lit<}
use Rattle.std.specs.Prelude.{◌==◌, All, option_map}
use Rattle.std.specs.Str.{NoCharPasses}
use Rattle.std.proofs.lemmas.Bool.{eqb-true}
use Rattle.std.proofs.lemmas.List.{get_or_default, take-append-drop}
use Rattle.std.proofs.lemmas.List.Splits.{slice_split_none}
use Rattle.std.proofs.lemmas.Str.Pattern.{NoCharPasses-char}
use Rattle.std.specs.Option.{option_and_then, option_map_or}
use Rattle.std.specs.List.{last_or}
use Rattle.sd_io.specs.Tree.{Name}
use Rattle.sd_io.specs.Paths.{parts_of, pieces_of, kept, is_dropped, folder_and_name, is_up}
use Rattle.walk_rest.proofs.laws.NameLemmas.{is_slash, split_append, kept_append}

pub last_map : {A B : Type 0} (f : A → B) (o : Option A) (xs : List A) → option_map f (last_or o xs) ≡ last_or (option_map f o) (map f xs)
last_map f o [] = refl
last_map f o (x ∷ xs) = last_map f (Some x) xs

-- the name is the last part, unless that is `..`
name_by : (path : List ℕ) (part : Name) (parts : List Name) → option_map_or (λ (p : List Name × Name). p.1) (folder_and_name (part ∷ parts)) path ≡ option_map_or (λ (last : Name). cond (is_up last) path last) (last_or (Some part) parts) path
name_by path part [] = by (is_up part)
  where
    by : (b : Bool) → option_map_or (λ (p : List Name × Name). p.1) (cond b None (Some ([], part))) path ≡ cond b path part
    by true = refl
    by false = refl
name_by path part (next ∷ more) = by (folder_and_name (next ∷ more)) ∙ name_by path next more
  where
    by : (o : Option (List Name × Name)) → option_map_or (λ (p : List Name × Name). p.1) (option_and_then (λ (p : List Name × Name). Some (part ∷ p.0, p.1)) o) path ≡ option_map_or (λ (p : List Name × Name). p.1) o path
    by None = refl
    by (Some p) = refl

pub name_is : (path : List ℕ) (parts : List Name) → option_map_or (λ (p : List Name × Name). p.1) (folder_and_name parts) path ≡ option_map_or (λ (last : Name). cond (is_up last) path last) (last_or None parts) path
name_is path [] = refl
name_is path (part ∷ parts) = name_by path part parts

-- ---- behind the last slash

last_snoc : {A : Type 0} (o : Option A) (xs : List A) (x : A) → last_or o (xs ++ x ∷ []) ≡ Some x
last_snoc o [] x = refl
last_snoc o (y ∷ xs) x = last_snoc (Some y) xs x

no_slashes : (back : List ℕ) → NoCharPasses (λ b. b == 47) back → All (λ b. is_slash b ≡ false) back
no_slashes back lacks k d lt = by (get_or back k d == 47) refl
  where
    by : (b : Bool) → (get_or back k d == 47) ≡ b → is_slash (get_or back k d) ≡ false
    by true e = absurd (NoCharPasses-char 47 back k lacks (lit< tt) lt (get_or_default back k 0 d lt ∙ eqb-true (get_or back k d) 47 e))
    by false e = e

pub last_behind : (path back : List ℕ) (i : ℕ) → drop i path ≡ 47 ∷ back → NoCharPasses (λ b. b == 47) back → is_dropped back ≡ false → last_or None (parts_of path) ≡ Some back
unfolding parts_of
last_behind path back i slash lacks stays =
    let front = take i path in
    let whole : path ≡ front ++ 47 ∷ back = sym (take-append-drop i path) ∙ ap (λ xs. front ++ xs) slash in
    let split : pieces_of path ≡ pieces_of front ++ back ∷ [] = ap pieces_of whole ∙ split_append front back (slice_split_none is_slash back (no_slashes back lacks)) in
    let parts : kept (pieces_of path) ≡ kept (pieces_of front) ++ back ∷ [] =
    ap kept split ∙ (kept_append (pieces_of front) (back ∷ []) ∙ ap (λ b. kept (pieces_of front) ++ cond (not b) (back ∷ []) []) stays) in
    ap (last_or None) parts ∙ last_snoc None (kept (pieces_of front)) back
