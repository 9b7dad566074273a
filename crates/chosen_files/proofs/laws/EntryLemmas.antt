-- The entries of a directory in order.
use Rattle.std.proofs.Common.{◌≡◌, ◌+◌, ◌<◌, List, [], ◌∷◌, map, length, get_or, refl, inl, inr, sym, ap, ◌∙◌, subst, Bool, true, false, true≢false, ◌||◌, arith, Ordering, Less, Equal, Greater, is_lt, is_eq, IsPermutation}
use Rattle.std.specs.List.{AllByRecursion, IsDistinct, list_any}
use Rattle.std.specs.List.Sorted.{IsSortedByKey, IsStrictlySortedBy}
use Rattle.std.specs.Ordering.{eq_by_cmp, ordering_reverse}
use Rattle.std.specs.Str.{bytes_eq}
use Rattle.std.specs.Cmp.{eq_by_cmp_equiv}
use Rattle.std.specs.Cmp.Lexicographic.{bytes_decides}
use Rattle.std.proofs.lemmas.List.{get_or-map, length-map}
use Rattle.std.proofs.lemmas.List.Sorted.{IsPermutation-map}
use Rattle.std.proofs.lemmas.Map.Keys.{IsDistinct-IsPermutation, apart_from_distinct, sorted_from_all_adjacent}
use Rattle.sd_io.specs.Tree.{Name, NameList, Tree, name_cmp}
use Rattle.sd_io.specs.Lists.{Tells, TellAll}
use Rattle.sd_io.specs.declared.meta.Kind.TheVariants as kind
use Rattle.sd_io.specs.declared.meta.RawEntry.{RawEntry}
use Rattle.chosen_files.proofs.laws.PlaceLemmas.{In, name_total}

-- ---- names in order

-- what is not after another, and not the same, is before it
less_of : (a b : Name) → is_lt (name_cmp b a) ≡ false → eq_by_cmp name_cmp a b ≡ false → name_cmp a b ≡ Less
less_of a b not_less apart = by (name_cmp a b) refl
  where
    by : (o : Ordering) → name_cmp a b ≡ o → name_cmp a b ≡ Less
    by Less is = is
    by Equal is = absurd (true≢false (sym (ap is_eq is) ∙ apart))
    by Greater is = absurd (true≢false (sym (ap is_lt (name_total.antisymm b a ∙ ap ordering_reverse is)) ∙ not_less))

abbrev pub names_of : List RawEntry → List Name
names_of entries = map (λ entry. entry.name) entries

any_entry : RawEntry
any_entry = record { name = []; kind = kind.Other; ino = 0 }

-- names in order, each once
pub strictly_sorted : (listed in_order : List RawEntry) → IsPermutation listed in_order → IsDistinct (eq_by_cmp name_cmp) (names_of listed) → IsSortedByKey (λ entry. entry.name) name_cmp in_order
    → IsStrictlySortedBy name_cmp (names_of in_order)
strictly_sorted listed in_order same once up =
    let names = names_of in_order in
    let once' = IsDistinct-IsPermutation (eq_by_cmp name_cmp) (λ x y. (eq_by_cmp_equiv name_total).symm x y) (names_of listed) names (IsPermutation-map (λ entry. entry.name) listed in_order same) once in
    sorted_from_all_adjacent name_total names [] (λ k lt.
    let next : k + 1 < length in_order = omega (arith, length-map in_order (λ (entry : RawEntry). entry.name)) in
    let here : k < length in_order = omega arith in
    less_of (get_or names k []) (get_or names (k + 1) [])
    (rw (get_or-map (λ (entry : RawEntry). entry.name) in_order k any_entry [] here, get_or-map (λ (entry : RawEntry). entry.name) in_order (k + 1) any_entry [] next) (up k any_entry (omega arith) next))
    (apart_from_distinct (eq_by_cmp name_cmp) names k (k + 1) [] once' (omega arith) lt))

-- the entries of a list of names have these names
pub told_names : (tree : Tree) (folder : NameList) (names : List Name) (entries : List RawEntry) → TellAll tree folder names entries → names_of entries ≡ names
told_names tree folder [] [] told = refl
told_names tree folder [] (entry ∷ entries) told = absurd told
told_names tree folder (name ∷ names) [] told = absurd told
told_names tree folder (name ∷ names) (entry ∷ entries) told = λ i. told.0.name_is i ∷ told_names tree folder names entries told.1 i

-- and each tells of its own
pub each_told : (tree : Tree) (folder : NameList) (names : List Name) (entries : List RawEntry) → TellAll tree folder names entries → AllByRecursion (λ entry. Tells tree folder entry.name entry) entries
each_told tree folder [] [] told = tt
each_told tree folder [] (entry ∷ entries) told = absurd told
each_told tree folder (name ∷ names) [] told = absurd told
each_told tree folder (name ∷ names) (entry ∷ entries) told =
    (subst (λ (n : Name). Tells tree folder n entry) (sym told.0.name_is) told.0, each_told tree folder names entries told.1)

-- a name that passes as one of a list is in it
pub in_from_any : (name : Name) (names : List Name) → list_any (bytes_eq name) names ≡ true → In name names
in_from_any name [] any = cc
in_from_any name (first ∷ names) any = by (bytes_eq name first) refl any (λ more. in_from_any name names more)
  where
    by : (b : Bool) → bytes_eq name first ≡ b → (b || list_any (bytes_eq name) names) ≡ true → (list_any (bytes_eq name) names ≡ true → In name names) → In name (first ∷ names)
    by true e any rest = inl (sym ((bytes_decides name first).0 e))
    by false e any rest = inr (rest any)
