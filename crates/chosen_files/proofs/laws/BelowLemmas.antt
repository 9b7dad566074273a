-- The path that a walk joins for what stands below a place is the text of its place.
use Rattle.std.proofs.Common.{rules, ◌≡◌, ◌≢◌, ◌-◌, ℕ, suc, Bool, true, false, cond, List, [], ◌∷◌, ◌++◌, length, refl, sym, ◌∙◌, ap, subst, inl, inr, arith, append_assoc}
use Rattle.std.specs.Prelude.{IsSome, nat_eq, ◌&&◌}
use Rattle.std.specs.List.{AllByRecursion, ends_with, join_with_byte}
use Rattle.std.proofs.lemmas.List.{append_cancel_left}
use Rattle.sd_io.specs.Tree.{NameList, Name, Tree, IsTree, IsName, node_at}
use Rattle.sd_io.specs.Files.{path_text}
use Rattle.sd_io.proofs.PathTextLemmas.{names_of, text_below}
use Rattle.walk_rest.specs.Plan.{path_below}
use Rattle.chosen_files.proofs.laws.PlaceLemmas.{In, contains_from_in}

-- ---- texts that end with `/`

abbrev pub ends : List ℕ → Bool
ends xs = ends_with nat_eq xs (47 ∷ [])

ends_cons : (x y : ℕ) (ys : List ℕ) → ends (x ∷ y ∷ ys) ≡ ends (y ∷ ys)
ends_cons x y ys = let e : length (x ∷ y ∷ ys) - 1 ≡ suc (length (y ∷ ys) - 1) = omega arith in rw e refl

ends_append : (xs : List ℕ) (y : ℕ) (ys : List ℕ) → ends (xs ++ y ∷ ys) ≡ ends (y ∷ ys)
ends_append [] y ys = refl
ends_append (x ∷ []) y ys = ends_cons x y ys
ends_append (x ∷ z ∷ xs) y ys = ends_cons x z (xs ++ y ∷ ys) ∙ ends_append (z ∷ xs) y ys

same_of : (a b : ℕ) → nat_eq a b ≡ true → a ≡ b
same_of a b e = search rules

ends_one : (x : ℕ) → (47 ≡ x → ⊥) → ends (x ∷ []) ≡ false
ends_one x apart = by (nat_eq 47 x) refl
  where
    by : (b : Bool) → nat_eq 47 x ≡ b → ends (x ∷ []) ≡ false
    by true e = absurd (apart (same_of 47 x e))
    by false e = ap (λ b. b && true) e

ends_name : (x : ℕ) (xs : List ℕ) → (In 47 (x ∷ xs) → ⊥) → ends (x ∷ xs) ≡ false
ends_name x [] none = ends_one x (λ e. none (inl (sym e)))
ends_name x (y ∷ ys) none = ends_cons x y ys ∙ ends_name y ys (λ i. none (inr i))

-- a text that isn't empty and doesn't end with `/`
pub record IsPlain (text : List ℕ) : Type 0 where
  pub first : ℕ
  pub more : List ℕ
  pub text_is : text ≡ first ∷ more
  pub plain : ends text ≡ false

pub name_plain : (name : Name) → IsName name → IsPlain name
name_plain [] real = absurd (real.nonempty refl)
name_plain (x ∷ xs) real = record { first = x; more = xs; text_is = refl; plain = ends_name x xs (λ i. real.no_slash (contains_from_in (x ∷ xs) 47 i)) }

pub plain_after : (front text : List ℕ) → IsPlain text → IsPlain (front ++ text)
plain_after front text p = record {
  first = (begins front).0;
  more = (begins front).1;
  text_is = ap (λ t. front ++ t) p.text_is ∙ (begins front).2;
  plain = ap (λ t. ends (front ++ t)) p.text_is ∙ (ends_append front p.first p.more ∙ (ap ends (sym p.text_is) ∙ p.plain));
}
  where
    begins : (xs : List ℕ) → (y : ℕ) × (ys : List ℕ) × (xs ++ p.first ∷ p.more ≡ y ∷ ys)
    begins [] = (p.first, p.more, refl)
    begins (x ∷ xs) = (x, xs ++ p.first ∷ p.more, refl)

join_plain : (name : Name) (names : NameList) → AllByRecursion IsName (name ∷ names) → IsPlain (join_with_byte 47 (name ∷ names))
join_plain name [] real = name_plain name real.0
join_plain name (next ∷ names) real =
    let rest = join_plain next names real.1 in
    let P : List ℕ → Type 0 = IsPlain in
    subst P (append_assoc name (47 ∷ []) (join_with_byte 47 (next ∷ names))) (plain_after (name ++ 47 ∷ []) (join_with_byte 47 (next ∷ names)) rest)

-- ---- paths below a place

-- the path of names below a place
pub below_place : (tree : Tree) (place names : NameList) → IsTree tree → IsSome (node_at tree place) → names ≢ []
    → path_below (path_text place) (join_with_byte 47 names) ≡ path_text (place ++ names)
below_place tree [] names is stands some = refl
below_place tree (first ∷ rest) names is stands some =
    let folder = path_text (first ∷ rest) in
    let text = join_with_byte 47 names in
    let plain = (plain_after (47 ∷ []) (join_with_byte 47 (first ∷ rest)) (join_plain first rest (names_of tree is (first ∷ rest) stands))).plain in
    ap (λ b. cond b (folder ++ text) ((folder ++ 47 ∷ []) ++ text)) plain
    ∙ append_assoc folder (47 ∷ []) text
    ∙ sym (text_below (first ∷ rest) names (λ e. cc) some)

-- paths below a folder differ where the names do
pub same_below : (folder a b : List ℕ) → path_below folder a ≡ path_below folder b → a ≡ b
same_below folder a b same = by (ends folder) same
  where
    by : (slash : Bool) → cond slash (folder ++ a) ((folder ++ 47 ∷ []) ++ a) ≡ cond slash (folder ++ b) ((folder ++ 47 ∷ []) ++ b) → a ≡ b
    by true e = append_cancel_left folder a b e
    by false e = append_cancel_left (folder ++ 47 ∷ []) a b e
