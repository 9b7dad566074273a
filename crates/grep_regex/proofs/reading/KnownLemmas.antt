-- Names that are known, and one name more.
use Rattle.std.proofs.Common.{◌≡◌, ◌<◌, ℕ, ◌+◌, Bool, true, false, not, cond, List, [], ◌∷◌, ◌++◌, length, map, take, drop, get_or, refl, sym, ap, ◌∙◌, Some, inl, inr, subst, true≢false}
use Rattle.std.specs.List.{list_any, slice_get}
use Rattle.std.specs.declared.cmp.Ordering.{Ordering}
use Rattle.std.specs.Ordering.{nat_cmp}
use Rattle.std.specs.Cmp.Lexicographic.{slice_cmp}
use Rattle.std.specs.BTreeMap.{is_at}
use Rattle.std.specs.BTreeSet.{BTreeSet, contains}
use Rattle.std.proofs.lemmas.List.{append-nil, append_assoc, map-append, take-append-drop, take_more}
use Rattle.std.proofs.lemmas.Grind.{flat_map-append}
use Rattle.std.proofs.lemmas.Option.{get_or_from_slice_get, slice_get_within}
use Rattle.hir_tree.specs.Tree.{Tree, tree_of}
use Rattle.hir_tree.specs.declared.hir.Hir.{Hir}
use Rattle.pattern_core.specs.Answers.{IsAmong, HasOneTwice}
use Rattle.pattern_core.proofs.NameLemmas.{known_more, twice_on, twice_back}
use Rattle.grep_regex.specs.Options.{names_in}
use Rattle.grep_regex.specs.ReadSoFar.{AreKnown, names_in_all}
use Rattle.grep_regex.specs.declared.names.Named.{Named}
use Rattle.grep_regex.proofs.reading.ReadLemmas.{twice_left}

abbrev order : List ℕ → List ℕ → Ordering
order = slice_cmp nat_cmp

not_true : (b : Bool) → true ≡ not b → b ≡ false
not_true true e = absurd (true≢false e)
not_true false e = refl

not_false : (b : Bool) → false ≡ not b → b ≡ true
not_false true e = refl
not_false false e = absurd (true≢false (sym e))

-- no name is known
pub none_known : (set : BTreeSet (List ℕ)) → set.keys ≡ [] → AreKnown set []
none_known set none = record {
  known = λ name. (λ known. absurd (true≢false (sym known ∙ ap (list_any (is_at (order name))) none)), λ among. absurd among);
  single = λ twice. absurd twice;
}

module _ (old : BTreeSet (List ℕ)) (names : List (List ℕ)) (are : AreKnown old names) (key : List ℕ) where
  -- it is new
  pub key_added : (new : BTreeSet (List ℕ)) → true ≡ not (contains order old key) → ((q : List ℕ) → contains order new q ≡ cond (is_at (order key) q) true (contains order old q))
      → AreKnown new (names ++ key ∷ [])
  key_added new is updates =
      let unknown : contains order old key ≡ false = not_true (contains order old key) is in
      record {
        known = known_more old new key names are.known updates;
        single = λ twice. elim (twice_on key names twice) [
          | inl one ↦ are.single one
          | inr among ↦ absurd (true≢false (sym ((are.known key).1 among) ∙ unknown))
        ];
      }

  -- it is known already
  pub key_stands : (more : List (List ℕ)) → false ≡ not (contains order old key) → HasOneTwice (names ++ key ∷ more)
  key_stands more is =
      let among : IsAmong key names = (are.known key).0 (not_false (contains order old key) is) in
      subst HasOneTwice (append_assoc names (key ∷ []) more) (twice_left (names ++ key ∷ []) more (twice_back key names (inr among)))

-- ---- lists, an element at a place

module _ {X : Type 0} where
  pub apart_at : (all : List X) (i : ℕ) (x : X) → i < length all → get_or all i x ≡ x → take i all ++ x ∷ drop (i + 1) all ≡ all
  apart_at all i x h is =
      let first : take (i + 1) all ≡ take i all ++ x ∷ [] = take_more all i x h ∙ ap (λ x. take i all ++ x ∷ []) is in
      sym (append_assoc (take i all) (x ∷ []) (drop (i + 1) all)) ∙ ap (λ xs. xs ++ drop (i + 1) all) (sym first) ∙ take-append-drop (i + 1) all

  module _ (f : X → List ℕ) (before : List (List ℕ)) where
    pub names_pushed : (xs : List X) (x : X) → (before ++ map f xs) ++ f x ∷ [] ≡ before ++ map f (xs ++ x ∷ [])
    names_pushed xs x = append_assoc before (map f xs) (f x ∷ []) ∙ ap (λ ns. before ++ ns) (sym (map-append f xs (x ∷ [])))

    pub names_apart : (all xs : List X) (x : X) → xs ≡ take (length xs) all → length xs < length all → x ≡ get_or all (length xs) x
        → (before ++ map f xs) ++ f x ∷ map f (drop (length xs + 1) all) ≡ before ++ map f all
    names_apart all xs x taken h is =
        let n = length xs in
        let split : xs ++ x ∷ drop (n + 1) all ≡ all = ap (λ ys. ys ++ x ∷ drop (n + 1) all) taken ∙ apart_at all n x h (sym is) in
        append_assoc before (map f xs) (f x ∷ map f (drop (n + 1) all))
        ∙ ap (λ ns. before ++ ns) (sym (map-append f xs (x ∷ drop (n + 1) all)))
        ∙ ap (λ ys. before ++ map f ys) split

-- ---- the names in trees

first_names : (names : List Named) → map (λ (named : Named). named.name) names ≡ map (λ (pair : List ℕ × ℕ). pair.0) (map (λ (named : Named). (named.name, named.group)) names)
first_names [] = refl
first_names (named ∷ names) = ap (λ ns. named.name ∷ ns) (first_names names)

-- the names in a tree, from the list of them with their groups
pub names_only : (names : List Named) (tree : Tree) → map (λ (named : Named). (named.name, named.group)) names ≡ names_in tree
    → map (λ (named : Named). named.name) names ≡ map (λ (pair : List ℕ × ℕ). pair.0) (names_in tree)
names_only names tree is = first_names names ∙ ap (map (λ (pair : List ℕ × ℕ). pair.0)) is

all_append : (xs ys : List Hir) → names_in_all (map tree_of (xs ++ ys)) ≡ names_in_all (map tree_of xs) ++ names_in_all (map tree_of ys)
all_append xs ys = ap names_in_all (map-append tree_of xs ys) ∙ flat_map-append _ (map tree_of xs) (map tree_of ys)

-- the names of the trees before a place, of the tree there and of those behind it
pub all_apart : (hirs : List Hir) (i : ℕ) (hir : Hir) → i < length hirs → get_or hirs i hir ≡ hir
    → names_in_all (map tree_of (take i hirs)) ++ (map (λ (pair : List ℕ × ℕ). pair.0) (names_in (tree_of hir)) ++ names_in_all (map tree_of (drop (i + 1) hirs))) ≡ names_in_all (map tree_of hirs)
all_apart hirs i hir h is = sym (all_append (take i hirs) (hir ∷ drop (i + 1) hirs)) ∙ ap (λ xs. names_in_all (map tree_of xs)) (apart_at hirs i hir h is)

-- the names of one tree more
pub all_pushed : (hirs : List Hir) (i : ℕ) (hir : Hir) → i < length hirs → get_or hirs i hir ≡ hir
    → names_in_all (map tree_of (take i hirs)) ++ map (λ (pair : List ℕ × ℕ). pair.0) (names_in (tree_of hir)) ≡ names_in_all (map tree_of (take (i + 1) hirs))
all_pushed hirs i hir h is =
    ap (λ ns. names_in_all (map tree_of (take i hirs)) ++ ns) (sym (append-nil _))
    ∙ sym (all_append (take i hirs) (hir ∷ []))
    ∙ ap (λ xs. names_in_all (map tree_of xs)) (sym (take_more hirs i hir h ∙ ap (λ x. take i hirs ++ x ∷ []) is))

-- ---- patterns, one more

pub one_taken : (xs : List (List ℕ)) (i : ℕ) (x : List ℕ) → slice_get xs i ≡ Some x → take (i + 1) xs ≡ take i xs ++ x ∷ []
one_taken xs i x is = take_more xs i x (slice_get_within xs i x is) ∙ ap (λ x. take i xs ++ x ∷ []) (get_or_from_slice_get xs i x x is)

pub taken_apart : (xs : List (List ℕ)) (i : ℕ) (x : List ℕ) → slice_get xs i ≡ Some x → take i xs ++ x ∷ drop (i + 1) xs ≡ xs
taken_apart xs i x is = apart_at xs i x (slice_get_within xs i x is) (get_or_from_slice_get xs i x x is)
