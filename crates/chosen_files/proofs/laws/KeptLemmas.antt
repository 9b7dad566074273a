-- What is kept and seen, and names with a last one.
use Rattle.std.proofs.Common.{◌≡◌, ◌≢◌, ℕ, List, [], ◌∷◌, ◌++◌, map, refl, sym, ◌∙◌, ap, subst, arith, true, false}
use Rattle.std.proofs.lemmas.List.{append_cancel_left}
use Rattle.std.specs.Prelude.{All}
use Rattle.std.proofs.lemmas.List.Elements.{All-from_recursion, recursion_from_All}
use Rattle.sd_io.specs.Tree.{Name, NameList, Tree, name_list_cmp, node_at}
use Rattle.sd_ignore.specs.declared.rule.Rule.{Rule}
use Rattle.sd_ignore.proofs.AboveLemmas.{below_ignored}
use Rattle.sd_ignore.proofs.SayLemmas.{none_ignored}
use Rattle.chosen_files.specs.Below.{IsBelow, HasFewerBelow, HasManyBelow}
use Rattle.chosen_files.specs.Chosen.{IsChosen, IsListOf, ListsChosen, path_from}
use Rattle.chosen_files.proofs.laws.ChosenLemmas.{one_list_of, no_longer}
use Rattle.chosen_files.proofs.laws.ContentLemmas.{file_stands}
use Rattle.chosen_files.proofs.laws.PlaceLemmas.{all_from_in, in_from_contains, in_from_all, place_total}
use Rattle.chosen_files.specs.Kept.{IsKept, Kept, ListsKept}
use Rattle.chosen_files.specs.Seen.{IsSeen, HasFewerSeen, HasManySeen}

-- ---- names with a last one

pub not_empty : (folder : NameList) (name : Name) → folder ++ name ∷ [] ≢ []
not_empty [] name e = cc
not_empty (first ∷ folder) name e = cc

pub record HasLast (names : NameList) : Type 0 where
  pub folder : NameList
  pub name : Name
  pub names_are : names ≡ folder ++ name ∷ []

pub last_of : (names : NameList) → names ≢ [] → HasLast names
last_of [] some = absurd (some refl)
last_of (first ∷ []) some = record { folder = []; name = first; names_are = refl }
last_of (first ∷ next ∷ names) some =
    let rest = last_of (next ∷ names) (λ e. cc) in
    record { folder = first ∷ rest.folder; name = rest.name; names_are = ap (λ (more : NameList). first ∷ more) rest.names_are }

-- ---- one list

same_names : (top : NameList) (xs ys : List NameList) → map (λ below. top ++ below) xs ≡ map (λ below. top ++ below) ys → xs ≡ ys
same_names top [] [] e = refl
same_names top [] (y ∷ ys) e = cc
same_names top (x ∷ xs) [] e = cc
same_names top (x ∷ xs) (y ∷ ys) e =
    let first = append_cancel_left top x y (cc e) in
    let rest = same_names top xs ys (cc e) in
    λ i. first i ∷ rest i

pub one_list : (tree : Tree) (root : List ℕ) (globs : List (List ℕ)) (rules : List Rule) (xs ys : List (List ℕ)) → ListsKept tree root globs rules xs → ListsKept tree root globs rules ys → xs ≡ ys
one_list tree root globs rules xs ys h k =
    let top : k.top ≡ h.top = cc (h.leads, k.leads) in
    let same = one_list_of _ h.places k.places h.kept (subst (λ (t : NameList). Kept tree t globs rules k.places) top k.kept) in
    let below : map (λ below. h.top ++ below) h.names ≡ map (λ below. h.top ++ below) k.names =
    sym h.places_are ∙ same ∙ k.places_are ∙ ap (λ (t : NameList). map (λ below. t ++ below) k.names) top in
    h.paths_are ∙ ap (map (path_from root)) (same_names h.top h.names k.names below) ∙ sym k.paths_are

-- ---- no rules

pub all_kept : (tree : Tree) (top : NameList) (globs : List (List ℕ)) (place : NameList) → IsChosen tree top globs place → IsKept tree top globs [] place
all_kept tree top globs place chosen = record { chosen = chosen; not_ignored = none_ignored chosen.names false }

pub kept_paths : (tree : Tree) (root : List ℕ) (globs : List (List ℕ)) (paths : List (List ℕ)) → ListsKept tree root globs [] paths → ListsChosen tree root globs paths
kept_paths tree root globs paths l = record {
  top = l.top;
  leads = l.leads;
  places = l.places;
  chosen = record {
    in_order = l.kept.in_order;
    these = λ place. ((λ c. ((l.kept.these place).0 c).chosen), λ chosen. (l.kept.these place).1 (all_kept tree l.top globs place chosen));
  };
  names = l.names;
  places_are = l.places_are;
  paths_are = l.paths_are;
}

pub chosen_paths : (tree : Tree) (root : List ℕ) (globs : List (List ℕ)) (paths : List (List ℕ)) → ListsChosen tree root globs paths → ListsKept tree root globs [] paths
chosen_paths tree root globs paths l = record {
  top = l.top;
  leads = l.leads;
  places = l.places;
  kept = record {
    in_order = l.chosen.in_order;
    these = λ place. ((λ c. all_kept tree l.top globs place ((l.chosen.these place).0 c)), λ kept. (l.chosen.these place).1 kept.chosen);
  };
  names = l.names;
  places_are = l.places_are;
  paths_are = l.paths_are;
}

pub seen_below : (tree : Tree) (top : NameList) (rules : List Rule) (place : NameList) → IsSeen tree top rules place → IsBelow tree top place
seen_below tree top rules place seen = (seen.folder ++ seen.name ∷ [], seen.place_is, not_empty seen.folder seen.name, seen.stands)

pub below_seen : (tree : Tree) (top place : NameList) → IsBelow tree top place → IsSeen tree top [] place
below_seen tree top place (names, below, proper, stands) =
    let last = last_of names proper in
    record {
      folder = last.folder;
      name = last.name;
      place_is = below ∙ ap (λ (more : NameList). top ++ more) last.names_are;
      stands = stands;
      entered = λ some. none_ignored last.folder true;
    }

list_as : (P Q : NameList → Type 0) (places : List NameList) → ((q : NameList) → P q → Q q) → ((q : NameList) → Q q → P q) → IsListOf P places → IsListOf Q places
list_as P Q places to from l = record { in_order = l.in_order; these = λ q. ((λ c. to q ((l.these q).0 c)), λ h. (l.these q).1 (from q h)) }

pub fewer_below : (cap : ℕ) (tree : Tree) (root : List ℕ) → HasFewerSeen cap tree root [] → HasFewerBelow cap tree root
fewer_below cap tree root (places, all, few) = (
  places,
  record { top = all.top; leads = all.leads; are_all = list_as (IsSeen tree all.top []) (IsBelow tree all.top) places (seen_below tree all.top []) (below_seen tree all.top) all.are_all },
  few,
)

pub fewer_seen_below : (cap : ℕ) (tree : Tree) (root : List ℕ) → HasFewerBelow cap tree root → HasFewerSeen cap tree root []
fewer_seen_below cap tree root (places, all, few) = (
  places,
  record { top = all.top; leads = all.leads; are_all = list_as (IsBelow tree all.top) (IsSeen tree all.top []) places (below_seen tree all.top) (seen_below tree all.top []) all.are_all },
  few,
)

all_as : (P Q : NameList → Type 0) (places : List NameList) → ((q : NameList) → P q → Q q) → All P places → All Q places
all_as P Q places to all =
    All-from_recursion Q places (all_from_in Q places (λ q i. to q (in_from_all P places (recursion_from_All P places all) q i)))

pub many_below : (cap : ℕ) (tree : Tree) (root : List ℕ) → HasManySeen cap tree root [] → HasManyBelow cap tree root
many_below cap tree root (places, finds, many) = (
  places,
  record { top = finds.top; leads = finds.leads; in_order = finds.in_order; each = all_as (IsSeen tree finds.top []) (IsBelow tree finds.top) places (seen_below tree finds.top []) finds.each },
  many,
)

pub many_seen_below : (cap : ℕ) (tree : Tree) (root : List ℕ) → HasManyBelow cap tree root → HasManySeen cap tree root []
many_seen_below cap tree root (places, finds, many) = (
  places,
  record { top = finds.top; leads = finds.leads; in_order = finds.in_order; each = all_as (IsBelow tree finds.top) (IsSeen tree finds.top []) places (below_seen tree finds.top) finds.each },
  many,
)

-- ---- what is kept is seen

pub kept_seen : (tree : Tree) (top : NameList) (globs : List (List ℕ)) (rules : List Rule) (place : NameList) → IsKept tree top globs rules place → IsSeen tree top rules place
kept_seen tree top globs rules place kept =
    let chosen = kept.chosen in
    let last = last_of chosen.names chosen.proper in
    let (byte, bytes, mode, e) = chosen.is_file in
    record {
      folder = last.folder;
      name = last.name;
      place_is = chosen.below ∙ ap (λ (more : NameList). top ++ more) last.names_are;
      stands = file_stands (node_at tree place) (byte ∷ bytes, mode) e;
      entered = λ some ignored. kept.not_ignored (below_ignored rules last.folder chosen.names false
          (record { rest = last.name ∷ []; names_are = last.names_are; nonempty = some; shorter = λ none. cc }) ignored);
    }

-- ---- numbers

pub fewer_seen_not_many : (cap : ℕ) (tree : Tree) (root : List ℕ) (rules : List Rule) → HasFewerSeen cap tree root rules → HasManySeen cap tree root rules → ⊥
fewer_seen_not_many cap tree root rules (places, all, few) (found, finds, many) =
    let top : finds.top ≡ all.top = cc (finds.leads, all.leads) in
    let longer = no_longer name_list_cmp place_total found places finds.in_order all.are_all.in_order
    (λ z i. in_from_contains places z ((all.are_all.these z).1 (subst (λ (t : NameList). IsSeen tree t rules z) top
    (in_from_all (IsSeen tree finds.top rules) found (recursion_from_All (IsSeen tree finds.top rules) found finds.each) z i)))) in
    omega (arith, longer, few, many)
