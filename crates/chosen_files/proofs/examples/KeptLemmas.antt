-- What is kept and seen of the examples' tree.
use Rattle.std.proofs.Common.{◌≡◌, ◌≢◌, ◌<◌, ℕ, true, false, List, [], ◌∷◌, ◌++◌, map, Some, None, refl, sym, ◌∙◌, ap, subst, inl, inr, arith}
use Rattle.std.specs.Prelude.{codes, IsSome, is_some}
use Rattle.std.specs.List.{AllByRecursion, join_with_byte}
use Rattle.std.specs.List.Sorted.{IsStrictlySortedBy}
use Rattle.std.specs.FinMap.{find}
use Rattle.std.proofs.lemmas.List.Elements.{All-from_recursion}
use Rattle.sd_io.specs.Tree.{Name, NameList, Tree, directory, name_list_cmp, node_at, file_at, file_node, is_directory_at, is_directory_node}
use Rattle.sd_io.specs.Paths.{parts_of, reached}
use Rattle.walk_rest.specs.Examples.{tree_with}
use Rattle.sd_ignore.specs.Ignored.{IsIgnored}
use Rattle.sd_ignore.specs.declared.rule.Rule.{Rule}
use Rattle.sd_ignore.proofs.IgnoredLemmas.{build_said, a_ignored, k_kept, b_kept, x_ignored}
use Rattle.sd_ignore.proofs.SayLemmas.{none_ignored}
use Rattle.glob_match.specs.Takes.{Fits}
use Rattle.chosen_files.specs.Chosen.{IsListOf}
use Rattle.chosen_files.specs.Globs.{FitsAny}
use Rattle.chosen_files.proofs.laws.ChosenLemmas.{one_list_of}
use Rattle.chosen_files.proofs.laws.ContentLemmas.{file_stands}
use Rattle.chosen_files.proofs.examples.GlobLemmas.{fits_one}
use Rattle.chosen_files.proofs.laws.PlaceLemmas.{In, in_from_contains, contains_from_in, all_from_in}
use Rattle.chosen_files.proofs.examples.StandsLemmas.{node_is, stands_at_key, leads_to}
use Rattle.chosen_files.specs.Examples.{in_p, p_nodes, p_rules}
use Rattle.chosen_files.specs.Kept.{IsKept, Kept}
use Rattle.chosen_files.specs.Seen.{IsSeen, ListsSeen, FindsSeen}
use Rattle.chosen_files.proofs.laws.KeptLemmas.{not_empty}

abbrev pub small : Tree
small = tree_with p_nodes

abbrev pub globs : List (List ℕ)
globs = codes "**" ∷ []

-- ---- places

abbrev a : NameList
a = codes "a.log" ∷ []

abbrev b : NameList
b = codes "b.txt" ∷ []

abbrev build : NameList
build = codes "build" ∷ []

abbrev x : NameList
x = codes "build" ∷ codes "x.txt" ∷ []

abbrev k : NameList
k = codes "k.log" ∷ []

stands_there : (place : NameList) → IsSome (find name_list_cmp place p_nodes) → IsSome (node_at small place)
stands_there place some = ap is_some (node_is p_nodes place) ∙ some

top_there : is_directory_at small [] ≡ true
top_there = ap is_directory_node (node_is p_nodes [])

pub to_p : reached small (codes "/p") true ≡ Some (in_p [])
unfolding parts_of
to_p = leads_to small top_there (codes "/p") (codes "p") refl refl refl directory 0 2 (node_is p_nodes (in_p [])) (λ target e. cc)

-- ---- kept files

kept_one : (names : NameList) → names ≢ [] → file_node (find name_list_cmp (in_p names) p_nodes) ≡ Some (codes "one", 416) → FitsAny globs (join_with_byte 47 names)
    → (IsIgnored p_rules names false → ⊥) → IsKept small (in_p []) globs p_rules (in_p names)
kept_one names some file fits kept = record {
  chosen = record { names = names; below = refl; proper = some; is_file = (111, codes "ne", 416, ap file_node (node_is p_nodes (in_p names)) ∙ file); fits = fits };
  not_ignored = kept;
}

stars_fit : (text : List ℕ) → AllByRecursion (λ c. c < 128) text → Fits (codes "**") text → FitsAny globs text
stars_fit text low fits = fits_one (codes "**") text (omega arith, (omega arith, tt)) low fits

b_is_kept : IsKept small (in_p []) globs p_rules (in_p b)
b_is_kept =
    kept_one b (λ e. cc) refl
    (stars_fit (codes "b.txt") (omega arith, (omega arith, (omega arith, (omega arith, (omega arith, tt))))) (5, (omega arith, omega arith), refl)) b_kept

k_is_kept : IsKept small (in_p []) globs p_rules (in_p k)
k_is_kept =
    kept_one k (λ e. cc) refl
    (stars_fit (codes "k.log") (omega arith, (omega arith, (omega arith, (omega arith, (omega arith, tt))))) (5, (omega arith, omega arith), refl)) k_kept

abbrev kept_places : List NameList
kept_places = in_p b ∷ in_p k ∷ []

is_kept : (place : NameList) → In place kept_places → IsKept small (in_p []) globs p_rules place
is_kept place (inl e) = subst (λ (q : NameList). IsKept small (in_p []) globs p_rules q) e b_is_kept
is_kept place (inr (inl e)) = subst (λ (q : NameList). IsKept small (in_p []) globs p_rules q) e k_is_kept
is_kept place (inr (inr none)) = absurd none

-- the names of a place in `p`
same_rest : (names more : NameList) → in_p names ≡ in_p [] ++ more → more ≡ names
same_rest names more e = cc

no_file : file_node (find name_list_cmp (in_p build) p_nodes) ≡ None
no_file = refl

none_kept : (place names : NameList) → in_p names ≡ place → IsIgnored p_rules names false → IsKept small (in_p []) globs p_rules place → ⊥
none_kept place names e ignored kept =
    kept.not_ignored (subst (λ (n : NameList). IsIgnored p_rules n false) (sym (same_rest names kept.chosen.names (e ∙ kept.chosen.below))) ignored)

all_kept : (place : NameList) → IsKept small (in_p []) globs p_rules place → In place kept_places
all_kept place kept = by (stands_at_key p_nodes place stands)
  where
    stands : IsSome (node_at small place)
    stands = let (byte, bytes, mode, e) = kept.chosen.is_file in file_stands (node_at small place) (byte ∷ bytes, mode) e

    in_build : in_p build ≡ place → ⊥
    in_build e =
        let (byte, bytes, mode, file) = kept.chosen.is_file in
        let none : file_at small place ≡ None = ap (λ (q : NameList). file_at small q) (sym e) ∙ ap file_node (node_is p_nodes (in_p build)) ∙ no_file in
        cc (none, file)

    by : In place (map (λ e. e.0) p_nodes) → In place kept_places
    by (inl top) = let below = kept.chosen.below in absurd (cc (top, below))
    by (inr (inl e)) = absurd (kept.chosen.proper (same_rest [] kept.chosen.names (e ∙ kept.chosen.below)))
    by (inr (inr (inl e))) = absurd (none_kept place a e a_ignored kept)
    by (inr (inr (inr (inl e)))) = inl e
    by (inr (inr (inr (inr (inl e))))) = absurd (in_build e)
    by (inr (inr (inr (inr (inr (inl e)))))) = absurd (none_kept place x e x_ignored kept)
    by (inr (inr (inr (inr (inr (inr (inl e))))))) = inr (inl e)
    by (inr (inr (inr (inr (inr (inr (inr none))))))) = absurd none

pub p_kept : Kept small (in_p []) globs p_rules kept_places
unfolding IsStrictlySortedBy
p_kept = record {
  in_order = ((refl, tt), (tt, tt));
  these = λ place. ((λ c. is_kept place (in_from_contains kept_places place c)), λ kept. contains_from_in kept_places place (all_kept place kept));
}

-- ---- what is seen

seen_one : (rules : List Rule) (folder : NameList) (name : Name) → IsSome (find name_list_cmp (in_p (folder ++ name ∷ [])) p_nodes) → (folder ≢ [] → IsIgnored rules folder true → ⊥)
    → IsSeen small (in_p []) rules (in_p (folder ++ name ∷ []))
seen_one rules folder name some entered =
    record { folder = folder; name = name; place_is = refl; stands = stands_there (in_p (folder ++ name ∷ [])) some; entered = entered }

in_top : (rules : List Rule) (folder : NameList) → folder ≡ [] → folder ≢ [] → IsIgnored rules folder true → ⊥
in_top rules folder none some = absurd (some none)

abbrev pub seen_places : List NameList
seen_places = in_p a ∷ in_p b ∷ in_p build ∷ in_p k ∷ []

is_seen : (place : NameList) → In place seen_places → IsSeen small (in_p []) p_rules place
is_seen place (inl e) = subst (λ (q : NameList). IsSeen small (in_p []) p_rules q) e (seen_one p_rules [] (codes "a.log") refl (in_top p_rules [] refl))
is_seen place (inr (inl e)) = subst (λ (q : NameList). IsSeen small (in_p []) p_rules q) e (seen_one p_rules [] (codes "b.txt") refl (in_top p_rules [] refl))
is_seen place (inr (inr (inl e))) = subst (λ (q : NameList). IsSeen small (in_p []) p_rules q) e (seen_one p_rules [] (codes "build") refl (in_top p_rules [] refl))
is_seen place (inr (inr (inr (inl e)))) = subst (λ (q : NameList). IsSeen small (in_p []) p_rules q) e (seen_one p_rules [] (codes "k.log") refl (in_top p_rules [] refl))
is_seen place (inr (inr (inr (inr none)))) = absurd none

-- of two names the first is the folder
folder_of_two : (folder : NameList) (name first second : Name) → folder ++ name ∷ [] ≡ first ∷ second ∷ [] → folder ≡ first ∷ []
folder_of_two [] name first second e = cc
folder_of_two (one ∷ []) name first second e = cc
folder_of_two (one ∷ next ∷ folder) name first second e = absurd (not_empty folder name (cc e))

all_seen : (place : NameList) → IsSeen small (in_p []) p_rules place → In place seen_places
all_seen place seen = by (stands_at_key p_nodes place seen.stands)
  where
    in_folder : in_p x ≡ place → ⊥
    in_folder e =
        let folder = folder_of_two seen.folder seen.name (codes "build") (codes "x.txt") (same_rest x (seen.folder ++ seen.name ∷ []) (e ∙ seen.place_is)) in
        seen.entered (λ none. cc (none, folder)) (subst (λ (names : NameList). IsIgnored p_rules names true) (sym folder) (inl build_said))

    by : In place (map (λ e. e.0) p_nodes) → In place seen_places
    by (inl top) = let below = seen.place_is in absurd (cc (top, below))
    by (inr (inl e)) = absurd (not_empty seen.folder seen.name (same_rest [] (seen.folder ++ seen.name ∷ []) (e ∙ seen.place_is)))
    by (inr (inr (inl e))) = inl e
    by (inr (inr (inr (inl e)))) = inr (inl e)
    by (inr (inr (inr (inr (inl e))))) = inr (inr (inl e))
    by (inr (inr (inr (inr (inr (inl e)))))) = absurd (in_folder e)
    by (inr (inr (inr (inr (inr (inr (inl e))))))) = inr (inr (inr (inl e)))
    by (inr (inr (inr (inr (inr (inr (inr none))))))) = absurd none

seen_up : IsStrictlySortedBy name_list_cmp seen_places
unfolding IsStrictlySortedBy
seen_up = ((refl, (refl, (refl, tt))), ((refl, (refl, tt)), ((refl, tt), (tt, tt))))

all_listed : IsListOf (IsSeen small (in_p []) p_rules) seen_places
all_listed = record {
  in_order = seen_up;
  these = λ place. ((λ c. is_seen place (in_from_contains seen_places place c)), λ seen. contains_from_in seen_places place (all_seen place seen));
}

pub p_seen : ListsSeen small (codes "/p") p_rules seen_places
p_seen = record { top = in_p []; leads = to_p; are_all = all_listed }

pub p_finds : FindsSeen small (codes "/p") p_rules seen_places
p_finds = record {
  top = in_p [];
  leads = to_p;
  in_order = seen_up;
  each = All-from_recursion (IsSeen small (in_p []) p_rules) seen_places (all_from_in (IsSeen small (in_p []) p_rules) seen_places is_seen);
}

-- one list is seen
pub seen_once : (places : List NameList) → ListsSeen small (codes "/p") p_rules places → places ≡ seen_places
seen_once places lists =
    let top : lists.top ≡ in_p [] = let leads = lists.leads in let to = to_p in cc (leads, to) in
    one_list_of _ places seen_places (subst (λ (t : NameList). IsListOf (IsSeen small t p_rules) places) top lists.are_all) all_listed

-- without rules five are
abbrev pub all_places : List NameList
all_places = in_p a ∷ in_p b ∷ in_p build ∷ in_p x ∷ in_p k ∷ []

unruled : (place : NameList) → In place all_places → IsSeen small (in_p []) [] place
unruled place (inl e) = subst (λ (q : NameList). IsSeen small (in_p []) [] q) e (seen_one [] [] (codes "a.log") refl (in_top [] [] refl))
unruled place (inr (inl e)) = subst (λ (q : NameList). IsSeen small (in_p []) [] q) e (seen_one [] [] (codes "b.txt") refl (in_top [] [] refl))
unruled place (inr (inr (inl e))) = subst (λ (q : NameList). IsSeen small (in_p []) [] q) e (seen_one [] [] (codes "build") refl (in_top [] [] refl))
unruled place (inr (inr (inr (inl e)))) =
    subst (λ (q : NameList). IsSeen small (in_p []) [] q) e (seen_one [] build (codes "x.txt") refl (λ some. none_ignored build true))
unruled place (inr (inr (inr (inr (inl e))))) = subst (λ (q : NameList). IsSeen small (in_p []) [] q) e (seen_one [] [] (codes "k.log") refl (in_top [] [] refl))
unruled place (inr (inr (inr (inr (inr none))))) = absurd none

pub p_finds_all : FindsSeen small (codes "/p") [] all_places
unfolding IsStrictlySortedBy
p_finds_all = record {
  top = in_p [];
  leads = to_p;
  in_order = ((refl, (refl, (refl, (refl, tt)))), ((refl, (refl, (refl, tt))), ((refl, (refl, tt)), ((refl, tt), (tt, tt)))));
  each = All-from_recursion (IsSeen small (in_p []) []) all_places (all_from_in (IsSeen small (in_p []) []) all_places unruled);
}
