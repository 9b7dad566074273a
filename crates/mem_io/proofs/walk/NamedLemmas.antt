-- Where a path leads, and what it names.
use Rattle.std.proofs.Common.{◌≡◌, ℕ, zero, suc, ◌<◌, List, [], ◌∷◌, ◌++◌, reverse, length, get_or, refl, sym, ◌∙◌, ap, Bool, true, false, cond, arith}
use Rattle.std.specs.Prelude.{◌==◌, ◌||◌, Option, Some, None, not, Contains}
use Rattle.std.specs.Borrow.{Bor}
use Rattle.std.specs.List.{All, onto_first}
use Rattle.std.specs.Option.{option_and_then}
use Rattle.std.proofs.lemmas.Bool.{eqb-false, false≢true}
use Rattle.std.proofs.lemmas.List.Elements.{All-nil, All-cons, All-head, All-tail, All-same, All-filter, All-contains, Contains-push, filter_passes}
use Rattle.std.proofs.lemmas.Slice.Eq.{bytes_eq-Decides}
use Rattle.sd_io.specs.Tree.{Name, NameList, Tree, IsName, is_directory_at}
use Rattle.sd_io.specs.Paths.{is_dropped, is_up, pieces_of, parts_of, folder_and_name, child_in, followed, links_most, reached, named}
use Rattle.mem_io.specs.MemTree.{IsPlaceIn}
use Rattle.mem_io.proofs.path.TextLemmas.{no_bytes, texts, turned_back, last_part}

-- ---- where a path leads

pub reached_none : (tree : Tree) (path : List ℕ) (follow_last test : Bool) → test ≡ (length path == 0) → test ≡ true → None ≡ reached tree path follow_last
unfolding reached
reached_none tree path follow_last test is none = sym (ap (λ b. cond b None (followed tree links_most follow_last [] (parts_of path))) (no_bytes path ∙ sym is ∙ none))

pub reached_by : (tree : Tree) (path : List ℕ) (follow_last test : Bool) (parts turned : List (Bor (List ℕ))) → test ≡ (length path == 0) → test ≡ false → texts parts ≡ parts_of path → turned ≡ reverse parts
    → followed tree links_most follow_last [] (reverse (texts turned)) ≡ reached tree path follow_last
unfolding reached
reached_by tree path follow_last test parts turned is some are back =
    ap (followed tree links_most follow_last []) (turned_back parts turned back ∙ are)
    ∙ sym (ap (λ b. cond b None (followed tree links_most follow_last [] (parts_of path))) (no_bytes path ∙ sym is ∙ some))

-- ---- the names of a path

abbrev HasNoSlash : List ℕ → Type 0
HasNoSlash piece = Contains piece 47 → ⊥

no_slash_none : HasNoSlash []
no_slash_none has = let within : has.0 < 0 = has.1 in omega arith

no_slash_more : (b : ℕ) (piece : List ℕ) → (b ≡ 47 → ⊥) → HasNoSlash piece → HasNoSlash (b ∷ piece)
no_slash_more b piece other rest has = at has.0 has.1 has.2
  where
    at : (k : ℕ) → k < length (b ∷ piece) → get_or (b ∷ piece) k 47 ≡ 47 → ⊥
    at zero within is = other is
    at (suc k) within is = rest (k, omega arith, is)

no_slash_onto : (b : ℕ) (pieces : List (List ℕ)) → (b ≡ 47 → ⊥) → All HasNoSlash pieces → All HasNoSlash (onto_first b pieces)
no_slash_onto b [] other all = All-cons HasNoSlash (b ∷ []) [] (no_slash_more b [] other no_slash_none) (All-nil HasNoSlash)
no_slash_onto b (piece ∷ pieces) other all = All-cons HasNoSlash (b ∷ piece) pieces (no_slash_more b piece other (All-head HasNoSlash piece pieces all)) (All-tail HasNoSlash piece pieces all)

-- no piece of a path holds a `/`
no_slash : (path : List ℕ) → All HasNoSlash (pieces_of path)
no_slash [] = All-cons HasNoSlash [] [] no_slash_none (All-nil HasNoSlash)
no_slash (b ∷ path) = by (b == 47) refl (no_slash path)
  where
    by : (t : Bool) → (b == 47) ≡ t → All HasNoSlash (pieces_of path) → All HasNoSlash (cond t ([] ∷ pieces_of path) (onto_first b (pieces_of path)))
    by true is all = All-cons HasNoSlash [] (pieces_of path) no_slash_none all
    by false is all = no_slash_onto b (pieces_of path) (eqb-false b 47 is) all

abbrev IsKept : List ℕ → Type 0
IsKept part = not (is_dropped part) ≡ true

-- a part that is kept is neither empty nor `.`
kept_part : (a b : Bool) → not (a || b) ≡ true → (a ≡ false) × (b ≡ false)
kept_part true b is = cc
kept_part false true is = cc
kept_part false false is = (refl, refl)

-- the last part of a path is a name, unless it is `..`
pub last_is_name : (path : List ℕ) (front : List Name) (name : Name) → parts_of path ≡ front ++ name ∷ [] → is_up name ≡ false → IsName name
unfolding parts_of
last_is_name path front name is down =
    let passes : All IsKept (front ++ name ∷ []) = All-same IsKept _ _ (sym is) (filter_passes (λ part. not (is_dropped part)) (pieces_of path)) in
    let plain : All HasNoSlash (front ++ name ∷ []) = All-same HasNoSlash _ _ (sym is) (All-filter (λ part. not (is_dropped part)) HasNoSlash (pieces_of path) (no_slash path)) in
    let stays = kept_part _ _ (All-contains IsKept (front ++ name ∷ []) name passes (Contains-push front name)) in
    record {
      nonempty = λ e. false≢true (sym stays.0 ∙ (bytes_eq-Decides name []).1 e);
      no_slash = All-contains HasNoSlash (front ++ name ∷ []) name plain (Contains-push front name);
      not_dot = λ e. false≢true (sym stays.1 ∙ (bytes_eq-Decides name (46 ∷ [])).1 e);
      not_dots = λ e. false≢true (sym down ∙ (bytes_eq-Decides name (46 ∷ 46 ∷ [])).1 e);
    }

-- ---- what a path names

abbrev under : Name → List Name × Name → Option (List Name × Name)
under part split = Some (part ∷ split.0, split.1)

taken_under : (b : Bool) (part : Name) (split : List Name × Name) → option_and_then (under part) (cond b None (Some split)) ≡ cond b None (under part split)
taken_under true part split = refl
taken_under false part split = refl

split_last : (front : List Name) (name : Name) → folder_and_name (front ++ name ∷ []) ≡ cond (is_up name) None (Some (front, name))
split_last [] name = refl
split_last (part ∷ []) name = taken_under (is_up name) part ([], name)
split_last (part ∷ next ∷ front) name = ap (option_and_then (under part)) (split_last (next ∷ front) name) ∙ taken_under (is_up name) part (next ∷ front, name)

abbrev child_of : Tree → List Name × Name → Option NameList
child_of tree split = option_and_then (child_in tree split.1) (followed tree links_most true [] split.0)

named_as : (tree : Tree) (path : List ℕ) (parts : List Name) → parts_of path ≡ parts → named tree path ≡ option_and_then (child_of tree) (folder_and_name parts)
unfolding named
named_as tree path parts is = ap (λ ps. option_and_then (child_of tree) (folder_and_name ps)) is

named_last : (tree : Tree) (path : List ℕ) (front : List Name) (name : Name) (up : Bool) → parts_of path ≡ front ++ name ∷ [] → is_up name ≡ up → named tree path ≡ option_and_then (child_of tree) (cond up None (Some (front, name)))
named_last tree path front name up is test = named_as tree path (front ++ name ∷ []) is ∙ ap (option_and_then (child_of tree)) (split_last front name ∙ ap (λ b. cond b None (Some (front, name))) test)

-- a path without parts names nothing
pub names_none : (tree : Tree) (path : List ℕ) (parts : List (Bor (List ℕ))) → texts parts ≡ parts_of path → parts ≡ [] → None ≡ named tree path
names_none tree path parts are none = sym (named_as tree path [] (sym are ∙ ap texts none))

module _ (tree : Tree) (path : List ℕ) (parts rest : List (Bor (List ℕ))) (name : Bor (List ℕ)) (up : Bool)
    (are : texts parts ≡ parts_of path) (taken : parts ≡ rest ++ name ∷ []) (test : up ≡ is_up name.now) where
  split : parts_of path ≡ texts rest ++ name.now ∷ []
  split = last_part path parts rest name are taken

  -- a path that ends in `..` names nothing
  pub names_up : up ≡ true → None ≡ named tree path
  names_up is = sym (named_last tree path (texts rest) name.now true split (sym test ∙ is))

  module _ (down : up ≡ false) (turned : List (Bor (List ℕ))) (folder : Option NameList) (back : turned ≡ reverse rest) (leads : folder ≡ followed tree links_most true [] (reverse (texts turned))) where
    named_in : named tree path ≡ option_and_then (child_in tree name.now) folder
    named_in = named_last tree path (texts rest) name.now false split (sym test ∙ down)
        ∙ ap (option_and_then (child_in tree name.now)) (sym (leads ∙ ap (followed tree links_most true []) (turned_back rest turned back)))

    pub names_nowhere : folder ≡ None → None ≡ named tree path
    names_nowhere is = sym (named_in ∙ ap (option_and_then (child_in tree name.now)) is)

    module _ (place : NameList) (directory : Bool) (found : folder ≡ Some place) (asked : directory ≡ is_directory_at tree place) where
      named_child : (answer : Bool) → directory ≡ answer → named tree path ≡ cond answer (Some (place ++ name.now ∷ [])) None
      named_child answer is = named_in ∙ ap (option_and_then (child_in tree name.now)) found ∙ ap (λ b. cond b (Some (place ++ name.now ∷ [])) None) (sym asked ∙ is)

      pub names_in_none : directory ≡ false → None ≡ named tree path
      names_in_none is = sym (named_child false is)

      pub names_child : (new : NameList) → directory ≡ true → new ≡ place ++ name.now ∷ [] → Some new ≡ named tree path
      names_child new is goes = ap (λ p. Some p) goes ∙ sym (named_child true is)

      pub names_a_place : (new : NameList) → directory ≡ true → new ≡ place ++ name.now ∷ [] → IsPlaceIn tree new
      names_a_place new is goes = record {
        folder = place;
        name = name.now;
        place_is = goes;
        is_name = last_is_name path (texts rest) name.now split (sym test ∙ down);
        in_directory = sym asked ∙ is;
      }
