-- Where a builder can add a node.
use Rattle.std.proofs.Common.{◌≡◌, ℕ, ◌<◌, ◌≤◌, List, [], ◌∷◌, ◌++◌, take, length, get_or, refl, sym, ◌∙◌, ap, inl, inr, Bool, true, false, arith}
use Rattle.std.specs.Prelude.{◌||◌, Option, Some, None, is_some}
use Rattle.std.specs.Borrow.{Bor}
use Rattle.std.specs.List.{list_any}
use Rattle.std.proofs.Math.Bool.{or-true}
use Rattle.std.proofs.lemmas.List.{take_all, get_or-map, length-map}
use Rattle.std.proofs.lemmas.List.Folds.{list_any-append, list_any_at}
use Rattle.sd_io.specs.Tree.{NameList, Tree, Node, node_at, is_directory_at}
use Rattle.sd_io.specs.Paths.{is_up, parent_of, parts_of}
use Rattle.mem_io.specs.MemTree.{IsFreePlace, HasNoFreePlace}
use Rattle.mem_io.proofs.place.ParentLemmas.{parent_of-last}
use Rattle.mem_io.proofs.path.TextLemmas.{texts, last_part}
use Rattle.mem_io.proofs.walk.NamedLemmas.{last_is_name}

-- a test that fails says that nothing is there
pub nothing : (found : Option Node) (test : Bool) → test ≡ is_some found → test ≡ false → found ≡ None
nothing None test is fails = refl
nothing (Some node) test is fails = cc

-- the parts of a path, the last taken off
module _ (tree : Tree) (path : List ℕ) (parts rest : List (Bor (List ℕ))) (name : Bor (List ℕ)) (are : texts parts ≡ parts_of path) (taken : parts ≡ rest ++ name ∷ []) where
  split : parts_of path ≡ texts rest ++ name.now ∷ []
  split = last_part path parts rest name are taken

  any_up : list_any is_up (parts_of path) ≡ (list_any is_up (texts rest) || (is_up name.now || false))
  any_up = ap (list_any is_up) split ∙ list_any-append is_up (texts rest) (name.now ∷ [])

  -- a part before the last is `..`
  pub up_before : (shown : List (Bor (List ℕ))) (i : ℕ) (d : Bor (List ℕ)) (test : Bool) → shown ≡ rest → i < length shown → test ≡ is_up (get_or shown i d).now → test ≡ true → HasNoFreePlace tree path
  up_before shown i d test shows within is up =
      let here : i < length rest = omega (arith, ap length shows) in
      let inside : i < length (texts rest) = omega (arith, length-map rest (λ (part : Bor (List ℕ)). part.now)) in
      let at : is_up (get_or (texts rest) i d.now) ≡ true = ap is_up (get_or-map (λ (part : Bor (List ℕ)). part.now) rest i d d.now here) ∙ ap (λ (ps : List (Bor (List ℕ))). is_up (get_or ps i d).now) (sym shows) ∙ sym is ∙ up in
      inr (inl (any_up ∙ ap (λ b. b || (is_up name.now || false)) (list_any_at is_up (texts rest) i d.now inside at)))

  -- the last is `..`
  pub up_last : (test : Bool) → test ≡ is_up name.now → test ≡ true → HasNoFreePlace tree path
  up_last test is up = inr (inl (any_up ∙ ap (λ b. list_any is_up (texts rest) || (b || false)) (sym is ∙ up) ∙ or-true (list_any is_up (texts rest))))

  module _ (place : NameList) (shown : List (Bor (List ℕ))) (i : ℕ) (names : place ≡ texts (take i shown)) (shows : shown ≡ rest) (done : length shown ≤ i) where
    folder : place ≡ texts rest
    folder = names ∙ ap texts (take_all i shown done ∙ shows)

    pub no_directory : (test : Bool) → test ≡ is_directory_at tree place → test ≡ false → HasNoFreePlace tree path
    no_directory test is none = inr (inr (inl (ap (is_directory_at tree) (ap parent_of split ∙ parent_of-last (texts rest) name.now ∙ sym folder) ∙ sym is ∙ none)))

    module _ (new : NameList) (goes : new ≡ place ++ name.now ∷ []) where
      named_new : parts_of path ≡ new
      named_new = split ∙ ap (λ (f : NameList). f ++ name.now ∷ []) (sym folder) ∙ sym goes

      pub stands_there : (found : Option Node) (test : Bool) → node_at tree new ≡ found → test ≡ is_some found → test ≡ true → HasNoFreePlace tree path
      stands_there found test there is some = inr (inr (inr (ap (λ p. is_some (node_at tree p)) named_new ∙ ap is_some there ∙ sym is ∙ some)))

      pub is_free : (up directory : Bool) → list_any is_up place ≡ false → up ≡ is_up name.now → up ≡ false → directory ≡ is_directory_at tree place → directory ≡ true → node_at tree new ≡ None
          → IsFreePlace tree path new
      is_free up directory no_up is down asked in_directory free = record {
        names = named_new;
        no_up = ap (list_any is_up) goes ∙ list_any-append is_up place (name.now ∷ []) ∙ ap (λ b. b || (is_up name.now || false)) no_up ∙ ap (λ b. b || false) (sym is ∙ down);
        is_place = record {
          folder = place;
          name = name.now;
          place_is = goes;
          is_name = last_is_name path (texts rest) name.now split (sym is ∙ down);
          in_directory = sym asked ∙ in_directory;
        };
        free = free;
      }
