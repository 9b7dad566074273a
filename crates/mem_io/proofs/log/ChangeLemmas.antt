-- What changes keep: what stands at each place is one of its outcomes, and what may be left lies in directories.
use Rattle.std.proofs.Common.{◌≡◌, ◌≢◌, ◌⊎◌, ℕ, List, [], ◌∷◌, ◌++◌, map, refl, sym, ◌∙◌, ap, subst, Bool, true, false, cond, inl, inr}
use Rattle.std.specs.Prelude.{Option, Some, None, IsSome, not, ◌||◌, ◌&&◌}
use Rattle.std.specs.List.{list_any}
use Rattle.sd_io.specs.Tree.{Name, NameList, Content, directory, link, file, other, Node, Tree, SameBut, IsName, node_at, file_at, file_node, is_directory_at, is_directory_node}
use Rattle.mem_io.specs.MemTree.{IsPlaceIn, Adds, TakesAway, Moves, dev_at}
use Rattle.sd_io.specs.Paths.{parent_of}
use Rattle.sd_io.specs.Outcomes.{gone, any_file, Outcome, own, older, Outcomes, never_used, built, put, own_of, left_behind, is_in, settled, alone, after_create, after_write, after_sync, after_move, after_no_move, after_remove, after_folder_sync, content_of, content_at}
use Rattle.mem_io.specs.Log.{fits_test, is_left, is_tidy, has_other, has_devices, in_folder, at_first, new_top, IsKept}
use Rattle.sd_io.proofs.OutcomeLemmas.{put_there, put_elsewhere, own_append, own_behind, own_twice}
use Rattle.mem_io.proofs.tree.TreeLemmas.{same_or_other, same_ends, below_top, file_or_directory}
use Rattle.mem_io.proofs.log.OwnDeviceLemmas.{devices_more, devices_behind, devices_gone, devices_any, devices_built, devices_own, devices_alone, devices_settled}
use Rattle.mem_io.proofs.log.TestLemmas.{content_itself, any_last, left_more, any_file_last, settled_left_still, none_own, free_tidy_more, alone_told, alone_left, alone_tidy, alone_other, file_is, standing_other}

-- ---- directories stay

abbrev DirectoriesStay : Tree → Tree → Type 0
DirectoriesStay old new = (q : NameList) → is_directory_at old q ≡ true → is_directory_at new q ≡ true

-- where one place changes at which none stood
stay_but : (old new : Tree) (place : NameList) → SameBut place old new → (is_directory_at old place ≡ true → ⊥) → DirectoriesStay old new
stay_but old new place others none q is = elim (same_or_other q place) [
  | inl e ↦ absurd (none ((λ i. is_directory_at old (sym e i)) ∙ is))
  | inr n ↦ ap is_directory_node (others q n) ∙ is
]

-- nothing is no directory
free_no_directory : (o : Option Node) → o ≡ None → is_directory_node o ≡ true → ⊥
free_no_directory o free is = cc (ap is_directory_node free, is)

-- ---- where a place lies

-- the folder of a place is a directory, and its last name is a name
record LiesIn (tree : Tree) (place : NameList) : Type 0 where
  in_directory : (folder : NameList) (name : Name) → place ≡ folder ++ name ∷ [] → is_directory_at tree folder ≡ true
  is_name : (folder : NameList) (name : Name) → place ≡ folder ++ name ∷ [] → IsName name

place_lies : (tree : Tree) (place : NameList) → IsPlaceIn tree place → LiesIn tree place
place_lies tree place p = record {
  in_directory = λ folder name e. let same = same_ends p.folder folder p.name name (sym p.place_is ∙ e) in (λ i. is_directory_at tree (sym same.0 i)) ∙ p.in_directory;
  is_name = λ folder name e. let same = same_ends p.folder folder p.name name (sym p.place_is ∙ e) in subst IsName same.1 p.is_name;
}

-- so does one at which something may be left
left_lies : (tree : Tree) (outcomes : Outcomes) (place : NameList) → IsKept tree outcomes → has_other (outcomes place) ≡ true → LiesIn tree place
left_lies tree outcomes place kept e = record {
  in_directory = λ folder name is. kept.folders folder name ((λ i. has_other (outcomes (sym is i))) ∙ e);
  is_name = λ folder name is. kept.names folder name ((λ i. has_other (outcomes (sym is i))) ∙ e);
}

-- and one at which a file stands
file_other : (tree : Tree) (outcomes : Outcomes) (place : NameList) → IsKept tree outcomes → IsSome (file_at tree place) → has_other (outcomes place) ≡ true
file_other tree outcomes place kept is_file =
    let f = file_is (node_at tree place) is_file in
    standing_other (file f.0.0 f.0.1) (outcomes place) (ap (λ c. is_left c (outcomes place)) (sym f.1) ∙ kept.present place)

file_lies : (tree : Tree) (outcomes : Outcomes) (place : NameList) → IsKept tree outcomes → IsSome (file_at tree place) → LiesIn tree place
file_lies tree outcomes place kept is_file = left_lies tree outcomes place kept (file_other tree outcomes place kept is_file)

-- ---- one place changes

put_keeps : (old new : Tree) (place : NameList) (list : List Outcome) (outcomes : Outcomes) → SameBut place old new → DirectoriesStay old new → LiesIn old place
    → is_left (content_at new place) list ≡ true → is_tidy (content_at new place) list ≡ true → has_devices (node_at new place) list ≡ true → IsKept old outcomes → IsKept new (put place list outcomes)
put_keeps old new place list outcomes others stay lies left tidy devices kept = record {
  present = λ q. elim (same_or_other q place) [
    | inl here ↦ (λ i. is_left (content_at new (here i)) (put place list outcomes (here i))) ∙ ap (is_left (content_at new place)) (put_there place list outcomes) ∙ left
    | inr n ↦ (λ i. is_left (content_of (others q n i)) (put_elsewhere place list outcomes q n i)) ∙ kept.present q
  ];
  tidy = λ q. elim (same_or_other q place) [
    | inl here ↦ (λ i. is_tidy (content_at new (here i)) (put place list outcomes (here i))) ∙ ap (is_tidy (content_at new place)) (put_there place list outcomes) ∙ tidy
    | inr n ↦ (λ i. is_tidy (content_of (others q n i)) (put_elsewhere place list outcomes q n i)) ∙ kept.tidy q
  ];
  devices = λ q. elim (same_or_other q place) [
    | inl here ↦ (λ i. has_devices (node_at new (here i)) (put place list outcomes (here i))) ∙ ap (has_devices (node_at new place)) (put_there place list outcomes) ∙ devices
    | inr n ↦ (λ i. has_devices (others q n i) (put_elsewhere place list outcomes q n i)) ∙ kept.devices q
  ];
  folders = λ folder name e. elim (same_or_other (folder ++ name ∷ []) place) [
    | inl here ↦ stay folder (lies.in_directory folder name (sym here))
    | inr n ↦ stay folder (kept.folders folder name (ap has_other (sym (put_elsewhere place list outcomes (folder ++ name ∷ []) n)) ∙ e))
  ];
  names = λ folder name e. elim (same_or_other (folder ++ name ∷ []) place) [
    | inl here ↦ lies.is_name folder name (sym here)
    | inr n ↦ kept.names folder name (ap has_other (sym (put_elsewhere place list outcomes (folder ++ name ∷ []) n)) ∙ e)
  ];
}

-- ---- a file comes, is written, is on the medium, goes away

-- an empty file, or any other, is created at a free place
pub create_keeps : (old new : Tree) (place : NameList) (bytes : List ℕ) (mode ino : ℕ) (outcomes : Outcomes) → IsPlaceIn old place → node_at old place ≡ None → Adds old place (file bytes mode) ino new
    → IsKept old outcomes → IsKept new (after_create place outcomes)
create_keeps old new place bytes mode ino outcomes is_place free adds kept =
    let content : content_at new place ≡ Some (file bytes mode) = ap content_of adds.stands in
    let list = left_behind (outcomes place) ++ own any_file ∷ [] in
    put_keeps old new place list outcomes adds.others (stay_but old new place adds.others (free_no_directory (node_at old place) free)) (place_lies old place is_place)
    (ap (λ c. is_left c list) content ∙ any_file_last bytes mode (left_behind (outcomes place))) (ap (λ c. is_tidy c list) content)
    (devices_more (node_at new place) (left_behind (outcomes place)) (own any_file ∷ []) (devices_behind (node_at new place) (outcomes place)) (devices_any (node_at new place))) kept

-- a regular file stands there before and after
pub write_keeps : (old new : Tree) (place : NameList) (outcomes : Outcomes) → IsSome (file_at old place) → IsSome (file_at new place) → SameBut place old new
    → has_devices (node_at new place) (outcomes place) ≡ true → IsKept old outcomes → IsKept new (after_write place outcomes)
write_keeps old new place outcomes was is others devices kept =
    let f = file_is (node_at new place) is in
    let list = outcomes place ++ own any_file ∷ [] in
    put_keeps old new place list outcomes others (stay_but old new place others (file_or_directory (node_at old place) was)) (file_lies old outcomes place kept was)
    (ap (λ c. is_left c list) f.1 ∙ any_file_last f.0.0 f.0.1 (outcomes place)) (ap (λ c. is_tidy c list) f.1)
    (devices_more (node_at new place) (outcomes place) (own any_file ∷ []) devices (devices_any (node_at new place))) kept

-- the tree stays, and the node that stands there is on the medium
pub sync_keeps : (tree : Tree) (place : NameList) (node : Node) (outcomes : Outcomes) → node_at tree place ≡ Some node → IsSome (file_at tree place)
    → IsKept tree outcomes → IsKept tree (after_sync place node outcomes)
sync_keeps tree place node outcomes stands is_file kept =
    let f = file_is (node_at tree place) is_file in
    let list = map (settled node) (outcomes place) in
    put_keeps tree tree place list outcomes (λ q n. refl) (λ q is. is) (file_lies tree outcomes place kept is_file)
    (ap (λ o. is_left (content_of o) list) stands ∙ settled_left_still node (outcomes place) (ap (λ o. is_left (content_of o) (outcomes place)) (sym stands) ∙ kept.present place))
    (ap (λ c. is_tidy c list) f.1)
    (ap (λ o. has_devices o list) stands ∙ devices_settled node (outcomes place) (ap (λ o. has_devices o (outcomes place)) (sym stands) ∙ kept.devices place)) kept

pub remove_keeps : (old new : Tree) (place : NameList) (outcomes : Outcomes) → IsSome (file_at old place) → TakesAway old place new → IsKept old outcomes → IsKept new (after_remove place outcomes)
remove_keeps old new place outcomes was takes kept =
    let content : content_at new place ≡ None = ap content_of takes.gone in
    let list = left_behind (outcomes place) ++ older gone ∷ [] in
    put_keeps old new place list outcomes takes.others (stay_but old new place takes.others (file_or_directory (node_at old place) was)) (file_lies old outcomes place kept was)
    (ap (λ c. is_left c list) content ∙ any_last (λ outcome. fits_test None outcome.left) (left_behind (outcomes place)) (older gone) refl)
    (ap (λ c. is_tidy c list) content ∙ ap not (none_own (outcomes place))) (ap (λ o. has_devices o list) takes.gone) kept

-- ---- a node is built

pub build_keeps : (old new : Tree) (place : NameList) (content : Content) (ino : ℕ) (outcomes : Outcomes) → IsPlaceIn old place → node_at old place ≡ None → Adds old place content ino new
    → IsKept old outcomes → IsKept new (put place (built (record { content = content; dev = dev_at old (parent_of place); ino = ino })) outcomes)
build_keeps old new place content ino outcomes is_place free adds kept =
    let node : Node = record { content = content; dev = dev_at old (parent_of place); ino = ino } in
    let list = built node in
    let stands : content_at new place ≡ Some content = ap content_of adds.stands in
    put_keeps old new place list outcomes adds.others (stay_but old new place adds.others (free_no_directory (node_at old place) free)) (place_lies old place is_place)
    (ap (λ c. is_left c list) stands ∙ ap (λ b. b || false) (content_itself content))
    (ap (λ c. is_tidy c list) stands ∙ tidy content) (ap (λ o. has_devices o list) adds.stands ∙ devices_built node) kept
  where
    tidy : (c : Content) → is_tidy (Some c) (built (record { content = c; dev = dev_at old (parent_of place); ino = ino })) ≡ true
    tidy directory = refl
    tidy (link t) = ap (λ b. b && true) (content_itself (link t))
    tidy (file b m) = refl
    tidy other = refl

-- ---- a file goes from one place to another, or stays

-- nothing or a file stands where it comes
no_directory_there : (o : Option Node) → (o ≡ None) ⊎ IsSome (file_node o) → is_directory_node o ≡ true → ⊥
no_directory_there o may_come is = elim may_come [ inl free ↦ free_no_directory o free is | inr f ↦ file_or_directory o f is ]

pub move_keeps : (old new : Tree) (source target : NameList) (outcomes : Outcomes) → source ≢ target → IsSome (file_at old source) → IsPlaceIn old target
    → (node_at old target ≡ None) ⊎ IsSome (file_at old target) → Moves old source target new → IsKept old outcomes → IsKept new (after_move source target outcomes)
move_keeps old new source target outcomes two was is_place may_come m kept =
    let found = file_is (node_at old source) was in
    let f = file found.0.0 found.0.1 in
    let comes : content_at new target ≡ Some f = ap content_of m.moved ∙ found.1 in
    let gone_is : content_at new source ≡ None = ap content_of (m.gone two) in
    let goes = left_behind (outcomes source) ++ older gone ∷ [] in
    let arrives = left_behind (outcomes target) ++ own_of (outcomes source) in
    let here = put source goes outcomes in
    let own_there : own_of arrives ≡ own_of (outcomes source) =
    own_append (left_behind (outcomes target)) (own_of (outcomes source)) ∙ ap (λ os. os ++ own_of (own_of (outcomes source))) (own_behind (outcomes target)) ∙ own_twice (outcomes source) in
    let left_there : is_left (Some f) arrives ≡ true =
    ap (list_any (λ outcome. fits_test (Some f) outcome.left)) own_there ∙ ap (λ c. is_left c (outcomes source)) (sym found.1) ∙ kept.present source in
    let at_source : put target arrives here source ≡ goes = put_elsewhere target arrives here source two ∙ put_there source goes outcomes in
    let elsewhere : (q : NameList) → q ≢ source → q ≢ target → put target arrives here q ≡ outcomes q = λ q m n. put_elsewhere target arrives here q n ∙ put_elsewhere source goes outcomes q m in
    let stay : DirectoriesStay old new = λ q is. elim (same_or_other q target) [
      | inl e ↦ absurd (no_directory_there (node_at old target) may_come ((λ i. is_directory_at old (sym e i)) ∙ is))
      | inr n ↦ elim (same_or_other q source) [
        | inl e ↦ absurd (file_or_directory (node_at old source) was ((λ i. is_directory_at old (sym e i)) ∙ is))
        | inr s ↦ ap is_directory_node (m.others q s n) ∙ is
      ]
    ] in
    let lies : (q : NameList) → has_other (put target arrives here q) ≡ true → LiesIn old q = λ q h. elim (same_or_other q target) [
      | inl e ↦ subst (LiesIn old) (sym e) (place_lies old target is_place)
      | inr n ↦ elim (same_or_other q source) [
        | inl e ↦ subst (LiesIn old) (sym e) (file_lies old outcomes source kept was)
        | inr s ↦ left_lies old outcomes q kept (ap has_other (sym (elsewhere q s n)) ∙ h)
      ]
    ] in
    record {
      present = λ q. elim (same_or_other q target) [
        | inl e ↦ (λ i. is_left (content_at new (e i)) (put target arrives here (e i))) ∙ (λ i. is_left (comes i) (put_there target arrives here i)) ∙ left_there
        | inr n ↦ elim (same_or_other q source) [
          | inl e ↦ (λ i. is_left (content_at new (e i)) (put target arrives here (e i))) ∙ (λ i. is_left (gone_is i) (at_source i))
              ∙ any_last (λ outcome. fits_test None outcome.left) (left_behind (outcomes source)) (older gone) refl
          | inr s ↦ (λ i. is_left (content_of (m.others q s n i)) (elsewhere q s n i)) ∙ kept.present q
        ]
      ];
      tidy = λ q. elim (same_or_other q target) [
        | inl e ↦ (λ i. is_tidy (content_at new (e i)) (put target arrives here (e i))) ∙ (λ i. is_tidy (comes i) (put_there target arrives here i))
        | inr n ↦ elim (same_or_other q source) [
          | inl e ↦ (λ i. is_tidy (content_at new (e i)) (put target arrives here (e i))) ∙ (λ i. is_tidy (gone_is i) (at_source i)) ∙ ap not (none_own (outcomes source))
          | inr s ↦ (λ i. is_tidy (content_of (m.others q s n i)) (elsewhere q s n i)) ∙ kept.tidy q
        ]
      ];
      devices = λ q. elim (same_or_other q target) [
        | inl e ↦ (λ i. has_devices (node_at new (e i)) (put target arrives here (e i))) ∙ (λ i. has_devices (m.moved i) (put_there target arrives here i))
            ∙ devices_own (node_at old source) arrives (outcomes source) own_there ∙ kept.devices source
        | inr n ↦ elim (same_or_other q source) [
          | inl e ↦ (λ i. has_devices (node_at new (e i)) (put target arrives here (e i))) ∙ (λ i. has_devices (m.gone two i) (at_source i))
          | inr s ↦ (λ i. has_devices (m.others q s n i) (elsewhere q s n i)) ∙ kept.devices q
        ]
      ];
      folders = λ folder name h. stay folder ((lies (folder ++ name ∷ []) h).in_directory folder name refl);
      names = λ folder name h. (lies (folder ++ name ∷ []) h).is_name folder name refl;
    }

-- the tree stays, though nothing hindered the file to go
pub no_move_keeps : (tree : Tree) (source target : NameList) (outcomes : Outcomes) → source ≢ target → IsSome (file_at tree source) → IsPlaceIn tree target
    → (node_at tree target ≡ None) ⊎ IsSome (file_at tree target) → IsKept tree outcomes → IsKept tree (after_no_move source target outcomes)
no_move_keeps tree source target outcomes two was is_place may_come kept =
    let f = file_is (node_at tree source) was in
    let stays = outcomes source ++ older gone ∷ [] in
    let here : IsKept tree (put source stays outcomes) =
    put_keeps tree tree source stays outcomes (λ q n. refl) (λ q is. is) (file_lies tree outcomes source kept was)
    (left_more (content_at tree source) (outcomes source) (older gone ∷ []) (kept.present source)) (ap (λ c. is_tidy c stays) f.1)
    (devices_more (node_at tree source) (outcomes source) (older gone ∷ []) (kept.devices source) (devices_gone (node_at tree source))) kept in
    let more = outcomes target ++ left_behind (own_of (outcomes source)) in
    put_keeps tree tree target more (put source stays outcomes) (λ q n. refl) (λ q is. is) (place_lies tree target is_place)
    (left_more (content_at tree target) (outcomes target) (left_behind (own_of (outcomes source))) (kept.present target))
    (elim may_come [
      | inl free ↦ ap (λ o. is_tidy (content_of o) more) free ∙ free_tidy_more (outcomes target) (own_of (outcomes source)) (ap (λ o. is_tidy (content_of o) (outcomes target)) (sym free) ∙ kept.tidy target)
      | inr g ↦ ap (λ c. is_tidy c more) (file_is (node_at tree target) g).1
    ])
    (devices_more (node_at tree target) (outcomes target) (left_behind (own_of (outcomes source))) (kept.devices target) (devices_behind (node_at tree target) (own_of (outcomes source)))) here

-- ---- the names in a folder are on the medium

pub folder_told : (tree : Tree) (folder : NameList) (outcomes : Outcomes) → IsKept tree outcomes → (λ q. in_folder (is_in folder q) (outcomes q)) ≡ after_folder_sync (node_at tree) folder outcomes
folder_told tree folder outcomes kept = λ i q. at q (is_in folder q) i
  where
    at : (q : NameList) (b : Bool) → in_folder b (outcomes q) ≡ cond b (alone (node_at tree q) (outcomes q)) (outcomes q)
    at q true = alone_told (node_at tree q) (outcomes q) (kept.present q) (kept.tidy q)
    at q false = refl

pub folder_sync_keeps : (tree : Tree) (folder : NameList) (outcomes : Outcomes) → IsKept tree outcomes → IsKept tree (λ q. in_folder (is_in folder q) (outcomes q))
folder_sync_keeps tree folder outcomes kept = record {
  present = λ q. present q (is_in folder q);
  tidy = λ q. tidy q (is_in folder q);
  devices = λ q. devices q (is_in folder q);
  folders = λ f n e. kept.folders f n (some_other (f ++ n ∷ []) (is_in folder (f ++ n ∷ [])) e);
  names = λ f n e. kept.names f n (some_other (f ++ n ∷ []) (is_in folder (f ++ n ∷ [])) e);
}
  where
    present : (q : NameList) (b : Bool) → is_left (content_at tree q) (in_folder b (outcomes q)) ≡ true
    present q true = alone_left (content_at tree q) (outcomes q) (kept.present q) (kept.tidy q)
    present q false = kept.present q

    tidy : (q : NameList) (b : Bool) → is_tidy (content_at tree q) (in_folder b (outcomes q)) ≡ true
    tidy q true = alone_tidy (content_at tree q) (outcomes q) (kept.present q) (kept.tidy q)
    tidy q false = kept.tidy q

    devices : (q : NameList) (b : Bool) → has_devices (node_at tree q) (in_folder b (outcomes q)) ≡ true
    devices q true = devices_alone (node_at tree q) (outcomes q) (kept.devices q)
    devices q false = kept.devices q

    some_other : (q : NameList) (b : Bool) → has_other (in_folder b (outcomes q)) ≡ true → has_other (outcomes q) ≡ true
    some_other q true e = alone_other (outcomes q) e
    some_other q false e = e

-- ---- a new disk

pub new_kept : (tree : Tree) → node_at tree [] ≡ Some new_top → ((q : NameList) → q ≢ [] → node_at tree q ≡ None) → IsKept tree at_first
new_kept tree top others = record {
  present = λ q. elim (same_or_other q []) [
    | inl e ↦ (λ i. is_left (content_at tree (e i)) (at_first (e i))) ∙ ap (λ o. is_left (content_of o) (at_first [])) top
    | inr n ↦ (λ i. is_left (content_of (others q n i)) (put_elsewhere [] (built new_top) (λ q. never_used) q n i))
  ];
  tidy = λ q. elim (same_or_other q []) [
    | inl e ↦ (λ i. is_tidy (content_at tree (e i)) (at_first (e i))) ∙ ap (λ o. is_tidy (content_of o) (at_first [])) top
    | inr n ↦ (λ i. is_tidy (content_of (others q n i)) (put_elsewhere [] (built new_top) (λ q. never_used) q n i))
  ];
  devices = λ q. elim (same_or_other q []) [
    | inl e ↦ (λ i. has_devices (node_at tree (e i)) (at_first (e i))) ∙ ap (λ o. has_devices o (at_first [])) top ∙ devices_built new_top
    | inr n ↦ (λ i. has_devices (others q n i) (put_elsewhere [] (built new_top) (λ q. never_used) q n i))
  ];
  folders = λ folder name e. absurd (nothing folder name e);
  names = λ folder name e. absurd (nothing folder name e);
}
  where
    nothing : (folder : NameList) (name : Name) → has_other (at_first (folder ++ name ∷ [])) ≡ true → ⊥
    nothing folder name e = cc (ap has_other (put_elsewhere [] (built new_top) (λ q. never_used) (folder ++ name ∷ []) (below_top folder name)), e)
