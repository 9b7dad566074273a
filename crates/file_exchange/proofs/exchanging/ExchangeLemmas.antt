-- A file's bytes are exchanged: the tree, and what a crash may leave.
use Rattle.std.proofs.Common.{◌≡◌, ◌≢◌, ◌⊎◌, ℕ, ◌≤◌, List, [], ◌∷◌, ◌++◌, refl, sym, ◌∙◌, ap, subst, inl, inr, arith}
use Rattle.std.specs.Prelude.{Option, Some, None, IsSome, is_some, Result, Ok, Err, OnOk, OnErr}
use Rattle.std.specs.Option.{option_and_then}
use Rattle.std.proofs.lemmas.Option.{same_Some}
use Rattle.sd_io.specs.Count.{HasRisen}
use Rattle.sd_io.specs.Tree.{Name, NameList, Content, directory, link, file, other, Node, Tree, IsTree, SameBut, node_at, file_content, file_node, file_at}
use Rattle.sd_io.specs.Paths.{parts_of, parent_of, named, way_of_node, SameWays}
use Rattle.sd_io.specs.Outcomes.{Outcome, older, gone, Outcomes, Leaves, own_of, alone, after_folder_sync}
use Rattle.sd_io.specs.Disk.{DiskState, SameTree, HoldsPresent, outcomes_now}
use Rattle.sd_io.specs.Files.{path_text, Removes, CannotRemove}
use Rattle.sd_io.specs.Lists.{SyncsFolder}
use Rattle.sd_io.specs.Crashes.{LeavesSince, IsDurable, SettledBut, KeepsSettled}
use Rattle.sd_io.proofs.WayLemmas.{same_or_other, named_alike, ways_kept, file_has_no_way}
use Rattle.sd_io.proofs.PathTextLemmas.{text_names}
use Rattle.sd_io.proofs.OutcomeLemmas.{folder_leaves, alone_there}
use Rattle.sd_io.proofs.CrashLemmas.{since_same, since_loose, since_folder, since_then, since_more, settled_same, settled_then, settled_put, settled_folder}
use Rattle.file_exchange.specs.declared.fault.ExchangeFault.{ExchangeFault}
use Rattle.file_exchange.specs.Reserved.{reserved_name, FirstFree, IsFolderPath}
use Rattle.file_exchange.specs.Exchange.{IsFilePath, Exchanges, LeavesBytes, IsCleared}
use Rattle.file_exchange.specs.declared.reserved.Temporary.{Temporary}
use Rattle.file_exchange.specs.Temporary.{CreatesTemporary, IsReady, ChangesOnly, Moves, MayHaveMoved, FillLeaves, SettlesFolder, IsRemoved}
use Rattle.file_exchange.specs.Crash.{IsNewFile, ExchangeLeaves}
use Rattle.file_exchange.proofs.exchanging.PlaceLemmas.{some_not_none, placed, IsPlaced, folder_leads, reserved_is_name}
use Rattle.file_exchange.proofs.exchanging.CauseLemmas.{risen_twice}

-- ---- one place of a folder that is put on the medium

-- where a file stands
pub alone_file : (o : Option Node) (f : List ℕ × ℕ) (list : List Outcome) → file_node o ≡ Some f → alone o list ≡ own_of list
alone_file None f list e = cc
alone_file (Some node) f list e = by node.content node.dev node.ino e
  where
    by : (c : Content) (dev ino : ℕ) → file_content c ≡ Some f → alone (Some (record { content = c; dev = dev; ino = ino })) list ≡ own_of list
    by directory dev ino e = cc
    by (link target) dev ino e = cc
    by (file bytes mode) dev ino e = refl
    by other dev ino e = cc

-- nothing has changed
pub nothing_left : (s t : DiskState) (place : NameList) (bytes : List ℕ) → SameTree s t → ExchangeLeaves place bytes s t × KeepsSettled s t × LeavesBytes s.tree place bytes t.tree
nothing_left s t place bytes same = (
  record { temporary = None; was_free = λ q e. cc; leaves = since_same _ _ s t same },
  λ q is_file is. settled_same s t same q is,
  record {
    old_or_new = inl (ap (λ (x : Tree). node_at x place) same.tree);
    temporary = place;
    was_free = inr refl;
    others = λ q m n. ap (λ (x : Tree). node_at x q) same.tree;
    old_or_alone = inl (ap (λ (x : Tree). node_at x place) same.tree);
  },
)

module _ (s0 s1 : DiskState) (path : List ℕ) (made : Temporary) (bytes : List ℕ) (is : IsTree s0.tree) (it : IsFilePath s0.tree path) (c : CreatesTemporary s0 (parent_of (parts_of path)) (parts_of path) made s1) where
  at : IsPlaced s0.tree path
  at = placed s0.tree path is it

  temporary_named : named s0.tree made.path ≡ Some c.temporary
  temporary_named =
      let n = c.was_free.reserved.0 in
      let place : c.temporary ≡ parent_of (parts_of path) ++ reserved_name n ∷ [] = c.was_free.reserved.2 in
      ap (named s0.tree) (c.path_is ∙ ap path_text place) ∙ text_names s0.tree is (parent_of (parts_of path)) (reserved_name n) at.folder (reserved_is_name n) ∙ ap (λ (q : NameList). Some q) (sym place)

  ways : SameWays s0.tree s1.tree
  ways = ways_kept c.temporary s0.tree s1.tree c.others (ap way_of_node c.was_free.free) (file_has_no_way (node_at s1.tree c.temporary) (ap is_some c.stands))

  apart : c.temporary ≢ parts_of path
  apart e = some_not_none (file_at s0.tree (parts_of path)) it.is_file (ap (file_at s0.tree) (sym e) ∙ ap file_node c.was_free.free)

  names_temporary : named s1.tree made.path ≡ Some c.temporary
  names_temporary = named_alike ways made.path ∙ temporary_named

  names_path : named s1.tree path ≡ Some (parts_of path)
  names_path = named_alike ways path ∙ at.names

  -- the temporary file and the file are two
  pub is_ready : IsReady s1 made.path path
  is_ready = record {
    source = c.temporary;
    target = parts_of path;
    leaves = names_temporary;
    comes = names_path;
    are_two = apart;
    before = [];
    mode = c.mode;
    was = c.stands;
    comes_to_file = subst (λ o. IsSome (file_node o)) (sym (c.others (parts_of path) (λ e. apart (sym e)))) it.is_file;
    fresh = c.fresh;
  }

  mode_is : (mode : ℕ) (before : List ℕ) (source : NameList) → named s1.tree made.path ≡ Some source → file_at s1.tree source ≡ Some (before, mode) → mode ≡ c.mode
  mode_is mode before source names was =
      let place : source ≡ c.temporary = same_Some _ _ (sym names ∙ names_temporary) in
      ap (λ (f : List ℕ × ℕ). f.1) (same_Some (before, mode) ([], c.mode) (sym was ∙ ap (file_at s1.tree) place ∙ c.stands))

  -- ---- the tree

  -- the file has the bytes, and all else is as before
  pub exchanged : (t : DiskState) → Moves s1 made.path path bytes t → Exchanges s0.tree (parts_of path) bytes t.tree
  exchanged t m =
      let source : m.source ≡ c.temporary = same_Some _ _ (sym m.leaves ∙ names_temporary) in
      let target : m.target ≡ parts_of path = same_Some _ _ (sym m.comes ∙ names_path) in
      record {
        has = record { before = c.bytes; mode = c.mode; was = c.model; holds = ap (file_at t.tree) (sym target) ∙ m.holds ∙ ap (λ (k : ℕ). Some (bytes, k)) (mode_is m.mode m.before m.source m.leaves m.was) };
        others = λ q n. elim (same_or_other q c.temporary) [
          | inl e ↦ ap (node_at t.tree) (e ∙ sym source) ∙ m.gone ∙ sym c.was_free.free ∙ ap (node_at s0.tree) (sym e)
          | inr k ↦ m.others q (λ e. k (e ∙ source)) (λ e. n (e ∙ target)) ∙ c.others q k
        ];
      }

  -- so the path is a file's still
  pub still_path : (t : DiskState) → Moves s1 made.path path bytes t → IsFilePath t.tree path
  still_path t m = record { path_is = it.path_is; is_file = ap is_some (exchanged t m).has.holds }

  pub exchanged_still : (t u : DiskState) → Moves s1 made.path path bytes t → u.tree ≡ t.tree → Exchanges s0.tree (parts_of path) bytes u.tree
  exchanged_still t u m same = subst (Exchanges s0.tree (parts_of path) bytes) (sym same) (exchanged t m)

  pub leaves_new : (t : Tree) → Exchanges s0.tree (parts_of path) bytes t → LeavesBytes s0.tree (parts_of path) bytes t
  leaves_new t e = record {
    old_or_new = inr e.has;
    temporary = parts_of path;
    was_free = inr refl;
    others = λ q m n. e.others q m;
    old_or_alone = inr e.others;
  }

  leaves_old : (t : Tree) → SameBut c.temporary s0.tree t → LeavesBytes s0.tree (parts_of path) bytes t
  leaves_old t others = record {
    old_or_new = inl (others (parts_of path) (λ e. apart (sym e)));
    temporary = c.temporary;
    was_free = inl c.was_free;
    others = λ q m n. others q n;
    old_or_alone = inl (others (parts_of path) (λ e. apart (sym e)));
  }

  -- only the temporary file may differ
  others_kept : (t : Tree) → (o : ChangesOnly made.path s1.tree t) → SameBut c.temporary s0.tree t
  others_kept t o q n = o.others q (λ e. n (e ∙ same_Some _ _ (sym o.names ∙ names_temporary))) ∙ c.others q n

  -- after a refusal
  module _ (s2 s3 : DiskState) (kept : SameWays s1.tree s2.tree) where
    removed_there : (r : Removes s2 made.path s3) → r.place ≡ c.temporary
    removed_there r = same_Some _ _ (sym r.names ∙ named_alike kept made.path ∙ names_temporary)

    -- what was moved can't be removed
    moved_not_removed : Moves s1 made.path path bytes s2 → Removes s2 made.path s3 → ⊥
    moved_not_removed m r =
        let there : r.place ≡ m.source = removed_there r ∙ sym (same_Some _ _ (sym m.leaves ∙ names_temporary)) in
        some_not_none (file_at s2.tree r.place) r.was_file (ap (file_at s2.tree) there ∙ ap file_node m.gone)

    others_left : ChangesOnly made.path s1.tree s2.tree → SameTree s2 s3 ⊎ Removes s2 made.path s3 → SameBut c.temporary s0.tree s3.tree
    others_left o (inl same) q n = ap (λ (t : Tree). node_at t q) same.tree ∙ others_kept s2.tree o q n
    others_left o (inr r) q n = r.others q (λ e. n (e ∙ removed_there r)) ∙ others_kept s2.tree o q n

    -- the file is old where it wasn't moved
    pub left_old : ChangesOnly made.path s1.tree s2.tree → SameTree s2 s3 ⊎ Removes s2 made.path s3 → node_at s3.tree (parts_of path) ≡ node_at s0.tree (parts_of path)
    left_old o outcome = others_left o outcome (parts_of path) (λ e. apart (sym e))

    -- the file is old or new
    pub left : MayHaveMoved s1 made.path path bytes s2 → SameTree s2 s3 ⊎ Removes s2 made.path s3 → LeavesBytes s0.tree (parts_of path) bytes s3.tree
    left (inl o) outcome = leaves_old s3.tree (others_left o outcome)
    left (inr m) (inl same) = leaves_new s3.tree (exchanged_still s2 s3 m same.tree)
    left (inr m) (inr r) = absurd (moved_not_removed m r)

    -- the temporary file is gone, or a second fault was counted
    pub cleared : MayHaveMoved s1 made.path path bytes s2 → SameTree s2 s3 ⊎ Removes s2 made.path s3 → IsRemoved s2 made.path s3 → HasRisen s0.faults s2.faults → s2.faults ≤ s3.faults
        → IsCleared s0 (parts_of path) s3
    cleared (inr m) (inl same) out risen low = inl (exchanged_still s2 s3 m same.tree).others
    cleared (inr m) (inr r) out risen low = absurd (moved_not_removed m r)
    cleared (inl o) outcome out risen low = by out.outcome
      where
        by : Removes s2 made.path s3 ⊎ CannotRemove s2 made.path ⊎ HasRisen s2.faults s3.faults → IsCleared s0 (parts_of path) s3
        by (inl r) = inl (λ q other. elim (same_or_other q c.temporary) [
          | inl e ↦ ap (node_at s3.tree) (e ∙ sym (removed_there r)) ∙ r.gone ∙ sym c.was_free.free ∙ ap (node_at s0.tree) (sym e)
          | inr n ↦ others_left o (inr r) q n
        ])
        by (inr (inl none)) =
            let named_still : named s2.tree made.path ≡ Some c.temporary = named_alike kept made.path ∙ names_temporary in
            let here : o.place ≡ c.temporary = same_Some _ _ (sym o.names ∙ names_temporary) in
            absurd (some_not_none (file_at s2.tree o.place) o.is_file (sym (ap (option_and_then (file_at s2.tree)) (named_still ∙ ap (λ (q : NameList). Some q) (sym here))) ∙ none))
        by (inr (inr again)) = inr (risen_twice risen again)

  -- ---- what a crash may leave

  abbrev New : NameList → Content → Type 0
  New = IsNewFile s0.tree (parts_of path) bytes

  abbrev Loose : NameList → Type 0
  Loose q = Some c.temporary ≡ Some q

  since_creation : LeavesSince New Loose s0 s1
  since_creation = since_more _ New _ Loose s0 s1 (λ q content none. absurd none) (λ q e. ap (λ (p : NameList). Some p) (sym e)) c.leaves

  since_filling : (t : DiskState) → FillLeaves s1 made.path path bytes t → LeavesSince New Loose s1 t
  since_filling t f = since_more _ New _ Loose s1 t
      (λ q content new. record {
        here = new.0 ∙ same_Some _ _ (sym f.comes ∙ names_path);
        before = c.bytes;
        mode = c.mode;
        was = c.model;
        content_is = new.1 ∙ ap (file bytes) (mode_is f.mode f.before f.source f.leaves f.was);
      })
      (λ q e. ap (λ (p : NameList). Some p) (sym (e ∙ same_Some _ _ (sym f.leaves ∙ names_temporary))))
      f.since

  since_moving : (t : DiskState) → FillLeaves s1 made.path path bytes t → LeavesSince New Loose s0 t
  since_moving t f = since_then New Loose s0 s1 t since_creation (since_filling t f)

  settled_moving : (t : DiskState) → FillLeaves s1 made.path path bytes t → SettledBut c.temporary s0 t
  settled_moving t f =
      settled_then c.temporary s0 s1 t c.settled (λ q n is. f.settled q (λ e. n (e ∙ same_Some _ _ (sym f.leaves ∙ names_temporary))) is)

  -- and each file that was settled is so still
  abbrev pub Leaving : DiskState → Type 0
  Leaving t = ExchangeLeaves (parts_of path) bytes s0 t × KeepsSettled s0 t

  leaving : (t : DiskState) → LeavesSince New Loose s0 t → SettledBut c.temporary s0 t → Leaving t
  leaving t since settled = (
    record {
      temporary = Some c.temporary;
      was_free = λ q e. subst (λ (p : NameList). FirstFree s0.tree (parent_of (parts_of path)) p) (same_Some _ _ e) c.was_free;
      leaves = since;
    },
    λ q is_file is. settled q (λ e. some_not_none (file_at s0.tree q) is_file (ap (file_at s0.tree) e ∙ ap file_node c.was_free.free)) is,
  )

  -- after a refusal and a removal
  pub crash_cleared : (s2 s3 : DiskState) → SameWays s1.tree s2.tree → FillLeaves s1 made.path path bytes s2 → SameTree s2 s3 ⊎ Removes s2 made.path s3 → Leaving s3
  crash_cleared s2 s3 kept f (inl same) = leaving s3 (since_then New Loose s0 s2 s3 (since_moving s2 f) (since_same New Loose s2 s3 same)) (settled_then c.temporary s0 s2 s3 (settled_moving s2 f) (λ q n is. settled_same s2 s3 same q is))
  crash_cleared s2 s3 kept f (inr r) =
      leaving s3 (since_then New Loose s0 s2 s3 (since_moving s2 f) (since_loose New Loose s2 s3 r.place _ r.advances (ap (λ (p : NameList). Some p) (sym (removed_there s2 s3 kept r)))))
      (settled_then c.temporary s0 s2 s3 (settled_moving s2 f) (λ q n is. settled_put s2 s3 r.place _ r.advances r.others q (λ e. n (e ∙ removed_there s2 s3 kept r)) is))

  -- after the file was moved
  pub crash_moved : (t u : DiskState) → FillLeaves s1 made.path path bytes t → SameTree t u → Leaving u
  crash_moved t u f same = leaving u (since_then New Loose s0 t u (since_moving t f) (since_same New Loose t u same)) (settled_then c.temporary s0 t u (settled_moving t f) (λ q n is. settled_same t u same q is))

  -- and its folder put on the medium
  pub crash_synced : (t u : DiskState) (folder : List ℕ) → HoldsPresent t → FillLeaves s1 made.path path bytes t → SyncsFolder t folder u → Leaving u
  crash_synced t u folder holds f y = leaving u (since_then New Loose s0 t u (since_moving t f) (since_folder New Loose t u y.folder holds y.advances))
      (settled_then c.temporary s0 t u (settled_moving t f) (λ q n is. settled_folder t u y.folder y.tree y.advances q is))

  -- ---- from then on

  module _ (t u : DiskState) (folder : List ℕ) (is_now : IsTree t.tree) (holds0 : HoldsPresent s0) (holds : HoldsPresent t) (f : FillLeaves s1 made.path path bytes t) (m : Moves s1 made.path path bytes t)
      (of : IsFolderPath path folder) (y : SyncsFolder t folder u) where
    folder_is : y.folder ≡ parent_of (parts_of path)
    folder_is = same_Some _ _ (sym y.leads ∙ folder_leads t.tree path folder is_now (still_path t m) of)

    -- what a name in the folder may leave
    in_folder : (name : Name) (place : NameList) → place ≡ parent_of (parts_of path) ++ name ∷ [] → outcomes_now u place ≡ alone (node_at t.tree place) (outcomes_now t place)
    in_folder name place e =
        ap (λ f. f place) y.advances.now
        ∙ subst (λ (q : NameList). after_folder_sync (node_at t.tree) y.folder (outcomes_now t) q ≡ alone (node_at t.tree q) (outcomes_now t q)) (ap (λ (p : NameList). p ++ name ∷ []) folder_is ∙ sym e)
        (alone_there (node_at t.tree) y.folder name (outcomes_now t))

    there : (found : Option Content) → Leaves (outcomes_now u (parts_of path)) found → found ≡ Some (file bytes c.mode)
    there found l =
        let target : m.target ≡ parts_of path = same_Some _ _ (sym m.comes ∙ names_path) in
        let e = in_folder at.name (parts_of path) at.place_is ∙ alone_file (node_at t.tree (parts_of path)) _ (outcomes_now t (parts_of path)) (exchanged t m).has.holds in
        let own = subst (λ (q : NameList). Leaves (own_of (outcomes_now t q)) found) (sym target) (subst (λ os. Leaves os found) e l) in
        m.settled found own ∙ ap (λ (k : ℕ). Some (file bytes k)) (mode_is m.mode m.before m.source m.leaves m.was)

    not_new : (q : NameList) → ((content : Content) → New q content → ⊥) → q ≢ parts_of path
    not_new q none e = none (file bytes c.mode) (record { here = e; before = c.bytes; mode = c.mode; was = c.model; content_is = refl })

    -- at the temporary file's place
    nothing_there : (found : Option Content) → Leaves (outcomes_now u c.temporary) found → Leaves (outcomes_now s0 c.temporary) found
    nothing_there found l =
        let source : m.source ≡ c.temporary = same_Some _ _ (sym m.leaves ∙ names_temporary) in
        let e : outcomes_now u c.temporary ≡ older gone ∷ [] =
        in_folder (reserved_name c.was_free.reserved.0) c.temporary c.was_free.reserved.2
        ∙ ap (λ o. alone o (outcomes_now t c.temporary)) (ap (node_at t.tree) (sym source) ∙ m.gone) in
        by (subst (λ os. Leaves os found) e l)
      where
        by : Leaves (older gone ∷ []) found → Leaves (outcomes_now s0 c.temporary) found
        by (inl is_gone) = subst (λ o. Leaves (outcomes_now s0 c.temporary) o) (sym is_gone) (holds0.nothing c.temporary c.was_free.free)
        by (inr none) = absurd none

    -- at any other
    as_before : (q : NameList) → q ≢ parts_of path → q ≢ c.temporary → (found : Option Content) → Leaves (outcomes_now t q) found → Leaves (outcomes_now s0 q) found
    as_before q n k found l =
        let since = since_moving t f in
        elim (since.each t.clock since.later (omega arith) q found l) [
          | inl old ↦ old
          | inr (inl (content, is_it, new)) ↦ absurd (n new.here)
          | inr (inr loose) ↦ absurd (k (sym (same_Some _ _ loose)))
        ]

    elsewhere : (q : NameList) → q ≢ parts_of path → (found : Option Content) → Leaves (outcomes_now u q) found → Leaves (outcomes_now s0 q) found
    elsewhere q n found l = elim (same_or_other q c.temporary) [
      | inl e ↦ subst (λ (p : NameList). Leaves (outcomes_now s0 p) found) (sym e) (nothing_there found (subst (λ (p : NameList). Leaves (outcomes_now u p) found) e l))
      | inr k ↦ as_before q n k found (elim (folder_leaves (node_at t.tree) y.folder (outcomes_now t) q found (subst (λ (os : Outcomes). Leaves (os q) found) y.advances.now l)) [
        | inl old ↦ old
        | inr (none, is_gone) ↦ subst (λ o. Leaves (outcomes_now t q) o) (sym is_gone) (holds.nothing q none)
      ])
    ]

    pub durable : IsDurable New s0 u
    durable = record {
      there = λ q content new found l.
          let mode : new.mode ≡ c.mode = ap (λ (f : List ℕ × ℕ). f.1) (same_Some (new.before, new.mode) (c.bytes, c.mode) (sym new.was ∙ c.model)) in
          there found (subst (λ (p : NameList). Leaves (outcomes_now u p) found) new.here l) ∙ ap (λ (k : ℕ). Some (file bytes k)) (sym mode) ∙ ap (λ (x : Content). Some x) (sym new.content_is);
      elsewhere = λ q none found l. elsewhere q (not_new q none) found l;
    }

  -- ---- after the file was moved, whatever the folder's sync answers

  pub settled_tree : (r : Result (Unit {0}) ExchangeFault) (t u : DiskState) → Moves s1 made.path path bytes t → OnOk r (SettlesFolder t path u) → OnErr r (SameTree t u) → u.tree ≡ t.tree
  settled_tree (Ok done) t u m (folder, of, y) refused = y.tree
  settled_tree (Err fault) t u m settled refused = refused.tree

  pub settled_crash : (r : Result (Unit {0}) ExchangeFault) (t u : DiskState) → HoldsPresent t → FillLeaves s1 made.path path bytes t → OnOk r (SettlesFolder t path u) → OnErr r (SameTree t u)
      → Leaving u
  settled_crash (Ok done) t u holds f (folder, of, y) refused = crash_synced t u folder holds f y
  settled_crash (Err fault) t u holds f settled refused = crash_moved t u f refused

  pub settled_durable : (r : Result (Unit {0}) ExchangeFault) (t u : DiskState) → IsTree t.tree → HoldsPresent s0 → HoldsPresent t → FillLeaves s1 made.path path bytes t → Moves s1 made.path path bytes t
      → OnOk r (SettlesFolder t path u) → OnOk r (IsDurable New s0 u)
  settled_durable (Ok done) t u is_now holds0 holds f m (folder, of, y) = durable t u folder is_now holds0 holds f m of y
  settled_durable (Err fault) t u is_now holds0 holds f m settled = tt
