-- A temporary file is written, put on the medium and renamed.
use Rattle.std.proofs.Common.{◌≡◌, ◌≢◌, ◌⊎◌, ℕ, List, [], ◌∷◌, ◌++◌, map, refl, sym, ◌∙◌, ap, subst, inl, inr, true}
use Rattle.std.specs.Prelude.{Option, Some, None, IsSome, is_some, Result, Ok, Err, IsErrOf, IfErr, OnOk}
use Rattle.std.specs.Option.{option_and_then}
use Rattle.std.proofs.lemmas.Option.{same_Some}
use Rattle.sd_io.specs.declared.fault.DiskFault.{DiskFault}
use Rattle.sd_io.specs.declared.fault.DiskFault.TheVariants.{Absent, Taken, Failed, NoMemory}
use Rattle.sd_io.specs.Tree.{NameList, Content, directory, link, file, other, Node, Tree, SameBut, node_at, file_content, file_node, file_at}
use Rattle.sd_io.specs.Paths.{named, SameWays}
use Rattle.sd_io.specs.Outcomes.{Outcome, own, older, gone, this, any_file, Leaves, own_of, left_behind, settled, put, after_move, after_no_move, content_of}
use Rattle.sd_io.specs.Disk.{DiskState, SameTree, Advances, outcomes_now}
use Rattle.sd_io.specs.Files.{Writes, MayHaveWritten, Syncs, Renames, RenamesNot, CannotRename, MayHaveRenamed}
use Rattle.sd_io.specs.Crashes.{LeavesSince, IsSettledAt, SettledBut}
use Rattle.sd_io.proofs.PathLemmas.{reached_file}
use Rattle.sd_io.proofs.WayLemmas.{same_or_other, same_ways, named_alike, writes_ways, renames_ways}
use Rattle.sd_io.proofs.OutcomeLemmas.{put_elsewhere, put_there, own_append, own_behind, own_twice, own_settled, own_no_move}
use Rattle.sd_io.proofs.CrashLemmas.{since_same, since_loose, since_then, since_moved, since_not_moved, settled_kept, settled_same, settled_then, settled_put}
use Rattle.file_exchange.specs.Temporary.{IsReady, ChangesOnly, Moves, MayHaveMoved, FillLeaves}
use Rattle.file_exchange.proofs.exchanging.PlaceLemmas.{some_not_none, IsFileAt}

-- ---- refusals

-- after a refusal that isn't `Failed` nothing has changed
pub after_refusal : {T P : Type 0} (fault : DiskFault) (s t : DiskState) → (IsErrOf {T = T} (Err fault) Failed → P) → (SameTree s t → P) → (fault ≢ Failed → SameTree s t) → P
after_refusal Absent s t failed same refused = same (refused (λ e. cc))
after_refusal Taken s t failed same refused = same (refused (λ e. cc))
after_refusal Failed s t failed same refused = failed refl
after_refusal NoMemory s t failed same refused = same (refused (λ e. cc))

-- what a write or a sync that was refused may have done
abbrev pub Wrote : DiskState → List ℕ → DiskState → Type 0
Wrote s path t = SameTree s t ⊎ ((bytes : List ℕ) × Writes s path bytes t)

may_wrote : (s t : DiskState) (path : List ℕ) → MayHaveWritten s path t → Wrote s path t
may_wrote s t path (inl (none, same)) = inl same
may_wrote s t path (inr (bytes, w)) = inr (bytes, w)

pub wrote_after : {T : Type 0} (fault : DiskFault) (s t : DiskState) (path : List ℕ) → (IsErrOf {T = T} (Err fault) Failed → MayHaveWritten s path t) → (fault ≢ Failed → SameTree s t) → Wrote s path t
wrote_after fault s t path failed refused = after_refusal fault s t (λ e. may_wrote s t path (failed e)) inl refused

pub wrote_ways : (s t : DiskState) (path : List ℕ) → Wrote s path t → SameWays s.tree t.tree
wrote_ways s t path (inl same) = same_ways s.tree t.tree same.tree
wrote_ways s t path (inr (bytes, w)) = writes_ways s path bytes t w

-- a renaming, done or refused
abbrev pub Renamed : DiskState → List ℕ → List ℕ → DiskState → Type 0
Renamed s from to t = SameTree s t ⊎ RenamesNot s from to t ⊎ Renames s from to t

may_renamed : (s t : DiskState) (from to : List ℕ) → MayHaveRenamed s from to t → Renamed s from to t
may_renamed s t from to (inl (none, same)) = inl same
may_renamed s t from to (inr (inl not)) = inr (inl not)
may_renamed s t from to (inr (inr r)) = inr (inr r)

pub renamed : (r : Result (Unit {0}) DiskFault) (s t : DiskState) (from to : List ℕ) → OnOk r (Renames s from to t) → (IsErrOf r Failed → MayHaveRenamed s from to t) → IfErr r (λ fault. fault ≢ Failed → SameTree s t)
    → Renamed s from to t
renamed (Ok done) s t from to ok failed refused = inr (inr ok)
renamed (Err fault) s t from to ok failed refused = after_refusal fault s t (λ e. may_renamed s t from to (failed e)) inl refused

pub renamed_ways : (s t : DiskState) (from to : List ℕ) → Renamed s from to t → SameWays s.tree t.tree
renamed_ways s t from to (inl same) = same_ways s.tree t.tree same.tree
renamed_ways s t from to (inr (inl not)) = same_ways s.tree t.tree not.tree
renamed_ways s t from to (inr (inr r)) = renames_ways s from to t r

pub then_ways : {r s t : Tree} → SameWays r s → SameWays s t → SameWays r t
then_ways a b = record { ways = λ q. b.ways q ∙ a.ways q }

-- ---- one path, at which a file stands

wrote_there : (s t : DiskState) (path bytes : List ℕ) (place : NameList) → IsFileAt s.tree path place → (w : Writes s path bytes t) → w.place ≡ place
wrote_there s t path bytes place at w = same_Some _ _ (sym w.leads ∙ reached_file s.tree path true place at.names at.is_file)

-- a file's node has its bytes and mode
file_is : (node : Node) (bytes : List ℕ) (mode : ℕ) → file_node (Some node) ≡ Some (bytes, mode) → node.content ≡ file bytes mode
file_is node bytes mode e = by node.content e
  where
    by : (c : Content) → file_content c ≡ Some (bytes, mode) → c ≡ file bytes mode
    by directory e = cc
    by (link target) e = cc
    by (file b m) e = let both = same_Some (b, m) (bytes, mode) e in λ i. file (both i).0 (both i).1
    by other e = cc

pub content_there : (o : Option Node) (bytes : List ℕ) (mode : ℕ) → file_node o ≡ Some (bytes, mode) → content_of o ≡ Some (file bytes mode)
content_there None bytes mode e = cc
content_there (Some node) bytes mode e = ap (λ (c : Content). Some c) (file_is node bytes mode e)

-- ---- the temporary file and the file

module _ (s0 : DiskState) (from to bytes : List ℕ) (two : IsReady s0 from to) where
  pub at_source : IsFileAt s0.tree from two.source
  at_source = record { names = two.leaves; is_file = ap is_some two.was }

  abbrev New : NameList → Content → Type 0
  New q content = (q ≡ two.target) × (content ≡ file bytes two.mode)

  abbrev Loose : NameList → Type 0
  Loose q = q ≡ two.source

  -- the temporary file holds the bytes, and nothing else has changed
  pub record IsFilled (new : DiskState) : Type 0 where
    pub leaves : IsFileAt new.tree from two.source
    pub comes : named new.tree to ≡ Some two.target
    pub holds : file_at new.tree two.source ≡ Some (bytes, two.mode)
    pub others : SameBut two.source s0.tree new.tree
    pub since : LeavesSince New Loose s0 new
    pub settled : SettledBut two.source s0 new

  -- a crash may leave any bytes of it, or only these
  pub record IsUnsettled (new : DiskState) : Type 0 where
    pub filled : IsFilled new
    pub own_are : own_of (outcomes_now new two.source) ≡ own any_file ∷ own any_file ∷ []

  pub record IsSettled (new : DiskState) : Type 0 where
    pub filled : IsFilled new
    pub node : Node
    pub content_is : node.content ≡ file bytes two.mode
    pub own_are : own_of (outcomes_now new two.source) ≡ own (this node) ∷ own (this node) ∷ []

  -- after it was written
  pub filled : (s : DiskState) → Writes s0 from bytes s → IsUnsettled s
  filled s w =
      let ways = writes_ways s0 from bytes s w in
      let place = wrote_there s0 s from bytes two.source at_source w in
      let was : Some (w.before, w.mode) ≡ Some (two.before, two.mode) = sym w.was ∙ ap (file_at s0.tree) place ∙ two.was in
      let mode : w.mode ≡ two.mode = ap (λ (f : List ℕ × ℕ). f.1) (same_Some (w.before, w.mode) (two.before, two.mode) was) in
      let holds : file_at s.tree two.source ≡ Some (bytes, two.mode) = ap (file_at s.tree) (sym place) ∙ w.holds ∙ ap (λ (m : ℕ). Some (bytes, m)) mode in
      let list : List Outcome = outcomes_now s0 two.source ++ own any_file ∷ [] in
      let advances : Advances s0 s (put two.source list (outcomes_now s0)) = subst (λ (q : NameList). Advances s0 s (put q (outcomes_now s0 q ++ own any_file ∷ []) (outcomes_now s0))) place w.advances in
      record {
        filled = record {
          leaves = record { names = named_alike ways from ∙ two.leaves; is_file = ap is_some holds };
          comes = named_alike ways to ∙ two.comes;
          holds = holds;
          others = λ q n. w.others q (λ e. n (e ∙ place));
          since = since_loose New Loose s0 s two.source list advances refl;
          settled = settled_put s0 s two.source list advances (λ q n. w.others q (λ e. n (e ∙ place)));
        };
        own_are =
            ap (λ f. own_of (f two.source)) advances.now
            ∙ ap own_of (put_there two.source list (outcomes_now s0))
            ∙ own_append (outcomes_now s0 two.source) (own any_file ∷ [])
            ∙ ap (λ os. os ++ own any_file ∷ []) two.fresh;
      }

  -- and put on the medium
  pub synced : (s t : DiskState) → IsUnsettled s → Syncs s from t → IsSettled t
  synced s t f u =
      let place : u.place ≡ two.source = same_Some _ _ (sym u.leads.place_reached ∙ reached_file s.tree from true two.source f.filled.leaves.names f.filled.leaves.is_file) in
      let list : List Outcome = map (settled u.node) (outcomes_now s two.source) in
      let advances : Advances s t (put two.source list (outcomes_now s)) = subst (λ (q : NameList). Advances s t (put q (map (settled u.node) (outcomes_now s q)) (outcomes_now s))) place u.advances in
      let still : file_at t.tree two.source ≡ Some (bytes, two.mode) = ap (λ (tree : Tree). file_at tree two.source) u.tree ∙ f.filled.holds in
      record {
        filled = record {
          leaves = record { names = ap (λ (tree : Tree). named tree from) u.tree ∙ f.filled.leaves.names; is_file = ap is_some still };
          comes = ap (λ (tree : Tree). named tree to) u.tree ∙ f.filled.comes;
          holds = still;
          others = λ q n. ap (λ (tree : Tree). node_at tree q) u.tree ∙ f.filled.others q n;
          since = since_then New Loose s0 s t f.filled.since (since_loose New Loose s t two.source list advances refl);
          settled = settled_then two.source s0 s t f.filled.settled (settled_put s t two.source list advances (λ q n. ap (λ (tree : Tree). node_at tree q) u.tree));
        };
        node = u.node;
        content_is = file_is u.node bytes two.mode (sym (ap file_node (sym (ap (node_at s.tree) place) ∙ u.leads.node_there)) ∙ f.filled.holds);
        own_are =
            ap (λ f. own_of (f two.source)) advances.now
            ∙ ap own_of (put_there two.source list (outcomes_now s))
            ∙ own_settled u.node (outcomes_now s two.source)
            ∙ ap (map (settled u.node)) f.own_are;
      }

  -- ---- a refused write or sync

  leaving : (t : DiskState) → LeavesSince New Loose s0 t → SettledBut two.source s0 t → FillLeaves s0 from to bytes t
  leaving t since settled = record {
    source = two.source;
    target = two.target;
    leaves = two.leaves;
    comes = two.comes;
    before = two.before;
    mode = two.mode;
    was = two.was;
    since = since;
    settled = settled;
  }

  wrote_since : (s t : DiskState) → IsFileAt s.tree from two.source → Wrote s from t → LeavesSince New Loose s t
  wrote_since s t at (inl same) = since_same New Loose s t same
  wrote_since s t at (inr (b, w)) = since_loose New Loose s t w.place _ w.advances (wrote_there s t from b two.source at w)

  wrote_settled : (s t : DiskState) → IsFileAt s.tree from two.source → Wrote s from t → SettledBut two.source s t
  wrote_settled s t at (inl same) = λ q n is. settled_same s t same q is
  wrote_settled s t at (inr (b, w)) = λ q n is. settled_put s t w.place _ w.advances w.others q (λ e. n (e ∙ wrote_there s t from b two.source at w)) is

  -- at most the file that the path names was written
  wrote_others : (s t : DiskState) → IsFileAt s.tree from two.source → Wrote s from t → SameBut two.source s.tree t.tree
  wrote_others s t at (inl same) = λ q n. ap (λ (tree : Tree). node_at tree q) same.tree
  wrote_others s t at (inr (b, w)) = λ q n. w.others q (λ e. n (e ∙ wrote_there s t from b two.source at w))

  still_file : (s t : DiskState) → IsFileAt s.tree from two.source → Wrote s from t → IsSome (file_at t.tree two.source)
  still_file s t at (inl same) = subst (λ (tree : Tree). IsSome (file_at tree two.source)) (sym same.tree) at.is_file
  still_file s t at (inr (b, w)) = subst (λ (q : NameList). IsSome (file_at t.tree q)) (wrote_there s t from b two.source at w) (ap is_some w.holds)

  -- the write was refused
  pub write_refused : (t : DiskState) → Wrote s0 from t → FillLeaves s0 from to bytes t × ChangesOnly from s0.tree t.tree
  write_refused t h = (
    leaving t (wrote_since s0 t at_source h) (wrote_settled s0 t at_source h),
    record { place = two.source; names = two.leaves; is_file = still_file s0 t at_source h; others = wrote_others s0 t at_source h },
  )

  -- the sync was
  pub sync_refused : (s t : DiskState) → IsUnsettled s → Wrote s from t → FillLeaves s0 from to bytes t × ChangesOnly from s0.tree t.tree
  sync_refused s t f h =
      let at = f.filled.leaves in (
        leaving t (since_then New Loose s0 s t f.filled.since (wrote_since s t at h)) (settled_then two.source s0 s t f.filled.settled (wrote_settled s t at h)),
        record { place = two.source; names = two.leaves; is_file = still_file s t at h; others = λ q n. wrote_others s t at h q n ∙ f.filled.others q n },
      )

  -- ---- nothing hinders it

  target_stands : (s : DiskState) → IsFilled s → IsSome (file_at s.tree two.target)
  target_stands s f = subst (λ o. IsSome (file_node o)) (sym (f.others two.target (λ e. two.are_two (sym e)))) two.comes_to_file

  pub can_rename : (s : DiskState) → IsSettled s → CannotRename s from to → ⊥
  can_rename s f (inl none) =
      some_not_none (file_at s.tree two.source) f.filled.leaves.is_file (sym (ap (option_and_then (file_at s.tree)) f.filled.leaves.names) ∙ none)
  can_rename s f (inr (inl none)) = cc (f.filled.comes, none)
  can_rename s f (inr (inr taken)) =
      some_not_none (file_at s.tree two.target) (target_stands s f.filled) (ap (file_at s.tree) (same_Some _ _ (sym f.filled.comes ∙ taken.names)) ∙ taken.no_file)

  -- ---- the renaming

  module _ (s t : DiskState) (f : IsSettled s) where
    ready : (found : Option Content) → Leaves (own_of (outcomes_now s two.source)) found → found ≡ Some (file bytes two.mode)
    ready found l = by (subst (λ os. Leaves os found) f.own_are l)
      where
        by : Leaves (own (this f.node) ∷ own (this f.node) ∷ []) found → found ≡ Some (file bytes two.mode)
        by (inl is) = is ∙ ap (λ (c : Content). Some c) f.content_is
        by (inr (inl is)) = is ∙ ap (λ (c : Content). Some c) f.content_is
        by (inr (inr none)) = absurd none

    ready_new : (found : Option Content) → Leaves (own_of (outcomes_now s two.source)) found → (content : Content) × (found ≡ Some content) × New two.target content
    ready_new found l = (file bytes two.mode, ready found l, (refl, refl))

    from_there : (r : Renames s from to t) → (r.source ≡ two.source) × (r.target ≡ two.target)
    from_there r = (same_Some _ _ (sym r.leaves ∙ f.filled.leaves.names), same_Some _ _ (sym r.comes ∙ f.filled.comes))

    move_is : (r : Renames s from to t) → Advances s t (after_move two.source two.target (outcomes_now s))
    move_is r =
        let places = from_there r in
        let a = r.advances (λ e. two.are_two (sym places.0 ∙ e ∙ places.1)) in
        subst (λ (q : NameList). Advances s t (after_move two.source q (outcomes_now s))) places.1
        (subst (λ (q : NameList). Advances s t (after_move q r.target (outcomes_now s))) places.0 a)

    no_move_is : (r : RenamesNot s from to t) → Advances s t (after_no_move two.source two.target (outcomes_now s))
    no_move_is r =
        let source : r.source ≡ two.source = same_Some _ _ (sym r.leaves ∙ f.filled.leaves.names) in
        let target : r.target ≡ two.target = same_Some _ _ (sym r.comes ∙ f.filled.comes) in
        let a = r.advances (λ e. two.are_two (sym source ∙ e ∙ target)) in
        subst (λ (q : NameList). Advances s t (after_no_move two.source q (outcomes_now s))) target
        (subst (λ (q : NameList). Advances s t (after_no_move q r.target (outcomes_now s))) source a)

    renamed_since : Renamed s from to t → LeavesSince New Loose s t
    renamed_since (inl same) = since_same New Loose s t same
    renamed_since (inr (inl not)) = since_not_moved New Loose s t two.source two.target refl ready_new (no_move_is not)
    renamed_since (inr (inr r)) = since_moved New Loose s t two.source two.target refl ready_new (move_is r)

    -- the temporary file is in the file's place
    pub moved : Renames s from to t → Moves s0 from to bytes t
    moved r =
        let places = from_there r in
        let a = move_is r in
        let list : List Outcome = left_behind (outcomes_now s two.target) ++ own_of (outcomes_now s two.source) in
        let there : outcomes_now t two.target ≡ list = ap (λ f. f two.target) a.now ∙ put_there two.target list (put two.source (left_behind (outcomes_now s two.source) ++ older gone ∷ []) (outcomes_now s)) in
        let own_are : own_of (outcomes_now t two.target) ≡ own_of (outcomes_now s two.source) =
        ap own_of there ∙ own_append (left_behind (outcomes_now s two.target)) (own_of (outcomes_now s two.source))
        ∙ ap (λ os. os ++ own_of (own_of (outcomes_now s two.source))) (own_behind (outcomes_now s two.target)) ∙ own_twice (outcomes_now s two.source) in
        record {
          source = two.source;
          target = two.target;
          leaves = two.leaves;
          comes = two.comes;
          before = two.before;
          mode = two.mode;
          was = two.was;
          holds = ap (file_at t.tree) (sym places.1) ∙ ap file_node r.moved ∙ ap (file_at s.tree) places.0 ∙ f.filled.holds;
          gone = ap (node_at t.tree) (sym places.0) ∙ r.gone (λ e. two.are_two (sym places.0 ∙ e ∙ places.1));
          others = λ q m n. r.others q (λ e. m (e ∙ places.0)) (λ e. n (e ∙ places.1)) ∙ f.filled.others q m;
          settled = λ found l. ready found (subst (λ os. Leaves os found) own_are l);
        }

    -- what was settled is so still
    renamed_settled : Renamed s from to t → SettledBut two.source s t
    renamed_settled (inl same) q n is = settled_same s t same q is
    renamed_settled (inr (inl not)) q n is = elim (same_or_other q two.target) [
      | inl here ↦
          subst (IsSettledAt t) (sym here)
          (settled_kept s t two.target (ap (λ f. own_of (f two.target)) (no_move_is not).now ∙ own_no_move two.source two.target (outcomes_now s) two.are_two) (ap (λ (x : Tree). node_at x two.target) not.tree)
          (subst (IsSettledAt s) here is))
      | inr m ↦
          settled_kept s t q
          (ap (λ f. own_of (f q)) (no_move_is not).now
          ∙ ap own_of (put_elsewhere two.target _ (put two.source (outcomes_now s two.source ++ older gone ∷ []) (outcomes_now s)) q m ∙ put_elsewhere two.source (outcomes_now s two.source ++ older gone ∷ []) (outcomes_now s) q n))
          (ap (λ (x : Tree). node_at x q) not.tree) is
    ]
    renamed_settled (inr (inr r)) q n is = elim (same_or_other q two.target) [
      | inl here ↦
          let m = moved r in
          subst (IsSettledAt t) (same_Some _ _ (sym m.comes ∙ two.comes) ∙ sym here) (λ found l. m.settled found l ∙ sym (content_there (node_at t.tree m.target) bytes m.mode m.holds))
      | inr m ↦
          let places = from_there r in
          settled_kept s t q
          (ap (λ f. own_of (f q)) (move_is r).now
          ∙ ap own_of (put_elsewhere two.target _ (put two.source (left_behind (outcomes_now s two.source) ++ older gone ∷ []) (outcomes_now s)) q m ∙ put_elsewhere two.source (left_behind (outcomes_now s two.source) ++ older gone ∷ []) (outcomes_now s) q n))
          (r.others q (λ e. n (e ∙ places.0)) (λ e. m (e ∙ places.1))) is
    ]

    -- what a crash may leave, whatever it answers
    pub rename_leaves : Renamed s from to t → FillLeaves s0 from to bytes t
    rename_leaves h = leaving t (since_then New Loose s0 s t f.filled.since (renamed_since h)) (settled_then two.source s0 s t f.filled.settled (renamed_settled h))

    stays : (tree : Tree) → tree ≡ s.tree → ChangesOnly from s0.tree tree
    stays tree e = record {
      place = two.source;
      names = two.leaves;
      is_file = subst (λ (x : Tree). IsSome (file_at x two.source)) (sym e) f.filled.leaves.is_file;
      others = λ q n. ap (λ (x : Tree). node_at x q) e ∙ f.filled.others q n;
    }

    -- or not, after a refusal
    pub may_have_moved : Renamed s from to t → MayHaveMoved s0 from to bytes t
    may_have_moved (inl same) = inl (stays t.tree same.tree)
    may_have_moved (inr (inl not)) = inl (stays t.tree not.tree)
    may_have_moved (inr (inr r)) = inr (moved r)
