-- Stages are removed, and folders put on the medium.
use Rattle.std.proofs.Common.{◌≡◌, ◌<◌, ◌≤◌, ◌+◌, ℕ, List, [], ◌∷◌, ◌++◌, length, refl, sym, ◌∙◌, ap, subst, inl, inr, arith}
use Rattle.std.specs.Prelude.{Option, Some, None, IsSome, IsTrue, Contains, slice_get, Result, Ok, Err, OnOk, OnErr}
use Rattle.std.specs.Option.{option_and_then}
use Rattle.std.proofs.lemmas.Bool.{cases_lt}
use Rattle.std.proofs.lemmas.Option.{same_Some}
use Rattle.std.proofs.lemmas.List.Elements.{Contains-push_cases}
use Rattle.sd_io.specs.Tree.{NameList, Content, Node, Tree, IsTree, node_at, file_node, file_at, is_directory_at}
use Rattle.sd_io.specs.Paths.{parent_of, named, SameWays}
use Rattle.sd_io.specs.Outcomes.{content_at}
use Rattle.sd_io.specs.Disk.{DiskState, SameTree, HoldsPresent}
use Rattle.sd_io.specs.Files.{path_text, Removes, CannotRemove}
use Rattle.sd_io.specs.Lists.{directory_of, SyncsFolder}
use Rattle.sd_io.specs.declared.fault.DiskFault.{DiskFault}
use Rattle.sd_io.proofs.WayLemmas.{same_or_other, same_directories, same_ways, removes_ways}
use Rattle.sd_io.proofs.PathTextLemmas.{text_names, text_directory}
use Rattle.sd_io.proofs.CrashLemmas.{since_same, since_loose, since_then, since_more, since_folder, settled_same, settled_put, settled_folder}
use Rattle.file_exchange.specs.Reserved.{reserved_name}
use Rattle.file_exchange.proofs.PlaceLemmas.{reserved_is_name}
use Rattle.journal_text.specs.declared.line.Line.{Line}
use Rattle.change_phases.specs.Between.{place_of, stage_of}
use Rattle.change_phases.specs.Phases.{IsOnly}
use Rattle.change_phases.proofs.StepLemmas.{only_settled, only_gone}
use Rattle.change_phases.proofs.LineLemmas.{first}
use Rattle.journal.specs.Clearing.{HaveFolders, IsStage, RemovesStages, KeepsOrRemoves, AreGone, LeavesNoMore, IsPutOnMedium, ArePutOnMedium}
use Rattle.journal.proofs.LineLemmas.{contains_at, at_contains}

-- ---- relations that compose

pub then_ways : (r s t : Tree) → SameWays r s → SameWays s t → SameWays r t
then_ways r s t a b = record { ways = λ q. b.ways q ∙ a.ways q }

pub kept_none : (old new : Tree) → new ≡ old → KeepsOrRemoves old new
kept_none old new e = record { each = λ q. inl (ap (λ (x : Tree). node_at x q) e); ways = same_ways old new e }

pub kept_then : (r s t : Tree) → KeepsOrRemoves r s → KeepsOrRemoves s t → KeepsOrRemoves r t
kept_then r s t a b = record {
  each = λ q. elim (b.each q) [
    | inl kept ↦ elim (a.each q) [ inl was ↦ inl (kept ∙ was) | inr gone ↦ inr (kept ∙ gone) ]
    | inr gone ↦ inr gone
  ];
  ways = then_ways r s t a.ways b.ways;
}

-- what was removed, or not
pub stage_kept : (s t : DiskState) (path : List ℕ) (r : Result (Unit {0}) DiskFault) → OnOk r (Removes s path t) → OnErr r (SameTree s t) → KeepsOrRemoves s.tree t.tree
stage_kept s t path (Err fault) gone same = kept_none s.tree t.tree same.tree
stage_kept s t path (Ok done) gone same = record {
  each = λ q. elim (same_or_other q gone.place) [ inl e ↦ inr (ap (node_at t.tree) e ∙ gone.gone) | inr n ↦ inl (gone.others q n) ];
  ways = removes_ways s path t gone;
}

pub removes_none : (lines : List Line) (s t : DiskState) → SameTree s t → RemovesStages lines s t
removes_none lines s t same = record {
  kept_or_gone = λ q. inl (ap (λ (x : Tree). node_at x q) same.tree);
  others = λ q n. ap (λ (x : Tree). node_at x q) same.tree;
  ways = same_ways s.tree t.tree same.tree;
  leaves = since_same (λ q content. ⊥) (IsStage lines) s t same;
  settled = λ q n is. settled_same s t same q is;
}

pub removes_then : (lines : List Line) (r s t : DiskState) → RemovesStages lines r s → RemovesStages lines s t → RemovesStages lines r t
removes_then lines r s t a b = record {
  kept_or_gone = λ q. elim (b.kept_or_gone q) [
    | inl kept ↦ elim (a.kept_or_gone q) [ inl was ↦ inl (kept ∙ was) | inr gone ↦ inr (kept ∙ gone) ]
    | inr gone ↦ inr gone
  ];
  others = λ q n. b.others q n ∙ a.others q n;
  ways = then_ways r.tree s.tree t.tree a.ways b.ways;
  leaves = since_then (λ q content. ⊥) (IsStage lines) r s t a.leaves b.leaves;
  settled = λ q n is. b.settled q n (a.settled q n is);
}

pub only_one : (line other : Line) → Contains (line ∷ []) other → line ≡ other
only_one line other has = elim (Contains-push_cases [] line other has) [ inl none ↦ absurd (omega (arith, none.1)) | inr same ↦ same ]

pub removes_among : (lines : List Line) (line : Line) → Contains lines line → (s t : DiskState) → RemovesStages (line ∷ []) s t → RemovesStages lines s t
removes_among lines line has s t r = record {
  kept_or_gone = r.kept_or_gone;
  others = λ q n. r.others q (λ is. n (among q is));
  ways = r.ways;
  leaves = since_more (λ q content. ⊥) (λ q content. ⊥) (IsStage (line ∷ [])) (IsStage lines) s t (λ q content none. absurd none) among r.leaves;
  settled = λ q n is. r.settled q (λ e. n (among q e)) is;
}
  where
    among : (q : NameList) → IsStage (line ∷ []) q → IsStage lines q
    among q (other, of, e) = (line, has, e ∙ ap stage_of (sym (only_one line other of)))

-- what is gone stays so
still_gone : (lines : List Line) (s t : DiskState) → RemovesStages lines s t → (q : NameList) → node_at s.tree q ≡ None → node_at t.tree q ≡ None
still_gone lines s t r q none = elim (r.kept_or_gone q) [ inl kept ↦ kept ∙ none | inr gone ↦ gone ]

-- ---- one stage

module _ (line : Line) (s : DiskState) (is : IsTree s.tree) (folders : HaveFolders s.tree (line ∷ [])) (stage : List ℕ) (text : stage ≡ path_text (stage_of line)) where
  -- its path names its place
  names_stage : named s.tree stage ≡ Some (stage_of line)
  names_stage = ap (named s.tree) text ∙ text_names s.tree is (parent_of (place_of line)) (reserved_name line.number) (folders line (first line [])) (reserved_is_name line.number)

  module _ (t : DiskState) (r : Removes s stage t) where
    at_stage : r.place ≡ stage_of line
    at_stage = same_Some _ _ (sym r.names ∙ names_stage)

    pub stage_removed : RemovesStages (line ∷ []) s t
    stage_removed = record {
      kept_or_gone = λ q. elim (same_or_other q r.place) [ inl e ↦ inr (ap (node_at t.tree) e ∙ r.gone) | inr n ↦ inl (r.others q n) ];
      others = λ q n. r.others q (λ e. n (line, first line [], e ∙ at_stage));
      ways = removes_ways s stage t r;
      leaves = since_loose (λ q content. ⊥) (IsStage (line ∷ [])) s t r.place _ r.advances (line, first line [], at_stage);
      settled = λ q n settled. settled_put s t r.place _ r.advances r.others q (λ e. n (line, first line [], e ∙ at_stage)) settled;
    }

    pub stage_gone : AreGone (line ∷ []) s t
    stage_gone other has stood = ap (node_at t.tree) (ap stage_of (sym (only_one line other has)) ∙ sym at_stage) ∙ r.gone

  -- there was none
  pub stage_absent : (t : DiskState) → CannotRemove s stage → AreGone (line ∷ []) s t
  stage_absent t none other has stood =
      let none_there : file_at s.tree (stage_of line) ≡ None = ap (option_and_then (file_at s.tree)) (sym names_stage) ∙ none in
      let e : file_at s.tree (stage_of other) ≡ None = ap (λ (l : Line). file_at s.tree (stage_of l)) (sym (only_one line other has)) ∙ none_there in
      absurd (no_some (file_at s.tree (stage_of other)) e stood)
    where
      no_some : (o : Option (List ℕ × ℕ)) → o ≡ None → IsSome o → ⊥
      no_some None e is = cc
      no_some (Some f) e is = cc

  pub stage_gone_after : (t : DiskState) (r : Result (Unit {0}) DiskFault) → OnOk r (Removes s stage t) → OnOk r (AreGone (line ∷ []) s t)
  stage_gone_after t (Ok done) gone = stage_gone t gone
  stage_gone_after t (Err fault) none = tt

  -- whether it was removed or refused
  pub stage_answered : (t : DiskState) (r : Result (Unit {0}) DiskFault) → OnOk r (Removes s stage t) → OnErr r (SameTree s t) → RemovesStages (line ∷ []) s t
  stage_answered t (Ok done) gone none = stage_removed t gone
  stage_answered t (Err fault) none same = removes_none (line ∷ []) s t same

-- ---- stages in turn

-- the state after so many lines
pub record IsClearedTo (lines : List Line) (start : DiskState) (n : ℕ) (now : DiskState) : Type 0 where
  pub removes : RemovesStages lines start now
  pub gone : (k : ℕ) (line : Line) → k < n → slice_get lines k ≡ Some line → IsSome (file_at start.tree (stage_of line)) → node_at now.tree (stage_of line) ≡ None

pub cleared_none : (lines : List Line) (start now : DiskState) → now ≡ start → IsClearedTo lines start 0 now
cleared_none lines start now same = subst (IsClearedTo lines start 0) (sym same) (record {
  removes = removes_none lines start start (record { tree = refl; clock = refl; outcomes = refl });
  gone = λ k line low at stood. absurd (omega arith);
})

module _ (lines : List Line) (start : DiskState) (folders : HaveFolders start.tree lines) (n : ℕ) (now : DiskState) (to : IsClearedTo lines start n now) (line : Line) (at : slice_get lines n ≡ Some line) where
  pub folder_now : HaveFolders now.tree (line ∷ [])
  folder_now other has =
      let there = folders line (contains_at lines n line at) in
      let still = same_directories to.removes.ways (parent_of (place_of line)) ∙ there in
      subst (λ (l : Line). IsTrue (is_directory_at now.tree (parent_of (place_of l)))) (only_one line other has) still

  pub removes_more : (next : DiskState) → RemovesStages (line ∷ []) now next → RemovesStages lines start next
  removes_more next r = removes_then lines start now next to.removes (removes_among lines line (contains_at lines n line at) now next r)

  pub cleared_more : (next : DiskState) → RemovesStages (line ∷ []) now next → AreGone (line ∷ []) now next → IsClearedTo lines start (n + 1) next
  cleared_more next r is_gone = record {
    removes = removes_more next r;
    gone = λ k other low is stood. elim (cases_lt k n) [
      | inl before ↦ still_gone (line ∷ []) now next r (stage_of other) (to.gone k other before is stood)
      | inr late ↦
          let here : k ≡ n = omega arith in
          let same : line ≡ other = sym (same_Some _ _ (sym is ∙ ap (slice_get lines) here ∙ at)) in
          subst (λ (l : Line). IsSome (file_at start.tree (stage_of l)) → node_at next.tree (stage_of l) ≡ None) same this stood
    ];
  }
    where
      this : IsSome (file_at start.tree (stage_of line)) → node_at next.tree (stage_of line) ≡ None
      this stood = elim (to.removes.kept_or_gone (stage_of line)) [
        | inl kept ↦ is_gone line (first line []) (subst (λ (o : Option Node). IsSome (file_node o)) (sym kept) stood)
        | inr none ↦ still_gone (line ∷ []) now next r (stage_of line) none
      ]

pub cleared_all : (lines : List Line) (start : DiskState) (n : ℕ) (now : DiskState) → length lines ≤ n → IsClearedTo lines start n now → AreGone lines start now
cleared_all lines start n now all to line has stood = to.gone has.0 line (omega (arith, has.1)) (at_contains lines line has) stood

-- ---- folders are put on the medium

pub no_more_same : (s t : DiskState) → SameTree s t → LeavesNoMore s t
no_more_same s t same = record {
  tree = same.tree;
  leaves = since_same (λ q content. ⊥) (λ q. ⊥) s t same;
  settled = λ q is. settled_same s t same q is;
}

pub no_more_then : (r s t : DiskState) → LeavesNoMore r s → LeavesNoMore s t → LeavesNoMore r t
no_more_then r s t a b = record {
  tree = b.tree ∙ a.tree;
  leaves = since_then (λ q content. ⊥) (λ q. ⊥) r s t a.leaves b.leaves;
  settled = λ q is. b.settled q (a.settled q is);
}

pub no_more_synced : (s t : DiskState) (path : List ℕ) → HoldsPresent s → SyncsFolder s path t → LeavesNoMore s t
no_more_synced s t path holds y = record {
  tree = y.tree;
  leaves = since_folder (λ q content. ⊥) (λ q. ⊥) s t y.folder holds y.advances;
  settled = λ q is. settled_folder s t y.folder y.tree y.advances q is;
}

pub only_still : (s t : DiskState) → LeavesNoMore s t → (q : NameList) (may : Option Content → Type 0) → IsOnly s q may → IsOnly t q may
only_still s t k q may only found l = elim (k.leaves.each t.clock k.leaves.later (omega arith) q found l) [
  | inl old ↦ only found old
  | inr (inl (content, e, none)) ↦ absurd none
  | inr (inr none) ↦ absurd none
]

-- the state after so many folders
pub record IsSyncedTo (lines : List Line) (start : DiskState) (n : ℕ) (now : DiskState) : Type 0 where
  pub kept : LeavesNoMore start now
  pub firsts : HaveFolders start.tree lines → (k : ℕ) (line : Line) → k < n → slice_get lines k ≡ Some line → IsPutOnMedium start (parent_of (place_of line)) now

pub synced_none : (lines : List Line) (start now : DiskState) → now ≡ start → IsSyncedTo lines start 0 now
synced_none lines start now same = subst (IsSyncedTo lines start 0) (sym same) (record {
  kept = no_more_same start start (record { tree = refl; clock = refl; outcomes = refl });
  firsts = λ folders k line low at. absurd (omega arith);
})

medium_still : (start now next : DiskState) (folder : NameList) → LeavesNoMore now next → IsPutOnMedium start folder now → IsPutOnMedium start folder next
medium_still start now next folder k is = record {
  gone = λ name none. only_still now next k (folder ++ name ∷ []) (λ found. found ≡ None) (is.gone name none);
  there = λ name stands settled. only_still now next k (folder ++ name ∷ []) (λ found. found ≡ content_at start.tree (folder ++ name ∷ [])) (is.there name stands settled);
}

module _ (lines : List Line) (start : DiskState) (n : ℕ) (now : DiskState) (is : IsTree now.tree) (holds : HoldsPresent now) (to : IsSyncedTo lines start n now) (line : Line) (at : slice_get lines n ≡ Some line)
    (next : DiskState) (path : List ℕ) (text : path ≡ path_text (parent_of (place_of line))) (y : SyncsFolder now path next) where
  folder : NameList
  folder = parent_of (place_of line)

  this : HaveFolders start.tree lines → IsPutOnMedium start (parent_of (place_of line)) next
  this folders =
      let there = folders line (contains_at lines n line at) in
      let still : IsTrue (is_directory_at now.tree (parent_of (place_of line))) = ap (λ (x : Tree). is_directory_at x (parent_of (place_of line))) to.kept.tree ∙ there in
      let leads : directory_of now.tree path ≡ Some (parent_of (place_of line)) = ap (directory_of now.tree) text ∙ text_directory now.tree (parent_of (place_of line)) is still in
      let same : y.folder ≡ parent_of (place_of line) = same_Some _ _ (sym y.leads ∙ leads) in
      subst (λ (f : NameList). IsPutOnMedium start f next) same (record {
        gone = λ name none. only_gone now next path y name (ap (λ (x : Tree). node_at x (y.folder ++ name ∷ [])) to.kept.tree ∙ none);
        there = λ name stands settled.
            let q : NameList = y.folder ++ name ∷ [] in
            let only = only_settled now next path y name (subst (λ (x : Tree). IsSome (file_at x (y.folder ++ name ∷ []))) (sym to.kept.tree) stands) (to.kept.settled (y.folder ++ name ∷ []) settled) in
            λ found l. only found l ∙ ap (λ (x : Tree). content_at x (y.folder ++ name ∷ [])) to.kept.tree;
      })

  pub synced_more : IsSyncedTo lines start (n + 1) next
  synced_more = record {
    kept = no_more_then start now next to.kept (no_more_synced now next path holds y);
    firsts = λ folders k other low is_at. elim (cases_lt k n) [
      | inl before ↦ medium_still start now next (parent_of (place_of other)) (no_more_synced now next path holds y) (to.firsts folders k other before is_at)
      | inr late ↦
          let here : k ≡ n = omega arith in
          let same : line ≡ other = sym (same_Some _ _ (sym is_at ∙ ap (slice_get lines) here ∙ at)) in
          subst (λ (l : Line). IsPutOnMedium start (parent_of (place_of l)) next) same (this folders)
    ];
  }

pub synced_all : (lines : List Line) (start : DiskState) (n : ℕ) (now : DiskState) → length lines ≤ n → IsSyncedTo lines start n now → HaveFolders start.tree lines → ArePutOnMedium lines start now
synced_all lines start n now all to folders line has = to.firsts folders has.0 line (omega (arith, has.1)) (at_contains lines line has)
