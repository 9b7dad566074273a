-- What each noted change keeps.
use Rattle.std.proofs.Common.{◌≡◌, ◌≢◌, ℕ, List, [], ◌∷◌, ◌++◌, refl, sym, ◌∙◌, ap, subst, Bool, true, false}
use Rattle.std.specs.Prelude.{Option, Some, None, IsSome, is_some}
use Rattle.std.specs.Borrow.{Bor}
use Rattle.sd_io.specs.Paths.{named}
use Rattle.std.specs.Str.{bytes_eq}
use Rattle.std.specs.Option.{option_map}
use Rattle.std.specs.Cmp.Lexicographic.{pointwise, pointwise_decides, bytes_decides}
use Rattle.sd_io.specs.Tree.{NameList, Content, directory, link, file, other, Node, Tree, node_at, file_at, file_node, file_content}
use Rattle.sd_io.specs.Outcomes.{Outcomes, built, put}
use Rattle.mem_io.specs.MemNode.{content_with, with_bytes, now_of}
use Rattle.mem_io.specs.MemTree.{Moves, PutsBytes}
use Rattle.mem_io.specs.declared.log.Change.{Change}
use Rattle.mem_io.specs.declared.log.ChangeLog.{ChangeLog}
use Rattle.mem_io.specs.MemDevices.{PutsDeviceBy}
use Rattle.mem_io.specs.Medium.{StandsOther}
use Rattle.mem_io.proofs.log.DeviceKeptLemmas.{device_keeps}
use Rattle.mem_io.proofs.log.TellingLemmas.{now_told}
use Rattle.mem_io.specs.Log.{after, outcomes_after, IsKept}
use Rattle.mem_io.proofs.log.ToldLemmas.{after_last}

-- what is kept after the last change is kept
pub kept_after : (tree : Tree) (first reserved_first now_first : ℕ) (before reserved now : List Change) (change : Change) → reserved_first ≡ first → now_first ≡ reserved_first → reserved ≡ before → now ≡ reserved ++ change ∷ []
    → IsKept tree (after change (outcomes_after first before)) → IsKept tree (outcomes_after now_first now)
kept_after tree first reserved_first now_first before reserved now change first_reserved first_now same noted kept =
    subst (IsKept tree)
    (sym ((λ i. outcomes_after ((first_now ∙ first_reserved) i) ((noted ∙ ap (λ (cs : List Change). cs ++ change ∷ []) same) i)) ∙ after_last first before change)) kept

-- ---- places

pub one_place : (p q : NameList) (test : Bool) → test ≡ pointwise bytes_eq p q → test ≡ true → p ≡ q
one_place p q test asked holds = (pointwise_decides bytes_decides p q).0 (sym asked ∙ holds)

pub two_places : (p q : NameList) (test : Bool) → test ≡ pointwise bytes_eq p q → test ≡ false → p ≢ q
two_places p q test asked fails e = cc (sym fails ∙ asked ∙ (pointwise_decides bytes_decides p q).1 e)

-- a file that is renamed onto its own place stays
pub moves_nowhere : (tree : Tree) (p q : NameList) → p ≡ q → Moves tree p q tree
moves_nowhere tree p q same = record {
  moved = ap (node_at tree) (sym same);
  gone = λ two. absurd (two same);
  others = λ r m n. refl;
}

-- ---- files

-- a file with other bytes is one
pub still_file : (o : Option Node) (bytes : List ℕ) → IsSome (file_node o) → IsSome (file_node (option_map (λ node. with_bytes node bytes) o))
still_file None bytes is = cc
still_file (Some node) bytes is = by node.content is
  where
    by : (content : Content) → IsSome (file_content content) → IsSome (file_content (content_with content bytes))
    by directory e = cc
    by (link target) e = cc
    by (file old mode) e = refl
    by other e = cc

pub puts_file : (old new : Tree) (place : NameList) (bytes : List ℕ) → PutsBytes old place bytes new → IsSome (file_at old place) → IsSome (file_at new place)
puts_file old new place bytes puts is = subst (λ o. IsSome (file_node o)) (sym puts.holds) (still_file (node_at old place) bytes is)

-- ---- builders

-- the node that is noted is the one that was built
pub built_kept : (tree : Tree) (place noted : NameList) (want node : Node) (outcomes : Outcomes) → noted ≡ place → node ≡ want → IsKept tree (put place (built want) outcomes) → IsKept tree (put noted (built node) outcomes)
built_kept tree place noted want node outcomes here same kept =
    subst (λ (q : NameList). IsKept tree (put q (built node) outcomes)) (sym here) (subst (λ (n : Node). IsKept tree (put place (built n) outcomes)) (sym same) kept)

-- ---- another device

-- the tree and what a crash may leave have the device, or both are as before
pub device_kept : (old new : Tree) (path : List ℕ) (dev : ℕ) (log told : ChangeLog) (stands : Bool) → (stands ≡ true → PutsDeviceBy old path dev new log told) → (stands ≡ false → new ≡ old) → (stands ≡ false → told ≡ log)
    → IsKept old (outcomes_after log.first_dev log.changes.items) → IsKept new (outcomes_after told.first_dev told.changes.items)
device_kept old new path dev log told true puts same same_log kept =
    let p = puts refl in
    subst (IsKept new) (sym (now_told p.place dev log told p.tells)) (device_keeps old new p.place dev (outcomes_after log.first_dev log.changes.items) p.puts kept)
device_kept old new path dev log told false puts same same_log kept =
    subst (λ (l : ChangeLog). IsKept new (outcomes_after l.first_dev l.changes.items)) (sym (same_log refl)) (subst (λ (t : Tree). IsKept t (outcomes_after log.first_dev log.changes.items)) (sym (same refl)) kept)

-- ---- renaming

-- a node that is no file stands at a path
pub stands_other : (tree : Tree) (path : List ℕ) (found : Option NameList) (place : NameList) (node : Option (Bor Node)) (some is_file : Bool) → found ≡ named tree path → found ≡ Some place → now_of node ≡ node_at tree place
    → some ≡ is_some node → some ≡ true → is_file ≡ is_some (file_at tree place) → is_file ≡ false → StandsOther tree path
stands_other tree path found place node some is_file names is there asked holds tested fails = record {
  place = place;
  names = sym names ∙ is;
  stands = standing node (node_at tree place) there (sym asked ∙ holds);
  no_file = nothing (file_at tree place) (sym tested ∙ fails);
}
  where
    standing : (n : Option (Bor Node)) (o : Option Node) → now_of n ≡ o → is_some n ≡ true → IsSome o
    standing None o is e = cc
    standing (Some m) o is e = ap is_some (sym is)

    nothing : (f : Option (List ℕ × ℕ)) → is_some f ≡ false → f ≡ None
    nothing None e = refl
    nothing (Some f) e = cc
