-- A regular file is given other bytes, and put on the medium.
use Rattle.std.proofs.Common.{◌≡◌, ◌⊎◌, inl, inr, ℕ, List, refl, sym, ◌∙◌, ap, subst, Bool, true, cond}
use Rattle.std.specs.Prelude.{Option, Some, None, IsSome, is_some, option_map}
use Rattle.std.specs.Option.{option_and_then}
use Rattle.std.proofs.lemmas.Option.{same_Some}
use Rattle.sd_io.specs.Tree.{NameList, Content, directory, link, file, other, Node, Tree, SameOrders, node_at, file_at, file_node, file_content, identity_of, identity_at, is_directory_at}
use Rattle.sd_io.specs.Paths.{reached}
use Rattle.sd_io.specs.Disk.{Advances, outcomes_now}
use Rattle.sd_io.specs.Files.{file_of, Writes, MayHaveWritten, Syncs}
use Rattle.sd_io.specs.Lists.{SyncsFolder}
use Rattle.mem_io.specs.MemNode.{content_with, with_bytes}
use Rattle.mem_io.specs.MemTree.{PutsBytes}
use Rattle.mem_io.specs.declared.log.Change.TheVariants as change
use Rattle.mem_io.specs.Medium.{Notes, NotesOnly, NotesWritten, NotesSynced, SameMedium}
use Rattle.mem_io.specs.declared.disk.MemDisk.{MemDisk}
use Rattle.mem_io.specs.MemDisk.{mem_state}
use Rattle.mem_io.proofs.log.ChangeLemmas.{folder_told}
use Rattle.mem_io.proofs.disk.MomentLemmas.{advances, same_told, kept_now}

-- a file is found just where one stands
file_found : (o : Option (List ℕ × ℕ)) (test : Bool) → test ≡ is_some o → test ≡ true → (f : List ℕ × ℕ) × (o ≡ Some f)
file_found None test is holds = cc
file_found (Some f) test is holds = (f, refl)

-- what a file holds
some_file : (o : Option (List ℕ × ℕ)) → IsSome o → (f : List ℕ × ℕ) × (o ≡ Some f)
some_file None e = cc
some_file (Some f) e = (f, refl)

-- a file with other bytes keeps its mode
file_with : (o : Option Node) (bytes : List ℕ) (f : List ℕ × ℕ) → file_node o ≡ Some f → file_node (option_map (λ node. with_bytes node bytes) o) ≡ Some (bytes, f.1)
file_with None bytes f is = cc
file_with (Some node) bytes f is = by node.content is
  where
    by : (content : Content) → file_content content ≡ Some f → file_content (content_with content bytes) ≡ Some (bytes, f.1)
    by directory e = cc
    by (link target) e = cc
    by (file old mode) e = ap (λ (g : List ℕ × ℕ). Some (bytes, g.1)) (same_Some (old, mode) f e)
    by other e = cc

-- and its device and inode, as every node does
same_identity : (o : Option Node) (bytes : List ℕ) → option_map identity_of (option_map (λ node. with_bytes node bytes) o) ≡ option_map identity_of o
same_identity None bytes = refl
same_identity (Some node) bytes = refl

-- so a file that is given other bytes is written
pub writes : (old new : MemDisk) (path bytes held : List ℕ) (found : Option NameList) (place : NameList) (test : Bool) → found ≡ reached (mem_state old).tree path true → found ≡ Some place
    → test ≡ is_some (file_at (mem_state old).tree place) → test ≡ true → held ≡ bytes → PutsBytes (mem_state old).tree place held (mem_state new).tree → SameOrders (mem_state old).tree (mem_state new).tree
    → Notes old.medium (change.Written place) new.medium → Writes (mem_state old) path bytes (mem_state new)
writes old new path bytes held found place test leads is asked holds copied puts orders noted =
    let before = (mem_state old).tree in
    let here = file_found (file_at before place) test asked holds in
    record {
      place = place;
      leads = sym leads ∙ is;
      before = here.0.0;
      mode = here.0.1;
      was = here.1;
      holds = ap file_node puts.holds ∙ file_with (node_at before place) held here.0 here.1 ∙ ap (λ (b : List ℕ). Some (b, here.0.1)) copied;
      identity = ap (option_map identity_of) puts.holds ∙ same_identity (node_at before place) held;
      others = puts.others;
      orders = orders;
      advances = advances old new (change.Written place) noted;
    }

-- ---- a call that is to fail

-- the file where the path leads may hold anything from now on, though it holds what it held
pub may_have_written : (old new : MemDisk) (path : List ℕ) → ((file_of (mem_state old).tree path ≡ None) × SameMedium old.medium new.medium) ⊎ NotesWritten old.medium path new.medium
    → MayHaveWritten (mem_state old) path (mem_state new)
may_have_written old new path (inl (none, same)) = inl (none, same_told old new same)
may_have_written old new path (inr n) =
    let f = some_file (file_at (mem_state old).tree n.place) n.is_file in
    let same = n.only.tree in
    inr (
      f.0.0,
      record {
        place = n.place;
        leads = n.leads;
        before = f.0.0;
        mode = f.0.1;
        was = f.1;
        holds = ap (λ (t : Tree). file_at t n.place) same ∙ f.1;
        identity = ap (λ (t : Tree). identity_at t n.place) same;
        others = λ q other. ap (λ (t : Tree). node_at t q) same;
        orders = λ folder. ap (λ (t : Tree). t.order folder) same;
        advances = advances old new (change.Written n.place) n.only.noted;
      },
    )

-- ---- on the medium

pub syncs : (old new : MemDisk) (path : List ℕ) (found : Option NameList) (place : NameList) (test : Bool) → found ≡ reached (mem_state old).tree path true → found ≡ Some place
    → test ≡ is_some (file_at (mem_state old).tree place) → test ≡ true → NotesSynced old.medium place new.medium → Syncs (mem_state old) path (mem_state new)
syncs old new path found place test leads is asked holds n = record {
  place = place;
  node = n.node;
  leads = record { place_reached = sym leads ∙ is; node_there = n.stands };
  is_file = sym asked ∙ holds;
  tree = n.only.tree;
  advances = advances old new (change.Synced place n.node) n.only.noted;
}

pub syncs_folder : (old new : MemDisk) (path : List ℕ) (found : Option NameList) (folder : NameList) (test : Bool) → found ≡ reached (mem_state old).tree path true → found ≡ Some folder
    → test ≡ is_directory_at (mem_state old).tree folder → test ≡ true → NotesOnly old.medium (change.FolderSynced folder) new.medium → SyncsFolder (mem_state old) path (mem_state new)
syncs_folder old new path found folder test leads is asked holds n = record {
  folder = folder;
  leads = ap (option_and_then (λ (place : NameList). cond (is_directory_at (mem_state old).tree place) (Some place) None)) (sym leads ∙ is) ∙ ap (λ b. cond b (Some folder) None) (sym asked ∙ holds);
  tree = n.tree;
  advances = subst (Advances (mem_state old) (mem_state new)) (folder_told (mem_state old).tree folder (outcomes_now (mem_state old)) (kept_now old)) (advances old new (change.FolderSynced folder) n.noted);
}
