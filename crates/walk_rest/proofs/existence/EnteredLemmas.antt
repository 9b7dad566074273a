-- What a walk enters.
use Rattle.std.proofs.Common.{◌≡◌, Bool, true, false, cond, List, Option, Some, None, refl, sym, ◌∙◌, ap}
use Rattle.std.specs.Prelude.{nat_eq, nat_lt, ◌&&◌}
use Rattle.sd_io.specs.Tree.{Node, is_directory_content}
use Rattle.walk_rest.specs.declared.entry.DirEntry.{DirEntry}
use Rattle.walk_rest.specs.declared.level.Folder.{Folder}
use Rattle.walk_rest.specs.Plan.{Manner, stays, enters, seen_by, seen_link, seen_target, seen_unfollowed, seen_directory, seen_root_link, is_foreign, followed_entry, folder_of, ident_of, ancestor_with, is_directory, is_link}

-- why an entry is entered, by the node that its path leads to
pub data Entered (manner : Manner) (chain : List Folder) (entry : DirEntry) (folder : Folder) : Option Node → Type 0 where
  -- a directory
  itself : {node : Option Node} → is_directory entry.kind ≡ true → Entered manner chain entry folder node
  -- a root link to one
  by_root : (node : Node) → is_directory_content node.content ≡ true → nat_eq entry.depth 0 ≡ true
      → Entered manner chain entry folder (Some node)
  -- a link that is followed to one that isn't entered yet
  by_link : (node : Node) → is_directory_content node.content ≡ true → folder.ident ≡ Some (ident_of node)
      → ancestor_with (ident_of node) chain ≡ None → Entered manner chain entry folder (Some node)

-- and where
pub record EnteredAt (manner : Manner) (chain : List Folder) (entry : DirEntry) (node : Option Node) (folder : Folder) : Type 0 where
  pub path : folder.path ≡ entry.path
  pub entered : Entered manner chain entry folder node

-- the folder of an entry that is entered
same_folder : (s t : DirEntry) (f g : Folder) → enters s f ≡ enters t g → f ≡ g
same_folder s t f g e = cc

-- unless its device is another's, a directory is entered
directory_entered : (manner : Manner) (entry s : DirEntry) (node : Option Node) (folder : Folder)
    → seen_directory manner entry node ≡ enters s folder → folder_of manner.options entry node ≡ folder
directory_entered manner entry s node folder = by (manner.options.same_file_system && nat_lt 0 entry.depth && is_foreign manner node)
  where
    by : (b : Bool) → cond b (stays entry) (enters entry (folder_of manner.options entry node)) ≡ enters s folder
        → folder_of manner.options entry node ≡ folder
    by true e = cc
    by false e = same_folder _ _ _ _ e

module _ (manner : Manner) (chain : List Folder) (entry s : DirEntry) (folder : Folder) where
  root_link_entered : (node : Option Node) → nat_eq entry.depth 0 ≡ true → seen_root_link manner entry node ≡ enters s folder
      → EnteredAt manner chain entry node folder
  root_link_entered None at_root e = cc
  root_link_entered (Some node) at_root e = by (is_directory_content node.content) refl e
    where
      by : (b : Bool) → is_directory_content node.content ≡ b
          → cond b (enters entry (folder_of manner.options entry (Some node))) (stays entry) ≡ enters s folder
          → EnteredAt manner chain entry (Some node) folder
      by true there e = record { path = ap (λ (f : Folder). f.path) (sym (same_folder _ _ _ _ e)); entered = by_root node there at_root }
      by false there e = cc

  target_entered : (node : Node) (ancestor : Option Folder) → manner.options.follow_links ≡ true → is_directory_content node.content ≡ true
      → ancestor_with (ident_of node) chain ≡ ancestor
      → seen_target manner entry node ancestor ≡ enters s folder → EnteredAt manner chain entry (Some node) folder
  target_entered node (Some ancestor) links there first e = cc
  target_entered node None links there first e =
      let same = directory_entered manner (followed_entry entry node) s (Some node) folder e in
      record { path = ap (λ (f : Folder). f.path) (sym same); entered = by_link node there (ap (λ (f : Folder). f.ident) (sym same) ∙ rw links refl) first }

  link_entered : (node : Option Node) → manner.options.follow_links ≡ true → seen_link manner chain entry node ≡ enters s folder
      → EnteredAt manner chain entry node folder
  link_entered None links e = cc
  link_entered (Some node) links e = by (is_directory_content node.content) refl e
    where
      by : (b : Bool) → is_directory_content node.content ≡ b
          → cond b (seen_target manner entry node (ancestor_with (ident_of node) chain)) (stays (followed_entry entry node)) ≡ enters s folder
          → EnteredAt manner chain entry (Some node) folder
      by true there e = target_entered node (ancestor_with (ident_of node) chain) links there refl e
      by false there e = cc

  unfollowed_entered : (node : Option Node) → seen_unfollowed manner entry node ≡ enters s folder → EnteredAt manner chain entry node folder
  unfollowed_entered node e = by (is_directory entry.kind) refl (is_link entry.kind) (nat_eq entry.depth 0) refl manner.options.follow_root_links e
    where
      by : (d : Bool) → is_directory entry.kind ≡ d → (l top : Bool) → nat_eq entry.depth 0 ≡ top → (follow : Bool)
          → cond d (seen_directory manner entry node) (cond (l && top && follow) (seen_root_link manner entry node) (stays entry)) ≡ enters s folder
          → EnteredAt manner chain entry node folder
      by true d l top t follow e = record { path = ap (λ (f : Folder). f.path) (sym (directory_entered manner entry s node folder e)); entered = itself d }
      by false d true true t true e = root_link_entered node t e
      by false d true true t false e = cc
      by false d true false t follow e = cc
      by false d false top t follow e = cc

  pub entered_by : (node : Option Node) → seen_by manner chain entry node ≡ enters s folder → EnteredAt manner chain entry node folder
  entered_by node e = by manner.options.follow_links refl (is_link entry.kind) e
    where
      by : (follow : Bool) → manner.options.follow_links ≡ follow → (l : Bool)
          → cond (follow && l) (seen_link manner chain entry node) (seen_unfollowed manner entry node) ≡ enters s folder
          → EnteredAt manner chain entry node folder
      by true links true e = link_entered node links e
      by true links false e = unfollowed_entered node e
      by false links l e = unfollowed_entered node e
