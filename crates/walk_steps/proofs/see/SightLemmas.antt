-- The nearest directory with an identity.
use Rattle.std.proofs.Common.{◌≡◌, ℕ, Bool, true, false, cond, List, [], ◌∷◌, ◌++◌, Option, Some, None, refl, ◌∙◌, ap}
use Rattle.std.specs.Prelude.{IsTrue, nat_eq, nat_lt, ◌&&◌, ◌||◌}
use Rattle.std.specs.Option.{option_map_or, option_and_then}
use Rattle.sd_io.specs.Disk.{DiskState}
use Rattle.sd_io.specs.Tree.{NameList, Node, Tree, Content, directory, link, file, other, node_at, is_directory_content}
use Rattle.sd_io.specs.Paths.{Leads}
use Rattle.sd_io.specs.Files.{LeadsNowhere, kind_of}
use Rattle.sd_io.specs.declared.meta.Kind.{Kind}
use Rattle.sd_io.specs.declared.meta.Kind.TheVariants as kind
use Rattle.sd_io.specs.declared.meta.Ident.{Ident}
use Rattle.walk_rest.specs.declared.level.Folder.{Folder}
use Rattle.walk_rest.specs.declared.level.Level.{Level}
use Rattle.walk_rest.specs.declared.entry.DirEntry.{DirEntry}
use Rattle.walk_rest.specs.declared.options.Options.{Options}
use Rattle.walk_rest.specs.Plan.{Seen, stays, enters, Manner, ancestor_with, same_ident, node_to, ident_of, is_foreign, folder_of, is_directory, is_link, seen_by, seen_directory, seen_link, seen_root_link}
use Rattle.walk_rest.specs.Level.{chain_above, with_folder}
use Rattle.walk_steps.specs.Seen.{ancestor_path, KnowsIdent}
use Rattle.std.specs.Prelude.{option_map}

pub chain_snoc : (chain : List Folder) (xs : List Level) (x : Level) → chain_above chain (xs ++ x ∷ []) ≡ with_folder x.folder (chain_above chain xs)
chain_snoc chain [] x = refl
chain_snoc chain (y ∷ xs) x = chain_snoc (with_folder y.folder chain) xs x

abbrev path_of : Folder → List ℕ
path_of folder = folder.path

-- it is found where it is there
pub found_here : (ident : Ident) (folder : Option Folder) (chain : List Folder) (path : List ℕ) → ancestor_path ident (with_folder folder []) ≡ Some path → ancestor_path ident (with_folder folder chain) ≡ Some path
found_here ident None chain path h = absurd (cc h)
found_here ident (Some folder) chain path h = by (option_map_or (same_ident ident) folder.ident false) h
  where
    by : (b : Bool) → option_map path_of (cond b (Some folder) None) ≡ Some path → option_map path_of (cond b (Some folder) (ancestor_with ident chain)) ≡ Some path
    by true k = k
    by false k = absurd (cc k)

-- it is looked for among the others where it isn't there
pub found_below : (ident : Ident) (folder : Option Folder) (chain : List Folder) → ancestor_path ident (with_folder folder []) ≡ None → ancestor_path ident (with_folder folder chain) ≡ ancestor_path ident chain
found_below ident None chain h = refl
found_below ident (Some folder) chain h = by (option_map_or (same_ident ident) folder.ident false) h
  where
    by : (b : Bool) → option_map path_of (cond b (Some folder) None) ≡ None → option_map path_of (cond b (Some folder) (ancestor_with ident chain)) ≡ ancestor_path ident chain
    by true k = absurd (cc k)
    by false k = refl

-- ---- what calls tell of an entry

pub node_led : (tree : Tree) (path : List ℕ) (follow : Bool) (place : NameList) (node : Node) → Leads tree path follow place node → node_to tree path follow ≡ Some node
node_led tree path follow place node h = ap (option_and_then (node_at tree)) h.place_reached ∙ h.node_there

pub node_none : (state : DiskState) (path : List ℕ) (follow : Bool) → LeadsNowhere state path follow → node_to state.tree path follow ≡ None
node_none state path follow h = ap (option_and_then (node_at state.tree)) h

pub directory_content : (content : Content) → kind_of content ≡ kind.Directory → is_directory_content content ≡ true
directory_content directory e = refl
directory_content (link target) e = absurd (cc e)
directory_content (file bytes mode) e = absurd (cc e)
directory_content other e = absurd (cc e)

pub other_content : (content : Content) → (kind_of content ≡ kind.Directory → ⊥) → is_directory_content content ≡ false
other_content directory e = absurd (e refl)
other_content (link target) e = refl
other_content (file bytes mode) e = refl
other_content other e = refl

-- a root link that leads to a directory is entered as that
pub root_directory : (manner : Manner) (entry : DirEntry) (node : Node) → entry.depth ≡ 0 → is_directory_content node.content ≡ true
    → seen_directory manner entry (Some node) ≡ seen_root_link manner entry (Some node)
root_directory manner entry node depth is = rw is (by manner.options.same_file_system entry.depth depth)
  where
    entered : Seen
    entered = enters entry (folder_of manner.options entry (Some node))

    by : (b : Bool) (d : ℕ) → d ≡ 0 → cond ((b && nat_lt 0 d) && is_foreign manner (Some node)) (stays entry) entered ≡ entered
    by true d e = rw e refl
    by false d e = refl

pub root_needs_none : (options : Options) (entry : DirEntry) (ident : Option Ident) (node : Option Node) → options.follow_links ≡ false → entry.depth ≡ 0 → KnowsIdent options entry ident node
root_needs_none options entry ident node follow depth = rw (follow, depth) (by options.same_file_system)
  where
    by : (b : Bool) → IsTrue (false || (b && false)) → ident ≡ option_map ident_of node
    by true h = absurd (cc h)
    by false h = absurd (cc h)

-- ---- an entry of each kind

pub link_kind : (k : Kind) → k ≡ kind.Link → is_link k ≡ true
link_kind k e = rw e refl

pub directory_kind : (k : Kind) → k ≡ kind.Directory → is_directory k ≡ true
directory_kind k e = rw e refl

pub seen_followed : (manner : Manner) (chain : List Folder) (entry : DirEntry) (node : Option Node) → manner.options.follow_links ≡ true → entry.kind ≡ kind.Link → seen_by manner chain entry node ≡ seen_link manner chain entry node
seen_followed manner chain entry at follow is = rw (follow, is) refl

pub seen_root : (manner : Manner) (chain : List Folder) (entry : DirEntry) (node : Option Node) → manner.options.follow_links ≡ false → entry.kind ≡ kind.Link → entry.depth ≡ 0 → manner.options.follow_root_links ≡ true
    → seen_by manner chain entry node ≡ seen_root_link manner entry node
seen_root manner chain entry node follow is depth root = at entry.kind is entry.depth depth
  where
    at : (k : Kind) → k ≡ kind.Link → (d : ℕ) → d ≡ 0
        → cond (manner.options.follow_links && is_link k) (seen_link manner chain entry node) (cond (is_directory k) (seen_directory manner entry node) (cond (is_link k && nat_eq d 0 && manner.options.follow_root_links) (seen_root_link manner entry node) (stays entry)))
        ≡ seen_root_link manner entry node
    at k e d f = rw (e, f, follow, root) refl

pub seen_as_directory : (manner : Manner) (chain : List Folder) (entry : DirEntry) (node : Option Node) → entry.kind ≡ kind.Directory → seen_by manner chain entry node ≡ seen_directory manner entry node
seen_as_directory manner chain entry node is = at entry.kind is manner.options.follow_links
  where
    at : (k : Kind) → k ≡ kind.Directory → (b : Bool)
        → cond (b && is_link k) (seen_link manner chain entry node) (cond (is_directory k) (seen_directory manner entry node) (cond (is_link k && nat_eq entry.depth 0 && manner.options.follow_root_links) (seen_root_link manner entry node) (stays entry)))
        ≡ seen_directory manner entry node
    at k e true = rw e refl
    at k e false = rw e refl
