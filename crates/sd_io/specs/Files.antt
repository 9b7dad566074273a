-- What the calls on files and paths do to a disk that tells its tree.
use Rattle.std.specs.Prelude.{◌≡◌, ◌≢◌, ◌⊎◌, ℕ, Bool, true, List, [], ◌∷◌, length, Option, Some, None, IsSome}
use Rattle.std.specs.List.{join_with_byte}
use Rattle.std.specs.Option.{option_and_then}
use Rattle.sd_io.specs.declared.meta.Kind.{Kind}
use Rattle.sd_io.specs.declared.meta.Kind.TheVariants as kind
use Rattle.sd_io.specs.declared.meta.Meta.{Meta}
use Rattle.sd_io.specs.declared.meta.Ident.{Ident}
use Rattle.sd_io.specs.Tree.{NameList, Content, directory, link, file, other, Node, Tree, SameBut, SameOrders, SameOrdersBut, node_at, file_at, identity_at}
use Rattle.sd_io.specs.Paths.{parent_of, reached, named, Leads}
use Rattle.sd_io.specs.Outcomes.{after_create, after_write, after_sync, after_move, after_no_move, after_remove}
use Rattle.sd_io.specs.Disk.{DiskState, SameTree, Advances, outcomes_now}

-- ---- stat, ident, resolve

abbrev pub kind_of : Content → Kind
kind_of directory = kind.Directory
kind_of (link target) = kind.Link
kind_of (file bytes mode) = kind.File
kind_of other = kind.Other

-- a regular file's number of bytes, 0 for all else
abbrev pub len_of : Content → ℕ
len_of directory = 0
len_of (link target) = 0
len_of (file bytes mode) = length bytes
len_of other = 0

-- the path leads nowhere
abbrev pub LeadsNowhere : DiskState → List ℕ → Bool → Type 0
LeadsNowhere old path follow_last = reached old.tree path follow_last ≡ None

-- the kind of the node that the path leads to, and a file's number of bytes
pub record Describes (old : DiskState) (path : List ℕ) (follow_last : Bool) (meta : Meta) : Type 0 where
  pub place : NameList
  pub node : Node
  pub leads : Leads old.tree path follow_last place node
  pub kind : meta.kind ≡ kind_of node.content
  pub len : meta.len ≡ len_of node.content

-- the device and the inode of the node that the path leads to
pub record Identifies (old : DiskState) (path : List ℕ) (ident : Ident) : Type 0 where
  pub place : NameList
  pub node : Node
  pub leads : Leads old.tree path true place node
  pub dev : ident.dev ≡ node.dev
  pub ino : ident.ino ≡ node.ino

-- `/` and the names joined by `/`
abbrev pub path_text : NameList → List ℕ
path_text place = 47 ∷ join_with_byte 47 place

-- the path of the node that the path leads to, without links
pub record Resolves (old : DiskState) (path text : List ℕ) : Type 0 where
  pub place : NameList
  pub node : Node
  pub leads : Leads old.tree path true place node
  pub text_is : text ≡ path_text place

-- ---- read_file

-- the bytes and the mode of the regular file that the path leads to
abbrev pub file_of : Tree → List ℕ → Option (List ℕ × ℕ)
file_of tree path = option_and_then (file_at tree) (reached tree path true)

-- the path leads to no regular file
abbrev pub IsNoFile : DiskState → List ℕ → Type 0
IsNoFile old path = file_of old.tree path ≡ None

-- these are the bytes of the regular file that the path leads to
abbrev pub Reads : DiskState → List ℕ → List ℕ → Type 0
Reads old path bytes = (mode : ℕ) × (file_of old.tree path ≡ Some (bytes, mode))

-- ---- create_like

-- A new empty file stands at the path, with the mode of the file that `like` leads to; nothing stood there. Every other folder
-- keeps its order.
pub record Creates (old : DiskState) (path like : List ℕ) (new : DiskState) : Type 0 where
  pub place : NameList
  pub names : named old.tree path ≡ Some place
  pub was_free : node_at old.tree place ≡ None
  pub bytes : List ℕ
  pub mode : ℕ
  pub model : file_of old.tree like ≡ Some (bytes, mode)
  pub stands : file_at new.tree place ≡ Some ([], mode)
  pub others : SameBut place old.tree new.tree
  pub orders : SameOrdersBut (parent_of place ∷ []) old.tree new.tree
  pub advances : Advances old new (after_create place (outcomes_now old))

-- the path's folder is no directory, or `like` leads to no regular file
abbrev pub CannotCreate : DiskState → List ℕ → List ℕ → Type 0
CannotCreate old path like = (named old.tree path ≡ None) ⊎ IsNoFile old like

-- the path's folder is a directory, `like` leads to a regular file, and something stands at the path
pub record IsTaken (old : DiskState) (path like : List ℕ) : Type 0 where
  pub place : NameList
  pub names : named old.tree path ≡ Some place
  pub stands : IsSome (node_at old.tree place)
  pub model : IsSome (file_of old.tree like)

-- ---- write_file, sync

-- the regular file that the path leads to holds these bytes; its mode, device and inode and each folder's order are kept
pub record Writes (old : DiskState) (path bytes : List ℕ) (new : DiskState) : Type 0 where
  pub place : NameList
  pub leads : reached old.tree path true ≡ Some place
  pub before : List ℕ
  pub mode : ℕ
  pub was : file_at old.tree place ≡ Some (before, mode)
  pub holds : file_at new.tree place ≡ Some (bytes, mode)
  pub identity : identity_at new.tree place ≡ identity_at old.tree place
  pub others : SameBut place old.tree new.tree
  pub orders : SameOrders old.tree new.tree
  pub advances : Advances old new (after_write place (outcomes_now old))

-- after a failure the file holds any bytes; where no file is, nothing changes
abbrev pub MayHaveWritten : DiskState → List ℕ → DiskState → Type 0
MayHaveWritten old path new = (IsNoFile old path × SameTree old new) ⊎ ((bytes : List ℕ) × Writes old path bytes new)

-- the path leads to a regular file, which is on the medium as it stands, and the tree stays
pub record Syncs (old : DiskState) (path : List ℕ) (new : DiskState) : Type 0 where
  pub place : NameList
  pub node : Node
  pub leads : Leads old.tree path true place node
  pub is_file : IsSome (file_at old.tree place)
  pub tree : new.tree ≡ old.tree
  pub advances : Advances old new (after_sync place node (outcomes_now old))

-- ---- rename, remove

-- the regular file that stands at the path itself
abbrev pub file_named : Tree → List ℕ → Option (List ℕ × ℕ)
file_named tree path = option_and_then (file_at tree) (named tree path)

-- something else than a regular file stands at the path itself
pub record IsOther (old : DiskState) (path : List ℕ) : Type 0 where
  pub place : NameList
  pub names : named old.tree path ≡ Some place
  pub stands : IsSome (node_at old.tree place)
  pub no_file : file_at old.tree place ≡ None

-- The file at `from` stands at `to`, where nothing or a regular file stood, and `from` is free unless both are one place. Every
-- folder but theirs keeps its order.
pub record Renames (old : DiskState) (from to : List ℕ) (new : DiskState) : Type 0 where
  pub source : NameList
  pub target : NameList
  pub leaves : named old.tree from ≡ Some source
  pub comes : named old.tree to ≡ Some target
  pub is_file : IsSome (file_at old.tree source)
  pub may_come : (node_at old.tree target ≡ None) ⊎ IsSome (file_at old.tree target)
  pub moved : node_at new.tree target ≡ node_at old.tree source
  pub gone : source ≢ target → node_at new.tree source ≡ None
  pub others : (q : NameList) → q ≢ source → q ≢ target → node_at new.tree q ≡ node_at old.tree q
  pub orders : SameOrdersBut (parent_of source ∷ parent_of target ∷ []) old.tree new.tree
  pub kept : source ≡ target → SameTree old new
  pub advances : source ≢ target → Advances old new (after_move source target (outcomes_now old))

-- the file stays at `from`, though nothing hindered it to stand at `to`: a crash may leave it at both, at either, or at none
pub record RenamesNot (old : DiskState) (from to : List ℕ) (new : DiskState) : Type 0 where
  pub source : NameList
  pub target : NameList
  pub leaves : named old.tree from ≡ Some source
  pub comes : named old.tree to ≡ Some target
  pub is_file : IsSome (file_at old.tree source)
  pub may_come : (node_at old.tree target ≡ None) ⊎ IsSome (file_at old.tree target)
  pub tree : new.tree ≡ old.tree
  pub kept : source ≡ target → SameTree old new
  pub advances : source ≢ target → Advances old new (after_no_move source target (outcomes_now old))

-- no regular file stands at `from` itself, the folder of `to` is no directory, or something else than a regular file stands at `to`
abbrev pub CannotRename : DiskState → List ℕ → List ℕ → Type 0
CannotRename old from to = (file_named old.tree from ≡ None) ⊎ (named old.tree to ≡ None) ⊎ IsOther old to

-- after a failure both names are as before or as after; where it can't be done, nothing changes
abbrev pub MayHaveRenamed : DiskState → List ℕ → List ℕ → DiskState → Type 0
MayHaveRenamed old from to new = (CannotRename old from to × SameTree old new) ⊎ RenamesNot old from to new ⊎ Renames old from to new

-- a regular file stood at the path itself, which is free; every other folder keeps its order
pub record Removes (old : DiskState) (path : List ℕ) (new : DiskState) : Type 0 where
  pub place : NameList
  pub names : named old.tree path ≡ Some place
  pub was_file : IsSome (file_at old.tree place)
  pub gone : node_at new.tree place ≡ None
  pub others : SameBut place old.tree new.tree
  pub orders : SameOrdersBut (parent_of place ∷ []) old.tree new.tree
  pub advances : Advances old new (after_remove place (outcomes_now old))

-- no regular file stands at the path itself
abbrev pub CannotRemove : DiskState → List ℕ → Type 0
CannotRemove old path = file_named old.tree path ≡ None
