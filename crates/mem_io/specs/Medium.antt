-- What the changes of a tree in memory do to it and to the log of its changes.
use Rattle.std.specs.Prelude.{◌≡◌, ◌≢◌, ◌⊎◌, ℕ, List, [], ◌∷◌, ◌++◌, Some, None, IsSome, true}
use Rattle.sd_io.specs.Tree.{NameList, Node, Tree, node_at, file_at}
use Rattle.sd_io.specs.Paths.{reached, named}
use Rattle.sd_io.specs.Files.{file_named}
use Rattle.sd_io.specs.Outcomes.{Outcomes}
use Rattle.mem_io.specs.Log.{outcomes_after}
use Rattle.mem_io.specs.MemTree.{tree_of, IsPlaceIn, dev_at}
use Rattle.mem_io.specs.declared.log.Change.{Change}
use Rattle.mem_io.specs.declared.log.Change.TheVariants as change
use Rattle.mem_io.specs.declared.medium.Medium.{Medium}

abbrev pub told_tree : Medium → Tree
told_tree m = tree_of m.tree.top m.tree.nodes.entries

abbrev pub changes_of : Medium → List Change
changes_of m = m.log.changes.items

-- the device that the top had at first
abbrev pub first_of : Medium → ℕ
first_of m = m.log.first_dev

-- what a crash may leave
abbrev pub outcomes_told : Medium → Outcomes
outcomes_told m = outcomes_after (first_of m) (changes_of m)

-- one change more is noted
pub record Notes (old : Medium) (change : Change) (new : Medium) : Type 0 where
  pub first : first_of new ≡ first_of old
  pub noted : changes_of new ≡ changes_of old ++ change ∷ []

-- the tree, its changes and the next number are as before
pub record SameMedium (old new : Medium) : Type 0 where
  pub tree : told_tree new ≡ told_tree old
  pub first : first_of new ≡ first_of old
  pub changes : changes_of new ≡ changes_of old
  pub number : new.tree.next_ino ≡ old.tree.next_ino

-- the change is noted, and the tree and the next number are as before
pub record NotesOnly (old : Medium) (change : Change) (new : Medium) : Type 0 where
  pub tree : told_tree new ≡ told_tree old
  pub noted : Notes old change new
  pub number : new.tree.next_ino ≡ old.tree.next_ino

-- the node that stands at the place is noted as built there
pub record NotesBuilt (old : Medium) (place : NameList) (new : Medium) : Type 0 where
  pub node : Node
  pub stands : node_at (told_tree new) place ≡ Some node
  pub noted : Notes old (change.Built place node) new

-- the node that stands at the place is noted as put on the medium
pub record NotesSynced (old : Medium) (place : NameList) (new : Medium) : Type 0 where
  pub node : Node
  pub stands : node_at (told_tree old) place ≡ Some node
  pub only : NotesOnly old (change.Synced place node) new

-- a file that the path leads to is noted as written
pub record NotesWritten (old : Medium) (path : List ℕ) (new : Medium) : Type 0 where
  pub place : NameList
  pub leads : reached (told_tree old) path true ≡ Some place
  pub is_file : IsSome (file_at (told_tree old) place)
  pub only : NotesOnly old (change.Written place) new

-- ---- renaming

-- a file stands at the path `from` itself, and nothing or a file at `to`
pub record CanRename (tree : Tree) (from to : List ℕ) (source target : NameList) : Type 0 where
  pub leaves : named tree from ≡ Some source
  pub comes : named tree to ≡ Some target
  pub is_file : IsSome (file_at tree source)
  pub is_place : IsPlaceIn tree target
  pub may_come : (node_at tree target ≡ None) ⊎ IsSome (file_at tree target)

-- something else than a file stands at the path itself
pub record StandsOther (tree : Tree) (path : List ℕ) : Type 0 where
  pub place : NameList
  pub names : named tree path ≡ Some place
  pub stands : IsSome (node_at tree place)
  pub no_file : file_at tree place ≡ None

-- no file stands at `from` itself, the folder of `to` is no directory, or something else than a file stands at `to`
abbrev pub IsHindered : Tree → List ℕ → List ℕ → Type 0
IsHindered tree from to = (file_named tree from ≡ None) ⊎ (named tree to ≡ None) ⊎ StandsOther tree to

-- the file is noted as moved with its device, unless both are one place
pub record NotesMoved (old : Medium) (source target : NameList) (new : Medium) : Type 0 where
  pub noted : source ≢ target → Notes old (change.Moved source target (dev_at (told_tree old) source)) new
  pub same : source ≡ target → SameMedium old new

-- the file is noted as not moved with its device, unless both are one place
pub record NotesNotMoved (old : Medium) (source target : NameList) (new : Medium) : Type 0 where
  pub noted : source ≢ target → NotesOnly old (change.NotMoved source target (dev_at (told_tree old) source)) new
  pub same : source ≡ target → SameMedium old new

-- a file that could come from the one path to the other is noted as not moved
pub record NotesUnmoved (old : Medium) (from to : List ℕ) (new : Medium) : Type 0 where
  pub source : NameList
  pub target : NameList
  pub can : CanRename (told_tree old) from to source target
  pub notes : NotesNotMoved old source target new
