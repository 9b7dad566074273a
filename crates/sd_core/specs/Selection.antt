-- What a command on a tree works on.
use Rattle.std.specs.Prelude.{◌≡◌, ℕ, List, true, Some}
use Rattle.sd_io.specs.Tree.{NameList, Tree}
use Rattle.sd_io.specs.Paths.{reached}
use Rattle.chosen_files.specs.Chosen.{IsChosen, ListsChosen}
use Rattle.chosen_files.specs.Below.{HasFewerBelow, HasManyBelow}
use Rattle.chosen_files.specs.Kept.{IsKept, ListsKept}
use Rattle.chosen_files.specs.Seen.{HasFewerSeen, HasManySeen}
use Rattle.sd_ignore.specs.declared.rule.Rule.{Rule}

-- The files of a tree that a command works on, and how many entries are looked at for that.
pub record Selection : Type 1 where
  -- the root and the globs, as they were given
  pub root : List ℕ
  pub globs : List (List ℕ)
  -- the place is that of a selected file
  pub IsOne : Tree → NameList → Type 0
  -- these are the paths of the selected files and their places, in order
  pub Lists : Tree → List (List ℕ) → List NameList → Type 0
  -- fewer entries than so many are looked at, or so many and more
  pub HasFewer : ℕ → Tree → Type 0
  pub HasMany : ℕ → Tree → Type 0

-- these are the paths of the selected files, in order
abbrev pub ListsSelected : Selection → Tree → List (List ℕ) → Type 0
ListsSelected selection tree paths = (places : List NameList) × selection.Lists tree paths places

-- ---- by globs

-- one of the chosen files below the node that a root leads to, links followed
abbrev pub IsChosenBelow : Tree → List ℕ → List (List ℕ) → NameList → Type 0
IsChosenBelow tree root globs place = (top : NameList) × (reached tree root true ≡ Some top) × IsChosen tree top globs place

-- these are the paths and the places of the chosen files
abbrev pub ListsChosenAt : Tree → List ℕ → List (List ℕ) → List (List ℕ) → List NameList → Type 0
ListsChosenAt tree root globs paths places = (listed : ListsChosen tree root globs paths) × (places ≡ listed.places)

-- the regular nonempty files below the root whose path there fits a glob; each entry below the root is looked at
abbrev pub by_globs : List ℕ → List (List ℕ) → Selection
by_globs root globs = record {
  root = root;
  globs = globs;
  IsOne = λ tree place. IsChosenBelow tree root globs place;
  Lists = λ tree paths places. ListsChosenAt tree root globs paths places;
  HasFewer = λ cap tree. HasFewerBelow cap tree root;
  HasMany = λ cap tree. HasManyBelow cap tree root;
}

-- ---- by globs and rules of what is ignored

-- one of the kept files below the node that a root leads to, links followed
abbrev pub IsKeptBelow : Tree → List ℕ → List (List ℕ) → List Rule → NameList → Type 0
IsKeptBelow tree root globs rules place = (top : NameList) × (reached tree root true ≡ Some top) × IsKept tree top globs rules place

-- these are the paths and the places of the kept files
abbrev pub ListsKeptAt : Tree → List ℕ → List (List ℕ) → List Rule → List (List ℕ) → List NameList → Type 0
ListsKeptAt tree root globs rules paths places = (listed : ListsKept tree root globs rules paths) × (places ≡ listed.places)

-- of the chosen files those that the rules don't ignore; the entries of the root are looked at, and of the directories below it that aren't ignored
abbrev pub by_rules : List ℕ → List (List ℕ) → List Rule → Selection
by_rules root globs rules = record {
  root = root;
  globs = globs;
  IsOne = λ tree place. IsKeptBelow tree root globs rules place;
  Lists = λ tree paths places. ListsKeptAt tree root globs rules paths places;
  HasFewer = λ cap tree. HasFewerSeen cap tree root rules;
  HasMany = λ cap tree. HasManySeen cap tree root rules;
}
