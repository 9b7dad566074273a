-- How many entries a step lists.
use Rattle.std.specs.Prelude.{◌≡◌, ◌⊎◌, ◌+◌, ◌≤◌, ◌<◌, ℕ, false, nat_lt, if◌then◌else◌, List, [], ◌∷◌, length, Option, Some, None, Ok, Err}
use Rattle.sd_io.specs.Disk.{DiskState}
use Rattle.sd_io.specs.Tree.{Tree}
use Rattle.sd_io.specs.declared.meta.RawEntry.{RawEntry}
use Rattle.walk_rest.specs.declared.entry.DirEntry.{DirEntry}
use Rattle.walk_rest.specs.declared.level.Folder.{Folder}
use Rattle.walk_rest.specs.declared.level.Entries.{Entries}
use Rattle.walk_rest.specs.declared.level.Entries.TheVariants.{Unread, Open, Kept}
use Rattle.walk_rest.specs.declared.level.Level.{Level}
use Rattle.walk_rest.specs.declared.options.Options.{Options}
use Rattle.walk_rest.specs.Plan.{Item, ListsNames}
use Rattle.walk_steps.specs.Sound.{opens}

-- each entry is given as it comes: there is no least depth, and a directory comes before its contents
pub record GivesAtOnce (options : Options) : Type 0 where
  pub least : options.min_depth ≡ 0
  pub before : options.contents_first ≡ false

-- ---- directories that are entered at once

abbrev pub folders_in : Option Folder → ℕ
folders_in None = 0
folders_in (Some folder) = 1

-- how many directories are entered: levels with a folder
abbrev pub entered_in : List Level → ℕ
entered_in [] = 0
entered_in (level ∷ levels) = folders_in level.folder + entered_in levels

-- ---- what a step lists whole

-- so many entries are listed as it is read: all those of a directory that lies unread and below this depth
abbrev pub IsToList : Tree → ℕ → Option Folder → Entries → ℕ → Type 0
IsToList tree deepest None entries count = count ≡ 0
IsToList tree deepest (Some folder) Unread count =
    ((deepest ≤ folder.depth) × (count ≡ 0)) ⊎ ((folder.depth < deepest) × ((listed : List RawEntry) × ListsNames tree folder.path listed × (count ≡ length listed)))
IsToList tree deepest (Some folder) (Open list) count = count ≡ 0
IsToList tree deepest (Some folder) (Kept kept) count = count ≡ 0

-- so many entries are listed as the topmost level is read
abbrev pub IsToListOnTop : Tree → ℕ → Option Level → ℕ → Type 0
IsToListOnTop tree deepest None count = count ≡ 0
IsToListOnTop tree deepest (Some level) count = IsToList tree deepest level.folder level.entries count

-- ---- entries below the root

-- an entry counts where it lies below the root
abbrev pub below_one : DirEntry → ℕ
below_one entry = if nat_lt 0 entry.depth then 1 else 0

-- how many entries below the root an answer gives
abbrev pub gives_below : Option Item → ℕ
gives_below None = 0
gives_below (Some (Ok entry)) = below_one entry
gives_below (Some (Err failed)) = 0

abbrev pub waits_first : Option DirEntry → ℕ
waits_first None = 0
waits_first (Some entry) = below_one entry

-- the root's own entry lies in no folder
abbrev pub waits_kept : Option Folder → Entries → ℕ
waits_kept None entries = 0
waits_kept (Some folder) Unread = 0
waits_kept (Some folder) (Open list) = 0
waits_kept (Some folder) (Kept kept) = length kept.items

abbrev pub waits_of : Level → ℕ
waits_of level = waits_first level.first + waits_kept level.folder level.entries

-- how many entries below the root are kept to be given
abbrev pub waits_in : List Level → ℕ
waits_in [] = 0
waits_in (level ∷ levels) = waits_of level + waits_in levels

-- Each entry below the root that is given was listed: so many that are given, with those that wait now and didn't before, are at most as many as the
-- count of listed entries rose.
abbrev pub GivesListed : ℕ → DiskState → List Level → DiskState → List Level → Type 0
GivesListed given old before new after = given + waits_in after + old.listed ≤ waits_in before + new.listed

-- ---- parts of it

-- nothing is listed as it is read
abbrev pub IsSettled : ℕ → Option Folder → Entries → Type 0
IsSettled deepest None entries = Unit {0}
IsSettled deepest (Some folder) Unread = deepest ≤ folder.depth
IsSettled deepest (Some folder) (Open list) = Unit {0}
IsSettled deepest (Some folder) (Kept kept) = Unit {0}

abbrev pub IsTopSettled : ℕ → Option Level → Type 0
IsTopSettled deepest None = Unit {0}
IsTopSettled deepest (Some level) = IsSettled deepest level.folder level.entries

-- one more list may be open, or none will be
abbrev pub HasRoom : ℕ → ℕ → List Level → Option Level → Type 0
HasRoom limit deepest stack top = (opens stack < limit) ⊎ IsTopSettled deepest top
