-- What the code makes of an entry.
use Rattle.std.specs.Prelude.{◌≡◌, ◌⊎◌, ◌<◌, ℕ, Bool, IsTrue, ◌||◌, ◌&&◌, nat_lt, List, Option, Some, None, option_map}
use Rattle.sd_io.specs.Count.{HasRisen}
use Rattle.sd_io.specs.Tree.{Node}
use Rattle.sd_io.specs.declared.fault.DiskFault.{DiskFault}
use Rattle.sd_io.specs.declared.fault.DiskFault.TheVariants.{Absent, Taken, Failed, NoMemory}
use Rattle.sd_io.specs.declared.meta.Ident.{Ident}
use Rattle.walk_rest.specs.declared.entry.DirEntry.{DirEntry}
use Rattle.walk_rest.specs.declared.error.Error.{Error}
use Rattle.walk_rest.specs.declared.error.Error.TheVariants as error
use Rattle.walk_rest.specs.declared.level.Folder.{Folder}
use Rattle.walk_rest.specs.declared.options.Options.{Options}
use Rattle.walk_rest.specs.Plan.{Seen, fails, stays, enters, Manner, ancestor_with, ident_of}
use Rattle.walk_steps.specs.declared.inside.Inside.{Inside}
use Rattle.walk_steps.specs.declared.see.Sight.{Sight}
use Rattle.walk_steps.specs.declared.see.Sight.TheVariants.{Stays, Enters}

abbrev pub seen_of : Sight → Seen
seen_of (Stays entry) = stays entry
seen_of (Enters entry folder) = enters entry folder

-- a call on the entry failed: its item has the entry's depth, and its path, or none for the identity that the loop check needs
abbrev pub IsFailureAt : DirEntry → Error → Type 0
IsFailureAt entry failed = (failed ≡ error.Disk (Some entry.path) entry.depth) ⊎ (failed ≡ error.Disk None entry.depth)

-- on a disk that tells its tree an error stands in place of the entry for want of memory, or the disk failed and counted it, or it is due
abbrev pub FailsAsSeen : ℕ → ℕ → DirEntry → Seen → Error → Type 0
FailsAsSeen before now entry seen failed = (failed ≡ error.NoMemory) ⊎ ((IsFailureAt entry failed × HasRisen before now) ⊎ (seen ≡ fails failed))

-- links are followed, and the loop's identity is the one that is kept for the directory that it names
abbrev pub IsLoopIn : Bool → List Folder → Error → Type 0
IsLoopIn follows chain failed =
    (path : List ℕ) × (depth : ℕ) × (ident : Ident) × (folder : Folder) × (failed ≡ error.Loop path depth folder.path ident) × (ancestor_with ident chain ≡ Some folder) × IsTrue follows

-- on any other disk: for want of memory, the disk failed and counted it, it told of nothing and counted that, or its identities show a loop
abbrev pub HasCauseAt : Bool → ℕ → ℕ → DirEntry → List Folder → Error → Type 0
HasCauseAt follows before now entry chain failed =
    (failed ≡ error.NoMemory) ⊎ ((IsFailureAt entry failed × HasRisen before now) ⊎ (((failed ≡ error.Absent entry.path entry.depth) × (before < now)) ⊎ IsLoopIn follows chain failed))

-- the walk goes by this manner, as far as an entry is concerned
module _ {S : Type 0} where
  pub record GoesBy (inside : Inside S) (manner : Manner) : Type 0 where
    pub options : manner.options ≡ inside.options
    pub device : IsTrue inside.options.same_file_system → inside.device ≡ manner.device

  -- on a disk that tells its tree, by each manner that the walk goes by
  abbrev pub ByEachManner : Bool → Inside S → (Manner → Type 0) → Type 0
  ByEachManner tells inside P = IsTrue tells → (manner : Manner) → GoesBy inside manner → P manner

-- ---- parts of it

-- a call on what a path leads to was refused
abbrev pub refusal_of : DiskFault → List ℕ → ℕ → Error
refusal_of Absent path depth = error.Absent path depth
refusal_of Taken path depth = error.Disk (Some path) depth
refusal_of Failed path depth = error.Disk (Some path) depth
refusal_of NoMemory path depth = error.NoMemory

-- the identity of an entry that may be entered counts: its device, or for later loop checks
abbrev pub needs_ident : Options → DirEntry → Bool
needs_ident options entry = options.follow_links || (options.same_file_system && nat_lt 0 entry.depth)

-- this is what a directory is, as far as that counts
abbrev pub KnowsIdent : Options → DirEntry → Option Ident → Option Node → Type 0
KnowsIdent options entry ident node = IsTrue (needs_ident options entry) → ident ≡ option_map ident_of node

-- the path of the nearest directory with this identity
abbrev pub ancestor_path : Ident → List Folder → Option (List ℕ)
ancestor_path ident chain = option_map (λ (folder : Folder). folder.path) (ancestor_with ident chain)

-- a call on the entry failed and was counted, or there is no memory
abbrev pub FailsCounted : ℕ → ℕ → DirEntry → Error → Type 0
FailsCounted before now entry failed = (failed ≡ error.NoMemory) ⊎ (IsFailureAt entry failed × HasRisen before now)

-- an identity is that of an entered directory, of which this is the nearest one's path, or there is none
abbrev pub LoopsTo : List Folder → Option Ident → Option (List ℕ × Ident) → Type 0
LoopsTo chain None found = found ≡ None
LoopsTo chain (Some ident) None = ancestor_path ident chain ≡ None
LoopsTo chain (Some ident) (Some (path, same)) = (same ≡ ident) × (ancestor_path ident chain ≡ Some path)
