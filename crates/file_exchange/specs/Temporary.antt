-- What the steps of an exchange do.
use Rattle.std.specs.Prelude.{◌≡◌, ◌≢◌, ◌⊎◌, ℕ, List, [], ◌∷◌, Option, Some, None, IsSome}
use Rattle.sd_io.specs.Tree.{NameList, Content, file, Tree, SameBut, node_at, file_at}
use Rattle.sd_io.specs.Paths.{named}
use Rattle.sd_io.specs.Count.{HasRisen}
use Rattle.sd_io.specs.Files.{path_text, Removes, CannotRemove}
use Rattle.sd_io.specs.Outcomes.{Leaves, own, any_file, own_of}
use Rattle.sd_io.specs.Disk.{DiskState, outcomes_now}
use Rattle.sd_io.specs.Crashes.{LeavesSince, SettledBut}
use Rattle.sd_io.specs.Lists.{SyncsFolder}
use Rattle.file_exchange.specs.Reserved.{FirstFree, IsFolderPath}
use Rattle.file_exchange.specs.declared.reserved.Temporary.{Temporary}

-- ---- a temporary file is created

-- A new empty file with the mode of the one at the place `like` stands at the first reserved name that was free in the folder; it has this number and
-- this path. A crash may leave anything there, and elsewhere what it could before.
pub record CreatesTemporary (old : DiskState) (folder like : NameList) (made : Temporary) (new : DiskState) : Type 0 where
  pub temporary : NameList
  pub was_free : FirstFree old.tree folder temporary
  pub number_is : made.number ≡ was_free.reserved.0
  pub path_is : made.path ≡ path_text temporary
  pub bytes : List ℕ
  pub mode : ℕ
  pub model : file_at old.tree like ≡ Some (bytes, mode)
  pub stands : file_at new.tree temporary ≡ Some ([], mode)
  pub others : SameBut temporary old.tree new.tree
  pub fresh : own_of (outcomes_now new temporary) ≡ own any_file ∷ []
  pub leaves : LeavesSince (λ q content. ⊥) (λ q. q ≡ temporary) old new
  pub settled : SettledBut temporary old new

-- ---- it is written and put in the file's place

-- the paths name two places, at each of which a regular file stands, the first a new one
pub record IsReady (old : DiskState) (from to : List ℕ) : Type 0 where
  pub source : NameList
  pub target : NameList
  pub leaves : named old.tree from ≡ Some source
  pub comes : named old.tree to ≡ Some target
  pub are_two : source ≢ target
  pub before : List ℕ
  pub mode : ℕ
  pub was : file_at old.tree source ≡ Some (before, mode)
  pub comes_to_file : IsSome (file_at old.tree target)
  pub fresh : own_of (outcomes_now old source) ≡ own any_file ∷ []

-- only what stands at the path may have changed, which is a regular file
pub record ChangesOnly (path : List ℕ) (old new : Tree) : Type 0 where
  pub place : NameList
  pub names : named old path ≡ Some place
  pub is_file : IsSome (file_at new place)
  pub others : SameBut place old new

-- The file at `to` has these bytes and the mode of the one at `from`, which is free; so it has in each of its own outcomes.
pub record Moves (old : DiskState) (from to bytes : List ℕ) (new : DiskState) : Type 0 where
  pub source : NameList
  pub target : NameList
  pub leaves : named old.tree from ≡ Some source
  pub comes : named old.tree to ≡ Some target
  pub before : List ℕ
  pub mode : ℕ
  pub was : file_at old.tree source ≡ Some (before, mode)
  pub holds : file_at new.tree target ≡ Some (bytes, mode)
  pub gone : node_at new.tree source ≡ None
  pub others : (q : NameList) → q ≢ source → q ≢ target → node_at new.tree q ≡ node_at old.tree q
  pub settled : (found : Option Content) → Leaves (own_of (outcomes_now new target)) found → found ≡ Some (file bytes mode)

-- after a refusal only the file at `from` may have changed, or all was done
abbrev pub MayHaveMoved : DiskState → List ℕ → List ℕ → List ℕ → DiskState → Type 0
MayHaveMoved old from to bytes new = ChangesOnly from old.tree new.tree ⊎ Moves old from to bytes new

-- A crash on the way leaves at `to` what it could before, or a file with these bytes and the mode of the one at `from`; anything at `from`; and
-- elsewhere what it could before.
pub record FillLeaves (old : DiskState) (from to bytes : List ℕ) (new : DiskState) : Type 0 where
  pub source : NameList
  pub target : NameList
  pub leaves : named old.tree from ≡ Some source
  pub comes : named old.tree to ≡ Some target
  pub before : List ℕ
  pub mode : ℕ
  pub was : file_at old.tree source ≡ Some (before, mode)
  pub since : LeavesSince (λ q content. (q ≡ target) × (content ≡ file bytes mode)) (λ q. q ≡ source) old new
  pub settled : SettledBut source old new

-- the names in the folder of the file at the path are on the medium
abbrev pub SettlesFolder : DiskState → List ℕ → DiskState → Type 0
SettlesFolder old path new = (text : List ℕ) × IsFolderPath path text × SyncsFolder old text new

-- ---- it is removed after a refusal

-- no regular file stands at the path, or a fault was counted
pub record IsRemoved (old : DiskState) (path : List ℕ) (new : DiskState) : Type 0 where
  pub outcome : Removes old path new ⊎ CannotRemove old path ⊎ HasRisen old.faults new.faults
