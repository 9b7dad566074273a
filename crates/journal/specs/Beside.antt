-- A file is made under a reserved name.
use Rattle.std.specs.Prelude.{◌≡◌, ◌≢◌, ◌⊎◌, ℕ, List, Option, Some, IsSome}
use Rattle.sd_io.specs.Tree.{NameList, Tree, SameBut, node_at, file_at}
use Rattle.sd_io.specs.Paths.{named}
use Rattle.sd_io.specs.Files.{path_text}
use Rattle.sd_io.specs.Disk.{DiskState}
use Rattle.sd_io.specs.Crashes.{LeavesSince, IsSettledAt, SettledBut}
use Rattle.file_exchange.specs.Reserved.{Free, FirstFree}
use Rattle.file_exchange.specs.declared.reserved.Temporary.{Temporary}

-- A file with these bytes and the mode of the one at `like` stands, settled, under the first reserved name that was free in the folder; it has this
-- number and this path. All else is as it was, and a crash leaves anything there, and elsewhere what it could before.
pub record MakesBeside (old : DiskState) (folder like : NameList) (bytes : List ℕ) (made : Temporary) (new : DiskState) : Type 0 where
  pub temporary : NameList
  pub was_free : FirstFree old.tree folder temporary
  pub number_is : made.number ≡ was_free.reserved.0
  pub path_is : made.path ≡ path_text temporary
  pub before : List ℕ
  pub mode : ℕ
  pub model : file_at old.tree like ≡ Some (before, mode)
  pub holds : file_at new.tree temporary ≡ Some (bytes, mode)
  pub settled : IsSettledAt new temporary
  pub others : SameBut temporary old.tree new.tree
  pub settled_others : SettledBut temporary old new
  pub leaves : LeavesSince (λ q content. ⊥) (λ q. q ≡ temporary) old new

-- at each place stands what stood there, or the place is a reserved name that was free
abbrev pub KeepsAllButFree : Tree → Tree → Type 0
KeepsAllButFree old new = (q : NameList) → (node_at new q ≡ node_at old q) ⊎ ((folder : NameList) × Free old folder q)

-- At most one place differs: the first reserved name that was free in the folder. A crash leaves anything there, and elsewhere what it could before.
pub record LeavesBeside (old : DiskState) (folder : NameList) (new : DiskState) : Type 0 where
  pub temporary : Option NameList
  pub was_free : (q : NameList) → temporary ≡ Some q → FirstFree old.tree folder q
  pub others : (q : NameList) → temporary ≢ Some q → node_at new.tree q ≡ node_at old.tree q
  pub leaves : LeavesSince (λ q content. ⊥) (λ q. temporary ≡ Some q) old new
  pub settled : (q : NameList) → temporary ≢ Some q → IsSettledAt old q → IsSettledAt new q

-- A regular file came at a reserved name that was free in the folder, and the path names it. Every other place is as before.
pub record AddsBeside (folder : NameList) (path : List ℕ) (old new : Tree) : Type 0 where
  pub temporary : NameList
  pub was_free : Free old folder temporary
  pub names : named new path ≡ Some temporary
  pub is_file : IsSome (file_at new temporary)
  pub others : SameBut temporary old new
