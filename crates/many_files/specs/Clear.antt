-- What stands in the way of rewriting files, or doesn't.
use Rattle.std.specs.Prelude.{◌≡◌, ℕ, true, IsTrue, List, All, Some, IsSome}
use Rattle.sd_io.specs.Tree.{NameList, Tree, file_at}
use Rattle.sd_io.specs.Paths.{reached, parent_of}
use Rattle.sd_io.specs.Files.{file_of}
use Rattle.sd_io.specs.Disk.{DiskState}
use Rattle.sd_course.specs.Course.{Course, DiskFailed}
use Rattle.file_exchange.specs.Reserved.{Free}
use Rattle.file_rewrite.specs.Paths.{IsNoPath}

-- the path leads to a regular file
abbrev pub LeadsToFile : Tree → List ℕ → Type 0
LeadsToFile tree path = IsSome (file_of tree path)

-- the path leads to a regular file, in whose folder a reserved name is free
pub record HasRoomBy (tree : Tree) (path : List ℕ) : Type 0 where
  pub place : NameList
  pub leads : reached tree path true ≡ Some place
  pub is_file : IsSome (file_at tree place)
  pub temporary : NameList
  pub free : Free tree (parent_of place) temporary

-- nothing stands in the way of rewriting these files
pub record AreFilesClear (paths : List (List ℕ)) (d : Course DiskState) : Type 0 where
  pub paths_name : All (λ path. IsNoPath path → ⊥) paths
  pub files : IsTrue d.tells → All (LeadsToFile d.old.tree) paths
  pub room : IsTrue d.tells → All (HasRoomBy d.old.tree) paths
  pub no_fault : DiskFailed d → ⊥
