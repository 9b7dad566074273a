-- What stands in the way of a preview, or doesn't.
use Rattle.std.specs.Prelude.{◌≡◌, ℕ, IsTrue, List, ◌∷◌, ◌++◌, All}
use Rattle.sd_io.specs.Tree.{Tree}
use Rattle.sd_io.specs.Disk.{DiskState}
use Rattle.sd_io.specs.Streams.{SinkState}
use Rattle.sd_course.specs.Course.{Course, DiskFailed, SinkFailed}
use Rattle.file_rewrite.specs.Paths.{IsNoPath}
use Rattle.many_files.specs.Clear.{LeadsToFile}

-- Each word before this one can be shown: it names a file, and leads to a regular one.
pub record IsFirstUnshown (paths : List (List ℕ)) (tree : Tree) (path : List ℕ) : Type 0 where
  pub before : List (List ℕ)
  pub after : List (List ℕ)
  pub paths_are : paths ≡ before ++ path ∷ after
  pub before_shown : All (LeadsToFile tree) before
  pub before_name : All (λ other. IsNoPath other → ⊥) before

-- nothing stands in the way of a preview
pub record IsPreviewClear (paths : List (List ℕ)) (d : Course DiskState) (out : Course SinkState) : Type 0 where
  pub paths_name : All (λ path. IsNoPath path → ⊥) paths
  pub files : IsTrue d.tells → All (LeadsToFile d.old.tree) paths
  pub no_disk_fault : DiskFailed d → ⊥
  pub no_sink_fault : SinkFailed out → ⊥
