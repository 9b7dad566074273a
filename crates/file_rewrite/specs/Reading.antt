-- A file that is found.
use Rattle.std.specs.Prelude.{◌≡◌, ℕ, true, List, Some}
use Rattle.sd_io.specs.Tree.{Tree, file_at}
use Rattle.sd_io.specs.Paths.{parts_of, reached}
use Rattle.sd_io.specs.Files.{path_text}

-- the path leads to a regular file with these bytes, and this is the file's own path, without links, `.` and `..`
pub record FindsFile (tree : Tree) (path own bytes : List ℕ) : Type 0 where
  pub leads : reached tree path true ≡ Some (parts_of own)
  pub text_is : own ≡ path_text (parts_of own)
  pub mode : ℕ
  pub was : file_at tree (parts_of own) ≡ Some (bytes, mode)
