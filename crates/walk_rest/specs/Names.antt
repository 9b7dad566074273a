-- The name of an entry's file, by its path.
use Rattle.std.specs.Prelude.{ℕ, List}
use Rattle.std.specs.Option.{option_map_or}
use Rattle.sd_io.specs.Tree.{Name, name_cmp}
use Rattle.sd_io.specs.Paths.{parts_of, folder_and_name}
use Rattle.walk_rest.specs.Plan.{Comparison}

-- the last part of a path; the whole path where that is `..` or there is none
abbrev pub file_name : List ℕ → List ℕ
file_name path = option_map_or (λ (p : List Name × Name). p.1) (folder_and_name (parts_of path)) path

abbrev pub by_file_name : Comparison
by_file_name a b = name_cmp (file_name a.path) (file_name b.path)
