-- Files that are to be rewritten.
use Rattle.std.specs.Prelude.{◌≡◌, ℕ, List, map, true, Some, Contains}
use Rattle.std.specs.List.Sorted.{IsStrictlySortedBy}
use Rattle.sd_io.specs.Tree.{NameList, Tree, name_list_cmp, IsNonemptyFile}
use Rattle.sd_io.specs.Paths.{reached, parent_of}
use Rattle.file_exchange.specs.Reserved.{Free}

-- Each path leads to the place that it stands beside, links followed. The places are strictly in order, and at each stands a regular file with at least
-- one byte.
pub record ListsFiles (tree : Tree) (paths : List (List ℕ)) (places : List NameList) : Type 0 where
  pub lead : map (λ path. reached tree path true) paths ≡ map (λ place. Some place) places
  pub in_order : IsStrictlySortedBy name_list_cmp places
  pub are_files : (place : NameList) → Contains places place → IsNonemptyFile tree place

-- ---- some files: those at the places of which a fact holds

-- a reserved name that is free, in the folder of one of them
abbrev pub IsFreeBeside : (NameList → Type 0) → Tree → NameList → Type 0
IsFreeBeside IsOne tree temporary = (place : NameList) × IsOne place × Free tree (parent_of place) temporary

-- each folder of one of them has a reserved name that is free
abbrev pub HasRoom : (NameList → Type 0) → Tree → Type 0
HasRoom IsOne tree = (place : NameList) → IsOne place → (temporary : NameList) × Free tree (parent_of place) temporary
