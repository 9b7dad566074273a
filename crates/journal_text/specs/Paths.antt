-- Resolved paths.
use Rattle.std.specs.Prelude.{◌≡◌, ◌≢◌, ℕ, List, []}
use Rattle.std.specs.List.{AllByRecursion, join_with_byte}
use Rattle.std.specs.Str.{IsUtf8}
use Rattle.sd_io.specs.Tree.{NameList, IsName}
use Rattle.sd_io.specs.Files.{path_text}

-- one or more names
pub record AreNames (place : NameList) : Type 0 where
  pub some : place ≢ []
  pub each : AllByRecursion IsName place

-- the text is one or more names, joined by `/`
abbrev pub IsJoined : List ℕ → Type 0
IsJoined text = (place : NameList) × AreNames place × (text ≡ join_with_byte 47 place)

-- the text is `/` and one or more names, joined by `/`
abbrev pub HasPlace : List ℕ → Type 0
HasPlace text = (place : NameList) × AreNames place × (text ≡ path_text place)

-- and it is UTF-8
pub record IsResolvedPath (path : List ℕ) : Type 0 where
  pub has_place : HasPlace path
  pub text : IsUtf8 path
