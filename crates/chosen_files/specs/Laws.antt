-- Laws of what is kept and seen.
use Rattle.std.specs.Prelude.{◌≡◌, ◌↔◌, ℕ, List, []}
use Rattle.sd_io.specs.Tree.{NameList, Tree}
use Rattle.sd_ignore.specs.declared.rule.Rule.{Rule}
use Rattle.chosen_files.specs.Below.{IsBelow, HasFewerBelow, HasManyBelow}
use Rattle.chosen_files.specs.Chosen.{IsChosen, ListsChosen}
use Rattle.chosen_files.specs.Kept.{IsKept, Kept, ListsKept}
use Rattle.chosen_files.specs.Seen.{IsSeen, HasFewerSeen, HasManySeen}

-- there is one list of kept files, and one of their paths
pub record OneListOfKept : Type 0 where
  pub places : (tree : Tree) (top : NameList) (globs : List (List ℕ)) (rules : List Rule) (xs ys : List NameList)
      → Kept tree top globs rules xs → Kept tree top globs rules ys → xs ≡ ys
  pub paths : (tree : Tree) (root : List ℕ) (globs : List (List ℕ)) (rules : List Rule) (xs ys : List (List ℕ))
      → ListsKept tree root globs rules xs → ListsKept tree root globs rules ys → xs ≡ ys

-- without rules each chosen file is kept, and all that stands below is seen
pub record NoRulesKeepAll : Type 0 where
  pub kept : (tree : Tree) (top : NameList) (globs : List (List ℕ)) (place : NameList) → IsKept tree top globs [] place ↔ IsChosen tree top globs place
  pub paths : (tree : Tree) (root : List ℕ) (globs : List (List ℕ)) (paths : List (List ℕ)) → ListsKept tree root globs [] paths ↔ ListsChosen tree root globs paths
  pub seen : (tree : Tree) (top place : NameList) → IsSeen tree top [] place ↔ IsBelow tree top place
  pub fewer : (cap : ℕ) (tree : Tree) (root : List ℕ) → HasFewerSeen cap tree root [] ↔ HasFewerBelow cap tree root
  pub many : (cap : ℕ) (tree : Tree) (root : List ℕ) → HasManySeen cap tree root [] ↔ HasManyBelow cap tree root

-- a kept file is seen
abbrev pub KeptAreSeen : Type 0
KeptAreSeen = (tree : Tree) (top : NameList) (globs : List (List ℕ)) (rules : List Rule) (place : NameList) → IsKept tree top globs rules place → IsSeen tree top rules place
