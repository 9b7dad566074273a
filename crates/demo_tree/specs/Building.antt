-- A demo's tree while it is built.
use Rattle.std.specs.Prelude.{◌≡◌, ◌≢◌, ℕ, Some}
use Rattle.sd_io.specs.Tree.{NameList, Tree, directory}
use Rattle.sd_io.specs.Outcomes.{content_at}
use Rattle.demo_tree.specs.Demo.{demo_folder, demo_content}

-- the folder of the next file is there, and everything else as in a demo of this number
pub record HasNextFolder (n : ℕ) (tree : Tree) : Type 0 where
  pub there : content_at tree (demo_folder n) ≡ Some directory
  pub others : (q : NameList) → q ≢ demo_folder n → content_at tree q ≡ demo_content n q
