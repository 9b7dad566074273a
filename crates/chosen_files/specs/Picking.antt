-- What one entry of a walk makes of the paths that were picked.
use Rattle.std.specs.Prelude.{◌≡◌, ℕ, Bool, IsTrue, All, List, [], ◌∷◌, ◌++◌, Ok}
use Rattle.sd_io.specs.Tree.{Tree}
use Rattle.walk_rest.specs.declared.entry.DirEntry.{DirEntry}
use Rattle.chosen_files.specs.declared.pick.Picking.{Picking}
use Rattle.chosen_files.specs.Chosen.{IsPathBelow}
use Rattle.chosen_files.specs.Picks.{Picks}

-- The same is asked, and the paths that the entry adds lie below the root. On a disk that tells this tree they are those that are picked of it.
pub record PicksOn (tells : Bool) (tree : Tree) (old : Picking) (entry : DirEntry) (new : Picking) : Type 0 where
  pub root : new.root.now ≡ old.root.now
  pub top : new.top.now ≡ old.top.now
  pub globs : new.globs.now ≡ old.globs.now
  pub more : List (List ℕ)
  pub added : new.paths.items ≡ old.paths.items ++ more
  pub below_root : All (IsPathBelow old.root.now) more
  pub picks : IsTrue tells → Picks tree old.root.now old.top.now old.globs.now (Ok entry ∷ []) more
