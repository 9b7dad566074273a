use Rattle.std.proofs.Common.{chars, ℕ, List, ◌<◌, get_or}
use Rattle.glob_match.specs.Takes.{Fits}
use Rattle.chosen_files.proofs.pick.fits_any.Given as goal

-- none of the globs so far fits the path
abbrev pub invariant-loop-glob : goal.invariant-loop-glob
invariant-loop-glob l = (k : ℕ) (d : List ℕ) → k < l.glob-index → Fits (chars (get_or l.globs k d)) (chars l.path) → ⊥
