use Rattle.std.proofs.Common.{◌≡◌, take}
use Rattle.std.specs.List.{AllByRecursion}
use Rattle.chosen_files.specs.Globs.{IsValid}
use Rattle.chosen_files.proofs.globs.read_globs.Given as goal

-- the globs so far are read and valid
abbrev pub invariant-loop-place : goal.invariant-loop-place
invariant-loop-place l = record { read : l.read.items ≡ take l.place l.globs; valid : AllByRecursion IsValid (take l.place l.globs) }
