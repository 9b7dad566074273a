use Rattle.mem_io.specs.Images.{StandsAlone}
use Rattle.mem_io.specs.Medium.{told_tree, outcomes_told}
use Rattle.mem_io.proofs.crash.ImageLemmas.{ImageSoFar}
use Rattle.mem_io.proofs.medium.Medium.crash.Given as goal

abbrev pub invariant-loop-i : goal.invariant-loop-i
invariant-loop-i l = record {
  so_far : ImageSoFar l.choice l.entry-items l.i (told_tree l.image);
  alone : StandsAlone (outcomes_told l.image) (told_tree l.image);
}
