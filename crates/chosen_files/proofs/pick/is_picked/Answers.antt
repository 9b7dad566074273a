use Rattle.std.proofs.Common.{◌∙◌, sym}
use Rattle.std.proofs.lemmas.Bool.{false≢true}
use Rattle.chosen_files.proofs.pick.PickedLemmas.{fits_same}
use Rattle.chosen_files.proofs.pick.is_picked.Goals as goal

pub returns-then-not-branch-clause-picked : goal.returns-then-not-branch-clause-picked
returns-then-not-branch-clause-picked g c = λ told top is. (
  (λ yes. absurd (false≢true yes)),
  (λ picked. absurd (false≢true (sym c.if-not-branch.true ∙ c.in_ok-fits_any.ensures.1
      (fits_same top c.args.entry.now.path picked.names c.args.names.now c.args.globs.now picked.path_is is picked.fits)))),
)
