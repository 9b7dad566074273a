use Rattle.std.proofs.Common.{refl, inl}
use Rattle.planned_files.proofs.examples.files_are_planned_as_in_the_examples.Goals as goal

pub returns-clause-counts : goal.returns-clause-counts
returns-clause-counts c tree is = (
  1,
  2,
  0,
  0,
  record { bytes = _; mode = 416; is_file = is; new_bytes = _; new_bytes_are = inl (refl, refl, refl); changed_is = refl },
  (refl, refl),
  refl,
  refl,
)
