use Rattle.std.proofs.Common.{refl, inl, inr}
use Rattle.many_files.proofs.examples.files_are_counted.Goals as goal

pub returns-clause-one : goal.returns-clause-one
returns-clause-one c tree a = (
  1,
  2,
  0,
  0,
  record { bytes = _; mode = 416; is_file = a; new_bytes = _; new_bytes_are = inl (refl, refl, refl); changed_is = refl },
  (refl, refl),
  refl,
  refl,
)

pub returns-clause-both : goal.returns-clause-both
returns-clause-both c tree a b = (
  1,
  2,
  0,
  0,
  record { bytes = _; mode = 416; is_file = a; new_bytes = _; new_bytes_are = inl (refl, refl, refl); changed_is = refl },
  (0, 0, 0, 0, record { bytes = _; mode = 416; is_file = b; new_bytes = _; new_bytes_are = inr (inr (refl, refl, refl)); changed_is = refl }, (refl, refl), refl, refl),
  refl,
  refl,
)
