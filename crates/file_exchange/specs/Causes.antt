-- Why steps are refused.
use Rattle.std.specs.Prelude.{◌≡◌, ◌<◌, ◌≤◌, ◌+◌, ◌⊎◌, ℕ, Bool, false, Result, IsErrOf}
use Rattle.sd_io.specs.Count.{HasRisen, IsAtLast}
use Rattle.sd_io.specs.Disk.{DiskState}
use Rattle.sd_io.specs.declared.fault.DiskFault.{DiskFault}
use Rattle.sd_io.specs.declared.fault.DiskFault.TheVariants as disk

-- the count of faults rose by so many, or stands at its last value
abbrev pub HasRisenBy : ℕ → ℕ → ℕ → Type 0
HasRisenBy n before now = (before + n ≤ now) ⊎ IsAtLast now

-- The count of faults never falls. Of the disk's faults, each as its error, `Failed` comes only where the count rose or stands at its last
-- value, `Absent` only on a disk that doesn't tell its tree, where the count rose, and `Taken` never.
pub record HasCauseOf {T E : Type 0} (error_of : DiskFault → E) (tells : Bool) (old new : DiskState) (result : Result T E) : Type 0 where
  pub never_falls : old.faults ≤ new.faults
  pub failed : IsErrOf result (error_of disk.Failed) → HasRisen old.faults new.faults
  pub absent : IsErrOf result (error_of disk.Absent) → (tells ≡ false) × (old.faults < new.faults)
  pub not_taken : IsErrOf result (error_of disk.Taken) → ⊥
