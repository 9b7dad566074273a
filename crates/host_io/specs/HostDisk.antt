-- What the host's disk counts, and what it makes of the host's answers.
use Rattle.std.specs.Prelude.{◌≡◌, ◌<◌, ◌≤◌, ◌⊎◌, ℕ, Result, Ok, Err, IsErrOf, OnOk}
use Rattle.std.specs.Fs.{file_type, IsDir, IsFile, IsSymlink}
use Rattle.std.specs.declared.fs.Metadata.{Metadata}
use Rattle.std.specs.declared.io.ErrorKind.{ErrorKind}
use Rattle.std.specs.declared.io.ErrorKind.TheVariants as io
use Rattle.std.specs.declared.io.Error.{Error}
use Rattle.std.specs.IoError.{error_kind}
use Rattle.sd_io.specs.declared.meta.Kind.{Kind}
use Rattle.sd_io.specs.declared.meta.Kind.TheVariants as kind
use Rattle.sd_io.specs.declared.fault.DiskFault.{DiskFault}
use Rattle.sd_io.specs.declared.fault.DiskFault.TheVariants.{Absent, Taken, Failed, NoMemory}
use Rattle.sd_io.specs.Count.{HasRisen}

-- The count rose with each refusal, or stands at its last value where the answer is `Failed`. An answer that is none, and
-- want of memory, leave it.
pub record IsCounted {T : Type 0} (old new : ℕ) (result : Result T DiskFault) : Type 0 where
  pub never_falls : old ≤ new
  pub failed : IsErrOf result Failed → HasRisen old new
  pub absent : IsErrOf result Absent → old < new
  pub taken : IsErrOf result Taken → old < new
  pub no_memory : IsErrOf result NoMemory → new ≡ old
  pub same : OnOk result (new ≡ old)

-- why a call is refused, by the kind of the host's error
abbrev pub fault_of : ErrorKind → DiskFault
fault_of io.OutOfMemory = NoMemory
fault_of io.NotFound = Absent
fault_of io.NotADirectory = Absent
fault_of io.FilesystemLoop = Absent
fault_of _ = Failed

-- the host's answer, with its error as a fault, or `Failed` in place of that
abbrev pub Tells : {T : Type 0} → Result T Error → Result T DiskFault → Type 0
Tells answer (Ok told) = answer ≡ Ok told
Tells answer (Err fault) = (error : Error) × (answer ≡ Err error) × ((fault ≡ fault_of (error_kind error)) ⊎ (fault ≡ Failed))

-- what the host tells of a node is of this kind
abbrev pub IsOfKind : Metadata → Kind → Type 0
IsOfKind metadata kind.Directory = IsDir (file_type metadata)
IsOfKind metadata kind.Link = IsSymlink (file_type metadata)
IsOfKind metadata kind.File = IsFile (file_type metadata)
IsOfKind metadata kind.Other = (IsDir (file_type metadata) → ⊥) × (IsSymlink (file_type metadata) → ⊥) × (IsFile (file_type metadata) → ⊥)
