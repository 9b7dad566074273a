-- A disk or a stream over the course of a call.
use Rattle.std.specs.Prelude.{◌≡◌, ◌≤◌, ◌+◌, ◌⊎◌, ℕ, Bool, false, IsTrue, List, ◌++◌, take, length}
use Rattle.sd_io.specs.Count.{HasRisen, IsAtLast}
use Rattle.sd_io.specs.Disk.{DiskState}
use Rattle.sd_io.specs.Streams.{SourceState, SinkState}

-- whether it tells its content, and what it tells before and after
pub record Course (S : Type 0) : Type 0 where
  pub tells : Bool
  pub old : S
  pub new : S

abbrev pub course : {S : Type 0} → Bool → S → S → Course S
course tells old new = record { tells = tells; old = old; new = new }

-- one thing is known where the content is told, and another where it isn't
abbrev pub AsTold : Bool → Type 0 → Type 0 → Type 0
AsTold tells told untold = (IsTrue tells → told) × (tells ≡ false → untold)

-- ---- counts of faults

-- a count rose by at least so many, or stands at its last value
abbrev pub HasRisenBy : ℕ → ℕ → ℕ → Type 0
HasRisenBy n before now = (before + n ≤ now) ⊎ IsAtLast now

-- its count of faults rose in the call, or stands at its last value
abbrev pub DiskFailed : Course DiskState → Type 0
DiskFailed disk = HasRisen disk.old.faults disk.new.faults

abbrev pub SourceFailed : Course SourceState → Type 0
SourceFailed input = HasRisen input.old.faults input.new.faults

abbrev pub SinkFailed : Course SinkState → Type 0
SinkFailed out = HasRisen out.old.faults out.new.faults

-- ---- what a sink has taken

-- a prefix of the bytes came after what was held
pub record AppendsPrefix (held bytes new_held : List ℕ) : Type 0 where
  pub count : ℕ
  pub within : count ≤ length bytes
  pub appended : new_held ≡ held ++ take count bytes
