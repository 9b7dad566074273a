-- What an error tells of itself.
use Rattle.std.specs.Prelude.{◌≡◌, ◌<◌, ◌⊎◌, ℕ, Bool, false, IsTrue, List, Option, Some, None}
use Rattle.sd_io.specs.declared.fault.DiskFault.{DiskFault}
use Rattle.sd_io.specs.declared.fault.DiskFault.TheVariants as fault
use Rattle.sd_io.specs.declared.meta.Ident.{Ident}
use Rattle.sd_io.specs.Count.{HasRisen}
use Rattle.sd_io.specs.Disk.{DiskState}
use Rattle.sd_io.specs.Files.{LeadsNowhere}
use Rattle.walk_rest.specs.declared.entry.DirEntry.{DirEntry}
use Rattle.walk_rest.specs.declared.error.Error.{Error}
use Rattle.walk_rest.specs.declared.error.Error.TheVariants.{Disk, Absent, Loop, NoMemory, TooMany}
use Rattle.walk_rest.specs.declared.error.ErrorKind.{ErrorKind}
use Rattle.walk_rest.specs.declared.error.ErrorKind.TheVariants as kind

abbrev pub error_kind : Error → ErrorKind
error_kind (Disk path depth) = kind.Disk
error_kind (Absent path depth) = kind.Absent
error_kind (Loop path depth ancestor ident) = kind.Loop
error_kind NoMemory = kind.NoMemory
error_kind TooMany = kind.TooMany

abbrev pub error_path : Error → Option (List ℕ)
error_path (Disk path depth) = path
error_path (Absent path depth) = Some path
error_path (Loop path depth ancestor ident) = Some path
error_path NoMemory = None
error_path TooMany = None

abbrev pub error_depth : Error → ℕ
error_depth (Disk path depth) = depth
error_depth (Absent path depth) = depth
error_depth (Loop path depth ancestor ident) = depth
error_depth NoMemory = 0
error_depth TooMany = 0

-- the directory that a loop leads back to: its path, and what it is
abbrev pub error_ancestor : Error → Option (List ℕ)
error_ancestor (Disk path depth) = None
error_ancestor (Absent path depth) = None
error_ancestor (Loop path depth ancestor ident) = Some ancestor
error_ancestor NoMemory = None
error_ancestor TooMany = None

abbrev pub error_ident : Error → Option Ident
error_ident (Disk path depth) = None
error_ident (Absent path depth) = None
error_ident (Loop path depth ancestor ident) = Some ident
error_ident NoMemory = None
error_ident TooMany = None

-- the disk's refusal that it stands for
abbrev pub error_fault : Error → Option DiskFault
error_fault (Disk path depth) = Some fault.Failed
error_fault (Absent path depth) = Some fault.Absent
error_fault (Loop path depth ancestor ident) = None
error_fault NoMemory = None
error_fault TooMany = None

-- ---- asking about an entry

-- the error that stands for the disk's refusal of a call on an entry
abbrev pub refusal_of : DirEntry → DiskFault → Error
refusal_of entry fault.Absent = Absent entry.path entry.depth
refusal_of entry fault.Taken = Disk (Some entry.path) entry.depth
refusal_of entry fault.Failed = Disk (Some entry.path) entry.depth
refusal_of entry fault.NoMemory = NoMemory

-- Why a call on an entry is refused: for want of memory; with `Disk` only where the count of faults rose or stands at its last value; with
-- `Absent` only where its path leads nowhere, or on a disk that doesn't tell its tree where the count rose. Both tell its path and depth.
abbrev pub IsRefusedFor : Bool → DiskState → DiskState → DirEntry → Error → Type 0
IsRefusedFor tells old new entry error =
    (error ≡ NoMemory)
    ⊎ ((error ≡ Disk (Some entry.path) entry.depth) × HasRisen old.faults new.faults)
    ⊎ ((error ≡ Absent entry.path entry.depth) × (IsTrue tells → LeadsNowhere old entry.path entry.followed) × (tells ≡ false → old.faults < new.faults))
