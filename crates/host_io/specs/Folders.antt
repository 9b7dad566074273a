-- What the host's disk answers without asking the host: what a list told last, and what is known of the file that was resolved last.
use Rattle.std.specs.Prelude.{◌≡◌, ℕ, List, None}
use Rattle.std.specs.Fs.{metadata_mode}
use Rattle.std.specs.declared.fs.Metadata.{Metadata}
use Rattle.host_io.specs.HostDisk.{IsOfKind}
use Rattle.host_known.specs.KnownFile.{status_at}
use Rattle.host_io.specs.Told.{told_count}
use Rattle.host_io.specs.declared.folders.Folders.{Folders}
use Rattle.host_known.specs.declared.known_file.FileStatus.{FileStatus}
use Rattle.host_known.specs.declared.known_file.KnownFile.{KnownFile}
use Rattle.host_io.specs.declared.told.Told.{Told}

-- the kind and the mode are those that the host tells
pub record IsStatusOf (metadata : Metadata) (status : FileStatus) : Type 0 where
  pub kind : IsOfKind metadata status.kind
  pub mode : status.mode ≡ metadata_mode metadata

-- nothing that a list told is left to be asked for
abbrev pub TellsNothing : Told → Type 0
TellsNothing told = told_count told ≡ 0

-- nothing is known of what stands at any path
abbrev pub KnowsNoFile : KnownFile → Type 0
KnowsNoFile file = (path : List ℕ) → status_at file path ≡ None

-- each question is asked of the host
pub record AsksForAll {R File Dir : Type 0} (folders : Folders R File Dir) : Type 0 where
  pub told : TellsNothing folders.told
  pub file : KnowsNoFile folders.file

-- what is answered without asking the host stays
pub record SameAnswers {R File Dir : Type 0} (old new : Folders R File Dir) : Type 0 where
  pub told : new.told ≡ old.told
  pub file : new.file ≡ old.file
