-- What is known of the file that was resolved last.
use Rattle.std.specs.Prelude.{ℕ, if◌then◌else◌, List, Option, Some, None, string_bytes}
use Rattle.std.specs.Str.{bytes_eq}
use Rattle.host_known.specs.declared.known_file.FileStatus.{FileStatus}
use Rattle.host_known.specs.declared.known_file.KnownPath.{KnownPath}
use Rattle.host_known.specs.declared.known_file.KnownFile.{KnownFile}

-- what is known of the path, if it is this one
abbrev pub status_of : Option KnownPath → List ℕ → Option FileStatus
status_of None path = None
status_of (Some known) path = if bytes_eq (string_bytes known.path) path then Some known.status else None

-- what is known to stand at a path
abbrev pub status_at : KnownFile → List ℕ → Option FileStatus
status_at file path = status_of file.known path
