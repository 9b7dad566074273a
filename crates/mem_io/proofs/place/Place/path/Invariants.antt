use Rattle.std.proofs.Common.{◌≡◌, take}
use Rattle.std.specs.Prelude.{string_bytes}
use Rattle.sd_io.specs.Files.{path_text}
use Rattle.mem_io.proofs.place.Place.path.Given as goal

-- the path of the names so far
abbrev pub invariant-loop-i : goal.invariant-loop-i
invariant-loop-i l = string_bytes l.path ≡ path_text (take l.i l.name-items)
