-- What worked examples speak of.
use Rattle.std.specs.Prelude.{◌≡◌, ℕ, Bool, List, [], codes}
use Rattle.sd_io.specs.Streams.{SourceState}
use Rattle.sd_change.specs.Change.{Change}
use Rattle.sd_course.specs.Course.{Course, course}

-- one text becomes another, in which so many spans were replaced
abbrev pub Does : List ℕ → List ℕ → ℕ → Change
Does from to spans bytes new_bytes count = (bytes ≡ from) × (new_bytes ≡ to) × (count ≡ spans)

-- `one` becomes `1`, once in each line
abbrev pub FirstOfLine : Change
FirstOfLine = Does (codes "one one\none one\n") (codes "1 one\n1 one\n") 2

-- an empty find text stands once in no bytes
abbrev pub EmptyToX : Change
EmptyToX = Does [] (codes "x") 1

-- a source with nothing left, by its counts of bytes before and after
abbrev pub given : Bool → ℕ → ℕ → Course SourceState
given tells before after =
    course tells (record { left = []; taken = before; faults = 0 }) (record { left = []; taken = after; faults = 0 })
