-- The reading of a stream to its end.
use Rattle.std.specs.Prelude.{◌≡◌, ◌<◌, ◌+◌, ◌⊎◌, ℕ, IsTrue, List, [], ◌++◌, length}
use Rattle.sd_io.specs.Count.{IsAtLast}
use Rattle.sd_io.specs.Streams.{SourceState}
use Rattle.sd_course.specs.Course.{Course, SourceFailed}
use Rattle.stream_rewrite.specs.declared.fault.StreamFault.{StreamFault}
use Rattle.stream_rewrite.specs.declared.fault.StreamFault.TheVariants as stream

-- the source gave these bytes
abbrev pub Gives : SourceState → List ℕ → SourceState → Type 0
Gives old bytes new = old.left ≡ bytes ++ new.left

-- its count of bytes rose by so many, or stands at its last value
abbrev pub HasTaken : SourceState → ℕ → SourceState → Type 0
HasTaken old n new = (new.taken ≡ old.taken + n) ⊎ IsAtLast new.taken

-- these are all the bytes that were left, and none is
pub record ReadsAll (old : SourceState) (bytes : List ℕ) (new : SourceState) : Type 0 where
  pub all : old.left ≡ bytes
  pub ended : new.left ≡ []

-- the source gave more than so many bytes, or its count of them stands at its last value
abbrev pub HasGivenOver : ℕ → Course SourceState → Type 0
HasGivenOver cap input = (input.old.taken + cap < input.new.taken) ⊎ IsAtLast input.new.taken

-- why a source isn't read to its end
abbrev pub ReadFails : ℕ → Course SourceState → StreamFault → Type 0
ReadFails cap input stream.Failed = SourceFailed input
ReadFails cap input stream.InputTooLong = HasGivenOver cap input × (IsTrue input.tells → cap < length input.old.left)
ReadFails cap input stream.NoMemory = Unit {0}
