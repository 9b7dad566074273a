-- How the replacing of a stream ends.
use Rattle.std.specs.Prelude.{◌≡◌, ◌<◌, ◌≤◌, ◌⊎◌, ℕ, IsTrue, List, [], ◌++◌, length}
use Rattle.sd_io.specs.Streams.{SourceState, SinkState}
use Rattle.sd_change.specs.Change.{Change}
use Rattle.sd_course.specs.Course.{Course, AsTold, SourceFailed, SinkFailed, AppendsPrefix}
use Rattle.stream_rewrite.specs.Reading.{HasGivenOver}
use Rattle.stream_rewrite.specs.declared.fault.StreamFault.{StreamFault}
use Rattle.stream_rewrite.specs.declared.fault.StreamFault.TheVariants as stream

-- the bytes become these
abbrev pub Becomes : Change → List ℕ → List ℕ → Type 0
Becomes change bytes new_bytes = (count : ℕ) × change bytes new_bytes count

-- the sink grew by exactly the new bytes of all that was left in the source
pub record WritesNew (change : Change) (left : List ℕ) (out : Course SinkState) : Type 0 where
  pub new_bytes : List ℕ
  pub count : ℕ
  pub new_bytes_are : change left new_bytes count
  pub written : IsTrue out.tells → out.new.held ≡ out.old.held ++ new_bytes

-- the source was read to its end, and its new bytes were written
pub record DoesStream (change : Change) (input : Course SourceState) (out : Course SinkState) : Type 0 where
  pub ended : IsTrue input.tells → input.new.left ≡ []
  pub writes : IsTrue input.tells → WritesNew change input.old.left out

-- a prefix of the new bytes was written
pub record WritesPrefix (change : Change) (left : List ℕ) (out : Course SinkState) : Type 0 where
  pub new_bytes : List ℕ
  pub count : ℕ
  pub new_bytes_are : change left new_bytes count
  pub written : IsTrue out.tells → AppendsPrefix out.old.held new_bytes out.new.held

-- nothing was written
abbrev pub WritesNothing : Course SinkState → Type 0
WritesNothing out = out.new ≡ out.old

-- What a refused replacing of a stream leaves, and why it is refused. Where a stream failed, it is the source before the first write, or the sink.
abbrev pub StreamFails : Change → ℕ → Course SourceState → Course SinkState → StreamFault → Type 0
StreamFails change cap input out stream.Failed =
    (WritesNothing out × SourceFailed input) ⊎ (SinkFailed out × (IsTrue input.tells → WritesPrefix change input.old.left out))
StreamFails change cap input out stream.InputTooLong = WritesNothing out × HasGivenOver cap input × (IsTrue input.tells → cap < length input.old.left)
StreamFails change cap input out stream.NoMemory = WritesNothing out

-- it is too long, unless a read failed or there was no memory before that was seen
abbrev pub IsTooLongFor : Course SourceState → StreamFault → Type 0
IsTooLongFor input fault = (fault ≡ stream.InputTooLong) ⊎ (fault ≡ stream.NoMemory) ⊎ ((fault ≡ stream.Failed) × SourceFailed input)

-- nothing stands in the way: no stream failed, and the source has, or gave, no more than so many bytes
pub record IsStreamClear (cap : ℕ) (input : Course SourceState) (out : Course SinkState) : Type 0 where
  pub short : AsTold input.tells (length input.old.left ≤ cap) (HasGivenOver cap input → ⊥)
  pub no_source_fault : SourceFailed input → ⊥
  pub no_sink_fault : SinkFailed out → ⊥
