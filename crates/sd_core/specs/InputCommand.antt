-- What a command on standard input promises.
use Rattle.std.specs.Prelude.{◌≡◌, ◌<◌, ◌⊎◌, ◌^◌, ℕ, IsTrue, length}
use Rattle.sd_io.specs.Streams.{SourceState, SinkState}
use Rattle.sd_io.specs.declared.fault.DiskFault.TheVariants as disk
use Rattle.sd_change.specs.Change.{Change}
use Rattle.sd_course.specs.Course.{Course, SourceFailed}
use Rattle.stream_rewrite.specs.Stream.{DoesStream, StreamFails, IsStreamClear}
use Rattle.stream_rewrite.specs.declared.fault.StreamFault.TheVariants as stream
use Rattle.sd_core.specs.declared.error.Error.{Error}
use Rattle.sd_core.specs.declared.error.Error.TheVariants as error
use Rattle.sd_core.specs.declared.ended.Why.{Why}
use Rattle.sd_core.specs.declared.ended.Why.TheVariants as why

-- at most so many bytes are read of standard input
abbrev pub input_cap : ℕ
input_cap = 2 ^ 40

-- What a refused replacing of a stream of at most so many bytes leaves, and why it is refused.
abbrev pub InputFails : Change → ℕ → Course SourceState → Course SinkState → Error → Type 0
InputFails change cap input out (error.File disk.Failed) = StreamFails change cap input out stream.Failed
InputFails change cap input out error.InputTooLong = StreamFails change cap input out stream.InputTooLong
InputFails change cap input out error.NoMemory = StreamFails change cap input out stream.NoMemory
InputFails change cap input out _ = ⊥

abbrev pub InputEnds : Change → ℕ → Course SourceState → Course SinkState → Why → Type 0
InputEnds change cap input out why.Done = DoesStream change input out
InputEnds change cap input out (why.Fault failed) = InputFails change cap input out failed
InputEnds change cap input out _ = ⊥

-- it is told so, unless a read failed or there was no memory before that was seen
abbrev pub IsTooLong : Course SourceState → Why → Type 0
IsTooLong input ended =
    (ended ≡ why.Fault error.InputTooLong) ⊎ (ended ≡ why.Fault error.NoMemory) ⊎ ((ended ≡ why.Fault (error.File disk.Failed)) × SourceFailed input)

-- What a command on a stream of at most so many bytes promises at each of its ends.
pub record InputCommand (change : Change) (cap : ℕ) (input : Course SourceState) (out : Course SinkState) (ended : Why) : Type 0 where
  pub ends : InputEnds change cap input out ended
  pub too_long : IsTrue input.tells → cap < length input.old.left → IsTooLong input ended
  pub complete : IsStreamClear cap input out → (ended ≡ why.Done) ⊎ (ended ≡ why.Fault error.NoMemory)
