-- What a run works on.
use Rattle.sd_io.specs.Disk.{DiskState}
use Rattle.sd_io.specs.Streams.{SourceState, SinkState}
use Rattle.sd_course.specs.Course.{Course}

-- The disk, the input and the output over the course of a run. That each is the very value that was handed in, so that no call was made on it, is given as a
-- fact.
pub record Outside : Type 1 where
  pub same_disk : Type 0
  pub same_input : Type 0
  pub same_out : Type 0
  pub disk : Course DiskState
  pub input : Course SourceState
  pub out : Course SinkState

abbrev pub outside : Type 0 → Type 0 → Type 0 → Course DiskState → Course SourceState → Course SinkState → Outside
outside same_disk same_input same_out disk input out = record {
  same_disk = same_disk;
  same_input = same_input;
  same_out = same_out;
  disk = disk;
  input = input;
  out = out;
}

-- no call was made on any of them
abbrev pub Untouched : Outside → Type 0
Untouched o = o.same_disk × o.same_input × o.same_out
