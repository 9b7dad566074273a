-- What a source and a sink in memory tell.
use Rattle.std.specs.Prelude.{ℕ, Option, drop}
use Rattle.sd_io.specs.Streams.{SourceState, SinkState}
use Rattle.mem_io.specs.declared.stream.MemSource.{MemSource}
use Rattle.mem_io.specs.declared.stream.MemSink.{MemSink}

-- ---- a source

abbrev pub source_state : MemSource → SourceState
source_state s = record { left = drop s.given s.bytes.items; taken = s.taken; faults = s.failing.faults }

-- how many bytes a read gives at most
abbrev pub piece_of : MemSource → ℕ
piece_of s = s.piece

-- how many reads were made
abbrev pub read_count : MemSource → ℕ
read_count s = s.failing.calls

-- the number of the read that is to fail
abbrev pub failing_read : MemSource → Option ℕ
failing_read s = s.failing.failing

-- ---- a sink

abbrev pub sink_state : MemSink → SinkState
sink_state s = record { held = s.bytes.items; faults = s.failing.faults }

-- how many bytes it holds at most
abbrev pub room_of : MemSink → ℕ
room_of s = s.room

-- how many writes were made
abbrev pub write_count : MemSink → ℕ
write_count s = s.failing.calls

-- the number of the write that is to fail
abbrev pub failing_write : MemSink → Option ℕ
failing_write s = s.failing.failing
