-- What the host's streams tell: their counts, and nothing of their bytes.
use Rattle.std.specs.Prelude.{[]}
use Rattle.sd_io.specs.Streams.{SourceState, SinkState}
use Rattle.host_io.specs.declared.stream.HostSource.{HostSource}
use Rattle.host_io.specs.declared.stream.HostSink.{HostSink}

abbrev pub host_source_state : {R : Type 0} → HostSource R → SourceState
host_source_state s = record { left = []; taken = s.taken; faults = s.faults }

abbrev pub host_sink_state : {W : Type 0} → HostSink W → SinkState
host_sink_state s = record { held = []; faults = s.faults }
