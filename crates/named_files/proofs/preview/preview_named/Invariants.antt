use Rattle.std.proofs.Common.{◌≤◌}
use Rattle.sd_io.specs.Disk.{SameLists}
use Rattle.named_files.specs.Preview.{have_headers}
use Rattle.named_files.proofs.preview.PreviewLemmas.{IsShownSoFar}
use Rattle.named_files.proofs.preview.preview_named.Given as goal

-- the texts of the words so far were written
abbrev pub invariant-loop-path : goal.invariant-loop-path
invariant-loop-path g l = record {
  lists : SameLists (g.D.Disk.state l.fn.disk) (g.D.Disk.state l.disk);
  disk_low : (g.D.Disk.state l.fn.disk).faults ≤ (g.D.Disk.state l.disk).faults;
  sink_low : (g.O.Sink.state l.fn.out).faults ≤ (g.O.Sink.state l.out).faults;
  shown : IsShownSoFar (g.R.Replaces.change l.replacer) (have_headers l.headers) g.D.Disk.tells g.O.Sink.tells (g.D.Disk.state l.fn.disk) (g.D.Disk.state l.disk)
      (g.O.Sink.state l.fn.out) (g.O.Sink.state l.out) l.yielded;
}
