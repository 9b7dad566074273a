use Rattle.std.proofs.Common.{◌≤◌, take}
use Rattle.std.specs.Prelude.{IsTrue, Contains}
use Rattle.sd_io.specs.Disk.{SameLists}
use Rattle.file_exchange.specs.Exchange.{IsFilePath}
use Rattle.journal_text.specs.declared.line.Line.{Line}
use Rattle.change_phases.specs.Between.{Work}
use Rattle.journal.specs.Planning.{IsPlanned, AddsFiles, AddsStages, CountStages, LeadToFiles}
use Rattle.journal.proofs.PlanningLemmas.{IsMadeTo}
use Rattle.journal.proofs.planning.make_stages.Given as goal

abbrev pub invariant-loop-path : goal.invariant-loop-path
invariant-loop-path g l = record {
  never_falls : (g.D.Disk.state l.fn.disk).faults ≤ (g.D.Disk.state l.disk).faults;
  lists : SameLists (g.D.Disk.state l.fn.disk) (g.D.Disk.state l.disk);
  made : IsTrue g.D.Disk.tells → (work : Work) → IsPlanned (g.R.Replaces.change l.fn.replacer) work l.fn.paths (g.D.Disk.state l.fn.disk)
      → IsMadeTo work (g.D.Disk.state l.fn.disk) l.path-index l.journal (g.D.Disk.state l.disk);
  adds : IsTrue g.D.Disk.tells → AddsFiles (g.D.Disk.state l.fn.disk) (g.D.Disk.state l.disk);
  stages : IsTrue g.D.Disk.tells → AddsStages l.journal (g.D.Disk.state l.fn.disk).tree (g.D.Disk.state l.disk).tree;
  counted : IsTrue g.D.Disk.tells → LeadToFiles (g.D.Disk.state l.fn.disk).tree l.fn.paths
      → CountStages (g.R.Replaces.change l.fn.replacer) (g.D.Disk.state l.fn.disk).tree (take l.path-index l.fn.paths) l.journal;
  paths : IsTrue g.D.Disk.tells → (line : Line) → Contains l.journal line → IsFilePath (g.D.Disk.state l.disk).tree line.path;
}
