use Rattle.std.proofs.Common.{◌≤◌, ◌*◌, ◌^◌, List, length}
use Rattle.std.specs.Prelude.{IsTrue, vec_len, vec_capacity}
use Rattle.sd_io.specs.Tree.{NameList}
use Rattle.sd_io.specs.Disk.{SameLists}
use Rattle.many_files.specs.Files.{ListsFiles}
use Rattle.many_files.proofs.rewriting.CauseLemmas.{HaveCausesSoFar}
use Rattle.many_files.proofs.rewriting.CrowdLemmas.{AreCrowded}
use Rattle.many_files.proofs.rewriting.ChainLemmas.{IsNamedSoFar}
use Rattle.many_files.proofs.rewriting.SweptLemmas.{IsSweptTo}
use Rattle.many_files.proofs.rewriting.rewrite_each.Given as goal

-- The files so far were rewritten in turn, and these are the jobs, which have their causes. Of listed files on a told disk the others are rewritten, and the
-- failed ones left.
abbrev pub invariant-loop-path : goal.invariant-loop-path
invariant-loop-path g l = record {
  never_falls : (g.D.Disk.state l.fn.disk).faults ≤ (g.D.Disk.state l.disk).faults;
  lists : SameLists (g.D.Disk.state l.fn.disk) (g.D.Disk.state l.disk);
  jobs_few : vec_len l.done.jobs ≤ length l.yielded;
  room : length l.fn.paths.items ≤ vec_capacity l.done.jobs;
  changed_few : l.done.changed ≤ length l.yielded;
  replaced_few : l.done.replaced ≤ length l.yielded * 2 ^ 64;
  named :
      IsNamedSoFar (g.R.Replaces.change l.replacer) g.D.Disk.tells (g.D.Disk.state l.fn.disk) (g.D.Disk.state l.disk) l.yielded l.done.jobs.items l.done.changed l.done.replaced;
  causes : HaveCausesSoFar g.D.Disk.tells (g.D.Disk.state l.fn.disk) (g.D.Disk.state l.disk) l.done.jobs.items;
  crowded : IsTrue g.D.Disk.tells → AreCrowded (g.D.Disk.state l.fn.disk) (g.D.Disk.state l.disk) l.done.jobs.items;
  swept : IsTrue g.D.Disk.tells → (places : List NameList) → ListsFiles (g.D.Disk.state l.fn.disk).tree l.fn.paths.items places
      → IsSweptTo (g.R.Replaces.change l.replacer) (g.D.Disk.state l.fn.disk) places l.yielded l.done.jobs.items l.done.changed l.done.replaced (g.D.Disk.state l.disk);
}
