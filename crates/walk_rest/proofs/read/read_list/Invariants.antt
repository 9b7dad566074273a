use Rattle.std.proofs.Common.{◌≡◌, ◌≤◌, ◌+◌, ◌*◌, vec_len}
use Rattle.std.specs.Prelude.{IsTrue, All}
use Rattle.walk_rest.specs.declared.entry.DirEntry.{DirEntry}
use Rattle.sd_io.specs.Disk.{SameTree}
use Rattle.sd_io.specs.Lists.{IsOpen, SameOtherLists, SameOpen}
use Rattle.walk_rest.specs.Level.{AddsFaults, TakesEntries, TakesWithFaults, listable, unended}
use Rattle.walk_rest.proofs.read.ReadLemmas.{weight_open, entries_left}
use Rattle.walk_rest.proofs.read.read_list.Given as goal

abbrev pub invariant-loop-entries : goal.invariant-loop-entries
invariant-loop-entries g l = record {
  is_open : IsOpen (g.D.Disk.state l.disk) l.list.number;
  others : SameOtherLists (g.D.Disk.state l.fn.disk) l.list.number (g.D.Disk.state l.disk);
  same_open : SameOpen (g.D.Disk.state l.fn.disk) (g.D.Disk.state l.disk);
  tree : SameTree (g.D.Disk.state l.fn.disk) (g.D.Disk.state l.disk);
  faults : (g.D.Disk.state l.fn.disk).faults ≤ (g.D.Disk.state l.disk).faults;
  taken : TakesEntries (vec_len l.entries) (g.D.Disk.state l.fn.disk) (g.D.Disk.state l.disk);
  passed : TakesWithFaults (vec_len l.entries + unended ((g.D.Disk.state l.disk).open_list l.list.number)) (unended ((g.D.Disk.state l.fn.disk).open_list l.list.number)) (g.D.Disk.state l.fn.disk) l.fn.faults.items (g.D.Disk.state l.disk) l.faults.items;
  depth : All (λ (entry : DirEntry). entry.depth ≡ l.folder.depth + 1) l.entries.items;
  later : (g.D.Disk.state l.fn.disk).listed ≤ (g.D.Disk.state l.disk).listed;
  due : AddsFaults (g.D.Disk.state l.fn.disk) l.fn.faults.items (g.D.Disk.state l.disk) l.faults.items;
  read : IsTrue g.D.Disk.tells → entries_left (g.D.Disk.state l.fn.disk) l.list.number l.folder l.fn.faults.items (g.D.Disk.state l.disk) l.faults.items l.entries.items;
}

abbrev pub decreases-loop-entries : goal.decreases-loop-entries
decreases-loop-entries g l = 2 * listable (g.D.Disk.state l.disk) + weight_open ((g.D.Disk.state l.disk).open_list l.list.number)
