use Rattle.mem_io.proofs.disk.WritingLemmas.{syncs_folder}
use Rattle.mem_io.proofs.disk.MemDiskDisk.sync_dir.Goals as goal

pub returns-in_ok-sync_folder-in-Some-clause-synced : goal.returns-in_ok-sync_folder-in-Some-clause-synced
returns-in_ok-sync_folder-in-Some-clause-synced c =
    syncs_folder c.args.self.now (record c.args.self.now { medium = c.sync_folder.new.self; counter = c.pass.new.self }) c.args.path.now _ c.in-Some.place _
    c.in_ok-place.ensures c.in-Some.is c.is_directory.ensures c.if-is_directory.true c.in_ok-sync_folder-in-Some.ensures.noted
