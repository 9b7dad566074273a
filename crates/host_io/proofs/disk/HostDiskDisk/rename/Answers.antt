use Rattle.host_io.proofs.folders.AnswerLemmas.{still_asks}
use Rattle.host_io.proofs.disk.HostDiskDisk.rename.Goals as goal
use Rattle.host_io.proofs.disk.HostDiskDisk.rename.Goals.{then-not-is_new+in_ok-regular, else-not-is_new}

pub returns-in_err-old-clause-asks : goal.returns-in_err-old-clause-asks
returns-in_err-old-clause-asks g c = still_asks _ _ c.places.ensures c.change_names.ensures

pub returns-in_err-regular-clause-asks : goal.returns-in_err-regular-clause-asks
returns-in_err-regular-clause-asks g c = still_asks _ _ c.places.ensures c.change_names.ensures

pub returns-then-is_no_file-clause-asks : goal.returns-then-is_no_file-clause-asks
returns-then-is_no_file-clause-asks g c = elim c.if-not-is_new.branch [
  | then-not-is_new+in_ok-regular w ↦ rw w.self-is (still_asks _ _ c.places.ensures c.change_names.ensures)
  | else-not-is_new w ↦ rw w.self-is (still_asks _ _ c.places.ensures c.change_names.ensures)
]

pub returns-clause-asks : goal.returns-clause-asks
returns-clause-asks g c = elim c.if-not-is_new.branch [
  | then-not-is_new+in_ok-regular w ↦ rw w.self-is (still_asks _ _ c.places.ensures c.change_names.ensures)
  | else-not-is_new w ↦ rw w.self-is (still_asks _ _ c.places.ensures c.change_names.ensures)
]
