use Rattle.open_lists.proofs.OpenListsLemmas.{holds_on_err, same_lists, opens}
use Rattle.host_io.proofs.disk.HostDiskDisk.open_dir.Goals as goal

pub returns-in_err-open-clause-refused : goal.returns-in_err-open-clause-refused
returns-in_err-open-clause-refused g c = holds_on_err _ (same_lists _ _ _ _ _ _ _ _ _ _ _ c.in_err-open.ensures.refused)

pub returns-clause-opened : goal.returns-clause-opened
returns-clause-opened g c = opens _ _ _ _ _ _ _ _ _ _ _ _ _ c.in_ok-open.ensures.added
