use Rattle.sd_io.specs.Lists.{IsNoDirectory}
use Rattle.journal.proofs.FindingLemmas.{opened_list, entry_found, listing_refused}
use Rattle.journal.proofs.finding.find_entry.Goals as goal

pub returns-clause-found : goal.returns-clause-found
returns-clause-found g c =
    λ told.
    let old = g.D.Disk.state c.args.disk.now in
    let now = g.D.Disk.state c.open_dir.new.self in
    let same = c.in_ok-list.ensures.tree in
    let lists = c.in_ok-list.ensures.entries told in
    entry_found old now c.args.folder.now c.args.name.now c.in_ok-list.list.number c.find_in-found.result same lists
    (c.find_in-found.ensures.found told lists.folder (opened_list old now c.args.folder.now c.in_ok-list.list.number same lists))

pub returns-clause-fails : goal.returns-clause-fails
returns-clause-fails g c =
    let old = g.D.Disk.state c.args.disk.now in
    listing_refused g.D.Disk.tells old (g.D.Disk.state c.open_dir.new.self) (g.D.Disk.state c.find_in-found.new.disk) (g.D.Disk.state c.close_dir.new.self)
    (IsNoDirectory old c.args.folder.now) c.find_in-found.result c.in_ok-list.ensures.cause.never_falls c.close_dir.ensures.faults c.find_in-found.ensures.cause
