use Rattle.std.proofs.Common.{refl, ap}
use Rattle.std.specs.Option.{option_map}
use Rattle.open_lists.specs.OpenLists.{told_list}
use Rattle.mem_io.specs.MemDisk.{mem_state, left_entries}
use Rattle.open_lists.proofs.OpenListsLemmas.{holds_on_err, same_lists}
use Rattle.mem_io.proofs.disk.DiskLemmas.{lists_directory}
use Rattle.mem_io.proofs.disk.MemDiskDisk.open_dir.Goals as goal

pub returns-in_err-open-clause-refused : goal.returns-in_err-open-clause-refused
returns-in_err-open-clause-refused c = holds_on_err _ (same_lists _ _ _ _ _ _ _ _ _ _ _ c.in_err-open.ensures.refused)

pub returns-clause-entries : goal.returns-clause-entries
returns-clause-entries c =
    let self = c.args.self.now in
    lists_directory self.medium.tree.top self.medium.tree.nodes.entries (mem_state self) _ c.args.path.now c.in_ok-open.field-0.number _ c.in-Some.place _ _ c.reverse.new.self.items refl self.medium.tree.sound.ordered
    c.in_ok-place.ensures c.in-Some.is c.is_directory.ensures c.if-not-is_directory.false c.in_ok-entries.ensures c.reverse.ensures.items (ap (option_map (told_list left_entries)) c.in_ok-open.ensures.added.opened)
