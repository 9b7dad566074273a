use Rattle.file_exchange.proofs.reserved.ReservedPathLemmas.{no_bytes, some_bytes, folder_is_top, folder_is_below}
use Rattle.file_exchange.proofs.reserved.folder_path.Goals as goal

pub returns-then-is_empty : goal.returns-then-is_empty
returns-then-is_empty c = folder_is_top c.args.path.now c.folder_of-folder.result.now c.folder_of-folder.ensures (no_bytes _ c.if-is_empty.ensures)

pub returns-else-is_empty : goal.returns-else-is_empty
returns-else-is_empty c = folder_is_below c.args.path.now c.folder_of-folder.result.now c.folder_of-folder.ensures (some_bytes _ c.if-is_empty.ensures)
