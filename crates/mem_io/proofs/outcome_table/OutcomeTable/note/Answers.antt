use Rattle.mem_io.proofs.outcome_table.OutcomeTable.note.Goals as goal

pub returns-in-Moved : goal.returns-in-Moved
returns-in-Moved c = rw c.in-Moved.is c.rename.ensures

pub returns-in-NotMoved : goal.returns-in-NotMoved
returns-in-NotMoved c = rw c.in-NotMoved.is c.unsettle.ensures

pub returns-in-FolderSynced : goal.returns-in-FolderSynced
returns-in-FolderSynced c = rw c.in-FolderSynced.is c.sync_folder.ensures
