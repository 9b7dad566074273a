use Rattle.sd_io.proofs.laws.WayLemmas.{creates_ways, may_rename_ways, may_write_ways, removes_ways, renames_ways, writes_ways}
use Rattle.sd_io.proofs.laws.calls_on_files_keep_directories_and_links.Goals as goal

pub returns-clause-creates : goal.returns-clause-creates
returns-clause-creates c = creates_ways

pub returns-clause-writes : goal.returns-clause-writes
returns-clause-writes c = writes_ways

pub returns-clause-may_have_written : goal.returns-clause-may_have_written
returns-clause-may_have_written c = may_write_ways

pub returns-clause-renames : goal.returns-clause-renames
returns-clause-renames c = renames_ways

pub returns-clause-may_have_renamed : goal.returns-clause-may_have_renamed
returns-clause-may_have_renamed c = may_rename_ways

pub returns-clause-removes : goal.returns-clause-removes
returns-clause-removes c = removes_ways
