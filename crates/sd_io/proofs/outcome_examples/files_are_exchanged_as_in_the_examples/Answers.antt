use Rattle.std.proofs.Common.{refl}
use Rattle.sd_io.proofs.outcome_examples.files_are_exchanged_as_in_the_examples.Goals as goal

pub returns-clause-beside : goal.returns-clause-beside
returns-clause-beside c = refl

pub returns-clause-on_the_medium : goal.returns-clause-on_the_medium
returns-clause-on_the_medium c = refl

pub returns-clause-in_place : goal.returns-clause-in_place
returns-clause-in_place c = refl

pub returns-clause-left : goal.returns-clause-left
returns-clause-left c = refl

pub returns-clause-durable : goal.returns-clause-durable
returns-clause-durable c = refl

pub returns-clause-gone_for_good : goal.returns-clause-gone_for_good
returns-clause-gone_for_good c = refl

pub returns-clause-folder_stays : goal.returns-clause-folder_stays
returns-clause-folder_stays c = refl

pub returns-clause-not_synced : goal.returns-clause-not_synced
returns-clause-not_synced c = refl

pub returns-clause-failed_in_place : goal.returns-clause-failed_in_place
returns-clause-failed_in_place c = refl

pub returns-clause-failed_beside : goal.returns-clause-failed_beside
returns-clause-failed_beside c = refl
