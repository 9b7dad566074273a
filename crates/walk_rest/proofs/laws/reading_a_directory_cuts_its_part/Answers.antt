use Rattle.walk_rest.proofs.laws.MoveLemmas.{part_read}
use Rattle.walk_rest.proofs.laws.reading_a_directory_cuts_its_part.Goals as goal

pub returns : goal.returns
returns c = λ old new manner chain below part top before after inner left is planned reads. part_read old new manner chain below part top before after inner left is planned reads
