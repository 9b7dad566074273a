use Rattle.std.proofs.Common.{[]}
use Rattle.walk_rest.proofs.laws.MoveLemmas.{skipped_unread}
use Rattle.walk_rest.proofs.laws.skipping_takes_a_part_off.Goals as goal

pub returns : goal.returns
returns c = λ state manner root levels next top rest h. skipped_unread state manner root [] levels next top rest h
