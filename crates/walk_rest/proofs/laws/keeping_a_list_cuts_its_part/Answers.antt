use Rattle.std.proofs.Common.{[]}
use Rattle.walk_rest.proofs.laws.MoveLemmas.{list_kept}
use Rattle.walk_rest.proofs.laws.keeping_a_list_cuts_its_part.Goals as goal

pub returns : goal.returns
returns c = λ old new manner root lower upper top opened kept rest h is reads_it first second keeps.
    let r = list_kept old new manner root [] lower upper top opened kept rest h is reads_it first second keeps [] in
    record { new = r.0; moves = r.1; has = r.2 }
