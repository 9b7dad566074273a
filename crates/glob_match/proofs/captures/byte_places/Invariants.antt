use Rattle.glob_match.proofs.captures.BytesLemmas.{BytesSoFar}
use Rattle.glob_match.proofs.captures.byte_places.Given as goal

abbrev pub invariant-loop-c : goal.invariant-loop-c
invariant-loop-c l = BytesSoFar l.yielded l.bytes.items l.at
