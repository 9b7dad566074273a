-- One name to unfold where a proof computes runs on a literal.
use Rattle.hir_tree.specs.Runs.{byte_size, char_size, after, runs, preferred}
use Rattle.hir_tree.proofs.Computing.{looks}

-- `unfolding matching` opens the preferred match, down to looks and sets
unfoldable pub matching : Unit {0}
unfolding byte_size char_size after runs preferred looks
matching = tt
