use Rattle.std.proofs.Common.{false, inl, inr, replicate, sym, ◌∙◌, true≢false}
use Rattle.std.proofs.lemmas.Bool.{cases_lt}
use Rattle.std.proofs.lemmas.List.{get_or-replicate, get_or_past}
use Rattle.hir_program.proofs.loops.row_of.Goals as goal

pub loop-byte-init : goal.loop-byte-init
loop-byte-init c b has = absurd (true≢false (sym has ∙ elim (cases_lt b 256) [
  | inl few ↦ get_or-replicate 256 b false false few
  | inr many ↦ get_or_past (replicate 256 false) b false many
]))
