use Rattle.std.proofs.Common.{arith}
use Rattle.grep_matcher.proofs.references.ReferenceLemmas.{name_found}
use Rattle.grep_matcher.proofs.references.name_at.Goals as goal

pub returns-in_default : goal.returns-in_default
returns-in_default c = rw c.ok.ensures.value (name_found (λ s. s.now) c.args.text.now c.name_len.result c.from_utf8.result _ c.name_len.ensures.counted (omega arith) c.from_utf8.ensures.cases)
