use Rattle.std.proofs.lemmas.Option.{IfSome_then}
use Rattle.hir_tree.specs.Runs.{preferred}
use Rattle.hir_tree.proofs.runs_laws.WholeLemmas.{match-whole}
use Rattle.hir_tree.proofs.runs_laws.preferred_matches_are_whole.Goals as goal

pub returns-clause-begins : goal.returns-clause-begins
returns-clause-begins c core groups text at within = IfSome_then (preferred core groups text at) (match-whole text groups core at within) (λ found whole. whole.begins)

pub returns-clause-lies : goal.returns-clause-lies
returns-clause-lies c core groups text at within = IfSome_then (preferred core groups text at) (match-whole text groups core at within) (λ found whole. whole.lies)

pub returns-clause-slots : goal.returns-clause-slots
returns-clause-slots c core groups text at within = IfSome_then (preferred core groups text at) (match-whole text groups core at within) (λ found whole. whole.slots)
