use Rattle.file_rewrite.proofs.laws.KeepingLemmas.{rewritten_keeps, refused_keeps}
use Rattle.file_rewrite.proofs.laws.rewriting_keeps_files.Goals as goal

pub returns-clause-rewritten : goal.returns-clause-rewritten
returns-clause-rewritten g c = λ replacer path rewrite old new r. rewritten_keeps _ path rewrite old new r

pub returns-clause-left : goal.returns-clause-left
returns-clause-left g c = λ replacer path fault old new l. refused_keeps _ path fault old new l
