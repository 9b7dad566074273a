use Rattle.std.proofs.Common.{sym, ap, ◌∙◌, map}
use Rattle.hir_tree.specs.PlainText.{joined_all, text_of}
use Rattle.hir_tree.proofs.PlainTextLemmas.{text_concat}
use Rattle.hir_core.proofs.plain.+plain.Goals as goal

pub append-returns-in-Concat : goal.append-returns-in-Concat
append-returns-in-Concat t c = let all = ap text_of c.in-Concat.is ∙ text_concat c.in-Concat.hirs ∙ sym (ap (λ parts. joined_all (map text_of parts)) c.parts.ensures) in rw all c.append_all.ensures
