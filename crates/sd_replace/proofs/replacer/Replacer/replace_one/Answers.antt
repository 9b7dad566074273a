use Rattle.std.proofs.Common.{sym, ◌∙◌}
use Rattle.hir_tree.specs.Tree.{tree_of}
use Rattle.sd_replace.specs.Replacer.{replacement_of}
use Rattle.sd_replace.proofs.changing.ChangingLemmas.{as_within, written_less, written_more}
use Rattle.sd_replace.proofs.template.PieceLemmas.{text_made}
use Rattle.sd_replace.proofs.replacer.Replacer.replace_one.Goals as goal

pub returns-in_ok-put-clause-written : goal.returns-in_ok-put-clause-written
returns-in_ok-put-clause-written c = λ done known h.
    let self = c.args.self.now in
    let bytes = c.args.content.now in
    let within = as_within c.args.quota.now (replacement_of self) bytes done c.args.found c.admits.result c.requires.limits (c.admits.ensures.admitted done c.args.found (sym c.start.ensures) known) in
    let text = text_made self.substitute (tree_of self.matcher.searcher) self.template.pieces.items bytes c.args.found.start c.args.groups.now self.read c.requires.groups in
    written_more (replacement_of self) bytes done c.args.found c.args.made.now.new_bytes.items c.args.made.now.copied c.args.made.now.count h
    c.put.new.self.new_bytes.items c.put.new.self.copied c.put.new.self.count _ (sym c.if-admits.true ∙ within) c.in_ok-put.ensures.bytes text c.in_ok-put.ensures.copied c.in_ok-put.ensures.count

pub returns-else-admits-clause-written : goal.returns-else-admits-clause-written
returns-else-admits-clause-written c = λ done known h.
    let self = c.args.self.now in
    let bytes = c.args.content.now in
    let without = as_within c.args.quota.now (replacement_of self) bytes done c.args.found c.admits.result c.requires.limits (c.admits.ensures.admitted done c.args.found (sym c.start.ensures) known) in
    written_less (replacement_of self) bytes done c.args.found c.args.made.now.new_bytes.items c.args.made.now.copied c.args.made.now.count h (sym c.if-admits.false ∙ without)
