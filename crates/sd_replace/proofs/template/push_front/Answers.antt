use Rattle.std.proofs.Common.{List, ℕ, ◌++◌, ap, ◌∙◌}
use Rattle.hir_tree.specs.Tree.{tree_of}
use Rattle.grep_regex.specs.Options.{names_in, number_of}
use Rattle.sd_replace.specs.Templates.{pieces_text}
use Rattle.sd_replace.proofs.template.PieceLemmas.{dollar_itself}
use Rattle.sd_replace.proofs.template.push_front.Goals as goal

pub returns-in_default-clause-added : goal.returns-in_default-clause-added
returns-in_default-clause-added c = λ text_of.
    c.in_ok-push_bytes.ensures text_of
    ∙ ap (λ (l : List ℕ). pieces_text text_of c.args.pieces.now.items ++ l)
    (dollar_itself c.args.text.now c.find_cap_ref.result c.requires.dollar c.in_default.not-Some c.find_cap_ref.ensures.read text_of (number_of (names_in (tree_of c.args.matcher.now.searcher))))
