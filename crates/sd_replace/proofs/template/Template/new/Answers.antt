use Rattle.std.proofs.Common.{ℕ, List, ap, sym, ◌∙◌}
use Rattle.grep_matcher.specs.References.{expand}
use Rattle.hir_tree.specs.Tree.{tree_of}
use Rattle.grep_regex.specs.Options.{names_in, number_of}
use Rattle.sd_replace.specs.Replacement.{substituted}
use Rattle.sd_replace.specs.declared.replacer.Substitute.{Substitute}
use Rattle.sd_replace.proofs.template.Template.new.Goals as goal

pub returns-in_ok-pieces-in-Literal : goal.returns-in_ok-pieces-in-Literal
returns-in_ok-pieces-in-Literal c = λ text_of.
    c.in_ok-pieces-in-Literal.ensures text_of
    ∙ (c.as_bytes.ensures.value ∙ (c.as_str.ensures.same ∙ ap (λ (s : Substitute). substituted s (tree_of c.args.matcher.now.searcher) text_of) (sym c.in-Literal.is)))

pub returns-in_ok-pieces-in-Expanded : goal.returns-in_ok-pieces-in-Expanded
returns-in_ok-pieces-in-Expanded c = λ text_of.
    c.in_ok-pieces-in-Expanded.ensures text_of
    ∙ (ap (λ (text : List ℕ). expand text_of (number_of (names_in (tree_of c.args.matcher.now.searcher))) text) (c.as_bytes-in-Expanded.ensures.value ∙ c.as_str-in-Expanded.ensures.same)
    ∙ ap (λ (s : Substitute). substituted s (tree_of c.args.matcher.now.searcher) text_of) (sym c.in-Expanded.is))
