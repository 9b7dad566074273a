use Rattle.std.proofs.Common.{◌≡◌, ◌≤◌, sym, ◌∙◌, arith}
use Rattle.hir_tree.specs.Tree.{tree_of}
use Rattle.regex_class.specs.Ranges.{in_ranges}
use Rattle.pattern_syntax.specs.SetTree.{with_sets}
use Rattle.pattern_syntax.specs.Reads.{class_tree}
use Rattle.pattern_syntax.specs.Singles as singles
use Rattle.pattern_syntax.proofs.spelling.SpellingLemmas.{is_on}
use Rattle.pattern_syntax.proofs.literals.LiteralLemmas.{ok_on, one_set, alike_tree}
use Rattle.pattern_syntax.proofs.literals.literal_tree.Goals as goal

pub returns : goal.returns
returns c =
    let within : c.args.c ≤ 0x10_FFFF = omega arith in
    let another = sym c.folds_with_another.ensures ∙ c.if-not-folds_with_another.false in
    let one = one_set c.in_ok-one.one c.args.c within c.in_ok-one.ensures in
    let alike = alike_tree c.args.flags c.args.c c.args.bytes c.in_ok-one.one c.in_ok-alike.alike (is_on c.args.flags.folds c.if-not-flags.false) another one c.in_ok-alike.ensures in
    ok_on (λ hir. with_sets (tree_of hir) ≡ class_tree c.args.flags (in_ranges c.in_ok-alike.alike.ranges.items))
    (λ hir. with_sets (tree_of hir) ≡ singles.literal_tree c.args.flags c.args.c c.args.bytes) (λ hir same. same ∙ alike) c.class_of.result c.class_of.ensures
