use Rattle.std.proofs.Common.{rules, ℕ, sym, subst, ◌==◌, ap, ◌∙◌}
use Rattle.std.specs.List.{list_any}
use Rattle.std.specs.Char.{is_ascii_alphabetic}
use Rattle.std.proofs.lemmas.Bool.{cond-true}
use Rattle.std.proofs.lemmas.List.Sorted.{answers_always}
use Rattle.unicode.specs.CaseFolding.{fold_pairs}
use Rattle.regex_class.specs.Ranges.{KeysRise}
use Rattle.pattern_syntax.proofs.FoldLemmas.{fold_pairs_rise}
use Rattle.pattern_syntax.proofs.sets.PairLemmas.{found_is}
use Rattle.pattern_syntax.proofs.sets.cases.folds_with_another.Goals as goal

pub returns-then-flags : goal.returns-then-flags
returns-then-flags c =
    let facts = c.binary_search_by_key.ensures in
    let by_key = facts.position (λ pair. pair.0) (answers_always _ _ _ (λ f a r g called. search rules)) in
    let rise : KeysRise c.fold_pairs-pairs.result.now = subst KeysRise (sym c.fold_pairs-pairs.ensures.table) fold_pairs_rise in
    c.is_ok.ensures.value
    ∙ found_is c.fold_pairs-pairs.result.now rise c.args.c c.binary_search_by_key.result facts.bound by_key
    ∙ ap (list_any (λ (pair : ℕ × ℕ). pair.0 == c.args.c)) c.fold_pairs-pairs.ensures.table
    ∙ sym (cond-true c.args.flags.unicode (list_any (λ (pair : ℕ × ℕ). pair.0 == c.args.c) fold_pairs) (is_ascii_alphabetic c.args.c) c.if-flags.true)
