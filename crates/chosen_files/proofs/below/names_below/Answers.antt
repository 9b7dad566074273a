use Rattle.std.proofs.Common.{sym, ◌∙◌, ap, ◌++◌, lit<}
use Rattle.std.proofs.lemmas.Bool.{false≢true}
use Rattle.std.proofs.lemmas.Str.Pattern.{ends_char, strip_prefix_char}
use Rattle.chosen_files.proofs.below.NamesLemmas.{names_follow, no_slash_at_end}
use Rattle.chosen_files.proofs.below.names_below.Goals as goal

pub returns-else-ends_with : goal.returns-else-ends_with
returns-else-ends_with c =
    let folder = c.args.folder.now in
    let cut = c.in_ok-rest.ensures.cases in
    let ends = ends_char 47 folder c.ends_with.result c.ends_with.ensures.cases (lit< tt) in
    names_follow folder c.args.path.now c.in_ok-rest.rest.now c.strip_prefix-else-ends_with.result
    (no_slash_at_end folder (λ front is. false≢true (sym c.if-ends_with.false ∙ ends.1 front is)))
    (cut.1.1 ∙ ap (λ r. folder ++ r) (sym cut.2))
    (strip_prefix_char 47 c.in_ok-rest.rest.now c.strip_prefix-else-ends_with.result c.strip_prefix-else-ends_with.ensures.cases (lit< tt))
