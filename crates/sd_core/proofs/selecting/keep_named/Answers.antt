use Rattle.std.proofs.Common.{◌∙◌, sym, subst, rules, List, ℕ}
use Rattle.std.specs.Prelude.{All}
use Rattle.std.proofs.lemmas.Fn.{filter_same}
use Rattle.std.proofs.lemmas.List.Elements.{All-filter}
use Rattle.chosen_files.specs.Chosen.{IsPathBelow}
use Rattle.file_rewrite.specs.Paths.{IsNoPath}
use Rattle.sd_core.specs.Sweep.{may_name_file}
use Rattle.sd_core.proofs.selecting.NamedLemmas.{all_kept, kept_named}
use Rattle.sd_core.proofs.selecting.keep_named.Goals as goal

pub returns-clause-named : goal.returns-clause-named
returns-clause-named c =
    subst (All {X = List ℕ} (λ path. IsNoPath path → ⊥)) (sym (filter_same _ may_name_file _ (λ x b f' k. search rules) _ _ c.retain.ensures.filtered)) (kept_named c.args.paths.items)

pub returns-clause-all : goal.returns-clause-all
returns-clause-all c = λ named. filter_same _ may_name_file _ (λ x b f' k. search rules) _ _ c.retain.ensures.filtered ∙ all_kept c.args.paths.items named

pub returns-clause-below : goal.returns-clause-below
returns-clause-below c = λ root below.
    subst (All (IsPathBelow root)) (sym (filter_same _ may_name_file _ (λ x b f' k. search rules) _ _ c.retain.ensures.filtered))
    (All-filter may_name_file (IsPathBelow root) c.args.paths.items below)
