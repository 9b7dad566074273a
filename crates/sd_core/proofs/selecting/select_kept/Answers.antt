use Rattle.std.proofs.Common.{◌∙◌, ap, refl, inl, inr, rules}
use Rattle.std.specs.Prelude.{All, Err}
use Rattle.chosen_files.specs.Choice.{GlobsFail}
use Rattle.chosen_files.specs.Chosen.{IsPathBelow}
use Rattle.chosen_files.specs.Kept.{ListsKept}
use Rattle.sd_core.specs.Errors.{of_choice}
use Rattle.sd_core.specs.declared.error.Error.{Error}
use Rattle.sd_core.proofs.selecting.GlobLemmas.{err_of, failed_of, if_ok, if_err, is_told, none_first, globs_told, globs_for_memory}
use Rattle.sd_core.proofs.selecting.SelectionLemmas.{kept_kept}
use Rattle.sd_core.proofs.selecting.select_kept.Goals as goal

pub returns-in_err-globs-clause-bad_glob : goal.returns-in_err-globs-clause-bad_glob
returns-in_err-globs-clause-bad_glob g c = λ place at.
    let (fault, was, is) = err_of of_choice c.read_globs.result c.in_err-globs.field-0.0 c.in_err-globs.ensures.cases in
    let told = is_told c.from_residual.result _ c.from_residual.ensures.1 in (
      refl,
      elim (globs_told c.args.globs.now fault (failed_of (GlobsFail c.args.globs.now) c.read_globs.result fault was c.read_globs.ensures.refused) place at) [
        | inl e ↦ inl (told ∙ ap Err (is ∙ e))
        | inr e ↦ inr (told ∙ ap Err (is ∙ e))
      ],
    )

pub returns-in_err-globs-clause-complete : goal.returns-in_err-globs-clause-complete
returns-in_err-globs-clause-complete g c = λ clear.
    let (fault, was, is) = err_of of_choice c.read_globs.result c.in_err-globs.field-0.0 c.in_err-globs.ensures.cases in
    if_err c.from_residual.result _ _ (is_told c.from_residual.result _ c.from_residual.ensures.1)
    (is ∙ globs_for_memory c.args.globs.now fault (failed_of (GlobsFail c.args.globs.now) c.read_globs.result fault was c.read_globs.ensures.refused) clear.valid)

pub returns-in_err-choice-clause-bad_glob : goal.returns-in_err-choice-clause-bad_glob
returns-in_err-choice-clause-bad_glob g c = λ place at. absurd (none_first c.args.globs.now place (search rules) at)

pub returns-clause-bad_glob : goal.returns-clause-bad_glob
returns-clause-bad_glob g c = λ place at. absurd (none_first c.args.globs.now place (search rules) at)

pub returns-clause-selected : goal.returns-clause-selected
returns-clause-selected g c = λ told.
    let tree = (g.D.Disk.state c.args.disk.now).tree in
    let listed = kept_kept tree (g.met.D.Disk.is_tree c.args.disk.now told) c.args.root.now c.args.globs.now c.deref.result.now c.args.rules.now c.in_ok-choice.choice.paths.items
    c.keep_named.result.items (search rules)
    (if_ok Error (λ choice. ListsKept tree c.args.root.now c.deref.result.now c.args.rules.now choice.paths.items) c.choose_kept.result c.in_ok-choice.choice c.in_ok-choice.ensures.cases
    (c.choose_kept.ensures.kept told))
    c.keep_named.ensures.all in
    (listed.places, (listed, refl))

pub returns-clause-below_root : goal.returns-clause-below_root
returns-clause-below_root g c = c.keep_named.ensures.below c.args.root.now
    (if_ok Error (λ choice. All (IsPathBelow c.args.root.now) choice.paths.items) c.choose_kept.result c.in_ok-choice.choice c.in_ok-choice.ensures.cases c.choose_kept.ensures.below_root)
