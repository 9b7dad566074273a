use Rattle.std.proofs.Common.{true, refl, sym, ◌∙◌, ap, subst}
use Rattle.std.specs.Prelude.{codes}
use Rattle.std.proofs.lemmas.Bool.{false≢true}
use Rattle.sd_io.specs.Paths.{reached}
use Rattle.sd_io.specs.Tree.{Tree}
use Rattle.chosen_files.specs.Below.{HasFewerBelow, HasManyBelow}
use Rattle.chosen_files.proofs.examples.CountLemmas.{fewer_than_six, five_or_more, to_d, to_none}
use Rattle.chosen_files.proofs.laws.ChosenLemmas.{fewer_not_many}
use Rattle.chosen_files.proofs.examples.choices_fail_as_in_the_examples.Goals as goal

pub returns-clause-no_root : goal.returns-clause-no_root
returns-clause-no_root c = λ old new tree. (
  (λ told. ap (λ (t : Tree). reached t (codes "/n") true) tree ∙ to_none),
  (λ off. absurd (false≢true (sym off))),
)

pub returns-clause-a_root : goal.returns-clause-a_root
returns-clause-a_root c = λ old new tree fails.
    let nowhere = sym (ap (λ (t : Tree). reached t (codes "/d") true) tree) ∙ fails.0 refl in
    let leads = to_d in
    cc

pub returns-clause-untold : goal.returns-clause-untold
returns-clause-untold c = λ root old new unfailed fails. unfailed (fails.1 refl)

pub returns-clause-cap_met : goal.returns-clause-cap_met
returns-clause-cap_met c = λ old new tree. (
  (λ told. subst (λ (t : Tree). HasManyBelow 5 t (codes "/d")) (sym tree) five_or_more),
  (λ off. absurd (false≢true (sym off))),
)

pub returns-clause-below_cap : goal.returns-clause-below_cap
returns-clause-below_cap c = λ old new tree fails.
    fewer_not_many 6 old.tree (codes "/d") (subst (λ (t : Tree). HasFewerBelow 6 t (codes "/d")) (sym tree) fewer_than_six) (fails.0 refl)

pub returns-clause-globs_read : goal.returns-clause-globs_read
returns-clause-globs_read c = λ root old new fails. fails

pub returns-clause-globs_alone : goal.returns-clause-globs_alone
returns-clause-globs_alone c = λ globs fails. fails
