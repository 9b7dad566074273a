use Rattle.std.proofs.Common.{◌≡◌, ◌∙◌, ◌++◌, ◌∷◌, [], sym, subst, take, rules}
use Rattle.std.specs.List.{AllByRecursion}
use Rattle.chosen_files.specs.Globs.{IsValid}
use Rattle.chosen_files.proofs.globs.GlobsLemmas.{first_after, not_valid, take_more, valid_more}
use Rattle.chosen_files.proofs.globs.read_globs.Goals as goal

pub returns-in-None-clause-refused : goal.returns-in-None-clause-refused
returns-in-None-clause-refused c =
    first_after c.args.globs.now c.loop-place.place c.get.result.now c.loop-place.invariant.valid c.get.ensures.same (not_valid c.get.result.now (rw c.in-None.is at c.in_ok-glob.ensures))

pub loop-place-preserved : goal.loop-place-preserved
loop-place-preserved c =
    let more = take_more c.args.globs.now c.loop-place.place c.get.result.now c.get.ensures.same in
    let same : c.in-Some.glob ≡ c.get.result.now = rw c.in-Some.is at c.in_ok-glob.ensures in
    record {
      read = c.in_ok-push-in-Some.ensures.items ∙ ((λ i. c.loop-place.invariant.read i ++ same i ∷ []) ∙ sym more);
      valid = subst (AllByRecursion IsValid) (sym more) (valid_more (take c.loop-place.place c.args.globs.now) c.get.result.now c.loop-place.invariant.valid (search rules));
    }
