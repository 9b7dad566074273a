use Rattle.std.proofs.Common.{◌≡◌, ◌⊎◌, inl, inr, ℕ, List, [], ◌∷◌, Some, None, refl, ◌∙◌, ap}
use Rattle.std.specs.Prelude.{Ok, Err}
use Rattle.walk_rest.specs.Plan.{Item}
use Rattle.walk_rest.specs.Rest.{Rest, Comes, GivesFault, due_in}
use Rattle.walk_rest.specs.Examples.{in_foo, both_left, a_item, b_item, listing}
use Rattle.walk_rest.proofs.laws.RestLemmas.{step_due}
use Rattle.walk_rest.proofs.examples.StepLemmas.{no_item, still, top_faults}
use Rattle.walk_rest.proofs.examples.steps_are_refused_as_in_the_examples.Goals as goal

-- the inode of the first entry
abbrev first_ino : List Item → ℕ
first_ino [] = 0
first_ino (Ok entry ∷ items) = entry.ino
first_ino (Err error ∷ items) = 0

no_entry : (mid new : Rest) → top_faults mid ≡ listing ∷ [] → GivesFault mid a_item new ⊎ Comes mid (Some a_item) new → ⊥
no_entry mid new due (inl gives) = let e = gives.given in absurd (cc e)
no_entry mid new due (inr comes) = no_item mid (Some a_item) new listing [] due comes

pub returns : goal.returns
returns c = record {
  passed_over = λ new step. let due : a_item ∷ b_item ∷ [] ≡ b_item ∷ due_in new = (step_due (in_foo both_left []) (Some b_item) new (refl, (refl, tt)) step).0 in let e = ap first_ino due in absurd (cc e);
  ended = λ new step. let due : a_item ∷ b_item ∷ [] ≡ due_in new = (step_due (in_foo both_left []) None new (refl, (refl, tt)) step).0 in let e = due ∙ ap due_in step.answers.1 in absurd (cc e);
  before_a_fault = λ new step. no_entry step.mid new (still 0 (in_foo both_left (listing ∷ [])) step.mid listing [] refl refl step.moves) step.answers;
}
