-- The states of a closure.
use Rattle.grep_matcher.specs.Reached.{Reached, at_first, by_a_call}

-- what holds of the first state, and is kept by each call, holds of each state
pub reached_keeps : {F : Type 0} (calls : F → F → Type 0) (first : F) (J : F → Type 0) → J first → ((f g : F) → J f → calls f g → J g) → (f : F) → Reached calls first f → J f
reached_keeps calls first J start step _ at_first = start
reached_keeps calls first J start step _ (by_a_call h g r c) = step h g (reached_keeps calls first J start step h r) c

-- states of states
pub reached_on : {F : Type 0} (calls : F → F → Type 0) (first middle : F) → Reached calls first middle → (last : F) → Reached calls middle last → Reached calls first last
reached_on calls first middle r _ at_first = r
reached_on calls first middle r _ (by_a_call f g s c) = by_a_call f g (reached_on calls first middle r f s) c
