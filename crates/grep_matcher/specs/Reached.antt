-- The states of a closure.

-- the states that calls lead to from the first one
pub data Reached {F : Type 0} (calls : F → F → Type 0) (first : F) : F → Type 0 where
  at_first : Reached calls first first
  by_a_call : (f g : F) → Reached calls first f → calls f g → Reached calls first g
