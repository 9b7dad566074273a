-- Counts that stay at their last value, and the counted calls that are to fail.
use Rattle.std.specs.Prelude.{◌≡◌, ◌≤◌, ◌⊎◌, ℕ, ◌+◌, ◌-◌, ◌^◌, min, List, Option, Some, None, Contains}

-- a count of 64 bits after one more
abbrev pub count_after : ℕ → ℕ
count_after count = min (count + 1) (2 ^ 64 - 1)

-- the call after so many is the one that is to fail
abbrev pub IsNextToFail : Option ℕ → ℕ → Type 0
IsNextToFail failing calls = failing ≡ Some (count_after calls)

-- the call from which all are to fail, once all from this one on are
abbrev pub earliest : Option ℕ → ℕ → ℕ
earliest None call = call
earliest (Some stop) call = min stop call

-- all calls from this one on are to fail
abbrev pub IsStopped : Option ℕ → ℕ → Type 0
IsStopped None call = ⊥
IsStopped (Some stop) call = stop ≤ call

-- the call is among those that are to fail
abbrev pub FailsAt : List ℕ → Option ℕ → ℕ → Type 0
FailsAt failing stop call = Contains failing call ⊎ IsStopped stop call
