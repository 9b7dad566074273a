-- How deep the directories of a plan lie in one another.
use Rattle.std.specs.Prelude.{ℕ, ◌+◌, max}
use Rattle.walk_rest.specs.Plan.{Plan, done, past, into}

-- how many directories are entered and not left at one time, at most
abbrev pub longest_chain : Plan → ℕ
longest_chain done = 0
longest_chain (past path item plan) = longest_chain plan
longest_chain (into folder before contents after plan) = max (longest_chain contents + 1) (longest_chain plan)
