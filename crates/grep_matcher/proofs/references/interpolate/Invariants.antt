use Rattle.std.proofs.Common.{◌≡◌, ◌++◌, ℕ, Option, List, length}
use Rattle.grep_matcher.specs.References.{Adds, Looks, Appends, Answers, expand}
use Rattle.grep_matcher.specs.Replaced.{Extends}
use Rattle.grep_matcher.specs.Reached.{Reached}
use Rattle.grep_matcher.proofs.references.interpolate.Given as goal

-- what is written so far, followed by the rest's expansion, is what is wanted
abbrev pub invariant-loop-place : goal.invariant-loop-place
invariant-loop-place g l = record {
  appends : goal.A-IsAlwaysCallable g l.append;
  answers : goal.N-IsAlwaysCallable g l.name_to_index;
  adding : Reached (Adds (goal.A-step g)) l.fn.append l.append;
  looking : Reached (Looks (goal.N-step g)) l.fn.name_to_index l.name_to_index;
  kept : Extends l.fn.dst.items l.dst.items;
  expanded : (text_of : ℕ → List ℕ) (number_of : List ℕ → Option ℕ) → Appends (goal.A-step g) (λ d. d.now.items) l.fn.append text_of → Answers (goal.N-step g) (λ name. name.now) l.fn.name_to_index number_of
      → l.fn.dst.items ++ expand text_of number_of l.fn.replacement ≡ l.dst.items ++ expand text_of number_of l.rest;
}

abbrev pub decreases-loop-place : goal.decreases-loop-place
decreases-loop-place g l = length l.rest
