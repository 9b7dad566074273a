use Rattle.std.proofs.Common.{◌≡◌, [], length}
use Rattle.walk_rest.specs.Level.{chain_above}
use Rattle.walk_steps.specs.Inside.{chain_of, with_top}
use Rattle.walk_steps.specs.Seen.{ancestor_path}
use Rattle.walk_steps.proofs.see.ancestor.Given as goal

abbrev pub invariant-loop-level : goal.invariant-loop-level
invariant-loop-level g l = ancestor_path l.ident (chain_of (with_top l.inside l.level)) ≡ ancestor_path l.ident (chain_above [] l.levels)

abbrev pub decreases-loop-level : goal.decreases-loop-level
decreases-loop-level g l = length l.levels
