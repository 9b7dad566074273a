use Rattle.std.proofs.Common.{◌≡◌, ◌-◌, [], reverse}
use Rattle.sd_io.specs.Paths.{followed, links_most}
use Rattle.mem_io.specs.MemTreeView.{mem_tree}
use Rattle.mem_io.proofs.path.TextLemmas.{texts}
use Rattle.mem_io.proofs.walk.RoundLemmas.{followed_in}
use Rattle.mem_io.proofs.tree.MemTree.follow.Given as goal

-- the parts that are left lead on from here, in the rounds that are left, as all parts do from the top
abbrev pub invariant-loop : goal.invariant-loop
invariant-loop l = followed (mem_tree l.self) links_most l.follow_last [] (reverse (texts l.fn.parts.items)) ≡ followed_in (mem_tree l.self) (41 - l.counter) l.follow_last l.at (reverse (texts l.parts.items))
