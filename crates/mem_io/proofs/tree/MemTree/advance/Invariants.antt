use Rattle.std.proofs.Common.{◌≡◌, reverse, vec_len}
use Rattle.sd_io.specs.Paths.{Linking, steps}
use Rattle.mem_io.specs.MemTreeView.{mem_tree}
use Rattle.mem_io.proofs.path.TextLemmas.{texts}
use Rattle.mem_io.proofs.tree.MemTree.advance.Given as goal

-- the parts that are left lead on from here as all parts do from the start
abbrev pub invariant-loop-part : goal.invariant-loop-part
invariant-loop-part l = (linking : Linking)
    → steps (mem_tree l.self) linking l.follow_last l.fn.at (reverse (texts l.fn.parts.items)) ≡ steps (mem_tree l.self) linking l.follow_last l.at (reverse (texts l.parts.items))

abbrev pub decreases-loop-part : goal.decreases-loop-part
decreases-loop-part l = vec_len l.parts
