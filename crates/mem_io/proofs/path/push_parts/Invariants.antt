use Rattle.std.proofs.Common.{◌≡◌, reverse, ◌++◌, vec_len}
use Rattle.sd_io.specs.Paths.{parts_of}
use Rattle.mem_io.proofs.path.TextLemmas.{texts}
use Rattle.mem_io.proofs.path.push_parts.Given as goal

-- the parts of the path that are left stand above those on the stack
abbrev pub invariant-loop-part : goal.invariant-loop-part
invariant-loop-part l = texts l.more.items ++ reverse (texts l.parts.items) ≡ parts_of l.path ++ reverse (texts l.initial.parts.items)

abbrev pub decreases-loop-part : goal.decreases-loop-part
decreases-loop-part l = vec_len l.more
