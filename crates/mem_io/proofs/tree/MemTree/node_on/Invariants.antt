use Rattle.std.proofs.Common.{◌≡◌}
use Rattle.std.specs.Map.{lookup}
use Rattle.std.specs.BTreeMap.{is_at}
use Rattle.sd_io.specs.Tree.{name_list_cmp}
use Rattle.mem_io.specs.MemTrail.{names_of}
use Rattle.mem_io.proofs.tree.MemTree.node_on.Given as goal

-- what is left finds what all entries do
abbrev pub invariant-loop-place : goal.invariant-loop-place
invariant-loop-place l = lookup (is_at (name_list_cmp (names_of l.trail))) l.place-iterator ≡ lookup (is_at (name_list_cmp (names_of l.trail))) l.self.nodes.entries
