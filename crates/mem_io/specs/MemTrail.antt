-- Walks in memory over name lists on the stack.
use Rattle.std.specs.Prelude.{ℕ, List, [], ◌∷◌, ◌++◌, Option, None, Bool, true, false, if◌then◌else◌}
use Rattle.std.specs.Option.{option_and_then}
use Rattle.std.specs.Str.{bytes_eq}
use Rattle.sd_io.specs.Tree.{NameList, Name, Node, Tree, node_at}
use Rattle.sd_io.specs.Paths.{steps}
use Rattle.mem_io.specs.declared.trail.Trail.{Trail, Top, Below'}

abbrev pub names_of : Trail → NameList
names_of Top = []
names_of (Below' p before name) = names_of before ++ name.now ∷ []

-- the node that parts lead to where no link is followed
abbrev pub plain_node : Tree → NameList → List Name → Option Node
plain_node tree at parts = option_and_then (node_at tree) (steps tree (λ folder target rest. None) false at parts)

-- ---- another device for a node and all below it

-- whether a place begins with the names of another
abbrev pub begins_with : NameList → NameList → Bool
begins_with [] q = true
begins_with (name ∷ place) [] = false
begins_with (name ∷ place) (other ∷ q) = if bytes_eq name other then begins_with place q else false

-- the node of the place q, once the nodes whose places begin with `place` have another device
abbrev pub dev_within : NameList → ℕ → NameList → Node → Node
dev_within place dev q node = if begins_with place q then record node { dev = dev } else node
