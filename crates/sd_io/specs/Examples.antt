-- Small trees, in which the worked examples follow paths.
use Rattle.std.specs.Prelude.{ℕ, zero, suc, ◌+◌, List, [], ◌∷◌, codes}
use Rattle.std.specs.FinMap.{from_entries}
use Rattle.sd_io.specs.Tree.{Name, NameList, Content, directory, link, file, Node, Tree}

-- what stands at a name list, on device 0
abbrev pub entry : NameList → Content → ℕ → NameList × Node
entry place content ino = (place, record { content = content; dev = 0; ino = ino })

-- the tree of these nodes; the examples ask nothing of its order
unfoldable pub tree_with : List (NameList × Node) → Tree
tree_with nodes = record { nodes = from_entries nodes; order = λ folder. [] }

-- A directory `t` with a file, and links: `l` to the directory, `t/up` to its parent, `t/here` to the file by its name alone,
-- `t/far` to the file from the top, `loop` to itself, `empty` to the empty text.
abbrev pub small_nodes : List (NameList × Node)
small_nodes =
    entry [] directory 1
    ∷ entry (codes "t" ∷ []) directory 2
    ∷ entry (codes "t" ∷ codes "a.txt" ∷ []) (file (codes "hello") 416) 3
    ∷ entry (codes "l" ∷ []) (link (codes "t")) 4
    ∷ entry (codes "t" ∷ codes "up" ∷ []) (link (codes "..")) 5
    ∷ entry (codes "t" ∷ codes "here" ∷ []) (link (codes "a.txt")) 6
    ∷ entry (codes "t" ∷ codes "far" ∷ []) (link (codes "/t/a.txt")) 7
    ∷ entry (codes "loop" ∷ []) (link (codes "loop")) 8
    ∷ entry (codes "empty" ∷ []) (link []) 9
    ∷ []

abbrev pub small : Tree
small = tree_with small_nodes

-- the name of the link with this number: `A` for 1, and so on by its code
abbrev pub link_name : ℕ → Name
link_name number = (64 + number) ∷ []

-- so many links, each to the one before it, and the first to a directory
abbrev pub chain_nodes : ℕ → List (NameList × Node)
chain_nodes zero = entry [] directory 0 ∷ entry (link_name 0 ∷ []) directory 99 ∷ []
chain_nodes (suc number) = entry (link_name (suc number) ∷ []) (link (link_name number)) (suc number) ∷ chain_nodes number

abbrev pub chain : ℕ → Tree
chain number = tree_with (chain_nodes number)
