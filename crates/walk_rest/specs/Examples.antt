-- Small trees, and the listings of the worked examples.
use Rattle.std.specs.Prelude.{ℕ, true, false, List, [], ◌∷◌, Option, Some, None, Ok, Err, codes}
use Rattle.std.specs.List.{filter_map}
use Rattle.std.specs.FinMap.{from_entries}
use Rattle.std.specs.Ordering.{nat_cmp}
use Rattle.std.specs.Cmp.Lexicographic.{slice_cmp}
use Rattle.sd_io.specs.Tree.{Name, NameList, Content, directory, link, file, Node, Tree}
use Rattle.sd_io.specs.Lists.{name_below}
use Rattle.sd_io.specs.declared.meta.Kind.{Kind}
use Rattle.sd_io.specs.declared.meta.Kind.TheVariants as kind
use Rattle.walk_rest.specs.declared.error.Error.TheVariants as error
use Rattle.walk_rest.specs.declared.level.Folder.{Folder}
use Rattle.walk_rest.specs.Plan.{Comparison, Item, Plan, done, past, into}
use Rattle.walk_rest.specs.Rest.{Fault, Rest, start}

-- what stands at a name list
abbrev pub entry : NameList → Content → ℕ → ℕ → NameList × Node
entry place content dev ino = (place, record { content = content; dev = dev; ino = ino })

-- the names of a directory, as its nodes stand in the list
abbrev pub order_in : List (NameList × Node) → NameList → List Name
order_in nodes folder = filter_map (λ e. name_below folder e.0) nodes

-- the tree of these nodes
unfoldable pub tree_with : List (NameList × Node) → Tree
tree_with nodes = record { nodes = from_entries nodes; order = order_in nodes }

-- a directory `foo` with the directories `def` and `abc`, in this order, and the files `tuv` and `qrs` in `abc`, which is on this device
abbrev pub foo_nodes : ℕ → List (NameList × Node)
foo_nodes dev =
    entry [] directory 0 1
    ∷ entry (codes "foo" ∷ []) directory 0 2
    ∷ entry (codes "foo" ∷ codes "def" ∷ []) directory 0 3
    ∷ entry (codes "foo" ∷ codes "abc" ∷ []) directory dev 4
    ∷ entry (codes "foo" ∷ codes "abc" ∷ codes "tuv" ∷ []) (file [] 420) dev 5
    ∷ entry (codes "foo" ∷ codes "abc" ∷ codes "qrs" ∷ []) (file [] 420) dev 6
    ∷ []

-- a directory `r` with a directory `a`, in which a link leads to `/r`
abbrev pub loop_nodes : List (NameList × Node)
loop_nodes =
    entry [] directory 0 1
    ∷ entry (codes "r" ∷ []) directory 0 2
    ∷ entry (codes "r" ∷ codes "a" ∷ []) directory 0 3
    ∷ entry (codes "r" ∷ codes "a" ∷ codes "l" ∷ []) (link (codes "/r")) 0 4
    ∷ []

-- a link `b` that leads nowhere, and a link `d` to an empty directory `e`
abbrev pub broken_nodes : List (NameList × Node)
broken_nodes =
    entry [] directory 0 1
    ∷ entry (codes "b" ∷ []) (link (codes "none")) 0 2
    ∷ entry (codes "e" ∷ []) directory 0 3
    ∷ entry (codes "e" ∷ codes "x" ∷ []) (link (codes "../b")) 0 4
    ∷ entry (codes "d" ∷ []) (link (codes "e")) 0 5
    ∷ []

-- by the bytes of the paths, which in one directory is by the names
abbrev pub by_path : Comparison
by_path a b = slice_cmp nat_cmp a.path b.path

abbrev pub item : List ℕ → Kind → ℕ → ℕ → Item
item path kind depth ino = Ok (record { path = path; kind = kind; depth = depth; ino = ino; followed = false })

abbrev pub item_followed : List ℕ → Kind → ℕ → ℕ → Item
item_followed path kind depth ino = Ok (record { path = path; kind = kind; depth = depth; ino = ino; followed = true })

abbrev pub absent : List ℕ → ℕ → Item
absent path depth = Err (error.Absent path depth)

abbrev pub looping : List ℕ → ℕ → List ℕ → ℕ → Item
looping path depth ancestor ino = Err (error.Loop path depth ancestor (record { dev = 0; ino = ino }))

-- ---- steps in a directory `foo` with two files

abbrev pub foo_item : Item
foo_item = item (codes "foo") kind.Directory 0 0

abbrev pub a_item : Item
a_item = item (codes "foo/a") kind.File 1 3

abbrev pub b_item : Item
b_item = item (codes "foo/b") kind.File 1 4

abbrev pub b_left : Plan
b_left = past (codes "foo/b") (Some b_item) done

abbrev pub both_left : Plan
both_left = past (codes "foo/a") (Some a_item) b_left

-- the first file is hidden
abbrev pub a_hidden : Plan
a_hidden = past (codes "foo/a") None b_left

abbrev pub foo_folder : Folder
foo_folder = record { path = codes "foo"; depth = 0; ident = None }

-- the root is `foo`, which isn't entered yet
abbrev pub at_foo : Rest
at_foo = start (into foo_folder (Some foo_item) both_left None done)

-- `foo` was entered: this is due of it, and nothing of the root
abbrev pub in_foo : Plan → List Fault → Rest
in_foo left faults = record { folder = None; first = None; left = done; faults = [] } ∷ record { folder = Some foo_folder; first = None; left = left; faults = faults } ∷ []

-- faults of opening `foo`, of its list, and of a call on `foo/a`
abbrev pub opening : Fault
opening = record { path = Some (codes "foo"); depth = 0 }

abbrev pub listing : Fault
listing = record { path = None; depth = 1 }

abbrev pub at_a : Fault
at_a = record { path = Some (codes "foo/a"); depth = 1 }

abbrev pub failure : Option (List ℕ) → ℕ → Option Item
failure path depth = Some (Err (error.Disk path depth))
