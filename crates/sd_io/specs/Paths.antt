-- What a path names, and where it leads.
use Rattle.std.specs.Prelude.{◌≡◌, ◌==◌, ◌||◌, ℕ, zero, suc, Bool, true, false, not, List, [], ◌∷◌, ◌++◌, Option, Some, None, if◌then◌else◌}
use Rattle.std.specs.List.{filter, slice_split}
use Rattle.std.specs.Str.{bytes_eq}
use Rattle.std.specs.Option.{option_and_then}
use Rattle.sd_io.specs.Tree.{Name, NameList, Content, directory, link, file, other, Node, Tree, node_at, is_directory_at, file_at}

-- ---- the parts of a path

-- an empty part and `.` are dropped
abbrev pub is_dropped : List ℕ → Bool
is_dropped part = bytes_eq part [] || bytes_eq part (46 ∷ [])

abbrev pub is_up : Name → Bool
is_up part = bytes_eq part (46 ∷ 46 ∷ [])

-- what stands between its `/`
abbrev pub pieces_of : List ℕ → List (List ℕ)
pieces_of = slice_split (λ b. b == 47)

-- the pieces of a text that is left, or of none
abbrev pub pieces_left : Option (List ℕ) → List (List ℕ)
pieces_left None = []
pieces_left (Some text) = pieces_of text

abbrev pub kept : List (List ℕ) → List Name
kept = filter (λ part. not (is_dropped part))

-- A path is split at `/`. Empty parts and `.` are dropped.
unfoldable pub parts_of : List ℕ → List Name
parts_of path = kept (pieces_of path)

-- ---- parts followed from a directory

-- all names but the last; the top's parent is the top
abbrev pub parent_of : NameList → NameList
parent_of [] = []
parent_of (name ∷ []) = []
parent_of (name ∷ next ∷ more) = name ∷ parent_of (next ∷ more)

-- what a link does to the parts that are left: the folder that it stands in, its target, the parts after it
abbrev pub Linking : Type 0
Linking = NameList → List ℕ → List Name → Option NameList

-- a link in the place of the last part is left unfollowed
abbrev pub ends_at_link : Bool → List Name → Bool
ends_at_link follow_last [] = not follow_last
ends_at_link follow_last (part ∷ parts) = false

abbrev pub through_node : Linking → (NameList → Option NameList) → Bool → NameList → Name → List Name → Option Node → Option NameList
through_node linking onward follow_last folder part parts None = None
through_node linking onward follow_last folder part parts (Some node) = by node.content
  where
    by : Content → Option NameList
    by (link target) = if ends_at_link follow_last parts then Some (folder ++ part ∷ []) else linking folder target parts
    by directory = onward (folder ++ part ∷ [])
    by (file bytes mode) = onward (folder ++ part ∷ [])
    by other = onward (folder ++ part ∷ [])

-- Each part leads on from a directory alone: `..` to its parent, a name to what stands there, a link as `linking` says.
abbrev pub steps : Tree → Linking → Bool → NameList → List Name → Option NameList
steps tree linking follow_last at [] = Some at
steps tree linking follow_last at (part ∷ parts) =
    if is_directory_at tree at
    then (if is_up part then steps tree linking follow_last (parent_of at) parts
    else through_node linking (λ next. steps tree linking follow_last next parts) follow_last at part parts (node_at tree (at ++ part ∷ [])))
    else None

-- ---- links

abbrev pub is_absolute : List ℕ → Bool
is_absolute [] = false
is_absolute (b ∷ bytes) = b == 47

-- a target is followed from the link's folder, or from the top where it begins with `/`
abbrev pub start_of : NameList → List ℕ → NameList
start_of folder target = if is_absolute target then [] else folder

-- Parts are followed from a directory, and at most so many links with them: a link's parts come in its place. An empty
-- target leads nowhere, and so does one link more.
abbrev pub followed : Tree → ℕ → Bool → NameList → List Name → Option NameList
followed tree zero follow_last at parts = steps tree (λ folder target rest. None) follow_last at parts
followed tree (suc links) follow_last at parts = steps tree (through (followed tree links follow_last)) follow_last at parts
  where
    through : (NameList → List Name → Option NameList) → Linking
    through onward folder target rest = if bytes_eq target [] then None else onward (start_of folder target) (parts_of target ++ rest)

-- at most forty links are followed in one path
abbrev pub links_most : ℕ
links_most = 40

-- ---- where a path leads, and what it names

-- The name list that a path leads to, or none; a link in the place of its last name is followed or not. The empty path leads nowhere.
unfoldable pub reached : Tree → List ℕ → Bool → Option NameList
reached tree path follow_last = if bytes_eq path [] then None else followed tree links_most follow_last [] (parts_of path)

-- the path leads to this node at this name list
pub record Leads (tree : Tree) (path : List ℕ) (follow_last : Bool) (place : NameList) (node : Node) : Type 0 where
  pub place_reached : reached tree path follow_last ≡ Some place
  pub node_there : node_at tree place ≡ Some node

-- the parts before the last, and the last, unless it is `..`
abbrev pub folder_and_name : List Name → Option (List Name × Name)
folder_and_name [] = None
folder_and_name (part ∷ []) = if is_up part then None else Some ([], part)
folder_and_name (part ∷ next ∷ more) = option_and_then (λ (folder, name). Some (part ∷ folder, name)) (folder_and_name (next ∷ more))

-- a name in a directory
abbrev pub child_in : Tree → Name → NameList → Option NameList
child_in tree name folder = if is_directory_at tree folder then Some (folder ++ name ∷ []) else None

-- The name list that a path names itself, whether something stands there or not: its folder is a directory, its last name
-- isn't followed. A path that ends in `..` or holds no name names none.
unfoldable pub named : Tree → List ℕ → Option NameList
named tree path = option_and_then (λ (folder, name). option_and_then (child_in tree name) (followed tree links_most true [] folder)) (folder_and_name (parts_of path))

-- ---- what paths rest on

-- the way on from a node: a directory, or a link with its target; a file and all else have none
abbrev pub way_of : Content → Option Content
way_of directory = Some directory
way_of (link target) = Some (link target)
way_of (file bytes mode) = None
way_of other = None

abbrev pub way_of_node : Option Node → Option Content
way_of_node None = None
way_of_node (Some node) = way_of node.content

-- the same directories stand in both trees, and the same links with the same targets
pub record SameWays (old new : Tree) : Type 0 where
  pub ways : (q : NameList) → way_of_node (node_at new q) ≡ way_of_node (node_at old q)

-- ---- where no link is followed

-- The name list that a path leads to where no link is followed, or none. A link in the place of its last name is left
-- unfollowed; on any other the path leads nowhere. The empty path leads nowhere.
unfoldable pub reached_plain : Tree → List ℕ → Option NameList
reached_plain tree path = if bytes_eq path [] then None else steps tree (λ folder target rest. None) false [] (parts_of path)

-- the bytes and the mode of the regular file that a path leads to where no link is followed
abbrev pub plain_file : Tree → List ℕ → Option (List ℕ × ℕ)
plain_file tree path = option_and_then (file_at tree) (reached_plain tree path)
