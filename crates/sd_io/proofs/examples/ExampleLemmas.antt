-- Paths in small trees are followed by computing.
use Rattle.std.proofs.Common.{◌≡◌, ℕ, zero, suc, List, [], ◌∷◌, ◌++◌, refl, ap, ◌∙◌, Bool, true, false, cond}
use Rattle.std.specs.Prelude.{Option, Some, None, codes}
use Rattle.std.specs.Option.{option_and_then}
use Rattle.std.specs.Str.{bytes_eq}
use Rattle.std.specs.Cmp.Lexicographic.{lists_total, nat_list_cmp_total}
use Rattle.std.specs.FinMap.{find, get-from_entries}
use Rattle.sd_io.specs.Tree.{Name, NameList, Node, Tree, name_list_cmp, node_at, is_directory_node, file_node}
use Rattle.sd_io.specs.Paths.{Linking, through_node, steps, followed, links_most, start_of, parts_of, pieces_of, kept, is_up, parent_of, reached, named, folder_and_name, reached_plain}
use Rattle.sd_io.specs.Files.{file_of}
use Rattle.sd_io.specs.Examples.{tree_with, small_nodes, small, chain_nodes, chain, link_name}

-- `steps`, over what stands at each name list
abbrev pub steps_by : (NameList → Option Node) → Linking → Bool → NameList → List Name → Option NameList
steps_by look linking follow at [] = Some at
steps_by look linking follow at (part ∷ parts) =
    cond (is_directory_node (look at))
    (cond (is_up part) (steps_by look linking follow (parent_of at) parts)
    (through_node linking (λ next. steps_by look linking follow next parts) follow at part parts (look (at ++ part ∷ []))))
    None

-- steps look at nothing else
steps_alike : (tree : Tree) (linking : Linking) (follow : Bool) (at : NameList) (parts : List Name)
    → steps tree linking follow at parts ≡ steps_by (node_at tree) linking follow at parts
steps_alike tree linking follow at [] = refl
steps_alike tree linking follow at (part ∷ parts) = λ i.
    cond (is_directory_node (node_at tree at))
    (cond (is_up part) (steps_alike tree linking follow (parent_of at) parts i)
    (through_node linking (λ next. steps_alike tree linking follow next parts i) follow at part parts (node_at tree (at ++ part ∷ []))))
    None

-- `followed`, likewise
abbrev pub followed_by : (NameList → Option Node) → ℕ → Bool → NameList → List Name → Option NameList
followed_by look zero follow at parts = steps_by look (λ folder target rest. None) follow at parts
followed_by look (suc links) follow at parts =
    steps_by look (λ folder target rest. cond (bytes_eq target []) None (followed_by look links follow (start_of folder target) (kept (pieces_of target) ++ rest))) follow at parts

-- nor does following links
followed_alike : (tree : Tree) (links : ℕ) (follow : Bool) (at : NameList) (parts : List Name)
    → followed tree links follow at parts ≡ followed_by (node_at tree) links follow at parts
unfolding parts_of
followed_alike tree zero follow at parts = steps_alike tree (λ folder target rest. None) follow at parts
followed_alike tree (suc links) follow at parts =
    (λ i. steps tree (λ folder target rest. cond (bytes_eq target []) None (followed_alike tree links follow (start_of folder target) (parts_of target ++ rest) i)) follow at parts)
    ∙ steps_alike tree _ follow at parts

-- what stands in a tree of these nodes
stands : (nodes : List (NameList × Node)) → node_at (tree_with nodes) ≡ (λ place. find name_list_cmp place nodes)
unfolding tree_with
stands nodes = λ i place. get-from_entries (lists_total nat_list_cmp_total) nodes place i

-- in such a tree parts are followed by looking the nodes up in the list
pub followed_in : (nodes : List (NameList × Node)) (links : ℕ) (follow : Bool) (at : NameList) (parts : List Name)
    → followed (tree_with nodes) links follow at parts ≡ followed_by (λ place. find name_list_cmp place nodes) links follow at parts
followed_in nodes links follow at parts = followed_alike (tree_with nodes) links follow at parts ∙ (λ i. followed_by (stands nodes i) links follow at parts)

-- where a path leads
abbrev pub reached_by : (NameList → Option Node) → List ℕ → Bool → Option NameList
reached_by look path follow = cond (bytes_eq path []) None (followed_by look links_most follow [] (kept (pieces_of path)))

-- a path leads where looking up leads
pub reached_in : (nodes : List (NameList × Node)) (path : List ℕ) (follow : Bool) (place : Option NameList)
    → reached_by (λ q. find name_list_cmp q nodes) path follow ≡ place → reached (tree_with nodes) path follow ≡ place
unfolding reached parts_of
reached_in nodes path follow place e = ap (cond (bytes_eq path []) None) (followed_in nodes links_most follow [] (parts_of path)) ∙ e

-- where a path leads with no link followed
pub plain_in : (nodes : List (NameList × Node)) (path : List ℕ) (place : Option NameList)
    → cond (bytes_eq path []) None (steps_by (λ q. find name_list_cmp q nodes) (λ folder target rest. None) false [] (kept (pieces_of path))) ≡ place → reached_plain (tree_with nodes) path ≡ place
unfolding reached_plain parts_of
plain_in nodes path place e =
    ap (cond (bytes_eq path []) None) (steps_alike (tree_with nodes) (λ folder target rest. None) false [] (parts_of path) ∙ (λ i. steps_by (stands nodes i) (λ folder target rest. None) false [] (parts_of path)))
    ∙ e

-- what a path names
abbrev pub named_by : (NameList → Option Node) → List ℕ → Option NameList
named_by look path =
    option_and_then (λ (folder, name). option_and_then (λ at. cond (is_directory_node (look at)) (Some (at ++ name ∷ [])) None) (followed_by look links_most true [] folder))
    (folder_and_name (kept (pieces_of path)))

-- a path names what looking up names
pub named_in : (nodes : List (NameList × Node)) (path : List ℕ) (place : Option NameList)
    → named_by (λ q. find name_list_cmp q nodes) path ≡ place → named (tree_with nodes) path ≡ place
unfolding named parts_of
named_in nodes path place e =
    (λ i. option_and_then (λ (folder, name). option_and_then (λ at. cond (is_directory_node (stands nodes i at)) (Some (at ++ name ∷ [])) None) (followed_in nodes links_most true [] folder i)) (folder_and_name (parts_of path)))
    ∙ e

-- the file that a path leads to
pub file_in : (nodes : List (NameList × Node)) (path : List ℕ) (file : Option (List ℕ × ℕ))
    → option_and_then (λ place. file_node (find name_list_cmp place nodes)) (reached_by (λ q. find name_list_cmp q nodes) path true) ≡ file → file_of (tree_with nodes) path ≡ file
file_in nodes path file e =
    (λ i. option_and_then (λ place. file_node (stands nodes i place)) (reached_in nodes path true _ refl i)) ∙ e

-- a link to itself leads nowhere, however many links are followed
round : (links : ℕ) → followed_by (λ q. find name_list_cmp q small_nodes) links true [] (codes "loop" ∷ []) ≡ None
round zero = refl
round (suc links) = round links

-- the link of the small tree to itself
pub looping : (links : ℕ) → followed small links true [] (codes "loop" ∷ []) ≡ None
looping links = followed_in small_nodes links true [] _ ∙ round links

-- so many links are followed from the last one of a chain
pub chained : (links number : ℕ) → followed (chain number) links true [] (link_name number ∷ [])
    ≡ followed_by (λ q. find name_list_cmp q (chain_nodes number)) links true [] (link_name number ∷ [])
chained links number = followed_in (chain_nodes number) links true [] _
