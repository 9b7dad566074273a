-- What a crash may leave at each place: its outcomes, and what the calls add to them.
use Rattle.std.specs.Prelude.{◌≡◌, ◌⊎◌, ◌&&◌, ℕ, Bool, true, false, List, [], ◌∷◌, ◌++◌, map, Option, Some, None, if◌then◌else◌}
use Rattle.std.specs.List.{filter}
use Rattle.std.specs.Str.{bytes_eq}
use Rattle.std.specs.Cmp.Lexicographic.{pointwise}
use Rattle.sd_io.specs.Tree.{NameList, Content, directory, link, file, other, Node, Tree, node_at}
use Rattle.sd_io.specs.Paths.{parent_of}

-- ---- outcomes

-- what a crash leaves at a place: nothing, this node, or a regular file with any bytes and any mode
pub data Left : Type 0 where
  gone : Left
  this : Node → Left
  any_file : Left

-- An outcome of a place. It is the standing node's own if it was added when that node came to stand there, or since. All others stay with the
-- place: they are older, or came with a renaming that failed.
pub record Outcome : Type 0 where
  pub is_own : Bool
  pub left : Left

abbrev pub own : Left → Outcome
own left = record { is_own = true; left = left }

abbrev pub older : Left → Outcome
older left = record { is_own = false; left = left }

-- the outcomes of each place
abbrev pub Outcomes : Type 0
Outcomes = NameList → List Outcome

-- of a place at which nothing has ever stood, and of one at which a node was built
abbrev pub never_used : List Outcome
never_used = older gone ∷ []

abbrev pub built : Node → List Outcome
built node = own (this node) ∷ []

-- ---- images

-- an image is a tree, of which kinds, targets, bytes and modes count
abbrev pub content_of : Option Node → Option Content
content_of None = None
content_of (Some node) = Some node.content

abbrev pub content_at : Tree → NameList → Option Content
content_at image place = content_of (node_at image place)

abbrev pub Fits : Left → Option Content → Type 0
Fits gone found = found ≡ None
Fits (this node) found = found ≡ Some node.content
Fits any_file found = (bytes : List ℕ) × (mode : ℕ) × (found ≡ Some (file bytes mode))

-- one of the outcomes leaves this
abbrev pub Leaves : List Outcome → Option Content → Type 0
Leaves [] found = ⊥
Leaves (outcome ∷ outcomes) found = Fits outcome.left found ⊎ Leaves outcomes found

-- ---- what the calls add

abbrev pub same_place : NameList → NameList → Bool
same_place = pointwise bytes_eq

-- these are the outcomes of the place; all others stay
abbrev pub put : NameList → List Outcome → Outcomes → Outcomes
put place list outcomes q = if same_place q place then list else outcomes q

-- the outcomes of the node that stands there
abbrev pub own_of : List Outcome → List Outcome
own_of = filter (λ outcome. outcome.is_own)

-- the node leaves the place, and its outcomes stay behind
abbrev pub left_behind : List Outcome → List Outcome
left_behind = map (λ outcome. older outcome.left)

-- a new file comes to stand there
abbrev pub after_create : NameList → Outcomes → Outcomes
after_create place outcomes = put place (left_behind (outcomes place) ++ own any_file ∷ []) outcomes

-- the file's bytes are written, or may have been
abbrev pub after_write : NameList → Outcomes → Outcomes
after_write place outcomes = put place (outcomes place ++ own any_file ∷ []) outcomes

abbrev pub settled_left : Node → Left → Left
settled_left node gone = gone
settled_left node (this earlier) = this earlier
settled_left node any_file = this node

-- the file as it is now takes the place of "any file" among its own outcomes
abbrev pub settled : Node → Outcome → Outcome
settled node outcome = record { is_own = outcome.is_own; left = if outcome.is_own then settled_left node outcome.left else outcome.left }

abbrev pub after_sync : NameList → Node → Outcomes → Outcomes
after_sync place node outcomes = put place (map (settled node) (outcomes place)) outcomes

-- A file goes from one place to another. Its own outcomes go with it, and stay behind as well.
abbrev pub after_move : NameList → NameList → Outcomes → Outcomes
after_move source target outcomes =
    put target (left_behind (outcomes target) ++ own_of (outcomes source)) (put source (left_behind (outcomes source) ++ older gone ∷ []) outcomes)

-- it stays where it was, but a crash may show it gone
abbrev pub after_no_move : NameList → NameList → Outcomes → Outcomes
after_no_move source target outcomes =
    put target (outcomes target ++ left_behind (own_of (outcomes source))) (put source (outcomes source ++ older gone ∷ []) outcomes)

abbrev pub after_remove : NameList → Outcomes → Outcomes
after_remove place outcomes = put place (left_behind (outcomes place) ++ older gone ∷ []) outcomes

-- directly in the folder
abbrev pub is_nonempty : NameList → Bool
is_nonempty [] = false
is_nonempty (name ∷ names) = true

abbrev pub is_in : NameList → NameList → Bool
is_in folder place = is_nonempty place && same_place (parent_of place) folder

-- a file's own outcomes alone, and nothing alone where nothing stands; those of all else stay
abbrev pub alone : Option Node → List Outcome → List Outcome
alone None outcomes = older gone ∷ []
alone (Some node) outcomes = by node.content
  where
    by : Content → List Outcome
    by directory = outcomes
    by (link target) = outcomes
    by (file bytes mode) = own_of outcomes
    by other = outcomes

-- the names in the folder are on the medium
abbrev pub after_folder_sync : (NameList → Option Node) → NameList → Outcomes → Outcomes
after_folder_sync stands folder outcomes q = if is_in folder q then alone (stands q) (outcomes q) else outcomes q
