-- What a list of changes tells, and what a crash takes of it.
use Rattle.std.specs.Prelude.{◌≡◌, ◌<◌, ◌↔◌, ◌&&◌, if◌then◌else◌, ◌==◌, ◌%◌, ℕ, Bool, true, false, not, List, [], ◌∷◌, ◌++◌, length, map, Option, Some, None, take, slice_index_or, Contains}
use Rattle.std.specs.Int.{w64, rotate_right}
use Rattle.std.specs.List.{list_any, list_all}
use Rattle.std.specs.List.Sorted.{IsStrictlySortedBy}
use Rattle.std.specs.Str.{bytes_eq}
use Rattle.sd_io.specs.Tree.{Name, NameList, name_list_cmp, Content, directory, link, file, other, Node, Tree, IsName, node_at, is_directory_at}
use Rattle.sd_io.specs.Outcomes.{Left, gone, this, any_file, Outcome, Outcomes, never_used, built, put, older, own_of, left_behind, is_in, after_create, after_write, after_sync, after_remove, content_at}
use Rattle.sd_io.specs.Disk.{DiskState}
use Rattle.mem_io.specs.MemTree.{dev_at}
use Rattle.mem_io.specs.MemTrail.{begins_with, dev_within}
use Rattle.mem_io.specs.MemSound.{bool_equation_prop, IsName-prop}
use Rattle.mem_io.specs.declared.log.Change.{Change}
use Rattle.mem_io.specs.declared.log.Change.TheVariants as change

-- ---- what a change adds

-- What stands alone in a folder that is put on the medium, told from the outcomes: a place without own ones is free.
abbrev pub alone_or_gone : List Outcome → List Outcome
alone_or_gone [] = older gone ∷ []
alone_or_gone (outcome ∷ more) = outcome ∷ more

abbrev pub alone_by_own : List Outcome → List Outcome
alone_by_own outcomes = alone_or_gone (own_of outcomes)

abbrev pub in_folder : Bool → List Outcome → List Outcome
in_folder true outcomes = alone_by_own outcomes
in_folder false outcomes = outcomes

-- an outcome, where its node has this device
abbrev pub left_on : ℕ → Left → Left
left_on dev gone = gone
left_on dev (this node) = this (record node { dev = dev })
left_on dev any_file = any_file

abbrev pub outcome_on : ℕ → Outcome → Outcome
outcome_on dev outcome = record { is_own = outcome.is_own; left = left_on dev outcome.left }

-- A file of this device goes from one place to another, or stays where a crash may show it gone: its own outcomes come with its device.
abbrev pub after_move_on : NameList → NameList → ℕ → Outcomes → Outcomes
after_move_on source target dev outcomes =
    put target (left_behind (outcomes target) ++ map (outcome_on dev) (own_of (outcomes source))) (put source (left_behind (outcomes source) ++ older gone ∷ []) outcomes)

abbrev pub after_no_move_on : NameList → NameList → ℕ → Outcomes → Outcomes
after_no_move_on source target dev outcomes =
    put target (outcomes target ++ left_behind (map (outcome_on dev) (own_of (outcomes source)))) (put source (outcomes source ++ older gone ∷ []) outcomes)

abbrev pub after : Change → Outcomes → Outcomes
after (change.Created place) outcomes = after_create place outcomes
after (change.Written place) outcomes = after_write place outcomes
after (change.Synced place node) outcomes = after_sync place node outcomes
after (change.Moved source target dev) outcomes = after_move_on source target dev outcomes
after (change.NotMoved source target dev) outcomes = after_no_move_on source target dev outcomes
after (change.Removed place) outcomes = after_remove place outcomes
after (change.FolderSynced folder) outcomes = λ q. in_folder (is_in folder q) (outcomes q)
after (change.Built place node) outcomes = put place (built node) outcomes

abbrev pub after_all : Outcomes → List Change → Outcomes
after_all outcomes [] = outcomes
after_all outcomes (change ∷ changes) = after_all (after change outcomes) changes

-- the outcomes of a new disk: a directory at the top alone, here of this device
abbrev pub first_top : ℕ → Node
first_top dev = record { content = directory; dev = dev; ino = 1 }

abbrev pub first_on : ℕ → Outcomes
first_on dev = put [] (built (first_top dev)) (λ q. never_used)

-- a new disk's top is of device 1
abbrev pub new_top : Node
new_top = first_top 1

abbrev pub at_first : Outcomes
at_first = first_on 1

-- the outcomes after all changes, where the top was of this device at first
abbrev pub outcomes_after : ℕ → List Change → Outcomes
outcomes_after first changes = after_all (first_on first) changes

-- the outcomes of each moment
abbrev pub outcomes_by : ℕ → List Change → ℕ → Outcomes
outcomes_by first changes moment = outcomes_after first (take moment changes)

-- the disk's clock and outcomes are those of the changes
pub record Tells (first : ℕ) (changes : List Change) (state : DiskState) : Type 0 where
  pub clock : state.clock ≡ length changes
  pub outcomes : state.outcomes ≡ outcomes_by first changes

-- ---- another device for all nodes whose places begin with `place`

-- an outcome of the place q
abbrev pub left_within : NameList → ℕ → NameList → Left → Left
left_within place dev q gone = gone
left_within place dev q (this node) = this (dev_within place dev q node)
left_within place dev q any_file = any_file

abbrev pub outcome_within : NameList → ℕ → NameList → Outcome → Outcome
outcome_within place dev q outcome = record { is_own = outcome.is_own; left = left_within place dev q outcome.left }

abbrev pub after_device : NameList → ℕ → Outcomes → Outcomes
after_device place dev outcomes q = map (outcome_within place dev q) (outcomes q)

-- the device of what lies at the place q, where it was `was`
abbrev pub number_within : NameList → ℕ → NameList → ℕ → ℕ
number_within place dev q was = if begins_with place q then dev else was

-- a change that tells the device
abbrev pub change_within : NameList → ℕ → Change → Change
change_within place dev (change.Created q) = change.Created q
change_within place dev (change.Written q) = change.Written q
change_within place dev (change.Synced q node) = change.Synced q (dev_within place dev q node)
change_within place dev (change.Moved source target was) = change.Moved source target (number_within place dev target was)
change_within place dev (change.NotMoved source target was) = change.NotMoved source target (number_within place dev target was)
change_within place dev (change.Removed q) = change.Removed q
change_within place dev (change.FolderSynced folder) = change.FolderSynced folder
change_within place dev (change.Built q node) = change.Built q (dev_within place dev q node)

-- ---- what stands, as a test

abbrev pub same_content : Content → Content → Bool
same_content directory directory = true
same_content (link a) (link b) = bytes_eq a b
same_content (file a m) (file b n) = bytes_eq a b && (m == n)
same_content other other = true
same_content _ _ = false

abbrev pub fits_test : Option Content → Left → Bool
fits_test None gone = true
fits_test None (this node) = false
fits_test None any_file = false
fits_test (Some content) gone = false
fits_test (Some content) (this node) = same_content content node.content
fits_test (Some directory) any_file = false
fits_test (Some (link target)) any_file = false
fits_test (Some (file bytes mode)) any_file = true
fits_test (Some other) any_file = false

-- own outcomes where something stands, all where nothing does
abbrev pub counting : Option Content → List Outcome → List Outcome
counting None outcomes = outcomes
counting (Some content) outcomes = own_of outcomes

abbrev pub is_left : Option Content → List Outcome → Bool
is_left found outcomes = list_any (λ outcome. fits_test found outcome.left) (counting found outcomes)

-- an own outcome that leaves this
abbrev pub is_own_of : Content → Outcome → Bool
is_own_of content outcome = outcome.is_own && fits_test (Some content) outcome.left

-- nothing is a free place's own, and a node that is no file has itself alone
abbrev pub is_tidy : Option Content → List Outcome → Bool
is_tidy None outcomes = not (list_any (λ outcome. outcome.is_own) outcomes)
is_tidy (Some directory) outcomes = list_all (is_own_of directory) outcomes
is_tidy (Some (link target)) outcomes = list_all (is_own_of (link target)) outcomes
is_tidy (Some (file bytes mode)) outcomes = true
is_tidy (Some other) outcomes = list_all (is_own_of other) outcomes

abbrev pub is_gone : Left → Bool
is_gone gone = true
is_gone (this node) = false
is_gone any_file = false

-- an outcome other than absent
abbrev pub has_other : List Outcome → Bool
has_other outcomes = list_any (λ outcome. not (is_gone outcome.left)) outcomes

-- whether a node that is left has this device
abbrev pub is_left_on : ℕ → Left → Bool
is_left_on dev gone = true
is_left_on dev (this node) = node.dev == dev
is_left_on dev any_file = true

abbrev pub are_on : ℕ → List Outcome → Bool
are_on dev outcomes = list_all (λ outcome. is_left_on dev outcome.left) outcomes

-- a node's own outcomes have its device
abbrev pub has_devices : Option Node → List Outcome → Bool
has_devices None outcomes = true
has_devices (Some node) outcomes = are_on node.dev (own_of outcomes)

-- What stands at each place is one of its outcomes, its own ones have its device, and a place that has an outcome other than absent lies in a
-- directory under a name. All are equations of `Bool` and the like, so that a disk can keep them.
pub record IsKept (tree : Tree) (outcomes : Outcomes) : Type 0 where
  pub present : (q : NameList) → is_left (content_at tree q) (outcomes q) ≡ true
  pub tidy : (q : NameList) → is_tidy (content_at tree q) (outcomes q) ≡ true
  pub devices : (q : NameList) → has_devices (node_at tree q) (outcomes q) ≡ true
  pub folders : (folder : NameList) (name : Name) → has_other (outcomes (folder ++ name ∷ [])) ≡ true → is_directory_at tree folder ≡ true
  pub names : (folder : NameList) (name : Name) → has_other (outcomes (folder ++ name ∷ [])) ≡ true → IsName name

-- it has at most one proof
pub IsKept-prop : (tree : Tree) (outcomes : Outcomes) → IsProp (IsKept tree outcomes)
IsKept-prop tree outcomes a b = λ i. record {
  present = λ q. bool_equation_prop _ _ (a.present q) (b.present q) i;
  tidy = λ q. bool_equation_prop _ _ (a.tidy q) (b.tidy q) i;
  devices = λ q. bool_equation_prop _ _ (a.devices q) (b.devices q) i;
  folders = λ folder name e. bool_equation_prop _ _ (a.folders folder name e) (b.folders folder name e) i;
  names = λ folder name e. IsName-prop name (a.names folder name e) (b.names folder name e) i;
}

-- ---- a crash by choice

abbrev pub crash_content : Left → Option Content
crash_content gone = None
crash_content (this node) = Some node.content
crash_content any_file = Some (file (0 ∷ []) 0)

-- what the place that is the i-th with an outcome other than absent takes
abbrev pub chosen : ℕ → ℕ → List Outcome → Left
chosen choice i outcomes = (slice_index_or outcomes (rotate_right w64 choice (i % 64) % length outcomes) (older gone)).left

-- what stands where a node was left has its device
abbrev pub HasDeviceOf : Left → ℕ → Type 0
HasDeviceOf gone dev = Unit {0}
HasDeviceOf (this node) dev = dev ≡ node.dev
HasDeviceOf any_file dev = Unit {0}

-- The image of a choice: the places that have an outcome other than absent are counted in order, and each takes one of its outcomes by its number,
-- a node with its device.
pub record IsCrash (outcomes : Outcomes) (choice : ℕ) (image : Tree) : Type 0 where
  pub places : List NameList
  pub in_order : IsStrictlySortedBy name_list_cmp places
  pub are_all : (q : NameList) → (has_other (outcomes q) ≡ true) ↔ Contains places q
  pub taken : (i : ℕ) (q : NameList) → i < length places → slice_index_or places i q ≡ q → content_at image q ≡ crash_content (chosen choice i (outcomes q))
  pub devices : (i : ℕ) (q : NameList) → i < length places → slice_index_or places i q ≡ q → HasDeviceOf (chosen choice i (outcomes q)) (dev_at image q)
  pub others : (q : NameList) → has_other (outcomes q) ≡ false → content_at image q ≡ None
