-- A change of many files that is done or not done, whatever a crash leaves of it.
use Rattle.std.specs.Prelude.{◌≡◌, ◌≢◌, ◌⊎◌, ◌≤◌, ⊤, ℕ, List, [], ◌∷◌, ◌++◌, map, codes, Contains, IsTrue, Option, Some, None}
use Rattle.std.specs.List.{AllByRecursion, IsDistinct}
use Rattle.sha2.specs.Sha256.{sha256}
use Rattle.sd_io.specs.Tree.{Name, NameList, Content, file, Tree, node_at, file_at, is_directory_at}
use Rattle.sd_io.specs.Paths.{parent_of, parts_of}
use Rattle.sd_io.specs.Outcomes.{Leaves, content_at, same_place}
use Rattle.sd_io.specs.Disk.{DiskState}
use Rattle.file_exchange.specs.Reserved.{Free, reserved_name}
use Rattle.file_exchange.specs.Crash.{Exchange}
use Rattle.journal_text.specs.declared.line.Line.{Line}
use Rattle.journal_text.specs.Journal.{IsLine, text_of}

-- ---- the work

-- The tree before a change, the folder below which it is, and each file that changes, by its place, with its new bytes.
pub record Work : Type 0 where
  pub tree : Tree
  pub root : NameList
  pub files : List Exchange

-- `.sd-journal`
abbrev pub journal_name : Name
journal_name = codes ".sd-journal"

-- where the journal stands, in the root
abbrev pub journal_of : Work → NameList
journal_of work = work.root ++ journal_name ∷ []

-- The root is a folder in which no journal stands. Each file that changes is one of the tree, and has one new content.
pub record IsWork (work : Work) : Type 0 where
  pub is_folder : IsTrue (is_directory_at work.tree work.root)
  pub no_journal : node_at work.tree (journal_of work) ≡ None
  pub are_files : (f : Exchange) → Contains work.files f → (bytes : List ℕ) × (mode : ℕ) × (file_at work.tree f.0 ≡ Some (bytes, mode))
  pub is_one : (f g : Exchange) → Contains work.files f → Contains work.files g → f.0 ≡ g.0 → f.1 ≡ g.1

-- ---- old, new, and all else

-- the file has its mode and its bytes
abbrev pub IsOld : Work → Exchange → Option Content → Type 0
IsOld work f found = found ≡ content_at work.tree f.0

-- the file has its mode and its new bytes
pub record IsNew (work : Work) (f : Exchange) (found : Option Content) : Type 0 where
  pub bytes : List ℕ
  pub mode : ℕ
  pub was : file_at work.tree f.0 ≡ Some (bytes, mode)
  pub is : found ≡ Some (file f.1 mode)

abbrev pub AllOld : Work → Tree → Type 0
AllOld work image = (f : Exchange) → Contains work.files f → IsOld work f (content_at image f.0)

abbrev pub AllNew : Work → Tree → Type 0
AllNew work image = (f : Exchange) → Contains work.files f → IsNew work f (content_at image f.0)

abbrev pub EachOldOrNew : Work → Tree → Type 0
EachOldOrNew work image = (f : Exchange) → Contains work.files f → IsOld work f (content_at image f.0) ⊎ IsNew work f (content_at image f.0)

-- a reserved name that is free before the change, in the root or in the folder of a file that changes
abbrev pub IsAside : Work → NameList → Type 0
IsAside work q = Free work.tree work.root q ⊎ ((f : Exchange) × Contains work.files f × Free work.tree (parent_of f.0) q)

-- a place that the change has nothing to do with
pub record IsElsewhere (work : Work) (q : NameList) : Type 0 where
  pub not_journal : q ≢ journal_of work
  pub no_file : (f : Exchange) → Contains work.files f → q ≢ f.0
  pub not_aside : IsAside work q → ⊥

-- ---- the journal

-- where the file of a line stands
abbrev pub place_of : Line → NameList
place_of line = parts_of line.path

-- where the line's stage stands, which holds the file's new bytes: under the reserved name of its number, in the file's folder
abbrev pub stage_of : Line → NameList
stage_of line = parent_of (place_of line) ++ reserved_name line.number ∷ []

-- the line tells of this file: of its place, and of the digest of its new bytes
pub record IsLineOf (f : Exchange) (line : Line) : Type 0 where
  pub place : place_of line ≡ f.0
  pub digest : line.digest ≡ sha256 f.1

-- One line for each file and no other line; each has a stage of its own, under a reserved name that is free before the change.
pub record IsJournalFor (work : Work) (lines : List Line) : Type 0 where
  pub are_lines : AllByRecursion IsLine lines
  pub each : (f : Exchange) → Contains work.files f → (line : Line) × Contains lines line × IsLineOf f line
  pub no_other : (line : Line) → Contains lines line → (f : Exchange) × Contains work.files f × IsLineOf f line
  pub one_each : IsDistinct same_place (map place_of lines)
  pub were_free : (line : Line) → Contains lines line → Free work.tree (parent_of (place_of line)) (stage_of line)
  pub own_stages : IsDistinct same_place (map stage_of lines)

-- a file with these bytes
abbrev pub HoldsBytes : List ℕ → Option Content → Type 0
HoldsBytes bytes found = (mode : ℕ) × (found ≡ Some (file bytes mode))

-- the new bytes of each file stand at the stage of its line
abbrev pub HasStages : Work → List Line → Tree → Type 0
HasStages work lines image =
    (line : Line) (f : Exchange) → Contains lines line → Contains work.files f → IsLineOf f line → HoldsBytes f.1 (content_at image (stage_of line))

-- the journal stands, with all its stages
pub record IsUnderway (work : Work) (image : Tree) : Type 0 where
  pub lines : List Line
  pub is_for : IsJournalFor work lines
  pub journal : HoldsBytes (text_of lines) (content_at image (journal_of work))
  pub stages : HasStages work lines image
  pub files : EachOldOrNew work image

-- no journal stands, and the files are all old, or all new
pub record IsWhole (work : Work) (image : Tree) : Type 0 where
  pub no_journal : content_at image (journal_of work) ≡ None
  pub files : AllOld work image ⊎ AllNew work image

-- ---- between

-- Every other place is as before the change. And no journal stands and the files are all old, or all new; or a journal for just these files stands, with
-- each file's new bytes at a stage, and each file is old or new.
pub record Between (work : Work) (image : Tree) : Type 0 where
  pub elsewhere : (q : NameList) → IsElsewhere work q → content_at image q ≡ content_at work.tree q
  pub state : IsWhole work image ⊎ IsUnderway work image

-- each image that a crash may leave, from a moment of `old` up to `new`, is between
pub record LeavesBetween (work : Work) (old new : DiskState) : Type 0 where
  pub later : old.clock ≤ new.clock
  pub before : (k : ℕ) → k ≤ old.clock → new.outcomes k ≡ old.outcomes k
  pub each : (k : ℕ) → old.clock ≤ k → k ≤ new.clock → (image : Tree) → ((q : NameList) → Leaves (new.outcomes k q) (content_at image q)) → Between work image

-- ---- the lines of a change

-- a line for each file in turn, whose stage is free
abbrev pub AreLinesOf : Tree → List Exchange → List Line → Type 0
AreLinesOf tree [] [] = ⊤
AreLinesOf tree [] (line ∷ lines) = ⊥
AreLinesOf tree (f ∷ files) [] = ⊥
AreLinesOf tree (f ∷ files) (line ∷ lines) = IsLineOf f line × Free tree (parent_of (place_of line)) (stage_of line) × AreLinesOf tree files lines

-- there is one for each file that changes; each file has its own place, and each line its own stage
pub record IsListed (work : Work) (lines : List Line) : Type 0 where
  pub are_lines : AllByRecursion IsLine lines
  pub in_turn : AreLinesOf work.tree work.files lines
  pub own_places : IsDistinct same_place (map (λ f. f.0) work.files)
  pub own_stages : IsDistinct same_place (map stage_of lines)
