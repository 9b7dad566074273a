-- What a crash leaves of files whose bytes are exchanged.
use Rattle.std.specs.Prelude.{◌≡◌, ◌≢◌, ◌⊎◌, ℕ, List, [], ◌∷◌, Option, Some, None}
use Rattle.sd_io.specs.Tree.{NameList, Content, file, Tree, node_at, file_at}
use Rattle.sd_io.specs.Paths.{parent_of}
use Rattle.sd_io.specs.Outcomes.{Leaves, own_of}
use Rattle.sd_io.specs.Disk.{DiskState, SameTree, outcomes_now}
use Rattle.sd_io.specs.Crashes.{LeavesSince}
use Rattle.file_exchange.specs.Reserved.{Free, FirstFree}
use Rattle.file_exchange.specs.Exchange.{Exchanges, LeavesBytes}

-- ---- one file

-- the file of the tree at this place, with these bytes and its mode
pub record IsNewFile (tree : Tree) (place : NameList) (bytes : List ℕ) (q : NameList) (content : Content) : Type 0 where
  pub here : q ≡ place
  pub before : List ℕ
  pub mode : ℕ
  pub was : file_at tree place ≡ Some (before, mode)
  pub content_is : content ≡ file bytes mode

-- A crash at any moment from `old` to `new` leaves at the file's place what one at `old` could have left there, or the file with these bytes and
-- its mode; at the first reserved name that was free in its folder it may leave anything; and elsewhere what one at `old` could have left.
pub record ExchangeLeaves (place : NameList) (bytes : List ℕ) (old new : DiskState) : Type 0 where
  pub temporary : Option NameList
  pub was_free : (q : NameList) → temporary ≡ Some q → FirstFree old.tree (parent_of place) q
  pub leaves : LeavesSince (IsNewFile old.tree place bytes) (λ q. temporary ≡ Some q) old new

-- A crash leaves the file at the place by its own outcomes alone, and elsewhere what one at `old` could have left.
pub record IsPutForGood (place : NameList) (old new : DiskState) : Type 0 where
  pub alone : (found : Option Content) → Leaves (outcomes_now new place) found → Leaves (own_of (outcomes_now new place)) found
  pub elsewhere : (q : NameList) → q ≢ place → (found : Option Content) → Leaves (outcomes_now new q) found → Leaves (outcomes_now old q) found

-- ---- files in turn

-- a file's place and its new bytes
abbrev pub Exchange : Type 0
Exchange = NameList × List ℕ

-- one of the files with its new bytes, and the mode that it has in the tree
abbrev pub IsOneNewFile : List Exchange → Tree → NameList → Content → Type 0
IsOneNewFile [] tree q content = ⊥
IsOneNewFile (exchange ∷ exchanges) tree q content = IsNewFile tree exchange.0 exchange.1 q content ⊎ IsOneNewFile exchanges tree q content

-- a reserved name that is free in the tree, in the folder of one of the files
abbrev pub IsOneFree : List Exchange → Tree → NameList → Type 0
IsOneFree [] tree q = ⊥
IsOneFree (exchange ∷ exchanges) tree q = Free tree (parent_of exchange.0) q ⊎ IsOneFree exchanges tree q

-- a crash at any moment from `old` to `new` leaves each file as one at `old` could have left it, or with its new bytes
abbrev pub ExchangesLeave : List Exchange → DiskState → DiskState → Type 0
ExchangesLeave exchanges old new = LeavesSince (IsOneNewFile exchanges old.tree) (IsOneFree exchanges old.tree) old new

-- what one exchange does to the tree and what a crash on the way leaves
pub record ExchangesOne (exchange : Exchange) (old new : DiskState) : Type 0 where
  pub tree : Exchanges old.tree exchange.0 exchange.1 new.tree ⊎ LeavesBytes old.tree exchange.0 exchange.1 new.tree
  pub crash : ExchangeLeaves exchange.0 exchange.1 old new

-- one after the other, done or refused
abbrev pub ExchangesInTurn : List Exchange → DiskState → DiskState → Type 0
ExchangesInTurn [] old new = SameTree old new
ExchangesInTurn (exchange ∷ exchanges) old new = (next : DiskState) × ExchangesOne exchange old next × ExchangesInTurn exchanges next new

-- a regular file stands at the place of each
abbrev pub AreFiles : Tree → List Exchange → Type 0
AreFiles tree [] = Unit {0}
AreFiles tree (exchange ∷ exchanges) = ((before : List ℕ) × (mode : ℕ) × (file_at tree exchange.0 ≡ Some (before, mode))) × AreFiles tree exchanges

-- ---- a loop over files

-- each file keeps its mode, and what is free was free before
pub record KeepsFiles (old new : Tree) : Type 0 where
  pub modes : (q : NameList) (before : List ℕ) (mode : ℕ) → file_at old q ≡ Some (before, mode) → (bytes : List ℕ) × (file_at new q ≡ Some (bytes, mode))
  pub free : (q : NameList) → node_at new q ≡ None → node_at old q ≡ None
