-- When a matcher is built, and when it is refused.
use Rattle.std.specs.Prelude.{◌≡◌, ℕ, ◌*◌, ◌^◌, ◌<◌, ◌≤◌, min, true, false, List, ◌∷◌, ◌++◌, All, Contains, Some, None, IfSome, sum, map, filter, length}
use Rattle.grep_matcher.specs.NoMatch.{IsInNoMatch}
use Rattle.hir_tree.specs.Cores.{core_of_tree}
use Rattle.hir_tree.specs.Runs.{Run, runs}
use Rattle.hir_tree.specs.Spots.{spots_of_tree}
use Rattle.hir_tree.specs.Tree.{Tree}
use Rattle.grep_regex.specs.Exact.{MustTake}
use Rattle.grep_regex.specs.Stripping.{asks_for, is_clear, not_allowed}
use Rattle.grep_regex.specs.NonMatching.{preferred_end}
use Rattle.grep_regex.specs.Options.{edged, optioned, terminator, together}
use Rattle.grep_regex.specs.Readings.{AreTrees, HasDoubleName, IsFirst, IsUnread, NestsTooDeep}
use Rattle.grep_regex.specs.declared.options.Options.{Options}
use Rattle.grep_regex.specs.declared.error.ErrorKind.{ErrorKind}
use Rattle.grep_regex.specs.declared.error.ErrorKind.TheVariants as kind
use Rattle.grep_regex.specs.declared.error.RegexFault.{RegexFault}
use Rattle.grep_regex.specs.declared.error.RegexFault.TheVariants as fault

-- the patterns together have fewer than 2^32 bytes, so that the numbers of their groups fit
abbrev pub FitTogether : List (List ℕ) → Type 0
FitTogether patterns = sum (map length patterns) < 2 ^ 32

-- the bytes of the terminator are ASCII
abbrev pub IsAscii : List ℕ → Type 0
IsAscii bytes = All (λ b. b < 128) bytes

-- the limit of the size, in bytes
abbrev pub size_cap : Options → ℕ
size_cap o = min o.size_limit (2 ^ 36)

-- the size of a pattern, in bytes: 32 for each spot
abbrev pub size_of : Tree → ℕ
size_of tree = 32 * spots_of_tree tree

-- the banned byte isn't asked for
abbrev pub IsUnbanned : Options → Tree → Type 0
IsUnbanned o tree = IfSome o.ban_byte (λ b. asks_for b tree ≡ false)

-- why patterns aren't read
abbrev pub IsUnreadable : Options → List (List ℕ) → RegexFault → Type 0
IsUnreadable o patterns fault.Grammar = IsFirst o patterns (IsUnread o)
IsUnreadable o patterns fault.Nest = IsFirst o patterns (NestsTooDeep o)
IsUnreadable o patterns fault.DoubleName = HasDoubleName o patterns
IsUnreadable o patterns (fault.Size limit) = ⊥

-- what the tests before that of the ban let pass
pub record Passes (o : Options) (patterns : List (List ℕ)) (trees : List Tree) : Type 0 where
  pub ascii : IsAscii (terminator o)
  pub are : AreTrees o patterns trees
  pub single : HasDoubleName o patterns → ⊥

-- A MATCHER IS BUILT of this pattern.
pub record IsBuilt (o : Options) (patterns : List (List ℕ)) (tree : Tree) : Type 0 where
  pub trees : List Tree
  pub passes : Passes o patterns trees
  pub unbanned : IsUnbanned o (together trees)
  pub allowed : not_allowed (terminator o) (together trees) ≡ None
  pub fits : size_of tree ≤ size_cap o
  pub is : tree ≡ optioned o trees

-- the pattern asks for the banned byte
pub record IsBanned (o : Options) (patterns : List (List ℕ)) (byte : ℕ) : Type 0 where
  pub trees : List Tree
  pub passes : Passes o patterns trees
  pub ban : o.ban_byte ≡ Some byte
  pub asked : asks_for byte (together trees) ≡ true

-- the pattern must take a byte of the terminator
pub record IsNotAllowed (o : Options) (patterns : List (List ℕ)) (byte : ℕ) : Type 0 where
  pub trees : List Tree
  pub passes : Passes o patterns trees
  pub unbanned : IsUnbanned o (together trees)
  pub refused : not_allowed (terminator o) (together trees) ≡ Some byte

-- the pattern is larger than its limit
pub record IsTooLarge (o : Options) (patterns : List (List ℕ)) (limit : ℕ) : Type 0 where
  pub trees : List Tree
  pub passes : Passes o patterns trees
  pub unbanned : IsUnbanned o (together trees)
  pub allowed : not_allowed (terminator o) (together trees) ≡ None
  pub limit_is : limit ≡ size_cap o
  pub large : limit < size_of (optioned o trees)

-- the first of the bytes that isn't ASCII
pub record IsBeyondAscii (bytes : List ℕ) (byte : ℕ) : Type 0 where
  pub before : List ℕ
  pub behind : List ℕ
  pub all : bytes ≡ before ++ byte ∷ behind
  pub ascii : IsAscii before
  pub beyond : 128 ≤ byte

-- why bytes can't be taken out of the classes of a tree
abbrev pub IsStripRefused : List ℕ → Tree → ErrorKind → Type 0
IsStripRefused bytes tree (kind.InvalidLineTerminator byte) = IsBeyondAscii bytes byte
IsStripRefused bytes tree (kind.NotAllowed byte) = IsAscii bytes × (not_allowed bytes tree ≡ Some byte) × MustTake bytes tree
IsStripRefused bytes tree kind.NoMemory = Unit {0}
IsStripRefused bytes tree _ = ⊥

-- WHY NO MATCHER IS BUILT. Want of memory may come at any time.
abbrev pub IsRefused : Options → List (List ℕ) → ErrorKind → Type 0
IsRefused o patterns (kind.InvalidLineTerminator byte) = IsBeyondAscii (terminator o) byte
IsRefused o patterns (kind.Banned byte) = IsBanned o patterns byte
IsRefused o patterns (kind.NotAllowed byte) = IsNotAllowed o patterns byte
IsRefused o patterns (kind.Regex (fault.Size limit)) = IsTooLarge o patterns limit
IsRefused o patterns (kind.Regex fault) = IsAscii (terminator o) × IsUnreadable o patterns fault
IsRefused o patterns kind.NoMemory = Unit {0}

-- ---- what each test refuses

-- a terminator with a byte that isn't ASCII
abbrev pub IsTerminatorRefused : List ℕ → ErrorKind → Type 0
IsTerminatorRefused bytes (kind.InvalidLineTerminator byte) = IsBeyondAscii bytes byte
IsTerminatorRefused bytes _ = ⊥

-- a tree that asks for the banned byte
abbrev pub IsBanRefused : Options → Tree → ErrorKind → Type 0
IsBanRefused o tree (kind.Banned byte) = (o.ban_byte ≡ Some byte) × (asks_for byte tree ≡ true)
IsBanRefused o tree _ = ⊥

-- a tree that is larger than the limit
abbrev pub IsSizeRefused : Options → Tree → ErrorKind → Type 0
IsSizeRefused o tree (kind.Regex (fault.Size limit)) = (limit ≡ size_cap o) × (limit < size_of tree)
IsSizeRefused o tree _ = ⊥

-- patterns that aren't read
abbrev pub IsReadingRefused : Options → List (List ℕ) → ErrorKind → Type 0
IsReadingRefused o patterns (kind.Regex fault) = IsUnreadable o patterns fault
IsReadingRefused o patterns kind.NoMemory = Unit {0}
IsReadingRefused o patterns _ = ⊥

-- ---- what a matcher then finds

-- no match of a pattern holds a byte of the terminator
pub record MatchesAreClear (o : Options) (tree : Tree) : Type 0 where
  pub held_by_none : (groups b : ℕ) → Contains (terminator o) b → IsInNoMatch (preferred_end (core_of_tree tree) groups) b

-- the options put nothing round the whole
abbrev pub IsBare : Options → Type 0
IsBare o = (tree : Tree) → edged o tree ≡ tree

-- the runs of a pattern are the runs of the patterns together whose text holds no byte of the terminator
pub record HasTheClearRuns (o : Options) (patterns : List (List ℕ)) (tree : Tree) : Type 0 where
  pub trees : List Tree
  pub are : AreTrees o patterns trees
  pub runs_are : (text : List ℕ) (n : ℕ) (r : Run) → r.at ≤ length text
      → runs text (core_of_tree tree) n r
      ≡ filter (λ s. is_clear (terminator o) text r.at s.at) (runs text (core_of_tree (together trees)) n r)
