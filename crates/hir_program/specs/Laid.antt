-- Programs into which cores are laid.
use Rattle.std.specs.Prelude.{◌≡◌, ℕ, ◌+◌, ◌<◌, ◌≤◌, List, [], ◌∷◌, ◌++◌, length, option_map, replicate}
use Rattle.hir_tree.specs.Core.{Core, group, pair, numbers}
use Rattle.hir_program.specs.Program.{spot_at, way, gives, Placed}
use Rattle.hir_tree.specs.Runs.{begin, first, preferred}
use Rattle.hir_program.specs.declared.spot.Spot.{Spot}
use Rattle.hir_program.specs.declared.spot.Spot.TheVariants as spot

-- the numbers of several cores together
abbrev pub total_numbers : List Core → ℕ
total_numbers [] = 0
total_numbers (a ∷ rest) = numbers a + total_numbers rest

-- The spots of a core were appended to a program, and this spot follows them.
pub record Lays (old new : List Spot) (next : ℕ) (core : Core) : Type 0 where
  pub size : length new ≡ length old + numbers core
  pub kept : (q : ℕ) → q < length old → spot_at new q ≡ spot_at old q
  pub placed : Placed new (length old) next core

-- What was appended waits for the last part of a core: once that part is laid too, the core is.
pub record Waits (old now : List Spot) (next : ℕ) (core part : Core) : Type 0 where
  pub size : length now + numbers part ≡ length old + numbers core
  pub whole : (final : List Spot) → Lays now final next part → Lays old final next core

-- a core was laid as the first part of a pair, whatever the second is
abbrev pub LaysFirst : List Spot → List Spot → Core → Type 0
LaysFirst old new a = (next : ℕ) (b : Core) → Waits old new next (pair a b) b

-- so many cores that take nothing were laid one after another, and this spot follows each
abbrev pub LaysEmpties : ℕ → List Spot → List Spot → ℕ → Type 0
LaysEmpties count old new next = new ≡ old ++ replicate count (spot.Jump next)

-- A program of a core: the core stands at its start as group 0, which is the whole match, and then the match ends.
pub record IsProgram (core : Core) (spots : List Spot) : Type 0 where
  pub size : length spots ≡ numbers (group 0 core) + 1
  pub placed : Placed spots 0 (numbers (group 0 core)) (group 0 core)
  pub ends : spot_at spots (numbers (group 0 core)) ≡ spot.Match

-- what the groups of the program's first run hold is the preferred match
abbrev pub GivesPreferred : Core → List Spot → Type 0
GivesPreferred core spots =
    (text : List ℕ) (at groups : ℕ) → at ≤ length text
    → option_map (λ r. r.groups) (first (gives text spots 0 (way [] (begin at groups)))) ≡ preferred core groups text at
