-- Runs of bytes for which a table holds.
use Rattle.std.specs.Prelude.{◌≡◌, ℕ, ◌<◌, ◌≤◌, Bool, true, false, List, length, slice_index, slice_index_or}

-- the table holds for the byte at a place
abbrev pub Holds : List Bool → List ℕ → ℕ → Type 0
Holds table text at = slice_index_or table (slice_index text at) false ≡ true

-- A run that begins at a place ends at another: the table holds for each byte between, and not for the one there, or the text ends there.
pub record IsRunEnd (table : List Bool) (text : List ℕ) (from to : ℕ) : Type 0 where
  pub forward : from ≤ to
  pub within : to ≤ length text
  pub over : (at : ℕ) → from ≤ at → at < to → Holds table text at
  pub ends : to < length text → slice_index_or table (slice_index text to) false ≡ false
