-- A program of spots, and the runs that it gives.
use Rattle.std.specs.Prelude.{◌≡◌, ℕ, zero, suc, ◌+◌, ◌-◌, ◌*◌, ◌≤◌, Bool, true, false, List, [], ◌∷◌, ◌++◌, length, drop, if◌then◌else◌, slice_index, slice_index_or}
use Rattle.std.specs.List.{flat_map}
use Rattle.hir_tree.specs.Core.{Core, empty, byte_in, char_in, look, group, pair, choice, none, plus, numbers}
use Rattle.hir_tree.specs.Looks.{holds}
use Rattle.hir_tree.specs.Runs.{Run, mark, set_group, is_seen, byte_size, char_size, take_size}
use Rattle.hir_program.specs.declared.spot.Spot.{Spot}
use Rattle.hir_program.specs.declared.spot.Spot.TheVariants as spot

-- the spot at a place of the program; past its end nothing goes on
abbrev pub spot_at : List Spot → ℕ → Spot
spot_at spots q = slice_index_or spots q spot.Fail

-- the spot ends a group
abbrev pub is_close : Spot → Bool
is_close (spot.Close i next) = true
is_close _ = false

-- The spot leaves no mark in a run: it ends a group, which has no number of its own, or the match.
abbrev pub is_unmarked : Spot → Bool
is_unmarked (spot.Close i next) = true
is_unmarked spot.Match = true
is_unmarked _ = false

-- A way through the program: the run so far, and where the groups began that it is in, the innermost first.
pub record Way : Type 0 where
  pub run : Run
  pub starts : List ℕ

-- a run in groups that began at these places
abbrev pub way : List ℕ → Run → Way
way starts r = record { run = r; starts = starts }

-- with this spot seen
abbrev pub marked : ℕ → Way → Way
marked q w = way w.starts (mark q w.run)

-- with one more group begun
abbrev pub opened : Way → Way
opened w = way (w.run.at ∷ w.starts) w.run

-- with the innermost group ended, which has this index
abbrev pub closed : ℕ → Way → Way
closed i w = way (drop 1 w.starts) (set_group i (slice_index w.starts 0) w.run)

-- the runs that spots give to ways
abbrev pub Gives : Type 0
Gives = ℕ → Way → List Run

-- there is a run
abbrev pub some_run : List Run → Bool
some_run [] = false
some_run (r ∷ runs) = true

-- how many of the first n spots aren't seen
abbrev pub unseen : ℕ → List ℕ → ℕ
unseen zero seen = 0
unseen (suc n) seen = (if is_seen n seen then 0 else 1) + unseen n seen

-- Ends of groups leave no mark, so what falls at them is their place.
abbrev pub tie : Spot → ℕ → ℕ
tie s q = if is_close s then q + 1 else 0

module _ (text : List ℕ) (spots : List Spot) where
  -- what a spot gives to a way, where `next` says what the others give
  abbrev pub follow : Gives → Spot → Way → List Run
  follow next (spot.Bytes q set) w = flat_map (λ r. next q (way w.starts r)) (take_size (byte_size set text) w.run)
  follow next (spot.Chars q set) w = flat_map (λ r. next q (way w.starts r)) (take_size (char_size set text) w.run)
  follow next (spot.Look l q) w = if holds l text w.run.at then next q w else []
  follow next (spot.Jump q) w = next q w
  follow next (spot.Split p q) w = next p w ++ next q w
  follow next (spot.Open q) w = next q (opened w)
  follow next (spot.Close i q) w = next q (closed i w)
  follow next spot.Fail w = []
  follow next spot.Match w = w.run ∷ []

  -- the same, where a spot that was seen gives nothing
  abbrev pub visit_as : Gives → Spot → ℕ → Way → List Run
  visit_as next s q w =
      if is_unmarked s then follow next s w else (if is_seen q w.run.seen then [] else follow next s (marked q w))

  abbrev pub visit_spot : Gives → Gives
  visit_spot next q w = visit_as next (spot_at spots q) q w

  -- what a spot gives in so many steps
  unfoldable pub gives_within : ℕ → Gives
  gives_within zero q w = []
  gives_within (suc n) q w = visit_spot (gives_within n) q w

  -- a number that falls with each step: by bytes, then by what is not seen, then by ends of groups
  unfoldable pub rank : ℕ → Way → ℕ
  rank q w =
      (length text - w.run.at) * ((length spots + 1) * (length spots + 2))
      + (unseen (length spots) w.run.seen * (length spots + 1) + tie (spot_at spots q) q)

  -- what a spot gives
  unfoldable pub gives : Gives
  gives q w = gives_within (suc (rank q w)) q w

-- ends of groups lead to other spots, or to ends at lower places
abbrev pub ClosesFall : List Spot → Type 0
ClosesFall spots = (q i f : ℕ) → spot_at spots q ≡ spot.Close i f → tie (spot_at spots f) f ≤ q

-- The core stands in the program at n, each node at its number, and what follows it at f.
abbrev pub Placed : List Spot → ℕ → ℕ → Core → Type 0
Placed spots n f empty = spot_at spots n ≡ spot.Jump f
Placed spots n f (byte_in ranges) = spot_at spots n ≡ spot.Bytes f ranges
Placed spots n f (char_in ranges) = spot_at spots n ≡ spot.Chars f ranges
Placed spots n f (look l) = spot_at spots n ≡ spot.Look l f
Placed spots n f (group i a) =
    (spot_at spots n ≡ spot.Open (n + 2)) × (spot_at spots (n + 1) ≡ spot.Close i f) × Placed spots (n + 2) (n + 1) a
Placed spots n f (pair a b) =
    (spot_at spots n ≡ spot.Jump (n + 1)) × Placed spots (n + 1) (n + 1 + numbers a) a × Placed spots (n + 1 + numbers a) f b
Placed spots n f (choice a b) =
    (spot_at spots n ≡ spot.Split (n + 1) (n + 1 + numbers a)) × Placed spots (n + 1) f a × Placed spots (n + 1 + numbers a) f b
Placed spots n f none = spot_at spots n ≡ spot.Fail
Placed spots n f (plus greedy a) =
    (spot_at spots n ≡ spot.Jump (n + 2))
    × (spot_at spots (n + 1) ≡ (if greedy then spot.Split (n + 2) f else spot.Split f (n + 2)))
    × Placed spots (n + 2) (n + 1) a
