-- The runs that a program gives hold whole groups.
use Rattle.std.proofs.Common.{◌≡◌, ℕ, zero, suc, ◌+◌, ◌≤◌, Bool, true, false, List, [], ◌∷◌, length, get_or, Option, Some, None, if◌then◌else◌, refl, ◌∙◌, subst, arith}
use Rattle.std.specs.Prelude.{option_map}
use Rattle.std.specs.Option.{option_or}
use Rattle.std.specs.List.{flat_map, AllByRecursion}
use Rattle.std.proofs.lemmas.Option.{none-some, same_Some}
use Rattle.hir_core.specs.Found.{IsInOrder}
use Rattle.hir_tree.specs.Looks.{holds}
use Rattle.hir_tree.specs.Runs.{Run, begin, moved, is_seen, byte_size, char_size, as_list}
use Rattle.hir_tree.specs.RunsLaws.{forget}
use Rattle.hir_program.specs.Program.{spot_at, is_unmarked, Way, way, marked, Gives, follow, visit_spot, gives_within, rank, gives}
use Rattle.hir_core.specs.Pass.{first_of, begins, first_from}
use Rattle.hir_core.specs.StackSearch.{LiesBefore, IsSound, AllSound}
use Rattle.hir_program.specs.declared.spot.Spot.{Spot}
use Rattle.hir_program.specs.declared.spot.Spot.TheVariants as spot
use Rattle.hir_tree.proofs.ListLemmas.{All-append}
use Rattle.hir_core.proofs.stack_search.StackLemmas.{past, leads-sound, sound-begin}

-- what the so many groups of a run hold lies before its end
pub record IsWhole (count : ℕ) (r : Run) : Type 0 where
  pub ended : AllByRecursion (LiesBefore r.at) r.groups
  pub counted : length r.groups ≡ count

-- so it is of each run
abbrev AllWhole : ℕ → List Run → Type 0
AllWhole count runs = AllByRecursion (IsWhole count) runs

-- each sound way is given whole runs
abbrev GivesWhole : List ℕ → ℕ → Gives → Type 0
GivesWhole text count next = (q : ℕ) (w : Way) → IsSound text count w → AllWhole count (next q w)

module _ (text : List ℕ) (spots : List Spot) (count : ℕ) where
  past_whole : (next : Gives) → GivesWhole text count next → (f : ℕ) (w : Way) (o : Option ℕ) → AllSound text count (past f w o)
      → AllWhole count (flat_map (λ r. next f (way w.starts r)) (as_list (option_map (λ k. moved k w.run) o)))
  past_whole next whole f w None h = tt
  past_whole next whole f w (Some k) h = All-append (IsWhole count) (next f (way w.starts (moved k w.run))) [] (whole f (way w.starts (moved k w.run)) h.0) tt

  follow_whole : (next : Gives) → GivesWhole text count next → (s : Spot) (w : Way) → IsSound text count w → AllWhole count (follow text spots next s w)
  follow_whole next whole (spot.Bytes f set) w h =
      past_whole next whole f w (byte_size set text w.run.at) (leads-sound text count (spot.Bytes f set) w h)
  follow_whole next whole (spot.Chars f set) w h =
      past_whole next whole f w (char_size set text w.run.at) (leads-sound text count (spot.Chars f set) w h)
  follow_whole next whole (spot.Look l f) w h = cases (holds l text w.run.at)
    where
      cases : (b : Bool) → AllWhole count (if b then next f w else [])
      cases true = whole f w h
      cases false = tt
  follow_whole next whole (spot.Jump f) w h = whole f w h
  follow_whole next whole (spot.Split p q) w h = All-append (IsWhole count) (next p w) (next q w) (whole p w h) (whole q w h)
  follow_whole next whole (spot.Open f) w h = whole f _ (leads-sound text count (spot.Open f) w h).0
  follow_whole next whole (spot.Close i f) w h = whole f _ (leads-sound text count (spot.Close i f) w h).0
  follow_whole next whole spot.Fail w h = tt
  follow_whole next whole spot.Match w h = (record { ended = h.ended; counted = h.counted }, tt)

  visit_whole : (next : Gives) → GivesWhole text count next → GivesWhole text count (visit_spot text spots next)
  visit_whole next whole q w h = cases (is_unmarked s) (is_seen q w.run.seen)
    where
      s : Spot
      s = spot_at spots q

      cases : (u b : Bool) → AllWhole count (if u then follow text spots next s w else (if b then [] else follow text spots next s (marked q w)))
      cases true b = follow_whole next whole s w h
      cases false true = tt
      cases false false =
          follow_whole next whole s (marked q w) (record { within = h.within; begun = h.begun; ended = h.ended; counted = h.counted })

  within_whole : (n : ℕ) → GivesWhole text count (gives_within text spots n)
  unfolding gives_within
  within_whole zero = λ q w h. tt
  within_whole (suc n) = visit_whole (gives_within text spots n) (within_whole n)

  -- a program gives whole runs to each sound way
  pub gives-whole : (q : ℕ) (w : Way) → IsSound text count w → AllByRecursion (IsWhole count) (gives text spots q w)
  unfolding gives
  gives-whole q w h = within_whole (suc (rank text spots q w)) q w h

first_whole : (count : ℕ) (runs : List Run) → AllWhole count runs → (r : Run) → first_of runs ≡ Some r → IsWhole count r
first_whole count [] h r e = absurd (none-some r e)
first_whole count (s ∷ rest) h r e =
    let one : IsWhole count (forget s) = record { ended = h.0.ended; counted = h.0.counted } in
    subst (IsWhole count) (same_Some _ _ e) one

-- so the first run of the least place is whole
pub first_from-whole : (text : List ℕ) (spots : List Spot) (groups places at : ℕ) → at + places ≤ length text + 1 → (r : Run)
    → first_from text spots groups places at ≡ Some r → IsWhole (groups + 1) r
first_from-whole text spots groups zero at within r e = absurd (none-some r e)
first_from-whole text spots groups (suc places) at within r e =
    cases (first_of (begins text spots groups at)) refl e (first_from-whole text spots groups places (at + 1) (omega arith) r)
  where
    cases : (o : Option Run) → first_of (begins text spots groups at) ≡ o → option_or o (first_from text spots groups places (at + 1)) ≡ Some r
        → (first_from text spots groups places (at + 1) ≡ Some r → IsWhole (groups + 1) r) → IsWhole (groups + 1) r
    cases None k e later = later e
    cases (Some s) k e later =
        first_whole (groups + 1) (begins text spots groups at)
        (gives-whole text spots (groups + 1) 0 (way [] (begin at groups)) (sound-begin text at groups (omega arith))) r (k ∙ e)

in_order_alone : (at : ℕ) (o : Option (ℕ × ℕ)) → LiesBefore at o → IsInOrder o
in_order_alone at None h = tt
in_order_alone at (Some ends) h = h.0

in_order_each : (at : ℕ) (groups : List (Option (ℕ × ℕ))) → AllByRecursion (LiesBefore at) groups → (i : ℕ) → IsInOrder (get_or groups i None)
in_order_each at [] h i = tt
in_order_each at (g ∷ groups) h zero = in_order_alone at g h.0
in_order_each at (g ∷ groups) h (suc i) = in_order_each at groups h.1 i

-- the groups of a whole run are in order
pub whole-in_order : (count : ℕ) (r : Run) → IsWhole count r → (i : ℕ) → IsInOrder (get_or r.groups i None)
whole-in_order count r h = in_order_each r.at r.groups h.ended
