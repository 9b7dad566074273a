-- Runs go on from their place, and set no group before it.
use Rattle.std.proofs.Common.{ℕ, zero, suc, ◌+◌, ◌≤◌, Bool, true, false, List, [], ◌∷◌, ◌++◌, length, map, replicate, Option, Some, None, if◌then◌else◌, sym, subst, arith}
use Rattle.std.specs.Prelude.{IfSome, option_map, slice_set}
use Rattle.std.specs.List.{flat_map, AllByRecursion}
use Rattle.std.proofs.lemmas.Option.{none-some, same_Some}
use Rattle.hir_tree.specs.Core.{Core, empty, byte_in, char_in, look, group, pair, choice, none, plus, numbers}
use Rattle.hir_tree.specs.Groups.{EachLiesFrom}
use Rattle.hir_tree.specs.Looks.{holds}
use Rattle.hir_tree.specs.Runs.{Run, Step, begin, moved, mark, set_group, visit, rounds_or_end, after, byte_size, char_size, as_list, take_size, runs, first, preferred}
use Rattle.hir_tree.proofs.ListLemmas.{All-append, All-flat_map, All-map}
use Rattle.hir_tree.proofs.runs_laws.NumbersLemmas.{preferred-first}
use Rattle.hir_tree.proofs.runs_laws.RunsLemmas.{visit-All, All-rounds_or_end}

module _ (from : ℕ) where
  -- a group that is set begins at the place or after it
  abbrev BeginsFrom : Option (ℕ × ℕ) → Type 0
  BeginsFrom None = Unit {0}
  BeginsFrom (Some ends) = from ≤ ends.0

  from-set : (start end i : ℕ) (gs : List (Option (ℕ × ℕ))) → from ≤ start → AllByRecursion BeginsFrom gs
      → AllByRecursion BeginsFrom (slice_set gs i (Some (start, end)))
  from-set start end i [] le h = tt
  from-set start end zero (g ∷ gs) le h = (le, h.1)
  from-set start end (suc i) (g ∷ gs) le h = (h.0, from-set start end i gs le h.1)

  from-unset : (n : ℕ) → AllByRecursion BeginsFrom (replicate n None)
  from-unset zero = tt
  from-unset (suc n) = (tt, from-unset n)

  from-each : (gs : List (Option (ℕ × ℕ))) → AllByRecursion BeginsFrom gs → EachLiesFrom from gs
  from-each [] h i ends e = absurd (none-some ends e)
  from-each (None ∷ gs) h zero ends e = absurd (none-some ends e)
  from-each (Some own ∷ gs) h zero ends e = subst (λ (it : ℕ × ℕ). from ≤ it.0) (same_Some own ends e) h.0
  from-each (g ∷ gs) h (suc i) ends e = from-each gs h.1 i ends e

  -- a run that ends at the place or after it, as does each group that is set begin
  pub record Ahead (r : Run) : Type 0 where
    pub onward : from ≤ r.at
    pub begun : AllByRecursion BeginsFrom r.groups

  abbrev pub Keeps : Step → Type 0
  Keeps step = (r : Run) → Ahead r → AllByRecursion Ahead (step r)

  pub Ahead-mark : (n : ℕ) (r : Run) → Ahead r → Ahead (mark n r)
  Ahead-mark n r h = record { onward = h.onward; begun = h.begun }

  Ahead-group : (i start : ℕ) (s : Run) → from ≤ start → Ahead s → Ahead (set_group i start s)
  Ahead-group i start s le h = record { onward = h.onward; begun = from-set start s.at i s.groups le h.begun }

  pub Ahead-begin : (groups : ℕ) → Ahead (begin from groups)
  Ahead-begin groups = record { onward = omega arith; begun = from-unset (groups + 1) }

  Keeps-visit : (n : ℕ) (f : Step) → Keeps f → Keeps (visit n f)
  Keeps-visit n f k r h = visit-All Ahead n f r (λ new. k (mark n r) (Ahead-mark n r h))

  Keeps-then : (f g : Step) → Keeps f → Keeps g → Keeps (λ r. flat_map g (f r))
  Keeps-then f g k l r h = All-flat_map Ahead Ahead g (f r) (k r h) l

  Keeps-after : (greedy : Bool) (again : ℕ) (f : Step) → Keeps f → (n : ℕ) → Keeps (after greedy again f n)
  unfolding after
  Keeps-after greedy again f k zero = λ r h. tt
  Keeps-after greedy again f k (suc n) =
      Keeps-visit again (λ s. rounds_or_end greedy (flat_map (after greedy again f n) (f s)) s)
      (λ s h. All-rounds_or_end Ahead greedy (flat_map (after greedy again f n) (f s)) s
      (Keeps-then f (after greedy again f n) k (Keeps-after greedy again f k n) s h) h)

  Keeps-take : (size : ℕ → Option ℕ) → Keeps (take_size size)
  Keeps-take size r h = cases (size r.at)
    where
      cases : (o : Option ℕ) → AllByRecursion Ahead (as_list (option_map (λ k. moved k r) o))
      cases None = tt
      cases (Some k) = (record { onward = omega (arith, h.onward); begun = h.begun }, tt)

  module _ (text : List ℕ) where
    pub runs-Ahead : (core : Core) (n : ℕ) → Keeps (runs text core n)
    unfolding runs
    runs-Ahead empty n = Keeps-visit n (λ s. s ∷ []) (λ s h. (h, tt))
    runs-Ahead (byte_in set) n = Keeps-visit n (take_size (byte_size set text)) (Keeps-take (byte_size set text))
    runs-Ahead (char_in set) n = Keeps-visit n (take_size (char_size set text)) (Keeps-take (char_size set text))
    runs-Ahead (look l) n = Keeps-visit n (λ s. if holds l text s.at then s ∷ [] else []) (λ s h. cases s h (holds l text s.at))
      where
        cases : (s : Run) → Ahead s → (b : Bool) → AllByRecursion Ahead (if b then s ∷ [] else [])
        cases s h true = (h, tt)
        cases s h false = tt
    runs-Ahead (group i a) n =
        Keeps-visit n (λ s. map (set_group i s.at) (runs text a (n + 2) s))
        (λ s h. All-map Ahead Ahead (set_group i s.at) (runs text a (n + 2) s) (runs-Ahead a (n + 2) s h) (λ t. Ahead-group i s.at t h.onward))
    runs-Ahead (pair a b) n =
        Keeps-visit n (λ s. flat_map (runs text b (n + 1 + numbers a)) (runs text a (n + 1) s))
        (Keeps-then (runs text a (n + 1)) (runs text b (n + 1 + numbers a)) (runs-Ahead a (n + 1)) (runs-Ahead b (n + 1 + numbers a)))
    runs-Ahead (choice a b) n =
        Keeps-visit n (λ s. runs text a (n + 1) s ++ runs text b (n + 1 + numbers a) s)
        (λ s h. All-append Ahead (runs text a (n + 1) s) (runs text b (n + 1 + numbers a) s) (runs-Ahead a (n + 1) s h) (runs-Ahead b (n + 1 + numbers a) s h))
    runs-Ahead none n = Keeps-visit n (λ s. []) (λ s h. tt)
    runs-Ahead (plus greedy a) n =
        Keeps-visit n (λ s. flat_map (after greedy (n + 1) (runs text a (n + 2)) (length text + 1)) (runs text a (n + 2) s))
        (Keeps-then (runs text a (n + 2)) (after greedy (n + 1) (runs text a (n + 2)) (length text + 1)) (runs-Ahead a (n + 2))
        (Keeps-after greedy (n + 1) (runs text a (n + 2)) (runs-Ahead a (n + 2)) (length text + 1)))

    first-from : (rs : List Run) → AllByRecursion Ahead rs
        → IfSome (option_map (λ r. slice_set r.groups 0 (Some (from, r.at))) (first rs)) (EachLiesFrom from)
    first-from [] h = tt
    first-from (s ∷ rs) h = from-each (slice_set s.groups 0 (Some (from, s.at))) (from-set from s.at 0 s.groups (omega arith) h.0.begun)

    pub groups-from : (core : Core) (groups : ℕ) → IfSome (preferred core groups text from) (EachLiesFrom from)
    groups-from core groups =
        subst (λ (o : Option (List (Option (ℕ × ℕ)))). IfSome o (EachLiesFrom from)) (sym (preferred-first core groups text from 0))
        (first-from (runs text core 0 (begin from groups)) (runs-Ahead core 0 (begin from groups) (Ahead-begin groups)))
