-- A match begins at its place, and its groups lie before its end.
use Rattle.std.proofs.Common.{◌≡◌, ℕ, zero, suc, ◌+◌, ◌≤◌, Bool, true, false, List, [], ◌∷◌, ◌++◌, length, map, replicate, Option, Some, None, if◌then◌else◌, refl, sym, subst, ◌∙◌, arith}
use Rattle.std.specs.Prelude.{IfSome, option_map, slice_set}
use Rattle.std.specs.List.{flat_map, AllByRecursion}
use Rattle.std.proofs.lemmas.List.{length-replicate, length-set}
use Rattle.std.proofs.lemmas.Option.{none-some, same_Some}
use Rattle.hir_tree.specs.Core.{Core, empty, byte_in, char_in, look, group, pair, choice, none, plus, numbers}
use Rattle.hir_tree.specs.Groups.{start_of, EachLiesWithin}
use Rattle.hir_tree.specs.Looks.{holds}
use Rattle.hir_tree.specs.Runs.{Run, Step, begin, moved, mark, set_group, visit, rounds_or_end, after, byte_size, char_size, as_list, take_size, runs, first, preferred}
use Rattle.hir_tree.proofs.ListLemmas.{All-append, All-flat_map, All-map, All-weaker}
use Rattle.hir_tree.proofs.runs_laws.NumbersLemmas.{preferred-first}
use Rattle.hir_tree.proofs.runs_laws.RunsLemmas.{GoesOn, visit-All, All-rounds_or_end, TakesWithin, byte_size-within, char_size-within, runs-Forward}

-- a group that is set ends where it begins or later, and no later than a place
abbrev LiesBefore : ℕ → Option (ℕ × ℕ) → Type 0
LiesBefore at None = Unit {0}
LiesBefore at (Some ends) = (ends.0 ≤ ends.1) × (ends.1 ≤ at)

lies-later : (a b : ℕ) → a ≤ b → (g : Option (ℕ × ℕ)) → LiesBefore a g → LiesBefore b g
lies-later a b le None h = tt
lies-later a b le (Some ends) h = (h.0, omega (arith, h.1))

lies-set : (at start i : ℕ) (gs : List (Option (ℕ × ℕ))) → start ≤ at → AllByRecursion (LiesBefore at) gs
    → AllByRecursion (LiesBefore at) (slice_set gs i (Some (start, at)))
lies-set at start i [] le h = tt
lies-set at start zero (g ∷ gs) le h = ((le, omega arith), h.1)
lies-set at start (suc i) (g ∷ gs) le h = (h.0, lies-set at start i gs le h.1)

unset-lies : (at n : ℕ) → AllByRecursion (LiesBefore at) (replicate n None)
unset-lies at zero = tt
unset-lies at (suc n) = (tt, unset-lies at n)

each-lies : (at n : ℕ) → at ≤ n → (gs : List (Option (ℕ × ℕ))) → AllByRecursion (LiesBefore at) gs → EachLiesWithin n gs
each-lies at n le [] h i ends e = absurd (none-some ends e)
each-lies at n le (None ∷ gs) h zero ends e = absurd (none-some ends e)
each-lies at n le (Some own ∷ gs) h zero ends e =
    subst (λ (it : ℕ × ℕ). (it.0 ≤ it.1) × (it.1 ≤ n)) (same_Some own ends e) (h.0.0, omega (arith, h.0.1))
each-lies at n le (g ∷ gs) h (suc i) ends e = each-lies at n le gs h.1 i ends e

both : {A : Type 0} (P Q : A → Type 0) (xs : List A) → AllByRecursion P xs → AllByRecursion Q xs → AllByRecursion (λ x. P x × Q x) xs
both P Q [] h k = tt
both P Q (x ∷ xs) h k = ((h.0, k.0), both P Q xs h.1 k.1)

module _ (text : List ℕ) (groups : ℕ) where
  -- a run within the text, with a group for each index, none of which ends after it
  record Good (r : Run) : Type 0 where
    within : r.at ≤ length text
    lies : AllByRecursion (LiesBefore r.at) r.groups
    slots : length r.groups ≡ groups + 1

  abbrev Keeps : Step → Type 0
  Keeps step = (r : Run) → Good r → AllByRecursion Good (step r)

  Keeps-visit : (n : ℕ) (f : Step) → Keeps f → Keeps (visit n f)
  Keeps-visit n f k r h = visit-All Good n f r (λ new. k (mark n r) (record { within = h.within; lies = h.lies; slots = h.slots }))

  Keeps-then : (f g : Step) → Keeps f → Keeps g → Keeps (λ r. flat_map g (f r))
  Keeps-then f g k l r h = All-flat_map Good Good g (f r) (k r h) l

  Keeps-after : (greedy : Bool) (again : ℕ) (f : Step) → Keeps f → (n : ℕ) → Keeps (after greedy again f n)
  unfolding after
  Keeps-after greedy again f k zero = λ r h. tt
  Keeps-after greedy again f k (suc n) =
      Keeps-visit again (λ s. rounds_or_end greedy (flat_map (after greedy again f n) (f s)) s)
      (λ s h. All-rounds_or_end Good greedy (flat_map (after greedy again f n) (f s)) s
      (Keeps-then f (after greedy again f n) k (Keeps-after greedy again f k n) s h) h)

  Keeps-take : (size : ℕ → Option ℕ) → TakesWithin text size → Keeps (take_size size)
  Keeps-take size within r h = cases (size r.at) refl
    where
      cases : (o : Option ℕ) → size r.at ≡ o → AllByRecursion Good (as_list (option_map (λ k. moved k r) o))
      cases None e = tt
      cases (Some k) e =
          let b = within r.at k e in (
            record {
              within = b.1;
              lies = All-weaker (LiesBefore r.at) (LiesBefore (r.at + k)) r.groups h.lies (lies-later r.at (r.at + k) (omega arith));
              slots = h.slots;
            },
            tt,
          )

  good-group : (i start : ℕ) (s : Run) → start ≤ s.at → Good s → Good (set_group i start s)
  good-group i start s le h = record {
    within = h.within;
    lies = lies-set s.at start i s.groups le h.lies;
    slots = length-set s.groups i (Some (start, s.at)) ∙ h.slots;
  }

  runs-Keeps : (core : Core) (n : ℕ) → Keeps (runs text core n)
  unfolding runs
  runs-Keeps empty n = Keeps-visit n (λ s. s ∷ []) (λ s h. (h, tt))
  runs-Keeps (byte_in set) n = Keeps-visit n (take_size (byte_size set text)) (Keeps-take (byte_size set text) (byte_size-within set text))
  runs-Keeps (char_in set) n = Keeps-visit n (take_size (char_size set text)) (Keeps-take (char_size set text) (char_size-within set text))
  runs-Keeps (look l) n = Keeps-visit n (λ s. if holds l text s.at then s ∷ [] else []) (λ s h. cases s h (holds l text s.at))
    where
      cases : (s : Run) → Good s → (b : Bool) → AllByRecursion Good (if b then s ∷ [] else [])
      cases s h true = (h, tt)
      cases s h false = tt
  runs-Keeps (group i a) n =
      Keeps-visit n (λ s. map (set_group i s.at) (runs text a (n + 2) s))
      (λ s h. All-map (λ t. Good t × GoesOn text s t) Good (set_group i s.at) (runs text a (n + 2) s)
      (both Good (GoesOn text s) (runs text a (n + 2) s) (runs-Keeps a (n + 2) s h) (runs-Forward text a (n + 2) s h.within))
      (λ t k. good-group i s.at t k.1.forward k.0))
  runs-Keeps (pair a b) n =
      Keeps-visit n (λ s. flat_map (runs text b (n + 1 + numbers a)) (runs text a (n + 1) s))
      (Keeps-then (runs text a (n + 1)) (runs text b (n + 1 + numbers a)) (runs-Keeps a (n + 1)) (runs-Keeps b (n + 1 + numbers a)))
  runs-Keeps (choice a b) n =
      Keeps-visit n (λ s. runs text a (n + 1) s ++ runs text b (n + 1 + numbers a) s)
      (λ s h. All-append Good (runs text a (n + 1) s) (runs text b (n + 1 + numbers a) s) (runs-Keeps a (n + 1) s h) (runs-Keeps b (n + 1 + numbers a) s h))
  runs-Keeps none n = Keeps-visit n (λ s. []) (λ s h. tt)
  runs-Keeps (plus greedy a) n =
      Keeps-visit n (λ s. flat_map (after greedy (n + 1) (runs text a (n + 2)) (length text + 1)) (runs text a (n + 2) s))
      (Keeps-then (runs text a (n + 2)) (after greedy (n + 1) (runs text a (n + 2)) (length text + 1)) (runs-Keeps a (n + 2))
      (Keeps-after greedy (n + 1) (runs text a (n + 2)) (runs-Keeps a (n + 2)) (length text + 1)))

  -- what a preferred match from a place holds
  pub record Whole (at : ℕ) (found : List (Option (ℕ × ℕ))) : Type 0 where
    pub begins : start_of found ≡ Some at
    pub lies : EachLiesWithin (length text) found
    pub slots : length found ≡ groups + 1

  first-whole : (at : ℕ) (rs : List Run) → AllByRecursion (λ s. Good s × GoesOn text (begin at groups) s) rs
      → IfSome (option_map (λ r. slice_set r.groups 0 (Some (at, r.at))) (first rs)) (Whole at)
  first-whole at [] h = tt
  first-whole at (s ∷ rs) h =
      let good = good-group 0 at s h.0.1.forward h.0.0 in
      record { begins = cases s.groups h.0.0.slots; lies = each-lies s.at (length text) good.within _ good.lies; slots = good.slots }
    where
      cases : (gs : List (Option (ℕ × ℕ))) → length gs ≡ groups + 1 → start_of (slice_set gs 0 (Some (at, s.at))) ≡ Some at
      cases [] k = absurd (omega arith)
      cases (g ∷ gs) k = refl

  pub match-whole : (core : Core) (at : ℕ) → at ≤ length text → IfSome (preferred core groups text at) (Whole at)
  match-whole core at within =
      let r = begin at groups in
      let good : Good r = record { within = within; lies = unset-lies at (groups + 1); slots = length-replicate (groups + 1) None } in
      subst (λ (o : Option (List (Option (ℕ × ℕ)))). IfSome o (Whole at)) (sym (preferred-first core groups text at 0))
      (first-whole at (runs text core 0 r) (both Good (GoesOn text r) (runs text core 0 r) (runs-Keeps core 0 r good) (runs-Forward text core 0 r within)))
