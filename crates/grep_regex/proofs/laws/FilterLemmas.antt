-- Runs that keep clear of what isn't to be taken.
use Rattle.std.proofs.Common.{◌≡◌, ℕ, zero, suc, ◌+◌, ◌≤◌, Bool, true, false, cond, List, [], ◌∷◌, ◌++◌, length, map, Option, Some, None, if◌then◌else◌, refl, sym, ap, ap₂, ◌∙◌, subst}
use Rattle.std.specs.Prelude.{◌&&◌, filter, option_map}
use Rattle.std.specs.List.{flat_map, AllByRecursion}
use Rattle.std.proofs.lemmas.List.Elements.{filter-append}
use Rattle.hir_tree.specs.Core.{Core, empty, byte_in, char_in, look, group, pair, choice, none, plus, numbers}
use Rattle.hir_tree.specs.Looks.{holds}
use Rattle.hir_tree.specs.Runs.{Run, Step, moved, mark, set_group, is_seen, visit, rounds_or_end, after, byte_size, char_size, as_list, take_size, runs}
use Rattle.hir_tree.proofs.ListLemmas.{All-weaker}
use Rattle.hir_tree.proofs.RunsLemmas.{GoesOn, AllGoOn, Forward, Forward-after, runs-Forward}

-- two tests that agree on each element
filter-same : {A : Type 0} (p q : A → Bool) (xs : List A) → AllByRecursion (λ x. p x ≡ q x) xs → filter p xs ≡ filter q xs
filter-same p q [] h = refl
filter-same p q (x ∷ xs) h = ap₂ (λ b ys. cond b (x ∷ ys) ys) h.0 (filter-same p q xs h.1)

-- a test that fails at each
filter-none : {A : Type 0} (p : A → Bool) (xs : List A) → AllByRecursion (λ x. p x ≡ false) xs → filter p xs ≡ []
filter-none p [] h = refl
filter-none p (x ∷ xs) h = ap₂ (λ b ys. cond b (x ∷ ys) ys) h.0 (filter-none p xs h.1)

-- the core with each set cut
abbrev pub cut_core : (List (ℕ × ℕ) → List (ℕ × ℕ)) → Core → Core
cut_core cut empty = empty
cut_core cut (byte_in set) = byte_in (cut set)
cut_core cut (char_in set) = char_in (cut set)
cut_core cut (look l) = look l
cut_core cut (group i a) = group i (cut_core cut a)
cut_core cut (pair a b) = pair (cut_core cut a) (cut_core cut b)
cut_core cut (choice a b) = choice (cut_core cut a) (cut_core cut b)
cut_core cut none = none
cut_core cut (plus greedy a) = plus greedy (cut_core cut a)

same_numbers : (cut : List (ℕ × ℕ) → List (ℕ × ℕ)) (core : Core) → numbers core ≡ numbers (cut_core cut core)
same_numbers cut empty = refl
same_numbers cut (byte_in set) = refl
same_numbers cut (char_in set) = refl
same_numbers cut (look l) = refl
same_numbers cut (group i a) = ap (λ n. 2 + n) (same_numbers cut a)
same_numbers cut (pair a b) = ap₂ (λ n m. 1 + n + m) (same_numbers cut a) (same_numbers cut b)
same_numbers cut (choice a b) = ap₂ (λ n m. 1 + n + m) (same_numbers cut a) (same_numbers cut b)
same_numbers cut none = refl
same_numbers cut (plus greedy a) = ap (λ n. 2 + n) (same_numbers cut a)

-- what holds of each set of bytes, and of each set of characters
abbrev pub SetsAre : (List (ℕ × ℕ) → Type 0) → (List (ℕ × ℕ) → Type 0) → Core → Type 0
SetsAre B C empty = Unit {0}
SetsAre B C (byte_in set) = B set
SetsAre B C (char_in set) = C set
SetsAre B C (look l) = Unit {0}
SetsAre B C (group i a) = SetsAre B C a
SetsAre B C (pair a b) = SetsAre B C a × SetsAre B C b
SetsAre B C (choice a b) = SetsAre B C a × SetsAre B C b
SetsAre B C none = Unit {0}
SetsAre B C (plus greedy a) = SetsAre B C a

module _ (text : List ℕ) (clear : ℕ → ℕ → Bool) (stays : (at : ℕ) → clear at at ≡ true)
    (joins : (a m e : ℕ) → a ≤ m → m ≤ e → clear a e ≡ (clear a m && clear m e)) where
  -- the run keeps clear from a place on
  abbrev kept : ℕ → Run → Bool
  kept from s = clear from s.at

  -- one step gives those runs of the other that keep clear
  abbrev pub Filters : Step → Step → Type 0
  Filters f g = (r : Run) → r.at ≤ length text → g r ≡ filter (kept r.at) (f r)

  Filters-visit : (n : ℕ) (f g : Step) → Filters f g → Filters (visit n f) (visit n g)
  Filters-visit n f g h r within = cases (is_seen n r.seen)
    where
      cases : (b : Bool) → cond b [] (g (mark n r)) ≡ filter (kept r.at) (cond b [] (f (mark n r)))
      cases true = refl
      cases false = h (mark n r) within

  -- what follows a run that keeps clear is filtered from where it began, as from its end
  kept-on : (a : ℕ) (t : Run) (ss : List Run) → a ≤ t.at → AllGoOn text t ss → clear a t.at ≡ true
      → AllByRecursion (λ s. kept t.at s ≡ kept a s) ss
  kept-on a t ss le on e =
      All-weaker (GoesOn text t) (λ s. kept t.at s ≡ kept a s) ss on
      (λ s goes. sym (joins a t.at s.at le goes.forward ∙ ap (λ b. b && clear t.at s.at) e))

  kept-off : (a : ℕ) (t : Run) (ss : List Run) → a ≤ t.at → AllGoOn text t ss → clear a t.at ≡ false
      → AllByRecursion (λ s. kept a s ≡ false) ss
  kept-off a t ss le on e =
      All-weaker (GoesOn text t) (λ s. kept a s ≡ false) ss on
      (λ s goes. joins a t.at s.at le goes.forward ∙ ap (λ b. b && clear t.at s.at) e)

  filter-then : (f g : Step) → Forward text f → Filters f g → (r : Run) (ts : List Run) → AllGoOn text r ts
      → flat_map g (filter (kept r.at) ts) ≡ filter (kept r.at) (flat_map f ts)
  filter-then f g forward h r [] on = refl
  filter-then f g forward h r (t ∷ ts) on =
      cases (filter-then f g forward h r ts on.1) (clear r.at t.at) refl ∙ sym (filter-append (kept r.at) (f t) (flat_map f ts))
    where
      follow : AllGoOn text t (f t)
      follow = forward t on.0.within

      cases : flat_map g (filter (kept r.at) ts) ≡ filter (kept r.at) (flat_map f ts) → (b : Bool) → clear r.at t.at ≡ b
          → flat_map g (cond b (t ∷ filter (kept r.at) ts) (filter (kept r.at) ts)) ≡ filter (kept r.at) (f t) ++ filter (kept r.at) (flat_map f ts)
      cases rest true e =
          ap₂ (λ xs ys. xs ++ ys)
          (h t on.0.within ∙ filter-same (kept t.at) (kept r.at) (f t) (kept-on r.at t (f t) on.0.forward follow e)) rest
      cases rest false e =
          ap₂ (λ xs ys. xs ++ ys) (sym (filter-none (kept r.at) (f t) (kept-off r.at t (f t) on.0.forward follow e))) rest

  Filters-then : (f f2 g g2 : Step) → Forward text f → Forward text g → Filters f f2 → Filters g g2
      → Filters (λ r. flat_map g (f r)) (λ r. flat_map g2 (f2 r))
  Filters-then f f2 g g2 forward on h k r within =
      ap (flat_map g2) (h r within) ∙ filter-then g g2 on k r (f r) (forward r within)

  Filters-both : (f f2 g g2 : Step) → Filters f f2 → Filters g g2 → Filters (λ r. f r ++ g r) (λ r. f2 r ++ g2 r)
  Filters-both f f2 g g2 h k r within = ap₂ (λ xs ys. xs ++ ys) (h r within) (k r within) ∙ sym (filter-append (kept r.at) (f r) (g r))

  filter-one : (a : ℕ) (r : Run) → clear a r.at ≡ true → filter (kept a) (r ∷ []) ≡ r ∷ []
  filter-one a r e = ap (λ b. cond b (r ∷ []) []) e

  filter-groups : (p : ℕ → Bool) (i start : ℕ) (rs : List Run)
      → map (set_group i start) (filter (λ s. p s.at) rs) ≡ filter (λ s. p s.at) (map (set_group i start) rs)
  filter-groups p i start [] = refl
  filter-groups p i start (r ∷ rs) = cases (filter-groups p i start rs) (p r.at)
    where
      cases : map (set_group i start) (filter (λ s. p s.at) rs) ≡ filter (λ s. p s.at) (map (set_group i start) rs) → (b : Bool)
          → map (set_group i start) (cond b (r ∷ filter (λ s. p s.at) rs) (filter (λ s. p s.at) rs))
          ≡ cond b (set_group i start r ∷ filter (λ s. p s.at) (map (set_group i start) rs)) (filter (λ s. p s.at) (map (set_group i start) rs))
      cases rest true = ap (λ ss. set_group i start r ∷ ss) rest
      cases rest false = rest

  filter-rounds : (greedy : Bool) (a : ℕ) (rounds : List Run) (r : Run) → clear a r.at ≡ true
      → rounds_or_end greedy (filter (kept a) rounds) r ≡ filter (kept a) (rounds_or_end greedy rounds r)
  filter-rounds true a rounds r e =
      ap (λ ss. filter (kept a) rounds ++ ss) (sym (filter-one a r e)) ∙ sym (filter-append (kept a) rounds (r ∷ []))
  filter-rounds false a rounds r e = ap (λ b. cond b (r ∷ filter (kept a) rounds) (filter (kept a) rounds)) (sym e)

  Filters-after : (greedy : Bool) (again : ℕ) (f g : Step) → Forward text f → Filters f g → (rounds : ℕ)
      → Filters (after greedy again f rounds) (after greedy again g rounds)
  unfolding after
  Filters-after greedy again f g forward h zero = λ r within. refl
  Filters-after greedy again f g forward h (suc n) =
      Filters-visit again (λ s. rounds_or_end greedy (flat_map (after greedy again f n) (f s)) s)
      (λ s. rounds_or_end greedy (flat_map (after greedy again g n) (g s)) s)
      (λ s within.
      ap (λ rounds. rounds_or_end greedy rounds s)
      (Filters-then f g (after greedy again f n) (after greedy again g n) forward (Forward-after text greedy again f forward n) h
      (Filters-after greedy again f g forward h n) s within)
      ∙ filter-rounds greedy s.at (flat_map (after greedy again f n) (f s)) s (stays s.at))

  -- a size, if what is taken keeps clear
  abbrev pub clear_size : ℕ → Option ℕ → Option ℕ
  clear_size at None = None
  clear_size at (Some k) = if clear at (at + k) then Some k else None

  Filters-take : (size size2 : ℕ → Option ℕ) → ((at : ℕ) → size2 at ≡ clear_size at (size at)) → Filters (take_size size) (take_size size2)
  Filters-take size size2 h r within = ap (λ o. as_list (option_map (λ k. moved k r) o)) (h r.at) ∙ cases (size r.at)
    where
      parts : (k : ℕ) (b : Bool)
          → as_list (option_map (λ k. moved k r) (if b then Some k else None)) ≡ cond b (moved k r ∷ []) []
      parts k true = refl
      parts k false = refl

      cases : (o : Option ℕ) → as_list (option_map (λ k. moved k r) (clear_size r.at o)) ≡ filter (kept r.at) (as_list (option_map (λ k. moved k r) o))
      cases None = refl
      cases (Some k) = parts k (clear r.at (r.at + k))

  module _ (cut : List (ℕ × ℕ) → List (ℕ × ℕ))
      (B C : List (ℕ × ℕ) → Type 0)
      (bytes_cut : (set : List (ℕ × ℕ)) → B set → (at : ℕ) → byte_size (cut set) text at ≡ clear_size at (byte_size set text at))
      (chars_cut : (set : List (ℕ × ℕ)) → C set → (at : ℕ) → char_size (cut set) text at ≡ clear_size at (char_size set text at)) where
    -- the runs of the cut core are those of the core that keep clear
    pub runs-filtered : (core : Core) → SetsAre B C core → (n : ℕ) → Filters (runs text core n) (runs text (cut_core cut core) n)
    unfolding runs
    runs-filtered empty h n = Filters-visit n (λ s. s ∷ []) (λ s. s ∷ []) (λ s within. sym (filter-one s.at s (stays s.at)))
    runs-filtered (byte_in set) h n =
        Filters-visit n (take_size (byte_size set text)) (take_size (byte_size (cut set) text)) (Filters-take (byte_size set text) (byte_size (cut set) text) (bytes_cut set h))
    runs-filtered (char_in set) h n =
        Filters-visit n (take_size (char_size set text)) (take_size (char_size (cut set) text)) (Filters-take (char_size set text) (char_size (cut set) text) (chars_cut set h))
    runs-filtered (look l) h n =
        Filters-visit n (λ s. if holds l text s.at then s ∷ [] else []) (λ s. if holds l text s.at then s ∷ [] else []) (λ s within. cases s (holds l text s.at))
      where
        cases : (s : Run) (b : Bool) → (if b then s ∷ [] else []) ≡ filter (kept s.at) (if b then s ∷ [] else [])
        cases s true = sym (filter-one s.at s (stays s.at))
        cases s false = refl
    runs-filtered (group i a) h n =
        Filters-visit n (λ s. map (set_group i s.at) (runs text a (n + 2) s)) (λ s. map (set_group i s.at) (runs text (cut_core cut a) (n + 2) s))
        (λ s within. ap (map (set_group i s.at)) (runs-filtered a h (n + 2) s within) ∙ filter-groups (clear s.at) i s.at (runs text a (n + 2) s))
    runs-filtered (pair a b) h n =
        Filters-visit n (λ s. flat_map (runs text b (n + 1 + numbers a)) (runs text a (n + 1) s))
        (λ s. flat_map (runs text (cut_core cut b) (n + 1 + numbers (cut_core cut a))) (runs text (cut_core cut a) (n + 1) s))
        (Filters-then (runs text a (n + 1)) (runs text (cut_core cut a) (n + 1)) (runs text b (n + 1 + numbers a)) (runs text (cut_core cut b) (n + 1 + numbers (cut_core cut a)))
        (runs-Forward text a (n + 1)) (runs-Forward text b (n + 1 + numbers a)) (runs-filtered a h.0 (n + 1)) (subst (λ (m : ℕ). Filters (runs text b (n + 1 + numbers a)) (runs text (cut_core cut b) (n + 1 + m))) (same_numbers cut a) (runs-filtered b h.1 (n + 1 + numbers a))))
    runs-filtered (choice a b) h n =
        Filters-visit n (λ s. runs text a (n + 1) s ++ runs text b (n + 1 + numbers a) s)
        (λ s. runs text (cut_core cut a) (n + 1) s ++ runs text (cut_core cut b) (n + 1 + numbers (cut_core cut a)) s)
        (Filters-both (runs text a (n + 1)) (runs text (cut_core cut a) (n + 1)) (runs text b (n + 1 + numbers a)) (runs text (cut_core cut b) (n + 1 + numbers (cut_core cut a)))
        (runs-filtered a h.0 (n + 1)) (subst (λ (m : ℕ). Filters (runs text b (n + 1 + numbers a)) (runs text (cut_core cut b) (n + 1 + m))) (same_numbers cut a) (runs-filtered b h.1 (n + 1 + numbers a))))
    runs-filtered none h n = Filters-visit n (λ s. []) (λ s. []) (λ s within. refl)
    runs-filtered (plus greedy a) h n =
        Filters-visit n (λ s. flat_map (after greedy (n + 1) (runs text a (n + 2)) (length text + 1)) (runs text a (n + 2) s))
        (λ s. flat_map (after greedy (n + 1) (runs text (cut_core cut a) (n + 2)) (length text + 1)) (runs text (cut_core cut a) (n + 2) s))
        (Filters-then (runs text a (n + 2)) (runs text (cut_core cut a) (n + 2))
        (after greedy (n + 1) (runs text a (n + 2)) (length text + 1)) (after greedy (n + 1) (runs text (cut_core cut a) (n + 2)) (length text + 1))
        (runs-Forward text a (n + 2)) (Forward-after text greedy (n + 1) (runs text a (n + 2)) (runs-Forward text a (n + 2)) (length text + 1))
        (runs-filtered a h (n + 2)) (Filters-after greedy (n + 1) (runs text a (n + 2)) (runs text (cut_core cut a) (n + 2)) (runs-Forward text a (n + 2)) (runs-filtered a h (n + 2)) (length text + 1)))
