-- Runs don't depend on the numbers of the nodes.
use Rattle.std.proofs.Common.{◌≡◌, ℕ, zero, suc, ◌+◌, ◌<◌, Bool, true, false, cond, List, [], ◌∷◌, ◌++◌, length, map, Option, Some, None, if◌then◌else◌, refl, sym, ap, ap₂, ◌∙◌, true≢false, eq-eqb, arith}
use Rattle.std.specs.Prelude.{◌==◌, ◌||◌, option_map, slice_set}
use Rattle.std.specs.List.{flat_map}
use Rattle.std.proofs.Math.Bool.{or-false}
use Rattle.std.proofs.lemmas.Bool.{eqb-true, ne_eqb}
use Rattle.std.proofs.lemmas.List.{map-append}
use Rattle.std.proofs.lemmas.Option.{none-some, same_Some}
use Rattle.hir_tree.specs.Core.{Core, empty, byte_in, char_in, look, group, pair, choice, none, plus, numbers}
use Rattle.hir_tree.specs.Looks.{holds}
use Rattle.hir_tree.specs.Runs.{Run, Step, begin, moved, mark, set_group, is_seen, visit, rounds_or_end, after, byte_size, char_size, as_list, take_size, runs, first, preferred}
use Rattle.hir_tree.specs.RunsLaws.{forget}

-- the same run but for numbers, where n of the one is m of the other, and so on upwards
record Alike (n m : ℕ) (r s : Run) : Type 0 where
  same_at : r.at ≡ s.at
  same_groups : r.groups ≡ s.groups
  same_seen : (i : ℕ) → is_seen (n + i) r.seen ≡ is_seen (m + i) s.seen

-- such runs in the same order
abbrev AllAlike : ℕ → ℕ → List Run → List Run → Type 0
AllAlike n m [] [] = Unit {0}
AllAlike n m [] (s ∷ ss) = ⊥
AllAlike n m (r ∷ rs) [] = ⊥
AllAlike n m (r ∷ rs) (s ∷ ss) = Alike n m r s × AllAlike n m rs ss

-- two tests of numbers that are both met or both not
same_test : (a b c d : ℕ) → (a ≡ b → c ≡ d) → (c ≡ d → a ≡ b) → (a == b) ≡ (c == d)
same_test a b c d on back = cases (a == b) refl
  where
    cases : (t : Bool) → (a == b) ≡ t → t ≡ (c == d)
    cases true e = sym (eq-eqb c d (on (eqb-true a b e)))
    cases false e = sym (ne_eqb c d (λ h. true≢false (sym (eq-eqb a b (back h)) ∙ e)))

module _ (n m : ℕ) where
  AllAlike-append : (rs ss us vs : List Run) → AllAlike n m rs ss → AllAlike n m us vs → AllAlike n m (rs ++ us) (ss ++ vs)
  AllAlike-append [] [] us vs h k = k
  AllAlike-append [] (s ∷ ss) us vs h k = absurd h
  AllAlike-append (r ∷ rs) [] us vs h k = absurd h
  AllAlike-append (r ∷ rs) (s ∷ ss) us vs h k = (h.0, AllAlike-append rs ss us vs h.1 k)

  AllAlike-flat_map : (f g : Step) (rs ss : List Run) → AllAlike n m rs ss → ((r s : Run) → Alike n m r s → AllAlike n m (f r) (g s))
      → AllAlike n m (flat_map f rs) (flat_map g ss)
  AllAlike-flat_map f g [] [] h k = tt
  AllAlike-flat_map f g [] (s ∷ ss) h k = absurd h
  AllAlike-flat_map f g (r ∷ rs) [] h k = absurd h
  AllAlike-flat_map f g (r ∷ rs) (s ∷ ss) h k =
      AllAlike-append (f r) (g s) (flat_map f rs) (flat_map g ss) (k r s h.0) (AllAlike-flat_map f g rs ss h.1 k)

  AllAlike-set_group : (i a b : ℕ) (rs ss : List Run) → a ≡ b → AllAlike n m rs ss → AllAlike n m (map (set_group i a) rs) (map (set_group i b) ss)
  AllAlike-set_group i a b [] [] e h = tt
  AllAlike-set_group i a b [] (s ∷ ss) e h = absurd h
  AllAlike-set_group i a b (r ∷ rs) [] e h = absurd h
  AllAlike-set_group i a b (r ∷ rs) (s ∷ ss) e h =
      let there : (a, r.at) ≡ (b, s.at) = ap₂ (λ (x y : ℕ). (x, y)) e h.0.same_at in (
        record {
          same_at = h.0.same_at;
          same_groups = ap₂ (λ (gs : List (Option (ℕ × ℕ))) (span : ℕ × ℕ). slice_set gs i (Some span)) h.0.same_groups there;
          same_seen = h.0.same_seen;
        },
        AllAlike-set_group i a b rs ss e h.1,
      )

  Alike-mark : (k p q : ℕ) (r s : Run) → p ≡ n + k → q ≡ m + k → Alike n m r s → Alike n m (mark p r) (mark q s)
  Alike-mark k p q r s at_p at_q h = record {
    same_at = h.same_at;
    same_groups = h.same_groups;
    same_seen = λ i.
        ap₂ (λ a b. a || b) (same_test p (n + i) q (m + i) (λ e. omega arith) (λ e. omega arith)) (h.same_seen i);
  }

  visit-alike : (k p q : ℕ) (f g : Step) (r s : Run) → p ≡ n + k → q ≡ m + k → Alike n m r s
      → (Alike n m (mark p r) (mark q s) → AllAlike n m (f (mark p r)) (g (mark q s))) → AllAlike n m (visit p f r) (visit q g s)
  visit-alike k p q f g r s at_p at_q h next =
      cases (is_seen p r.seen) (is_seen q s.seen) (ap (λ x. is_seen x r.seen) at_p ∙ h.same_seen k ∙ ap (λ x. is_seen x s.seen) (sym at_q))
    where
      cases : (a b : Bool) → a ≡ b → AllAlike n m (cond a [] (f (mark p r))) (cond b [] (g (mark q s)))
      cases true true e = tt
      cases true false e = absurd (true≢false e)
      cases false true e = absurd (true≢false (sym e))
      cases false false e = next (Alike-mark k p q r s at_p at_q h)

  take_size-alike : (size : ℕ → Option ℕ) (r s : Run) → Alike n m r s → AllAlike n m (take_size size r) (take_size size s)
  take_size-alike size r s h = cases (size r.at) (size s.at) (ap size h.same_at)
    where
      cases : (o p : Option ℕ) → o ≡ p → AllAlike n m (as_list (option_map (λ k. moved k r) o)) (as_list (option_map (λ k. moved k s) p))
      cases None None e = tt
      cases None (Some b) e = absurd (none-some b e)
      cases (Some a) None e = absurd (none-some a (sym e))
      cases (Some a) (Some b) e =
          let same : a ≡ b = same_Some a b e in
          (record { same_at = ap₂ (λ x y. x + y) h.same_at same; same_groups = h.same_groups; same_seen = λ i. refl }, tt)

  look-alike : (a b : Bool) (r s : Run) → a ≡ b → Alike n m r s → AllAlike n m (if a then r ∷ [] else []) (if b then s ∷ [] else [])
  look-alike true true r s e h = (h, tt)
  look-alike true false r s e h = absurd (true≢false e)
  look-alike false true r s e h = absurd (true≢false (sym e))
  look-alike false false r s e h = tt

  rounds-alike : (greedy : Bool) (rs ss : List Run) (r s : Run) → AllAlike n m rs ss → Alike n m r s
      → AllAlike n m (rounds_or_end greedy rs r) (rounds_or_end greedy ss s)
  rounds-alike true rs ss r s h k = AllAlike-append rs ss (r ∷ []) (s ∷ []) h (k, tt)
  rounds-alike false rs ss r s h k = (k, h)

  after-alike : (greedy : Bool) (k p q : ℕ) (f g : Step) → p ≡ n + k → q ≡ m + k → ((r s : Run) → Alike n m r s → AllAlike n m (f r) (g s))
      → (rounds : ℕ) (r s : Run) → Alike n m r s → AllAlike n m (after greedy p f rounds r) (after greedy q g rounds s)
  unfolding after
  after-alike greedy k p q f g at_p at_q body zero r s h = tt
  after-alike greedy k p q f g at_p at_q body (suc rounds) r s h =
      visit-alike k p q (λ t. rounds_or_end greedy (flat_map (after greedy p f rounds) (f t)) t) (λ t. rounds_or_end greedy (flat_map (after greedy q g rounds) (g t)) t)
      r s at_p at_q h
      (λ marked. rounds-alike greedy _ _ (mark p r) (mark q s)
      (AllAlike-flat_map (after greedy p f rounds) (after greedy q g rounds) (f (mark p r)) (g (mark q s)) (body (mark p r) (mark q s) marked)
      (after-alike greedy k p q f g at_p at_q body rounds)) marked)

  module _ (text : List ℕ) where
    -- the runs of a core whose number is k above n in the one and above m in the other
    runs-alike : (core : Core) (k p q : ℕ) → p ≡ n + k → q ≡ m + k → (r s : Run) → Alike n m r s → AllAlike n m (runs text core p r) (runs text core q s)
    unfolding runs
    runs-alike empty k p q at_p at_q r s h = visit-alike k p q (λ t. t ∷ []) (λ t. t ∷ []) r s at_p at_q h (λ marked. (marked, tt))
    runs-alike (byte_in set) k p q at_p at_q r s h =
        visit-alike k p q (take_size (byte_size set text)) (take_size (byte_size set text)) r s at_p at_q h (take_size-alike (byte_size set text) (mark p r) (mark q s))
    runs-alike (char_in set) k p q at_p at_q r s h =
        visit-alike k p q (take_size (char_size set text)) (take_size (char_size set text)) r s at_p at_q h (take_size-alike (char_size set text) (mark p r) (mark q s))
    runs-alike (look l) k p q at_p at_q r s h =
        visit-alike k p q (λ t. if holds l text t.at then t ∷ [] else []) (λ t. if holds l text t.at then t ∷ [] else []) r s at_p at_q h
        (look-alike (holds l text r.at) (holds l text s.at) (mark p r) (mark q s) (ap (holds l text) h.same_at))
    runs-alike (group i a) k p q at_p at_q r s h =
        visit-alike k p q (λ t. map (set_group i t.at) (runs text a (p + 2) t)) (λ t. map (set_group i t.at) (runs text a (q + 2) t)) r s at_p at_q h
        (λ marked. AllAlike-set_group i r.at s.at (runs text a (p + 2) (mark p r)) (runs text a (q + 2) (mark q s)) h.same_at
        (runs-alike a (k + 2) (p + 2) (q + 2) (omega arith) (omega arith) (mark p r) (mark q s) marked))
    runs-alike (pair a b) k p q at_p at_q r s h =
        visit-alike k p q (λ t. flat_map (runs text b (p + 1 + numbers a)) (runs text a (p + 1) t)) (λ t. flat_map (runs text b (q + 1 + numbers a)) (runs text a (q + 1) t))
        r s at_p at_q h
        (λ marked. AllAlike-flat_map (runs text b (p + 1 + numbers a)) (runs text b (q + 1 + numbers a)) (runs text a (p + 1) (mark p r)) (runs text a (q + 1) (mark q s))
        (runs-alike a (k + 1) (p + 1) (q + 1) (omega arith) (omega arith) (mark p r) (mark q s) marked)
        (runs-alike b (k + 1 + numbers a) (p + 1 + numbers a) (q + 1 + numbers a) (omega arith) (omega arith)))
    runs-alike (choice a b) k p q at_p at_q r s h =
        visit-alike k p q (λ t. runs text a (p + 1) t ++ runs text b (p + 1 + numbers a) t) (λ t. runs text a (q + 1) t ++ runs text b (q + 1 + numbers a) t) r s at_p at_q h
        (λ marked. AllAlike-append (runs text a (p + 1) (mark p r)) (runs text a (q + 1) (mark q s)) (runs text b (p + 1 + numbers a) (mark p r)) (runs text b (q + 1 + numbers a) (mark q s))
        (runs-alike a (k + 1) (p + 1) (q + 1) (omega arith) (omega arith) (mark p r) (mark q s) marked)
        (runs-alike b (k + 1 + numbers a) (p + 1 + numbers a) (q + 1 + numbers a) (omega arith) (omega arith) (mark p r) (mark q s) marked))
    runs-alike none k p q at_p at_q r s h = visit-alike k p q (λ t. []) (λ t. []) r s at_p at_q h (λ marked. tt)
    runs-alike (plus greedy a) k p q at_p at_q r s h =
        let f : Step = runs text a (p + 2) in
        let g : Step = runs text a (q + 2) in
        let body : (t u : Run) → Alike n m t u → AllAlike n m (f t) (g u) = runs-alike a (k + 2) (p + 2) (q + 2) (omega arith) (omega arith) in
        visit-alike k p q (λ t. flat_map (after greedy (p + 1) f (length text + 1)) (f t)) (λ t. flat_map (after greedy (q + 1) g (length text + 1)) (g t)) r s at_p at_q h
        (λ marked. AllAlike-flat_map (after greedy (p + 1) f (length text + 1)) (after greedy (q + 1) g (length text + 1)) (f (mark p r)) (g (mark q s))
        (body (mark p r) (mark q s) marked)
        (after-alike greedy (k + 1) (p + 1) (q + 1) f g (omega arith) (omega arith) body (length text + 1)))

-- alike runs are the same where what was seen is forgotten
forget-alike : (n m : ℕ) (rs ss : List Run) → AllAlike n m rs ss → map forget rs ≡ map forget ss
forget-alike n m [] [] h = refl
forget-alike n m [] (s ∷ ss) h = absurd h
forget-alike n m (r ∷ rs) [] h = absurd h
forget-alike n m (r ∷ rs) (s ∷ ss) h =
    let same : forget r ≡ forget s =
    ap₂ (λ (a : ℕ) (gs : List (Option (ℕ × ℕ))). forget (record { at = a; groups = gs; seen = [] })) h.0.same_at h.0.same_groups in
    ap₂ (λ x xs. x ∷ xs) same (forget-alike n m rs ss h.1)

-- a core has the same runs at whichever number
pub runs-renumbered : (text : List ℕ) (core : Core) (n m at groups : ℕ)
    → map forget (runs text core n (begin at groups)) ≡ map forget (runs text core m (begin at groups))
runs-renumbered text core n m at groups =
    forget-alike n m _ _ (runs-alike n m text core 0 n m (omega arith) (omega arith) (begin at groups) (begin at groups)
    (record { same_at = refl; same_groups = refl; same_seen = λ i. refl }))

-- a number below is seen, and none from n on
below-alike : (n m p at groups : ℕ) → p < n → Alike n m (mark p (begin at groups)) (begin at groups)
below-alike n m p at groups lt = record {
  same_at = refl;
  same_groups = refl;
  same_seen = λ i. or-false (p == n + i) ∙ ne_eqb p (n + i) (λ e. absurd (omega arith));
}

-- a choice has the runs of its parts, one after the other
pub choice-joined : (text : List ℕ) (a b : Core) (n at groups : ℕ)
    → map forget (runs text (choice a b) n (begin at groups))
    ≡ map forget (runs text a n (begin at groups)) ++ map forget (runs text b n (begin at groups))
unfolding runs
choice-joined text a b n at groups =
    let part = λ (core : Core) (m : ℕ) (lt : n < m).
    forget-alike m n _ _ (runs-alike m n text core 0 m n (omega arith) (omega arith) (mark n (begin at groups)) (begin at groups) (below-alike m n n at groups lt)) in
    map-append forget (runs text a (n + 1) (mark n (begin at groups))) (runs text b (n + 1 + numbers a) (mark n (begin at groups)))
    ∙ ap₂ (λ xs ys. xs ++ ys) (part a (n + 1) (omega arith)) (part b (n + 1 + numbers a) (omega arith))

-- the groups of a run, with the whole as group 0
abbrev with_whole : ℕ → Run → List (Option (ℕ × ℕ))
with_whole at r = slice_set r.groups 0 (Some (at, r.at))

first-whole : (at : ℕ) (rs : List Run) → option_map (λ r. r.groups) (first (map (set_group 0 at) rs)) ≡ option_map (with_whole at) (first rs)
first-whole at [] = refl
first-whole at (r ∷ rs) = refl

first-alike : (n m at : ℕ) (rs ss : List Run) → AllAlike n m rs ss → option_map (with_whole at) (first rs) ≡ option_map (with_whole at) (first ss)
first-alike n m at [] [] h = refl
first-alike n m at [] (s ∷ ss) h = absurd h
first-alike n m at (r ∷ rs) [] h = absurd h
first-alike n m at (r ∷ rs) (s ∷ ss) h =
    ap₂ (λ (a : ℕ) (gs : List (Option (ℕ × ℕ))). Some (slice_set gs 0 (Some (at, a)))) h.0.same_at h.0.same_groups

-- the preferred match is that of the first run of the core itself, at whichever number
pub preferred-first : (core : Core) (groups : ℕ) (text : List ℕ) (at n : ℕ)
    → preferred core groups text at ≡ option_map (with_whole at) (first (runs text core n (begin at groups)))
unfolding preferred runs
preferred-first core groups text at n =
    first-whole at (runs text core 2 (mark 0 (begin at groups)))
    ∙ first-alike 2 n at _ _ (runs-alike 2 n text core 0 2 n (omega arith) (omega arith) (mark 0 (begin at groups)) (begin at groups)
    (below-alike 2 n 0 at groups (omega arith)))
