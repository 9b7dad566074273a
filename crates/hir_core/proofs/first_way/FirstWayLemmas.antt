-- The first way of a thread.
use Rattle.std.proofs.Common.{◌≡◌, ℕ, zero, suc, ◌+◌, ◌-◌, ◌<◌, ◌≤◌, Bool, true, false, cond, ◌⊎◌, inl, inr, if◌then◌else◌, List, [], ◌∷◌, ◌++◌, length, slice_index, Option, Some, None, refl, sym, ap, ◌∙◌, subst, true≢false, arith}
use Rattle.std.specs.Prelude.{◌||◌, ◌==◌}
use Rattle.std.proofs.lemmas.Bool.{eqb-true}
use Rattle.std.proofs.lemmas.List.Sums.{sum_by-cons}
use Rattle.hir_tree.specs.Looks.{holds}
use Rattle.hir_tree.specs.Runs.{Run, is_seen, byte_size, char_size}
use Rattle.hir_tree.specs.RunsLaws.{forget}
use Rattle.hir_program.specs.Loops.{AreWays, IsRunOver}
use Rattle.hir_program.specs.Masks.{IsDead, is_taker, next_of}
use Rattle.hir_program.specs.Program.{spot_at, is_close, is_unmarked, Way, way, marked, opened, closed, follow, gives, ClosesFall}
use Rattle.hir_program.specs.declared.loops.Ways.{Ways}
use Rattle.hir_program.specs.declared.spot.Spot.{Spot}
use Rattle.hir_program.specs.declared.spot.Spot.TheVariants as spot
use Rattle.hir_program.proofs.EntryLemmas.{gives_new}
use Rattle.hir_program.proofs.PlacedLemmas.{gives-at, gives-close}
use Rattle.hir_program.proofs.ScanLemmas.{gives-dead}
use Rattle.hir_core.specs.FirstWays.{passing, GoesRound, HasFirst}
use Rattle.hir_core.specs.Pass.{counted, first_of, is_counted, leads, leads_on, taken, stops_give}
use Rattle.hir_core.specs.Trails.{Stop, placed_at}
use Rattle.hir_core.proofs.block.BlockTurnLemmas.{NoTaker-more}
use Rattle.hir_core.proofs.block.LoopLemmas.{goes-on}
use Rattle.hir_core.proofs.closure.TurnLemmas.{cons_head, taken_gives}

nothing_else : {A : Type 0} (x : A) (xs : List A) → [] ≡ x ∷ xs → ⊥
nothing_else x xs e = cc

-- the first run stays the first before more
first-more : (xs ys : List Run) (r : Run) → first_of xs ≡ Some r → first_of (xs ++ ys) ≡ Some r
first-more [] ys r e = absurd (let k : None ≡ Some r = e in cc)
first-more (x ∷ xs) ys r e = e

-- a spot whose visits are counted is one of those that have any
pub counted-some : (spots : List Spot) (q : ℕ) → is_counted (spot_at spots q) ≡ true → 0 < counted spots
counted-some [] q e = absurd (true≢false (sym e))
counted-some (s ∷ spots) zero e =
    rw (sum_by-cons (λ (s : Spot). if is_counted s then 1 else 0) s spots) (cases (is_counted s) e)
  where
    cases : (b : Bool) → b ≡ true → 0 < (if b then 1 else 0) + counted spots
    cases true e = omega arith
    cases false e = absurd (true≢false (sym e))
counted-some (s ∷ spots) (suc q) e =
    rw (sum_by-cons (λ (s : Spot). if is_counted s then 1 else 0) s spots) (let some = counted-some spots q e in omega (arith, some))

-- so are those that take bytes
pub taker-counted : (s : Spot) → is_taker s ≡ true → is_counted s ≡ true
taker-counted (spot.Bytes f set) e = refl
taker-counted (spot.Chars f set) e = refl
taker-counted (spot.Look l f) e = refl
taker-counted (spot.Jump f) e = absurd (true≢false (sym e))
taker-counted (spot.Split a b) e = refl
taker-counted (spot.Open f) e = absurd (true≢false (sym e))
taker-counted (spot.Close i f) e = absurd (true≢false (sym e))
taker-counted spot.Fail e = absurd (true≢false (sym e))
taker-counted spot.Match e = absurd (true≢false (sym e))

-- what was passed plays no part where bytes are taken
taken-as : (o : Option ℕ) (f : ℕ) (w : Way) → taken o f (way w.starts (forget w.run)) ≡ taken o f w
taken-as None f w = refl
taken-as (Some bytes) f w = refl

-- where no bytes are taken the place stays
pub lead-stays : (text : List ℕ) (s : Spot) (w v : Way) (p : ℕ) (rest : List Stop) → leads text s w ≡ (p, v) ∷ rest → v.run.at ≡ w.run.at
lead-stays text (spot.Jump f) w v p rest e = ap (λ (x : Stop). x.1.run.at) (sym (cons_head e))
lead-stays text (spot.Open f) w v p rest e = ap (λ (x : Stop). x.1.run.at) (sym (cons_head e))
lead-stays text (spot.Close i f) w v p rest e = ap (λ (x : Stop). x.1.run.at) (sym (cons_head e))
lead-stays text (spot.Split a b) w v p rest e = ap (λ (x : Stop). x.1.run.at) (sym (cons_head e))
lead-stays text (spot.Look l f) w v p rest e = cases (holds l text w.run.at) e
  where
    cases : (b : Bool) → (if b then (f, w) ∷ [] else []) ≡ (p, v) ∷ rest → v.run.at ≡ w.run.at
    cases true e = ap (λ (x : Stop). x.1.run.at) (sym (cons_head e))
    cases false e = absurd (nothing_else _ _ e)
lead-stays text (spot.Bytes f set) w v p rest e = absurd (nothing_else _ _ e)
lead-stays text (spot.Chars f set) w v p rest e = absurd (nothing_else _ _ e)
lead-stays text spot.Fail w v p rest e = absurd (nothing_else _ _ e)
lead-stays text spot.Match w v p rest e = absurd (nothing_else _ _ e)

module _ (text : List ℕ) (spots : List Spot) (falls : ClosesFall spots) where
  -- where nothing was passed
  pub first-anew : (thread : Option Run) (bar q : ℕ) (w : Way) → ((r : Run) → first_of (gives text spots q (passing [] w)) ≡ Some r → thread ≡ Some r)
      → HasFirst text spots thread bar (q, w)
  first-anew thread bar q w h = record {
    passed = [];
    below = λ m seen. absurd (true≢false (sym seen));
    calm = λ m seen. absurd (true≢false (sym seen));
    first = h;
  }

  -- at the end of a match
  pub first-match : (thread : Option Run) (bar q : ℕ) (w : Way) → HasFirst text spots thread bar (q, w) → spot_at spots q ≡ spot.Match
      → thread ≡ Some (forget w.run)
  first-match thread bar q w h k = h.first (forget w.run) (ap first_of (gives-at text spots falls q spot.Match (passing h.passed w) k))

  module _ (thread : Option Run) (bar q : ℕ) (w : Way) (h : HasFirst text spots thread bar (q, w)) where
    abbrev here : Way
    here = passing h.passed w

    -- a spot from the bar on was not passed
    unpassed : bar ≤ q → is_seen q h.passed ≡ false
    unpassed high = cases (is_seen q h.passed) refl
      where
        cases : (b : Bool) → is_seen q h.passed ≡ b → b ≡ false
        cases true e = absurd (let low = h.below q e in omega (arith, high, low))
        cases false e = refl

    -- nor one that takes bytes
    untaken : is_taker (spot_at spots q) ≡ true → is_seen q h.passed ≡ false
    untaken taker = cases (is_seen q h.passed) refl
      where
        cases : (b : Bool) → is_seen q h.passed ≡ b → b ≡ false
        cases true e = absurd (true≢false (sym taker ∙ h.calm q e))
        cases false e = refl

    -- the spot is passed
    passes : bar ≤ q → is_taker (spot_at spots q) ≡ false → (p : ℕ) (v : Way)
        → ((r : Run) → first_of (gives text spots p (passing (q ∷ h.passed) v)) ≡ Some r → first_of (gives text spots q here) ≡ Some r)
        → HasFirst text spots thread (q + 1) (p, v)
    passes high calm p v k = record {
      passed = q ∷ h.passed;
      below = λ m seen. under m (q == m) refl seen;
      calm = NoTaker-more text spots falls 0 0 q h.passed calm h.calm;
      first = λ r e. h.first r (k r e);
    }
      where
        under : (m : ℕ) (b : Bool) → (q == m) ≡ b → (b || is_seen m h.passed) ≡ true → m < q + 1
        under m true same e = let k : q ≡ m = eqb-true q m same in omega (arith, k)
        under m false same e = let low = h.below m e in omega (arith, high, low)

    -- bytes are taken
    pub first-take : (next bytes : ℕ) → is_taker (spot_at spots q) ≡ true → next_of (spot_at spots q) ≡ next
        → leads_on text (spot_at spots q) w ≡ taken (Some bytes) (next_of (spot_at spots q)) w → (bar' : ℕ)
        → HasFirst text spots thread bar' (next, placed_at (w.run.at + bytes) w)
    first-take next bytes taker to onto bar' =
        first-anew thread bar' next (placed_at (w.run.at + bytes) w) (λ r e. h.first r (ap first_of (cases (spot_at spots q) refl taker to onto) ∙ first-more _ [] r e))
      where
        after : List Run
        after = gives text spots next (passing [] (placed_at (w.run.at + bytes) w)) ++ []

        on : (s : Spot) (f : ℕ) (o : Option ℕ) → spot_at spots q ≡ s → is_unmarked s ≡ false → f ≡ next
            → follow text spots (gives text spots) s (marked q here) ≡ stops_give text spots (taken o f (way w.starts (forget w.run))) → taken o f w ≡ taken (Some bytes) f w
            → gives text spots q here ≡ after
        on s f o k plain to same one =
            gives_new text spots falls q s here k plain (untaken taker) ∙ same ∙ ap (stops_give text spots) (taken-as o f w ∙ one)
            ∙ ap (λ (p : ℕ). gives text spots p (passing [] (placed_at (w.run.at + bytes) w)) ++ []) to

        cases : (s : Spot) → spot_at spots q ≡ s → is_taker s ≡ true → next_of s ≡ next → leads_on text s w ≡ taken (Some bytes) (next_of s) w
            → gives text spots q here ≡ after
        cases (spot.Bytes f set) k taker to onto =
            on (spot.Bytes f set) f (byte_size set text w.run.at) k refl to (taken_gives text spots falls w.run.at (byte_size set text w.run.at) f q here) onto
        cases (spot.Chars f set) k taker to onto =
            on (spot.Chars f set) f (char_size set text w.run.at) k refl to (taken_gives text spots falls w.run.at (char_size set text w.run.at) f q here) onto
        cases (spot.Look l f) k taker to onto = absurd (true≢false (sym taker))
        cases (spot.Jump f) k taker to onto = absurd (true≢false (sym taker))
        cases (spot.Split a b) k taker to onto = absurd (true≢false (sym taker))
        cases (spot.Open f) k taker to onto = absurd (true≢false (sym taker))
        cases (spot.Close i f) k taker to onto = absurd (true≢false (sym taker))
        cases spot.Fail k taker to onto = absurd (true≢false (sym taker))
        cases spot.Match k taker to onto = absurd (true≢false (sym taker))

    -- the first of two ways is gone, or the second where the first gives nothing
    pub first-split : (a b on : ℕ) → spot_at spots q ≡ spot.Split a b → bar ≤ q
        → (on ≡ a) ⊎ ((on ≡ b) × IsDead text spots w.run.at a) → HasFirst text spots thread (q + 1) (on, w)
    first-split a b on k high which =
        passes high (ap is_taker k) on w (λ r e. ap first_of (gives_new text spots falls q (spot.Split a b) here k refl (unpassed high)) ∙ elim which [
          | inl first ↦ first-more (gives text spots a (marked q here)) (gives text spots b (marked q here)) r (ap (λ (p : ℕ). first_of (gives text spots p (marked q here))) (sym first) ∙ e)
          | inr second ↦
              ap (λ (xs : List Run). first_of (xs ++ gives text spots b (marked q here))) (gives-dead text spots w.run.at a (marked q here) refl second.1)
              ∙ ap (λ (p : ℕ). first_of (gives text spots p (marked q here))) (sym second.0) ∙ e
        ])

    -- the only way is gone
    pub first-lead : (s : Spot) → spot_at spots q ≡ s → (p : ℕ) (v : Way) (rest : List Stop) → leads text s w ≡ (p, v) ∷ rest
        → (is_close s ≡ true) ⊎ (bar ≤ q) → (bar' : ℕ) → (is_close s ≡ true → bar' ≡ bar) → (is_close s ≡ false → bar' ≡ q + 1)
        → HasFirst text spots thread bar' (p, v)
    first-lead s k p v rest onto high bar' end plain = cases s k onto high end plain
      where
        -- at an end of a group
        ended : (i f : ℕ) → spot_at spots q ≡ spot.Close i f → ◌≡◌ {A = Stop} (f, closed i w) (p, v) → bar' ≡ bar → HasFirst text spots thread bar' (p, v)
        ended i f k same e =
            subst (λ (x : Stop). HasFirst text spots thread bar' x) same
            (subst (λ (n : ℕ). HasFirst text spots thread n (f, closed i w)) (sym e)
            (record { passed = h.passed; below = h.below; calm = h.calm; first = λ r e. h.first r (ap first_of (gives-close text spots falls q i f here k) ∙ e) }))

        -- elsewhere
        on : (s : Spot) → spot_at spots q ≡ s → is_unmarked s ≡ false → is_taker s ≡ false → is_close s ≡ false → (f : ℕ) (u : Way)
            → ((r : Run) → first_of (gives text spots f (passing (q ∷ h.passed) u)) ≡ Some r → first_of (follow text spots (gives text spots) s (marked q here)) ≡ Some r)
            → ◌≡◌ {A = Stop} (f, u) (p, v) → (is_close s ≡ true) ⊎ (bar ≤ q) → bar' ≡ q + 1 → HasFirst text spots thread bar' (p, v)
        on s k new calm plain_here f u goes same (inl close) e = absurd (true≢false (sym close ∙ plain_here))
        on s k new calm plain_here f u goes same (inr high) e =
            subst (λ (x : Stop). HasFirst text spots thread bar' x) same
            (subst (λ (n : ℕ). HasFirst text spots thread n (f, u)) (sym e)
            (passes high (ap is_taker k ∙ calm) f u (λ r first. ap first_of (gives_new text spots falls q s here k new (unpassed high)) ∙ goes r first)))

        cases : (s : Spot) → spot_at spots q ≡ s → leads text s w ≡ (p, v) ∷ rest → (is_close s ≡ true) ⊎ (bar ≤ q)
            → (is_close s ≡ true → bar' ≡ bar) → (is_close s ≡ false → bar' ≡ q + 1) → HasFirst text spots thread bar' (p, v)
        cases (spot.Close i f) k onto high end plain = ended i f k (cons_head onto) (end refl)
        cases (spot.Jump f) k onto high end plain = on (spot.Jump f) k refl refl refl f w (λ r e. e) (cons_head onto) high (plain refl)
        cases (spot.Open f) k onto high end plain = on (spot.Open f) k refl refl refl f (opened w) (λ r e. e) (cons_head onto) high (plain refl)
        cases (spot.Split a b) k onto high end plain =
            on (spot.Split a b) k refl refl refl a w (λ r e. first-more (gives text spots a (marked q here)) (gives text spots b (marked q here)) r e)
            (cons_head onto) high (plain refl)
        cases (spot.Look l f) k onto high end plain = looked (holds l text w.run.at) refl onto
          where
            looked : (b : Bool) → holds l text w.run.at ≡ b → cond b ((f, w) ∷ []) [] ≡ (p, v) ∷ rest → HasFirst text spots thread bar' (p, v)
            looked true is same =
                on (spot.Look l f) k refl refl refl f w (λ r e. ap (λ (b : Bool). first_of (cond b (gives text spots f (marked q here)) [])) is ∙ e)
                (cons_head same) high (plain refl)
            looked false is same = absurd (nothing_else _ _ same)
        cases (spot.Bytes f set) k onto high end plain = absurd (nothing_else _ _ onto)
        cases (spot.Chars f set) k onto high end plain = absurd (nothing_else _ _ onto)
        cases spot.Fail k onto high end plain = absurd (nothing_else _ _ onto)
        cases spot.Match k onto high end plain = absurd (nothing_else _ _ onto)

  -- at the end of a group behind which a match ends
  pub first-end : (thread : Option Run) (bar q : ℕ) (w : Way) → HasFirst text spots thread bar (q, w) → (i f : ℕ) → spot_at spots q ≡ spot.Close i f
      → spot_at spots f ≡ spot.Match → thread ≡ Some (forget (closed i w).run)
  first-end thread bar q w h i f k end =
      first-match thread bar f (closed i w)
      (first-lead thread bar q w h (spot.Close i f) k f (closed i w) [] refl (inl refl) bar (λ close. refl) (λ plain. absurd (true≢false plain))) end

  -- a loop goes round by a byte
  first-round : (thread : Option Run) (bar q : ℕ) (ways : Ways) (w : Way) → AreWays spots q ways → bar ≤ q → w.run.at < length text
      → IsRunOver spots ways (slice_index text w.run.at) → HasFirst text spots thread bar (q, w) → HasFirst text spots thread bar (q, placed_at (w.run.at + 1) w)
  first-round thread bar q ways w are high within byte h =
      let t : Way = passing h.passed w in
      let more = goes-on text spots falls q ways t are within byte 0 0 h.calm in
      first-anew thread bar q (placed_at (w.run.at + 1) w)
      (λ r e. h.first r (ap first_of (gives_new text spots falls q (spot_at spots q) t refl (plain (spot_at spots q) refl) (unpassed thread bar q w h high) ∙ more.1)
      ∙ first-more _ more.0 r e))
    where
      plain : (s : Spot) → spot_at spots q ≡ s → is_unmarked s ≡ false
      plain s k = elim are.sides [
        | inl split ↦ ap is_unmarked (sym k ∙ split)
        | inr split ↦ ap is_unmarked (sym k ∙ split.0)
      ]

  -- so it does by several
  first-rounds : (n : ℕ) (thread : Option Run) (bar q : ℕ) (ways : Ways) (w : Way) → AreWays spots q ways → bar ≤ q → w.run.at + n ≤ length text
      → ((at : ℕ) → w.run.at ≤ at → at < w.run.at + n → IsRunOver spots ways (slice_index text at))
      → HasFirst text spots thread bar (q, placed_at w.run.at w) → HasFirst text spots thread bar (q, placed_at (w.run.at + n) w)
  first-rounds zero thread bar q ways w are high within bytes h = subst (λ (i : ℕ). HasFirst text spots thread bar (q, placed_at i w)) (let k : w.run.at ≡ w.run.at + 0 = omega arith in k) h
  first-rounds (suc n) thread bar q ways w are high within bytes h =
      subst (λ (i : ℕ). HasFirst text spots thread bar (q, placed_at i w)) (let k : (w.run.at + n) + 1 ≡ w.run.at + suc n = omega arith in k)
      (first-round thread bar q ways (placed_at (w.run.at + n) w) are high (omega (arith, within)) (bytes (w.run.at + n) (omega arith) (omega arith))
      (first-rounds n thread bar q ways w are high (omega (arith, within)) (λ at from to. bytes at from (omega (arith, to))) h))

  pub first-goes_round : (thread : Option Run) (bar q to : ℕ) (w : Way) → w.run.seen ≡ [] → bar ≤ q → to ≤ length text → w.run.at ≤ to → GoesRound text spots q w.run.at to
      → HasFirst text spots thread bar (q, w) → HasFirst text spots thread bar (q, placed_at to w)
  first-goes_round thread bar q to w fresh high within forward goes h = elim goes [
    | inl stays ↦ subst (λ (i : ℕ). HasFirst text spots thread bar (q, placed_at i w)) stays same
    | inr round ↦
        let n : ℕ = to - w.run.at in
        let k : w.run.at + n ≡ to = omega arith in
        subst (λ (i : ℕ). HasFirst text spots thread bar (q, placed_at i w)) k
        (first-rounds n thread bar q round.0 w round.1 high (omega (arith, k, within)) (λ at from up. round.2 at from (omega (arith, k, up))) same)
  ]
    where
      same : HasFirst text spots thread bar (q, placed_at w.run.at w)
      same = record { passed = h.passed; below = h.below; calm = h.calm; first = h.first }
