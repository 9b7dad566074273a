-- Steps of the search by a stack of alternatives.
use Rattle.std.proofs.Common.{◌≡◌, ℕ, zero, suc, ◌+◌, ◌^◌, ◌<◌, ◌≤◌, Bool, true, false, cond, inl, inr, List, [], ◌∷◌, ◌++◌, length, map, get_or, Option, Some, None, if◌then◌else◌, true≢false, refl, sym, ap, ap₂, ◌∙◌, eq-eqb, append-nil, lit<, arith}
use Rattle.std.specs.Prelude.{◌||◌, drop, replicate, reverse, slice_index, slice_set, option_map, MatchOption}
use Rattle.std.specs.List.{flat_map, AllByRecursion}
use Rattle.std.proofs.Math.Bool.{false-or}
use Rattle.std.proofs.Math.Nat.{pow-le-pow_right, pow-succ', one-le-pow}
use Rattle.std.proofs.lemmas.Bool.{cases_lt, cond-true, cond-false, ne_eqb}
use Rattle.std.proofs.lemmas.Grind.{flat_map-append}
use Rattle.std.proofs.lemmas.List.{map-append, get_or_past, length-set, length-replicate, reverse-append, reverse-reverse}
use Rattle.std.proofs.lemmas.List.Sums.{sum_by-append}
use Rattle.hir_core.specs.Found.{IsOfLeast}
use Rattle.hir_tree.specs.Looks.{holds}
use Rattle.hir_tree.specs.Runs.{Run, begin, moved, mark, is_seen, byte_size, char_size, as_list, first}
use Rattle.hir_tree.specs.RunsLaws.{forget}
use Rattle.hir_program.specs.Program.{spot_at, is_close, is_unmarked, Way, way, marked, opened, closed, follow, unseen, rank, gives, ClosesFall}
use Rattle.hir_core.specs.Pass.{begins, groups_found}
use Rattle.hir_core.specs.StackSearch.{has, members_below, members, Place, place_of, places_of, leads, LiesBefore, IsSound, AllSound, gives_at, first_at, pending, weight, Advances}
use Rattle.hir_core.specs.declared.seen.Seen.{Seen}
use Rattle.hir_program.specs.declared.spot.Spot.{Spot}
use Rattle.hir_core.specs.declared.stack_search.Alternative.{Alternative}
use Rattle.hir_program.specs.declared.spot.Spot.TheVariants as spot
use Rattle.hir_tree.proofs.ListLemmas.{All-append, All-weaker}
use Rattle.hir_tree.proofs.RunsLemmas.{TakesWithin, byte_size-within, char_size-within}
use Rattle.hir_program.proofs.ProgramLemmas.{rank-marked, rank-moved, rank-closed}
use Rattle.hir_program.proofs.PlacedLemmas.{gives-at}
use Rattle.hir_program.proofs.EntryLemmas.{reseen}
use Rattle.hir_core.proofs.PruningLemmas.{extend}

-- the members of a set
other : (n m : ℕ) (seen : List ℕ) → (n ≡ m → ⊥) → is_seen m (n ∷ seen) ≡ is_seen m seen
other n m seen h = ap (λ b. b || is_seen m seen) (ne_eqb n m h) ∙ false-or _

below-kept : (set : Seen) (n m : ℕ) → (n ≡ m → ⊥) → is_seen m (members_below set (suc n)) ≡ is_seen m (members_below set n)
below-kept set n m h = cases (has set n)
  where
    cases : (b : Bool) → is_seen m (if b then n ∷ members_below set n else members_below set n) ≡ is_seen m (members_below set n)
    cases true = other n m _ h
    cases false = refl

below-out : (set : Seen) (n m : ℕ) → n ≤ m → is_seen m (members_below set n) ≡ false
below-out set zero m h = refl
below-out set (suc n) m h = below-kept set n m (λ e. omega arith) ∙ below-out set n m (omega arith)

below-here : (set : Seen) (n : ℕ) → is_seen n (members_below set (suc n)) ≡ has set n
below-here set n = cases (has set n)
  where
    cases : (b : Bool) → is_seen n (if b then n ∷ members_below set n else members_below set n) ≡ b
    cases true = ap (λ b. b || is_seen n (members_below set n)) (eq-eqb n n refl)
    cases false = below-out set n n (omega arith)

below-in : (set : Seen) (n m : ℕ) → m < n → is_seen m (members_below set n) ≡ has set m
below-in set zero m h = absurd (omega arith)
below-in set (suc n) m h =
    elim (cases_lt m n) [
      | inl low ↦ below-kept set n m (λ e. omega arith) ∙ below-in set n m low
      | inr high ↦
          let here : n ≡ m = omega arith in
          ap (λ k. is_seen k (members_below set (suc n))) (sym here) ∙ below-here set n ∙ ap (has set) here
    ]

pub seen-members : (set : Seen) (m : ℕ) → is_seen m (members set) ≡ has set m
unfolding members
seen-members set m =
    elim (cases_lt m (length set.bits.items)) [
      | inl low ↦ below-in set _ m low
      | inr high ↦ below-out set _ m high ∙ sym (get_or_past set.bits.items m false high)
    ]

none-below : (set : Seen) (n : ℕ) → ((m : ℕ) → has set m ≡ false) → members_below set n ≡ []
none-below set zero h = refl
none-below set (suc n) h = cond-false _ _ _ (h n) ∙ none-below set n h

pub members-none : (set : Seen) → ((m : ℕ) → has set m ≡ false) → members set ≡ []
unfolding members
members-none set h = none-below set _ h

below-same : (one two : Seen) (n : ℕ) → one.bits.items ≡ two.bits.items → members_below one n ≡ members_below two n
below-same one two zero e = refl
below-same one two (suc n) e =
    ap₂ (λ (b : Bool) (seen : List ℕ). if b then n ∷ seen else seen) (ap (λ bits. get_or bits n false) e) (below-same one two n e)

pub members-same : (one two : Seen) → one.bits.items ≡ two.bits.items → members one ≡ members two
unfolding members
members-same one two e = below-same one two _ e ∙ ap (λ (bits : List Bool). members_below two (length bits)) e

-- a power of 3 is above two of lower powers
power_falls : (a b : ℕ) → a < b → 3 ^ a + 3 ^ a + 3 ^ a ≤ 3 ^ b
power_falls a b h =
    let more : 3 ^ suc a ≤ 3 ^ b = pow-le-pow_right (lit< tt) h in
    omega (arith, pow-succ' 3 a)

power_pos : (a : ℕ) → 0 < 3 ^ a
power_pos a = one-le-pow a 3 (lit< tt)

-- each place is of lower rank
abbrev AllLower : List ℕ → List Spot → ℕ → List Place → Type 0
AllLower text spots rank_of places = AllByRecursion (λ (p : Place). rank text spots p.0 p.1 < rank_of) places

module _ (text : List ℕ) (spots : List Spot) where
  pub pending-append : (below more : List Place) → pending text spots (below ++ reverse more) ≡ flat_map (gives_at text spots) more ++ pending text spots below
  unfolding pending
  pending-append below more =
      ap (flat_map (gives_at text spots)) (reverse-append below (reverse more) ∙ ap (λ xs. xs ++ reverse below) (reverse-reverse more))
      ∙ flat_map-append (gives_at text spots) more (reverse below)

  pub weight-append : (below more : List Place) → weight text spots (below ++ more) ≡ weight text spots below + weight text spots more
  unfolding weight
  weight-append below more = sum_by-append (λ (p : Place). 3 ^ rank text spots p.0 p.1) below more

  -- at most two places of lower rank weigh less
  weight-lower : (r : ℕ) (places : List Place) → length places ≤ 2 → AllLower text spots r places → weight text spots (reverse places) < 3 ^ r
  unfolding weight
  weight-lower r [] few lower = power_pos r
  weight-lower r (p ∷ []) few lower =
      let one = power_falls _ _ lower.0 in
      let some = power_pos (rank text spots p.0 p.1) in
      omega arith
  weight-lower r (p ∷ q ∷ []) few lower =
      let one = power_falls _ _ lower.0 in
      let two = power_falls _ _ lower.1.0 in
      let some = power_pos (rank text spots p.0 p.1) in
      let more = power_pos (rank text spots q.0 q.1) in
      omega arith
  weight-lower r (p ∷ q ∷ s ∷ rest) few lower = absurd (omega arith)

-- the same are seen
abbrev pub SameSeen : List ℕ → List ℕ → Type 0
SameSeen xs ys = (m : ℕ) → is_seen m xs ≡ is_seen m ys

unseen-same : (n : ℕ) (xs ys : List ℕ) → SameSeen xs ys → unseen n xs ≡ unseen n ys
unseen-same zero xs ys same = refl
unseen-same (suc n) xs ys same = ap₂ (λ (b : Bool) (m : ℕ). (if b then 0 else 1) + m) (same n) (unseen-same n xs ys same)

-- at most two
few-reverse : (P : Place → Type 0) (places : List Place) → length places ≤ 2 → AllByRecursion P places → AllByRecursion P (reverse places)
few-reverse P [] few h = tt
few-reverse P (p ∷ []) few h = h
few-reverse P (p ∷ q ∷ []) few h = (h.1.0, (h.0, tt))
few-reverse P (p ∷ q ∷ s ∷ rest) few h = absurd (omega arith)

-- the places after so many bytes, if they are taken
abbrev pub past : ℕ → Way → Option ℕ → List Place
past f w o = map (λ r. (f, way w.starts r)) (as_list (option_map (λ k. moved k w.run) o))

past-few : (f : ℕ) (w : Way) (o : Option ℕ) → length (past f w o) ≤ 2
past-few f w None = omega arith
past-few f w (Some k) = omega arith

-- so it is of each, where one is set
All-set : {A : Type 0} (P : A → Type 0) (xs : List A) (i : ℕ) (x : A) → AllByRecursion P xs → P x → AllByRecursion P (slice_set xs i x)
All-set P [] i x h k = tt
All-set P (y ∷ ys) zero x h k = (k, h.1)
All-set P (y ∷ ys) (suc i) x h k = (h.0, All-set P ys i x h.1 k)

-- a group that lies before a place lies before a later one
lies_later : (at later : ℕ) (group : Option (ℕ × ℕ)) → at ≤ later → LiesBefore at group → LiesBefore later group
lies_later at later None h k = tt
lies_later at later (Some span) h k = (k.0, omega (arith, k.1))

begun_first : (at : ℕ) (starts : List ℕ) → AllByRecursion (λ start. start ≤ at) starts → slice_index starts 0 ≤ at
begun_first at [] h = omega arith
begun_first at (start ∷ starts) h = h.0

begun_rest : (at : ℕ) (starts : List ℕ) → AllByRecursion (λ start. start ≤ at) starts → AllByRecursion (λ start. start ≤ at) (drop 1 starts)
begun_rest at [] h = tt
begun_rest at (start ∷ starts) h = h.1

-- no group is set
lie_none : (at n : ℕ) → AllByRecursion (LiesBefore at) (replicate n None)
lie_none at zero = tt
lie_none at (suc n) = (tt, lie_none at n)

pub sound-begin : (text : List ℕ) (at groups : ℕ) → at ≤ length text → IsSound text (groups + 1) (way [] (begin at groups))
sound-begin text at groups h = record { within = h; begun = tt; ended = lie_none at (groups + 1); counted = length-replicate (groups + 1) None }

module _ (text : List ℕ) where
  leads-few : (s : Spot) (w : Way) → length (leads text s w) ≤ 2
  leads-few (spot.Bytes f set) w = past-few f w (byte_size set text w.run.at)
  leads-few (spot.Chars f set) w = past-few f w (char_size set text w.run.at)
  leads-few (spot.Look l f) w = cases (holds l text w.run.at)
    where
      cases : (b : Bool) → length {A = Place} (if b then (f, w) ∷ [] else []) ≤ 2
      cases true = omega arith
      cases false = omega arith
  leads-few (spot.Jump f) w = omega arith
  leads-few (spot.Split p q) w = omega arith
  leads-few (spot.Open f) w = omega arith
  leads-few (spot.Close i f) w = omega arith
  leads-few spot.Fail w = omega arith
  leads-few spot.Match w = omega arith

  sound-on : (count : ℕ) (w : Way) (at : ℕ) (seen : List ℕ) → w.run.at ≤ at → at ≤ length text → IsSound text count w
      → IsSound text count (way w.starts (record { at = at; groups = w.run.groups; seen = seen }))
  sound-on count w at seen on within h = record {
    within = within;
    begun = All-weaker (λ start. start ≤ w.run.at) (λ start. start ≤ at) w.starts h.begun (λ start k. omega arith);
    ended = All-weaker (LiesBefore w.run.at) (LiesBefore at) w.run.groups h.ended (λ group k. lies_later w.run.at at group on k);
    counted = h.counted;
  }

  past-sound : (count : ℕ) (size : ℕ → Option ℕ) → TakesWithin text size → (f : ℕ) (w : Way) → IsSound text count w → AllSound text count (past f w (size w.run.at))
  past-sound count size within f w h = cases (size w.run.at) refl
    where
      cases : (o : Option ℕ) → size w.run.at ≡ o → AllSound text count (past f w o)
      cases None e = tt
      cases (Some k) e = (sound-on count w (w.run.at + k) [] (omega arith) ((within w.run.at k e).1) h, tt)

  pub leads-sound : (count : ℕ) (s : Spot) (w : Way) → IsSound text count w → AllSound text count (leads text s w)
  leads-sound count (spot.Bytes f set) w h = past-sound count (byte_size set text) (byte_size-within set text) f w h
  leads-sound count (spot.Chars f set) w h = past-sound count (char_size set text) (char_size-within set text) f w h
  leads-sound count (spot.Look l f) w h = cases (holds l text w.run.at)
    where
      cases : (b : Bool) → AllSound text count (if b then (f, w) ∷ [] else [])
      cases true = (h, tt)
      cases false = tt
  leads-sound count (spot.Jump f) w h = (h, tt)
  leads-sound count (spot.Split p q) w h = (h, (h, tt))
  leads-sound count (spot.Open f) w h = (record { within = h.within; begun = (omega arith, h.begun); ended = h.ended; counted = h.counted }, tt)
  leads-sound count (spot.Close i f) w h = (
    record {
      within = h.within;
      begun = begun_rest w.run.at w.starts h.begun;
      ended = All-set (LiesBefore w.run.at) w.run.groups i (Some (slice_index w.starts 0, w.run.at)) h.ended (begun_first w.run.at w.starts h.begun, omega arith);
      counted = length-set w.run.groups i _ ∙ h.counted;
    },
    tt,
  )
  leads-sound count spot.Fail w h = tt
  leads-sound count spot.Match w h = tt

  -- the room for the bytes that are taken
  pub room : (size : ℕ → Option ℕ) → TakesWithin text size → (at : ℕ) → length text < 2 ^ 64 → MatchOption (size at) Unit (λ k. at + k < 2 ^ 64)
  room size within at small = cases (size at) refl
    where
      cases : (o : Option ℕ) → size at ≡ o → MatchOption o Unit (λ k. at + k < 2 ^ 64)
      cases None e = tt
      cases (Some k) e = let h = (within at k e).1 in omega arith

module _ (text : List ℕ) (spots : List Spot) (falls : ClosesFall spots) where
  rank-same : (p : ℕ) (u v : Way) → u.run.at ≡ v.run.at → SameSeen u.run.seen v.run.seen → rank text spots p u ≡ rank text spots p v
  unfolding rank
  rank-same p u v at same = rw (at, unseen-same (length spots) u.run.seen v.run.seen same) refl

  -- where the same are seen, a spot gives the same
  gives-same : (q : ℕ) (w : Way) (xs : List ℕ) → SameSeen w.run.seen xs → map forget (gives text spots q w) ≡ gives_at text spots (q, reseen xs w)
  gives-same q w xs same = extend text spots falls q w xs (λ m h. sym (same m) ∙ h) (λ m h. inl (same m ∙ h))

  past-gives : (f : ℕ) (w : Way) (o : Option ℕ)
      → map forget (flat_map (λ r. gives text spots f (way w.starts r)) (as_list (option_map (λ k. moved k w.run) o)))
      ≡ flat_map (gives_at text spots) (past f w o)
  past-gives f w None = refl
  past-gives f w (Some k) = ap (map forget) (append-nil _) ∙ sym (append-nil _)

  -- a spot gives what those give to which it leads
  leads-give : (s : Spot) (w : Way) (xs : List ℕ) → SameSeen w.run.seen xs → (s ≡ spot.Match → ⊥)
      → map forget (follow text spots (gives text spots) s w) ≡ flat_map (gives_at text spots) (leads text s (reseen xs w))
  leads-give (spot.Bytes f set) w xs same other = past-gives f w (byte_size set text w.run.at)
  leads-give (spot.Chars f set) w xs same other = past-gives f w (char_size set text w.run.at)
  leads-give (spot.Look l f) w xs same other = cases (holds l text w.run.at)
    where
      cases : (b : Bool) → map forget (cond b (gives text spots f w) []) ≡ flat_map (gives_at text spots) (if b then (f, reseen xs w) ∷ [] else [])
      cases true = gives-same f w xs same ∙ sym (append-nil _)
      cases false = refl
  leads-give (spot.Jump f) w xs same other = gives-same f w xs same ∙ sym (append-nil _)
  leads-give (spot.Split p q) w xs same other =
      map-append forget (gives text spots p w) (gives text spots q w)
      ∙ ap₂ (λ us vs. us ++ vs) (gives-same p w xs same) (gives-same q w xs same ∙ sym (append-nil _))
  leads-give (spot.Open f) w xs same other = gives-same f (opened w) xs same ∙ sym (append-nil _)
  leads-give (spot.Close i f) w xs same other = gives-same f (closed i w) xs same ∙ sym (append-nil _)
  leads-give spot.Fail w xs same other = refl
  leads-give spot.Match w xs same other = absurd (other refl)

  past-lower : (size : ℕ → Option ℕ) → TakesWithin text size → (q f : ℕ) (s : Spot) (w : Way) (xs : List ℕ) → spot_at spots q ≡ s → is_close s ≡ false
      → AllLower text spots (rank text spots q w) (past f (reseen xs w) (size w.run.at))
  past-lower size within q f s w xs e plain = cases (size w.run.at) refl
    where
      cases : (o : Option ℕ) → size w.run.at ≡ o → AllLower text spots (rank text spots q w) (past f (reseen xs w) o)
      cases None k = tt
      cases (Some n) k = (rank-moved text spots q f n s w (way w.starts (moved n w.run)) e plain (within w.run.at n k) refl, tt)

  -- those to which a spot leads that is marked are of lower rank
  leads-lower : (q : ℕ) (s : Spot) (w : Way) (xs : List ℕ) → spot_at spots q ≡ s → is_unmarked s ≡ false → is_seen q w.run.seen ≡ false
      → SameSeen (q ∷ w.run.seen) xs → AllLower text spots (rank text spots q w) (leads text s (reseen xs w))
  leads-lower q s w xs e plain new same = cases s e plain
    where
      on : (t : Spot) → spot_at spots q ≡ t → is_close t ≡ false → (t ≡ spot.Fail → ⊥) → (p : ℕ) (starts : List ℕ)
          → rank text spots p (way starts (reseen xs w).run) < rank text spots q w
      on t at inner other p starts =
          let lower : rank text spots p (way starts (mark q w.run)) < rank text spots q w =
          rank-marked text spots q p t w (way starts (mark q w.run)) at inner other new refl refl in
          rw (← rank-same p (way starts (mark q w.run)) (way starts (reseen xs w).run) refl same) lower

      cases : (t : Spot) → spot_at spots q ≡ t → is_unmarked t ≡ false → AllLower text spots (rank text spots q w) (leads text t (reseen xs w))
      cases (spot.Bytes f set) at u = past-lower (byte_size set text) (byte_size-within set text) q f _ w xs at refl
      cases (spot.Chars f set) at u = past-lower (char_size set text) (char_size-within set text) q f _ w xs at refl
      cases (spot.Look l f) at u = held (holds l text w.run.at)
        where
          held : (b : Bool) → AllLower text spots (rank text spots q w) (if b then (f, reseen xs w) ∷ [] else [])
          held true = (on _ at refl (λ x. cc) f w.starts, tt)
          held false = tt
      cases (spot.Jump f) at u = (on _ at refl (λ x. cc) f w.starts, tt)
      cases (spot.Split p r) at u = (on _ at refl (λ x. cc) p w.starts, (on _ at refl (λ x. cc) r w.starts, tt))
      cases (spot.Open f) at u = (on _ at refl (λ x. cc) f (w.run.at ∷ w.starts), tt)
      cases (spot.Close i f) at u = absurd (true≢false u)
      cases spot.Fail at u = tt
      cases spot.Match at u = absurd (true≢false u)

  -- what comes of places to which a spot leads
  stands : (q : ℕ) (w v : Way) (s : Spot) (below new : List Place) → new ≡ below ++ reverse (leads text s v)
      → map forget (gives text spots q w) ≡ flat_map (gives_at text spots) (leads text s v)
      → AllLower text spots (rank text spots q w) (leads text s v) → ((count : ℕ) → IsSound text count w → IsSound text count v) → Advances text spots (q, w) below None new
  stands q w v s below new pushed same lower sound =
      let few = leads-few text s v in (
        ap (λ xs. xs ++ pending text spots below) same ∙ sym (pending-append text spots below (leads text s v)) ∙ ap (pending text spots) (sym pushed),
        rw (pushed, weight-append text spots below (reverse (leads text s v))) (omega (arith, weight-lower text spots _ _ few lower)),
        (λ count here all. rw pushed (All-append _ below (reverse (leads text s v)) all (few-reverse _ _ few (leads-sound text count s v (sound count here))))),
      )

  -- a spot that is marked
  pub advance-marked : (q : ℕ) (w : Way) (xs : List ℕ) (s : Spot) (below new : List Place) → spot_at spots q ≡ s → is_unmarked s ≡ false
      → is_seen q w.run.seen ≡ false → SameSeen (q ∷ w.run.seen) xs → new ≡ below ++ reverse (leads text s (reseen xs w))
      → Advances text spots (q, w) below None new
  advance-marked q w xs s below new e plain unseen same pushed =
      stands q w (reseen xs w) s below new pushed
      (ap (map forget) (gives-at text spots falls q s w e ∙ cond-false _ _ _ plain ∙ cond-false _ _ _ unseen)
      ∙ leads-give s (marked q w) xs same (λ match. absurd (true≢false (sym (ap is_unmarked match) ∙ plain))))
      (leads-lower q s w xs e plain unseen same)
      (λ count h. record { within = h.within; begun = h.begun; ended = h.ended; counted = h.counted })

  -- the end of a group
  pub advance-close : (q i f : ℕ) (w : Way) (below new : List Place) → spot_at spots q ≡ spot.Close i f
      → new ≡ below ++ reverse (leads text (spot.Close i f) w) → Advances text spots (q, w) below None new
  advance-close q i f w below new e pushed =
      stands q w w (spot.Close i f) below new pushed
      (ap (map forget) (gives-at text spots falls q (spot.Close i f) w e) ∙ leads-give (spot.Close i f) w w.run.seen (λ m. refl) (λ match. cc))
      (rank-closed text spots falls q i f w (closed i w) e refl refl, tt) (λ count h. h)

  -- nothing comes of it
  nothing : (q : ℕ) (w : Way) (below : List Place) → gives text spots q w ≡ [] → Advances text spots (q, w) below None below
  nothing q w below e =
      let some = power_pos (rank text spots q w) in
      (ap (λ xs. map forget xs ++ pending text spots below) e, omega arith, (λ count here all. all))

  both : (b : Bool) → cond b (let no : List Run = [] in no) [] ≡ []
  both true = refl
  both false = refl

  pub advance-past : (q : ℕ) (w : Way) (below : List Place) → length spots ≤ q → Advances text spots (q, w) below None below
  advance-past q w below past = nothing q w below (gives-at text spots falls q spot.Fail w (get_or_past spots q spot.Fail past) ∙ both (is_seen q w.run.seen))

  pub advance-seen : (q : ℕ) (w : Way) (s : Spot) (below : List Place) → spot_at spots q ≡ s → is_unmarked s ≡ false → is_seen q w.run.seen ≡ true
      → Advances text spots (q, w) below None below
  advance-seen q w s below e plain seen =
      nothing q w below (gives-at text spots falls q s w e ∙ cond-false _ _ _ plain ∙ cond-true _ _ _ seen)

  pub advance-match : (q : ℕ) (w : Way) (below new : List Place) → spot_at spots q ≡ spot.Match → Advances text spots (q, w) below (Some (forget w.run)) new
  advance-match q w below new e = (ap (map forget) (gives-at text spots falls q spot.Match w e), refl)

pub unmarked_unless : (s : Spot) → (s ≡ spot.Match → ⊥) → ((i f : ℕ) → s ≡ spot.Close i f → ⊥) → is_unmarked s ≡ false
unmarked_unless (spot.Close i f) m k = absurd (k i f refl)
unmarked_unless (spot.Bytes f set) m k = refl
unmarked_unless (spot.Chars f set) m k = refl
unmarked_unless (spot.Look l f) m k = refl
unmarked_unless (spot.Jump f) m k = refl
unmarked_unless (spot.Split a b) m k = refl
unmarked_unless (spot.Open f) m k = refl
unmarked_unless spot.Fail m k = refl
unmarked_unless spot.Match m k = absurd (m refl)

places-popped : (stack below : List Alternative) (next : Alternative) → stack ≡ below ++ next ∷ [] → places_of stack ≡ places_of below ++ place_of next ∷ []
places-popped stack below next e = ap places_of e ∙ map-append place_of below (next ∷ [])

sound-last : (text : List ℕ) (count : ℕ) (below : List Place) (p : Place) → AllSound text count (below ++ p ∷ []) → AllSound text count below × IsSound text count p.1
sound-last text count [] p h = (tt, h.0)
sound-last text count (q ∷ below) p h = let rest = sound-last text count below p h.1 in ((h.0, rest.0), rest.1)

-- the alternative that was taken off a stack
module _ (text : List ℕ) (spots : List Spot) (stack below : List Alternative) (next : Alternative) (e : stack ≡ below ++ next ∷ []) where
  pub popped-gives : pending text spots (places_of stack) ≡ gives_at text spots (place_of next) ++ pending text spots (places_of below)
  popped-gives =
      ap (pending text spots) (places-popped stack below next e) ∙ pending-append text spots (places_of below) (place_of next ∷ [])
      ∙ ap (λ xs. xs ++ pending text spots (places_of below)) (append-nil _)

  pub popped-weight : weight text spots (places_of stack) ≡ weight text spots (places_of below) + 3 ^ rank text spots next.spot (place_of next).1
  unfolding weight
  popped-weight =
      let same = ap (weight text spots) (places-popped stack below next e) in
      let sum = weight-append text spots (places_of below) (place_of next ∷ []) in
      omega arith

  pub popped-sound : (count : ℕ) → AllSound text count (places_of stack) → AllSound text count (places_of below) × IsSound text count (place_of next).1
  popped-sound count h = sound-last text count (places_of below) (place_of next) (rw (places-popped stack below next e) at h)

pub pending-one : (text : List ℕ) (spots : List Spot) (p : Place) → pending text spots (p ∷ []) ≡ gives_at text spots p
unfolding pending
pending-one text spots p = append-nil _

-- what the groups of the first run hold, whether with what was seen or without
pub first-found : (text : List ℕ) (spots : List Spot) (groups at : ℕ) → option_map (λ r. r.groups) (first_at text spots groups at) ≡ groups_found text spots groups at
first-found text spots groups at = forgotten (begins text spots groups at)
  where
    forgotten : (rs : List Run) → option_map (λ r. r.groups) (first (map forget rs)) ≡ option_map (λ r. r.groups) (first rs)
    forgotten [] = refl
    forgotten (r ∷ rs) = refl

-- what the least place has, of two that have the same
module _ {A B : Type 0} (f : A → B) (each : ℕ → Option A) (other : ℕ → Option B) (from to : ℕ) (same : (at : ℕ) → at ≤ to → option_map f (each at) ≡ other at) where
  none-same : (at : ℕ) → at ≤ to → each at ≡ None → other at ≡ None
  none-same at h e = sym (same at h) ∙ ap (option_map f) e

  pub least-none : IsOfLeast each from to None → IsOfLeast other from to None
  least-none none at lo hi = none-same at hi (none at lo hi)

  pub least-some : (a : A) → IsOfLeast each from to (Some a) → IsOfLeast other from to (Some (f a))
  least-some a h = (
    h.0,
    h.1,
    h.2,
    sym (same h.0 h.2) ∙ ap (option_map f) h.3,
    (λ at lo hi. let within : at ≤ to = omega (arith, h.2) in none-same at within (h.4 at lo hi)),
  )
