-- One turn of the search of a place.
use Rattle.std.proofs.Common.{◌≡◌, ℕ, ◌+◌, ◌*◌, ◌<◌, ◌≤◌, Bool, true, false, cond, ◌⊎◌, inl, inr, List, [], ◌∷◌, ◌++◌, length, map, Option, Some, None, if◌then◌else◌, refl, sym, ap, ◌∙◌, subst, true≢false, append-nil, append_assoc, eq-eqb, arith}
use Rattle.std.specs.Prelude.{◌||◌, ◌&&◌, not, slice_set, option_map}
use Rattle.std.specs.Option.{option_or}
use Rattle.std.specs.List.{flat_map, sum_by, AllByRecursion}
use Rattle.std.proofs.Math.Bool.{and-false}
use Rattle.std.proofs.lemmas.Bool.{cases_lt, cases_eq, or_left, ne_eqb}
use Rattle.std.proofs.lemmas.Grind.{flat_map-append}
use Rattle.std.proofs.lemmas.List.{map-append, get_or_past, get_or-set_same, get_or-set_other, set-get_or, set_past, length-set}
use Rattle.std.proofs.lemmas.List.Sums.{sum_by-set}
use Rattle.hir_tree.specs.Looks.{holds}
use Rattle.hir_tree.specs.Runs.{Run, moved, mark, is_seen, byte_size, char_size, as_list}
use Rattle.hir_tree.specs.RunsLaws.{forget}
use Rattle.hir_program.specs.Program.{spot_at, is_close, is_unmarked, Way, way, marked, opened, closed, follow, gives, ClosesFall, some_run}
use Rattle.hir_core.specs.Trails.{Stop}
use Rattle.hir_core.specs.Pass.{AllLater, first_of, taken, leads, leads_on, comes, ends_match, fresh, keeps, was_visited, visiting, stop_gives, stops_give, Spent, TurnedTo}
use Rattle.hir_program.specs.declared.spot.Spot.{Spot}
use Rattle.hir_program.specs.declared.spot.Spot.TheVariants as spot
use Rattle.hir_tree.proofs.ListLemmas.{All-append}
use Rattle.hir_tree.proofs.RunsLemmas.{TakesWithin, byte_size-within, char_size-within}
use Rattle.hir_program.proofs.ProgramLemmas.{not_fail}
use Rattle.hir_core.proofs.closure.ClosureLemmas.{Entry, entry, nonempty, nonempty-append, pend, Children}
use Rattle.hir_core.proofs.closure.EndLemmas.{AreOwn, AreOwn-below, Ends, Ends-on, Ends-spent, ended-all, ended-entry, is_own, own_below, own_of, own_plain, was_own}
use Rattle.hir_program.proofs.PlacedLemmas.{gives-at}
use Rattle.hir_core.proofs.pass.PassLemmas.{Stands, Stands-answered, Stands-dropped, Stands-seen, Stands-led, Stands-kept, Stands-closed, Stands-match, Stands-begin, Stands-end, nowhere}

-- where a spot leads without a byte
abbrev pub led_to : List ℕ → Spot → Way → List Entry
led_to text (spot.Jump f) t = entry f t ∷ []
led_to text (spot.Split a b) t = entry a t ∷ entry b t ∷ []
led_to text (spot.Open f) t = entry f (opened t) ∷ []
led_to text (spot.Close i f) t = entry f (closed i t) ∷ []
led_to text (spot.Look l f) t = if holds l text t.run.at then entry f t ∷ [] else []
led_to text _ t = []

-- an entry without what its path saw
abbrev pub bare : Entry → Stop
bare e = (e.spot, way e.way.starts (forget e.way.run))

-- the spot that is tried next
abbrev pub IsFirst : List Stop → ℕ → Type 0
IsFirst [] q = ⊥
IsFirst (p ∷ ps) q = p.0 ≡ q

pub cons_not_nil : {A : Type 0} (x : A) (xs : List A) → x ∷ xs ≡ [] → ⊥
cons_not_nil x xs e = cc

pub cons_head : {A : Type 0} {x y : A} {xs ys : List A} → x ∷ xs ≡ y ∷ ys → x ≡ y
cons_head e = cc

pub cons_tail : {A : Type 0} {x y : A} {xs ys : List A} → x ∷ xs ≡ y ∷ ys → xs ≡ ys
cons_tail e = cc

-- these spots were visited, by the bits, but for ends of groups
abbrev pub AreBits : List Spot → List Bool → List ℕ → Type 0
AreBits spots bits visited = AreOwn spots (was_visited bits) visited

pub some_run-nonempty : (runs : List Run) → some_run runs ≡ nonempty runs
some_run-nonempty [] = refl
some_run-nonempty (r ∷ runs) = refl

-- a spot that was visited stays so
pub visited_again : (bits : List Bool) (q : ℕ) → was_visited bits q ≡ true → slice_set bits q true ≡ bits
visited_again bits q e = ap (λ b. slice_set bits q b) (sym e) ∙ set-get_or bits q false

-- a spot that doesn't end a match
pub goes_on : (s : Spot) → ((s ≡ spot.Match) → ⊥) → ends_match s ≡ false
goes_on spot.Match live = absurd (live refl)
goes_on _ live = refl

-- a mark that is set stays so where one is set
pub set_stays : (marks : List Bool) (q mark : ℕ) → was_visited marks mark ≡ true → was_visited (slice_set marks q true) mark ≡ true
set_stays marks q mark is = elim (cases_eq mark q) [
  | inl same ↦ ap (λ bits. was_visited bits mark) (visited_again marks q (ap (was_visited marks) (sym same) ∙ is)) ∙ is
  | inr another ↦ get_or-set_other marks q mark true false another ∙ is
]

module _ (spots : List Spot) (bits : List Bool) (visited : List ℕ) (q : ℕ) where
  -- another spot stays as it was
  bits_other : (m : ℕ) → (m ≡ q → ⊥) → is_own spots (was_visited (slice_set bits q true)) m ≡ is_own spots (was_visited bits) m
  bits_other m other = ap (λ (b : Bool). b && not (is_close (spot_at spots m))) (get_or-set_other bits q m true false other)

  -- a spot more
  AreBits-more : q < length bits → is_close (spot_at spots q) ≡ false → AreBits spots bits visited → AreBits spots (slice_set bits q true) (q ∷ visited)
  AreBits-more lt plain are m =
      elim (cases_eq m q) [
        | inl same ↦ or_left _ _ (eq-eqb q m (sym same))
            ∙ sym (ap (is_own spots (was_visited (slice_set bits q true))) same
            ∙ ap (λ (b : Bool). b && not (is_close (spot_at spots q))) (get_or-set_same bits q true false lt) ∙ ap not plain)
        | inr other ↦ ap (λ b. b || is_seen m visited) (ne_eqb q m (λ e. other (sym e))) ∙ are m ∙ sym (bits_other m other)
      ]

  -- the end of a group is none of them
  AreBits-ended : is_close (spot_at spots q) ≡ true → AreBits spots bits visited → AreBits spots (slice_set bits q true) visited
  AreBits-ended close are m =
      elim (cases_eq m q) [
        | inl same ↦ are m ∙ not_own (was_visited bits) m same ∙ sym (not_own (was_visited (slice_set bits q true)) m same)
        | inr other ↦ are m ∙ sym (bits_other m other)
      ]
    where
      not_own : (test : ℕ → Bool) (m : ℕ) → m ≡ q → is_own spots test m ≡ false
      not_own test m same = ap (λ i. test m && not (is_close (spot_at spots i))) same ∙ ap (λ b. test m && not b) close ∙ and-false (test m)

module _ (text : List ℕ) (spots : List Spot) (falls : ClosesFall spots) (at : ℕ) where
  -- what holds of ends of groups that were visited
  abbrev pub EndsIn : List Bool → List Stop → List Stop → Type 0
  EndsIn bits kept stack = Ends text spots falls at (was_visited bits) (nonempty (flat_map (stop_gives text spots) kept)) (IsFirst stack)

  -- What the search of a place keeps true.
  pub record Closing (goal : Option Run) (bits : List Bool) (kept stack : List Stop) : Type 0 where
    pub visited : List ℕ
    pub entries : List Entry
    pub are_bits : AreBits spots bits visited
    pub are_stack : map bare entries ≡ stack
    pub stands : Stands text spots falls at goal visited (flat_map (stop_gives text spots) kept) (entries ++ nowhere text spots falls at ∷ [])

  -- the spot of an entry leads where it says, once what its path saw is left out
  pub led_bare : (s : Spot) (e : Entry) → map bare (led_to text s (marked e.spot e.way)) ≡ leads text s (bare e).1
  led_bare (spot.Look l f) e = cases (holds l text e.way.run.at)
    where
      cases : (b : Bool) → map bare (if b then entry f (marked e.spot e.way) ∷ [] else []) ≡ (if b then (f, (bare e).1) ∷ [] else [])
      cases true = refl
      cases false = refl
  led_bare (spot.Jump f) e = refl
  led_bare (spot.Split a b) e = refl
  led_bare (spot.Open f) e = refl
  led_bare (spot.Close i f) e = refl
  led_bare (spot.Bytes f set) e = refl
  led_bare (spot.Chars f set) e = refl
  led_bare spot.Fail e = refl
  led_bare spot.Match e = refl

  pub led_children : (s : Spot) (e : Entry) → e.way.run.at ≡ at → Children text spots falls at e (led_to text s (marked e.spot e.way))
  led_children (spot.Look l f) e here = cases (holds l text e.way.run.at)
    where
      cases : (b : Bool) → AllByRecursion (λ (x : Entry). (x.way.run.at ≡ at) × (x.way.run.seen ≡ e.spot ∷ e.way.run.seen)) (if b then entry f (marked e.spot e.way) ∷ [] else [])
      cases true = ((here, refl), tt)
      cases false = tt
  led_children (spot.Jump f) e here = ((here, refl), tt)
  led_children (spot.Split a b) e here = ((here, refl), ((here, refl), tt))
  led_children (spot.Open f) e here = ((here, refl), tt)
  led_children (spot.Close i f) e here = ((here, refl), tt)
  led_children (spot.Bytes f set) e here = tt
  led_children (spot.Chars f set) e here = tt
  led_children spot.Fail e here = tt
  led_children spot.Match e here = tt

  -- what is kept at a spot gives what follows its bytes, and what comes of it the rest
  pub taken_gives : (o : Option ℕ) (f q : ℕ) (w : Way)
      → flat_map (λ r. gives text spots f (way w.starts r)) (as_list (option_map (λ k. moved k (mark q w.run)) o))
      ≡ flat_map (stop_gives text spots) (taken o f (way w.starts (forget w.run)))
  taken_gives None f q w = refl
  taken_gives (Some k) f q w = refl

  -- An entry at a spot that marks itself, which is new
  closing_new : (goal : Option Run) (bits : List Bool) (kept : List Stop) (visited : List ℕ) (e : Entry) (es : List Entry) (s : Spot)
      → spot_at spots e.spot ≡ s → is_unmarked s ≡ false → e.spot < length bits → AreBits spots bits visited → was_visited bits e.spot ≡ false
      → Stands text spots falls at goal visited (flat_map (stop_gives text spots) kept) (e ∷ (es ++ nowhere text spots falls at ∷ []))
      → Closing goal (slice_set bits e.spot true) (kept ++ leads_on text s (bare e).1) (leads text s (bare e).1 ++ map bare es)
  closing_new goal bits kept visited e es s k plain lt are new h = cases s k plain
    where
      unseen : is_seen e.spot visited ≡ false
      unseen = are e.spot ∙ ap (λ (b : Bool). b && not (is_close (spot_at spots e.spot))) new

      not_close : is_close (spot_at spots e.spot) ≡ false
      not_close = ap is_close k ∙ own_plain text spots falls at s plain

      onward : (s : Spot) → spot_at spots e.spot ≡ s → is_unmarked s ≡ false → leads_on text s (bare e).1 ≡ []
          → follow text spots (gives text spots) s (marked e.spot e.way) ≡ pend text spots falls at (led_to text s (marked e.spot e.way))
          → Closing goal (slice_set bits e.spot true) (kept ++ leads_on text s (bare e).1) (leads text s (bare e).1 ++ map bare es)
      onward s k plain none_kept same = record {
        visited = e.spot ∷ visited;
        entries = led_to text s (marked e.spot e.way) ++ es;
        are_bits = AreBits-more spots bits visited e.spot lt not_close are;
        are_stack = map-append bare (led_to text s (marked e.spot e.way)) es ∙ ap (λ xs. xs ++ map bare es) (led_bare s e);
        stands =
            subst (λ xs. Stands text spots falls at goal (e.spot ∷ visited) (flat_map (stop_gives text spots) xs) ((led_to text s (marked e.spot e.way) ++ es) ++ nowhere text spots falls at ∷ []))
            (sym (append-nil kept) ∙ ap (λ xs. kept ++ xs) (sym none_kept))
            (subst (λ xs. Stands text spots falls at goal (e.spot ∷ visited) (flat_map (stop_gives text spots) kept) xs)
            (sym (append_assoc (led_to text s (marked e.spot e.way)) es (nowhere text spots falls at ∷ [])))
            (Stands-led text spots falls at goal visited (flat_map (stop_gives text spots) kept) e (es ++ nowhere text spots falls at ∷ []) (led_to text s (marked e.spot e.way)) s
            k plain unseen (led_children s e h.0.0) same h));
      }

      onto : (s : Spot) (on : List Stop) → spot_at spots e.spot ≡ s → is_unmarked s ≡ false
          → follow text spots (gives text spots) s (marked e.spot e.way) ≡ flat_map (stop_gives text spots) on
          → Closing goal (slice_set bits e.spot true) (kept ++ on) (map bare es)
      onto s on k plain same = record {
        visited = e.spot ∷ visited;
        entries = es;
        are_bits = AreBits-more spots bits visited e.spot lt not_close are;
        are_stack = refl;
        stands =
            subst (λ xs. Stands text spots falls at goal (e.spot ∷ visited) xs (es ++ nowhere text spots falls at ∷ []))
            (sym (flat_map-append (stop_gives text spots) kept on))
            (Stands-kept text spots falls at goal visited (flat_map (stop_gives text spots) kept) (flat_map (stop_gives text spots) on) e (es ++ nowhere text spots falls at ∷ []) s
            k plain unseen same h);
      }

      look_same : (f : ℕ) (b : Bool) → cond b (gives text spots f (marked e.spot e.way)) []
          ≡ pend text spots falls at (if b then entry f (marked e.spot e.way) ∷ [] else [])
      look_same f true = sym (append-nil _)
      look_same f false = refl

      cases : (s : Spot) → spot_at spots e.spot ≡ s → is_unmarked s ≡ false
          → Closing goal (slice_set bits e.spot true) (kept ++ leads_on text s (bare e).1) (leads text s (bare e).1 ++ map bare es)
      cases (spot.Bytes f set) k plain = onto (spot.Bytes f set) _ k plain (taken_gives (byte_size set text e.way.run.at) f e.spot e.way)
      cases (spot.Chars f set) k plain = onto (spot.Chars f set) _ k plain (taken_gives (char_size set text e.way.run.at) f e.spot e.way)
      cases (spot.Look l f) k plain = onward (spot.Look l f) k plain refl (look_same f (holds l text e.way.run.at))
      cases (spot.Jump f) k plain = onward (spot.Jump f) k plain refl (sym (append-nil _))
      cases (spot.Split a b) k plain =
          onward (spot.Split a b) k plain refl (ap (λ xs. gives text spots a (marked e.spot e.way) ++ xs) (sym (append-nil _)))
      cases (spot.Open f) k plain = onward (spot.Open f) k plain refl (sym (append-nil _))
      cases (spot.Close i f) k plain = absurd (true≢false plain)
      cases spot.Fail k plain = onward spot.Fail k plain refl refl
      cases spot.Match k plain = absurd (true≢false plain)

  pub gives_fail : (e : Entry) → spot_at spots e.spot ≡ spot.Fail → gives text spots e.spot e.way ≡ []
  gives_fail e k = gives-at text spots falls e.spot spot.Fail e.way k ∙ both (is_seen e.spot e.way.run.seen)
    where
      both : (b : Bool) → cond b [] (follow text spots (gives text spots) spot.Fail (marked e.spot e.way)) ≡ []
      both true = refl
      both false = refl

  -- an entry gives way to what its spot leads to
  closing_entry : (goal : Option Run) (bits : List Bool) (kept : List Stop) (visited : List ℕ) (e : Entry) (es : List Entry) → length bits ≡ length spots
      → ((i f : ℕ) → spot_at spots e.spot ≡ spot.Close i f → was_visited bits e.spot ≡ true
      → (nonempty (flat_map (stop_gives text spots) kept) ≡ true) ⊎ (gives text spots e.spot e.way ≡ []))
      → AreBits spots bits visited → Stands text spots falls at goal visited (flat_map (stop_gives text spots) kept) (e ∷ (es ++ nowhere text spots falls at ∷ []))
      → (s : Spot) → spot_at spots e.spot ≡ s → (s ≡ spot.Match → ⊥) → (seen : Bool) → was_visited bits e.spot ≡ seen
      → Closing goal (visiting s e.spot bits) (kept ++ keeps text s seen (bare e).1) (comes text s seen (bare e).1 ++ map bare es)
  closing_entry goal bits kept visited e es room over are h = cases
    where
      -- without a mark, and nothing kept
      same_kept : (xs : List Entry) → Stands text spots falls at goal visited (flat_map (stop_gives text spots) kept) (xs ++ nowhere text spots falls at ∷ [])
          → Closing goal bits (kept ++ []) (map bare xs)
      same_kept xs st = record {
        visited = visited;
        entries = xs;
        are_bits = are;
        are_stack = refl;
        stands = subst (λ ks. Stands text spots falls at goal visited (flat_map (stop_gives text spots) ks) (xs ++ nowhere text spots falls at ∷ [])) (sym (append-nil kept)) st;
      }

      bits_same : was_visited bits e.spot ≡ true → Closing goal bits (kept ++ []) (map bare es) → Closing goal (slice_set bits e.spot true) (kept ++ []) (map bare es)
      bits_same v = subst (λ bs. Closing goal bs (kept ++ []) (map bare es)) (sym (visited_again bits e.spot v))

      plainly : (s : Spot) → spot_at spots e.spot ≡ s → is_unmarked s ≡ false → e.spot < length bits → (seen : Bool) → was_visited bits e.spot ≡ seen
          → Closing goal (slice_set bits e.spot true) (kept ++ cond seen [] (leads_on text s (bare e).1)) (cond seen [] (leads text s (bare e).1) ++ map bare es)
      plainly s k plain lt true v =
          bits_same v (same_kept es (Stands-seen text spots falls at goal visited (flat_map (stop_gives text spots) kept) e (es ++ nowhere text spots falls at ∷ []) s k plain (own_of spots (was_visited bits) visited are e.spot v (ap is_close k ∙ own_plain text spots falls at s plain)) h))
      plainly s k plain lt false v = closing_new goal bits kept visited e es s k plain lt are v h

      inside : (s : Spot) → spot_at spots e.spot ≡ s → (s ≡ spot.Fail → ⊥) → e.spot < length bits
      inside s k other = let lt = not_fail spots e.spot s k other in omega arith

      failed : spot_at spots e.spot ≡ spot.Fail → (seen : Bool) → was_visited bits e.spot ≡ seen
          → Closing goal (slice_set bits e.spot true) (kept ++ cond seen [] []) (cond seen [] [] ++ map bare es)
      failed k seen v =
          elim (cases_lt e.spot (length bits)) [
            | inl lt ↦ plainly spot.Fail k refl lt seen v
            | inr past ↦ subst (λ bs. Closing goal bs (kept ++ cond seen [] []) (cond seen [] [] ++ map bare es)) (sym (set_past bits e.spot true past)) (gone seen)
          ]
        where
          gone : (seen : Bool) → Closing goal bits (kept ++ cond seen [] []) (cond seen [] [] ++ map bare es)
          gone true = same_kept es (Stands-dropped text spots falls at goal visited (flat_map (stop_gives text spots) kept) e (es ++ nowhere text spots falls at ∷ []) (gives_fail e k) h)
          gone false = same_kept es (Stands-dropped text spots falls at goal visited (flat_map (stop_gives text spots) kept) e (es ++ nowhere text spots falls at ∷ []) (gives_fail e k) h)

      ended : (i f : ℕ) → spot_at spots e.spot ≡ spot.Close i f → (seen : Bool) → was_visited bits e.spot ≡ seen
          → Closing goal (slice_set bits e.spot true) (kept ++ cond seen [] []) (cond seen [] ((f, closed i (bare e).1) ∷ []) ++ map bare es)
      ended i f k true v =
          bits_same v (same_kept es (Stands-answered text spots falls at goal visited (flat_map (stop_gives text spots) kept) e (es ++ nowhere text spots falls at ∷ []) (over i f k v) h))
      ended i f k false v =
          let c = same_kept (entry f (closed i e.way) ∷ es) (Stands-closed text spots falls at goal visited (flat_map (stop_gives text spots) kept) e (es ++ nowhere text spots falls at ∷ []) i f k h) in
          record {
            visited = c.visited;
            entries = c.entries;
            are_bits = AreBits-ended spots bits visited e.spot (ap is_close k) are;
            are_stack = c.are_stack;
            stands = c.stands;
          }

      cases : (s : Spot) → spot_at spots e.spot ≡ s → (s ≡ spot.Match → ⊥) → (seen : Bool) → was_visited bits e.spot ≡ seen
          → Closing goal (visiting s e.spot bits) (kept ++ keeps text s seen (bare e).1) (comes text s seen (bare e).1 ++ map bare es)
      cases (spot.Close i f) k live seen v = ended i f k seen v
      cases spot.Match k live seen v = absurd (live refl)
      cases spot.Fail k live seen v = failed k seen v
      cases (spot.Bytes f set) k live seen v = plainly (spot.Bytes f set) k refl (inside _ k (λ x. cc)) seen v
      cases (spot.Chars f set) k live seen v = plainly (spot.Chars f set) k refl (inside _ k (λ x. cc)) seen v
      cases (spot.Look l f) k live seen v = plainly (spot.Look l f) k refl (inside _ k (λ x. cc)) seen v
      cases (spot.Jump f) k live seen v = plainly (spot.Jump f) k refl (inside _ k (λ x. cc)) seen v
      cases (spot.Split a b) k live seen v = plainly (spot.Split a b) k refl (inside _ k (λ x. cc)) seen v
      cases (spot.Open f) k live seen v = plainly (spot.Open f) k refl (inside _ k (λ x. cc)) seen v

  -- one turn
  pub Closing-turn : (goal : Option Run) (bits bits' : List Bool) (kept kept' rest stack' : List Stop) (p : Stop) → length bits ≡ length spots
      → EndsIn bits kept (p ∷ rest) → Closing goal bits kept (p ∷ rest) → TurnedTo text spots p bits bits' rest stack' kept kept' → Closing goal bits' kept' stack'
  Closing-turn goal bits bits' kept kept' rest stack' p room ends c turned = cases c.entries c.are_stack c.stands
    where
      cases : (entries : List Entry) → map bare entries ≡ p ∷ rest
          → Stands text spots falls at goal c.visited (flat_map (stop_gives text spots) kept) (entries ++ nowhere text spots falls at ∷ []) → Closing goal bits' kept' stack'
      cases [] same st = absurd (cons_not_nil p rest (sym same))
      cases (e ∷ es) same st =
          let head : bare e ≡ p = cons_head same in
          let tail : map bare es ≡ rest = cons_tail same in
          let now : TurnedTo text spots (bare e) bits bits' (map bare es) stack' kept kept' =
          subst (λ r. TurnedTo text spots (bare e) bits bits' r stack' kept kept') (sym tail) (subst (λ q. TurnedTo text spots q bits bits' rest stack' kept kept') (sym head) turned) in
          subst (λ bs. Closing goal bs kept' stack') (sym now.2)
          (subst (λ ks. Closing goal (visiting (spot_at spots e.spot) e.spot bits) ks stack') (sym now.1)
          (subst (λ st. Closing goal (visiting (spot_at spots e.spot) e.spot bits) (kept ++ keeps text (spot_at spots e.spot) (was_visited bits e.spot) (bare e).1) st) (sym now.0)
          (closing_entry goal bits kept c.visited e es room
          (λ i f k. ended-entry text spots falls at (was_visited bits) c.visited (nonempty (flat_map (stop_gives text spots) kept)) (IsFirst (p ∷ rest)) e i f st.0.0
          c.are_bits st.0.2 ends (λ q n. ap (λ (x : Stop). x.0) head ∙ n) k)
          c.are_bits st (spot_at spots e.spot) refl now.3 (was_visited bits e.spot) refl)))

  -- what holds of ends of groups after a turn
  pub turn-ends : (bits bits' : List Bool) (kept kept' rest stack' : List Stop) (p : Stop) → length bits ≡ length spots
      → TurnedTo text spots p bits bits' rest stack' kept kept' → EndsIn bits kept (p ∷ rest) → EndsIn bits' kept' stack'
  turn-ends bits bits' kept kept' rest stack' p room turned =
      Ends-on text spots falls at (was_visited bits) (was_visited bits') (nonempty (stops_give text spots kept)) (nonempty (stops_give text spots kept'))
      (IsFirst (p ∷ rest)) (IsFirst stack') stay up was_next new
    where
      set : bits' ≡ slice_set bits p.0 true
      set = turned.2 ∙ ap (λ (b : Bool). if b then bits else slice_set bits p.0 true) (goes_on (spot_at spots p.0) turned.3)

      stay : (q : ℕ) → was_visited bits q ≡ true → was_visited bits' q ≡ true
      stay q v = ap (λ (bs : List Bool). was_visited bs q) set ∙ set_stays bits p.0 q v

      up : nonempty (stops_give text spots kept) ≡ true → nonempty (stops_give text spots kept') ≡ true
      up some =
          ap (λ ks. nonempty (stops_give text spots ks)) turned.1
          ∙ ap nonempty (flat_map-append (stop_gives text spots) kept (keeps text (spot_at spots p.0) (was_visited bits p.0) p.1))
          ∙ nonempty-append (stops_give text spots kept) _ ∙ or_left _ _ some

      was_next : (f : ℕ) → p.0 ≡ f
          → (gives text spots f (fresh at) ≡ []) ⊎ (((was_visited bits' f ≡ true) × ((spot_at spots f ≡ spot.Match) → ⊥)) ⊎ IsFirst stack' f)
      was_next f same =
          elim (cases_lt p.0 (length bits)) [
            | inl lt ↦ inr (inl (
              ap (λ (bs : List Bool). was_visited bs f) set ∙ ap (was_visited (slice_set bits p.0 true)) (sym same) ∙ get_or-set_same bits p.0 true false lt,
              (λ k. turned.3 (ap (spot_at spots) same ∙ k)),
            ))
            | inr past ↦ inl (ap (λ i. gives text spots i (fresh at)) (sym same)
                ∙ gives_fail (entry p.0 (fresh at)) (get_or_past spots p.0 spot.Fail (omega (arith, past, room))))
          ]

      new : (q i f : ℕ) → spot_at spots q ≡ spot.Close i f → was_visited bits' q ≡ true → was_visited bits q ≡ false → IsFirst stack' f
      new q i f k now before =
          elim (cases_eq q p.0) [
            | inl same ↦
                let here : spot_at spots p.0 ≡ spot.Close i f = ap (spot_at spots) (sym same) ∙ k in
                let first : stack' ≡ (f, closed i p.1) ∷ rest =
                turned.0 ∙ ap (λ (b : Bool). comes text (spot_at spots p.0) b p.1 ++ rest) (ap (was_visited bits) (sym same) ∙ before)
                ∙ ap (λ (s : Spot). leads text s p.1 ++ rest) here in
                subst (λ ps. IsFirst ps f) (sym first) refl
            | inr other ↦ absurd (true≢false (sym now ∙ ap (λ (bs : List Bool). was_visited bs q) set ∙ get_or-set_other bits p.0 q true false other ∙ before))
          ]

  -- the one that is followed goes on from the place
  pub Closing-at : (goal : Option Run) (bits : List Bool) (kept rest : List Stop) (p : Stop) → Closing goal bits kept (p ∷ rest) → p.1.run.at ≡ at
  Closing-at goal bits kept rest p c = cases c.entries c.are_stack c.stands
    where
      cases : (entries : List Entry) → map bare entries ≡ p ∷ rest
          → Stands text spots falls at goal c.visited (flat_map (stop_gives text spots) kept) (entries ++ nowhere text spots falls at ∷ []) → p.1.run.at ≡ at
      cases [] same st = absurd (cons_not_nil p rest (sym same))
      cases (e ∷ es) same st = ap (λ (x : Stop). x.1.run.at) (sym (cons_head same)) ∙ st.0.0

  -- at a match it is over
  pub Closing-match : (goal : Option Run) (bits : List Bool) (kept rest : List Stop) (p : Stop) → spot_at spots p.0 ≡ spot.Match → Closing goal bits kept (p ∷ rest)
      → option_or (first_of (flat_map (stop_gives text spots) kept)) (Some (forget p.1.run)) ≡ goal
  Closing-match goal bits kept rest p k c = cases c.entries c.are_stack c.stands
    where
      cases : (entries : List Entry) → map bare entries ≡ p ∷ rest
          → Stands text spots falls at goal c.visited (flat_map (stop_gives text spots) kept) (entries ++ nowhere text spots falls at ∷ [])
          → option_or (first_of (flat_map (stop_gives text spots) kept)) (Some (forget p.1.run)) ≡ goal
      cases [] same st = absurd (cons_not_nil p rest (sym same))
      cases (e ∷ es) same st =
          let head : bare e ≡ p = cons_head same in
          ap (λ (x : Stop). option_or (first_of (flat_map (stop_gives text spots) kept)) (Some (forget x.1.run))) (sym head)
          ∙ Stands-match text spots falls at goal c.visited (flat_map (stop_gives text spots) kept) e (es ++ nowhere text spots falls at ∷ []) (ap (λ (x : Stop). spot_at spots x.0) head ∙ k) st

  bits_are_own : (bits : List Bool) → AreBits spots bits (own_below spots (was_visited bits) (length bits))
  bits_are_own bits = AreOwn-below spots (was_visited bits) (length bits) (λ q past. get_or_past bits q false past)

  -- a thread comes to the place
  pub Closing-begin : (bits : List Bool) (kept : List Stop) (p : Stop) → p.1.run.at ≡ at → p.1.run.seen ≡ []
      → Spent text spots at bits (some_run (flat_map (stop_gives text spots) kept))
      → Closing (first_of (flat_map (stop_gives text spots) kept ++ stop_gives text spots p)) bits kept (p ∷ [])
  Closing-begin bits kept p here new spent = record {
    visited = own_below spots (was_visited bits) (length bits);
    entries = entry p.0 p.1 ∷ [];
    are_bits = bits_are_own bits;
    are_stack = ap (λ xs. (p.0, way p.1.starts (record { at = p.1.run.at; groups = p.1.run.groups; seen = xs })) ∷ []) (sym new);
    stands =
        Stands-begin text spots falls at (own_below spots (was_visited bits) (length bits)) (flat_map (stop_gives text spots) kept) (entry p.0 p.1) here new
        (λ m k. elim (spent m (was_own spots (was_visited bits) _ (bits_are_own bits) m k)) [ inl some ↦ inl (sym (some_run-nonempty _) ∙ some) | inr dead ↦ inr dead ]);
  }

  -- when none is left
  pub Closing-end : (goal : Option Run) (bits : List Bool) (kept : List Stop) → EndsIn bits kept [] → Closing goal bits kept []
      → Spent text spots at bits (some_run (flat_map (stop_gives text spots) kept)) × (first_of (flat_map (stop_gives text spots) kept) ≡ goal)
  Closing-end goal bits kept ends c = cases c.entries c.are_stack c.stands
    where
      cases : (entries : List Entry) → map bare entries ≡ []
          → Stands text spots falls at goal c.visited (flat_map (stop_gives text spots) kept) (entries ++ nowhere text spots falls at ∷ [])
          → Spent text spots at bits (some_run (flat_map (stop_gives text spots) kept)) × (first_of (flat_map (stop_gives text spots) kept) ≡ goal)
      cases (e ∷ es) same st = absurd (cons_not_nil (bare e) (map bare es) same)
      cases [] same st =
          let end = Stands-end text spots falls at goal c.visited (flat_map (stop_gives text spots) kept) (nowhere text spots falls at) refl refl refl st in (
            (λ m k. elim (ended-all text spots falls at (was_visited bits) c.visited (nonempty (flat_map (stop_gives text spots) kept)) (IsFirst []) c.are_bits ends (λ q n. n) end.0 m k) [
              | inl some ↦ inl (some_run-nonempty _ ∙ some)
              | inr dead ↦ inr dead
            ]),
            end.1,
          )

-- how many bits are unset
abbrev pub unset_bits : List Bool → ℕ
unset_bits bits = sum_by (λ b. if b then 0 else 1) bits

-- what falls with each turn: a mark is set, and two stops come at most, or none comes
abbrev pub turn_weight : List Bool → List Stop → ℕ
turn_weight bits stack = unset_bits bits * 2 + length stack

-- a mark that was unset is set
pub fewer_unset : (bits : List Bool) (q : ℕ) → q < length bits → was_visited bits q ≡ false → unset_bits (slice_set bits q true) + 1 ≡ unset_bits bits
fewer_unset bits q lt v =
    let one : unset_bits (slice_set bits q true) + (if was_visited bits q then 0 else 1) ≡ unset_bits bits + 0 = sum_by-set (λ (b : Bool). if b then 0 else 1) bits q true false lt in
    let bit : ℕ = if was_visited bits q then 0 else 1 in
    let is_one : bit ≡ 1 = ap (λ (b : Bool). if b then 0 else 1) v in
    omega arith

pub weight_set : (bits : List Bool) (q : ℕ) (p : Stop) (more rest : List Stop) → q < length bits → was_visited bits q ≡ false → length more ≤ 2 + length rest
    → turn_weight (slice_set bits q true) more < turn_weight bits (p ∷ rest)
weight_set bits q p more rest lt v few = let fewer = fewer_unset bits q lt v in omega arith

-- a stop less
pub weight_less : (bits bits' : List Bool) (p : Stop) (rest : List Stop) → bits' ≡ bits → turn_weight bits' rest < turn_weight bits (p ∷ rest)
weight_less bits bits' p rest same = let k : unset_bits bits' ≡ unset_bits bits = ap unset_bits same in omega arith

module _ (text : List ℕ) (spots : List Spot) where
  -- a spot leads to two others at most
  leads_few : (s : Spot) (w : Way) (rest : List Stop) → length (leads text s w ++ rest) ≤ 2 + length rest
  leads_few (spot.Look l f) w rest = cases (holds l text w.run.at)
    where
      cases : (b : Bool) → length ((if b then (f, w) ∷ [] else []) ++ rest) ≤ 2 + length rest
      cases true = omega arith
      cases false = omega arith
  leads_few (spot.Jump f) w rest = omega arith
  leads_few (spot.Split a b) w rest = omega arith
  leads_few (spot.Open f) w rest = omega arith
  leads_few (spot.Close i f) w rest = omega arith
  leads_few _ w rest = omega arith

  turn_falls : (bits : List Bool) (rest : List Stop) (q : ℕ) (w : Way) → length bits ≡ length spots → (seen : Bool) → was_visited bits q ≡ seen
      → turn_weight (slice_set bits q true) (comes text (spot_at spots q) seen w ++ rest) < turn_weight bits ((q, w) ∷ rest)
  turn_falls bits rest q w room true v = weight_less bits _ (q, w) rest (visited_again bits q v)
  turn_falls bits rest q w room false v =
      elim (cases_lt q (length bits)) [
        | inl lt ↦ weight_set bits q (q, w) _ rest lt v (leads_few (spot_at spots q) w rest)
        | inr past ↦
            let fail : spot_at spots q ≡ spot.Fail = get_or_past spots q spot.Fail (omega (arith, past, room)) in
            subst (λ (s : Spot). turn_weight (slice_set bits q true) (comes text s false w ++ rest) < turn_weight bits ((q, w) ∷ rest)) (sym fail)
            (weight_less bits _ (q, w) rest (set_past bits q true past))
      ]

  -- one turn
  pub turn-falls : (bits bits' : List Bool) (kept kept' rest stack' : List Stop) (p : Stop) → length bits ≡ length spots
      → TurnedTo text spots p bits bits' rest stack' kept kept' → turn_weight bits' stack' < turn_weight bits (p ∷ rest)
  turn-falls bits bits' kept kept' rest stack' p room turned =
      let set : bits' ≡ slice_set bits p.0 true =
      turned.2 ∙ ap (λ (b : Bool). if b then bits else slice_set bits p.0 true) (goes_on (spot_at spots p.0) turned.3) in
      rw (set, turned.0) (turn_falls bits rest p.0 p.1 room (was_visited bits p.0) refl)

-- what is kept at a turn goes on later
module _ (text : List ℕ) where
  taken_later : (size : ℕ → Option ℕ) → TakesWithin text size → (f : ℕ) (w : Way) → AllLater text w.run.at (taken (size w.run.at) f w)
  taken_later size within f w = cases (size w.run.at) refl
    where
      cases : (o : Option ℕ) → size w.run.at ≡ o → AllLater text w.run.at (taken o f w)
      cases None e = tt
      cases (Some k) e = let h = within w.run.at k e in ((omega arith, h.1), tt)

  leads_on_later : (s : Spot) (w : Way) → AllLater text w.run.at (leads_on text s w)
  leads_on_later (spot.Bytes f set) w = taken_later (byte_size set text) (byte_size-within set text) f w
  leads_on_later (spot.Chars f set) w = taken_later (char_size set text) (char_size-within set text) f w
  leads_on_later (spot.Look l f) w = tt
  leads_on_later (spot.Jump f) w = tt
  leads_on_later (spot.Split a b) w = tt
  leads_on_later (spot.Open f) w = tt
  leads_on_later (spot.Close i f) w = tt
  leads_on_later spot.Fail w = tt
  leads_on_later spot.Match w = tt

  pub keeps_later : (s : Spot) (seen : Bool) (w : Way) → AllLater text w.run.at (keeps text s seen w)
  keeps_later s true w = tt
  keeps_later s false w = leads_on_later s w

  pub turn-later : (spots : List Spot) (bits bits' : List Bool) (kept kept' rest stack' : List Stop) (p : Stop)
      → TurnedTo text spots p bits bits' rest stack' kept kept' → AllLater text p.1.run.at kept → AllLater text p.1.run.at kept'
  turn-later spots bits bits' kept kept' rest stack' p turned later =
      subst (AllLater text p.1.run.at) (sym turned.1)
      (All-append (λ (x : Stop). (p.1.run.at < x.1.run.at) × (x.1.run.at ≤ length text)) kept (keeps text (spot_at spots p.0) (was_visited bits p.0) p.1) later
      (keeps_later (spot_at spots p.0) (was_visited bits p.0) p.1))

-- what the loop over the stack keeps true
abbrev pub Follows : List ℕ → List Spot → ℕ → Option Run → List Bool → List Stop → List Stop → Type 0
Follows text spots at goal bits kept stack =
    (falls : ClosesFall spots) × Closing text spots falls at goal bits kept stack × AllLater text at kept × EndsIn text spots falls at bits kept stack

module _ (text : List ℕ) (spots : List Spot) (at : ℕ) (goal : Option Run) (bits : List Bool) (kept rest stack : List Stop) (p : Stop)
    (e : stack ≡ p ∷ rest) where
  -- with the first of the stack apart
  apart : (h : Follows text spots at goal bits kept stack) → Closing text spots h.0 at goal bits kept (p ∷ rest)
  apart h = subst (λ ps. Closing text spots h.0 at goal bits kept ps) e h.1

  pub Follows-at : Follows text spots at goal bits kept stack → p.1.run.at ≡ at
  Follows-at h = Closing-at text spots h.0 at goal bits kept rest p (apart h)

  pub Follows-match : Follows text spots at goal bits kept stack → spot_at spots p.0 ≡ spot.Match
      → option_or (first_of (stops_give text spots kept)) (Some (forget p.1.run)) ≡ goal
  Follows-match h k = Closing-match text spots h.0 at goal bits kept rest p k (apart h)

  pub Follows-turn : (bits' : List Bool) (kept' stack' : List Stop) → length bits ≡ length spots → Follows text spots at goal bits kept stack
      → TurnedTo text spots p bits bits' rest stack' kept kept' → Follows text spots at goal bits' kept' stack'
  Follows-turn bits' kept' stack' room h turned =
      let ends = subst (λ ps. EndsIn text spots h.0 at bits kept ps) e h.3 in (
        h.0,
        Closing-turn text spots h.0 at goal bits bits' kept kept' rest stack' p room ends (apart h) turned,
        subst (λ i. AllLater text i kept') (Follows-at h)
            (turn-later text spots bits bits' kept kept' rest stack' p turned (subst (λ i. AllLater text i kept) (sym (Follows-at h)) h.2)),
        turn-ends text spots h.0 at bits bits' kept kept' rest stack' p room turned ends,
      )

  pub Follows-falls : (bits' : List Bool) (kept' stack' : List Stop) → length bits ≡ length spots
      → TurnedTo text spots p bits bits' rest stack' kept kept' → turn_weight bits' stack' < turn_weight bits stack
  Follows-falls bits' kept' stack' room turned =
      let less = turn-falls text spots bits bits' kept kept' rest stack' p room turned in
      subst (λ ps. turn_weight bits' stack' < turn_weight bits ps) (sym e) less

pub Follows-end : (text : List ℕ) (spots : List Spot) (at : ℕ) (goal : Option Run) (bits : List Bool) (kept stack : List Stop) → stack ≡ []
    → Follows text spots at goal bits kept stack
    → Spent text spots at bits (some_run (stops_give text spots kept)) × (first_of (stops_give text spots kept) ≡ goal)
Follows-end text spots at goal bits kept stack e h =
    Closing-end text spots h.0 at goal bits kept (subst (λ ps. EndsIn text spots h.0 at bits kept ps) e h.3)
    (subst (λ ps. Closing text spots h.0 at goal bits kept ps) e h.1)

pub Follows-begin : (text : List ℕ) (spots : List Spot) (p : Stop) (bits : List Bool) (kept stack : List Stop) → ClosesFall spots → stack ≡ p ∷ []
    → p.1.run.seen ≡ [] → AllLater text p.1.run.at kept → Spent text spots p.1.run.at bits (some_run (stops_give text spots kept))
    → Follows text spots p.1.run.at (first_of (stops_give text spots kept ++ stop_gives text spots p)) bits kept stack
Follows-begin text spots p bits kept stack falls e new later spent = (
  falls,
  subst (λ ps. Closing text spots falls p.1.run.at (first_of (stops_give text spots kept ++ stop_gives text spots p)) bits kept ps) (sym e)
      (Closing-begin text spots falls p.1.run.at bits kept p refl new spent),
  later,
  Ends-spent text spots falls p.1.run.at (was_visited bits) (nonempty (stops_give text spots kept)) (IsFirst stack)
      (λ q v. elim (spent q v) [ inl some ↦ inl (sym (some_run-nonempty _) ∙ some) | inr dead ↦ inr dead ]),
)

-- a turn keeps how many bits there are
pub length-visiting : (s : Spot) (q : ℕ) (bits : List Bool) → length (visiting s q bits) ≡ length bits
length-visiting (spot.Close i f) q bits = length-set bits q true
length-visiting spot.Match q bits = refl
length-visiting spot.Fail q bits = length-set bits q true
length-visiting (spot.Bytes f set) q bits = length-set bits q true
length-visiting (spot.Chars f set) q bits = length-set bits q true
length-visiting (spot.Look l f) q bits = length-set bits q true
length-visiting (spot.Jump f) q bits = length-set bits q true
length-visiting (spot.Split a b) q bits = length-set bits q true
length-visiting (spot.Open f) q bits = length-set bits q true
