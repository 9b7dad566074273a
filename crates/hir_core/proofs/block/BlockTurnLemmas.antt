-- One turn of the search of a block.
use Rattle.std.proofs.Common.{◌≡◌, ℕ, ◌<◌, ◌≤◌, Bool, true, false, cond, ◌⊎◌, inl, inr, List, [], ◌∷◌, ◌++◌, length, map, Option, Some, None, if◌then◌else◌, refl, sym, ap, ap₂, ◌∙◌, subst, true≢false, append-nil, arith}
use Rattle.std.specs.Prelude.{◌==◌, ◌||◌, ◌&&◌, not, slice_set}
use Rattle.std.specs.Option.{option_or}
use Rattle.std.specs.List.{flat_map, AllByRecursion}
use Rattle.std.proofs.lemmas.Bool.{cases_lt, cond-false, eqb-true, le-ltb, lt-ltb}
use Rattle.std.proofs.lemmas.Grind.{flat_map-append}
use Rattle.std.proofs.lemmas.List.{map-append, get_or_past}
use Rattle.hir_tree.specs.Looks.{holds}
use Rattle.hir_tree.specs.Runs.{Run, moved, is_seen, byte_size, char_size, first}
use Rattle.hir_tree.specs.RunsLaws.{forget}
use Rattle.hir_tree.proofs.ListLemmas.{All-append}
use Rattle.hir_tree.proofs.RunsLemmas.{TakesWithin, byte_size-within, char_size-within}
use Rattle.hir_core.specs.Blocks.{mark_of, trying, was_tried, AreSpent}
use Rattle.hir_program.specs.Masks.{IsDead, is_taker}
use Rattle.hir_core.specs.Pass.{first_of, taken, leads, leads_on, comes, keeps, was_visited, visiting, stop_gives, stops_give}
use Rattle.hir_program.specs.Program.{spot_at, is_close, is_unmarked, way, marked, closed, follow, gives, ClosesFall, some_run}
use Rattle.hir_core.specs.Trails.{Stop}
use Rattle.hir_program.specs.declared.spot.Spot.{Spot}
use Rattle.hir_program.specs.declared.spot.Spot.TheVariants as spot
use Rattle.hir_program.proofs.PlacedLemmas.{gives-at, gives-close}
use Rattle.hir_core.proofs.closure.ClosureLemmas.{Entry, entry, seen_by, nonempty, pend, Children, Covers, Covers-seen}
use Rattle.hir_program.proofs.ProgramLemmas.{not_fail}
use Rattle.hir_core.proofs.closure.EndLemmas.{Ends, ended-all, ended-entry, own_of, own_plain, was_own}
use Rattle.hir_core.proofs.closure.TurnLemmas.{led_to, bare, cons_not_nil, cons_head, cons_tail, led_bare, led_children, taken_gives, gives_fail, some_run-nonempty, visited_again}
use Rattle.hir_core.proofs.pass.PassLemmas.{Stands-dropped, Stands-led, Stands-kept, Stands-closed, gives_fresh, nowhere}
use Rattle.hir_program.proofs.ScanLemmas.{gives-dead}
use Rattle.hir_core.proofs.block.LevelLemmas.{place, level, AllAt}
use Rattle.hir_core.proofs.block.BlockLemmas.{Blocking, top-level, replaced, dropped-done, dropped-second, kept-later, moved-on, blocking-match, blocking-begin, blocking-end}
use Rattle.hir_core.proofs.block.BlockEndLemmas.{EndsBy, GivesAllWayTo, IsNext}
use Rattle.hir_core.proofs.block.MarkLemmas.{adding, adding-here, adding-elsewhere, AreMarks, AreMarks-adding, AreMarks-ended, AreMarks-tried, tried_by, tried-is}

module _ (text : List ℕ) (spots : List Spot) (falls : ClosesFall spots) (begin end : ℕ) where
  -- no spot that takes bytes is among these
  abbrev pub NoTaker : List ℕ → Type 0
  NoTaker xs = (m : ℕ) → is_seen m xs ≡ true → is_taker (spot_at spots m) ≡ false

  pub NoTaker-none : NoTaker []
  NoTaker-none m seen = absurd (true≢false (sym seen))

  pub NoTaker-more : (q : ℕ) (xs : List ℕ) → is_taker (spot_at spots q) ≡ false → NoTaker xs → NoTaker (q ∷ xs)
  NoTaker-more q xs calm h m seen = cases (q == m) refl seen
    where
      cases : (b : Bool) → (q == m) ≡ b → (b || is_seen m xs) ≡ true → is_taker (spot_at spots m) ≡ false
      cases true same k = ap (λ i. is_taker (spot_at spots i)) (sym (eqb-true q m same)) ∙ calm
      cases false same k = h m k

  -- Entries past the block have seen nothing, and none has seen a spot that takes bytes.
  abbrev pub Outside : List Entry → Type 0
  Outside es = AllByRecursion (λ (e : Entry). (end ≤ place e → seen_by e ≡ []) × NoTaker (seen_by e)) es

  -- What the search of a block keeps true.
  pub record Searching (goal : Option Run) (marks : List Bool) (kept stack : List Stop) : Type 0 where
    pub tried : ℕ → List ℕ
    pub entries : List Entry
    pub are_marks : AreMarks spots begin marks tried
    pub are_stack : map bare entries ≡ stack
    pub outside : Outside entries
    pub blocking : Blocking text spots falls goal tried (stops_give text spots kept) entries

  -- entries that a spot leads to are at its place
  led_at : (s : Spot) (e : Entry) → AllAt (place e) (led_to text s (marked e.spot e.way))
  led_at s e = only (led_to text s (marked e.spot e.way)) (led_children text spots falls (place e) s e refl)
    where
      only : (cs : List Entry) → Children text spots falls (place e) e cs → AllAt (place e) cs
      only [] h = tt
      only (c ∷ cs) h = (h.0.0, only cs h.1)

  -- those that a spot leads to are in the block, and see one spot more
  led_outside : (s : Spot) (e : Entry) → place e < end → is_taker (spot_at spots e.spot) ≡ false → NoTaker (seen_by e)
      → Outside (led_to text s (marked e.spot e.way))
  led_outside s e to calm h = only (led_to text s (marked e.spot e.way)) (led_children text spots falls (place e) s e refl)
    where
      only : (cs : List Entry) → Children text spots falls (place e) e cs → Outside cs
      only [] k = tt
      only (c ∷ cs) k =
          (((λ past. absurd (omega (arith, past, to, k.0.0))), subst NoTaker (sym k.0.1) (NoTaker-more e.spot (seen_by e) calm h)), only cs k.1)

  module _ (goal : Option Run) (marks : List Bool) (kept : List Stop) (tried : ℕ → List ℕ) (e : Entry) (es : List Entry)
      (are : AreMarks spots begin marks tried) (calm : NoTaker (seen_by e)) (out : Outside es) (h : Blocking text spots falls goal tried (stops_give text spots kept) (e ∷ es)) where
    abbrev pub others : List Entry
    others = level (place e) es ++ nowhere text spots falls (place e) ∷ []

    -- the search of its place
    abbrev pub stands_goal : Option Run
    stands_goal = first (map forget (stops_give text spots kept ++ pend text spots falls (place e) (e ∷ others)))

    -- an entry that gives nothing is dropped
    drop_entry : gives text spots e.spot e.way ≡ [] → Blocking text spots falls goal tried (stops_give text spots kept) es
    drop_entry nothing =
        replaced text spots falls goal tried tried (stops_give text spots kept) e es [] h nothing tt (λ p other. refl)
        (Stands-dropped text spots falls (place e) stands_goal (tried (place e)) (stops_give text spots kept) e others nothing
        (top-level text spots falls goal tried (stops_give text spots kept) e es h, refl)).0

    -- so is one that gives nothing unless something was kept
    drop_answered : (nonempty (stops_give text spots kept) ≡ true) ⊎ (gives text spots e.spot e.way ≡ [])
        → Blocking text spots falls goal tried (stops_give text spots kept) es
    drop_answered (inl some) = dropped-done text spots falls goal tried (stops_give text spots kept) e es some h
    drop_answered (inr nothing) = drop_entry nothing

    -- so is one at a spot that was tried at its place
    drop_tried : (s : Spot) → spot_at spots e.spot ≡ s → is_unmarked s ≡ false → is_seen e.spot (tried (place e)) ≡ true
        → Blocking text spots falls goal tried (stops_give text spots kept) es
    drop_tried s k plain seen =
        drop_answered (Covers-seen text spots falls (place e) e (tried (place e)) others (nonempty (stops_give text spots kept))
        (top-level text spots falls goal tried (stops_give text spots kept) e es h) seen
        (λ before. gives-at text spots falls e.spot s e.way k ∙ cond-false _ _ _ plain ∙ shut before))
      where
        shut : is_seen e.spot (seen_by e) ≡ true
            → cond (is_seen e.spot (seen_by e)) [] (follow text spots (gives text spots) s (marked e.spot e.way)) ≡ []
        shut before = ap (λ (b : Bool). cond b [] (follow text spots (gives text spots) s (marked e.spot e.way))) before

    module _ (s : Spot) (k : spot_at spots e.spot ≡ s) (plain : is_unmarked s ≡ false) (new : is_seen e.spot (tried (place e)) ≡ false) where
      pub fresh_gives : gives text spots e.spot e.way ≡ follow text spots (gives text spots) s (marked e.spot e.way)
      fresh_gives =
          gives_fresh text spots falls (place e) (tried (place e)) (nonempty (stops_give text spots kept)) e others s k plain new
          (top-level text spots falls goal tried (stops_give text spots kept) e es h)

      -- one that is new gives way to those that its spot leads to
      lead_entry : follow text spots (gives text spots) s (marked e.spot e.way) ≡ pend text spots falls (place e) (led_to text s (marked e.spot e.way))
          → Blocking text spots falls goal (adding (place e) e.spot tried) (stops_give text spots kept) (led_to text s (marked e.spot e.way) ++ es)
      lead_entry same =
          replaced text spots falls goal tried (adding (place e) e.spot tried) (stops_give text spots kept) e es (led_to text s (marked e.spot e.way)) h
          (fresh_gives ∙ same) (led_at s e) (adding-elsewhere (place e) e.spot tried)
          (subst (λ v. Covers-of v) (sym (adding-here (place e) e.spot tried))
          (Stands-led text spots falls (place e) stands_goal (tried (place e)) (stops_give text spots kept) e others (led_to text s (marked e.spot e.way)) s
          k plain new (led_children text spots falls (place e) s e refl) same (top-level text spots falls goal tried (stops_give text spots kept) e es h, refl)).0)
        where
          Covers-of : List ℕ → Type 0
          Covers-of v =
              Covers text spots falls (place e) v (nonempty (stops_give text spots kept)) v
              (led_to text s (marked e.spot e.way) ++ others)

      -- one that takes bytes goes on from after them
      take_entry : (f bytes : ℕ) → 0 < bytes
          → follow text spots (gives text spots) s (marked e.spot e.way) ≡ gives text spots f (way e.way.starts (moved bytes (forget e.way.run))) ++ []
          → Blocking text spots falls goal (adding (place e) e.spot tried) (stops_give text spots kept)
          (entry f (way e.way.starts (moved bytes (forget e.way.run))) ∷ es)
      take_entry f bytes some same =
          let on : Entry = entry f (way e.way.starts (moved bytes (forget e.way.run))) in
          moved-on text spots falls goal tried (adding (place e) e.spot tried) (stops_give text spots kept) e on es h
          (fresh_gives ∙ same ∙ append-nil _) (omega (arith, some)) refl (adding-elsewhere (place e) e.spot tried)
          (subst (λ v. Covers text spots falls (place e) v (nonempty (stops_give text spots kept ++ gives text spots on.spot on.way)) v others)
          (sym (adding-here (place e) e.spot tried))
          (Stands-kept text spots falls (place e) stands_goal (tried (place e)) (stops_give text spots kept) (gives text spots on.spot on.way) e others s
          k plain new (same ∙ append-nil _) (top-level text spots falls goal tried (stops_give text spots kept) e es h, refl)).0)

    -- the end of a group gives way to what follows it
    close_entry : (i f : ℕ) → spot_at spots e.spot ≡ spot.Close i f
        → Blocking text spots falls goal tried (stops_give text spots kept) (entry f (closed i e.way) ∷ es)
    close_entry i f k =
        replaced text spots falls goal tried tried (stops_give text spots kept) e es (entry f (closed i e.way) ∷ []) h
        (gives-close text spots falls e.spot i f e.way k ∙ sym (append-nil _)) (refl, tt) (λ p other. refl)
        (Stands-closed text spots falls (place e) stands_goal (tried (place e)) (stops_give text spots kept) e others i f k
        (top-level text spots falls goal tried (stops_give text spots kept) e es h, refl)).0

    -- what a turn leaves, where the mark isn't set
    leave : (marks' : List Bool) (tried' : ℕ → List ℕ) (cs : List Entry) (stops : List Stop) → AreMarks spots begin marks' tried' → map bare cs ≡ stops
        → Outside cs → Blocking text spots falls goal tried' (stops_give text spots kept) (cs ++ es)
        → Searching goal marks' kept (stops ++ map bare es)
    leave marks' tried' cs stops are' same fresh b = record {
      tried = tried';
      entries = cs ++ es;
      are_marks = are';
      are_stack = map-append bare cs es ∙ ap (λ xs. xs ++ map bare es) same;
      outside = All-append (λ (x : Entry). (end ≤ place x → seen_by x ≡ []) × NoTaker (seen_by x)) cs es fresh out;
      blocking = b;
    }

    -- the entry at a spot of the program that was not tried at its place
    module _ (from : begin ≤ place e) (to : place e < end) (few : e.spot < length spots) (room : mark_of (length spots) begin (place e) e.spot < length marks)
        (new : was_visited marks (mark_of (length spots) begin (place e) e.spot) ≡ false) where
      abbrev mark : ℕ
      mark = mark_of (length spots) begin (place e) e.spot

      unseen : is_seen e.spot (tried (place e)) ≡ false
      unseen =
          are (place e) e.spot
          ∙ ap (λ (b : Bool). b && not (is_close (spot_at spots e.spot))) (tried-is (length spots) begin marks (place e) e.spot from few ∙ new)

      are_more : (s : Spot) → spot_at spots e.spot ≡ s → is_unmarked s ≡ false → AreMarks spots begin (slice_set marks mark true) (adding (place e) e.spot tried)
      are_more s k plain =
          AreMarks-adding spots begin marks (place e) e.spot from few room tried (ap is_close k ∙ own_plain text spots falls (place e) s plain) are

      lead : (s : Spot) → spot_at spots e.spot ≡ s → is_unmarked s ≡ false → is_taker s ≡ false → leads_on text s (bare e).1 ≡ []
          → follow text spots (gives text spots) s (marked e.spot e.way) ≡ pend text spots falls (place e) (led_to text s (marked e.spot e.way))
          → Searching goal (slice_set marks mark true) kept ((leads text s (bare e).1 ++ leads_on text s (bare e).1) ++ map bare es)
      lead s k plain still none_on same =
          leave (slice_set marks mark true) (adding (place e) e.spot tried) (led_to text s (marked e.spot e.way)) (leads text s (bare e).1 ++ leads_on text s (bare e).1)
          (are_more s k plain)
          (led_bare text spots falls (place e) s e ∙ sym (append-nil (leads text s (bare e).1)) ∙ ap (λ xs. leads text s (bare e).1 ++ xs) (sym none_on))
          (led_outside s e to (ap is_taker k ∙ still) calm)
          (lead_entry s k plain unseen same)

      take : (s : Spot) (o : Option ℕ) (f : ℕ) → spot_at spots e.spot ≡ s → is_unmarked s ≡ false → ((bytes : ℕ) → o ≡ Some bytes → 0 < bytes)
          → follow text spots (gives text spots) s (marked e.spot e.way)
          ≡ flat_map (stop_gives text spots) (taken o f (way e.way.starts (forget e.way.run)))
          → Searching goal (slice_set marks mark true) kept (taken o f (bare e).1 ++ map bare es)
      take s None f k plain some same =
          leave (slice_set marks mark true) (adding (place e) e.spot tried) [] [] (are_more s k plain) refl tt
          (replaced text spots falls goal tried (adding (place e) e.spot tried) (stops_give text spots kept) e es [] h
          (fresh_gives s k plain unseen ∙ same) tt (adding-elsewhere (place e) e.spot tried)
          (subst (λ v. Covers text spots falls (place e) v (nonempty (stops_give text spots kept)) v others) (sym (adding-here (place e) e.spot tried))
          (Stands-led text spots falls (place e) stands_goal (tried (place e)) (stops_give text spots kept) e others [] s k plain unseen tt same
          (top-level text spots falls goal tried (stops_give text spots kept) e es h, refl)).0))
      take s (Some bytes) f k plain some same =
          leave (slice_set marks mark true) (adding (place e) e.spot tried) (entry f (way e.way.starts (moved bytes (forget e.way.run))) ∷ [])
          (taken (Some bytes) f (bare e).1) (are_more s k plain) refl (((λ past. refl), NoTaker-none), tt)
          (take_entry s k plain unseen f bytes (some bytes refl) same)

      look_same : (f : ℕ) (b : Bool) → cond b (gives text spots f (marked e.spot e.way)) []
          ≡ pend text spots falls (place e) (if b then entry f (marked e.spot e.way) ∷ [] else [])
      look_same f true = sym (append-nil _)
      look_same f false = refl

      sized : (size : ℕ → Option ℕ) → TakesWithin text size → (bytes : ℕ) → size (place e) ≡ Some bytes → 0 < bytes
      sized size within bytes is = let k = within (place e) bytes is in omega (arith, k.0)

      turn_new : (s : Spot) → spot_at spots e.spot ≡ s → is_unmarked s ≡ false
          → Searching goal (slice_set marks mark true) kept ((leads text s (bare e).1 ++ leads_on text s (bare e).1) ++ map bare es)
      turn_new (spot.Bytes f set) k plain =
          take (spot.Bytes f set) (byte_size set text (place e)) f k plain (sized (byte_size set text) (byte_size-within set text))
          (taken_gives text spots falls (place e) (byte_size set text (place e)) f e.spot e.way)
      turn_new (spot.Chars f set) k plain =
          take (spot.Chars f set) (char_size set text (place e)) f k plain (sized (char_size set text) (char_size-within set text))
          (taken_gives text spots falls (place e) (char_size set text (place e)) f e.spot e.way)
      turn_new (spot.Look l f) k plain = lead (spot.Look l f) k plain refl refl (look_same f (holds l text (place e)))
      turn_new (spot.Jump f) k plain = lead (spot.Jump f) k plain refl refl (sym (append-nil _))
      turn_new (spot.Split a b) k plain =
          lead (spot.Split a b) k plain refl refl (ap (λ xs. gives text spots a (marked e.spot e.way) ++ xs) (sym (append-nil _)))
      turn_new (spot.Open f) k plain = lead (spot.Open f) k plain refl refl (sym (append-nil _))
      turn_new (spot.Close i f) k plain = absurd (true≢false plain)
      turn_new spot.Fail k plain = lead spot.Fail k plain refl refl refl
      turn_new spot.Match k plain = absurd (true≢false plain)

    -- an end of a group that was tried gives nothing more
    over : (next : ℕ → Type 0)
        → Ends text spots falls (place e) (was_tried (length spots) begin marks (place e)) (nonempty (stops_give text spots kept)) next
        → ((q : ℕ) → next q → e.spot ≡ q) → begin ≤ place e → (i f : ℕ) → spot_at spots e.spot ≡ spot.Close i f
        → was_visited marks (mark_of (length spots) begin (place e) e.spot) ≡ true
        → (nonempty (stops_give text spots kept) ≡ true) ⊎ (gives text spots e.spot e.way ≡ [])
    over next ends first from i f k v =
        ended-entry text spots falls (place e) (was_tried (length spots) begin marks (place e)) (tried (place e)) (nonempty (stops_give text spots kept)) next e i f
        refl (are (place e)) (top-level text spots falls goal tried (stops_give text spots kept) e es h).2 ends first k
        (tried-is (length spots) begin marks (place e) e.spot from (not_fail spots e.spot (spot.Close i f) k (λ x. cc)) ∙ v)

    -- an entry gives way to what its spot leads to
    module _ (from : begin ≤ place e) (to : place e < end) (room : e.spot < length spots → mark_of (length spots) begin (place e) e.spot < length marks)
        (is_over : (i f : ℕ) → spot_at spots e.spot ≡ spot.Close i f → was_visited marks (mark_of (length spots) begin (place e) e.spot) ≡ true
        → (nonempty (stops_give text spots kept) ≡ true) ⊎ (gives text spots e.spot e.way ≡ [])) where
      abbrev after : Spot → Bool → List Stop
      after s seen = (comes text s seen (bare e).1 ++ keeps text s seen (bare e).1) ++ map bare es

      inside : (s : Spot) → spot_at spots e.spot ≡ s → e.spot < length spots → is_unmarked s ≡ false
          → (seen : Bool) → was_visited marks (mark_of (length spots) begin (place e) e.spot) ≡ seen
          → Searching goal (slice_set marks (mark_of (length spots) begin (place e) e.spot) true) kept
          ((cond seen [] (leads text s (bare e).1) ++ cond seen [] (leads_on text s (bare e).1)) ++ map bare es)
      inside s k few plain true v =
          subst (λ bs. Searching goal bs kept (map bare es)) (sym (visited_again marks (mark_of (length spots) begin (place e) e.spot) v))
          (leave marks tried [] [] are refl tt
          (drop_tried s k plain
          (own_of spots (was_tried (length spots) begin marks (place e)) (tried (place e)) (are (place e)) e.spot
          (tried-is (length spots) begin marks (place e) e.spot from few ∙ v) (ap is_close k ∙ own_plain text spots falls (place e) s plain))))
      inside s k few plain false v = turn_new from to few (room few) v s k plain

      past : (seen : Bool) → spot_at spots e.spot ≡ spot.Fail → Searching goal marks kept ((cond seen [] [] ++ cond seen [] []) ++ map bare es)
      past true k = leave marks tried [] [] are refl tt (drop_entry (gives_fail text spots falls (place e) e k))
      past false k = leave marks tried [] [] are refl tt (drop_entry (gives_fail text spots falls (place e) e k))

      at_spot : (seen : Bool) → was_visited marks (mark_of (length spots) begin (place e) e.spot) ≡ seen
          → (s : Spot) → spot_at spots e.spot ≡ s → (s ≡ spot.Match → ⊥) → e.spot < length spots
          → Searching goal (visiting s (mark_of (length spots) begin (place e) e.spot) marks) kept (after s seen)
      at_spot seen v (spot.Close i f) k live few = ended seen v
        where
          mark : ℕ
          mark = mark_of (length spots) begin (place e) e.spot

          ended : (seen : Bool) → was_visited marks mark ≡ seen
              → Searching goal (slice_set marks mark true) kept ((cond seen [] ((f, closed i (bare e).1) ∷ []) ++ cond seen [] []) ++ map bare es)
          ended true v =
              subst (λ bs. Searching goal bs kept (map bare es)) (sym (visited_again marks mark v))
              (leave marks tried [] [] are refl tt (drop_answered (is_over i f k v)))
          ended false v =
              leave (slice_set marks mark true) tried (entry f (closed i e.way) ∷ []) ((f, closed i (bare e).1) ∷ [])
              (AreMarks-ended spots begin marks (place e) e.spot from few (room few) tried (ap is_close k) are) refl
              (((λ past. absurd (omega (arith, past, to))), calm), tt) (close_entry i f k)
      at_spot seen v spot.Match k live few = absurd (live refl)
      at_spot seen v spot.Fail k live few = inside spot.Fail k few refl seen v
      at_spot seen v (spot.Bytes f set) k live few = inside (spot.Bytes f set) k few refl seen v
      at_spot seen v (spot.Chars f set) k live few = inside (spot.Chars f set) k few refl seen v
      at_spot seen v (spot.Look l f) k live few = inside (spot.Look l f) k few refl seen v
      at_spot seen v (spot.Jump f) k live few = inside (spot.Jump f) k few refl seen v
      at_spot seen v (spot.Split a b) k live few = inside (spot.Split a b) k few refl seen v
      at_spot seen v (spot.Open f) k live few = inside (spot.Open f) k few refl seen v

      turn_entry : (seen : Bool) → was_visited marks (mark_of (length spots) begin (place e) e.spot) ≡ seen → (spot_at spots e.spot ≡ spot.Match → ⊥)
          → Searching goal (trying text spots begin (place e) e.spot marks) kept (after (spot_at spots e.spot) seen)
      turn_entry seen v live =
          elim (cases_lt e.spot (length spots)) [
            | inl few ↦ subst (λ (b : Bool). Searching goal (if b then visiting (spot_at spots e.spot) (mark_of (length spots) begin (place e) e.spot) marks else marks) kept (after (spot_at spots e.spot) seen))
                (sym (lt-ltb e.spot (length spots) few)) (at_spot seen v (spot_at spots e.spot) refl live few)
            | inr many ↦ let fail : spot_at spots e.spot ≡ spot.Fail = get_or_past spots e.spot spot.Fail many in
                subst (λ (b : Bool). Searching goal (if b then visiting (spot_at spots e.spot) (mark_of (length spots) begin (place e) e.spot) marks else marks) kept (after (spot_at spots e.spot) seen))
                (sym (le-ltb e.spot (length spots) many)) (subst (λ s. Searching goal marks kept (after s seen)) (sym fail) (past seen fail))
          ]

  -- an entry that has seen nothing gives what it gives without what it saw
  bare_gives : (e : Entry) → seen_by e ≡ [] → gives text spots e.spot e.way ≡ stop_gives text spots (bare e)
  bare_gives e new =
      ap (λ xs. gives text spots e.spot (way e.way.starts (record { at = e.way.run.at; groups = e.way.run.groups; seen = xs }))) new

  -- the first of the stack apart
  module _ (goal : Option Run) (marks : List Bool) (kept rest : List Stop) (p : Stop) where
    abbrev pub At : Type 0
    At = (tried : ℕ → List ℕ) × (e : Entry) × (es : List Entry) × AreMarks spots begin marks tried × (bare e ≡ p) × (map bare es ≡ rest)
        × Outside (e ∷ es) × Blocking text spots falls goal tried (stops_give text spots kept) (e ∷ es)

    pub apart : Searching goal marks kept (p ∷ rest) → At
    apart c = cases c.entries c.are_stack c.outside c.blocking
      where
        cases : (entries : List Entry) → map bare entries ≡ p ∷ rest → Outside entries
            → Blocking text spots falls goal c.tried (stops_give text spots kept) entries → At
        cases [] same out b = absurd (cons_not_nil p rest (sym same))
        cases (e ∷ es) same out b = (c.tried, e, es, c.are_marks, cons_head same, cons_tail same, out, b)

    -- one turn
    pub Searching-turn : (marks' : List Bool) (stack' : List Stop) → begin ≤ p.1.run.at → p.1.run.at < end
        → (p.0 < length spots → mark_of (length spots) begin p.1.run.at p.0 < length marks)
        → EndsBy text spots falls begin end marks kept (p ∷ rest)
        → Searching goal marks kept (p ∷ rest) → GivesAllWayTo text spots falls begin end p marks marks' rest stack' → Searching goal marks' kept stack'
    Searching-turn marks' stack' from to room ends c turned =
        let a = apart c in
        let e = a.1 in
        let now : GivesAllWayTo text spots falls begin end (bare e) marks marks' (map bare a.2) stack' =
        subst (λ r. GivesAllWayTo text spots falls begin end (bare e) marks marks' r stack') (sym a.5)
        (subst (λ q. GivesAllWayTo text spots falls begin end q marks marks' rest stack') (sym a.4) turned) in
        subst (λ bs. Searching goal bs kept stack') (sym now.1)
        (subst (λ st. Searching goal (trying text spots begin (place e) e.spot marks) kept st) (sym now.0)
        (turn_entry goal marks kept a.0 e a.2 a.3 a.6.0.1 a.6.1 a.7 (subst (λ (q : Stop). begin ≤ q.1.run.at) (sym a.4) from)
        (subst (λ (q : Stop). q.1.run.at < end) (sym a.4) to)
        (subst (λ (q : Stop). q.0 < length spots → mark_of (length spots) begin q.1.run.at q.0 < length marks) (sym a.4) room)
        (over goal marks kept a.0 e a.2 a.3 a.6.0.1 a.6.1 a.7 (IsNext text spots falls begin end (place e) (p ∷ rest)) (ends (place e)) (λ q n. ap (λ (x : Stop). x.0) a.4 ∙ n.0)
        (subst (λ (q : Stop). begin ≤ q.1.run.at) (sym a.4) from))
        (was_visited marks (mark_of (length spots) begin (place e) e.spot)) refl now.2))

    -- one at a dead spot is left out
    pub Searching-dead : IsDead text spots p.1.run.at p.0 → Searching goal marks kept (p ∷ rest) → Searching goal marks kept rest
    Searching-dead dead c =
        let a = apart c in
        record {
          tried = a.0;
          entries = a.2;
          are_marks = a.3;
          are_stack = a.5;
          outside = a.6.1;
          blocking =
              drop_entry goal marks kept a.0 a.1 a.2 a.3 a.6.0.1 a.6.1 a.7
              (gives-dead text spots (place a.1) a.1.spot a.1.way refl (subst (λ (q : Stop). IsDead text spots q.1.run.at q.0) (sym a.4) dead));
        }

    -- so is the second, at the same place
    pub Searching-dead_second : (more : List Stop) (q : Stop) → rest ≡ q ∷ more → q.1.run.at ≡ p.1.run.at → IsDead text spots q.1.run.at q.0
        → Searching goal marks kept (p ∷ rest) → Searching goal marks kept (p ∷ more)
    Searching-dead_second more q is here dead c =
        let a = apart c in cases a.0 a.1 a.2 a.3 a.4 (a.5 ∙ is) a.6 a.7
      where
        cases : (tried : ℕ → List ℕ) (e : Entry) (es : List Entry) → AreMarks spots begin marks tried → bare e ≡ p → map bare es ≡ q ∷ more
            → Outside (e ∷ es) → Blocking text spots falls goal tried (stops_give text spots kept) (e ∷ es) → Searching goal marks kept (p ∷ more)
        cases tried e [] are first same out b = absurd (cons_not_nil q more (sym same))
        cases tried e (f ∷ es) are first same out b =
            let second : bare f ≡ q = cons_head same in record {
              tried = tried;
              entries = e ∷ es;
              are_marks = are;
              are_stack = ap₂ (λ (x : Stop) (xs : List Stop). x ∷ xs) first (cons_tail same);
              outside = (out.0, out.1.1);
              blocking =
                  dropped-second text spots falls goal tried (stops_give text spots kept) e f es
                  (ap (λ (x : Stop). x.1.run.at) second ∙ here ∙ sym (ap (λ (x : Stop). x.1.run.at) first))
                  (gives-dead text spots (place f) f.spot f.way refl (subst (λ (x : Stop). IsDead text spots x.1.run.at x.0) (sym second) dead)) b;
            }

    -- a thread that goes on past the block is kept
    pub Searching-kept : end ≤ p.1.run.at → Searching goal marks kept (p ∷ rest) → Searching goal marks (kept ++ p ∷ []) rest
    Searching-kept past c =
        let a = apart c in
        let new : seen_by a.1 ≡ [] = a.6.0.0 (subst (λ (q : Stop). end ≤ q.1.run.at) (sym a.4) past) in
        let given : gives text spots a.1.spot a.1.way ≡ stop_gives text spots p = bare_gives a.1 new ∙ ap (stop_gives text spots) a.4 in
        record {
          tried = a.0;
          entries = a.2;
          are_marks = a.3;
          are_stack = a.5;
          outside = a.6.1;
          blocking =
              subst (λ ks. Blocking text spots falls goal a.0 ks a.2)
              (ap (λ xs. stops_give text spots kept ++ xs) (given ∙ sym (append-nil _)) ∙ sym (flat_map-append (stop_gives text spots) kept (p ∷ [])))
              (kept-later text spots falls goal a.0 (stops_give text spots kept) a.1 a.2 a.7);
        }

    -- at a match the search of the block is over
    pub Searching-match : spot_at spots p.0 ≡ spot.Match → Searching goal marks kept (p ∷ rest)
        → option_or (first_of (stops_give text spots kept)) (Some (forget p.1.run)) ≡ goal
    Searching-match k c =
        let a = apart c in
        ap (λ (x : Stop). option_or (first_of (stops_give text spots kept)) (Some (forget x.1.run))) (sym a.4)
        ∙ blocking-match text spots falls goal a.0 (stops_give text spots kept) a.1 a.2 (ap (λ (x : Stop). spot_at spots x.0) a.4 ∙ k) a.7

    -- so it is at the end of a group behind which a match ends
    pub Searching-ended : (i f : ℕ) → spot_at spots p.0 ≡ spot.Close i f → spot_at spots f ≡ spot.Match → Searching goal marks kept (p ∷ rest)
        → option_or (first_of (stops_give text spots kept)) (Some (forget (closed i p.1).run)) ≡ goal
    Searching-ended i f k m c =
        let a = apart c in
        ap (λ (x : Stop). option_or (first_of (stops_give text spots kept)) (Some (forget (closed i x.1).run))) (sym a.4)
        ∙ blocking-match text spots falls goal a.0 (stops_give text spots kept) (entry f (closed i a.1.way)) a.2 m
        (close_entry goal marks kept a.0 a.1 a.2 a.3 a.6.0.1 a.6.1 a.7 i f (ap (λ (x : Stop). spot_at spots x.0) a.4 ∙ k))

  -- a thread comes into the block
  pub Searching-begin : (marks : List Bool) (kept : List Stop) (p : Stop) → p.1.run.seen ≡ []
      → AreSpent text spots begin marks (some_run (stops_give text spots kept))
      → Searching (first_of (stops_give text spots kept ++ stop_gives text spots p)) marks kept (p ∷ [])
  Searching-begin marks kept p new spent = record {
    tried = tried_by spots begin marks;
    entries = entry p.0 p.1 ∷ [];
    are_marks = AreMarks-tried spots begin marks;
    are_stack = ap (λ xs. (p.0, way p.1.starts (record { at = p.1.run.at; groups = p.1.run.groups; seen = xs })) ∷ []) (sym new);
    outside = (((λ past. new), subst NoTaker (sym new) NoTaker-none), tt);
    blocking =
        blocking-begin text spots falls (tried_by spots begin marks) (stops_give text spots kept) (entry p.0 p.1) new
        (λ at m k. elim (spent at m (was_own spots (was_tried (length spots) begin marks at) (tried_by spots begin marks at) (AreMarks-tried spots begin marks at) m k)) [
          | inl some ↦ inl (sym (some_run-nonempty _) ∙ some)
          | inr dead ↦ inr dead
        ]);
  }

  -- when none is left
  pub Searching-end : (goal : Option Run) (marks : List Bool) (kept : List Stop) → EndsBy text spots falls begin end marks kept [] → Searching goal marks kept []
      → AreSpent text spots begin marks (some_run (stops_give text spots kept)) × (first_of (stops_give text spots kept) ≡ goal)
  Searching-end goal marks kept ends c = cases c.entries c.are_stack c.blocking
    where
      cases : (entries : List Entry) → map bare entries ≡ [] → Blocking text spots falls goal c.tried (stops_give text spots kept) entries
          → AreSpent text spots begin marks (some_run (stops_give text spots kept)) × (first_of (stops_give text spots kept) ≡ goal)
      cases (e ∷ es) same b = absurd (cons_not_nil (bare e) (map bare es) same)
      cases [] same b =
          let over = blocking-end text spots falls goal c.tried (stops_give text spots kept) b in (
            (λ at m k. elim (ended-all text spots falls at (was_tried (length spots) begin marks at) (c.tried at) (nonempty (stops_give text spots kept))
                (IsNext text spots falls begin end at []) (c.are_marks at) (ends at) (λ q n. n) (over.0 at) m k) [
                  | inl some ↦ inl (some_run-nonempty _ ∙ some)
                  | inr dead ↦ inr dead
                ]),
            over.1,
          )
