-- Bytes that the search of a block runs over.
use Rattle.std.proofs.Common.{◌≡◌, ℕ, zero, suc, ◌+◌, ◌-◌, ◌<◌, ◌≤◌, Bool, true, false, ◌⊎◌, inl, inr, List, [], ◌∷◌, ◌++◌, length, map, slice_index, Option, Some, refl, sym, ap, ap₂, ◌∙◌, subst, true≢false, append-nil, append_assoc, arith}
use Rattle.std.specs.Prelude.{◌&&◌, not, option_map}
use Rattle.std.specs.List.{flat_map}
use Rattle.std.proofs.Math.ListN.{length-set}
use Rattle.std.proofs.lemmas.Bool.{cond-false, or_right}
use Rattle.hir_tree.specs.Runs.{Run, moved, mark, is_seen, byte_size, char_size, as_list, take_size, first}
use Rattle.hir_tree.specs.RunsLaws.{forget}
use Rattle.hir_core.specs.Blocks.{mark_of, KeepsMarks}
use Rattle.hir_core.specs.RunsOver.{StepsOver, RunsOver}
use Rattle.hir_program.specs.Loops.{LeadsTo, AreWays, IsRunOver}
use Rattle.hir_program.specs.Masks.{is_taker, takes_byte}
use Rattle.hir_core.specs.Pass.{stops_give, was_visited}
use Rattle.hir_program.specs.Program.{spot_at, is_close, is_unmarked, Way, way, marked, follow, gives, ClosesFall}
use Rattle.hir_core.specs.Trails.{Stop, placed_at}
use Rattle.hir_program.specs.declared.loops.Ways.{Ways}
use Rattle.hir_program.specs.declared.spot.Spot.{Spot}
use Rattle.hir_program.specs.declared.spot.Spot.TheVariants as spot
use Rattle.hir_program.proofs.PlacedLemmas.{gives-at}
use Rattle.hir_core.proofs.closure.ClosureLemmas.{Entry, entry, seen_by, nonempty, nonempty-append, Covers}
use Rattle.hir_core.proofs.closure.EndLemmas.{own_plain}
use Rattle.hir_core.proofs.closure.TurnLemmas.{bare, set_stays, some_run-nonempty, fewer_unset, unset_bits, turn_weight}
use Rattle.hir_core.proofs.run_over.OverLemmas.{loop-live, loop-plain, loop-within}
use Rattle.hir_core.proofs.pass.PassLemmas.{Covers-above, Stands-kept, first_before, gives_fresh, nowhere}
use Rattle.hir_program.proofs.ScanLemmas.{gives-dead}
use Rattle.hir_core.proofs.block.LevelLemmas.{place, level}
use Rattle.hir_core.proofs.block.SizeLemmas.{byte-size, char-size, one_if}
use Rattle.hir_core.proofs.block.BlockLemmas.{Blocking, runs_of, top-level, moved-as}
use Rattle.hir_core.proofs.block.BlockTurnLemmas.{NoTaker, NoTaker-none, NoTaker-more, Outside, Searching, apart, stands_goal}
use Rattle.hir_core.proofs.block.BlockEndLemmas.{EndsBy, EndsBy-set}
use Rattle.hir_core.proofs.block.FollowLemmas.{FollowsIn, HasRoom}
use Rattle.hir_core.proofs.block.MarkLemmas.{adding, adding-here, adding-elsewhere, AreMarks, AreMarks-adding, KeepsMarks-none, KeepsMarks-then, mark-within, tried-is}

second : (a b : Bool) → (a && b) ≡ true → b ≡ true
second true b e = e
second false b e = absurd (true≢false (sym e))

-- ---- lists of runs that begin with others

-- there is one in the others, if there is one in the list
up_to : (kept xs ys more : List Run) → ys ≡ xs ++ more → (more ≡ []) ⊎ (nonempty xs ≡ true) → nonempty (kept ++ ys) ≡ true → nonempty (kept ++ xs) ≡ true
up_to kept xs ys more is (inl nothing) k =
    ap (λ (zs : List Run). nonempty (kept ++ zs)) (sym (is ∙ ap (λ (zs : List Run). xs ++ zs) nothing ∙ append-nil xs)) ∙ k
up_to kept xs ys more is (inr some) k = nonempty-append kept xs ∙ or_right _ _ some

-- the first run is the same
first_up_to : (kept xs ys more rest : List Run) → ys ≡ xs ++ more → (more ≡ []) ⊎ (nonempty xs ≡ true)
    → first (map forget (kept ++ (xs ++ rest))) ≡ first (map forget (kept ++ (ys ++ rest)))
first_up_to kept xs ys more rest is (inl nothing) =
    ap (λ (zs : List Run). first (map forget (kept ++ (zs ++ rest)))) (sym (is ∙ ap (λ (zs : List Run). xs ++ zs) nothing ∙ append-nil xs))
first_up_to kept xs ys more rest is (inr some) =
    ap (λ (zs : List Run). first (map forget zs)) (sym (append_assoc kept xs rest))
    ∙ first_before (kept ++ xs) rest (more ++ rest) (nonempty-append kept xs ∙ or_right _ _ some)
    ∙ ap (λ (zs : List Run). first (map forget zs)) (append_assoc kept xs (more ++ rest))
    ∙ ap (λ (zs : List Run). first (map forget (kept ++ zs))) (sym (append_assoc xs more rest))
    ∙ ap (λ (zs : List Run). first (map forget (kept ++ (zs ++ rest)))) (sym is)

module _ (text : List ℕ) (spots : List Spot) (falls : ClosesFall spots) where
  -- a byte later
  abbrev pub later : Way → Way
  later t = way t.starts (moved 1 (forget t.run))

  -- a spot that takes the byte gives what follows it
  taker-gives : (r q : ℕ) (t : Way) → LeadsTo (spot_at spots r) q → t.run.at < length text → slice_index text t.run.at < 128
      → takes_byte (spot_at spots r) (slice_index text t.run.at) ≡ true → is_seen r t.run.seen ≡ false
      → gives text spots r t ≡ gives text spots q (later t)
  taker-gives r q t leads within low takes new = cases (spot_at spots r) refl leads takes
    where
      on : (s : Spot) (size : ℕ → Option ℕ) (f : ℕ) → spot_at spots r ≡ s → is_unmarked s ≡ false → f ≡ q
          → follow text spots (gives text spots) s (marked r t) ≡ flat_map (λ u. gives text spots f (way t.starts u)) (take_size size (mark r t.run))
          → size t.run.at ≡ Some 1 → gives text spots r t ≡ gives text spots q (later t)
      on s size f k plain next same one =
          gives-at text spots falls r s t k ∙ cond-false _ _ _ plain ∙ cond-false _ _ _ new ∙ same
          ∙ ap (λ (o : Option ℕ). flat_map (λ u. gives text spots f (way t.starts u)) (as_list (option_map (λ b. moved b (mark r t.run)) o))) one
          ∙ append-nil _ ∙ ap (λ (p : ℕ). gives text spots p (later t)) next

      cases : (s : Spot) → spot_at spots r ≡ s → LeadsTo s q → takes_byte s (slice_index text t.run.at) ≡ true → gives text spots r t ≡ gives text spots q (later t)
      cases (spot.Bytes f set) k leads takes =
          on (spot.Bytes f set) (byte_size set text) f k refl leads.1 refl (byte-size text set t.run.at within ∙ ap one_if takes)
      cases (spot.Chars f set) k leads takes =
          on (spot.Chars f set) (char_size set text) f k refl leads.1 refl (char-size text set t.run.at within low ∙ ap one_if (second _ _ takes))
      cases (spot.Look l f) k leads takes = absurd (true≢false (sym leads.0))
      cases (spot.Jump f) k leads takes = absurd (true≢false (sym leads.0))
      cases (spot.Split a b) k leads takes = absurd (true≢false (sym leads.0))
      cases (spot.Open f) k leads takes = absurd (true≢false (sym leads.0))
      cases (spot.Close i f) k leads takes = absurd (true≢false (sym leads.0))
      cases spot.Fail k leads takes = absurd (true≢false (sym leads.0))
      cases spot.Match k leads takes = absurd (true≢false (sym leads.0))

  -- a spot that takes bytes isn't among those that don't
  not_among : (begin end r : ℕ) (xs : List ℕ) → is_taker (spot_at spots r) ≡ true → NoTaker text spots falls begin end xs → is_seen r xs ≡ false
  not_among begin end r xs taker none = cases (is_seen r xs) refl
    where
      cases : (b : Bool) → is_seen r xs ≡ b → b ≡ false
      cases true k = absurd (true≢false (sym taker ∙ none r k))
      cases false k = refl

  -- a loop gives what it gives a byte later, and then more only if there is a run before
  abbrev pub GoesOn : ℕ → Way → Type 0
  GoesOn q t =
      (more : List Run) × (follow text spots (gives text spots) (spot_at spots q) (marked q t) ≡ gives text spots q (later t) ++ more)
      × ((more ≡ []) ⊎ (nonempty (gives text spots q (later t)) ≡ true))

  module _ (q : ℕ) (w : Ways) (t : Way) (are : AreWays spots q w) (within : t.run.at < length text) (byte : IsRunOver spots w (slice_index text t.run.at))
      (begin end : ℕ) (none : NoTaker text spots falls begin end t.run.seen) where
    -- the way round
    round-gives : (a b : ℕ) → spot_at spots q ≡ spot.Split a b → gives text spots w.round (marked q t) ≡ gives text spots q (later t)
    round-gives a b k =
        taker-gives w.round q (marked q t) are.round within byte.0 byte.1
        (not_among begin end w.round (q ∷ t.run.seen) are.round.0 (NoTaker-more text spots falls begin end q t.run.seen (ap is_taker k) none))

    -- the way out, where it is sure: the loop gives a run a byte later
    sure-gives : spot_at spots q ≡ spot.Split w.round w.out → w.is_sure ≡ true → nonempty (gives text spots q (later t)) ≡ true
    sure-gives k sure =
        ap nonempty (gives-at text spots falls q (spot.Split w.round w.out) (later t) k)
        ∙ nonempty-append (gives text spots w.round (marked q (later t))) (gives text spots w.out (marked q (later t)))
        ∙ or_right _ _ (sym (some_run-nonempty _) ∙ are.sure sure falls text (marked q (later t)))

    pub goes-on : GoesOn q t
    goes-on = elim are.sides [
      | inl split ↦ (
        gives text spots w.out (marked q t),
        ap (λ (s : Spot). follow text spots (gives text spots) s (marked q t)) split
            ∙ ap (λ (xs : List Run). xs ++ gives text spots w.out (marked q t)) (round-gives w.round w.out split),
        elim byte.2 [
          | inl sure ↦ inr (sure-gives split sure)
          | inr dead ↦ inl (gives-dead text spots t.run.at w.out (marked q t) refl (dead text t.run.at within refl))
        ],
      )
      | inr split ↦ (
        [],
        ap (λ (s : Spot). follow text spots (gives text spots) s (marked q t)) split.0
            ∙ ap₂ (λ (xs ys : List Run). xs ++ ys) (out_first split.1) (round-gives w.out w.round split.0)
            ∙ sym (append-nil _),
        inl refl,
      )
    ]
      where
        out_first : w.is_sure ≡ false → gives text spots w.out (marked q t) ≡ []
        out_first unsure = elim byte.2 [
          | inl sure ↦ absurd (true≢false (sym sure ∙ unsure))
          | inr dead ↦ gives-dead text spots t.run.at w.out (marked q t) refl (dead text t.run.at within refl)
        ]

  module _ (begin end : ℕ) (goal : Option Run) (marks : List Bool) (kept : List Stop) where
    module _ (tried : ℕ → List ℕ) (e : Entry) (es : List Entry) (are : AreMarks spots begin marks tried)
        (calm : NoTaker text spots falls begin end (seen_by e)) (out : Outside text spots falls begin end es)
        (h : Blocking text spots falls goal tried (stops_give text spots kept) (e ∷ es)) (new : List Bool) (room : HasRoom spots begin end marks)
        (from : begin ≤ place e) (step : StepsOver text spots begin end e.spot (place e) marks new) where
      abbrev below : List Entry
      below = level (place e) es ++ nowhere text spots falls (place e) ∷ []

      abbrev on : Entry
      on = entry e.spot (later e.way)

      few : e.spot < length spots
      few = loop-within spots e.spot step.ways step.are_ways

      inside : mark_of (length spots) begin (place e) e.spot < length marks
      inside = mark-within (length spots) begin end (place e) e.spot (length marks) room from step.inside few

      plain : is_unmarked (spot_at spots e.spot) ≡ false
      plain = elim step.are_ways.sides [ inl split ↦ ap is_unmarked split | inr split ↦ ap is_unmarked split.0 ]

      untried : is_seen e.spot (tried (place e)) ≡ false
      untried =
          are (place e) e.spot
          ∙ ap (λ (b : Bool). b && not (is_close (spot_at spots e.spot))) (tried-is (length spots) begin marks (place e) e.spot from few ∙ step.new_here)

      top : Covers text spots falls (place e) (tried (place e)) (nonempty (stops_give text spots kept)) (tried (place e)) (e ∷ below)
      top = top-level text spots falls goal tried (stops_give text spots kept) e es h

      run_on : GoesOn e.spot e.way
      run_on = goes-on e.spot step.ways e.way step.are_ways step.within step.byte begin end calm

      its : gives text spots e.spot e.way ≡ follow text spots (gives text spots) (spot_at spots e.spot) (marked e.spot e.way)
      its = gives_fresh text spots falls (place e) (tried (place e)) (nonempty (stops_give text spots kept)) e below (spot_at spots e.spot) refl plain untried top

      covers : Covers text spots falls (place e) (e.spot ∷ tried (place e)) (nonempty (stops_give text spots kept ++ gives text spots on.spot on.way))
          (e.spot ∷ tried (place e)) below
      covers =
          Covers-above text spots falls (place e) (e.spot ∷ tried (place e)) below
          (nonempty (stops_give text spots kept ++ follow text spots (gives text spots) (spot_at spots e.spot) (marked e.spot e.way)))
          (nonempty (stops_give text spots kept ++ gives text spots on.spot on.way)) (e.spot ∷ tried (place e)) (e.spot ∷ tried (place e))
          (up_to (stops_give text spots kept) (gives text spots on.spot on.way) _ run_on.0 run_on.1 run_on.2) (λ m k. k)
          (Stands-kept text spots falls (place e) (stands_goal text spots falls begin end goal marks kept tried e es are calm out h) (tried (place e))
          (stops_give text spots kept) (follow text spots (gives text spots) (spot_at spots e.spot) (marked e.spot e.way)) e below (spot_at spots e.spot) refl plain untried refl
          (top, refl)).0

      -- the entry goes on after the byte
      entry-over : Searching text spots falls begin end goal new kept ((e.spot, placed_at (place e + 1) (bare e).1) ∷ map bare es)
      entry-over = record {
        tried = adding (place e) e.spot tried;
        entries = on ∷ es;
        are_marks =
            subst (λ (bs : List Bool). AreMarks spots begin bs (adding (place e) e.spot tried)) (sym step.marks)
            (AreMarks-adding spots begin marks (place e) e.spot from few inside tried (own_plain text spots falls (place e) (spot_at spots e.spot) plain) are);
        are_stack = refl;
        outside = (((λ past. refl), NoTaker-none text spots falls begin end), out);
        blocking =
            moved-as text spots falls goal tried (adding (place e) e.spot tried) (stops_give text spots kept) e on es h
            (first_up_to (stops_give text spots kept) (gives text spots on.spot on.way) (gives text spots e.spot e.way) run_on.0 (runs_of text spots falls es)
            (its ∙ run_on.1) run_on.2)
            (up_to [] (gives text spots on.spot on.way) (gives text spots e.spot e.way) run_on.0 (its ∙ run_on.1) run_on.2)
            (let k : place e < place e + 1 = omega arith in k) refl (adding-elsewhere (place e) e.spot tried)
            (subst (λ (v : List ℕ). Covers text spots falls (place e) v (nonempty (stops_give text spots kept ++ gives text spots on.spot on.way)) v below)
            (sym (adding-here (place e) e.spot tried)) covers);
      }

    -- a byte is run over at the first of the stack
    pub Searching-over : (rest : List Stop) (p : Stop) (new : List Bool) → HasRoom spots begin end marks → begin ≤ p.1.run.at
        → StepsOver text spots begin end p.0 p.1.run.at marks new → Searching text spots falls begin end goal marks kept (p ∷ rest)
        → Searching text spots falls begin end goal new kept ((p.0, placed_at (p.1.run.at + 1) p.1) ∷ rest)
    Searching-over rest p new room from step c =
        let a = apart text spots falls begin end goal marks kept rest p c in
        subst (λ (ps : List Stop). Searching text spots falls begin end goal new kept ps)
        (ap₂ (λ (x : Stop) (xs : List Stop). (x.0, placed_at (x.1.run.at + 1) x.1) ∷ xs) a.4 a.5)
        (entry-over a.0 a.1 a.2 a.3 a.6.0.1 a.6.1 a.7 new room (subst (λ (x : Stop). begin ≤ x.1.run.at) (sym a.4) from)
        (subst (λ (x : Stop). StepsOver text spots begin end x.0 x.1.run.at marks new) (sym a.4) step))

-- what running over bytes keeps: the marks that were set
pub record MarksMore (old new : List Bool) : Type 0 where
  pub keeps : KeepsMarks old new
  pub fewer : unset_bits new ≤ unset_bits old

module _ (text : List ℕ) (spots : List Spot) (begin end : ℕ) (q : ℕ) where
  MarksMore-step : (at : ℕ) (old new : List Bool) → HasRoom spots begin end old → begin ≤ at → StepsOver text spots begin end q at old new → MarksMore old new
  MarksMore-step at old new room from step = record {
    keeps = record {
      room = ap length step.marks ∙ length-set _ _ _;
      stay = λ m is. ap (λ (bs : List Bool). was_visited bs m) step.marks ∙ set_stays old mark m is;
    };
    fewer = let one = fewer_unset old mark inside step.new_here in rw step.marks (omega arith);
  }
    where
      mark : ℕ
      mark = mark_of (length spots) begin at q

      inside : mark < length old
      inside = mark-within (length spots) begin end at q (length old) room from step.inside (loop-within spots q step.ways step.are_ways)

  -- bytes are run over at the first of the stack
  pub FollowsIn-over : (rest : List Stop) (n at : ℕ) (goal : Option Run) (kept : List Stop) (w : Way) (old new : List Bool) → HasRoom spots begin end old
      → RunsOver text spots begin end q n at old new → FollowsIn text spots begin end goal old kept ((q, placed_at at w) ∷ rest)
      → FollowsIn text spots begin end goal new kept ((q, placed_at (at + n) w) ∷ rest) × MarksMore old new
  FollowsIn-over rest zero at goal kept w old new room same h = (
    subst (λ (bs : List Bool). FollowsIn text spots begin end goal bs kept ((q, placed_at (at + 0) w) ∷ rest)) (sym same)
        (subst (λ (i : ℕ). FollowsIn text spots begin end goal old kept ((q, placed_at i w) ∷ rest)) (let k : at ≡ at + 0 = omega arith in k) h),
    subst (λ (bs : List Bool). MarksMore old bs) (sym same) (record { keeps = KeepsMarks-none old; fewer = omega arith }),
  )
  FollowsIn-over rest (suc n) at goal kept w old new room (now, over, step) h =
      let before = FollowsIn-over rest n at goal kept w old now room over h in
      let room_now : HasRoom spots begin end now = omega (arith, room, before.1.keeps.room) in
      let from : begin ≤ at + n = before.0.2.0.0 in
      let more = MarksMore-step (at + n) now new room_now from step in (
        subst (λ (i : ℕ). FollowsIn text spots begin end goal new kept ((q, placed_at i w) ∷ rest)) (let k : at + n + 1 ≡ at + suc n = omega arith in k) (
          before.0.0,
          Searching-over text spots before.0.0 begin end goal now kept rest (q, placed_at (at + n) w) new room_now from step before.0.1,
          ((omega (arith, from), omega (arith, step.within)), before.0.2.1),
          before.0.3,
          subst (λ (bs : List Bool). EndsBy text spots before.0.0 begin end bs kept ((q, placed_at (at + n + 1) w) ∷ rest)) (sym step.marks)
              (EndsBy-set text spots before.0.0 begin end now kept rest ((q, placed_at (at + n + 1) w) ∷ rest) (q, placed_at (at + n) w) from
              (loop-within spots q step.ways step.are_ways)
              (mark-within (length spots) begin end (at + n) q (length now) room_now from step.inside (loop-within spots q step.ways step.are_ways))
              (loop-live spots q step.ways step.are_ways) (λ i f k unset. absurd (loop-plain spots q step.ways i f step.are_ways k)) before.0.4),
        ),
        record {
          keeps = KeepsMarks-then before.1.keeps more.keeps;
          fewer = omega (arith, before.1.fewer, more.fewer);
        },
      )

  -- what is to be followed after the run
  pub FollowsIn-run : (at : ℕ) (goal : Option Run) (kept stack others below : List Stop) (w v : Way) (old new : List Bool) → HasRoom spots begin end old
      → w ≡ placed_at w.run.at w → stack ≡ (q, w) ∷ others → v ≡ placed_at at w → below ≡ others → w.run.at ≤ at
      → RunsOver text spots begin end q (at - w.run.at) w.run.at old new → FollowsIn text spots begin end goal old kept stack
      → FollowsIn text spots begin end goal new kept ((q, v) ∷ below) × KeepsMarks old new
      × (turn_weight new ((q, v) ∷ below) ≤ turn_weight old stack)
  FollowsIn-run at goal kept stack others below w v old new room whole is there same forward over h =
      let here : FollowsIn text spots begin end goal old kept ((q, placed_at w.run.at w) ∷ others) =
      subst (λ (u : Way). FollowsIn text spots begin end goal old kept ((q, u) ∷ others)) whole
      (subst (λ (ps : List Stop). FollowsIn text spots begin end goal old kept ps) is h) in
      let done = FollowsIn-over others (at - w.run.at) w.run.at goal kept w old new room over here in
      let stop : (q, placed_at (w.run.at + (at - w.run.at)) w) ∷ others ≡ (q, v) ∷ below =
      ap₂ (λ (u : Way) (ps : List Stop). (q, u) ∷ ps)
      (ap (λ (i : ℕ). placed_at i w) (let k : w.run.at + (at - w.run.at) ≡ at = omega arith in k) ∙ sym there) (sym same) in (
        subst (λ (ps : List Stop). FollowsIn text spots begin end goal new kept ps) stop done.0,
        done.1.keeps,
        rw (is, same) (let fewer = done.1.fewer in omega arith),
      )
