-- The loop that follows a thread within a block.
use Rattle.std.proofs.Common.{◌≡◌, ℕ, ◌+◌, ◌-◌, ◌*◌, ◌<◌, ◌≤◌, Bool, true, false, inl, inr, List, [], ◌∷◌, ◌++◌, length, Option, Some, None, if◌then◌else◌, refl, sym, ap, ◌∙◌, subst, arith}
use Rattle.std.specs.Prelude.{nat_lt, slice_set}
use Rattle.std.specs.Option.{option_or}
use Rattle.std.proofs.lemmas.Bool.{cases_lt, le-ltb, lt-ltb}
use Rattle.std.proofs.lemmas.List.{get_or_past}
use Rattle.hir_tree.specs.Looks.{holds}
use Rattle.hir_tree.specs.Runs.{Run, byte_size, char_size}
use Rattle.hir_tree.specs.RunsLaws.{forget}
use Rattle.hir_tree.proofs.ListLemmas.{All-append, All-weaker}
use Rattle.hir_core.specs.Blocks.{mark_of, trying, AreLeft, ComesToMatch, GivesWayTo, AreSpent, KeepsMarks}
use Rattle.hir_core.specs.Pass.{AllFrom, first_of, taken, leads, leads_on, comes, ends_match, keeps, was_visited, visiting, stop_gives, stops_give}
use Rattle.hir_program.specs.Program.{spot_at, Way, ClosesFall, some_run}
use Rattle.hir_core.specs.Trails.{Stop}
use Rattle.hir_program.specs.declared.spot.Spot.{Spot}
use Rattle.hir_program.specs.declared.spot.Spot.TheVariants as spot
use Rattle.hir_core.proofs.closure.TurnLemmas.{visited_again, turn_weight, weight_less, weight_set, goes_on, keeps_later, length-visiting, set_stays}
use Rattle.hir_core.proofs.block.BlockEndLemmas.{EndsBy, EndsBy-dead, EndsBy-kept, EndsBy-spent, EndsBy-turn}
use Rattle.hir_core.proofs.block.MarkLemmas.{mark-within}
use Rattle.hir_core.proofs.block.BlockTurnLemmas.{Searching, Searching-turn, Searching-dead, Searching-dead_second, Searching-kept, Searching-match, Searching-ended, Searching-begin, Searching-end}

-- What the loop over the stack of a block keeps true.
abbrev pub FollowsIn : List ℕ → List Spot → ℕ → ℕ → Option Run → List Bool → List Stop → List Stop → Type 0
FollowsIn text spots begin end goal marks kept stack =
    (falls : ClosesFall spots) × Searching text spots falls begin end goal marks kept stack × AllFrom text begin stack × AllFrom text end kept
    × EndsBy text spots falls begin end marks kept stack

-- the marks have room for each spot of the program at each place of the block
abbrev pub HasRoom : List Spot → ℕ → ℕ → List Bool → Type 0
HasRoom spots begin end marks = length spots * (end - begin) ≤ length marks

module _ (text : List ℕ) where
  -- what a thread goes on as at a turn is in the block or past it
  comes_from : (begin : ℕ) (s : Spot) (seen : Bool) (w : Way) → begin ≤ w.run.at → w.run.at ≤ length text → AllFrom text begin (comes text s seen w)
  comes_from begin (spot.Close i f) true w from within = tt
  comes_from begin (spot.Close i f) false w from within = ((from, within), tt)
  comes_from begin spot.Fail true w from within = tt
  comes_from begin spot.Fail false w from within = tt
  comes_from begin spot.Match true w from within = tt
  comes_from begin spot.Match false w from within = tt
  comes_from begin (spot.Bytes f set) true w from within = tt
  comes_from begin (spot.Bytes f set) false w from within = tt
  comes_from begin (spot.Chars f set) true w from within = tt
  comes_from begin (spot.Chars f set) false w from within = tt
  comes_from begin (spot.Look l f) true w from within = tt
  comes_from begin (spot.Look l f) false w from within = cases (holds l text w.run.at)
    where
      cases : (b : Bool) → AllFrom text begin (if b then (f, w) ∷ [] else [])
      cases true = ((from, within), tt)
      cases false = tt
  comes_from begin (spot.Jump f) true w from within = tt
  comes_from begin (spot.Jump f) false w from within = ((from, within), tt)
  comes_from begin (spot.Split a b) true w from within = tt
  comes_from begin (spot.Split a b) false w from within = ((from, within), ((from, within), tt))
  comes_from begin (spot.Open f) true w from within = tt
  comes_from begin (spot.Open f) false w from within = ((from, within), tt)

  keeps_from : (begin : ℕ) (s : Spot) (seen : Bool) (w : Way) → begin ≤ w.run.at → AllFrom text begin (keeps text s seen w)
  keeps_from begin s seen w from =
      All-weaker (λ (x : Stop). (w.run.at < x.1.run.at) × (x.1.run.at ≤ length text)) (λ (x : Stop). (begin ≤ x.1.run.at) × (x.1.run.at ≤ length text))
      (keeps text s seen w) (keeps_later text s seen w) (λ x k. (omega (arith, k.0, from), k.1))

module _ (text : List ℕ) (spots : List Spot) where
  -- a spot leads to two others at most, also by bytes
  on_few : (s : Spot) (w : Way) (rest : List Stop) → length ((leads text s w ++ leads_on text s w) ++ rest) ≤ 2 + length rest
  on_few (spot.Bytes f set) w rest = cases (byte_size set text w.run.at)
    where
      cases : (o : Option ℕ) → length (taken o f w ++ rest) ≤ 2 + length rest
      cases None = omega arith
      cases (Some k) = omega arith
  on_few (spot.Chars f set) w rest = cases (char_size set text w.run.at)
    where
      cases : (o : Option ℕ) → length (taken o f w ++ rest) ≤ 2 + length rest
      cases None = omega arith
      cases (Some k) = omega arith
  on_few (spot.Look l f) w rest = cases (holds l text w.run.at)
    where
      cases : (b : Bool) → length (((if b then (f, w) ∷ [] else []) ++ []) ++ rest) ≤ 2 + length rest
      cases true = omega arith
      cases false = omega arith
  on_few (spot.Jump f) w rest = omega arith
  on_few (spot.Split a b) w rest = omega arith
  on_few (spot.Open f) w rest = omega arith
  on_few (spot.Close i f) w rest = omega arith
  on_few spot.Fail w rest = omega arith
  on_few spot.Match w rest = omega arith

  -- a mark less to be set, or a stop less
  module _ (begin : ℕ) (marks : List Bool) (rest : List Stop) (q : ℕ) (w : Way) (room : q < length spots → mark_of (length spots) begin w.run.at q < length marks)
      (live : (spot_at spots q ≡ spot.Match) → ⊥) where
    abbrev its_mark : ℕ
    its_mark = mark_of (length spots) begin w.run.at q

    abbrev after : Spot → Bool → List Stop
    after s seen = (comes text s seen w ++ keeps text s seen w) ++ rest

    marked_weight : q < length spots → (seen : Bool) → was_visited marks its_mark ≡ seen
        → turn_weight (slice_set marks its_mark true) (after (spot_at spots q) seen) < turn_weight marks ((q, w) ∷ rest)
    marked_weight few true v = weight_less marks _ (q, w) rest (visited_again marks its_mark v)
    marked_weight few false v = weight_set marks its_mark (q, w) _ rest (room few) v (on_few (spot_at spots q) w rest)

    dropped_weight : (seen : Bool) → turn_weight marks (after spot.Fail seen) < turn_weight marks ((q, w) ∷ rest)
    dropped_weight true = omega arith
    dropped_weight false = omega arith

    turn_weight_falls : (seen : Bool) → was_visited marks its_mark ≡ seen
        → turn_weight (trying text spots begin w.run.at q marks) (after (spot_at spots q) seen) < turn_weight marks ((q, w) ∷ rest)
    turn_weight_falls seen v =
        elim (cases_lt q (length spots)) [
          | inl few ↦
              let set : trying text spots begin w.run.at q marks ≡ slice_set marks its_mark true =
              ap (λ (b : Bool). if b then visiting (spot_at spots q) its_mark marks else marks) (lt-ltb q (length spots) few)
              ∙ ap (λ (b : Bool). if b then marks else slice_set marks its_mark true) (goes_on (spot_at spots q) live) in
              subst (λ (bs : List Bool). turn_weight bs (after (spot_at spots q) seen) < turn_weight marks ((q, w) ∷ rest)) (sym set) (marked_weight few seen v)
          | inr many ↦ let fail : spot_at spots q ≡ spot.Fail = get_or_past spots q spot.Fail many in
              subst (λ (b : Bool). turn_weight (if b then visiting (spot_at spots q) its_mark marks else marks) (after (spot_at spots q) seen) < turn_weight marks ((q, w) ∷ rest))
              (sym (le-ltb q (length spots) many))
              (subst (λ s. turn_weight marks (after s seen) < turn_weight marks ((q, w) ∷ rest)) (sym fail) (dropped_weight seen))
        ]

  -- a turn keeps how many marks there are
  pub length-trying : (begin at q : ℕ) (marks : List Bool) → length (trying text spots begin at q marks) ≡ length marks
  length-trying begin at q marks = cases (nat_lt q (length spots))
    where
      cases : (b : Bool) → length (if b then visiting (spot_at spots q) (mark_of (length spots) begin at q) marks else marks) ≡ length marks
      cases true = length-visiting (spot_at spots q) (mark_of (length spots) begin at q) marks
      cases false = refl

  -- a turn keeps the marks that are set
  pub keeps-trying : (begin at q : ℕ) (marks : List Bool) → KeepsMarks marks (trying text spots begin at q marks)
  keeps-trying begin at q marks = record { room = length-trying begin at q marks; stay = in_program (nat_lt q (length spots)) }
    where
      new : ℕ
      new = mark_of (length spots) begin at q

      of_spot : (ends : Bool) (mark : ℕ) → was_visited marks mark ≡ true → was_visited (if ends then marks else slice_set marks new true) mark ≡ true
      of_spot true mark is = is
      of_spot false mark is = set_stays marks new mark is

      in_program : (b : Bool) (mark : ℕ) → was_visited marks mark ≡ true
          → was_visited (if b then visiting (spot_at spots q) new marks else marks) mark ≡ true
      in_program true mark is = of_spot (ends_match (spot_at spots q)) mark is
      in_program false mark is = is

module _ (text : List ℕ) (spots : List Spot) (begin : ℕ) (all left : List Stop) (cut : AreLeft text spots begin all left) where
  -- what is left goes on
  FollowsIn-left : (end : ℕ) (goal : Option Run) (marks : List Bool) (kept : List Stop) → FollowsIn text spots begin end goal marks kept all
      → FollowsIn text spots begin end goal marks kept left
  FollowsIn-left end goal marks kept h = elim cut [
    | inl same ↦ subst (λ ps. FollowsIn text spots begin end goal marks kept ps) (sym same) h
    | inr one ↦ elim one [
      | inl first ↦
          let now : FollowsIn text spots begin end goal marks kept (first.0 ∷ left) = subst (λ ps. FollowsIn text spots begin end goal marks kept ps) first.1 h in (
            now.0,
            Searching-dead text spots now.0 begin end goal marks kept left first.0 first.2 now.1,
            now.2.1,
            now.3,
            EndsBy-dead text spots now.0 begin end marks kept left first.0 first.2 now.4,
          )
      | inr second ↦
          let now : FollowsIn text spots begin end goal marks kept (second.0 ∷ second.1 ∷ second.2) =
          subst (λ ps. FollowsIn text spots begin end goal marks kept ps) second.3 h in
          subst (λ ps. FollowsIn text spots begin end goal marks kept ps) (sym second.4) (
            now.0,
            Searching-dead_second text spots now.0 begin end goal marks kept (second.1 ∷ second.2) second.0 second.2 second.1 refl second.5 second.6 now.1,
            (now.2.0, now.2.1.1),
            now.3,
            now.4,
          )
    ]
  ]

  -- and is no heavier
  weight-left : (marks : List Bool) → turn_weight marks left ≤ turn_weight marks all
  weight-left marks = elim cut [
    | inl same ↦ let k : turn_weight marks left ≡ turn_weight marks all = ap (λ ps. turn_weight marks ps) same in omega arith
    | inr one ↦ elim one [
      | inl first ↦
          let k : turn_weight marks all ≡ turn_weight marks (first.0 ∷ left) = ap (λ ps. turn_weight marks ps) first.1 in
          let less : turn_weight marks left < turn_weight marks (first.0 ∷ left) = omega arith in
          omega arith
      | inr second ↦
          let k : turn_weight marks all ≡ turn_weight marks (second.0 ∷ second.1 ∷ second.2) =
          ap (λ ps. turn_weight marks ps) second.3 in
          let j : turn_weight marks left ≡ turn_weight marks (second.0 ∷ second.2) = ap (λ ps. turn_weight marks ps) second.4 in
          let less : turn_weight marks (second.0 ∷ second.2) < turn_weight marks (second.0 ∷ second.1 ∷ second.2) = omega arith in
          omega arith
    ]
  ]

-- with the first of the stack apart
module _ (text : List ℕ) (spots : List Spot) (begin end : ℕ) (goal : Option Run) (marks : List Bool) (kept rest stack : List Stop) (p : Stop)
    (e : stack ≡ p ∷ rest) (h : FollowsIn text spots begin end goal marks kept stack) where
  searching : Searching text spots h.0 begin end goal marks kept (p ∷ rest)
  searching = subst (λ ps. Searching text spots h.0 begin end goal marks kept ps) e h.1

  from : AllFrom text begin (p ∷ rest)
  from = subst (AllFrom text begin) e h.2

  ends : EndsBy text spots h.0 begin end marks kept (p ∷ rest)
  ends = subst (λ ps. EndsBy text spots h.0 begin end marks kept ps) e h.4

  pub FollowsIn-at : (begin ≤ p.1.run.at) × (p.1.run.at ≤ length text)
  FollowsIn-at = from.0

  -- all that comes in its place
  abbrev all : List Stop
  all =
      (comes text (spot_at spots p.0) (was_visited marks (mark_of (length spots) begin p.1.run.at p.0)) p.1
      ++ keeps text (spot_at spots p.0) (was_visited marks (mark_of (length spots) begin p.1.run.at p.0)) p.1) ++ rest

  -- a turn of it
  pub FollowsIn-turn : (marks' : List Bool) (stack' : List Stop) → HasRoom spots begin end marks → p.1.run.at < end
      → GivesWayTo text spots begin p marks marks' rest stack' → FollowsIn text spots begin end goal marks' kept stack'
  FollowsIn-turn marks' stack' room to turned = FollowsIn-left text spots begin all stack' turned.0 end goal marks' kept (
    h.0,
    Searching-turn text spots h.0 begin end goal marks kept rest p marks' all from.0.0 to
        (λ few. mark-within (length spots) begin end p.1.run.at p.0 (length marks) room from.0.0 to few) ends searching (refl, turned.1, turned.2),
    All-append (λ (x : Stop). (begin ≤ x.1.run.at) × (x.1.run.at ≤ length text))
        (comes text (spot_at spots p.0) (was_visited marks (mark_of (length spots) begin p.1.run.at p.0)) p.1
        ++ keeps text (spot_at spots p.0) (was_visited marks (mark_of (length spots) begin p.1.run.at p.0)) p.1) rest
        (All-append (λ (x : Stop). (begin ≤ x.1.run.at) × (x.1.run.at ≤ length text))
        (comes text (spot_at spots p.0) (was_visited marks (mark_of (length spots) begin p.1.run.at p.0)) p.1)
        (keeps text (spot_at spots p.0) (was_visited marks (mark_of (length spots) begin p.1.run.at p.0)) p.1)
        (comes_from text begin (spot_at spots p.0) _ p.1 from.0.0 from.0.1) (keeps_from text begin (spot_at spots p.0) _ p.1 from.0.0)) from.1,
    h.3,
    EndsBy-turn text spots h.0 begin end marks marks' kept rest all p from.0.0 to
        (λ few. mark-within (length spots) begin end p.1.run.at p.0 (length marks) room from.0.0 to few) (refl, turned.1, turned.2) ends,
  )

  -- it falls
  pub FollowsIn-falls : (marks' : List Bool) (stack' : List Stop) → HasRoom spots begin end marks → p.1.run.at < end
      → GivesWayTo text spots begin p marks marks' rest stack' → turn_weight marks' stack' < turn_weight marks stack
  FollowsIn-falls marks' stack' room to turned =
      let less : turn_weight marks' all < turn_weight marks (p ∷ rest) =
      rw turned.1 (turn_weight_falls text spots begin marks rest p.0 p.1
      (λ few. mark-within (length spots) begin end p.1.run.at p.0 (length marks) room from.0.0 to few) turned.2
      (was_visited marks (mark_of (length spots) begin p.1.run.at p.0)) refl) in
      let no_more : turn_weight marks' stack' ≤ turn_weight marks' all = weight-left text spots begin all stack' turned.0 marks' in
      let fewer : turn_weight marks' stack' < turn_weight marks (p ∷ rest) = omega arith in
      subst (λ ps. turn_weight marks' stack' < turn_weight marks ps) (sym e) fewer

  -- it is kept for a later block
  pub FollowsIn-kept : (kept' stack' : List Stop) → kept' ≡ kept ++ p ∷ [] → stack' ≡ rest → end ≤ p.1.run.at
      → FollowsIn text spots begin end goal marks kept' stack'
  FollowsIn-kept kept' stack' same left past = (
    h.0,
    subst (λ ps. Searching text spots h.0 begin end goal marks kept' ps) (sym left)
        (subst (λ ks. Searching text spots h.0 begin end goal marks ks rest) (sym same)
        (Searching-kept text spots h.0 begin end goal marks kept rest p past searching)),
    subst (AllFrom text begin) (sym left) from.1,
    subst (AllFrom text end) (sym same) (All-append (λ (x : Stop). (end ≤ x.1.run.at) × (x.1.run.at ≤ length text)) kept (p ∷ []) h.3 ((past, from.0.1), tt)),
    subst (λ ps. EndsBy text spots h.0 begin end marks kept' ps) (sym left)
        (subst (λ ks. EndsBy text spots h.0 begin end marks ks rest) (sym same) (EndsBy-kept text spots h.0 begin end marks kept rest p past ends)),
  )

  pub FollowsIn-kept_falls : (stack' : List Stop) → stack' ≡ rest → turn_weight marks stack' < turn_weight marks stack
  FollowsIn-kept_falls stack' left =
      let less : turn_weight marks rest < turn_weight marks (p ∷ rest) = omega arith in
      subst (λ ps. turn_weight marks ps < turn_weight marks stack) (sym left)
      (subst (λ ps. turn_weight marks rest < turn_weight marks ps) (sym e) less)

  -- it is a match
  pub FollowsIn-match : (w : Way) → ComesToMatch text spots begin p w → option_or (first_of (stops_give text spots kept)) (Some (forget w.run)) ≡ goal
  FollowsIn-match w comes = elim comes [
    | inl here ↦
        ap (λ (v : Way). option_or (first_of (stops_give text spots kept)) (Some (forget v.run))) here.0
        ∙ Searching-match text spots h.0 begin end goal marks kept rest p here.1 searching
    | inr ended ↦
        ap (λ (v : Way). option_or (first_of (stops_give text spots kept)) (Some (forget v.run))) ended.4
        ∙ Searching-ended text spots h.0 begin end goal marks kept rest p ended.0 ended.1 ended.2 ended.3 searching
  ]

pub FollowsIn-end : (text : List ℕ) (spots : List Spot) (begin end : ℕ) (goal : Option Run) (marks : List Bool) (kept stack : List Stop) → stack ≡ []
    → FollowsIn text spots begin end goal marks kept stack
    → AreSpent text spots begin marks (some_run (stops_give text spots kept)) × (first_of (stops_give text spots kept) ≡ goal)
FollowsIn-end text spots begin end goal marks kept stack e h =
    Searching-end text spots h.0 begin end goal marks kept (subst (λ ps. EndsBy text spots h.0 begin end marks kept ps) e h.4)
    (subst (λ ps. Searching text spots h.0 begin end goal marks kept ps) e h.1)

pub FollowsIn-begin : (text : List ℕ) (spots : List Spot) (begin end : ℕ) (p : Stop) (marks : List Bool) (kept stack : List Stop) → ClosesFall spots
    → stack ≡ p ∷ [] → p.1.run.seen ≡ [] → begin ≤ p.1.run.at → p.1.run.at ≤ length text → AllFrom text end kept
    → AreSpent text spots begin marks (some_run (stops_give text spots kept))
    → FollowsIn text spots begin end (first_of (stops_give text spots kept ++ stop_gives text spots p)) marks kept stack
FollowsIn-begin text spots begin end p marks kept stack falls e new from within later spent = (
  falls,
  subst (λ ps. Searching text spots falls begin end (first_of (stops_give text spots kept ++ stop_gives text spots p)) marks kept ps) (sym e)
      (Searching-begin text spots falls begin end marks kept p new spent),
  subst (AllFrom text begin) (sym e) ((from, within), tt),
  later,
  EndsBy-spent text spots falls begin end marks kept stack spent,
)
