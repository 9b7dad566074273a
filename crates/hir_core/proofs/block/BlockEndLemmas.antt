-- Ends of groups that were tried in a block.
use Rattle.std.proofs.Common.{◌≡◌, ℕ, ◌<◌, ◌≤◌, Bool, true, false, ◌⊎◌, inl, inr, List, [], ◌∷◌, ◌++◌, length, if◌then◌else◌, refl, sym, ap, ◌∙◌, subst, true≢false, arith}
use Rattle.std.specs.Prelude.{slice_set}
use Rattle.std.proofs.lemmas.Bool.{cases_lt, le-ltb, lt-ltb, or_left}
use Rattle.std.proofs.lemmas.Grind.{flat_map-append}
use Rattle.std.proofs.lemmas.List.{get_or_past, get_or-set_same}
use Rattle.hir_core.specs.Blocks.{mark_of, trying, was_tried, AreSpent}
use Rattle.hir_program.specs.Masks.{IsDead}
use Rattle.hir_core.specs.Pass.{comes, fresh, keeps, stop_gives, stops_give, visiting, was_visited}
use Rattle.hir_program.specs.Program.{spot_at, closed, gives, ClosesFall, some_run}
use Rattle.hir_core.specs.Trails.{Stop}
use Rattle.hir_program.specs.declared.spot.Spot.{Spot}
use Rattle.hir_program.specs.declared.spot.Spot.TheVariants as spot
use Rattle.hir_core.proofs.closure.ClosureLemmas.{entry, nonempty, nonempty-append}
use Rattle.hir_core.proofs.closure.EndLemmas.{Ends, Ends-on, Ends-spent}
use Rattle.hir_core.proofs.closure.TurnLemmas.{gives_fail, goes_on, some_run-nonempty}
use Rattle.hir_program.proofs.ScanLemmas.{gives-dead}
use Rattle.hir_core.proofs.block.MarkLemmas.{tried-is, tried-new, tried-stays}

module _ (text : List ℕ) (spots : List Spot) (falls : ClosesFall spots) (begin end : ℕ) where
  -- others come in the place of a stop, all of them
  abbrev pub GivesAllWayTo : Stop → List Bool → List Bool → List Stop → List Stop → Type 0
  GivesAllWayTo p marks marks' stack stack' =
      let s = spot_at spots p.0 in
      let tried = was_visited marks (mark_of (length spots) begin p.1.run.at p.0) in
      (stack' ≡ (comes text s tried p.1 ++ keeps text s tried p.1) ++ stack)
      × (marks' ≡ trying text spots begin p.1.run.at p.0 marks)
      × ((s ≡ spot.Match) → ⊥)

  -- the spot is tried next, at this place of the block
  abbrev pub IsNext : ℕ → List Stop → ℕ → Type 0
  IsNext at [] q = ⊥
  IsNext at (p ∷ ps) q = (p.0 ≡ q) × (p.1.run.at ≡ at) × (at < end)

  -- what holds of ends of groups that were tried
  abbrev pub EndsBy : List Bool → List Stop → List Stop → Type 0
  EndsBy marks kept stack =
      (at : ℕ) → Ends text spots falls at (was_tried (length spots) begin marks at) (nonempty (stops_give text spots kept)) (IsNext at stack)

  -- with the same marks
  pub EndsBy-same : (marks : List Bool) (kept kept' stack stack' : List Stop)
      → (nonempty (stops_give text spots kept) ≡ true → nonempty (stops_give text spots kept') ≡ true)
      → ((at f : ℕ) → IsNext at stack f → gives text spots f (fresh at) ≡ [])
      → EndsBy marks kept stack → EndsBy marks kept' stack'
  EndsBy-same marks kept kept' stack stack' up was_next ends at =
      Ends-on text spots falls at (was_tried (length spots) begin marks at) (was_tried (length spots) begin marks at) (nonempty (stops_give text spots kept))
      (nonempty (stops_give text spots kept')) (IsNext at stack) (IsNext at stack') (λ q v. v) up (λ f n. inl (was_next at f n))
      (λ q i f k now before. absurd (true≢false (sym now ∙ before))) (ends at)

  -- the first of the stack was tried, and has its mark
  pub EndsBy-set : (marks : List Bool) (kept rest stack' : List Stop) (p : Stop) → begin ≤ p.1.run.at → p.0 < length spots
      → mark_of (length spots) begin p.1.run.at p.0 < length marks → ((spot_at spots p.0 ≡ spot.Match) → ⊥)
      → ((i f : ℕ) → spot_at spots p.0 ≡ spot.Close i f → was_visited marks (mark_of (length spots) begin p.1.run.at p.0) ≡ false
      → IsNext p.1.run.at stack' f)
      → EndsBy marks kept (p ∷ rest) → EndsBy (slice_set marks (mark_of (length spots) begin p.1.run.at p.0) true) kept stack'
  EndsBy-set marks kept rest stack' p from few room live on ends at =
      Ends-on text spots falls at (was_tried (length spots) begin marks at) (was_tried (length spots) begin new at) (nonempty (stops_give text spots kept))
      (nonempty (stops_give text spots kept)) (IsNext at (p ∷ rest)) (IsNext at stack') (tried-stays (length spots) begin marks mark at) (λ some. some) was_next is_new (ends at)
    where
      mark : ℕ
      mark = mark_of (length spots) begin p.1.run.at p.0

      new : List Bool
      new = slice_set marks mark true

      set : was_tried (length spots) begin new p.1.run.at p.0 ≡ true
      set = tried-is (length spots) begin new p.1.run.at p.0 from few ∙ get_or-set_same marks mark true false room

      was_next : (f : ℕ) → IsNext at (p ∷ rest) f
          → (gives text spots f (fresh at) ≡ [])
          ⊎ (((was_tried (length spots) begin new at f ≡ true) × ((spot_at spots f ≡ spot.Match) → ⊥)) ⊎ IsNext at stack' f)
      was_next f n =
          inr (inl (
            ap (was_tried (length spots) begin new at) (sym n.0) ∙ ap (λ (i : ℕ). was_tried (length spots) begin new i p.0) (sym n.1) ∙ set,
            (λ k. live (ap (spot_at spots) n.0 ∙ k)),
          ))

      is_new : (q i f : ℕ) → spot_at spots q ≡ spot.Close i f → was_tried (length spots) begin new at q ≡ true
          → was_tried (length spots) begin marks at q ≡ false → IsNext at stack' f
      is_new q i f k now before =
          let here = tried-new (length spots) begin marks p.1.run.at p.0 from few at q now before in
          let unset : was_visited marks mark ≡ false =
          sym (tried-is (length spots) begin marks p.1.run.at p.0 from few)
          ∙ ap (λ (i : ℕ). was_tried (length spots) begin marks i p.0) here.0 ∙ ap (was_tried (length spots) begin marks at) here.1 ∙ before in
          subst (λ (i : ℕ). IsNext i stack' f) here.0 (on i f (ap (spot_at spots) here.1 ∙ k) unset)

  -- a turn
  pub EndsBy-turn : (marks marks' : List Bool) (kept rest stack' : List Stop) (p : Stop) → begin ≤ p.1.run.at → p.1.run.at < end
      → (p.0 < length spots → mark_of (length spots) begin p.1.run.at p.0 < length marks) → GivesAllWayTo p marks marks' rest stack'
      → EndsBy marks kept (p ∷ rest) → EndsBy marks' kept stack'
  EndsBy-turn marks marks' kept rest stack' p from to room turned ends =
      elim (cases_lt p.0 (length spots)) [
        | inl few ↦
            subst (λ bs. EndsBy bs kept stack') (sym (turned.1 ∙ tried_in few))
            (EndsBy-set marks kept rest stack' p from few (room few) turned.2 (on few) ends)
        | inr many ↦
            subst (λ bs. EndsBy bs kept stack') (sym (turned.1 ∙ ap (λ (b : Bool). if b then visiting (spot_at spots p.0) mark marks else marks) (le-ltb p.0 (length spots) many)))
            (EndsBy-same marks kept kept (p ∷ rest) stack' (λ some. some) (λ at f n. gone at f n many) ends)
      ]
    where
      mark : ℕ
      mark = mark_of (length spots) begin p.1.run.at p.0

      tried_in : p.0 < length spots → trying text spots begin p.1.run.at p.0 marks ≡ slice_set marks mark true
      tried_in few =
          ap (λ (b : Bool). if b then visiting (spot_at spots p.0) mark marks else marks) (lt-ltb p.0 (length spots) few)
          ∙ ap (λ (b : Bool). if b then marks else slice_set marks mark true) (goes_on (spot_at spots p.0) turned.2)

      gone : (at f : ℕ) → IsNext at (p ∷ rest) f → length spots ≤ p.0 → gives text spots f (fresh at) ≡ []
      gone at f n many =
          ap (λ (q : ℕ). gives text spots q (fresh at)) (sym n.0)
          ∙ gives_fail text spots falls at (entry p.0 (fresh at)) (get_or_past spots p.0 spot.Fail many)

      on : p.0 < length spots → (i f : ℕ) → spot_at spots p.0 ≡ spot.Close i f → was_visited marks mark ≡ false → IsNext p.1.run.at stack' f
      on few i f k unset =
          let first : stack' ≡ (f, closed i p.1) ∷ rest =
          turned.0 ∙ ap (λ (b : Bool). (comes text (spot_at spots p.0) b p.1 ++ keeps text (spot_at spots p.0) b p.1) ++ rest) unset
          ∙ ap (λ (s : Spot). (comes text s false p.1 ++ keeps text s false p.1) ++ rest) k in
          subst (λ ps. IsNext p.1.run.at ps f) (sym first) (refl, refl, to)

  -- one at a dead spot is left out
  pub EndsBy-dead : (marks : List Bool) (kept rest : List Stop) (p : Stop) → IsDead text spots p.1.run.at p.0
      → EndsBy marks kept (p ∷ rest) → EndsBy marks kept rest
  EndsBy-dead marks kept rest p dead =
      EndsBy-same marks kept kept (p ∷ rest) rest (λ some. some)
      (λ at f n. gives-dead text spots at f (fresh at) refl
      (subst (λ (i : ℕ). IsDead text spots i f) n.1 (subst (λ (q : ℕ). IsDead text spots p.1.run.at q) n.0 dead)))

  -- one past the block is kept
  pub EndsBy-kept : (marks : List Bool) (kept rest : List Stop) (p : Stop) → end ≤ p.1.run.at
      → EndsBy marks kept (p ∷ rest) → EndsBy marks (kept ++ p ∷ []) rest
  EndsBy-kept marks kept rest p past =
      EndsBy-same marks kept (kept ++ p ∷ []) (p ∷ rest) rest
      (λ some. ap nonempty (flat_map-append (stop_gives text spots) kept (p ∷ [])) ∙ nonempty-append (stops_give text spots kept) _ ∙ or_left _ _ some)
      (λ at f n. absurd (omega (arith, past, n.1, n.2)))

  -- at first
  pub EndsBy-spent : (marks : List Bool) (kept stack : List Stop) → AreSpent text spots begin marks (some_run (stops_give text spots kept))
      → EndsBy marks kept stack
  EndsBy-spent marks kept stack spent at =
      Ends-spent text spots falls at (was_tried (length spots) begin marks at) (nonempty (stops_give text spots kept)) (IsNext at stack)
      (λ q v. elim (spent at q v) [ inl some ↦ inl (sym (some_run-nonempty _) ∙ some) | inr dead ↦ inr dead ])
