-- A search of a block of places that tries each spot once at each place.
use Rattle.std.proofs.Common.{◌≡◌, ℕ, ◌<◌, Bool, true, inl, inr, List, [], ◌∷◌, ◌++◌, map, Option, Some, refl, sym, ap, ◌∙◌, subst, true≢false, append-nil, append_assoc, arith}
use Rattle.std.specs.Prelude.{◌||◌}
use Rattle.std.specs.Option.{option_or}
use Rattle.std.specs.List.{flat_map}
use Rattle.std.proofs.Math.Bool.{or-false}
use Rattle.std.proofs.lemmas.Bool.{cases_lt, cases_eq, or_left}
use Rattle.std.proofs.lemmas.Grind.{flat_map-append}
use Rattle.hir_tree.specs.Runs.{Run, first}
use Rattle.hir_tree.specs.RunsLaws.{forget}
use Rattle.hir_program.specs.Program.{spot_at, gives, ClosesFall}
use Rattle.hir_program.specs.declared.spot.Spot.{Spot}
use Rattle.hir_program.specs.declared.spot.Spot.TheVariants as spot
use Rattle.hir_program.proofs.PlacedLemmas.{gives-at}
use Rattle.hir_core.proofs.closure.ClosureLemmas.{Entry, seen_by, nonempty, nonempty-append, Covers}
use Rattle.hir_core.proofs.pass.PassLemmas.{Covers-above, first_before, first_of_two, nowhere, Spent, Stands-begin}
use Rattle.hir_core.proofs.block.LevelLemmas.{place, over, level, Falling, AllAt, over_in, over_out, level_in, level_out, over_none, level_none, over_more, over_same, level_more, level_same, falling_more}

module _ (text : List ℕ) (spots : List Spot) (falls : ClosesFall spots) where
  abbrev pub gives_of : Entry → List Run
  gives_of e = gives text spots e.spot e.way

  abbrev pub runs_of : List Entry → List Run
  runs_of = flat_map gives_of

  -- What holds at a place: what was tried there gives nothing, but for the entries that are there, unless something before it does.
  abbrev pub Level : (ℕ → List ℕ) → List Run → List Entry → ℕ → Type 0
  Level tried kept es p =
      Covers text spots falls p (tried p) (nonempty (kept ++ runs_of (over p es))) (tried p) (level p es ++ nowhere text spots falls p ∷ [])

  -- What a search of a block keeps true: what was kept, and what is still to be tried, have the first run that is sought.
  pub record Blocking (goal : Option Run) (tried : ℕ → List ℕ) (kept : List Run) (es : List Entry) : Type 0 where
    pub top : ℕ
    pub falling : Falling top es
    pub levels : (p : ℕ) → Level tried kept es p
    pub finds : first (map forget (kept ++ runs_of es)) ≡ goal

  -- what holds at a place also holds where no less is before it
  level-as : (tried tried' : ℕ → List ℕ) (kept kept' : List Run) (es es' : List Entry) (p : ℕ) → tried' p ≡ tried p → level p es' ≡ level p es
      → (nonempty (kept ++ runs_of (over p es)) ≡ true → nonempty (kept' ++ runs_of (over p es')) ≡ true)
      → Level tried kept es p → Level tried' kept' es' p
  level-as tried tried' kept kept' es es' p same_tried same_level up h =
      subst (λ v. Covers text spots falls p v (nonempty (kept' ++ runs_of (over p es'))) v (level p es' ++ nowhere text spots falls p ∷ [])) (sym same_tried)
      (subst (λ xs. Covers text spots falls p (tried p) (nonempty (kept' ++ runs_of (over p es'))) (tried p) (xs ++ nowhere text spots falls p ∷ []))
      (sym same_level)
      (Covers-above text spots falls p (tried p) (level p es ++ nowhere text spots falls p ∷ []) (nonempty (kept ++ runs_of (over p es)))
      (nonempty (kept' ++ runs_of (over p es'))) (tried p) (tried p) up (λ m k. k) h))

  as_same : (xs ys : List Run) → xs ≡ ys → nonempty xs ≡ true → nonempty ys ≡ true
  as_same xs ys e k = ap nonempty (sym e) ∙ k

  -- more between two lists
  as_more : (kept more rest : List Run) → nonempty (kept ++ rest) ≡ true → nonempty (kept ++ (more ++ rest)) ≡ true
  as_more [] [] rest k = k
  as_more [] (m ∷ more) rest k = refl
  as_more (r ∷ kept) more rest k = refl

  -- others between them
  as_up : (kept xs ys rest : List Run) → (nonempty xs ≡ true → nonempty ys ≡ true) → nonempty (kept ++ (xs ++ rest)) ≡ true
      → nonempty (kept ++ (ys ++ rest)) ≡ true
  as_up [] [] ys rest up k = as_more [] ys rest k
  as_up [] (x ∷ xs) [] rest up k = absurd (true≢false (sym (up refl)))
  as_up [] (x ∷ xs) (y ∷ ys) rest up k = refl
  as_up (r ∷ kept) xs ys rest up k = refl

  -- the entry on top, and the others at its place
  pub top-level : (goal : Option Run) (tried : ℕ → List ℕ) (kept : List Run) (e : Entry) (rest : List Entry) → Blocking goal tried kept (e ∷ rest)
      → Covers text spots falls (place e) (tried (place e)) (nonempty kept) (tried (place e))
      (e ∷ (level (place e) rest ++ nowhere text spots falls (place e) ∷ []))
  top-level goal tried kept e rest h =
      let none_over : over (place e) (e ∷ rest) ≡ [] = over_out (place e) e rest (omega arith) ∙ over_none (place e) (place e) rest h.falling.1 (omega arith) in
      subst (λ xs. Covers text spots falls (place e) (tried (place e)) (nonempty kept) (tried (place e)) (xs ++ nowhere text spots falls (place e) ∷ []))
      (level_in (place e) e rest refl)
      (subst (λ b. Covers text spots falls (place e) (tried (place e)) b (tried (place e)) (level (place e) (e ∷ rest) ++ nowhere text spots falls (place e) ∷ []))
      (ap (λ xs. nonempty (kept ++ runs_of xs)) none_over ∙ ap nonempty (append-nil kept)) (h.levels (place e)))

  -- The entry on top gives way to others at its place, which give the same.
  pub replaced : (goal : Option Run) (tried tried' : ℕ → List ℕ) (kept : List Run) (e : Entry) (rest cs : List Entry)
      → Blocking goal tried kept (e ∷ rest) → gives_of e ≡ runs_of cs → AllAt (place e) cs → ((p : ℕ) → (place e ≡ p → ⊥) → tried' p ≡ tried p)
      → Covers text spots falls (place e) (tried' (place e)) (nonempty kept) (tried' (place e))
      (cs ++ (level (place e) rest ++ nowhere text spots falls (place e) ∷ []))
      → Blocking goal tried' kept (cs ++ rest)
  replaced goal tried tried' kept e rest cs h same here elsewhere covers = record {
    top = place e;
    falling = falling_more (place e) rest cs (place e) here (omega arith) h.falling.1;
    levels = levels;
    finds = ap (λ xs. first (map forget (kept ++ xs))) (flat_map-append gives_of cs rest ∙ ap (λ xs. xs ++ runs_of rest) (sym same)) ∙ h.finds;
  }
    where
      none_over : over (place e) (cs ++ rest) ≡ []
      none_over = over_same (place e) rest cs (place e) here (omega arith) ∙ over_none (place e) (place e) rest h.falling.1 (omega arith)

      at_top : Level tried' kept (cs ++ rest) (place e)
      at_top =
          subst (λ b. Covers text spots falls (place e) (tried' (place e)) b (tried' (place e)) (level (place e) (cs ++ rest) ++ nowhere text spots falls (place e) ∷ []))
          (sym (ap (λ xs. nonempty (kept ++ runs_of xs)) none_over ∙ ap nonempty (append-nil kept)))
          (subst (λ xs. Covers text spots falls (place e) (tried' (place e)) (nonempty kept) (tried' (place e)) xs)
          (sym (append_assoc cs (level (place e) rest) (nowhere text spots falls (place e) ∷ []))
          ∙ ap (λ xs. xs ++ nowhere text spots falls (place e) ∷ []) (sym (level_more (place e) rest cs here))) covers)

      over_runs : (p : ℕ) → runs_of (over p (e ∷ rest)) ≡ runs_of (over p (cs ++ rest))
      over_runs p =
          elim (cases_lt p (place e)) [
            | inl before ↦ ap runs_of (over_in p e rest before) ∙ ap (λ xs. xs ++ runs_of (over p rest)) same ∙ sym (flat_map-append gives_of cs (over p rest))
                ∙ ap runs_of (sym (over_more p rest cs (place e) here before))
            | inr past ↦ ap runs_of (over_out p e rest past ∙ sym (over_same p rest cs (place e) here past))
          ]

      levels : (p : ℕ) → Level tried' kept (cs ++ rest) p
      levels p =
          elim (cases_eq (place e) p) [
            | inl at ↦ subst (λ i. Level tried' kept (cs ++ rest) i) at at_top
            | inr other ↦ level-as tried tried' kept kept (e ∷ rest) (cs ++ rest) p (elsewhere p other)
                (level_same p rest cs (place e) here other ∙ sym (level_out p e rest other)) (as_same _ _ (ap (λ xs. kept ++ xs) (over_runs p))) (h.levels p)
          ]

  -- It is dropped where something was kept.
  pub dropped-done : (goal : Option Run) (tried : ℕ → List ℕ) (kept : List Run) (e : Entry) (rest : List Entry) → nonempty kept ≡ true
      → Blocking goal tried kept (e ∷ rest) → Blocking goal tried kept rest
  dropped-done goal tried kept e rest some h = record {
    top = place e;
    falling = h.falling.1;
    levels = levels;
    finds = first_before kept (runs_of rest) (gives_of e ++ runs_of rest) some ∙ h.finds;
  }
    where
      any : (xs : List Run) → nonempty (kept ++ xs) ≡ true
      any xs = nonempty-append kept xs ∙ or_left _ _ some

      levels : (p : ℕ) → Level tried kept rest p
      levels p =
          elim (cases_eq (place e) p) [
            | inl at ↦ subst (λ i. Level tried kept rest i) at
                (let head = top-level goal tried kept e rest h in
                Covers-above text spots falls (place e) (tried (place e)) (level (place e) rest ++ nowhere text spots falls (place e) ∷ []) (nonempty kept || nonempty (gives_of e))
                (nonempty (kept ++ runs_of (over (place e) rest))) (seen_by e) (tried (place e)) (λ k. any _) head.1 head.3)
            | inr other ↦ level-as tried tried kept kept (e ∷ rest) rest p refl (sym (level_out p e rest other)) (λ k. any _) (h.levels p)
          ]

  -- The second entry is dropped, where it is at the same place and gives nothing.
  pub dropped-second : (goal : Option Run) (tried : ℕ → List ℕ) (kept : List Run) (e f : Entry) (rest : List Entry) → place f ≡ place e → gives_of f ≡ []
      → Blocking goal tried kept (e ∷ f ∷ rest) → Blocking goal tried kept (e ∷ rest)
  dropped-second goal tried kept e f rest same nothing h = record {
    top = h.top;
    falling = (h.falling.0, subst (λ p. Falling p rest) same h.falling.1.1);
    levels = levels;
    finds = ap (λ xs. first (map forget (kept ++ (gives_of e ++ (xs ++ runs_of rest))))) (sym nothing) ∙ h.finds;
  }
    where
      here : (p : ℕ) → place e ≡ p → Level tried kept (e ∷ rest) p
      here p at =
          let there : place f ≡ p = same ∙ at in
          let over_same : over p (e ∷ f ∷ rest) ≡ over p (e ∷ rest) =
          over_out p e (f ∷ rest) (omega (arith, at)) ∙ over_out p f rest (omega (arith, there)) ∙ sym (over_out p e rest (omega (arith, at))) in
          let done : Bool = nonempty (kept ++ runs_of (over p (e ∷ rest))) in
          let both : Covers text spots falls p (tried p) done (tried p) (e ∷ f ∷ (level p rest ++ nowhere text spots falls p ∷ [])) =
          subst (λ xs. Covers text spots falls p (tried p) done (tried p) (xs ++ nowhere text spots falls p ∷ []))
          (level_in p e (f ∷ rest) at ∙ ap (λ xs. e ∷ xs) (level_in p f rest there))
          (subst (λ xs. Covers text spots falls p (tried p) (nonempty (kept ++ runs_of xs)) (tried p) (level p (e ∷ f ∷ rest) ++ nowhere text spots falls p ∷ [])) over_same
          (h.levels p)) in
          subst (λ xs. Covers text spots falls p (tried p) done (tried p) (xs ++ nowhere text spots falls p ∷ [])) (sym (level_in p e rest at)) (
            both.0,
            both.1,
            both.2,
            Covers-above text spots falls p (tried p) (level p rest ++ nowhere text spots falls p ∷ []) ((done || nonempty (gives_of e)) || nonempty (gives_of f))
                (done || nonempty (gives_of e)) (seen_by f) (seen_by e)
                (λ k. sym (or-false (done || nonempty (gives_of e))) ∙ ap (λ xs. (done || nonempty (gives_of e)) || nonempty xs) (sym nothing) ∙ k) both.3.1 both.3.3,
          )

      over_runs : (p : ℕ) → runs_of (over p (e ∷ f ∷ rest)) ≡ runs_of (over p (e ∷ rest))
      over_runs p =
          elim (cases_lt p (place e)) [
            | inl before ↦ ap runs_of (over_in p e (f ∷ rest) before) ∙ ap (λ xs. gives_of e ++ runs_of xs) (over_in p f rest (omega (arith, same, before)))
                ∙ ap (λ xs. gives_of e ++ (xs ++ runs_of (over p rest))) nothing ∙ ap runs_of (sym (over_in p e rest before))
            | inr past ↦ ap runs_of
                (over_out p e (f ∷ rest) past ∙ over_out p f rest (omega (arith, same, past)) ∙ sym (over_out p e rest past))
          ]

      levels : (p : ℕ) → Level tried kept (e ∷ rest) p
      levels p =
          elim (cases_eq (place e) p) [
            | inl at ↦ here p at
            | inr other ↦ level-as tried tried kept kept (e ∷ f ∷ rest) (e ∷ rest) p refl
                (level_out p e rest other ∙ sym (level_out p e (f ∷ rest) other ∙ level_out p f rest (λ at. other (sym same ∙ at))))
                (as_same _ _ (ap (λ xs. kept ++ xs) (over_runs p))) (h.levels p)
          ]

  -- It goes on later than all places of the block, and is kept after what is there.
  pub kept-later : (goal : Option Run) (tried : ℕ → List ℕ) (kept : List Run) (e : Entry) (rest : List Entry)
      → Blocking goal tried kept (e ∷ rest) → Blocking goal tried (kept ++ gives_of e) rest
  kept-later goal tried kept e rest h = record {
    top = place e;
    falling = h.falling.1;
    levels = levels;
    finds = ap (λ xs. first (map forget xs)) (append_assoc kept (gives_of e) (runs_of rest)) ∙ h.finds;
  }
    where
      none_over : over (place e) rest ≡ []
      none_over = over_none (place e) (place e) rest h.falling.1 (omega arith)

      up : (p : ℕ) → nonempty (kept ++ runs_of (over p (e ∷ rest))) ≡ true → nonempty ((kept ++ gives_of e) ++ runs_of (over p rest)) ≡ true
      up p k =
          elim (cases_lt p (place e)) [
            | inl before ↦ as_same (kept ++ runs_of (over p (e ∷ rest))) ((kept ++ gives_of e) ++ runs_of (over p rest))
                (ap (λ xs. kept ++ runs_of xs) (over_in p e rest before) ∙ sym (append_assoc kept (gives_of e) (runs_of (over p rest)))) k
            | inr past ↦ as_same (kept ++ (gives_of e ++ runs_of (over p rest))) ((kept ++ gives_of e) ++ runs_of (over p rest))
                (sym (append_assoc kept (gives_of e) (runs_of (over p rest))))
                (as_more kept (gives_of e) (runs_of (over p rest))
                (as_same (kept ++ runs_of (over p (e ∷ rest))) (kept ++ runs_of (over p rest)) (ap (λ xs. kept ++ runs_of xs) (over_out p e rest past)) k))
          ]

      levels : (p : ℕ) → Level tried (kept ++ gives_of e) rest p
      levels p =
          elim (cases_eq (place e) p) [
            | inl at ↦ subst (λ i. Level tried (kept ++ gives_of e) rest i) at
                (let head = top-level goal tried kept e rest h in
                Covers-above text spots falls (place e) (tried (place e)) (level (place e) rest ++ nowhere text spots falls (place e) ∷ []) (nonempty kept || nonempty (gives_of e))
                (nonempty ((kept ++ gives_of e) ++ runs_of (over (place e) rest))) (seen_by e) (tried (place e))
                (λ k. ap (λ xs. nonempty ((kept ++ gives_of e) ++ runs_of xs)) none_over ∙ ap nonempty (append-nil (kept ++ gives_of e)) ∙ nonempty-append kept (gives_of e) ∙ k)
                head.1 head.3)
            | inr other ↦ level-as tried tried kept (kept ++ gives_of e) (e ∷ rest) rest p refl (sym (level_out p e rest other)) (up p) (h.levels p)
          ]

  -- what was tried at a place where no entry is gives nothing, unless something before does
  spent-level : (p : ℕ) (tried : List ℕ) (done : Bool) → Covers text spots falls p tried done tried (nowhere text spots falls p ∷ [])
      → Spent text spots falls p tried done
  spent-level p tried done covers m k =
      elim (covers.2 m k) [
        | inl some ↦ inl some
        | inr rest ↦ elim rest [ inl seen ↦ absurd (true≢false (sym seen)) | inr dead ↦ inr dead ]
      ]

  -- a thread comes to such a place
  begun-level : (p : ℕ) (tried : List ℕ) (before : List Run) (e : Entry) → place e ≡ p → seen_by e ≡ []
      → Covers text spots falls p tried (nonempty before) tried (nowhere text spots falls p ∷ [])
      → Covers text spots falls p tried (nonempty before) tried (e ∷ nowhere text spots falls p ∷ [])
  begun-level p tried before e here new covers =
      (Stands-begin text spots falls p tried before e here new (spent-level p tried (nonempty before) covers)).0

  -- The entry on top goes on to a later place of the block, where the first run is the same.
  pub moved-as : (goal : Option Run) (tried tried' : ℕ → List ℕ) (kept : List Run) (e on : Entry) (rest : List Entry)
      → Blocking goal tried kept (e ∷ rest)
      → first (map forget (kept ++ (gives_of on ++ runs_of rest))) ≡ first (map forget (kept ++ (gives_of e ++ runs_of rest)))
      → (nonempty (gives_of e) ≡ true → nonempty (gives_of on) ≡ true) → place e < place on → seen_by on ≡ []
      → ((p : ℕ) → (place e ≡ p → ⊥) → tried' p ≡ tried p)
      → Covers text spots falls (place e) (tried' (place e)) (nonempty (kept ++ gives_of on)) (tried' (place e))
      (level (place e) rest ++ nowhere text spots falls (place e) ∷ [])
      → Blocking goal tried' kept (on ∷ rest)
  moved-as goal tried tried' kept e on rest h same some later new elsewhere covers = record {
    top = place on;
    falling = (omega arith, falling_more (place e) rest [] (place on) tt (omega (arith, later)) h.falling.1);
    levels = levels;
    finds = same ∙ h.finds;
  }
    where
      at_old : Level tried' kept (on ∷ rest) (place e)
      at_old =
          let over_is : runs_of (over (place e) (on ∷ rest)) ≡ gives_of on =
          ap runs_of (over_in (place e) on rest later ∙ ap (λ xs. on ∷ xs) (over_none (place e) (place e) rest h.falling.1 (omega arith))) ∙ append-nil (gives_of on) in
          subst (λ xs. Covers text spots falls (place e) (tried' (place e)) (nonempty (kept ++ xs)) (tried' (place e)) (level (place e) (on ∷ rest) ++ nowhere text spots falls (place e) ∷ []))
          (sym over_is)
          (subst (λ xs. Covers text spots falls (place e) (tried' (place e)) (nonempty (kept ++ gives_of on)) (tried' (place e)) (xs ++ nowhere text spots falls (place e) ∷ []))
          (sym (level_out (place e) on rest (λ at. omega (arith, at, later)))) covers)

      at_new : Level tried' kept (on ∷ rest) (place on)
      at_new =
          let none : level (place on) rest ≡ [] = level_none (place on) (place e) rest h.falling.1 later in
          let old : Level tried kept (e ∷ rest) (place on) = h.levels (place on) in
          let none_old : level (place on) (e ∷ rest) ≡ [] = level_out (place on) e rest (λ at. omega (arith, at, later)) ∙ none in
          let over_old : over (place on) (e ∷ rest) ≡ over (place on) (on ∷ rest) =
          over_out (place on) e rest (omega (arith, later)) ∙ sym (over_out (place on) on rest (omega arith)) in
          let bare : Covers text spots falls (place on) (tried (place on)) (nonempty (kept ++ runs_of (over (place on) (on ∷ rest)))) (tried (place on)) (nowhere text spots falls (place on) ∷ []) =
          subst (λ xs. Covers text spots falls (place on) (tried (place on)) (nonempty (kept ++ runs_of (over (place on) (on ∷ rest)))) (tried (place on)) (xs ++ nowhere text spots falls (place on) ∷ [])) none_old
          (subst (λ xs. Covers text spots falls (place on) (tried (place on)) (nonempty (kept ++ runs_of xs)) (tried (place on)) (level (place on) (e ∷ rest) ++ nowhere text spots falls (place on) ∷ [])) over_old old) in
          subst (λ v. Covers text spots falls (place on) v (nonempty (kept ++ runs_of (over (place on) (on ∷ rest)))) v (level (place on) (on ∷ rest) ++ nowhere text spots falls (place on) ∷ []))
          (sym (elsewhere (place on) (λ at. omega (arith, at, later))))
          (subst (λ xs. Covers text spots falls (place on) (tried (place on)) (nonempty (kept ++ runs_of (over (place on) (on ∷ rest)))) (tried (place on)) (xs ++ nowhere text spots falls (place on) ∷ []))
          (sym (level_in (place on) on rest refl ∙ ap (λ xs. on ∷ xs) none))
          (begun-level (place on) (tried (place on)) (kept ++ runs_of (over (place on) (on ∷ rest))) on refl new bare))

      up : (p : ℕ) → nonempty (kept ++ runs_of (over p (e ∷ rest))) ≡ true → nonempty (kept ++ runs_of (over p (on ∷ rest))) ≡ true
      up p k =
          elim (cases_lt p (place on)) [
            | inl before ↦ elim (cases_lt p (place e)) [
              | inl low ↦ as_same (kept ++ (gives_of on ++ runs_of (over p rest))) (kept ++ runs_of (over p (on ∷ rest)))
                  (ap (λ xs. kept ++ runs_of xs) (sym (over_in p on rest before)))
                  (as_up kept (gives_of e) (gives_of on) (runs_of (over p rest)) some
                  (as_same (kept ++ runs_of (over p (e ∷ rest))) (kept ++ (gives_of e ++ runs_of (over p rest)))
                  (ap (λ xs. kept ++ runs_of xs) (over_in p e rest low)) k))
              | inr high ↦ as_same (kept ++ (gives_of on ++ runs_of (over p rest))) (kept ++ runs_of (over p (on ∷ rest)))
                  (ap (λ xs. kept ++ runs_of xs) (sym (over_in p on rest before)))
                  (as_more kept (gives_of on) (runs_of (over p rest))
                  (as_same (kept ++ runs_of (over p (e ∷ rest))) (kept ++ runs_of (over p rest)) (ap (λ xs. kept ++ runs_of xs) (over_out p e rest high)) k))
            ]
            | inr past ↦ as_same (kept ++ runs_of (over p (e ∷ rest))) (kept ++ runs_of (over p (on ∷ rest)))
                (ap (λ xs. kept ++ runs_of xs) (over_out p e rest (omega (arith, past, later)) ∙ sym (over_out p on rest past))) k
          ]

      levels : (p : ℕ) → Level tried' kept (on ∷ rest) p
      levels p =
          elim (cases_eq (place e) p) [
            | inl at ↦ subst (λ i. Level tried' kept (on ∷ rest) i) at at_old
            | inr other ↦ elim (cases_eq (place on) p) [
              | inl at ↦ subst (λ i. Level tried' kept (on ∷ rest) i) at at_new
              | inr another ↦ level-as tried tried' kept kept (e ∷ rest) (on ∷ rest) p (elsewhere p other)
                  (level_out p on rest another ∙ sym (level_out p e rest other)) (up p) (h.levels p)
            ]
          ]

  -- It goes on to a later place, where it gives the same.
  pub moved-on : (goal : Option Run) (tried tried' : ℕ → List ℕ) (kept : List Run) (e on : Entry) (rest : List Entry)
      → Blocking goal tried kept (e ∷ rest) → gives_of e ≡ gives_of on → place e < place on → seen_by on ≡ []
      → ((p : ℕ) → (place e ≡ p → ⊥) → tried' p ≡ tried p)
      → Covers text spots falls (place e) (tried' (place e)) (nonempty (kept ++ gives_of on)) (tried' (place e))
      (level (place e) rest ++ nowhere text spots falls (place e) ∷ [])
      → Blocking goal tried' kept (on ∷ rest)
  moved-on goal tried tried' kept e on rest h same =
      moved-as goal tried tried' kept e on rest h (ap (λ xs. first (map forget (kept ++ (xs ++ runs_of rest)))) (sym same)) (λ k. ap nonempty (sym same) ∙ k)

  -- At a match the search of the block is over.
  pub blocking-match : (goal : Option Run) (tried : ℕ → List ℕ) (kept : List Run) (e : Entry) (rest : List Entry) → spot_at spots e.spot ≡ spot.Match
      → Blocking goal tried kept (e ∷ rest) → option_or (first (map forget kept)) (Some (forget e.way.run)) ≡ goal
  blocking-match goal tried kept e rest k h =
      ap (λ xs. option_or (first (map forget kept)) (first (map forget (xs ++ runs_of rest)))) (sym (gives-at text spots falls e.spot spot.Match e.way k))
      ∙ sym (first_of_two kept (gives_of e ++ runs_of rest)) ∙ h.finds

  -- A thread comes into the block, where others were.
  pub blocking-begin : (tried : ℕ → List ℕ) (kept : List Run) (e : Entry) → seen_by e ≡ []
      → ((p : ℕ) → Spent text spots falls p (tried p) (nonempty kept))
      → Blocking (first (map forget (kept ++ gives_of e))) tried kept (e ∷ [])
  blocking-begin tried kept e new spent = record {
    top = place e;
    falling = (omega arith, tt);
    levels = levels;
    finds = ap (λ xs. first (map forget (kept ++ xs))) (append-nil (gives_of e));
  }
    where
      empty-level : (p : ℕ) → Covers text spots falls p (tried p) (nonempty kept) (tried p) (nowhere text spots falls p ∷ [])
      empty-level p = (
        refl,
        (λ m k. absurd (true≢false (sym k))),
        (λ m k. elim (spent p m k) [ inl some ↦ inl some | inr dead ↦ inr (inr dead) ]),
        tt,
      )

      at_place : Level tried kept (e ∷ []) (place e)
      at_place =
          subst (λ xs. Covers text spots falls (place e) (tried (place e)) (nonempty (kept ++ runs_of xs)) (tried (place e)) (level (place e) (e ∷ []) ++ nowhere text spots falls (place e) ∷ []))
          (sym (over_out (place e) e [] (omega arith)))
          (subst (λ b. Covers text spots falls (place e) (tried (place e)) b (tried (place e)) (level (place e) (e ∷ []) ++ nowhere text spots falls (place e) ∷ []))
          (ap nonempty (sym (append-nil kept)))
          (subst (λ xs. Covers text spots falls (place e) (tried (place e)) (nonempty kept) (tried (place e)) (xs ++ nowhere text spots falls (place e) ∷ []))
          (sym (level_in (place e) e [] refl))
          (begun-level (place e) (tried (place e)) kept e refl new (empty-level (place e)))))

      levels : (p : ℕ) → Level tried kept (e ∷ []) p
      levels p =
          elim (cases_eq (place e) p) [
            | inl at ↦ subst (λ i. Level tried kept (e ∷ []) i) at at_place
            | inr other ↦
                subst (λ xs. Covers text spots falls p (tried p) (nonempty (kept ++ runs_of (over p (e ∷ [])))) (tried p) (xs ++ nowhere text spots falls p ∷ []))
                (sym (level_out p e [] other))
                (Covers-above text spots falls p (tried p) (nowhere text spots falls p ∷ []) (nonempty kept) (nonempty (kept ++ runs_of (over p (e ∷ [])))) (tried p) (tried p)
                (λ some. nonempty-append kept _ ∙ or_left _ _ some) (λ m k. k) (empty-level p))
          ]

  -- When no entry is left.
  pub blocking-end : (goal : Option Run) (tried : ℕ → List ℕ) (kept : List Run) → Blocking goal tried kept []
      → ((p : ℕ) → Spent text spots falls p (tried p) (nonempty kept)) × (first (map forget kept) ≡ goal)
  blocking-end goal tried kept h = (
    (λ p. spent-level p (tried p) (nonempty kept)
        (subst (λ xs. Covers text spots falls p (tried p) (nonempty xs) (tried p) (nowhere text spots falls p ∷ [])) (append-nil kept) (h.levels p))),
    ap (λ xs. first (map forget xs)) (sym (append-nil kept)) ∙ h.finds,
  )
