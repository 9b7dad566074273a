-- A search that keeps one run per spot and byte finds the first run.
use Rattle.std.proofs.Common.{◌≡◌, ℕ, Bool, true, false, ◌⊎◌, inl, inr, List, [], ◌∷◌, ◌++◌, length, map, Option, Some, if◌then◌else◌, refl, sym, ap, ◌∙◌, subst, true≢false, append-nil, append_assoc, arith}
use Rattle.std.specs.Prelude.{◌||◌}
use Rattle.std.specs.Option.{option_or}
use Rattle.std.proofs.Math.Bool.{or-false}
use Rattle.std.proofs.lemmas.Bool.{or_left, or_right, cond-true, cond-false}
use Rattle.std.proofs.lemmas.Grind.{flat_map-append}
use Rattle.std.proofs.lemmas.List.{get_or_past}
use Rattle.hir_tree.specs.Runs.{Run, is_seen, first}
use Rattle.hir_tree.specs.RunsLaws.{forget}
use Rattle.hir_program.specs.Program.{spot_at, is_unmarked, way, marked, closed, follow, gives, ClosesFall}
use Rattle.hir_program.specs.declared.spot.Spot.{Spot}
use Rattle.hir_program.specs.declared.spot.Spot.TheVariants as spot
use Rattle.hir_program.proofs.PlacedLemmas.{gives-at, gives-close}
use Rattle.hir_core.proofs.PruningLemmas.{Subset, unseen_before, mono}
use Rattle.hir_core.proofs.closure.ClosureLemmas.{Entry, entry, seen_by, nonempty, pend, Covers, Children, Covers-expand, Covers-kept, Covers-seen}

-- what comes after something doesn't matter
pub first_before : (xs ys zs : List Run) → nonempty xs ≡ true → first (map forget (xs ++ ys)) ≡ first (map forget (xs ++ zs))
first_before [] ys zs e = absurd (true≢false (sym e))
first_before (x ∷ xs) ys zs e = refl

-- the first of two lists is that of the former, or else that of the latter
pub first_of_two : (xs ys : List Run) → first (map forget (xs ++ ys)) ≡ option_or (first (map forget xs)) (first (map forget ys))
first_of_two [] ys = refl
first_of_two (x ∷ xs) ys = refl

or_up : (a a' b : Bool) → (a ≡ true → a' ≡ true) → (a || b) ≡ true → (a' || b) ≡ true
or_up true a' b h k = or_left _ _ (h refl)
or_up false a' b h k = or_right _ _ k

module _ (text : List ℕ) (spots : List Spot) (falls : ClosesFall spots) (at : ℕ) where
  pub Covers-above : (visited : List ℕ) (es : List Entry) (done more : Bool) (above below : List ℕ) → (done ≡ true → more ≡ true) → Subset above below
      → Covers text spots falls at visited done above es → Covers text spots falls at visited more below es
  Covers-above visited [] done more above below up wide c = tt
  Covers-above visited (e ∷ es) done more above below up wide c = (
    c.0,
    (λ m k. wide m (c.1 m k)),
    (λ m k. elim (c.2 m k) [ inl h ↦ inl (up h) | inr r ↦ inr r ]),
    Covers-above visited es (done || nonempty (gives text spots e.spot e.way)) (more || nonempty (gives text spots e.spot e.way)) (seen_by e) (seen_by e)
        (or_up done more _ up) (λ m k. k) c.3,
  )

  -- What a search of a place keeps true: what was kept, and what is still to be tried, have the first run that is sought.
  abbrev pub Stands : Option Run → List ℕ → List Run → List Entry → Type 0
  Stands goal visited kept es =
      Covers text spots falls at visited (nonempty kept) visited es × (first (map forget (kept ++ pend text spots falls at es)) ≡ goal)

  -- an entry that gives nothing is dropped
  pub Stands-dropped : (goal : Option Run) (visited : List ℕ) (kept : List Run) (e : Entry) (es : List Entry) → gives text spots e.spot e.way ≡ []
      → Stands goal visited kept (e ∷ es) → Stands goal visited kept es
  Stands-dropped goal visited kept e es nothing h = (
    Covers-above visited es (nonempty kept || nonempty (gives text spots e.spot e.way)) (nonempty kept) (seen_by e) visited
        (λ u. sym (or-false (nonempty kept)) ∙ (ap (λ xs. nonempty kept || nonempty xs) (sym nothing) ∙ u)) h.0.1 h.0.3,
    ap (λ xs. first (map forget (kept ++ (xs ++ pend text spots falls at es)))) (sym nothing) ∙ h.1,
  )

  -- so is one that gives nothing unless something was kept
  pub Stands-answered : (goal : Option Run) (visited : List ℕ) (kept : List Run) (e : Entry) (es : List Entry)
      → (nonempty kept ≡ true) ⊎ (gives text spots e.spot e.way ≡ []) → Stands goal visited kept (e ∷ es) → Stands goal visited kept es
  Stands-answered goal visited kept e es (inl some) h = (
    Covers-above visited es (nonempty kept || nonempty (gives text spots e.spot e.way)) (nonempty kept) (seen_by e) visited (λ _. some) h.0.1 h.0.3,
    first_before kept _ _ some ∙ h.1,
  )
  Stands-answered goal visited kept e es (inr nothing) h = Stands-dropped goal visited kept e es nothing h

  -- an entry that was visited is dropped
  pub Stands-seen : (goal : Option Run) (visited : List ℕ) (kept : List Run) (e : Entry) (es : List Entry) (s : Spot)
      → spot_at spots e.spot ≡ s → is_unmarked s ≡ false → is_seen e.spot visited ≡ true
      → Stands goal visited kept (e ∷ es) → Stands goal visited kept es
  Stands-seen goal visited kept e es s k plain seen h =
      Stands-answered goal visited kept e es
      (Covers-seen text spots falls at e visited es (nonempty kept) h.0 seen
      (λ before. gives-at text spots falls e.spot s e.way k ∙ cond-false _ _ _ plain ∙ cond-true _ _ _ before)) h

  -- what an entry gives that was not visited
  pub gives_fresh : (visited : List ℕ) (done : Bool) (e : Entry) (es : List Entry) (s : Spot) → spot_at spots e.spot ≡ s → is_unmarked s ≡ false
      → is_seen e.spot visited ≡ false → Covers text spots falls at visited done visited (e ∷ es)
      → gives text spots e.spot e.way ≡ follow text spots (gives text spots) s (marked e.spot e.way)
  gives_fresh visited done e es s k plain new c =
      gives-at text spots falls e.spot s e.way k ∙ cond-false _ _ _ plain ∙ cond-false _ _ _ (unseen_before e.spot (seen_by e) visited c.1 new)

  -- an entry that is new gives way to those that it leads to
  pub Stands-led : (goal : Option Run) (visited : List ℕ) (kept : List Run) (e : Entry) (es cs : List Entry) (s : Spot)
      → spot_at spots e.spot ≡ s → is_unmarked s ≡ false → is_seen e.spot visited ≡ false
      → Children text spots falls at e cs → follow text spots (gives text spots) s (marked e.spot e.way) ≡ pend text spots falls at cs
      → Stands goal visited kept (e ∷ es) → Stands goal (e.spot ∷ visited) kept (cs ++ es)
  Stands-led goal visited kept e es cs s k plain new children same h =
      let leads : gives text spots e.spot e.way ≡ pend text spots falls at cs =
      gives_fresh visited (nonempty kept) e es s k plain new h.0 ∙ same in (
        Covers-expand text spots falls at e visited es cs (nonempty kept) h.0 children leads,
        ap (λ xs. first (map forget (kept ++ xs))) (flat_map-append (λ (x : Entry). gives text spots x.spot x.way) cs es ∙ ap (λ xs. xs ++ pend text spots falls at es) (sym leads))
            ∙ h.1,
      )

  -- an entry that is new, and what follows its bytes is kept
  pub Stands-kept : (goal : Option Run) (visited : List ℕ) (kept on : List Run) (e : Entry) (es : List Entry) (s : Spot)
      → spot_at spots e.spot ≡ s → is_unmarked s ≡ false → is_seen e.spot visited ≡ false
      → follow text spots (gives text spots) s (marked e.spot e.way) ≡ on
      → Stands goal visited kept (e ∷ es) → Stands goal (e.spot ∷ visited) (kept ++ on) es
  Stands-kept goal visited kept on e es s k plain new same h =
      let its : gives text spots e.spot e.way ≡ on = gives_fresh visited (nonempty kept) e es s k plain new h.0 ∙ same in (
        subst (λ xs. Covers text spots falls at (e.spot ∷ visited) (nonempty (kept ++ xs)) (e.spot ∷ visited) es) its (Covers-kept text spots falls at e visited es kept h.0),
        ap (λ xs. first (map forget xs)) (append_assoc kept on (pend text spots falls at es))
            ∙ ap (λ xs. first (map forget (kept ++ (xs ++ pend text spots falls at es)))) (sym its) ∙ h.1,
      )

  -- the end of a group gives way to what follows it
  pub Stands-closed : (goal : Option Run) (visited : List ℕ) (kept : List Run) (e : Entry) (es : List Entry) (i f : ℕ)
      → spot_at spots e.spot ≡ spot.Close i f
      → Stands goal visited kept (e ∷ es) → Stands goal visited kept (entry f (closed i e.way) ∷ es)
  Stands-closed goal visited kept e es i f k h =
      let same : gives text spots e.spot e.way ≡ gives text spots f (closed i e.way) = gives-close text spots falls e.spot i f e.way k in (
        (
          h.0.0,
          h.0.1,
          (λ m u. elim (h.0.2 m u) [
            | inl some ↦ inl some
            | inr rest ↦ elim rest [
              | inl seen ↦ inr (inl seen)
              | inr dead ↦ inr (inr (mono text spots falls m e.way (closed i e.way) refl (λ x y. y) dead))
            ]
          ]),
          Covers-above visited es (nonempty kept || nonempty (gives text spots e.spot e.way)) (nonempty kept || nonempty (gives text spots f (closed i e.way))) (seen_by e) (seen_by e)
              (λ u. ap (λ xs. nonempty kept || nonempty xs) (sym same) ∙ u) (λ m x. x) h.0.3,
        ),
        ap (λ xs. first (map forget (kept ++ (xs ++ pend text spots falls at es)))) (sym same) ∙ h.1,
      )

  -- at a match the search of the place is over
  pub Stands-match : (goal : Option Run) (visited : List ℕ) (kept : List Run) (e : Entry) (es : List Entry) → spot_at spots e.spot ≡ spot.Match
      → Stands goal visited kept (e ∷ es) → option_or (first (map forget kept)) (Some (forget e.way.run)) ≡ goal
  Stands-match goal visited kept e es k h =
      ap (λ xs. option_or (first (map forget kept)) (first (map forget (xs ++ pend text spots falls at es)))) (sym (gives-at text spots falls e.spot spot.Match e.way k))
      ∙ sym (first_of_two kept (gives text spots e.spot e.way ++ pend text spots falls at es)) ∙ h.1

  -- the way of a thread of which nothing is known but its place
  abbrev pub nowhere : Entry
  nowhere = entry (length spots) (way [] (record { at = at; groups = []; seen = [] }))

  gives_nowhere : gives text spots (length spots) (way [] (record { at = at; groups = []; seen = [] })) ≡ []
  gives_nowhere = gives-at text spots falls (length spots) spot.Fail _ (get_or_past spots (length spots) spot.Fail (omega arith))

  -- A spot that was visited gives nothing here, unless what was kept gives something.
  abbrev pub Spent : List ℕ → Bool → Type 0
  Spent visited done = (m : ℕ) → is_seen m visited ≡ true → (done ≡ true) ⊎ (gives text spots m (way [] (record { at = at; groups = []; seen = [] })) ≡ [])

  -- a thread comes to a place where others were
  pub Stands-begin : (visited : List ℕ) (kept : List Run) (e : Entry) → e.way.run.at ≡ at → e.way.run.seen ≡ [] → Spent visited (nonempty kept)
      → Stands (first (map forget (kept ++ gives text spots e.spot e.way))) visited kept (e ∷ nowhere ∷ [])
  Stands-begin visited kept e here fresh spent = (
    (
      here,
      (λ m k. absurd (true≢false (sym (ap (is_seen m) (sym fresh) ∙ k)))),
      (λ m k. elim (spent m k) [
        | inl some ↦ inl some
        | inr dead ↦ inr (inr (mono text spots falls m (way [] (record { at = at; groups = []; seen = [] })) e.way (sym here) (λ n u. absurd (true≢false (sym u))) dead))
      ]),
      (
        refl,
        (λ m k. absurd (true≢false (sym k))),
        (λ m k. elim (spent m k) [ inl some ↦ inl (or_left _ _ some) | inr dead ↦ inr (inr dead) ]),
        tt,
      ),
    ),
    ap (λ xs. first (map forget (kept ++ (gives text spots e.spot e.way ++ (xs ++ []))))) gives_nowhere
        ∙ ap (λ xs. first (map forget (kept ++ xs))) (append-nil _),
  )

  -- when no thread is left to be tried
  pub Stands-end : (goal : Option Run) (visited : List ℕ) (kept : List Run) (d : Entry) → d.spot ≡ length spots → d.way.run.at ≡ at → d.way.run.seen ≡ []
      → Stands goal visited kept (d ∷ []) → Spent visited (nonempty kept) × (first (map forget kept) ≡ goal)
  Stands-end goal visited kept d past here fresh h = (
    (λ m k. elim (h.0.2 m k) [
      | inl some ↦ inl some
      | inr rest ↦ elim rest [
        | inl seen ↦ absurd (true≢false (sym (ap (is_seen m) (sym fresh) ∙ seen)))
        | inr dead ↦ inr (mono text spots falls m d.way (way [] (record { at = at; groups = []; seen = [] })) here (λ n u. absurd (true≢false (sym (ap (is_seen n) (sym fresh) ∙ u)))) dead)
      ]
    ]),
    ap (λ xs. first (map forget xs)) (sym (append-nil kept) ∙ ap (λ xs. kept ++ xs) (sym nothing)) ∙ h.1,
  )
    where
      nothing : gives text spots d.spot d.way ++ [] ≡ []
      nothing = append-nil _ ∙ gives_past
        where
          gives_past : gives text spots d.spot d.way ≡ []
          gives_past =
              gives-at text spots falls d.spot spot.Fail d.way (get_or_past spots d.spot spot.Fail (omega arith)) ∙ both (is_seen d.spot d.way.run.seen)
            where
              both : (b : Bool) → (if b then [] else (let no_runs : List Run = [] in no_runs)) ≡ []
              both true = refl
              both false = refl
