-- A search of one place that tries each spot once.
use Rattle.std.proofs.Common.{◌≡◌, ℕ, Bool, true, false, ◌⊎◌, inl, inr, List, [], ◌∷◌, ◌++◌, map, refl, sym, ap, ◌∙◌, subst, true≢false}
use Rattle.std.specs.Prelude.{◌||◌, ◌==◌}
use Rattle.std.proofs.Math.Bool.{or-false}
use Rattle.std.specs.List.{flat_map, AllByRecursion}
use Rattle.std.proofs.lemmas.Bool.{or_left, or_right, or_parts, eqb-true}
use Rattle.hir_tree.specs.Runs.{Run, is_seen}
use Rattle.hir_tree.specs.RunsLaws.{forget}
use Rattle.hir_program.specs.Program.{Way, gives, ClosesFall}
use Rattle.hir_program.specs.declared.spot.Spot.{Spot}
use Rattle.hir_program.proofs.EntryLemmas.{reseen}
use Rattle.hir_core.proofs.PruningLemmas.{Subset, Subset-mark, mono, extend, Covered}

-- a spot that is still to be tried, with what its path saw at this place
pub record Entry : Type 0 where
  pub spot : ℕ
  pub way : Way

abbrev pub entry : ℕ → Way → Entry
entry q w = record { spot = q; way = w }

abbrev pub seen_by : Entry → List ℕ
seen_by e = e.way.run.seen

abbrev pub nonempty : {A : Type 0} → List A → Bool
nonempty [] = false
nonempty (x ∷ xs) = true

pub nonempty-append : {A : Type 0} (xs ys : List A) → nonempty (xs ++ ys) ≡ (nonempty xs || nonempty ys)
nonempty-append [] ys = refl
nonempty-append (x ∷ xs) ys = refl

pub empty_of : {A : Type 0} (xs : List A) → nonempty xs ≡ false → xs ≡ []
empty_of [] e = refl
empty_of (x ∷ xs) e = absurd (true≢false e)

pub forgets_nothing : (xs : List Run) → map forget xs ≡ [] → xs ≡ []
forgets_nothing [] e = refl
forgets_nothing (x ∷ xs) e = absurd (true≢false (ap nonempty e))

pub or_assoc_lem : (a b c : Bool) → ((a || b) || c) ≡ (a || (b || c))
or_assoc_lem true b c = refl
or_assoc_lem false b c = refl

or_up : (a a' b : Bool) → (a ≡ true → a' ≡ true) → (a || b) ≡ true → (a' || b) ≡ true
or_up true a' b h e = or_left _ _ (h refl)
or_up false a' b h e = or_right _ _ e

module _ (text : List ℕ) (spots : List Spot) (falls : ClosesFall spots) (at : ℕ) where
  abbrev pub gives_entry : Entry → List Run
  gives_entry e = gives text spots e.spot e.way

  abbrev pub pend : List Entry → List Run
  pend = flat_map gives_entry

  -- A spot that was visited is one that the entry's path saw, or gives nothing there, unless what comes before gives something.
  abbrev pub Answered : List ℕ → Bool → Entry → Type 0
  Answered visited done e = (m : ℕ) → is_seen m visited ≡ true → (done ≡ true) ⊎ ((is_seen m (seen_by e) ≡ true) ⊎ (gives text spots m e.way ≡ []))

  -- So it is with each entry. An entry's path saw no more than that of the entry above.
  abbrev pub Covers : List ℕ → Bool → List ℕ → List Entry → Type 0
  Covers visited done above [] = Unit {0}
  Covers visited done above (e ∷ es) =
      (e.way.run.at ≡ at) × Subset (seen_by e) above × Answered visited done e
      × Covers visited (done || nonempty (gives_entry e)) (seen_by e) es

  -- the entries below one that was visited
  settle : (e : Entry) (visited : List ℕ) → e.way.run.at ≡ at → Subset (seen_by e) visited
      → (es : List Entry) (done more : Bool) (above below : List ℕ) → (done ≡ true → more ≡ true) → (done ≡ false → gives_entry e ≡ [])
      → Subset above (seen_by e) → Subset above below
      → Covers visited done above es → Covers (e.spot ∷ visited) more below es
  settle e visited here saw [] done more above below up dead inner wider covers = tt
  settle e visited here saw (d ∷ es) done more above below up dead inner wider covers = (
    covers.0,
    (λ m k. wider m (covers.1 m k)),
    answered,
    settle e visited here saw es (done || nonempty (gives_entry d)) (more || nonempty (gives_entry d)) (seen_by d) (seen_by d)
        (or_up done more (nonempty (gives_entry d)) up) (λ k. dead (or_parts _ _ k).0) (λ m k. inner m (covers.1 m k)) (λ m k. k) covers.3,
  )
    where
      fresh : (b : Bool) → done ≡ b → (more ≡ true) ⊎ ((is_seen e.spot (seen_by d) ≡ true) ⊎ (gives text spots e.spot d.way ≡ []))
      fresh true k = inl (up k)
      fresh false k =
          let nothing : gives text spots e.spot e.way ≡ [] = dead k in
          let over : Covered text spots falls d.way (seen_by e) =
          λ m seen. elim (covers.2 m (saw m seen)) [ inl yes_done ↦ absurd (true≢false (sym yes_done ∙ k)) | inr rest ↦ rest ] in
          let same = extend text spots falls e.spot d.way (seen_by e) (λ m seen. inner m (covers.1 m seen)) over in
          let gone : gives text spots e.spot (reseen (seen_by e) d.way) ≡ [] =
          mono text spots falls e.spot e.way (reseen (seen_by e) d.way) (here ∙ sym covers.0) (λ m seen. seen) nothing in
          inr (inr (forgets_nothing _ (same ∙ ap (map forget) gone)))

      old : (m : ℕ) → is_seen m visited ≡ true → (more ≡ true) ⊎ ((is_seen m (seen_by d) ≡ true) ⊎ (gives text spots m d.way ≡ []))
      old m k = elim (covers.2 m k) [ inl yes_done ↦ inl (up yes_done) | inr rest ↦ inr rest ]

      answered : Answered (e.spot ∷ visited) more d
      answered m k = cases (e.spot == m) refl k
        where
          cases : (b : Bool) → (e.spot == m) ≡ b → (b || is_seen m visited) ≡ true → (more ≡ true) ⊎ ((is_seen m (seen_by d) ≡ true) ⊎ (gives text spots m d.way ≡ []))
          cases true same h = subst (λ x. (more ≡ true) ⊎ ((is_seen x (seen_by d) ≡ true) ⊎ (gives text spots x d.way ≡ []))) (eqb-true e.spot m same) (fresh done refl)
          cases false same h = old m h

  -- each of these comes from the entry, which is marked
  abbrev pub Children : Entry → List Entry → Type 0
  Children e cs = AllByRecursion (λ (c : Entry). (c.way.run.at ≡ at) × (c.way.run.seen ≡ e.spot ∷ seen_by e)) cs

  -- what holds below the entry holds below those that it leads to
  expand-on : (e : Entry) (visited : List ℕ) (es : List Entry) (done : Bool) → Covers visited done visited (e ∷ es)
      → (ds : List Entry) (now : Bool) (above : List ℕ) → Children e ds → Subset (e.spot ∷ seen_by e) above
      → (done ≡ true → now ≡ true)
      → ((done || nonempty (gives_entry e)) ≡ true → (now || nonempty (pend ds)) ≡ true)
      → Covers (e.spot ∷ visited) now above (ds ++ es)
  expand-on e visited es done covers [] now above kids wide up all =
      settle e visited covers.0 covers.1 es (done || nonempty (gives_entry e)) now (seen_by e) above
      (λ k. sym (or-false now) ∙ all k) (λ k. empty_of _ (or_parts _ _ k).1) (λ m k. k) (λ m k. wide m (or_right _ _ k)) covers.3
  expand-on e visited es done covers (c ∷ ds) now above kids wide up all =
      let saw : c.way.run.seen ≡ e.spot ∷ seen_by e = kids.0.1 in
      let more : Subset (e.spot ∷ seen_by e) (seen_by c) = λ m k. ap (is_seen m) saw ∙ k in (
        kids.0.0,
        (λ m k. wide m (ap (is_seen m) (sym saw) ∙ k)),
        answered more,
        expand-on e visited es done covers ds (now || nonempty (gives_entry c)) (seen_by c) kids.1 more
            (λ k. or_left _ _ (up k))
            (λ k. or_assoc_lem now (nonempty (gives_entry c)) (nonempty (pend ds))
            ∙ ap (λ b. now || b) (sym (nonempty-append (gives_entry c) (pend ds))) ∙ all k),
      )
    where
      answered : Subset (e.spot ∷ seen_by e) (seen_by c) → Answered (e.spot ∷ visited) now c
      answered more m k = cases (e.spot == m) refl k
        where
          old : is_seen m visited ≡ true → (now ≡ true) ⊎ ((is_seen m (seen_by c) ≡ true) ⊎ (gives text spots m c.way ≡ []))
          old h =
              elim (covers.2 m h) [
                | inl yes_done ↦ inl (up yes_done)
                | inr rest ↦ elim rest [
                  | inl seen ↦ inr (inl (more m (or_right _ _ seen)))
                  | inr dead ↦ inr (inr (mono text spots falls m e.way c.way (covers.0 ∙ sym kids.0.0) (λ n seen. more n (or_right _ _ seen)) dead))
                ]
              ]

          cases : (b : Bool) → (e.spot == m) ≡ b → (b || is_seen m visited) ≡ true → (now ≡ true) ⊎ ((is_seen m (seen_by c) ≡ true) ⊎ (gives text spots m c.way ≡ []))
          cases true same h = inr (inl (more m (or_left _ _ same)))
          cases false same h = old h

  -- The step: an entry that wasn't visited gives way to those that it leads to
  pub Covers-expand : (e : Entry) (visited : List ℕ) (es cs : List Entry) (done : Bool) → Covers visited done visited (e ∷ es)
      → Children e cs → gives_entry e ≡ pend cs → Covers (e.spot ∷ visited) done (e.spot ∷ visited) (cs ++ es)
  Covers-expand e visited es cs done covers children same =
      expand-on e visited es done covers cs done (e.spot ∷ visited) children (Subset-mark e.spot _ _ covers.1) (λ k. k)
      (λ k. ap (λ xs. done || nonempty xs) (sym same) ∙ k)

  -- an entry that wasn't visited is put aside, after what is there
  pub Covers-kept : (e : Entry) (visited : List ℕ) (es : List Entry) (kept : List Run) → Covers visited (nonempty kept) visited (e ∷ es)
      → Covers (e.spot ∷ visited) (nonempty (kept ++ gives_entry e)) (e.spot ∷ visited) es
  Covers-kept e visited es kept covers =
      settle e visited covers.0 covers.1 es (nonempty kept || nonempty (gives_entry e)) (nonempty (kept ++ gives_entry e)) (seen_by e) (e.spot ∷ visited)
      (λ k. nonempty-append kept (gives_entry e) ∙ k) (λ k. empty_of _ (or_parts _ _ k).1) (λ m k. k) (λ m k. or_right _ _ (covers.1 m k)) covers.3

  -- an entry that was visited gives nothing, unless something before it does
  pub Covers-seen : (e : Entry) (visited : List ℕ) (es : List Entry) (done : Bool) → Covers visited done visited (e ∷ es) → is_seen e.spot visited ≡ true
      → (is_seen e.spot (seen_by e) ≡ true → gives_entry e ≡ []) → (done ≡ true) ⊎ (gives_entry e ≡ [])
  Covers-seen e visited es done covers seen shut =
      elim (covers.2 e.spot seen) [ inl yes_done ↦ inl yes_done | inr rest ↦ elim rest [ inl before ↦ inr (shut before) | inr dead ↦ inr dead ] ]
