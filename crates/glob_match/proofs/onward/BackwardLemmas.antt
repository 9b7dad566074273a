-- From which places a piece leads to a set, one place after another from the path's end: what the loops over a set of places compute.
use Rattle.std.proofs.Common.{◌≡◌, ◌≢◌, ◌↔◌, ◌⊎◌, inl, inr, ℕ, ◌+◌, ◌-◌, ◌<◌, ◌≤◌, Bool, true, false, List, length, slice_get, set, get_or, Some, arith, refl, sym, subst, ap, ◌∙◌, length-set}
use Rattle.std.proofs.lemmas.Option.{slice_get_within, slice_get-get_or}
use Rattle.std.proofs.lemmas.Bool.{cases_eq}
use Rattle.glob_match.specs.declared.piece.Single.{Single}
use Rattle.glob_match.specs.declared.piece.Piece.{Piece}
use Rattle.glob_match.specs.declared.piece.Piece.TheVariants.{One, AnyRun, AnyDepth, AnyRest}
use Rattle.glob_match.specs.Takes.{IsAfterSeparator}
use Rattle.glob_match.specs.Places.{Holds, TakesAt}
use Rattle.glob_match.specs.Backward.{LeadsInto, IsStepBack}
use Rattle.glob_match.proofs.places.PlacesLemmas.{some_true, set_here, set_elsewhere}

-- a set that is turned, place by place from its end, into the places of P: the places from k on are done, those before are the old ones
pub record IsTurnedFrom (P : ℕ → Type 0) (old now : List Bool) (k : ℕ) : Type 0 where
  pub as_long : length now ≡ length old
  pub done : (from : ℕ) → k ≤ from → Holds now from ↔ P from
  pub rest : (from : ℕ) → from < k → slice_get now from ≡ slice_get old from

-- the loop so far: `after` is whether Q holds of the place k
pub record BackSoFar (P Q : ℕ → Type 0) (old now : List Bool) (k : ℕ) (after : Bool) : Type 0 where
  pub turned : IsTurnedFrom P old now k
  pub here : (after ≡ true) ↔ Q k

-- one more place turned
turned_less : (P : ℕ → Type 0) (old now : List Bool) (k : ℕ) (b : Bool) → IsTurnedFrom P old now k → 0 < k → k ≤ length now → (b ≡ true) ↔ P (k - 1) → IsTurnedFrom P old (set now (k - 1) b) (k - 1)
turned_less P old now k b before some within here = record {
  as_long = simp length-set before.as_long;
  done = λ from above. elim (cases_eq from (k - 1)) [
    | inl same ↦
        let there : slice_get (set now (k - 1) b) from ≡ Some b = ap (λ (i : ℕ). slice_get (set now (k - 1) b) i) same ∙ set_here now (k - 1) b (omega arith) in
        ((λ e. subst P (sym same) (here.0 (some_true b (sym there ∙ e)))), (λ p. there ∙ ap (λ (x : Bool). Some x) (here.1 (subst P same p))))
    | inr other ↦
        let stays : slice_get (set now (k - 1) b) from ≡ slice_get now from = set_elsewhere now (k - 1) from b other in
        let old_fact = before.done from (omega arith) in
        ((λ e. old_fact.0 (sym stays ∙ e)), (λ p. stays ∙ old_fact.1 p))
  ];
  rest = λ from below. set_elsewhere now (k - 1) from b (λ e. absurd (omega arith)) ∙ before.rest from (omega arith);
}

-- the test at the next place
next_old : (P : ℕ → Type 0) (old now : List Bool) (k : ℕ) → IsTurnedFrom P old now k → 0 < k → k ≤ length now → (get_or now (k - 1) false ≡ true) ↔ Holds old (k - 1)
next_old P old now k turned some within =
    let there : slice_get now (k - 1) ≡ Some (get_or now (k - 1) false) = slice_get-get_or now (k - 1) false (omega arith) in
    let same : slice_get now (k - 1) ≡ slice_get old (k - 1) = turned.rest (k - 1) (omega arith) in
    ((λ e. sym same ∙ there ∙ ap (λ (x : Bool). Some x) e), (λ e. some_true (get_or now (k - 1) false) (sym there ∙ same ∙ e)))

-- no piece leads from a place past the path
past : (piece : Piece) (path : List ℕ) (places : List Bool) (from : ℕ) → length path < from → LeadsInto piece path places from → ⊥
past (One single) path places from lt (to, here, takes) = let within = slice_get_within path from takes.0 takes.1 in omega arith
past AnyRun path places from lt (to, here, takes) = omega (arith, takes.0, takes.1)
past AnyDepth path places from lt (to, here, takes) = omega (arith, takes.0, takes.1)
past AnyRest path places from lt (to, here, takes) = omega (arith, takes.0, takes.1)

-- no place is held past a set's end
held_within : (places : List Bool) (k : ℕ) → length places ≤ k → Holds places k → ⊥
held_within places k beyond here = let within = slice_get_within places k true here in omega arith

-- no place is turned yet
turned_none : (piece : Piece) (path : List ℕ) (old : List Bool) → length old ≡ length path + 1 → IsTurnedFrom (LeadsInto piece path old) old old (length old)
turned_none piece path old long = record {
  as_long = refl;
  done = λ from beyond. ((λ here. absurd (held_within old from beyond here)), (λ leads. absurd (past piece path old from (omega arith) leads)));
  rest = λ from below. refl;
}

-- each place is turned
pub turned_back : (piece : Piece) (path : List ℕ) (old now : List Bool) (k : ℕ) → length old ≡ length path + 1 → k ≤ 0 → IsTurnedFrom (LeadsInto piece path old) old now k → IsStepBack piece path old now
turned_back piece path old now k long all turned = record {
  as_long = turned.as_long ∙ long;
  these = λ from. turned.done from (omega arith);
}

module _ (path : List ℕ) (places : List Bool) where
  -- what takes one character leads from this place to the next one alone
  one_before : (single : Single) (k next : ℕ) → next ≡ k + 1 → LeadsInto (One single) path places k ↔ (Holds places next × TakesAt single path k)
  one_before single k next after = (
    (λ h. (subst (λ (i : ℕ). Holds places i) (h.2.3 ∙ sym after) h.1, (h.2.0, h.2.1, h.2.2))),
    (λ h. (next, h.0, (h.1.0, h.1.1, h.1.2, after))),
  )

  -- `*` leads from this place to itself, or to where it leads from the next one if no `/` stands between
  run_before : (k next : ℕ) → next ≡ k + 1 → k ≤ length path → LeadsInto AnyRun path places k ↔ (Holds places k ⊎ (LeadsInto AnyRun path places next × (slice_get path k ≢ Some 47)))
  run_before k next after within = (
    (λ h. elim (cases_eq h.0 k) [
      | inl same ↦ inl (subst (λ (i : ℕ). Holds places i) same h.1)
      | inr other ↦ inr ((h.0, h.1, (omega (arith, h.2.0), h.2.1, λ place l r. h.2.2 place (omega arith) r)), h.2.2 k (omega arith) (omega (arith, h.2.0)))
    ]),
    (λ h. elim h [
      | inl here ↦ (k, here, (omega arith, within, λ place l r. absurd (omega arith)))
      | inr more ↦ (
        more.0.0,
        more.0.1,
        (
          omega (arith, more.0.2.0),
          more.0.2.1,
          λ place l r. elim (cases_eq place k) [
            | inl same ↦ λ e. more.1 (subst (λ (i : ℕ). slice_get path i ≡ Some 47) same e)
            | inr other ↦ more.0.2.2 place (omega arith) r
          ],
        ),
      )
    ]),
  )

  -- a star token with its `/` leads from this place to itself if a `/` ends before it, or to where it leads from the next one
  depth_before : (k next : ℕ) → next ≡ k + 1 → k ≤ length path → LeadsInto AnyDepth path places k ↔ (LeadsInto AnyDepth path places next ⊎ (Holds places k × IsAfterSeparator path k))
  depth_before k next after within = (
    (λ h. elim (cases_eq h.0 k) [
      | inl same ↦ inr (subst (λ (i : ℕ). Holds places i) same h.1, subst (λ (i : ℕ). IsAfterSeparator path i) same h.2.2)
      | inr other ↦ inl (h.0, h.1, (omega (arith, h.2.0), h.2.1, h.2.2))
    ]),
    (λ h. elim h [
      | inl more ↦ (more.0, more.1, (omega (arith, more.2.0), more.2.1, more.2.2))
      | inr here ↦ (k, here.0, (omega arith, within, here.1))
    ]),
  )

  -- a star token at the glob's end leads from this place to itself, or to where it leads from the next one
  rest_before : (k next : ℕ) → next ≡ k + 1 → k ≤ length path → LeadsInto AnyRest path places k ↔ (LeadsInto AnyRest path places next ⊎ Holds places k)
  rest_before k next after within = (
    (λ h. elim (cases_eq h.0 k) [
      | inl same ↦ inr (subst (λ (i : ℕ). Holds places i) same h.1)
      | inr other ↦ inl (h.0, h.1, (omega (arith, h.2.0), h.2.1))
    ]),
    (λ h. elim h [
      | inl more ↦ (more.0, more.1, (omega (arith, more.2.0), more.2.1))
      | inr here ↦ (k, here, (omega arith, within))
    ]),
  )

-- the loop for what takes one character so far: `after` is whether the place k is in the set
abbrev pub OneBackSoFar : Single → List ℕ → List Bool → List Bool → ℕ → Bool → Type 0
OneBackSoFar single path old now k after = BackSoFar (LeadsInto (One single) path old) (Holds old) old now k after

-- the loop for any other piece so far: `after` is whether it leads from the place k
abbrev pub PieceBackSoFar : Piece → List ℕ → List Bool → List Bool → ℕ → Bool → Type 0
PieceBackSoFar piece path old now k after = BackSoFar (LeadsInto piece path old) (LeadsInto piece path old) old now k after

pub one_back_none : (single : Single) (path : List ℕ) (old : List Bool) → length old ≡ length path + 1 → OneBackSoFar single path old old (length old) false
one_back_none single path old long = record {
  turned = turned_none (One single) path old long;
  here = ((λ e. absurd (cc)), (λ here. absurd (held_within old (length old) (omega arith) here)));
}

pub piece_back_none : (piece : Piece) (path : List ℕ) (old : List Bool) → length old ≡ length path + 1 → PieceBackSoFar piece path old old (length old) false
piece_back_none piece path old long = record {
  turned = turned_none piece path old long;
  here = ((λ e. absurd (cc)), (λ leads. absurd (past piece path old (length old) (omega arith) leads)));
}

-- one more turn of the loop for what takes one character
pub one_back_more : (single : Single) (path : List ℕ) (old now : List Bool) (k : ℕ) (after leads : Bool) → OneBackSoFar single path old now k after → 0 < k → k ≤ length now
    → (leads ≡ true) ↔ ((after ≡ true) × TakesAt single path (k - 1)) → OneBackSoFar single path old (set now (k - 1) leads) (k - 1) (get_or now (k - 1) false)
one_back_more single path old now k after leads so_far some within is =
    let before = one_before path old single (k - 1) k (omega arith) in
    record {
      turned = turned_less (LeadsInto (One single) path old) old now k leads so_far.turned some within
          ((λ e. let both = is.0 e in before.1 (so_far.here.0 both.0, both.1)), (λ l. let both = before.0 l in is.1 (so_far.here.1 both.0, both.1)));
      here = next_old (LeadsInto (One single) path old) old now k so_far.turned some within;
    }

-- one more turn of the loop for `*`
pub run_back_more : (path : List ℕ) (old now : List Bool) (k : ℕ) (after leads : Bool) → PieceBackSoFar AnyRun path old now k after → 0 < k → k ≤ length now → length old ≡ length path + 1
    → (leads ≡ true) ↔ ((get_or now (k - 1) false ≡ true) ⊎ ((after ≡ true) × (slice_get path (k - 1) ≢ Some 47))) → PieceBackSoFar AnyRun path old (set now (k - 1) leads) (k - 1) leads
run_back_more path old now k after leads so_far some within long is =
    let test = next_old (LeadsInto AnyRun path old) old now k so_far.turned some within in
    let before = run_before path old (k - 1) k (omega arith) (omega (arith, so_far.turned.as_long)) in
    let here : (leads ≡ true) ↔ LeadsInto AnyRun path old (k - 1) = (
      (λ e. before.1 (elim (is.0 e) [ inl t ↦ inl (test.0 t) | inr both ↦ inr (so_far.here.0 both.0, both.1) ])),
      (λ l. is.1 (elim (before.0 l) [ inl t ↦ inl (test.1 t) | inr both ↦ inr (so_far.here.1 both.0, both.1) ])),
    ) in
    record { turned = turned_less (LeadsInto AnyRun path old) old now k leads so_far.turned some within here; here = here }

-- one more turn of the loop for a star token with its `/`
pub depth_back_more : (path : List ℕ) (old now : List Bool) (k : ℕ) (after leads : Bool) → PieceBackSoFar AnyDepth path old now k after → 0 < k → k ≤ length now → length old ≡ length path + 1
    → (leads ≡ true) ↔ ((after ≡ true) ⊎ ((get_or now (k - 1) false ≡ true) × IsAfterSeparator path (k - 1))) → PieceBackSoFar AnyDepth path old (set now (k - 1) leads) (k - 1) leads
depth_back_more path old now k after leads so_far some within long is =
    let test = next_old (LeadsInto AnyDepth path old) old now k so_far.turned some within in
    let before = depth_before path old (k - 1) k (omega arith) (omega (arith, so_far.turned.as_long)) in
    let here : (leads ≡ true) ↔ LeadsInto AnyDepth path old (k - 1) = (
      (λ e. before.1 (elim (is.0 e) [ inl a ↦ inl (so_far.here.0 a) | inr both ↦ inr (test.0 both.0, both.1) ])),
      (λ l. is.1 (elim (before.0 l) [ inl a ↦ inl (so_far.here.1 a) | inr both ↦ inr (test.1 both.0, both.1) ])),
    ) in
    record { turned = turned_less (LeadsInto AnyDepth path old) old now k leads so_far.turned some within here; here = here }

-- one more turn of the loop for a star token at the glob's end
pub rest_back_more : (path : List ℕ) (old now : List Bool) (k : ℕ) (after leads : Bool) → PieceBackSoFar AnyRest path old now k after → 0 < k → k ≤ length now → length old ≡ length path + 1
    → (leads ≡ true) ↔ ((after ≡ true) ⊎ (get_or now (k - 1) false ≡ true)) → PieceBackSoFar AnyRest path old (set now (k - 1) leads) (k - 1) leads
rest_back_more path old now k after leads so_far some within long is =
    let test = next_old (LeadsInto AnyRest path old) old now k so_far.turned some within in
    let before = rest_before path old (k - 1) k (omega arith) (omega (arith, so_far.turned.as_long)) in
    let here : (leads ≡ true) ↔ LeadsInto AnyRest path old (k - 1) = (
      (λ e. before.1 (elim (is.0 e) [ inl a ↦ inl (so_far.here.0 a) | inr t ↦ inr (test.0 t) ])),
      (λ l. is.1 (elim (before.0 l) [ inl a ↦ inl (so_far.here.1 a) | inr t ↦ inr (test.1 t) ])),
    ) in
    record { turned = turned_less (LeadsInto AnyRest path old) old now k leads so_far.turned some within here; here = here }
