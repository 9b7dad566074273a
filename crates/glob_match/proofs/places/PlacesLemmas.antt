-- To which places a piece leads, one place after another: what the loops over a set of places compute.
use Rattle.std.proofs.Common.{◌≡◌, ◌≢◌, ◌↔◌, ◌⊎◌, inl, inr, ℕ, zero, suc, ◌+◌, ◌<◌, ◌≤◌, Bool, true, false, List, [], ◌∷◌, ◌++◌, length, slice_get, set, get_or, take, drop, Some, arith, refl, sym, subst, ap, ◌∙◌, add-one, length-set, length-append}
use Rattle.std.proofs.lemmas.Option.{slice_get_within, slice_get-get_or}
use Rattle.std.proofs.lemmas.List.{take_all, take-append-le}
use Rattle.std.proofs.lemmas.Bool.{cases_eq, cases_lt}
use Rattle.glob_match.specs.declared.piece.Single.{Single}
use Rattle.glob_match.specs.declared.piece.Piece.{Piece}
use Rattle.glob_match.specs.declared.piece.Piece.TheVariants.{One, AnyRun, AnyDepth, AnyRest}
use Rattle.glob_match.specs.Takes.{IsAfterSeparator}
use Rattle.glob_match.specs.Places.{Holds, TakesAt, LeadsTo, IsStep, IsStartAlone, IsUnion}

-- a test that is there as `true`
pub some_true : (b : Bool) → Some b ≡ Some true → b ≡ true
some_true b e = cc

-- a set that is turned, place by place, into the places of P: the places before k are done, the rest are the old ones
pub record IsTurned (P : ℕ → Type 0) (old now : List Bool) (k : ℕ) : Type 0 where
  pub as_long : length now ≡ length old
  pub done : (to : ℕ) → to < k → Holds now to ↔ P to
  pub rest : (to : ℕ) → k ≤ to → slice_get now to ≡ slice_get old to

-- what is written is there
pub set_here : (xs : List Bool) (k : ℕ) (b : Bool) → k < length xs → slice_get (set xs k b) k ≡ Some b
set_here [] k b lt = absurd (omega arith)
set_here (x ∷ xs) zero b lt = refl
set_here (x ∷ xs) (suc k) b lt = set_here xs k b (omega arith)

-- a write leaves the other places
pub set_elsewhere : (xs : List Bool) (k to : ℕ) (b : Bool) → to ≢ k → slice_get (set xs k b) to ≡ slice_get xs to
set_elsewhere [] k to b other = refl
set_elsewhere (x ∷ xs) zero zero b other = absurd (other refl)
set_elsewhere (x ∷ xs) zero (suc to) b other = refl
set_elsewhere (x ∷ xs) (suc k) zero b other = refl
set_elsewhere (x ∷ xs) (suc k) (suc to) b other = set_elsewhere xs k to b (λ e. other (ap suc e))

-- one more place turned
turned_more : (P : ℕ → Type 0) (old now : List Bool) (k : ℕ) (b : Bool) → IsTurned P old now k → k < length now → (b ≡ true) ↔ P k → IsTurned P old (set now k b) (k + 1)
turned_more P old now k b before lt here = record {
  as_long = simp length-set before.as_long;
  done = λ to below. elim (cases_eq to k) [
    | inl same ↦
        let last : slice_get (set now k b) to ≡ Some b = ap (λ (i : ℕ). slice_get (set now k b) i) same ∙ set_here now k b lt in
        ((λ e. subst P (sym same) (here.0 (some_true b (sym last ∙ e)))), (λ p. last ∙ ap (λ (x : Bool). Some x) (here.1 (subst P same p))))
    | inr other ↦
        let stays : slice_get (set now k b) to ≡ slice_get now to = set_elsewhere now k to b other in
        let old_fact = before.done to (omega arith) in
        ((λ e. old_fact.0 (sym stays ∙ e)), (λ p. stays ∙ old_fact.1 p))
  ];
  rest = λ to above. set_elsewhere now k to b (λ e. absurd (omega arith)) ∙ before.rest to (omega arith);
}

-- the test at a place that isn't turned yet
turned_old : (P : ℕ → Type 0) (old now : List Bool) (k : ℕ) → IsTurned P old now k → k < length now → (get_or now k false ≡ true) ↔ Holds old k
turned_old P old now k turned lt =
    let there : slice_get now k ≡ Some (get_or now k false) = slice_get-get_or now k false lt in
    let same : slice_get now k ≡ slice_get old k = turned.rest k (omega arith) in
    ((λ e. sym same ∙ there ∙ ap (λ (x : Bool). Some x) e), (λ e. some_true (get_or now k false) (sym there ∙ same ∙ e)))

-- a place past the path is led to by no piece
past : (piece : Piece) (path : List ℕ) (places : List Bool) (to : ℕ) → length path < to → LeadsTo piece path places to → ⊥
past (One single) path places to lt (from, here, takes) = let inside = slice_get_within path from takes.0 takes.1 in omega (arith, takes.3)
past AnyRun path places to lt (from, here, takes) = omega (arith, takes.1)
past AnyDepth path places to lt (from, here, takes) = omega (arith, takes.1)
past AnyRest path places to lt (from, here, takes) = omega (arith, takes.1)

-- a set turned to its end is the step
pub turned_all : (piece : Piece) (path : List ℕ) (old now : List Bool) (k : ℕ) → length old ≡ length path + 1 → length old ≤ k → IsTurned (LeadsTo piece path old) old now k → IsStep piece path old now
turned_all piece path old now k long all turned = record {
  as_long = turned.as_long ∙ long;
  these = λ to. elim (cases_lt to k) [
    | inl within ↦ turned.done to within
    | inr beyond ↦ ((λ e. absurd (let inside = slice_get_within now to true e in omega (arith, turned.as_long))), (λ l. absurd (past piece path old to (omega arith) l)))
  ];
}

module _ (path : List ℕ) (places : List Bool) where
  -- what takes one character leads to the next place from this one alone
  one_next : (single : Single) (k : ℕ) → LeadsTo (One single) path places (suc k) ↔ (Holds places k × TakesAt single path k)
  one_next single k = (
    (λ h. let same : h.0 ≡ k = omega (arith, h.2.3) in
        (subst (λ (i : ℕ). Holds places i) same h.1, subst (λ (i : ℕ). TakesAt single path i) same (h.2.0, h.2.1, h.2.2))),
    (λ h. (k, h.0, (h.1.0, h.1.1, h.1.2, omega arith))),
  )

  -- `*` leads to the next place from itself, or from where it leads to this one if no `/` stands between
  run_next : (k : ℕ) → k < length path → LeadsTo AnyRun path places (suc k) ↔ (Holds places (suc k) ⊎ (LeadsTo AnyRun path places k × (slice_get path k ≢ Some 47)))
  run_next k lt = (
    (λ h. elim (cases_eq h.0 (suc k)) [
      | inl same ↦ inl (subst (λ (i : ℕ). Holds places i) same h.1)
      | inr other ↦ inr ((h.0, h.1, (omega (arith, h.2.0), omega arith, λ place l r. h.2.2 place l (omega arith))), h.2.2 k (omega (arith, h.2.0)) (omega arith))
    ]),
    (λ h. elim h [
      | inl here ↦ (suc k, here, (omega arith, omega arith, λ place l r. absurd (omega arith)))
      | inr more ↦ (
        more.0.0,
        more.0.1,
        (
          omega (arith, more.0.2.0),
          omega arith,
          λ place l r. elim (cases_eq place k) [
            | inl same ↦ λ e. more.1 (subst (λ (i : ℕ). slice_get path i ≡ Some 47) same e)
            | inr other ↦ more.0.2.2 place l (omega arith)
          ],
        ),
      )
    ]),
  )

-- the loop for what takes one character so far: `reached` is whether it leads to the place k
pub record OneSoFar (single : Single) (path : List ℕ) (old now : List Bool) (k : ℕ) (reached : Bool) : Type 0 where
  pub turned : IsTurned (LeadsTo (One single) path old) old now k
  pub here : (reached ≡ true) ↔ LeadsTo (One single) path old k

-- one more turn of that loop
pub one_more : (single : Single) (path : List ℕ) (old now : List Bool) (k : ℕ) (reached next : Bool) → OneSoFar single path old now k reached → k < length now
    → (next ≡ true) ↔ ((get_or now k false ≡ true) × TakesAt single path k) → OneSoFar single path old (set now k reached) (k + 1) next
one_more single path old now k reached next so_far lt is =
    let old_test = turned_old (LeadsTo (One single) path old) old now k so_far.turned lt in
    let leads = one_next path old single k in
    record {
      turned = turned_more (LeadsTo (One single) path old) old now k reached so_far.turned lt so_far.here;
      here = rw add-one ((λ e. let both = is.0 e in leads.1 (old_test.0 both.0, both.1)), (λ l. let both = leads.0 l in is.1 (old_test.1 both.0, both.1)));
    }

-- the loop for `*` so far: `reached` is whether it leads to the place k from an earlier one
pub record RunSoFar (path : List ℕ) (old now : List Bool) (k : ℕ) (reached : Bool) : Type 0 where
  pub turned : IsTurned (LeadsTo AnyRun path old) old now k
  pub here : k ≤ length path → LeadsTo AnyRun path old k ↔ (Holds old k ⊎ (reached ≡ true))

-- one more turn of that loop
pub run_more : (path : List ℕ) (old now : List Bool) (k : ℕ) (reached leads next : Bool) → RunSoFar path old now k reached → k < length now → length old ≡ length path + 1
    → (leads ≡ true) ↔ ((get_or now k false ≡ true) ⊎ (reached ≡ true)) → (next ≡ true) ↔ ((leads ≡ true) × (slice_get path k ≢ Some 47)) → RunSoFar path old (set now k leads) (k + 1) next
run_more path old now k reached leads next so_far lt long is on =
    let old_test = turned_old (LeadsTo AnyRun path old) old now k so_far.turned lt in
    let this = so_far.here (omega (arith, so_far.turned.as_long)) in
    let is_led_to : (leads ≡ true) ↔ LeadsTo AnyRun path old k = (
      (λ e. this.1 (elim (is.0 e) [ inl test ↦ inl (old_test.0 test) | inr r ↦ inr r ])),
      (λ l. is.1 (elim (this.0 l) [ inl test ↦ inl (old_test.1 test) | inr r ↦ inr r ])),
    ) in
    record {
      turned = turned_more (LeadsTo AnyRun path old) old now k leads so_far.turned lt is_led_to;
      here = rw add-one (λ within.
          let two = run_next path old k (omega arith) in (
            (λ l. elim (two.0 l) [
              | inl test ↦ inl test
              | inr both ↦ inr (on.1 (is_led_to.1 both.0, both.1))
            ]),
            (λ h. two.1 (elim h [
              | inl test ↦ inl test
              | inr e ↦ inr (is_led_to.0 (on.0 e).0, (on.0 e).1)
            ])),
          ));
    }

-- some place of the set comes before this one
abbrev pub HoldsBefore : List Bool → ℕ → Type 0
HoldsBefore places k = (from : ℕ) × Holds places from × (from < k)

holds_before_next : (places : List Bool) (k : ℕ) → HoldsBefore places (suc k) ↔ (Holds places k ⊎ HoldsBefore places k)
holds_before_next places k = (
  (λ h. elim (cases_eq h.0 k) [
    | inl same ↦ inl (subst (λ (i : ℕ). Holds places i) same h.1)
    | inr other ↦ inr (h.0, h.1, omega (arith, h.2))
  ]),
  (λ h. elim h [
    | inl here ↦ (k, here, omega arith)
    | inr earlier ↦ (earlier.0, earlier.1, omega (arith, earlier.2))
  ]),
)

-- the loop for a star token so far: `reached` is whether some place of the set comes before k
pub record StarSoFar (piece : Piece) (path : List ℕ) (old now : List Bool) (k : ℕ) (reached : Bool) : Type 0 where
  pub turned : IsTurned (LeadsTo piece path old) old now k
  pub here : (reached ≡ true) ↔ HoldsBefore old k

-- one more turn of that loop, for a piece that leads from every place of the set to every later one of which P holds
star_more : (piece : Piece) (P : ℕ → Type 0) (path : List ℕ) (old now : List Bool) (k : ℕ) (reached next leads : Bool) → ((to : ℕ) → to ≤ length path → LeadsTo piece path old to ↔ (HoldsBefore old (suc to) × P to))
    → StarSoFar piece path old now k reached → k < length now → length old ≡ length path + 1
    → (next ≡ true) ↔ ((get_or now k false ≡ true) ⊎ (reached ≡ true)) → (leads ≡ true) ↔ ((next ≡ true) × P k) → StarSoFar piece path old (set now k leads) (k + 1) next
star_more piece P path old now k reached next leads means so_far lt long is on =
    let old_test = turned_old (LeadsTo piece path old) old now k so_far.turned lt in
    let before = holds_before_next old k in
    let is_before : (next ≡ true) ↔ HoldsBefore old (suc k) = (
      (λ e. before.1 (elim (is.0 e) [ inl test ↦ inl (old_test.0 test) | inr r ↦ inr (so_far.here.0 r) ])),
      (λ h. is.1 (elim (before.0 h) [ inl test ↦ inl (old_test.1 test) | inr r ↦ inr (so_far.here.1 r) ])),
    ) in
    let meaning = means k (omega (arith, so_far.turned.as_long)) in
    record {
      turned = turned_more (LeadsTo piece path old) old now k leads so_far.turned lt ((λ e. let both = on.0 e in meaning.1 (is_before.0 both.0, both.1)), (λ l. let both = meaning.0 l in on.1 (is_before.1 both.0, both.1)));
      here = rw add-one is_before;
    }

pub depth_more : (path : List ℕ) (old now : List Bool) (k : ℕ) (reached next leads : Bool) → StarSoFar AnyDepth path old now k reached → k < length now → length old ≡ length path + 1
    → (next ≡ true) ↔ ((get_or now k false ≡ true) ⊎ (reached ≡ true)) → (leads ≡ true) ↔ ((next ≡ true) × IsAfterSeparator path k) → StarSoFar AnyDepth path old (set now k leads) (k + 1) next
depth_more path old now k reached next leads = star_more AnyDepth (IsAfterSeparator path) path old now k reached next leads
    (λ to within. ((λ l. ((l.0, l.1, omega (arith, l.2.0)), l.2.2)), (λ h. (h.0.0, h.0.1, (omega (arith, h.0.2), within, h.1)))))

pub rest_more : (path : List ℕ) (old now : List Bool) (k : ℕ) (reached next : Bool) → StarSoFar AnyRest path old now k reached → k < length now → length old ≡ length path + 1
    → (next ≡ true) ↔ ((get_or now k false ≡ true) ⊎ (reached ≡ true)) → StarSoFar AnyRest path old (set now k next) (k + 1) next
rest_more path old now k reached next so_far lt long is = star_more AnyRest (λ _. Unit {0}) path old now k reached next next
    (λ to within. ((λ l. ((l.0, l.1, omega (arith, l.2.0)), tt)), (λ h. (h.0.0, h.0.1, (omega (arith, h.0.2), within)))))
    so_far lt long is ((λ e. (e, tt)), (λ h. h.0))

-- a place is in one of two sets
abbrev pub HoldsOneOf : List Bool → List Bool → ℕ → Type 0
HoldsOneOf some others to = Holds some to ⊎ Holds others to

-- a test of a set is whether it holds the place
test_holds : (places : List Bool) (k : ℕ) → k < length places → (get_or places k false ≡ true) ↔ Holds places k
test_holds places k lt =
    let there : slice_get places k ≡ Some (get_or places k false) = slice_get-get_or places k false lt in
    ((λ e. there ∙ ap (λ (x : Bool). Some x) e), (λ e. some_true (get_or places k false) (sym there ∙ e)))

-- one more turn of the loop that adds the places of another set
pub union_more : (some others now : List Bool) (k : ℕ) (b : Bool) → IsTurned (HoldsOneOf some others) some now k → k < length now → k < length others
    → (b ≡ true) ↔ ((get_or now k false ≡ true) ⊎ (get_or others k false ≡ true)) → IsTurned (HoldsOneOf some others) some (set now k b) (k + 1)
union_more some others now k b turned lt lt_others is =
    let old_test = turned_old (HoldsOneOf some others) some now k turned lt in
    let other_test = test_holds others k lt_others in
    turned_more (HoldsOneOf some others) some now k b turned lt (
      (λ e. elim (is.0 e) [ inl test ↦ inl (old_test.0 test) | inr test ↦ inr (other_test.0 test) ]),
      (λ holds. is.1 (elim holds [ inl here ↦ inl (old_test.1 here) | inr there ↦ inr (other_test.1 there) ])),
    )

-- a set turned to its end holds the places of both
pub union_all : (some others now : List Bool) (k : ℕ) → length others ≡ length some → length some ≤ k → IsTurned (HoldsOneOf some others) some now k → IsUnion some others now
union_all some others now k long all turned = record {
  as_long = turned.as_long;
  these = λ to. elim (cases_lt to k) [
    | inl within ↦ turned.done to within
    | inr beyond ↦ (
      (λ e. absurd (let inside = slice_get_within now to true e in omega (arith, turned.as_long))),
      (λ holds. absurd (elim holds [
        | inl here ↦ let inside = slice_get_within some to true here in omega arith
        | inr there ↦ let inside = slice_get_within others to true there in omega arith
      ])),
    )
  ];
}

-- `false` at the end adds nothing to a set
push_false : (xs : List Bool) (to : ℕ) → Holds (xs ++ (false ∷ [])) to ↔ Holds xs to
push_false [] zero = ((λ e. absurd (cc)), (λ e. absurd (cc)))
push_false [] (suc to) = ((λ e. e), (λ e. e))
push_false (x ∷ xs) zero = ((λ e. e), (λ e. e))
push_false (x ∷ xs) (suc to) = push_false xs to

-- the start stays alone with one more place at the end
pub start_more : (now new : List Bool) (n : ℕ) → IsStartAlone n now → new ≡ now ++ (false ∷ []) → IsStartAlone (n + 1) new
start_more now new n before grown = record {
  as_long = ap length grown ∙ simp length-append (omega (arith, before.as_long));
  these = λ to.
      subst (λ (xs : List Bool). Holds xs to ↔ (to ≡ 0)) (sym grown)
      ((λ e. (before.these to).0 ((push_false now to).0 e)), (λ z. (push_false now to).1 ((before.these to).1 z)));
}

-- a list of n elements after a write of all of them
pub written : (n : ℕ) (old new : List Bool) → n ≡ length old → length new ≡ length old → take n (new ++ drop (length new) old) ≡ new
written n old new all same = take-append-le n new (drop (length new) old) (omega arith) ∙ take_all n new (omega arith)
