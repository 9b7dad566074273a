-- The marks of a block, in rows.
use Rattle.std.proofs.Common.{◌≡◌, ℕ, zero, suc, ◌+◌, ◌-◌, ◌*◌, ◌<◌, ◌≤◌, Bool, true, false, inl, inr, List, ◌∷◌, length, if◌then◌else◌, refl, sym, ap, ◌∙◌, subst, true≢false, eq-eqb, arith}
use Rattle.std.specs.Prelude.{◌||◌, ◌==◌, ◌&&◌, not, nat_le, nat_lt, replicate, slice_set}
use Rattle.std.proofs.Math.Bool.{and-false}
use Rattle.std.proofs.Math.Nat.{mul-le-mul_left}
use Rattle.std.proofs.lemmas.Bool.{cases_lt, cases_eq, or_left, ne_eqb, lt-ltb, ltb-true, le-ltb, le-leb, leb-true}
use Rattle.std.proofs.lemmas.List.{get_or-set_same, get_or-set_other, get_or_past}
use Rattle.hir_tree.specs.Runs.{is_seen}
use Rattle.hir_core.specs.Pass.{was_visited}
use Rattle.hir_core.specs.Blocks.{mark_of, was_tried, KeepsMarks}
use Rattle.hir_program.specs.Program.{spot_at, is_close}
use Rattle.hir_program.specs.declared.spot.Spot.{Spot}
use Rattle.hir_core.proofs.closure.EndLemmas.{AreOwn, AreOwn-below, is_own, own_below}
use Rattle.hir_core.proofs.closure.TurnLemmas.{set_stays}

-- ---- marks that stay

pub KeepsMarks-none : (marks : List Bool) → KeepsMarks marks marks
KeepsMarks-none marks = record { room = refl; stay = λ mark is. is }

pub KeepsMarks-then : {old now new : List Bool} → KeepsMarks old now → KeepsMarks now new → KeepsMarks old new
KeepsMarks-then first more = record { room = more.room ∙ first.room; stay = λ mark is. more.stay mark (first.stay mark is) }

-- ---- rows of marks

-- a row more
row_more : (i j n : ℕ) → i < j → i * n + n ≤ j * n
row_more i j n h = let k : n * (i + 1) ≤ n * j = mul-le-mul_left n (omega arith) in omega (arith, k)

-- the mark of a spot at a place of the block lies among its marks
pub mark-within : (n begin end at q marks : ℕ) → n * (end - begin) ≤ marks → begin ≤ at → at < end → q < n → (at - begin) * n + q < marks
mark-within n begin end at q marks room from to few =
    let rows : (at - begin) * n + n ≤ (end - begin) * n = row_more (at - begin) (end - begin) n (omega arith) in omega (arith, rows, room)

-- marks in one row are of one place
same_row : (i j n q r : ℕ) → q < n → r < n → i * n + q ≡ j * n + r → i ≡ j
same_row i j n q r few less same =
    elim (cases_lt i j) [
      | inl before ↦ absurd (omega (arith, row_more i j n before))
      | inr past ↦ elim (cases_lt j i) [
        | inl after ↦ absurd (omega (arith, row_more j i n after))
        | inr here ↦ let k : i ≡ j = omega arith in k
      ]
    ]

le_true : (a b : ℕ) → a ≤ b → nat_le a b ≡ true
le_true a b h = le-leb a b h

le_from : (a b : ℕ) → nat_le a b ≡ true → a ≤ b
le_from a b h = leb-true a b h

-- what the marks say of a spot at a place of the block
pub tried-is : (n begin : ℕ) (marks : List Bool) (at q : ℕ) → begin ≤ at → q < n → was_tried n begin marks at q ≡ was_visited marks (mark_of n begin at q)
tried-is n begin marks at q from few =
    ap (λ (b : Bool). b && (nat_lt q n && was_visited marks (mark_of n begin at q))) (le_true begin at from)
    ∙ ap (λ (b : Bool). b && was_visited marks (mark_of n begin at q)) (lt-ltb q n few)

-- where no mark is set, nothing was tried
pub none-tried : (n begin many : ℕ) (at q : ℕ) → was_tried n begin (replicate many false) at q ≡ false
none-tried n begin many at q =
    parts (nat_le begin at) (nat_lt q n) (was_visited (replicate many false) (mark_of n begin at q)) (unset many (mark_of n begin at q))
  where
    unset : (many i : ℕ) → was_visited (replicate many false) i ≡ false
    unset zero i = get_or_past (replicate zero false) i false (omega arith)
    unset (suc many) zero = refl
    unset (suc many) (suc i) = unset many i

    parts : (a b c : Bool) → c ≡ false → (a && (b && c)) ≡ false
    parts true true c e = e
    parts true false c e = refl
    parts false b c e = refl

-- the spots tried at each place, with one more
abbrev pub adding : ℕ → ℕ → (ℕ → List ℕ) → ℕ → List ℕ
adding at q tried p = if at == p then q ∷ tried p else tried p

pub adding-here : (at q : ℕ) (tried : ℕ → List ℕ) → adding at q tried at ≡ q ∷ tried at
adding-here at q tried = ap (λ (b : Bool). if b then q ∷ tried at else tried at) (eq-eqb at at refl)

pub adding-elsewhere : (at q : ℕ) (tried : ℕ → List ℕ) (p : ℕ) → (at ≡ p → ⊥) → adding at q tried p ≡ tried p
adding-elsewhere at q tried p other = ap (λ (b : Bool). if b then q ∷ tried p else tried p) (ne_eqb at p other)

-- so the marks say, but for ends of groups
abbrev pub AreMarks : List Spot → ℕ → List Bool → (ℕ → List ℕ) → Type 0
AreMarks spots begin marks tried = (at : ℕ) → AreOwn spots (was_tried (length spots) begin marks at) (tried at)

-- what was tried stays so
pub tried-stays : (n begin : ℕ) (marks : List Bool) (mark at q : ℕ) → was_tried n begin marks at q ≡ true → was_tried n begin (slice_set marks mark true) at q ≡ true
tried-stays n begin marks mark at q = parts (nat_le begin at) (nat_lt q n)
  where
    parts : (a b : Bool) → (a && (b && was_visited marks (mark_of n begin at q))) ≡ true
        → (a && (b && was_visited (slice_set marks mark true) (mark_of n begin at q))) ≡ true
    parts true true is = set_stays marks mark (mark_of n begin at q) is
    parts true false is = is
    parts false b is = is

module _ (n begin : ℕ) (marks : List Bool) (at q : ℕ) (from : begin ≤ at) (few : q < n) where
  -- spots that were tried and have other marks stay as they are
  set_elsewhere : (p r : ℕ) → (begin ≤ p → r < n → mark_of n begin p r ≡ mark_of n begin at q → ⊥)
      → was_tried n begin (slice_set marks (mark_of n begin at q) true) p r ≡ was_tried n begin marks p r
  set_elsewhere p r other = parts (nat_le begin p) refl (nat_lt r n) refl
    where
      parts : (a : Bool) → nat_le begin p ≡ a → (b : Bool) → nat_lt r n ≡ b
          → (a && (b && was_visited (slice_set marks (mark_of n begin at q) true) (mark_of n begin p r)))
          ≡ (a && (b && was_visited marks (mark_of n begin p r)))
      parts false h b k = refl
      parts true h false k = refl
      parts true h true k =
          get_or-set_other marks (mark_of n begin at q) (mark_of n begin p r) true false (other (le_from begin p h) (ltb-true r n k))

  -- so does every spot but one, at its place
  set_another : (p r : ℕ) → ((at ≡ p) × (q ≡ r) → ⊥) → was_tried n begin (slice_set marks (mark_of n begin at q) true) p r ≡ was_tried n begin marks p r
  set_another p r other = set_elsewhere p r (λ after less same. other (same_mark after less same))
    where
      same_mark : begin ≤ p → r < n → mark_of n begin p r ≡ mark_of n begin at q → (at ≡ p) × (q ≡ r)
      same_mark after less same =
          let row : p - begin ≡ at - begin = same_row (p - begin) (at - begin) n r q less few same in
          let rows : (p - begin) * n ≡ (at - begin) * n = ap (λ (i : ℕ). i * n) row in (omega (arith, row, from, after), omega (arith, rows, same))

  -- what is newly tried is that spot
  pub tried-new : (p r : ℕ) → was_tried n begin (slice_set marks (mark_of n begin at q) true) p r ≡ true → was_tried n begin marks p r ≡ false
      → (at ≡ p) × (q ≡ r)
  tried-new p r now before = elim (cases_eq at p) [
    | inl here ↦ elim (cases_eq q r) [
      | inl same ↦ (here, same)
      | inr other ↦ absurd (true≢false (sym now ∙ set_another p r (λ both. other both.1) ∙ before))
    ]
    | inr there ↦ absurd (true≢false (sym now ∙ set_another p r (λ both. there both.0) ∙ before))
  ]

module _ (spots : List Spot) (begin : ℕ) (marks : List Bool) (at q : ℕ) (from : begin ≤ at) (few : q < length spots)
    (room : mark_of (length spots) begin at q < length marks) where
  abbrev pub with_mark : List Bool
  with_mark = slice_set marks (mark_of (length spots) begin at q) true

  -- another spot, or at another place
  own_another : (p r : ℕ) → ((at ≡ p) × (q ≡ r) → ⊥)
      → is_own spots (was_tried (length spots) begin with_mark p) r ≡ is_own spots (was_tried (length spots) begin marks p) r
  own_another p r other = ap (λ (b : Bool). b && not (is_close (spot_at spots r))) (set_another (length spots) begin marks at q from few p r other)

  pub AreMarks-adding : (tried : ℕ → List ℕ) → is_close (spot_at spots q) ≡ false → AreMarks spots begin marks tried → AreMarks spots begin with_mark (adding at q tried)
  AreMarks-adding tried plain are p r =
      elim (cases_eq at p) [
        | inl here ↦ subst (λ (i : ℕ). is_seen r (adding at q tried i) ≡ is_own spots (was_tried (length spots) begin with_mark i) r) here this_row
        | inr there ↦ ap (is_seen r) (adding-elsewhere at q tried p there) ∙ are p r ∙ sym (own_another p r (λ both. there both.0))
      ]
    where
      set_here : was_tried (length spots) begin with_mark at q ≡ true
      set_here = tried-is (length spots) begin with_mark at q from few ∙ get_or-set_same marks (mark_of (length spots) begin at q) true false room

      this_row : is_seen r (adding at q tried at) ≡ is_own spots (was_tried (length spots) begin with_mark at) r
      this_row =
          ap (is_seen r) (adding-here at q tried)
          ∙ elim (cases_eq q r) [
            | inl same ↦ or_left _ _ (eq-eqb q r same)
                ∙ sym (ap (is_own spots (was_tried (length spots) begin with_mark at)) (sym same)
                ∙ ap (λ (b : Bool). b && not (is_close (spot_at spots q))) set_here ∙ ap not plain)
            | inr other ↦ ap (λ b. b || is_seen r (tried at)) (ne_eqb q r other) ∙ are at r ∙ sym (own_another at r (λ both. other both.1))
          ]

  -- the end of a group is none of them
  pub AreMarks-ended : (tried : ℕ → List ℕ) → is_close (spot_at spots q) ≡ true → AreMarks spots begin marks tried → AreMarks spots begin with_mark tried
  AreMarks-ended tried close are p r =
      elim (cases_eq q r) [
        | inl same ↦ are p r ∙ not_own (was_tried (length spots) begin marks p) same ∙ sym (not_own (was_tried (length spots) begin with_mark p) same)
        | inr other ↦ are p r ∙ sym (own_another p r (λ both. other both.1))
      ]
    where
      not_own : (test : ℕ → Bool) → q ≡ r → is_own spots test r ≡ false
      not_own test same =
          ap (λ (i : ℕ). test r && not (is_close (spot_at spots i))) (sym same) ∙ ap (λ (b : Bool). test r && not b) close ∙ and-false (test r)

-- the spots that were tried at each place, by the marks, but for ends of groups
abbrev pub tried_by : List Spot → ℕ → List Bool → ℕ → List ℕ
tried_by spots begin marks at = own_below spots (was_tried (length spots) begin marks at) (length spots)

pub AreMarks-tried : (spots : List Spot) (begin : ℕ) (marks : List Bool) → AreMarks spots begin marks (tried_by spots begin marks)
AreMarks-tried spots begin marks at = AreOwn-below spots (was_tried (length spots) begin marks at) (length spots) none
  where
    past : (q : ℕ) (a b : Bool) → b ≡ false → (a && (b && was_visited marks (mark_of (length spots) begin at q))) ≡ false
    past q true true e = absurd (true≢false e)
    past q true false e = refl
    past q false b e = refl

    none : (q : ℕ) → length spots ≤ q → was_tried (length spots) begin marks at q ≡ false
    none q many = past q (nat_le begin at) (nat_lt q (length spots)) (le-ltb q (length spots) many)
