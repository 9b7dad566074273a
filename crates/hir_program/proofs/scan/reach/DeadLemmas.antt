-- Spots that give nothing at a place.
use Rattle.std.proofs.Common.{◌≡◌, ℕ, zero, suc, ◌+◌, ◌*◌, ◌/◌, ◌%◌, ◌^◌, ◌<◌, ◌≤◌, Bool, true, false, ◌⊎◌, inl, inr, List, [], ◌∷◌, ◌++◌, length, drop, slice_index, Option, Some, None, if◌then◌else◌, refl, sym, ap, ap₂, ◌∙◌, subst, true≢false, append-nil, arith, get_or-drop, length-append, length-drop}
use Rattle.std.specs.Prelude.{◌&&◌, ◌||◌, nat_le, nat_lt, option_map}
use Rattle.std.specs.List.{flat_map, Contains}
use Rattle.std.proofs.lemmas.Bool.{cases_eq, cases_lt, or_left, or_right}
use Rattle.std.proofs.lemmas.Bool.Decides.{nat_tests}
use Rattle.std.proofs.lemmas.List.{get_or_append_left, get_or_push}
use Rattle.std.proofs.lemmas.Option.{get_or_from_slice_get, none-some, same_Some}
use Rattle.std.proofs.lemmas.Str.{encode_ascii}
use Rattle.bstr.specs.Utf8.{Decoded, decoded}
use Rattle.bstr.proofs.lemmas.PieceLemmas.{value-1}
use Rattle.bstr.proofs.lemmas.SoundLemmas.{SpellsChar-decoded}
use Rattle.hir_tree.specs.Looks.{holds}
use Rattle.hir_tree.specs.Sides.{byte_after, char_after}
use Rattle.hir_tree.specs.declared.look.Look.{Look}
use Rattle.hir_tree.specs.Runs.{Run, begin, moved, mark, in_set, size_in, byte_size, char_size, as_list, take_size}
use Rattle.hir_program.specs.Program.{Way, way, marked, opened, closed, spot_at, visit_as, gives_within, gives, rank}
use Rattle.hir_program.specs.Masks.{HasBit, IsPart, Grows, match_bit, sure_bit, is_taker, next_of, takes_byte, has_wide, is_wide, ways_on, is_reached, Asks, IsShut, IsClosed, IsDead, AreDead, Covers, CoversBeside, CoverTheirSpots, HasOwnBit, HaveOwnBits, NoRun, AreAllTakers}
use Rattle.hir_program.specs.declared.spot.Spot.{Spot}
use Rattle.hir_program.specs.declared.spot.Spot.TheVariants as spot
use Rattle.hir_tree.proofs.RunsLemmas.{byte_size-within, char_size-within}
use Rattle.hir_program.proofs.scan.bits.MaskLemmas.{HasBit-none, HasBit-pow}

-- fewer bits are dead too
pub AreDead-part : (text : List ℕ) (spots : List Spot) (of : List ℕ) (look : Option Look) (at mask more : ℕ) → IsPart mask more
    → AreDead text spots of look at more → AreDead text spots of look at mask
AreDead-part text spots of look at mask more part dead =
    record {
      unmatched = λ has. dead.unmatched (part sure_bit has);
      asked = λ has. dead.asked (part match_bit has);
      dead = λ i lt has. dead.dead i lt (part i has);
    }

-- no bit, no spot
pub AreDead-none : (text : List ℕ) (spots : List Spot) (of : List ℕ) (look : Option Look) (at : ℕ) → AreDead text spots of look at 0
AreDead-none text spots of look at =
    record { unmatched = HasBit-none sure_bit; asked = λ has. absurd (HasBit-none match_bit has); dead = λ i lt has. absurd (HasBit-none i has) }

-- more bits cover what some cover
pub Covers-part : (spots : List Spot) (of : List ℕ) (look : Option Look) (mask more q : ℕ) → IsPart mask more → Covers spots of look mask q → Covers spots of look more q
Covers-part spots of look mask more q part covers text at dead = covers text at (AreDead-part text spots of look at mask more part dead)

-- the rows cover what comes after so many of the spots
abbrev pub AfterHas : List Spot → List ℕ → Option Look → List ℕ → ℕ → Type 0
AfterHas spots of look rows n =
    (i v : ℕ) → i < n → v < 256 → HasBit v (i % 8) → Covers spots of look (slice_index rows (256 * (i / 8) + v)) (next_of (spot_at spots (slice_index of i)))

pub AfterHas-next : (spots : List Spot) (of : List ℕ) (look : Option Look) (rows more : List ℕ) (n mask : ℕ) → AfterHas spots of look rows n → Grows rows more
    → ((v : ℕ) → v < 256 → HasBit v (n % 8) → IsPart mask (slice_index more (256 * (n / 8) + v)))
    → Covers spots of look mask (next_of (spot_at spots (slice_index of n))) → AfterHas spots of look more (n + 1)
AfterHas-next spots of look rows more n mask h grows has covers i v low small set_bit = elim (cases_eq i n) [
  | inl here ↦
      let Here : ℕ → Type 0
      = λ j. HasBit v (j % 8) → Covers spots of look (slice_index more (256 * (j / 8) + v)) (next_of (spot_at spots (slice_index of j))) in
      subst Here (sym here)
      (λ own. Covers-part spots of look mask (slice_index more (256 * (n / 8) + v)) (next_of (spot_at spots (slice_index of n))) (has v small own) covers) set_bit
  | inr other ↦
      Covers-part spots of look (slice_index rows (256 * (i / 8) + v)) (slice_index more (256 * (i / 8) + v)) (next_of (spot_at spots (slice_index of i)))
      (grows (256 * (i / 8) + v)) (h i v (omega arith) small set_bit)
]

-- a mask more
pub CoverTheirSpots-more : (spots : List Spot) (of : List ℕ) (look : Option Look) (masks : List ℕ) (mask q : ℕ) → length masks ≡ q
    → CoverTheirSpots spots of look masks → Covers spots of look mask q → CoverTheirSpots spots of look (masks ++ mask ∷ [])
CoverTheirSpots-more spots of look masks mask q many h covers p low = elim (cases_lt p (length masks)) [
  | inl before ↦ subst (λ (m : ℕ). Covers spots of look m p) (sym (get_or_append_left masks (mask ∷ []) 0 p before)) (h p before)
  | inr past ↦
      let here : q ≡ p = omega (arith, low, past, many, length-append masks (mask ∷ [])) in
      subst (λ (m : ℕ). Covers spots of look m p) (sym (get_or_push masks mask 0 p (many ∙ here))) (subst (Covers spots of look mask) here covers)
]

-- a spot's own bit covers it
pub Covers-own : (spots : List Spot) (of : List ℕ) (look : Option Look) (i q : ℕ) → i < length of → slice_index of i ≡ q → Covers spots of look (2 ^ i) q
Covers-own spots of look i q low is text at dead = subst (IsDead text spots at) is (dead.dead i low (HasBit-pow i))

-- a mask more, with the spot's own bit
pub HaveOwnBits-more : (spots : List Spot) (of masks : List ℕ) (mask q : ℕ) → length masks ≡ q → HaveOwnBits spots of masks → HasOwnBit spots of q mask
    → HaveOwnBits spots of (masks ++ mask ∷ [])
HaveOwnBits-more spots of masks mask q many h own p low = elim (cases_lt p (length masks)) [
  | inl before ↦ subst (HasOwnBit spots of p) (sym (get_or_append_left masks (mask ∷ []) 0 p before)) (h p before)
  | inr past ↦
      let here : q ≡ p = omega (arith, low, past, many, length-append masks (mask ∷ [])) in
      subst (HasOwnBit spots of p) (sym (get_or_push masks mask 0 p (many ∙ here))) (subst (λ (r : ℕ). HasOwnBit spots of r mask) here own)
]

either_way : (b : Bool) (xs : List Run) → xs ≡ [] → (if b then [] else xs) ≡ []
either_way true xs e = refl
either_way false xs e = e

held_way : (b : Bool) (xs : List Run) → xs ≡ [] → (if b then xs else []) ≡ []
held_way true xs e = e
held_way false xs e = refl

module _ (text : List ℕ) (spots : List Spot) where
  -- how many bytes a spot takes at a place
  abbrev pub spot_size : Spot → ℕ → Option ℕ
  spot_size (spot.Bytes q set) at = byte_size set text at
  spot_size (spot.Chars q set) at = char_size set text at
  spot_size _ at = None

  -- nothing follows the bytes that are taken
  none_taken : (n f : ℕ) (starts : List ℕ) (r : Run) (size : ℕ → Option ℕ)
      → ((k : ℕ) → size r.at ≡ Some k → gives_within text spots n f (way starts (moved k r)) ≡ [])
      → flat_map (λ s. gives_within text spots n f (way starts s)) (take_size size r) ≡ []
  none_taken n f starts r size nothing = read (size r.at) refl
    where
      read : (o : Option ℕ) → size r.at ≡ o → flat_map (λ s. gives_within text spots n f (way starts s)) (as_list (option_map (λ k. moved k r) o)) ≡ []
      read None e = refl
      read (Some k) e = append-nil _ ∙ nothing k e

  -- a spot that takes bytes is dead, if what comes next is dead after them
  pub IsDead-taker : (at q : ℕ) (s : Spot) → spot_at spots q ≡ s → is_taker s ≡ true
      → ((k : ℕ) → spot_size s at ≡ Some k → IsDead text spots (at + k) (next_of s)) → IsDead text spots at q
  unfolding gives_within
  IsDead-taker at q s e taker after zero w here = refl
  IsDead-taker at q s e taker after (suc n) w here = ap (λ x. visit_as text spots (gives_within text spots n) x q w) e ∙ cases s taker after
    where
      cases : (s : Spot) → is_taker s ≡ true → ((k : ℕ) → spot_size s at ≡ Some k → IsDead text spots (at + k) (next_of s))
          → visit_as text spots (gives_within text spots n) s q w ≡ []
      cases (spot.Bytes f set) taker after =
          either_way _ _ (none_taken n f w.starts (mark q w.run) (byte_size set text)
          (λ k e. after k (subst (λ i. byte_size set text i ≡ Some k) here e) n (way w.starts (moved k (mark q w.run))) (ap (λ i. i + k) here)))
      cases (spot.Chars f set) taker after =
          either_way _ _ (none_taken n f w.starts (mark q w.run) (char_size set text)
          (λ k e. after k (subst (λ i. char_size set text i ≡ Some k) here e) n (way w.starts (moved k (mark q w.run))) (ap (λ i. i + k) here)))
      cases (spot.Look l f) taker after = absurd (true≢false (sym taker))
      cases (spot.Jump f) taker after = absurd (true≢false (sym taker))
      cases (spot.Split a b) taker after = absurd (true≢false (sym taker))
      cases (spot.Open f) taker after = absurd (true≢false (sym taker))
      cases (spot.Close i f) taker after = absurd (true≢false (sym taker))
      cases spot.Fail taker after = absurd (true≢false (sym taker))
      cases spot.Match taker after = absurd (true≢false (sym taker))

  -- the bytes stand in the text
  pub spot_size-within : (s : Spot) (at k : ℕ) → spot_size s at ≡ Some k → (0 < k) × (at + k ≤ length text)
  spot_size-within (spot.Bytes f set) at k e = byte_size-within set text at k e
  spot_size-within (spot.Chars f set) at k e = char_size-within set text at k e
  spot_size-within (spot.Look l f) at k e = absurd (none-some k e)
  spot_size-within (spot.Jump f) at k e = absurd (none-some k e)
  spot_size-within (spot.Split a b) at k e = absurd (none-some k e)
  spot_size-within (spot.Open f) at k e = absurd (none-some k e)
  spot_size-within (spot.Close i f) at k e = absurd (none-some k e)
  spot_size-within spot.Fail at k e = absurd (none-some k e)
  spot_size-within spot.Match at k e = absurd (none-some k e)

  module _ (reached : List Bool) (at : ℕ) (look : Option Look) (shut : IsShut text at look) (closed_set : IsClosed spots look reached)
      (takers : (q : ℕ) → is_reached reached q ≡ true → is_taker (spot_at spots q) ≡ true → IsDead text spots at q)
      (unmatched : (q : ℕ) → is_reached reached q ≡ true → spot_at spots q ≡ spot.Match → ⊥) where
    -- so it is with one step more, if it is so with some
    step : (n : ℕ) → ((p : ℕ) (v : Way) → is_reached reached p ≡ true → v.run.at ≡ at → gives_within text spots n p v ≡ [])
        → (q : ℕ) (w : Way) → is_reached reached q ≡ true → w.run.at ≡ at → gives_within text spots (suc n) q w ≡ []
    unfolding gives_within
    step n fewer q w r here = cases (spot_at spots q) refl
      where
        leads_to : (s : Spot) → spot_at spots q ≡ s → (p : ℕ) → Contains (ways_on s) p → Asks look s ⊎ (is_reached reached p ≡ true)
        leads_to s e p leads =
            subst (λ x. Asks look x ⊎ (is_reached reached p ≡ true)) e (closed_set q p r (subst (λ x. Contains (ways_on x) p) (sym e) leads))

        next : (s : Spot) → (Asks look s → ⊥) → spot_at spots q ≡ s → (p : ℕ) → Contains (ways_on s) p → (v : Way) → v.run.at ≡ at
            → gives_within text spots n p v ≡ []
        next s silent e p leads v there = elim (leads_to s e p leads) [
          | inl asks ↦ absurd (silent asks)
          | inr reached_too ↦ fewer p v reached_too there
        ]

        looks : (l : Look) (f : ℕ) → spot_at spots q ≡ spot.Look l f
            → (if holds l text w.run.at then gives_within text spots n f (marked q w) else []) ≡ []
        looks l f e = elim (leads_to (spot.Look l f) e f (0, omega arith, refl)) [
          | inl asks ↦
              ap (λ b. if b then gives_within text spots n f (marked q w) else []) (ap (holds l text) here ∙ subst (IsShut text at) asks shut)
          | inr reached_too ↦ held_way _ _ (fewer f (marked q w) reached_too here)
        ]

        taker : (s : Spot) → spot_at spots q ≡ s → is_taker s ≡ true → visit_as text spots (gives_within text spots n) s q w ≡ []
        taker s e t =
            ap (λ x. visit_as text spots (gives_within text spots n) x q w) (sym e)
            ∙ takers q r (ap is_taker e ∙ t) (suc n) w here

        cases : (s : Spot) → spot_at spots q ≡ s → visit_as text spots (gives_within text spots n) s q w ≡ []
        cases (spot.Bytes f set) e = taker (spot.Bytes f set) e refl
        cases (spot.Chars f set) e = taker (spot.Chars f set) e refl
        cases (spot.Look l f) e = either_way _ _ (looks l f e)
        cases (spot.Jump f) e = either_way _ _ (next (spot.Jump f) (λ asks. asks) e f (0, omega arith, refl) (marked q w) here)
        cases (spot.Split a b) e =
            either_way _ _
            (ap₂ (λ xs ys. xs ++ ys) (next (spot.Split a b) (λ asks. asks) e a (0, omega arith, refl) (marked q w) here)
            (next (spot.Split a b) (λ asks. asks) e b (1, omega arith, refl) (marked q w) here))
        cases (spot.Open f) e = either_way _ _ (next (spot.Open f) (λ asks. asks) e f (0, omega arith, refl) (opened (marked q w)) here)
        cases (spot.Close i f) e = next (spot.Close i f) (λ asks. asks) e f (0, omega arith, refl) (closed i w) here
        cases spot.Fail e = either_way _ _ refl
        cases spot.Match e = absurd (unmatched q r e)

    -- Where spots lead that were reached, nothing is given, if nothing is given by those that take bytes, and none is a match.
    pub IsDead-reached : (n q : ℕ) (w : Way) → is_reached reached q ≡ true → w.run.at ≡ at → gives_within text spots n q w ≡ []
    unfolding gives_within
    IsDead-reached zero q w r here = refl
    IsDead-reached (suc n) q w r here = step n (λ p v. IsDead-reached n p v) q w r here

-- a mask covers a spot where a look doesn't hold, if it has the bits of all spots that may come after it without a byte and that look
pub CoversBeside-reached : (spots : List Spot) (of : List ℕ) (shut : Option Look) (reached : List Bool) (mask from : ℕ) → AreAllTakers spots of
    → IsClosed spots shut reached → is_reached reached from ≡ true
    → ((i : ℕ) → i < length of → is_reached reached (slice_index of i) ≡ true → HasBit mask i)
    → ((q : ℕ) → spot_at spots q ≡ spot.Match → is_reached reached q ≡ true → HasBit mask sure_bit)
    → CoversBeside spots of shut mask from
CoversBeside-reached spots of shut reached mask from all closed_set first bits ends text at look is_shut dead n w here =
    IsDead-reached text spots reached at shut is_shut closed_set
    (λ q r taker.
    let bit = all q taker in
    subst (IsDead text spots at) bit.2 (dead.dead bit.0 bit.1 (bits bit.0 bit.1 (subst (λ p. is_reached reached p ≡ true) (sym bit.2) r))))
    (λ q r e. dead.unmatched (ends q e r))
    n from w first here

-- a mask that covers a spot whether or not its look holds
pub Covers-whole : (spots : List Spot) (of : List ℕ) (look : Option Look) (mask q : ℕ) → CoversBeside spots of None mask q → Covers spots of look mask q
Covers-whole spots of look mask q covers text at dead = covers text at look tt dead

-- a mask that covers a spot where its look doesn't hold, and has the bit of where it holds
pub Covers-asked : (spots : List Spot) (of : List ℕ) (look : Option Look) (mask more q : ℕ) → CoversBeside spots of look mask q → IsPart mask more
    → HasBit more match_bit → Covers spots of look more q
Covers-asked spots of look mask more q covers part asks text at dead =
    covers text at look (dead.asked asks) (AreDead-part text spots of look at mask more part dead)

-- where no spot is left where a look doesn't hold, no run begins there
pub IsDead-beside : (spots : List Spot) (of : List ℕ) (look : Look) (q : ℕ) → CoversBeside spots of (Some look) 0 q
    → (text : List ℕ) (at : ℕ) → holds look text at ≡ false → IsDead text spots at q
IsDead-beside spots of look q covers text at fails = covers text at None fails (AreDead-none text spots of None at)

-- a size is that of a member that stands there
member : (set : List (ℕ × ℕ)) (size : ℕ) (c : Option ℕ) (k : ℕ) → size_in set size c ≡ Some k → (m : ℕ) × ((c ≡ Some m) × (in_set set m ≡ true) × (size ≡ k))
member set size None k e = absurd (none-some k e)
member set size (Some m) k e = cases (in_set set m) refl e
  where
    cases : (b : Bool) → in_set set m ≡ b → (if b then Some size else None) ≡ Some k → (n : ℕ) × ((Some m ≡ Some n) × (in_set set n ≡ true) × (size ≡ k))
    cases true is e = (m, (refl, is, same_Some _ _ e))
    cases false is e = absurd (none-some k e)

-- a set with a member beyond ASCII has a range that ends beyond it
wide_member : (set : List (ℕ × ℕ)) (m : ℕ) → 128 ≤ m → in_set set m ≡ true → has_wide set ≡ true
wide_member [] m high e = e
wide_member (r ∷ set) m high e = cases (nat_le r.0 m && nat_le m r.1) refl e (wide_member set m high)
  where
    ends : (low end : ℕ) → (nat_le low m && nat_le m end) ≡ true → nat_lt 127 end ≡ true
    ends low end h = grind (arith, nat_tests)

    cases : (b : Bool) → (nat_le r.0 m && nat_le m r.1) ≡ b → (b || in_set set m) ≡ true → (in_set set m ≡ true → has_wide set ≡ true)
        → (nat_lt 127 r.1 || has_wide set) ≡ true
    cases true h k later = or_left _ _ (ends r.0 r.1 h)
    cases false h k later = or_right _ _ (later k)

-- a character of ASCII is its byte
decoded-ascii : (bs : List ℕ) (m : ℕ) → 0 < length bs → slice_index bs 0 < 128 → (decoded bs).char ≡ Some m → (m ≡ slice_index bs 0) × ((decoded bs).size ≡ 1)
decoded-ascii bs m some low e =
    let whole = value-1 (length bs) (slice_index bs 0) (slice_index bs 1) (slice_index bs 2) (slice_index bs 3) (some, low) in
    (same_Some _ _ (sym e ∙ ap (λ (p : Decoded). p.char) whole), ap (λ (p : Decoded). p.size) whole)

-- and a character that begins with a byte beyond ASCII is beyond it
decoded-wide : (bs : List ℕ) (m : ℕ) → 128 ≤ slice_index bs 0 → (decoded bs).char ≡ Some m → 128 ≤ m
decoded-wide bs m high e =
    elim (cases_lt m 128) [
      | inl low ↦
          let spelt = SpellsChar-decoded bs m e in
          let first : slice_index bs 0 ≡ m = ap (λ (xs : List ℕ). slice_index xs 0) (spelt.bytes ∙ ap (λ (xs : List ℕ). xs ++ drop (decoded bs).size bs) (encode_ascii m low)) in
          absurd (omega arith)
      | inr above ↦ above
    ]

byte_one : (text : List ℕ) (set : List (ℕ × ℕ)) (at k : ℕ) → byte_size set text at ≡ Some k → (k ≡ 1) × (in_set set (slice_index text at) ≡ true)
unfolding byte_size
byte_one text set at k e =
    let found = member set 1 (byte_after text at) k e in
    let is : slice_index text at ≡ found.0 = get_or_from_slice_get text at found.0 0 found.1.0 in
    (sym found.1.2, ap (in_set set) is ∙ found.1.1)

char_one : (text : List ℕ) (set : List (ℕ × ℕ)) (at k : ℕ) → (slice_index text at < 128) ⊎ (has_wide set ≡ false) → char_size set text at ≡ Some k
    → (k ≡ 1) × ((nat_lt (slice_index text at) 128 && in_set set (slice_index text at)) ≡ true)
unfolding char_size
char_one text set at k narrow e =
    let found = member set (decoded (drop at text)).size (char_after text at) k e in
    let within = char_size-within set text at k e in
    let first : slice_index (drop at text) 0 ≡ slice_index text at = get_or-drop at text 0 0 ∙ ap (slice_index text) (let z : at + 0 ≡ at = omega arith in z) in
    let some : 0 < length (drop at text) = omega (arith, length-drop at text, within.0, within.1) in
    elim (cases_lt (slice_index text at) 128) [
      | inl low ↦
          let one = decoded-ascii (drop at text) found.0 some (omega arith) found.1.0 in (
            sym found.1.2 ∙ one.1,
            ap₂ (λ (a b : Bool). a && b) (below low) (ap (in_set set) (sym (one.0 ∙ first)) ∙ found.1.1),
          )
      | inr high ↦ elim narrow [
        | inl low ↦ absurd (omega arith)
        | inr none_wide ↦
            absurd (true≢false (sym (wide_member set found.0 (decoded-wide (drop at text) found.0 (omega arith) found.1.0) found.1.1) ∙ none_wide))
      ]
    ]
  where
    below : slice_index text at < 128 → nat_lt (slice_index text at) 128 ≡ true
    below low = grind (arith, nat_tests)

module _ (text : List ℕ) where
  -- Where a spot takes what begins with an ASCII byte, or no character beyond ASCII, it takes one byte, which is a byte that it takes.
  pub one_byte : (spots : List Spot) (s : Spot) (at k : ℕ) → (slice_index text at < 128) ⊎ (is_wide s ≡ false) → spot_size text spots s at ≡ Some k
      → (k ≡ 1) × (takes_byte s (slice_index text at) ≡ true)
  one_byte spots (spot.Bytes f set) at k narrow e = byte_one text set at k e
  one_byte spots (spot.Chars f set) at k narrow e = char_one text set at k narrow e
  one_byte spots (spot.Look l f) at k narrow e = absurd (none-some k e)
  one_byte spots (spot.Jump f) at k narrow e = absurd (none-some k e)
  one_byte spots (spot.Split a b) at k narrow e = absurd (none-some k e)
  one_byte spots (spot.Open f) at k narrow e = absurd (none-some k e)
  one_byte spots (spot.Close i f) at k narrow e = absurd (none-some k e)
  one_byte spots spot.Fail at k narrow e = absurd (none-some k e)
  one_byte spots spot.Match at k narrow e = absurd (none-some k e)

  -- no run begins where the first spot is dead
  pub NoRun-dead : (spots : List Spot) (from until : ℕ) → ((q : ℕ) → from ≤ q → q < until → IsDead text spots q 0) → NoRun text spots from until
  unfolding gives
  NoRun-dead spots from until dead groups q low high =
      dead q low high (suc (rank text spots 0 (way [] (begin q groups)))) (way [] (begin q groups)) refl
