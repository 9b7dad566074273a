-- What a filter has looked at of a text.
use Rattle.std.proofs.Common.{◌≡◌, ℕ, zero, suc, ◌+◌, ◌-◌, ◌*◌, ◌/◌, ◌%◌, ◌^◌, ◌<◌, ◌≤◌, Bool, true, false, ◌⊎◌, inl, inr, List, [], Option, Some, length, slice_index, slice_index_or, bit_and, refl, sym, ap, subst, ◌∙◌, true≢false, arith}
use Rattle.std.specs.Prelude.{◌==◌, not, None, IfNone, IfSome}
use Rattle.std.proofs.lemmas.Bool.{cases_lt}
use Rattle.std.proofs.lemmas.Bool.Decides.{nat_tests}
use Rattle.std.specs.Int.{bit_at}
use Rattle.std.proofs.lemmas.Nat.{pow_below}
use Rattle.std.proofs.lemmas.Nat.Bits.{and_pow, bit_at-lt}
use Rattle.std.proofs.lemmas.Option.{slice_get_read, get_or_from_slice_get}
use Rattle.hir_tree.specs.Looks.{holds}
use Rattle.hir_tree.specs.declared.look.Look.{Look}
use Rattle.hir_tree.specs.declared.look.Look.TheVariants as look
use Rattle.hir_program.specs.Program.{Way, gives, rank, spot_at}
use Rattle.hir_program.specs.Masks.{HasBit, IsOpen, IsPart, IsShut, IsShutBefore, match_bit, sure_bit, row_place, next_of, is_taker, is_wide, takes_byte, Covers, IsMoved, IsDead, AreDead, NoRun}
use Rattle.hir_program.specs.Scan.{IsAskedFirst, IsRequired, IsFilterOf, IsOpenAt, IsPassedOver, Looked, NoEnd, NoneBegins, TellsStops, stops_at}
use Rattle.hir_program.specs.declared.spot.Spot.{Spot}
use Rattle.hir_program.specs.declared.scan.Candidate.{Candidate}
use Rattle.hir_program.specs.declared.scan.Scan.{Scan}
use Rattle.hir_program.specs.declared.scan.FilterState.{FilterState}
use Rattle.hir_program.specs.declared.scan.required.Required.{Required}
use Rattle.hir_program.specs.declared.scan.prefilter.Prefilter.{Prefilter}
use Rattle.hir_program.proofs.scan.bits.MaskLemmas.{HasBit-pow, HasBit-none, HasBit-above, HasBit-and, HasBit-apart, HasBit-eight}
use Rattle.hir_program.proofs.scan.reach.DeadLemmas.{AreDead-none, AreDead-part, Covers-part, IsDead-taker, spot_size-within, one_byte, NoRun-dead}

-- the mask covers what comes after each spot that is live
abbrev pub CoversAfter : Scan → ℕ → ℕ → Type 0
CoversAfter s live mask =
    (spots : List Spot) → IsFilterOf spots s → (i : ℕ) → i < length s.of.items → HasBit live i
    → Covers spots s.of.items s.last_look mask (next_of (spot_at spots (slice_index s.of.items i)))

-- so does what the rows have
pub CoversAfter-rows : (s : Scan) (live mask : ℕ)
    → ((i : ℕ) → i < 64 → HasBit live i → IsPart (slice_index s.after.items (row_place live i)) mask) → CoversAfter s live mask
CoversAfter-rows s live mask parts spots filter i lt has =
    Covers-part spots s.of.items s.last_look (slice_index s.after.items (row_place live i)) mask (next_of (spot_at spots (slice_index s.of.items i)))
    (parts i (omega (arith, filter.few)) has)
    (filter.follows i (live / 2 ^ (8 * (i / 8)) % 256) lt (omega arith) (HasBit-eight live i has))

-- and what is moved on to, where no spot is odd
pub CoversAfter-shift : (s : Scan) (live mask : ℕ) → ((i : ℕ) → HasBit live i → HasBit s.moves.odd i → ⊥)
    → ((i m : ℕ) → i < 62 → HasBit live i → IsMoved m s.moves.on s.moves.stay i → IsPart m mask) → CoversAfter s live mask
CoversAfter-shift s live mask even parts spots filter i lt has =
    let small : 2 ^ (i % 8) < 2 ^ 8 = pow_below (i % 8) 8 (omega arith) in
    let row : ℕ = slice_index s.after.items (256 * (i / 8) + 2 ^ (i % 8)) in
    Covers-part spots s.of.items s.last_look row mask (next_of (spot_at spots (slice_index s.of.items i)))
    (parts i row (omega (arith, filter.few)) has (filter.moves i lt (even i has)))
    (filter.follows i (2 ^ (i % 8)) lt (omega arith) (HasBit-pow (i % 8)))

-- What the filter does at a byte: the spots that are tried are those of the state, and those of the start unless no run begins there,
-- and these are the spots that may be tried after it.
pub record Steps (text : List ℕ) (s : Scan) (place state tried next : ℕ) : Type 0 where
  pub more : place < length text
  pub byte : slice_index text place < 256
  pub kept : IsPart state tried
  pub begun : IsPart s.start tried ⊎ NoneBegins text s place (place + 1)
  pub narrow : (slice_index text place < 128) ⊎ (bit_and tried s.wide ≡ 0)
  pub follows : CoversAfter s (bit_and tried (slice_index s.takes.items (slice_index text place))) next

-- what the filter does, from what it reads of its lists
pub Steps-read : (text : List ℕ) (s : Scan) (place state tried next read : ℕ) → place < length text → slice_index text place < length s.takes.items
    → slice_index text place < 256 → IsPart state tried → IsPart s.start tried ⊎ NoneBegins text s place (place + 1)
    → (slice_index text place < 128) ⊎ (bit_and tried s.wide ≡ 0) → read ≡ slice_index_or s.takes.items (slice_index text place) read
    → CoversAfter s (bit_and tried read) next → Steps text s place state tried next
Steps-read text s place state tried next read more within byte kept begun narrow is follows =
    let takes : read ≡ slice_index s.takes.items (slice_index text place) =
    sym (get_or_from_slice_get s.takes.items (slice_index text place) read 0 (slice_get_read s.takes.items (length s.takes.items) (slice_index text place) read refl within is)) in
    record {
      more = more;
      byte = byte;
      kept = kept;
      begun = begun;
      narrow = narrow;
      follows = subst (λ (live : ℕ). CoversAfter s (bit_and tried live) next) takes follows;
    }

-- a number that doesn't differ from 0
pub zero_where : (n : ℕ) → not (n == 0) ≡ false → n ≡ 0
zero_where n e = grind (arith, nat_tests)

-- no match ends where there is no bit for it
pub NoEnd-small : (text : List ℕ) (at : ℕ) (look : Option Look) (mask : ℕ) → mask < 2 ^ 62 → NoEnd text at look mask
NoEnd-small text at look mask small = (HasBit-above mask sure_bit small, λ has. absurd (HasBit-above mask match_bit (omega (arith, small)) has))

-- no bit is set in both
abbrev AreApart : ℕ → ℕ → Type 0
AreApart a b = (i : ℕ) → HasBit a i → HasBit b i → ⊥

-- no match ends where none of a mask may go on
pub NoEnd-closed : (text : List ℕ) (at : ℕ) (s : Scan) (mask more : ℕ) → IsOpenAt text at s more → bit_and mask more < 2 ^ 62 → NoEnd text at s.last_look mask
NoEnd-closed text at s mask more is small = (
  λ has. HasBit-above (bit_and mask more) sure_bit small (HasBit-and mask more sure_bit has is.sure),
  λ has. is.ends (λ set_bit. HasBit-above (bit_and mask more) match_bit (omega (arith, small)) (HasBit-and mask more match_bit has set_bit)),
)

-- a look that doesn't hold before a byte doesn't hold where that stands
shut_at : (look : Option Look) (b : ℕ) → IsShutBefore look b → (text : List ℕ) (at : ℕ) → at < length text → slice_index text at ≡ b → IsShut text at look
shut_at None b shut text at within here = tt
shut_at (Some l) b shut text at within here = shut l refl text at within here

-- no match ends where the byte rules out the look at which one would
NoEnd-passed : (text : List ℕ) (at : ℕ) (look : Option Look) (mask : ℕ) → at < length text → (HasBit mask sure_bit → ⊥)
    → (HasBit mask match_bit → IsShutBefore look (slice_index text at)) → NoEnd text at look mask
NoEnd-passed text at look mask within unsure shut = (unsure, λ has. shut_at look (slice_index text at) (shut has) text at within refl)

-- what may go on before a byte may where that stands
pub open_where : (s : Scan) (b mask : ℕ) → IsOpen b (slice_index s.takes.items b) s.wide s.last_look mask → (text : List ℕ) (at : ℕ) → at < length text → slice_index text at ≡ b
    → IsOpenAt text at s mask
open_where s b mask is text at within here = record {
  taken = λ inside. subst (λ (n : ℕ). IsPart (slice_index s.takes.items n) mask) (sym here) is.taken;
  beyond = λ inside big. is.beyond (omega (arith, big, here));
  sure = is.sure;
  ends = λ unset. shut_at s.last_look b (is.ends unset) text at within here;
}

module _ (text : List ℕ) (spots : List Spot) (s : Scan) (filter : IsFilterOf spots s) where
  -- at the end of the text each spot that takes bytes is dead
  pub AreDead-end : (mask at : ℕ) → length text ≤ at → NoEnd text at s.last_look mask → AreDead text spots s.of.items s.last_look at mask
  AreDead-end mask at past none = record {
    unmatched = none.0;
    asked = none.1;
    dead = λ i lt has.
        IsDead-taker text spots at (slice_index s.of.items i) (spot_at spots (slice_index s.of.items i)) refl (filter.takers i lt)
        (λ k sized. let size = spot_size-within text spots (spot_at spots (slice_index s.of.items i)) at k sized in absurd (omega (arith, size.0, size.1)));
  }

  abbrev taker : ℕ → Spot
  taker i = spot_at spots (slice_index s.of.items i)

  -- no spot of a mask takes a character beyond ASCII that begins with the byte
  narrow_by : (byte mask : ℕ) → (byte < 128) ⊎ AreApart mask s.wide → (i : ℕ) → i < length s.of.items → HasBit mask i
      → (byte < 128) ⊎ (is_wide (taker i) ≡ false)
  narrow_by byte mask narrow i lt has = elim narrow [ inl low ↦ inl low | inr apart ↦ inr (cases (is_wide (taker i)) refl apart) ]
    where
      cases : (b : Bool) → is_wide (taker i) ≡ b → AreApart mask s.wide → b ≡ false
      cases false e apart = refl
      cases true e apart = absurd (apart i has (filter.wide i lt e))

  narrow_at : (byte mask : ℕ) → (byte < 128) ⊎ (bit_and mask s.wide ≡ 0) → (i : ℕ) → i < length s.of.items → HasBit mask i
      → (byte < 128) ⊎ (is_wide (taker i) ≡ false)
  narrow_at byte mask narrow =
      narrow_by byte mask (elim narrow [ inl low ↦ inl low | inr nothing ↦ inr (λ i. HasBit-apart mask s.wide i nothing) ])

  -- the spots that were tried are dead, if those are that may be tried next
  AreDead-before : (place state tried next mask : ℕ) → Steps text s place state tried next → AreDead text spots s.of.items s.last_look (place + 1) next
      → NoEnd text place s.last_look mask → IsPart mask tried → AreDead text spots s.of.items s.last_look place mask
  AreDead-before place state tried next mask steps later none part = record {
    unmatched = none.0;
    asked = none.1;
    dead = λ i lt has.
        IsDead-taker text spots place (slice_index s.of.items i) (taker i) refl (filter.takers i lt)
        (λ k sized.
        let one = one_byte text spots (taker i) place k (narrow_at byte tried steps.narrow i lt (part i has)) sized in
        let live_bit = HasBit-and tried (slice_index s.takes.items byte) i (part i has) (filter.takes i byte lt steps.byte one.1) in
        subst (λ (j : ℕ). IsDead text spots (place + j) (next_of (taker i))) (sym one.0)
        (steps.follows spots filter i lt live_bit text (place + 1) later));
  }
    where
      byte : ℕ
      byte = slice_index text place

  -- they are dead where none takes the byte
  pub AreDead-by : (place mask : ℕ) → slice_index text place < 256 → NoEnd text place s.last_look mask
      → (slice_index text place < 128) ⊎ AreApart mask s.wide → AreApart mask (slice_index s.takes.items (slice_index text place))
      → AreDead text spots s.of.items s.last_look place mask
  AreDead-by place mask small none narrow apart = record {
    unmatched = none.0;
    asked = none.1;
    dead = λ i lt has.
        IsDead-taker text spots place (slice_index s.of.items i) (taker i) refl (filter.takers i lt)
        (λ k sized.
        let one = one_byte text spots (taker i) place k (narrow_by byte mask narrow i lt has) sized in
        absurd (apart i has (filter.takes i byte lt small one.1)));
  }
    where
      byte : ℕ
      byte = slice_index text place

  -- they are dead where nothing of a mask may go on
  pub AreDead-closed : (place mask more : ℕ) → (place < length text → slice_index text place < 256) → IsOpenAt text place s more → bit_and mask more ≡ 0
      → AreDead text spots s.of.items s.last_look place mask
  AreDead-closed place mask more small is nothing = elim (cases_lt place (length text)) [
    | inl within ↦ AreDead-by place mask (small within) none (narrow within) (λ i has taken. apart i has (is.taken within i taken))
    | inr past ↦ AreDead-end mask place past none
  ]
    where
      apart : AreApart mask more
      apart i = HasBit-apart mask more i nothing

      none : NoEnd text place s.last_look mask
      none = NoEnd-closed text place s mask more is (subst (λ (m : ℕ). m < 2 ^ 62) (sym nothing) (let low : 0 < 2 ^ 62 = omega arith in low))

      narrow : place < length text → (slice_index text place < 128) ⊎ AreApart mask s.wide
      narrow within = elim (cases_lt (slice_index text place) 128) [
        | inl low ↦ inl low
        | inr high ↦ inr (λ i has beyond. apart i has (is.beyond within high i beyond))
      ]

  module _ (c : Required) (required : IsRequired spots s.of.items s.last_look s.start c) where
    -- the spots before a required one are dead where it is passed over, if they are at the next place
    AreDead-passed : (place : ℕ) → place < length text → slice_index text place < 256 → IsPassedOver s.takes.items s.wide s.last_look c (slice_index text place)
        → AreDead text spots s.of.items s.last_look (place + 1) c.before → AreDead text spots s.of.items s.last_look place c.before
    AreDead-passed place within small passed later = record {
      unmatched = none.0;
      asked = none.1;
      dead = λ i lt has.
          IsDead-taker text spots place (slice_index s.of.items i) (taker i) refl (filter.takers i lt)
          (λ k sized.
          let one = one_byte text spots (taker i) place k (narrow_at byte c.before passed.1 i lt has) sized in
          let taken : HasBit (slice_index s.takes.items byte) i = filter.takes i byte lt small one.1 in
          subst (λ (j : ℕ). IsDead text spots (place + j) (next_of (taker i))) (sym one.0)
          (required.follows i lt has (λ in_required. HasBit-apart (slice_index s.takes.items byte) c.spots i passed.0 taken in_required) text (place + 1) later));
    }
      where
        byte : ℕ
        byte = slice_index text place

        none : NoEnd text place s.last_look c.before
        none = NoEnd-passed text place s.last_look c.before within required.unsure passed.2

    -- so they are from a place on where it is passed over at so many
    AreDead-prefilter : (count place : ℕ) → place + count ≤ length text → ((q : ℕ) → slice_index text q < 256)
        → ((q : ℕ) → place ≤ q → q < place + count → IsPassedOver s.takes.items s.wide s.last_look c (slice_index text q))
        → AreDead text spots s.of.items s.last_look (place + count) c.before → AreDead text spots s.of.items s.last_look place c.before
    AreDead-prefilter zero place within small passed later =
        subst (λ (p : ℕ). AreDead text spots s.of.items s.last_look p c.before) (let here : place + 0 ≡ place = omega arith in here) later
    AreDead-prefilter (suc count) place within small passed later =
        AreDead-passed place (omega arith) (small place) (passed place (omega arith) (omega arith))
        (AreDead-prefilter count (place + 1) (omega arith) small (λ q low high. passed q (omega arith) (omega arith))
        (subst (λ (p : ℕ). AreDead text spots s.of.items s.last_look p c.before)
        (let there : place + suc count ≡ place + 1 + count = omega arith in there) later))

    -- no run begins before a place, and none there, where the spots before a required one are dead
    IsDead-prefilter : (at end q : ℕ) → end ≤ length text → ((p : ℕ) → slice_index text p < 256)
        → ((p : ℕ) → at ≤ p → p < end → IsPassedOver s.takes.items s.wide s.last_look c (slice_index text p))
        → AreDead text spots s.of.items s.last_look end c.before → at ≤ q → q ≤ end → IsDead text spots q 0
    IsDead-prefilter at end q within small passed later low high =
        filter.start text q
        (AreDead-part text spots s.of.items s.last_look q s.start c.before required.begun
        (AreDead-prefilter (end - q) q (omega arith) small (λ p from until. passed p (omega arith) (omega arith))
        (subst (λ (p : ℕ). AreDead text spots s.of.items s.last_look p c.before) (let there : end ≡ q + (end - q) = omega arith in there) later)))

-- a power of two has nothing in common with a number that lacks its bit
bit_and-none : (n i : ℕ) → (HasBit n i → ⊥) → bit_and n (2 ^ i) ≡ 0
unfolding HasBit
bit_and-none n i unset =
    let low : bit_at n i < 2 = bit_at-lt n i in
    let none : bit_at n i ≡ 0 = omega (arith, low, unset) in
    let nothing : 0 * 2 ^ i ≡ 0 = omega arith in
    and_pow n i ∙ ap (λ (b : ℕ). b * 2 ^ i) none ∙ nothing

-- a spot takes a byte where its bit is set there
pub takes_byte-is : (spots : List Spot) (s : Scan) → IsFilterOf spots s → (q b takes mask : ℕ) (is : Bool) → q < length s.firsts.items → b < 256
    → takes ≡ slice_index s.takes.items b → mask ≡ slice_index s.firsts.items q → is_taker (spot_at spots q) ≡ true
    → (is ≡ true → bit_and takes mask ≡ 0 → ⊥) → (is ≡ false → bit_and takes mask ≡ 0) → is ≡ takes_byte (spot_at spots q) b
takes_byte-is spots s filter q b takes mask is few small reads same takes_bytes some none = cases (takes_byte (spot_at spots q) b) is refl refl
  where
    own : (i : ℕ) × (i < length s.of.items) × (slice_index s.of.items i ≡ q) × (slice_index s.firsts.items q ≡ 2 ^ i)
    own = filter.own q few takes_bytes

    i : ℕ
    i = own.0

    bit : mask ≡ 2 ^ i
    bit = same ∙ own.3

    Takes : ℕ → Type 0
    Takes p = takes_byte (spot_at spots p) b ≡ true

    cases : (t x : Bool) → takes_byte (spot_at spots q) b ≡ t → is ≡ x → x ≡ t
    cases true true e f = refl
    cases false false e f = refl
    cases true false e f =
        let has : HasBit takes i = subst (λ (m : ℕ). HasBit m i) (sym reads) (filter.takes i b own.1 small (subst Takes (sym own.2) e)) in
        let both : HasBit (bit_and takes mask) i = HasBit-and takes mask i has (subst (λ (m : ℕ). HasBit m i) (sym bit) (HasBit-pow i)) in
        absurd (HasBit-none i (subst (λ (m : ℕ). HasBit m i) (none f) both))
    cases false true e f =
        let unset : HasBit takes i → ⊥ =
        λ has. true≢false (sym (subst Takes own.2 (filter.takes_no_more i b own.1 (subst (λ (m : ℕ). HasBit m i) reads has))) ∙ e) in
        absurd (some f (subst (λ (m : ℕ). bit_and takes m ≡ 0) (sym bit) (bit_and-none takes i unset)))

-- a dead spot gives nothing
pub gives-dead : (text : List ℕ) (spots : List Spot) (at q : ℕ) (w : Way) → w.run.at ≡ at → IsDead text spots at q → gives text spots q w ≡ []
unfolding gives
gives-dead text spots at q w here dead = dead (suc (rank text spots q w)) w here

module _ (text : List ℕ) (s : Scan) where
  module _ (k : Prefilter) (is : s.prefilter ≡ Some k) (small : (p : ℕ) → slice_index text p < 256) (at next : ℕ)
      (passed : (p : ℕ) → at ≤ p → p < next → stops_at k.stops (slice_index text p) ≡ false) where
    -- what the filter says of the prefilter
    said : (spots : List Spot) → IsFilterOf spots s
        → IsRequired spots s.of.items s.last_look s.start k.required × TellsStops s.takes.items s.wide s.last_look k.required k.stops
    said spots filter =
        subst
        (λ (o : Option Prefilter). IfSome o (λ j. IsRequired spots s.of.items s.last_look s.start j.required × TellsStops s.takes.items s.wide s.last_look j.required j.stops))
        is filter.prefilter

    narrow_apart : {byte : ℕ} → (byte < 128) ⊎ (bit_and k.required.before s.wide ≡ 0) → (byte < 128) ⊎ AreApart k.required.before s.wide
    narrow_apart narrow = elim narrow [ inl low ↦ inl low | inr nothing ↦ inr (λ i. HasBit-apart k.required.before s.wide i nothing) ]

    -- no run begins where the prefilter comes to the end of the text, and no match ends there without a required spot
    pub NoneBegins-end : next ≡ length text → (HasBit k.required.before match_bit → ⊥) → NoneBegins text s at next
    NoneBegins-end over no_end spots filter q low high =
        let is_required = (said spots filter).0 in
        IsDead-prefilter text spots s filter k.required is_required at next q (omega (arith, over)) small
        (λ p from until. (said spots filter).1 (slice_index text p) (small p) (passed p from until))
        (AreDead-end text spots s filter k.required.before next (omega (arith, over)) (is_required.unsure, λ has. absurd (no_end has))) low (omega arith)

    -- nor before a byte that no spot before a required one takes
    pub NoneBegins-gap : (gap : ℕ) → (gap ≡ at) ⊎ (bit_and k.required.before (slice_index s.takes.items (slice_index text (gap - 1))) ≡ 0)
        → gap ≤ next → next ≤ length text → NoneBegins text s at gap
    NoneBegins-gap gap none before within spots filter q low high = elim none [
      | inl here ↦ absurd (omega arith)
      | inr nothing ↦
          let is_required = (said spots filter).0 in
          let passes = λ (p : ℕ) (from : at ≤ p) (until : p < next). (said spots filter).1 (slice_index text p) (small p) (passed p from until) in
          let last = passes (gap - 1) (omega arith) (omega arith) in
          IsDead-prefilter text spots s filter k.required is_required at (gap - 1) q (omega arith) small (λ p from until. passes p from (omega arith))
          (AreDead-by text spots s filter (gap - 1) k.required.before (small (gap - 1))
          (NoEnd-passed text (gap - 1) s.last_look k.required.before (omega arith) is_required.unsure last.2) (narrow_apart last.1)
          (λ i. HasBit-apart k.required.before (slice_index s.takes.items (slice_index text (gap - 1))) i nothing))
          low (omega arith)
    ]

  -- more places
  pub NoneBegins-more : (from mid until : ℕ) → NoneBegins text s from mid → NoneBegins text s mid until → NoneBegins text s from until
  NoneBegins-more from mid until before after spots filter q low high =
      elim (cases_lt q mid) [ inl left ↦ before spots filter q low left | inr right ↦ after spots filter q right high ]

  -- no run of a program begins where none does
  pub NoRun-begins : (from until : ℕ) → NoneBegins text s from until → (spots : List Spot) → IsFilterOf spots s → NoRun text spots from until
  NoRun-begins from until none spots filter = NoRun-dead text spots from until (none spots filter)

  pub IfNone-runs : (at : ℕ) (found : Option Candidate) → IfNone found (NoneBegins text s at (length text + 1))
      → IfNone found ((spots : List Spot) → IsFilterOf spots s → NoRun text spots at (length text + 1))
  IfNone-runs at None none = NoRun-begins at (length text + 1) none
  IfNone-runs at (Some c) none = none

  pub IfSome-runs : (at : ℕ) (found : Option Candidate) → IfSome found (λ c. NoneBegins text s at c.from)
      → IfSome found (λ c. (spots : List Spot) → IsFilterOf spots s → NoRun text spots at c.from)
  IfSome-runs at None none = none
  IfSome-runs at (Some c) none = NoRun-begins at c.from none

  -- no run begins where lines don't start, if each asks for that
  pub NoneBegins-unasked : s.first_look ≡ Some look.StartLF → (from until : ℕ)
      → ((q : ℕ) → from ≤ q → q < until → holds look.StartLF text q ≡ false) → NoneBegins text s from until
  NoneBegins-unasked asked from until fails spots filter q low high =
      let first : IsAskedFirst spots (Some look.StartLF) = subst (IsAskedFirst spots) asked filter.first in
      first text q (fails q low high)

-- more places at which no run begins
pub NoRun-more : (text : List ℕ) (spots : List Spot) (from mid until : ℕ) → NoRun text spots from mid → NoRun text spots mid until → NoRun text spots from until
NoRun-more text spots from mid until before after groups q low high =
    elim (cases_lt q mid) [ inl left ↦ before groups q low left | inr right ↦ after groups q right high ]

-- how far the filter has looked, and where the prefilter is worth while again
abbrev pub so_far : ℕ → ℕ → ℕ → ℕ → FilterState
so_far from place state ahead = record { from = from; place = place; state = state; ahead = ahead }

module _ (text : List ℕ) (s : Scan) (at : ℕ) where
  -- at first nothing was looked at
  pub Looked-begin : (ahead : ℕ) → at ≤ length text → Looked text s at (so_far at at 0 ahead)
  Looked-begin ahead within = record {
    after = omega arith;
    before = omega arith;
    within = within;
    unmatched = (HasBit-none sure_bit, λ has. absurd (HasBit-none match_bit has));
    quiet = λ spots filter q low high. absurd (omega arith);
    held = λ spots filter dead q low high. absurd (omega arith);
  }

  -- a byte more, at a place where no match without a byte is
  pub Looked-next : (from place state tried next ahead : ℕ) → NoEnd text place s.last_look s.start ⊎ NoneBegins text s place (place + 1)
      → NoEnd text (place + 1) s.last_look next → Looked text s at (so_far from place state ahead) → Steps text s place state tried next
      → Looked text s at (so_far from (place + 1) next ahead)
  Looked-next from place state tried next ahead empty none h steps = record {
    after = h.after;
    before = omega (arith, h.before);
    within = omega (arith, steps.more);
    unmatched = none;
    quiet = h.quiet;
    held = λ spots filter dead q low high. elim (cases_lt q place) [
      | inl before ↦
          h.held spots filter (AreDead-before text spots s filter place state tried next state steps dead h.unmatched steps.kept) q low before
      | inr last ↦ subst (λ (p : ℕ). IsDead text spots p 0) (let here : place ≡ q = omega arith in here) (begins spots filter dead)
    ];
  }
    where
      begins : (spots : List Spot) → IsFilterOf spots s → AreDead text spots s.of.items s.last_look (place + 1) next → IsDead text spots place 0
      begins spots filter dead = elim empty [
        | inr nothing ↦ nothing spots filter place (omega arith) (omega arith)
        | inl no_match ↦ elim steps.begun [
          | inr nothing ↦ nothing spots filter place (omega arith) (omega arith)
          | inl part ↦ filter.start text place (AreDead-before text spots s filter place state tried next s.start steps dead no_match part)
        ]
      ]

  -- a byte more, by a shift
  pub Looked-shift : (from place state tried next ahead : ℕ) → s.start < 2 ^ 62 → next < 2 ^ 62 → Looked text s at (so_far from place state ahead)
      → Steps text s place state tried next → Looked text s at (so_far from (place + 1) next ahead)
  Looked-shift from place state tried next ahead low small h steps =
      Looked-next from place state tried next ahead (inl (NoEnd-small text place s.last_look s.start low)) (NoEnd-small text (place + 1) s.last_look next small) h steps

  -- where no spot may be tried, all before is over
  pub Looked-over : (from place ahead : ℕ) → Looked text s at (so_far from place 0 ahead) → Looked text s at (so_far place place 0 ahead)
  Looked-over from place ahead h = record {
    after = omega (arith, h.after, h.before);
    before = omega arith;
    within = h.within;
    unmatched = h.unmatched;
    quiet = λ spots filter q low high. elim (cases_lt q from) [
      | inl before ↦ h.quiet spots filter q low before
      | inr later ↦ h.held spots filter (AreDead-none text spots s.of.items s.last_look place) q later high
    ];
    held = λ spots filter dead q low high. absurd (omega arith);
  }

  -- places are passed over that begin no run
  pub Looked-prefilter : (from ahead : ℕ) (k : FilterState) → NoneBegins text s from k.from → from ≤ k.from → k.from ≤ length text → k.place ≡ k.from → k.state ≡ 0
      → Looked text s at (so_far from from 0 ahead) → Looked text s at k
  Looked-prefilter from ahead k none forward end here rests h = record {
    after = omega (arith, h.after, forward);
    before = omega arith;
    within = omega arith;
    unmatched = (
      λ has. HasBit-none sure_bit (subst (λ (m : ℕ). HasBit m sure_bit) rests has),
      λ has. absurd (HasBit-none match_bit (subst (λ (m : ℕ). HasBit m match_bit) rests has)),
    );
    quiet = NoneBegins-more text s at from k.from h.quiet none;
    held = λ spots filter dead q low high. absurd (omega arith);
  }

  -- at the end of the text, where no match without a byte is, no run begins at all
  pub Looked-end : (from place state ahead : ℕ) → NoEnd text place s.last_look s.start ⊎ NoneBegins text s place (place + 1) → length text ≤ place
      → Looked text s at (so_far from place state ahead) → NoneBegins text s at (length text + 1)
  Looked-end from place state ahead empty over h spots filter q low high =
      elim (cases_lt q from) [
        | inl before ↦ h.quiet spots filter q low before
        | inr later ↦ elim (cases_lt q place) [
          | inl within ↦ h.held spots filter (AreDead-end text spots s filter state place over h.unmatched) q later within
          | inr last ↦ subst (λ (p : ℕ). IsDead text spots p 0) (let here : place ≡ q = omega (arith, h.within) in here) begins
        ]
      ]
    where
      begins : IsDead text spots place 0
      begins = elim empty [
        | inl no_match ↦ filter.start text place (AreDead-end text spots s filter s.start place over no_match)
        | inr nothing ↦ nothing spots filter place (omega arith) (omega arith)
      ]
