-- What the code's functions reach, from what they call.
use Rattle.std.proofs.Common.{◌≡◌, ◌<◌, ◌≤◌, ◌+◌, ℕ, true, not, List, [], ◌∷◌, ◌++◌, drop, length, length-drop, get_or, drop-cons, None, Result, Ok, Err, IfOk, IsErrAnd, sym, ap, ◌∙◌, subst, arith}
use Rattle.sd_base.specs.declared.no_memory.NoMemory.{NoMemory}
use Rattle.std.proofs.Math.ListN.{drop_of_length-le}
use Rattle.pattern_syntax.specs.declared.flags.Flags.{Flags}
use Rattle.pattern_syntax.specs.declared.readings.Item.{Item}
use Rattle.pattern_syntax.specs.declared.readings.Opening.{Opening}
use Rattle.pattern_syntax.specs.declared.readings.Opening.TheVariants as opening
use Rattle.pattern_syntax.specs.declared.readings.Repetition.{Repetition}
use Rattle.pattern_syntax.specs.Flags.{seen}
use Rattle.pattern_syntax.specs.Syntax.{Repeated, FineSingle}
use Rattle.pattern_syntax.specs.SetTree.{repetition}
use Rattle.pattern_syntax.specs.Class.{xor}
use Rattle.pattern_syntax.specs.Reads.{Part, Found, Reads, at_depth, single_part, single_literals, repeat}
use Rattle.pattern_syntax.specs.Tokens as token
use Rattle.pattern_syntax.specs.Tokens.{Token, write_token, FineToken, FineRepeated, write_repeated}
use Rattle.pattern_syntax.specs.Readers as readers
use Rattle.pattern_syntax.specs.Readers.{SingleAt, OpeningAt, RepetitionAt, IsOpening, IsOpeningRead, IsSingleRead, IsRepetitionRead, HasLiterals, GoesOnTo}
use Rattle.pattern_syntax.proofs.SameBlanks.{head}
use Rattle.pattern_core.specs.Progress.{Progress, Level, finished, in_group, GoesOn}
use Rattle.pattern_core.specs.Parsing.{IsPart, IsLevel, AreFrames, AreNames, IsState, Leaves, Same, SameBehind, SomeRepeated, Reaches, ReachesBehind, Repeats, IsStuck, Steps, IsAtToken, IsBegun, Finds, IsWhole, is_other, begun, behind_item, behind_token, noted, outside}
use Rattle.pattern_core.specs.declared.fault.PatternFault.{PatternFault}
use Rattle.pattern_core.specs.declared.fault.PatternFault.TheVariants as fault
use Rattle.pattern_core.specs.declared.parsing.pieces.Piece.{Piece}
use Rattle.pattern_core.specs.declared.parsing.reading.Whole.{Whole}
use Rattle.pattern_core.specs.declared.parsing.state.Frame as code_frame
use Rattle.pattern_core.specs.declared.parsing.state.State.{State}
use Rattle.pattern_core.proofs.parsing.BlankLemmas.{length_seen, seen_again}
use Rattle.pattern_core.proofs.parsing.StepLemmas.{begun as begun_on, read_back}
use Rattle.pattern_core.proofs.parsing.TokenLemmas.{opens_group, no_item}
use Rattle.pattern_core.proofs.parsing.TextLemmas.{IsMove, moved_same, blanks_same, item_same, left_same, left_none, open_at_end, no_token_at, whole_read, one_more_repeated, all_repeated, same_on, cut_at}
use Rattle.pattern_core.proofs.parsing.StateLemmas.{Innermost, innermost, no_frames, last_of}
use Rattle.pattern_core.proofs.parsing.OneLemmas.{one_token, one_repeated}

-- ---- repetitions

-- the tree of one repetition
once : (k : Flags) (text : List ℕ) (i j : ℕ) (r : Repetition) (at : RepetitionAt k text i r j) (a : Part)
    → repeat k (at.repeated ∷ []) a ≡ at_depth (a.depth + 1) (repetition r.min r.max (not (xor r.swaps k.swaps)) a.tree)
once k text i j r at a =
    ap (at_depth (a.depth + 1))
    (at.counts (not (xor at.repeated.swaps k.swaps)) a.tree ∙ ap (λ s. repetition r.min r.max (not (xor s k.swaps)) a.tree) (sym at.swaps))

repeated_at : (text : List ℕ) (p : Progress) (k : Flags) (a b : Part) (at i j : ℕ) (q : Repeated) → p.flags ≡ k → SomeRepeated text p a at b i
    → drop i text ≡ write_repeated q (drop j text) → FineRepeated k q (drop j text) → SomeRepeated text p a at (repeat k (q ∷ []) b) j
repeated_at text p k a b at i j q same some e f =
    subst (λ k. SomeRepeated text p a at (repeat k (q ∷ []) b) j) same
    (one_more_repeated text p a at i one_repeated b j q some e (subst (λ k. FineRepeated k q (drop j text)) (sym same) f))

abbrev RepeatedOnce : ℕ → Flags → Repetition → Piece → Piece → Type 0
RepeatedOnce limit k r old new =
    (part : Part) → IsPart limit old part → IsPart limit new (at_depth (part.depth + 1) (repetition r.min r.max (not (xor r.swaps k.swaps)) part.tree))

pub repeats_more : (limit : ℕ) (text : List ℕ) (k : Flags) (first : Piece) (at : ℕ) (old new : Piece) (i j : ℕ) (r : Repetition)
    → Repeats limit text k first at old i → RepetitionAt k text i r j → RepeatedOnce limit k r old new → Repeats limit text k first at new j
repeats_more limit text k first at old new i j r so_far read made = record {
  keeps = λ before part same is.
      let some = so_far.keeps before part same is in
      let q = read.repeated in (
        repeat k (q ∷ []) some.0,
        (
          subst (IsPart limit new) (sym (once k text i j r read some.0)) (made some.0 some.1.0),
          repeated_at text before k part some.0 at i j q same some.1.1 read.written read.fine,
        ),
      );
  further = omega (arith, so_far.further, read.goes_on.0);
  within = read.goes_on.1;
}

-- all repetitions of a piece are read, and it is put behind the items
pub all_reached : (limit : ℕ) (text : List ℕ) (s t : State) (piece read : Piece) (to : ℕ) → Repeats limit text s.flags piece s.at read to
    → IsRepetitionRead s.flags text to None
    → ((limit : ℕ) (before : Progress) (part : Part) → IsState limit s before → IsPart limit read part → IsState limit t (behind_item part before)) → t.at ≡ to
    → ReachesBehind limit text s piece t
all_reached limit text s t piece read to repeats none item place = record {
  keeps = λ before part is same.
      let some = repeats.keeps before part (sym is.flags) same in
      let done = all_repeated text before part s.at to some.0 some.1.1 (λ r u e f. none r u e (subst (λ k. FineRepeated k r u) (sym is.flags) f)) in
      (behind_item some.0 before, (item limit before some.0 is some.1.0, subst (SameBehind text before part s.at (behind_item some.0 before)) (sym place) done));
  further = subst (λ at. s.at ≤ at) (sym place) repeats.further;
  within = subst (λ at. at ≤ length text) (sym place) repeats.within;
}

pub repeated_behind : (limit : ℕ) (text : List ℕ) (s : State) (piece read : Piece) (to : ℕ) (r : Result State NoMemory)
    → Repeats limit text s.flags piece s.at read to → IsRepetitionRead s.flags text to None
    → IfOk r (λ (t : State). (limit : ℕ) (before : Progress) (part : Part) → IsState limit s before → IsPart limit read part
    → IsState limit t (behind_item part before))
    → IfOk r (λ (t : State). t.at ≡ to) → IfOk r (ReachesBehind limit text s piece)
repeated_behind limit text s piece read to (Ok t) repeats none item place = all_reached limit text s t piece read to repeats none item place
repeated_behind limit text s piece read to (Err e) repeats none item place = item

-- ---- tokens

moved_reaches : (limit : ℕ) (text : List ℕ) (s t : State) (a : Token) (next : ℕ) → IsMove a → s.at < next → next ≤ length text
    → drop s.at text ≡ write_token a (drop next text) → FineToken s.flags a (drop next text)
    → ((before : Progress) → IsState limit s before → IsState limit t (behind_token a before)) → t.at ≡ next → Reaches limit text s t
moved_reaches limit text s t a next move more within written fine keeps place = record {
  keeps = λ before is. (
    behind_token a before,
    (
      keeps before is,
      subst (Same text before s.at (behind_token a before)) (sym place)
          (moved_same text before s.at next one_token a move written (subst (λ k. FineToken k a (drop next text)) is.flags fine)),
    ),
  );
  more = subst (λ at. s.at < at) (sym place) more;
  within = subst (λ at. at ≤ length text) (sym place) within;
}

pub bar_reaches : (limit : ℕ) (text : List ℕ) (s t : State) → s.at < length text → get_or text s.at 0 ≡ 124
    → ((before : Progress) → IsState limit s before → IsState limit t (behind_token token.bar before)) → t.at ≡ s.at + 1 → Reaches limit text s t
bar_reaches limit text s t h is keeps place =
    moved_reaches limit text s t token.bar (s.at + 1) tt (omega arith) (omega arith) (cut_at text s.at 124 h is) tt keeps place

is_move : (k : Flags) (a : Token) (o : Opening) → IsOpening k a o → IsMove a
is_move k a opening.Numbered e = subst IsMove (sym e) tt
is_move k a (opening.Named name) (bs, p, e) = subst IsMove (sym e) tt
is_move k a (opening.Plain flags) (bs, l, e, f) = subst IsMove (sym e) tt
is_move k a (opening.Sets flags) (bs, l, e, f) = subst IsMove (sym e) tt

pub opening_reaches : (limit : ℕ) (text : List ℕ) (s t : State) (o : Opening) (next : ℕ) → OpeningAt s.flags text s.at o next
    → ((limit : ℕ) (before : Progress) (a : Token) → IsState limit s before → IsOpening s.flags a o → IsState limit t (behind_token a before))
    → t.at ≡ next → Reaches limit text s t
opening_reaches limit text s t o next at keeps place =
    moved_reaches limit text s t at.token next (is_move s.flags at.token o at.is) at.goes_on.0 at.goes_on.1 at.written at.fine
    (λ before is. keeps limit before at.token is at.is) place

head_at : (text : List ℕ) (i : ℕ) → i < length text → head (drop i text) ≡ get_or text i 0
head_at text i h = ap head (drop-cons text i 0 h)

pub opening_stuck : (limit : ℕ) (text : List ℕ) (s : State) → s.at < length text → get_or text s.at 0 ≡ 40 → IsAtToken s.flags (drop s.at text)
    → IsOpeningRead s.flags text s.at None → IsStuck limit text s
opening_stuck limit text s h is clear none before same found x =
    no_token_at text before s.at h (subst (λ k. IsAtToken k (drop s.at text)) same.flags clear)
    (λ a t e f.
    let fine = subst (λ k. FineToken k a t) (sym same.flags) f in
    none a t (opens_group s.flags a (drop s.at text) t (head_at text s.at h ∙ is) e fine) e fine) found x

pub item_stuck : (limit : ℕ) (text : List ℕ) (s : State) → s.at < length text → is_other (get_or text s.at 0) ≡ true → IsAtToken s.flags (drop s.at text)
    → IsSingleRead s.flags text s.at None → IsStuck limit text s
item_stuck limit text s h other clear none before same found x =
    no_token_at text before s.at h (subst (λ k. IsAtToken k (drop s.at text)) same.flags clear)
    (λ a t e f.
    no_item s.flags a (drop s.at text) t (ap is_other (head_at text s.at h) ∙ other) e (subst (λ k. FineToken k a t) (sym same.flags) f) none) found x

-- an item is read, with its repetitions
pub item_reaches : (limit : ℕ) (text : List ℕ) (s noting t : State) (item : Item) (piece : Piece) (next : ℕ) → SingleAt s.flags text s.at item next
    → IsPart limit piece (readers.part_of item)
    → ((limit : ℕ) (before : Progress) (cs : List ℕ) → IsState limit s before → HasLiterals item.literals cs → IsState limit noting (noted cs before))
    → noting.at ≡ next → ReachesBehind limit text noting piece t → Reaches limit text s t
item_reaches limit text s noting t item piece next at part notes place behind = record {
  keeps = λ before is.
      let cs = single_literals at.single in
      let is_part : IsPart limit piece (single_part before.flags at.single) =
      subst (λ k. IsPart limit piece (single_part k at.single)) is.flags (subst (IsPart limit piece) at.part part) in
      let more = behind.keeps (noted cs before) (single_part before.flags at.single) (notes limit before cs is at.literals) is_part in (
        more.0,
        (
          more.1.0,
          item_same text before s.at next one_token at.single at.written (subst (λ k. FineSingle k at.single (drop next text)) is.flags at.fine) more.0 t.at
              (subst (λ i. SameBehind text (noted cs before) (single_part before.flags at.single) i more.0 t.at) place more.1.1),
        ),
      );
  more = omega (arith, at.goes_on.0, behind.further, place);
  within = behind.within;
}

-- ---- the end of a group

pub left_reaches : (limit : ℕ) (text : List ℕ) (s outer t : State) (piece : Piece) → s.at < length text → get_or text s.at 0 ≡ 41
    → ((before : Progress) → IsState limit s before → Leaves limit before outer piece) → outer.at ≡ s.at + 1 → ReachesBehind limit text outer piece t
    → Reaches limit text s t
left_reaches limit text s outer t piece h is leaves place behind = record {
  keeps = λ before same.
      let left = leaves before same in
      let p = outside left.frames left.frame before in
      let part = in_group left.frame.kind left.frame.before (finished before.level) in
      let more = behind.keeps p part left.is left.part in (
        more.0,
        (
          more.1.0,
          left_same text before s.at (s.at + 1) left.frames left.frame left.were one_token (cut_at text s.at 41 h is) more.0 t.at
              (subst (λ i. SameBehind text p part i more.0 t.at) place more.1.1),
        ),
      );
  more = omega (arith, behind.further, place);
  within = behind.within;
}

pub left_stuck : (limit : ℕ) (text : List ℕ) (s : State) → s.at < length text → get_or text s.at 0 ≡ 41
    → ((before : Progress) → IsState limit s before → before.frames ≡ []) → IsStuck limit text s
left_stuck limit text s h is none before same found x =
    left_none text before s.at one_token (none before same) (s.at + 1) (cut_at text s.at 41 h is) found x

-- ---- white space

abbrev at_place : State → ℕ → State
at_place s to = record s { at = to }

placed : (limit : ℕ) (s : State) (to : ℕ) (p : Progress) → IsState limit s p → IsState limit (at_place s to) p
placed limit s to p is = record {
  frames = is.frames;
  level = is.level;
  flags = is.flags;
  groups = is.groups;
  names = is.names;
  literals = is.literals;
}

no_sooner : (k : Flags) (text : List ℕ) (at to : ℕ) → at ≤ length text → to ≤ length text → drop to text ≡ seen k (drop at text) → at ≤ to
no_sooner k text at to h i e =
    let shorter = length_seen k (drop at text) in
    let same = ap length e in
    omega (arith, length-drop at text, length-drop to text)

passed_same : (text : List ℕ) (s : State) (to : ℕ) (limit : ℕ) (p : Progress) → IsState limit s p → drop to text ≡ seen s.flags (drop s.at text)
    → Same text p s.at p to
passed_same text s to limit p is e = blanks_same text p s.at to (subst (λ k. drop to text ≡ seen k (drop s.at text)) is.flags e)

-- the text ends behind white space
pub end_reached : (limit : ℕ) (text : List ℕ) (s : State) (to : ℕ) → s.at < length text → to ≡ length text → drop to text ≡ seen s.flags (drop s.at text)
    → Reaches limit text s (at_place s to)
end_reached limit text s to h i e = record {
  keeps = λ before is. (before, (placed limit s to before is, passed_same text s to limit before is e));
  more = omega arith;
  within = omega arith;
}

-- what comes behind white space is reached from before it
pub passed_steps : (limit : ℕ) (text : List ℕ) (s : State) (to : ℕ) (r : Result State PatternFault) → s.at < length text → to ≤ length text
    → drop to text ≡ seen s.flags (drop s.at text) → Steps limit text (at_place s to) r → Steps limit text s r
passed_steps limit text s to (Ok t) h i e reaches = record {
  keeps = λ before is.
      let more = reaches.keeps before (placed limit s to before is) in
      (more.0, (more.1.0, same_on text before before more.0 s.at to t.at (passed_same text s to limit before is e) more.1.1));
  more = omega (arith, no_sooner s.flags text s.at to (omega arith) i e, reaches.more);
  within = reaches.within;
}
passed_steps limit text s to (Err fault.Grammar) h i e stuck =
    λ before is found x. stuck before (placed limit s to before is) found ((passed_same text s to limit before is e).on found x)
passed_steps limit text s to (Err fault.NoMemory) h i e stuck = tt
passed_steps limit text s to (Err fault.Nest) h i e stuck = stuck
passed_steps limit text s to (Err fault.DoubleName) h i e stuck = stuck

pub at_token : (k : Flags) (text : List ℕ) (at to : ℕ) → drop to text ≡ seen k (drop at text) → IsAtToken k (drop to text)
at_token k text at to e = ap (seen k) e ∙ seen_again k (drop at text) ∙ sym e

-- ---- the whole text

module _ (limit : ℕ) (text : List ℕ) (k : Flags) where
  pub begun_first : (s : State) → IsState limit s (begun k) → s.at ≡ 0 → IsBegun limit text k s
  begun_first s is place = record {
    reading = begun k;
    is = is;
    on = λ found r. subst (λ i. GoesOn (begun k) (drop i text) found) (sym place) (begun_on k text found r);
    back = λ found x. read_back k text found (subst (λ i. GoesOn (begun k) (drop i text) found) place x);
    within = omega arith;
  }

  pub begun_on_to : (s t : State) → IsBegun limit text k s → Reaches limit text s t → IsBegun limit text k t
  begun_on_to s t b r =
      let more = r.keeps b.reading b.is in
      record {
        reading = more.0;
        is = more.1.0;
        on = λ found x. more.1.1.on found (b.on found x);
        back = λ found x. b.back found (more.1.1.back found x);
        within = r.within;
      }

  pub begun_stuck : (s : State) (e : PatternFault) → IsBegun limit text k s → Steps limit text s (Err e) → IsWhole limit text k (Err e)
  begun_stuck s fault.Grammar b stuck = λ found r. stuck b.reading b.is found (b.on found r)
  begun_stuck s fault.NoMemory b stuck = tt
  begun_stuck s fault.Nest b stuck = stuck
  begun_stuck s fault.DoubleName b stuck = stuck

  -- a refusal that is passed on
  pub passed_on : (r : Result Whole PatternFault) (e : PatternFault) → IsErrAnd r (λ f. f ≡ e) → IsWhole limit text k (Err e) → IsWhole limit text k r
  passed_on (Ok whole) e h w = absurd h
  passed_on (Err f) e h w = subst (λ e. IsWhole limit text k (Err e)) (sym h) w

  open_frames : (s : State) (b : IsBegun limit text k s) → length text ≤ s.at → (cs : List code_frame.Frame) (c : code_frame.Frame)
      → s.frames.items ≡ cs ++ c ∷ [] → (found : Found) → Reads k text found → ⊥
  open_frames s b h cs c e found r =
      let last : Innermost limit cs c b.reading.frames =
      innermost limit cs c b.reading.frames (subst (λ frames. AreFrames limit frames b.reading.frames) e b.is.frames) in
      open_at_end text b.reading s.at s.at last.outer last.inner last.are (drop_of_length-le text h) found (b.on found r)

  -- a group is open at the end of the text
  pub begun_open : (s : State) → IsBegun limit text k s → length text ≤ s.at → 0 < length s.frames.items → (found : Found) → Reads k text found → ⊥
  begun_open s b h open_one found r =
      let last = last_of s.frames.items open_one in open_frames s b h last.0 last.1 last.2 found r

  -- the text ends, and no group is open
  pub begun_end : (s : State) (whole : Whole) → IsBegun limit text k s → length text ≤ s.at → s.frames.items ≡ []
      → ((level : Level) → IsLevel limit s.level level → IsPart limit whole.piece (finished level)) → whole.groups ≡ s.groups → whole.names ≡ s.names
      → whole.literals ≡ s.literals → Finds limit text k whole
  begun_end s whole b h none finishes groups names literals =
      let p = b.reading in
      record {
        found = record { part = finished p.level; groups = p.gathered.groups; names = p.gathered.names; literals = p.gathered.literals };
        reads = whole_read k text p (no_frames limit s.frames.items p.frames none b.is.frames)
            (λ found x. b.back found (subst (λ w. GoesOn p w found) (sym (drop_of_length-le text h)) x));
        part = finishes p.level b.is.level;
        groups = groups ∙ b.is.groups;
        names = subst (λ names. AreNames names p.gathered.names) (sym names) b.is.names;
        literals = subst (λ literals. HasLiterals literals p.gathered.literals) (sym literals) b.is.literals;
      }
