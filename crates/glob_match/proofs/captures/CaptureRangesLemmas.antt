-- What is captured of a path lies in it, and its byte ranges lie on the boundaries of characters.
use Rattle.std.proofs.Common.{◌≡◌, inl, inr, ℕ, zero, suc, ◌-◌, ◌<◌, ◌≤◌, max, Option, Some, None, IfSome, MatchOption, Bool, true, false, ◌&&◌, List, [], ◌∷◌, ◌++◌, All, length, take, drop, map, chars, encode_utf8, encode_utf8_all, IsUtf8, IsCharBoundary, refl, sym, ap, subst, ◌∙◌, arith, length-append}
use Rattle.std.proofs.lemmas.List.Elements.{All-append, All-cons, All-nil}
use Rattle.std.proofs.lemmas.List.{take-append-drop}
use Rattle.std.proofs.lemmas.Option.{slice_get_within}
use Rattle.std.proofs.lemmas.Str.{encodes-append, encodes-chars, scalars-chars, IsCharBoundary-at_seam}
use Rattle.std.proofs.Math.Utf8.{scalar, scalars}
use Rattle.glob_match.specs.declared.piece.Single.TheVariants.{Character, AnyCharacter, Class}
use Rattle.glob_match.specs.declared.piece.Piece.{Piece}
use Rattle.glob_match.specs.declared.piece.Piece.TheVariants.{One, AnyRun, AnyDepth, AnyRest}
use Rattle.glob_match.specs.declared.walk.Capture.{Capture}
use Rattle.glob_match.specs.Pieces.{Pieces, Options}
use Rattle.glob_match.specs.Pieces.Pieces.{no_pieces, piece, brace}
use Rattle.glob_match.specs.Pieces.Options.{no_options, option}
use Rattle.glob_match.specs.Takes.{PieceTakes, Takes}
use Rattle.glob_match.specs.Captures.{between, captured, passed, passed_options, LeadsOn, IsFirst, IsFirstOption, IsEnd, Captures, LiesIn, byte_place, byte_range, LiesOnBoundaries}

abbrev pub AllLie : ℕ → List Capture → Type 0
AllLie n captures = All (LiesIn n) captures

two_lie : (n : ℕ) (xs ys : List Capture) → AllLie n xs → AllLie n ys → AllLie n (xs ++ ys)
two_lie n xs ys h k = All-append (LiesIn n) xs ys h k

one_lies : (n from to : ℕ) (others : List Capture) → from ≤ to → to ≤ n → AllLie n others → AllLie n (between from to ∷ others)
one_lies n from to others ordered within h = All-cons (LiesIn n) (between from to) others (record { ordered = ordered; within = within }) h

none_lie : (n : ℕ) → AllLie n []
none_lie n = All-nil (LiesIn n)

-- what a piece captures lies between its places
captured_lies : (p : Piece) (n from to : ℕ) → from ≤ to → to ≤ n → AllLie n (captured p from to)
captured_lies (One (Character c)) n from to ordered within = none_lie n
captured_lies (One AnyCharacter) n from to ordered within = one_lies n from to [] ordered within (none_lie n)
captured_lies (One (Class negated ranges)) n from to ordered within = one_lies n from to [] ordered within (none_lie n)
captured_lies AnyRun n from to ordered within = one_lies n from to [] ordered within (none_lie n)
captured_lies AnyDepth n from to ordered within = one_lies n from (max from (to - 1)) [] (omega arith) (omega arith) (none_lie n)
captured_lies AnyRest n from to ordered within = one_lies n from to [] ordered within (none_lie n)

mutual
  passed_lies : (pieces : Pieces) (n place : ℕ) → place ≤ n → AllLie n (passed pieces place)
  passed_lies no_pieces n place within = none_lie n
  passed_lies (piece p others) n place within = two_lie n (captured p place place) (passed others place) (captured_lies p n place place (omega arith) within) (passed_lies others n place within)
  passed_lies (brace all others) n place within =
      one_lies n place place (passed_options all place ++ passed others place) (omega arith) within (two_lie n (passed_options all place) (passed others place) (passed_options_lie all n place within) (passed_lies others n place within))

  passed_options_lie : (options : Options) (n place : ℕ) → place ≤ n → AllLie n (passed_options options place)
  passed_options_lie no_options n place within = none_lie n
  passed_options_lie (option first others) n place within = two_lie n (passed first place) (passed_options others place) (passed_lies first n place within) (passed_options_lie others n place within)

-- ---- what is taken lies within the path

piece_ends : (p : Piece) (path : List ℕ) (from to : ℕ) → PieceTakes p path from to → (from ≤ to) × (to ≤ length path)
piece_ends (One single) path from to h =
    let there : from < length path = slice_get_within path from h.0 h.1 in
    (omega (arith, h.3), omega (arith, h.3))
piece_ends AnyRun path from to h = (h.0, h.1)
piece_ends AnyDepth path from to h = (h.0, h.1)
piece_ends AnyRest path from to h = (h.0, h.1)

-- a derivation goes forward, within the path, and what it captures lies there
pub record GoesForward (path : List ℕ) (from to : ℕ) (captures : List Capture) : Type 0 where
  pub forward : from ≤ to
  pub within : to ≤ length path
  pub lie : AllLie (length path) captures

mutual
  first_lies : (pieces : Pieces) (path : List ℕ) (Goes : ℕ → Type 0) (from to : ℕ) (captures : List Capture) → from ≤ length path → IsFirst pieces path Goes from to captures → GoesForward path from to captures
  first_lies no_pieces path Goes from to captures within h = record {
    forward = omega (arith, h.0);
    within = omega (arith, h.0);
    lie = subst (λ (cs : List Capture). AllLie (length path) cs) (sym h.1) (none_lie (length path));
  }
  first_lies (piece p others) path Goes from to captures within h =
      let ends = piece_ends p path from h.0 h.2.holds.0 in
      let rest = first_lies others path Goes h.0 to h.1 ends.1 h.3 in
      record {
        forward = omega (arith, ends.0, rest.forward);
        within = rest.within;
        lie = subst (λ (cs : List Capture). AllLie (length path) cs) (sym h.4) (two_lie (length path) (captured p from h.0) h.1 (captured_lies p (length path) from h.0 ends.0 ends.1) rest.lie);
      }
  first_lies (brace all others) path Goes from to captures within h =
      let inside = option_lies all path (LeadsOn others path Goes) from h.0 h.1 within h.3 in
      let rest = first_lies others path Goes h.0 to h.2 inside.within h.4 in
      record {
        forward = omega (arith, inside.forward, rest.forward);
        within = rest.within;
        lie = subst (λ (cs : List Capture). AllLie (length path) cs) (sym h.5) (one_lies (length path) from h.0 (h.1 ++ h.2) inside.forward inside.within (two_lie (length path) h.1 h.2 inside.lie rest.lie));
      }

  option_lies : (options : Options) (path : List ℕ) (Goes : ℕ → Type 0) (from to : ℕ) (captures : List Capture) → from ≤ length path → IsFirstOption options path Goes from to captures → GoesForward path from to captures
  option_lies no_options path Goes from to captures within h = absurd h
  option_lies (option first others) path Goes from to captures within h = elim h [
    | inl l ↦
        let inside = first_lies first path Goes from to l.1.0 within l.1.1 in
        record {
          forward = inside.forward;
          within = inside.within;
          lie = subst (λ (cs : List Capture). AllLie (length path) cs) (sym l.1.2) (two_lie (length path) l.1.0 (passed_options others from) inside.lie (passed_options_lie others (length path) from within));
        }
    | inr r ↦
        let inside = option_lies others path Goes from to r.1.0 within r.1.1 in
        record {
          forward = inside.forward;
          within = inside.within;
          lie = subst (λ (cs : List Capture). AllLie (length path) cs) (sym r.1.2) (two_lie (length path) (passed first from) r.1.0 (passed_lies first (length path) from within) inside.lie);
        }
  ]

captures_lie : (whole : Pieces) (path : List ℕ) (captures : List Capture) → Captures whole path captures → AllLie (length path) captures
captures_lie whole path captures h = (first_lies whole path (IsEnd path) 0 (length path) captures (omega arith) h).lie

-- what was found lies in the path
pub found_lie : {V : Type 0} (items : V → List Capture) (whole : Pieces) (path : List ℕ) (found : Option V) → MatchOption found (¬ (Takes whole path 0 (length path))) (λ v. Takes whole path 0 (length path) × Captures whole path (items v))
    → IfSome found (λ v. AllLie (length path) (items v))
found_lie items whole path None h = tt
found_lie items whole path (Some v) h = captures_lie whole path (items v) h.1

-- ---- bytes

byte_grows : (characters : List ℕ) (m n : ℕ) → m ≤ n → byte_place characters m ≤ byte_place characters n
byte_grows [] zero n le = omega arith
byte_grows [] (suc m) zero le = absurd (omega arith)
byte_grows [] (suc m) (suc n) le = omega arith
byte_grows (c ∷ cs) zero n le = omega arith
byte_grows (c ∷ cs) (suc m) zero le = absurd (omega arith)
byte_grows (c ∷ cs) (suc m) (suc n) le = omega (arith, byte_grows cs m n (omega arith), length-append (encode_utf8 c) (encode_utf8_all (take m cs)), length-append (encode_utf8 c) (encode_utf8_all (take n cs)))

scalars_left : (characters : List ℕ) (n : ℕ) → scalars characters ≡ true → scalars (drop n characters) ≡ true
scalars_left [] zero are = are
scalars_left [] (suc n) are = are
scalars_left (c ∷ cs) zero are = are
scalars_left (c ∷ cs) (suc n) are = scalars_left cs n (and_true (scalar c) (scalars cs) are).1
  where
    and_true : (x y : Bool) → (x && y) ≡ true → (x ≡ true) × (y ≡ true)
    and_true true y e = (refl, e)
    and_true false y e = absurd (cc)

-- a place between characters is one where the text may be cut
place_cuts : (text : List ℕ) (place : ℕ) → IsUtf8 text → IsCharBoundary text (byte_place (chars text) place)
place_cuts text place utf8 =
    let all : List ℕ = chars text in
    let whole : text ≡ encode_utf8_all (take place all) ++ encode_utf8_all (drop place all) =
    sym (encodes-chars text utf8) ∙ ap encode_utf8_all (sym (take-append-drop place all)) ∙ encodes-append (take place all) (drop place all) in
    IsCharBoundary-at_seam text (encode_utf8_all (take place all)) (encode_utf8_all (drop place all)) whole (drop place all, (scalars_left all place (scalars-chars text utf8), refl))

pub ranges_cut : (text : List ℕ) (captures : List Capture) (n : ℕ) → IsUtf8 text → AllLie n captures → All (LiesOnBoundaries text) (map (byte_range (chars text)) captures)
ranges_cut text [] n utf8 lie = All-nil (LiesOnBoundaries text)
ranges_cut text (one ∷ others) n utf8 lie =
    let here : LiesIn n one = lie 0 one (omega arith) in
    All-cons (LiesOnBoundaries text) (byte_range (chars text) one) (map (byte_range (chars text)) others)
    (record { ordered = byte_grows (chars text) one.from one.to here.ordered; start = place_cuts text one.from utf8; end = place_cuts text one.to utf8 })
    (ranges_cut text others n utf8 (λ k d lt. lie (suc k) d (omega arith)))
