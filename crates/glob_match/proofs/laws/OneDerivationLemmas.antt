-- There is one first derivation, and it captures as many parts of each path.
use Rattle.std.proofs.Common.{◌≡◌, inl, inr, ℕ, Bool, true, false, List, ◌∷◌, ◌++◌, length, map, Option, Some, None, refl, sym, ap, subst, ◌∙◌, arith, length-append}
use Rattle.std.proofs.lemmas.List.{length-map}
use Rattle.std.specs.declared.ops.Range.{Range}
use Rattle.glob_match.specs.declared.piece.Single.TheVariants.{Character, AnyCharacter, Class}
use Rattle.glob_match.specs.declared.piece.Piece.{Piece}
use Rattle.glob_match.specs.declared.piece.Piece.TheVariants.{One, AnyRun, AnyDepth, AnyRest}
use Rattle.glob_match.specs.declared.walk.Capture.{Capture}
use Rattle.glob_match.specs.Pieces.{Pieces, Options}
use Rattle.glob_match.specs.Pieces.Pieces.{no_pieces, piece, brace}
use Rattle.glob_match.specs.Pieces.Options.{no_options, option}
use Rattle.glob_match.specs.Reading.{negations, is_odd, pieces_of}
use Rattle.glob_match.specs.Captures.{between, captured, passed, passed_options, IsLeast, LeadsOn, IsFirst, IsFirstOption, IsEnd, CapturesUnder, GlobRanges, byte_range}

-- ---- one derivation

one_least : (P : ℕ → Type 0) (m n : ℕ) → IsLeast P m → IsLeast P n → m ≡ n
one_least P m n h k = omega (arith, h.below_all n k.holds, k.below_all m h.holds)

mutual
  one_first : (whole : Pieces) (path : List ℕ) (Goes : ℕ → Type 0) (from a b : ℕ) (xs ys : List Capture) → IsFirst whole path Goes from a xs → IsFirst whole path Goes from b ys → (a ≡ b) × (xs ≡ ys)
  one_first no_pieces path Goes from a b xs ys h k = (h.0 ∙ sym k.0, h.1 ∙ sym k.1)
  one_first (piece p others) path Goes from a b xs ys h k =
      let same : h.0 ≡ k.0 = one_least _ h.0 k.0 h.2 k.2 in
      let rest = one_first others path Goes h.0 a b h.1 k.1 h.3 (subst (λ (n : ℕ). IsFirst others path Goes n b k.1) (sym same) k.3) in
      (rest.0, h.4 ∙ ap (λ (n : ℕ). captured p from n ++ h.1) same ∙ ap (λ (cs : List Capture). captured p from k.0 ++ cs) rest.1 ∙ sym k.4)
  one_first (brace all others) path Goes from a b xs ys h k =
      let inside = one_option all path (LeadsOn others path Goes) from h.0 k.0 h.1 k.1 h.3 k.3 in
      let rest = one_first others path Goes h.0 a b h.2 k.2 h.4 (subst (λ (n : ℕ). IsFirst others path Goes n b k.2) (sym inside.0) k.4) in (
        rest.0,
        h.5 ∙ ap (λ (n : ℕ). between from n ∷ (h.1 ++ h.2)) inside.0 ∙ ap (λ (cs : List Capture). between from k.0 ∷ (cs ++ h.2)) inside.1 ∙ ap (λ (cs : List Capture). between from k.0 ∷ (k.1 ++ cs)) rest.1 ∙ sym k.5,
      )

  one_option : (options : Options) (path : List ℕ) (Goes : ℕ → Type 0) (from a b : ℕ) (xs ys : List Capture) → IsFirstOption options path Goes from a xs → IsFirstOption options path Goes from b ys → (a ≡ b) × (xs ≡ ys)
  one_option no_options path Goes from a b xs ys h k = absurd h
  one_option (option first others) path Goes from a b xs ys (inl l) (inl m) =
      let inside = one_first first path Goes from a b l.1.0 m.1.0 l.1.1 m.1.1 in
      (inside.0, l.1.2 ∙ ap (λ (cs : List Capture). cs ++ passed_options others from) inside.1 ∙ sym m.1.2)
  one_option (option first others) path Goes from a b xs ys (inl l) (inr m) = absurd (m.0 l.0)
  one_option (option first others) path Goes from a b xs ys (inr l) (inl m) = absurd (l.0 m.0)
  one_option (option first others) path Goes from a b xs ys (inr l) (inr m) =
      let inside = one_option others path Goes from a b l.1.0 m.1.0 l.1.1 m.1.1 in
      (inside.0, l.1.2 ∙ ap (λ (cs : List Capture). passed first from ++ cs) inside.1 ∙ sym m.1.2)

one_under : (odd : Bool) (o : Option Pieces) (path : List ℕ) (xs ys : List Capture) → CapturesUnder odd o path xs → CapturesUnder odd o path ys → xs ≡ ys
one_under true o path xs ys h k = h ∙ sym k
one_under false None path xs ys h k = absurd h
one_under false (Some whole) path xs ys h k = (one_first whole path (IsEnd path) 0 (length path) (length path) xs ys h k).1

pub one_list : (glob path : List ℕ) (some others : List (Range ℕ)) → GlobRanges glob path some → GlobRanges glob path others → some ≡ others
one_list glob path some others h k = h.2 ∙ ap (map (byte_range path)) (one_under (is_odd (negations glob)) (pieces_of glob) path h.0 k.0 h.1 k.1) ∙ sym k.2

-- ---- as many captures

-- how many captures a piece has, whatever it takes
many_captured : (p : Piece) (a b c d : ℕ) → length (captured p a b) ≡ length (captured p c d)
many_captured (One (Character sign)) a b c d = refl
many_captured (One AnyCharacter) a b c d = refl
many_captured (One (Class negated ranges)) a b c d = refl
many_captured AnyRun a b c d = refl
many_captured AnyDepth a b c d = refl
many_captured AnyRest a b c d = refl

mutual
  many_passed : (whole : Pieces) (m n : ℕ) → length (passed whole m) ≡ length (passed whole n)
  many_passed no_pieces m n = refl
  many_passed (piece p others) m n = omega (arith, length-append (captured p m m) (passed others m), length-append (captured p n n) (passed others n), many_captured p m m n n, many_passed others m n)
  many_passed (brace all others) m n = omega (arith, length-append (passed_options all m) (passed others m), length-append (passed_options all n) (passed others n), many_options all m n, many_passed others m n)

  many_options : (options : Options) (m n : ℕ) → length (passed_options options m) ≡ length (passed_options options n)
  many_options no_options m n = refl
  many_options (option first others) m n = omega (arith, length-append (passed first m) (passed_options others m), length-append (passed first n) (passed_options others n), many_passed first m n, many_options others m n)

mutual
  -- as many as if none of it were taken
  many_first : (whole : Pieces) (path : List ℕ) (Goes : ℕ → Type 0) (from to : ℕ) (captures : List Capture) → IsFirst whole path Goes from to captures → length captures ≡ length (passed whole 0)
  many_first no_pieces path Goes from to captures h = ap length h.1
  many_first (piece p others) path Goes from to captures h =
      omega (arith, ap length h.4, length-append (captured p from h.0) h.1, length-append (captured p 0 0) (passed others 0), many_captured p from h.0 0 0, many_first others path Goes h.0 to h.1 h.3)
  many_first (brace all others) path Goes from to captures h =
      omega (arith, ap length h.5, length-append h.1 h.2, length-append (passed_options all 0) (passed others 0), many_option all path (LeadsOn others path Goes) from h.0 h.1 h.3, many_first others path Goes h.0 to h.2 h.4)

  many_option : (options : Options) (path : List ℕ) (Goes : ℕ → Type 0) (from to : ℕ) (captures : List Capture) → IsFirstOption options path Goes from to captures → length captures ≡ length (passed_options options 0)
  many_option no_options path Goes from to captures h = absurd h
  many_option (option first others) path Goes from to captures (inl l) =
      omega (arith, ap length l.1.2, length-append l.1.0 (passed_options others from), length-append (passed first 0) (passed_options others 0), many_first first path Goes from to l.1.0 l.1.1, many_options others from 0)
  many_option (option first others) path Goes from to captures (inr r) =
      omega (arith, ap length r.1.2, length-append (passed first from) r.1.0, length-append (passed first 0) (passed_options others 0), many_passed first from 0, many_option others path Goes from to r.1.0 r.1.1)

many_under : (odd : Bool) (o : Option Pieces) (path other : List ℕ) (xs ys : List Capture) → CapturesUnder odd o path xs → CapturesUnder odd o other ys → length xs ≡ length ys
many_under true o path other xs ys h k = ap length h ∙ sym (ap length k)
many_under false None path other xs ys h k = absurd h
many_under false (Some whole) path other xs ys h k = many_first whole path (IsEnd path) 0 (length path) xs h ∙ sym (many_first whole other (IsEnd other) 0 (length other) ys k)

pub as_many : (glob path other : List ℕ) (some others : List (Range ℕ)) → GlobRanges glob path some → GlobRanges glob other others → length some ≡ length others
as_many glob path other some others h k =
    ap length h.2 ∙ length-map h.0 (byte_range path) ∙ many_under (is_odd (negations glob)) (pieces_of glob) path other h.0 k.0 h.1 k.1 ∙ sym (ap length k.2 ∙ length-map k.0 (byte_range other))
