-- From where the rest of a glob goes on, one token more at a time from the glob's end.
use Rattle.std.proofs.Common.{◌≡◌, ◌↔◌, inl, inr, ℕ, zero, suc, ◌+◌, ◌<◌, Bool, List, [], ◌∷◌, ◌++◌, All, length, reverse, drop, get_or, Option, Some, None, IsSome, arith, refl, sym, subst, ap, ◌∙◌, add-one}
use Rattle.std.specs.Prelude.{option_map, option_and_then}
use Rattle.std.proofs.lemmas.List.{reverse-append}
use Rattle.std.proofs.lemmas.List.Elements.{All-nil}
use Rattle.glob_match.specs.declared.piece.Single.TheVariants.{Character}
use Rattle.glob_match.specs.declared.piece.Piece.{Piece}
use Rattle.glob_match.specs.declared.piece.Piece.TheVariants.{One}
use Rattle.glob_match.specs.declared.piece.Token.{Token}
use Rattle.glob_match.specs.declared.piece.Token.TheVariants as token
use Rattle.glob_match.specs.Pieces.{Pieces, Options}
use Rattle.glob_match.specs.Pieces.Pieces.{no_pieces}
use Rattle.glob_match.specs.Pieces.Options.{no_options, option}
use Rattle.glob_match.specs.Reading.{Rest, piece_before, brace_before, rest_of, all_outside, pieces_of_tokens}
use Rattle.glob_match.specs.Reading.Rest.{outside, inside}
use Rattle.glob_match.specs.Takes.{PieceTakes, OptionTakes}
use Rattle.glob_match.specs.Places.{Holds, IsUnion, IsNowhere, OpenBrace, IsOfPlaces}
use Rattle.glob_match.specs.Onward.{GoesOn, depth_after, IsOnwardFrom, AreOnward}
use Rattle.glob_match.specs.Backward.{IsStepBack, IsEndAlone, depths_from, IsKept, IsPieceBack, IsTokenStepBack}
use Rattle.glob_match.proofs.parse.ReadingLemmas.{drop_next}
use Rattle.glob_match.proofs.matching.MatchingLemmas.{AreOfPlaces, without_last, with_one_more, none_or_last, reverse_last, piece_is, piece_rest, open_is, opened_rest, parted_rest, closed_rest}

-- ---- a piece or a brace before what stands after it

-- a piece leads from this place to one from which the rest goes on
abbrev pub GoesOnByPiece : Piece → Rest → List ℕ → ℕ → Type 0
GoesOnByPiece p rest path from = (to : ℕ) × GoesOn rest path to × PieceTakes p path from to

-- one of the options leads from this place to one from which the rest goes on
abbrev pub GoesOnByOptions : Options → Rest → List ℕ → ℕ → Type 0
GoesOnByOptions all rest path from = (to : ℕ) × OptionTakes all path from to × GoesOn rest path to

goes_piece : (p : Piece) (rest : Rest) (path : List ℕ) (from : ℕ) → GoesOn (piece_before p rest) path from ↔ GoesOnByPiece p rest path from
goes_piece p (outside left) path from = ((λ h. (h.0, h.2, h.1)), (λ h. (h.0, h.2, h.1)))
goes_piece p (inside left others rest) path from = ((λ h. (h.1.0, (h.0, h.1.2, h.2), h.1.1)), (λ h. (h.1.0, (h.0, h.2, h.1.1), h.1.2)))

goes_brace : (all : Options) (rest : Rest) (path : List ℕ) (from : ℕ) → GoesOn (brace_before all rest) path from ↔ GoesOnByOptions all rest path from
goes_brace all (outside left) path from = ((λ h. h), (λ h. h))
goes_brace all (inside left others rest) path from = ((λ h. (h.1.0, h.1.1, (h.0, h.1.2, h.2))), (λ h. (h.2.0, (h.0, h.1, h.2.1), h.2.2)))

-- ---- the open braces, the innermost first

-- a brace that is open: each option goes on from its start into the rest, and what it has reached are the places from which an option after this one goes on
pub record IsBraceBefore (one : OpenBrace) (others : Options) (rest : Rest) (path : List ℕ) : Type 0 where
  pub start : (from : ℕ) → Holds one.start from ↔ GoesOn rest path from
  pub reached : (from : ℕ) → Holds one.reached from ↔ GoesOnByOptions others rest path from

-- the open braces are those that the rest stands in
abbrev pub AreBracesBefore : Rest → List ℕ → List OpenBrace → Type 0
AreBracesBefore (outside left) path stack = stack ≡ []
AreBracesBefore (inside left others rest) path [] = ⊥
AreBracesBefore (inside left others rest) path (one ∷ stack) = IsBraceBefore one others rest path × AreBracesBefore rest path stack

-- the pass stands before the rest
pub record IsBefore (rest : Rest) (path : List ℕ) (places : List Bool) (stack : List OpenBrace) : Type 0 where
  pub these : (from : ℕ) → Holds places from ↔ GoesOn rest path from
  pub braces : AreBracesBefore rest path stack

braces_piece : (p : Piece) (rest : Rest) (path : List ℕ) (stack : List OpenBrace) → AreBracesBefore rest path stack → AreBracesBefore (piece_before p rest) path stack
braces_piece p (outside left) path stack h = h
braces_piece p (inside left others rest) path [] h = h
braces_piece p (inside left others rest) path (one ∷ stack) h = h

braces_brace : (all : Options) (rest : Rest) (path : List ℕ) (stack : List OpenBrace) → AreBracesBefore rest path stack → AreBracesBefore (brace_before all rest) path stack
braces_brace all (outside left) path stack h = h
braces_brace all (inside left others rest) path [] h = h
braces_brace all (inside left others rest) path (one ∷ stack) h = h

before_piece : (p : Piece) (rest : Rest) (path : List ℕ) (stack : List OpenBrace) (places next : List Bool) → IsBefore rest path places stack → IsStepBack p path places next → IsBefore (piece_before p rest) path next stack
before_piece p rest path stack places next before step = record {
  these = λ from.
      let goes = goes_piece p rest path from in (
        (λ holds. let h = (step.these from).0 holds in goes.1 (h.0, (before.these h.0).0 h.1, h.2)),
        (λ g. let h = goes.0 g in (step.these from).1 (h.0, (before.these h.0).1 h.1, h.2)),
      );
  braces = braces_piece p rest path stack before.braces;
}

-- no piece of an option is left: it goes on into the rest
goes_none : (others : Options) (rest : Rest) (path : List ℕ) (from : ℕ) → GoesOn (inside no_pieces others rest) path from ↔ GoesOn rest path from
goes_none others rest path from = ((λ h. subst (λ (k : ℕ). GoesOn rest path k) h.1 h.2), (λ g. (from, refl, g)))

before_close : (rest : Rest) (path : List ℕ) (stack : List OpenBrace) (places reached : List Bool) → IsBefore rest path places stack → IsNowhere (length places) reached
    → IsBefore (inside no_pieces no_options rest) path places (record { start = places; reached = reached } ∷ stack)
before_close rest path stack places reached before nowhere = record {
  these = λ from. let goes = goes_none no_options rest path from in ((λ holds. goes.1 ((before.these from).0 holds)), (λ g. (before.these from).1 (goes.0 g)));
  braces = (record { start = before.these; reached = λ from. ((λ holds. absurd (nowhere.none from holds)), (λ g. absurd g.1)) }, before.braces);
}

before_comma : (left : Pieces) (others : Options) (rest : Rest) (path : List ℕ) (one : OpenBrace) (stack : List OpenBrace) (places reached : List Bool) → IsBefore (inside left others rest) path places (one ∷ stack)
    → IsUnion one.reached places reached → IsBefore (inside no_pieces (option left others) rest) path one.start (record { start = one.start; reached = reached } ∷ stack)
before_comma left others rest path one stack places reached before union =
    let inner = before.braces.0 in
    record {
      these = λ from. let goes = goes_none (option left others) rest path from in ((λ holds. goes.1 ((inner.start from).0 holds)), (λ g. (inner.start from).1 (goes.0 g)));
      braces = (
        record {
          start = inner.start;
          reached = λ from. (
            (λ holds. elim ((union.these from).0 holds) [
              | inl some ↦ let h = (inner.reached from).0 some in (h.0, inr h.1, h.2)
              | inr other ↦ let h = (before.these from).0 other in (h.0, inl h.1, h.2)
            ]),
            (λ g. (union.these from).1 (elim g.1 [
              | inl first ↦ inr ((before.these from).1 (g.0, first, g.2))
              | inr later ↦ inl ((inner.reached from).1 (g.0, later, g.2))
            ])),
          );
        },
        before.braces.1,
      );
    }

before_open : (left : Pieces) (others : Options) (rest : Rest) (path : List ℕ) (one : OpenBrace) (stack : List OpenBrace) (places next : List Bool) → IsBefore (inside left others rest) path places (one ∷ stack)
    → IsUnion places one.reached next → IsBefore (brace_before (option left others) rest) path next stack
before_open left others rest path one stack places next before union =
    let inner = before.braces.0 in
    record {
      these = λ from.
          let goes = goes_brace (option left others) rest path from in (
            (λ holds. goes.1 (elim ((union.these from).0 holds) [
              | inl some ↦ let h = (before.these from).0 some in (h.0, inl h.1, h.2)
              | inr other ↦ let h = (inner.reached from).0 other in (h.0, inr h.1, h.2)
            ])),
            (λ g. let h = goes.0 g in (union.these from).1 (elim h.1 [
              | inl first ↦ inl ((before.these from).1 (h.0, first, h.2))
              | inr later ↦ inr ((inner.reached from).1 (h.0, later, h.2))
            ])),
          );
      braces = braces_brace (option left others) rest path stack before.braces.1;
    }

-- ---- one token, with the open braces as the code has them, the innermost last

-- where the tokens left, within so many open braces, are the rest of a glob, the pass stands before it
abbrev pub StandsBefore : ℕ → List Token → List ℕ → List OpenBrace → List Bool → Type 0
StandsBefore depth left path braces places = (rest : Rest) → rest_of depth left ≡ Some rest → IsBefore rest path places (reverse braces)

-- with one token more: it stands before the rest, and the tokens after this one are the rest of a glob too
abbrev pub StandsOneBefore : ℕ → Token → List Token → List ℕ → List OpenBrace → List Bool → Rest → Type 0
StandsOneBefore depth t left path braces places rest = (next : Rest) × (rest_of (depth_after depth t) left ≡ Some next) × IsBefore rest path places (reverse braces)

-- a piece, or a sign outside braces
piece_back : (p : Piece) (depth : ℕ) (left : List Token) (path : List ℕ) (braces after : List OpenBrace) (places next : List Bool) (rest : Rest) → StandsBefore depth left path braces places → IsPieceBack p path braces places after next
    → option_map (piece_before p) (rest_of depth left) ≡ Some rest → (r : Rest) × (rest_of depth left ≡ Some r) × IsBefore rest path next (reverse after)
piece_back p depth left path braces after places next rest before step is =
    let split = piece_rest p (rest_of depth left) rest is in
    let moved = before_piece p split.0 path (reverse braces) places next (before split.0 split.1) step.1 in
    let here : IsBefore rest path next (reverse braces) = subst (λ (r : Rest). IsBefore r path next (reverse braces)) (sym split.2) moved in
    (split.0, split.1, subst (λ (bs : List OpenBrace). IsBefore rest path next (reverse bs)) (sym step.0) here)

-- inside a brace one is open
one_open : (left : Pieces) (others : Options) (rest : Rest) (path : List ℕ) (braces : List OpenBrace) (places : List Bool) → IsBefore (inside left others rest) path places (reverse braces)
    → (outer : List OpenBrace) × (one : OpenBrace) × (braces ≡ outer ++ one ∷ []) × IsBefore (inside left others rest) path places (one ∷ reverse outer)
one_open left others rest path braces places before = elim (none_or_last braces) [
  | inl none ↦ absurd (subst (λ (bs : List OpenBrace). IsBefore (inside left others rest) path places (reverse bs)) none before).braces
  | inr some ↦
      let here = subst (λ (bs : List OpenBrace). IsBefore (inside left others rest) path places (reverse bs)) some.2 before in
      (some.0, some.1, some.2, subst (λ (bs : List OpenBrace). IsBefore (inside left others rest) path places bs) (reverse_last some.0 some.1) here)
]

-- with an innermost brace
with_inner : (rest : Rest) (path : List ℕ) (after outer : List OpenBrace) (one : OpenBrace) (places : List Bool) → after ≡ outer ++ one ∷ [] → IsBefore rest path places (one ∷ reverse outer) → IsBefore rest path places (reverse after)
with_inner rest path after outer one places is before =
    let here : IsBefore rest path places (reverse (outer ++ one ∷ [])) = subst (λ (bs : List OpenBrace). IsBefore rest path places bs) (sym (reverse_last outer one)) before in
    subst (λ (bs : List OpenBrace). IsBefore rest path places (reverse bs)) (sym is) here

-- one more token
token_back : (depth : ℕ) (t : Token) (left : List Token) (path : List ℕ) (braces after : List OpenBrace) (places next : List Bool) (rest : Rest) → StandsBefore (depth_after depth t) left path braces places
    → IsTokenStepBack depth t path braces places after next → rest_of depth (t ∷ left) ≡ Some rest → StandsOneBefore depth t left path after next rest
token_back depth (token.Piece p) left path braces after places next rest before step is = piece_back p depth left path braces after places next rest before step (sym (piece_is depth p left) ∙ is)
token_back depth token.Open left path braces after places next rest before step is =
    let split = opened_rest (rest_of (suc depth) left) rest (open_is depth left rest is) in
    let one = one_open split.0 split.1 split.2 path braces places (before (inside split.0 split.1 split.2) split.3) in
    let closing = step.1 one.0 one.1 one.2 in
    let moved = before_open split.0 split.1 split.2 path one.1 (reverse one.0) places next one.3 closing.1 in
    let here : IsBefore rest path next (reverse one.0) = subst (λ (r : Rest). IsBefore r path next (reverse one.0)) (sym split.4) moved in
    (inside split.0 split.1 split.2, split.3, subst (λ (bs : List OpenBrace). IsBefore rest path next (reverse bs)) (sym closing.0) here)
token_back zero token.Comma left path braces after places next rest before step is = piece_back (One (Character 44)) zero left path braces after places next rest before step is
token_back (suc depth) token.Comma left path braces after places next rest before step is =
    let split = parted_rest (rest_of (suc depth) left) rest is in
    let one = one_open split.0 split.1 split.2 path braces places (before (inside split.0 split.1 split.2) split.3) in
    let parting = step.1 one.0 one.1 one.2 in
    let inner : OpenBrace = record { start = one.1.start; reached = parting.0 } in
    let moved = before_comma split.0 split.1 split.2 path one.1 (reverse one.0) places parting.0 one.3 parting.1 in
    let here : IsBefore rest path one.1.start (inner ∷ reverse one.0) = subst (λ (r : Rest). IsBefore r path one.1.start (inner ∷ reverse one.0)) (sym split.4) moved in
    let there : IsBefore rest path next (inner ∷ reverse one.0) = subst (λ (ps : List Bool). IsBefore rest path ps (inner ∷ reverse one.0)) (sym parting.3) here in
    (inside split.0 split.1 split.2, split.3, with_inner rest path after one.0 inner next parting.2 there)
token_back zero token.Close left path braces after places next rest before step is = piece_back (One (Character 125)) zero left path braces after places next rest before step is
token_back (suc depth) token.Close left path braces after places next rest before step is =
    let split = closed_rest (rest_of depth left) rest is in
    let opening = step.0 in
    let inner : OpenBrace = record { start = places; reached = opening.0 } in
    let moved = before_close split.0 path (reverse braces) places opening.0 (before split.0 split.1) opening.1 in
    let here : IsBefore rest path places (inner ∷ reverse braces) = subst (λ (r : Rest). IsBefore r path places (inner ∷ reverse braces)) (sym split.2) moved in
    let there : IsBefore rest path next (inner ∷ reverse braces) = subst (λ (ps : List Bool). IsBefore rest path ps (inner ∷ reverse braces)) (sym step.1) here in
    (split.0, split.1, with_inner rest path after braces inner next opening.2 there)

-- ---- how many places the sets have

sized_piece : (p : Piece) (path : List ℕ) (braces after : List OpenBrace) (places next : List Bool) → AreOfPlaces (length path + 1) braces places → IsPieceBack p path braces places after next → AreOfPlaces (length path + 1) after next
sized_piece p path braces after places next sized step = (subst (λ (bs : List OpenBrace). All (IsOfPlaces (length path + 1)) bs) (sym step.0) sized.0, step.1.as_long)

sized_kept : (path : List ℕ) (braces after : List OpenBrace) (places next : List Bool) → AreOfPlaces (length path + 1) braces places → IsKept braces places after next → braces ≡ [] → AreOfPlaces (length path + 1) after next
sized_kept path braces after places next sized kept none =
    let same = kept none in
    (subst (λ (bs : List OpenBrace). All (IsOfPlaces (length path + 1)) bs) (sym same.0) (All-nil (IsOfPlaces (length path + 1))), ap length same.1 ∙ sized.1)

sized_back : (depth : ℕ) (t : Token) (path : List ℕ) (braces after : List OpenBrace) (places next : List Bool) → AreOfPlaces (length path + 1) braces places → IsTokenStepBack depth t path braces places after next → AreOfPlaces (length path + 1) after next
sized_back depth (token.Piece p) path braces after places next sized step = sized_piece p path braces after places next sized step
sized_back depth token.Open path braces after places next sized step = elim (none_or_last braces) [
  | inl none ↦ sized_kept path braces after places next sized step.0 none
  | inr some ↦
      let closing = step.1 some.0 some.1 some.2 in
      let before = without_last (length path + 1) braces some.0 some.1 some.2 sized.0 in
      (subst (λ (bs : List OpenBrace). All (IsOfPlaces (length path + 1)) bs) (sym closing.0) before.0, closing.1.as_long ∙ sized.1)
]
sized_back zero token.Comma path braces after places next sized step = sized_piece (One (Character 44)) path braces after places next sized step
sized_back (suc depth) token.Comma path braces after places next sized step = elim (none_or_last braces) [
  | inl none ↦ sized_kept path braces after places next sized step.0 none
  | inr some ↦
      let parting = step.1 some.0 some.1 some.2 in
      let before = without_last (length path + 1) braces some.0 some.1 some.2 sized.0 in
      (with_one_more (length path + 1) after some.0 (record { start = some.1.start; reached = parting.0 }) parting.2 before.0 (before.1.0, parting.1.as_long ∙ before.1.1), ap length parting.3 ∙ before.1.0)
]
sized_back zero token.Close path braces after places next sized step = sized_piece (One (Character 125)) path braces after places next sized step
sized_back (suc depth) token.Close path braces after places next sized step =
    (with_one_more (length path + 1) after braces (record { start = places; reached = step.0.0 }) step.0.2 sized.0 (sized.1, step.0.1.as_long ∙ sized.1), ap length step.1 ∙ sized.1)

-- ---- the loop over the tokens

-- so far: the pass stands before the tokens left, and has the sets from there on
pub record OnwardSoFar (depth : ℕ) (left : List Token) (path : List ℕ) (braces : List OpenBrace) (places : List Bool) (sets : List (List Bool)) : Type 0 where
  pub sized : AreOfPlaces (length path + 1) braces places
  pub before : StandsBefore depth left path braces places
  pub listed : (rest : Rest) → rest_of depth left ≡ Some rest → AreOnward depth left path (reverse sets)

-- the set where the pass stands
set_here : (depth : ℕ) (left : List Token) (path : List ℕ) (places : List Bool) (stack : List OpenBrace) (rest : Rest) → rest_of depth left ≡ Some rest → length places ≡ length path + 1 → IsBefore rest path places stack → IsOnwardFrom depth left path places
set_here depth left path places stack rest is long before = (rest, is, record { as_long = long; these = before.these })

pub onward_none : (depth : ℕ) (path : List ℕ) (places : List Bool) (n : ℕ) → n ≡ length path → IsEndAlone n places → OnwardSoFar depth [] path [] places (places ∷ [])
onward_none depth path places n all end = record {
  sized = (All-nil (IsOfPlaces (length path + 1)), long);
  before = stands depth;
  listed = λ rest is. (set_here depth [] path places [] rest is long (stands depth rest is), refl);
}
  where
    long : length places ≡ length path + 1
    long = end.as_long ∙ ap (λ (k : ℕ). k + 1) all

    stands : (d : ℕ) → StandsBefore d [] path [] places
    stands (suc d) rest is = absurd (cc)
    stands zero rest is =
        let same : outside no_pieces ≡ rest = cc in
        subst (λ (r : Rest). IsBefore r path places []) same (record {
          these = λ from. ((λ holds. sym all ∙ sym ((end.these from).0 holds)), (λ t. (end.these from).1 (sym t ∙ sym all)));
          braces = refl;
        })

pub onward_more : (depth : ℕ) (t : Token) (left : List Token) (path : List ℕ) (braces after : List OpenBrace) (places next : List Bool) (sets grown : List (List Bool)) → OnwardSoFar (depth_after depth t) left path braces places sets
    → IsTokenStepBack depth t path braces places after next → grown ≡ sets ++ next ∷ [] → OnwardSoFar depth (t ∷ left) path after next grown
onward_more depth t left path braces after places next sets grown so_far step is_grown =
    let sized = sized_back depth t path braces after places next so_far.sized step in
    record {
      sized = sized;
      before = λ rest is. (token_back depth t left path braces after places next rest so_far.before step is).2;
      listed = λ rest is.
          let back = token_back depth t left path braces after places next rest so_far.before step is in
          let here : AreOnward depth (t ∷ left) path (next ∷ reverse sets) = (set_here depth (t ∷ left) path next (reverse after) rest is sized.1 back.2, so_far.listed back.0 back.1) in
          let there : AreOnward depth (t ∷ left) path (reverse (sets ++ next ∷ [])) = subst (λ (all : List (List Bool)). AreOnward depth (t ∷ left) path all) (sym (reverse-append sets (next ∷ []))) here in
          subst (λ (all : List (List Bool)). AreOnward depth (t ∷ left) path (reverse all)) (sym is_grown) there;
    }

some_rest : (o : Option Rest) → IsSome (option_and_then all_outside o) → (rest : Rest) × (o ≡ Some rest)
some_rest None some = absurd (cc)
some_rest (Some rest) some = (rest, refl)

pub onward_all : (tokens : List Token) (path : List ℕ) (braces : List OpenBrace) (places : List Bool) (sets : List (List Bool)) → OnwardSoFar 0 tokens path braces places sets → IsSome (pieces_of_tokens (Some tokens)) → AreOnward 0 tokens path (reverse sets)
onward_all tokens path braces places sets so_far valid = let rest = some_rest (rest_of 0 tokens) valid in so_far.listed rest.0 rest.1

-- ---- how many braces are open

-- how many braces are open before the token at this place
abbrev pub depth_at : ℕ → List Token → ℕ → ℕ
depth_at depth tokens zero = depth
depth_at depth [] (suc k) = depth
depth_at depth (t ∷ tokens) (suc k) = depth_at (depth_after depth t) tokens k

-- the depth after a token
depth_at_next : (depth : ℕ) (tokens : List Token) (k : ℕ) (t d : Token) → k < length tokens → t ≡ get_or tokens k d → depth_at depth tokens (suc k) ≡ depth_after (depth_at depth tokens k) t
depth_at_next depth [] k t d lt is = absurd (omega arith)
depth_at_next depth (x ∷ tokens) zero t d lt is = ap (depth_after depth) (sym is)
depth_at_next depth (x ∷ tokens) (suc k) t d lt is = depth_at_next (depth_after depth x) tokens k t d (omega arith) is

pub depths_long : (depth : ℕ) (tokens : List Token) → length (depths_from depth tokens) ≡ length tokens
depths_long depth [] = refl
depths_long depth (t ∷ tokens) = ap suc (depths_long (depth_after depth t) tokens)

depths_at : (depth : ℕ) (tokens : List Token) (k d : ℕ) → k < length tokens → get_or (depths_from depth tokens) k d ≡ depth_at depth tokens k
depths_at depth [] k d lt = absurd (omega arith)
depths_at depth (t ∷ tokens) zero d lt = refl
depths_at depth (t ∷ tokens) (suc k) d lt = depths_at (depth_after depth t) tokens k d (omega arith)

-- one turn of the loop: from after the token at j to before it
pub onward_next : (tokens : List Token) (k j depth e : ℕ) (t d : Token) (path : List ℕ) (braces after : List OpenBrace) (places next : List Bool) (sets grown : List (List Bool)) → OnwardSoFar (depth_at 0 tokens k) (drop k tokens) path braces places sets
    → k ≡ suc j → j < length tokens → t ≡ get_or tokens j d → depth ≡ get_or (depths_from 0 tokens) j e → IsTokenStepBack depth t path braces places after next → grown ≡ sets ++ next ∷ []
    → OnwardSoFar (depth_at 0 tokens j) (drop j tokens) path after next grown
onward_next tokens k j depth e t d path braces after places next sets grown so_far is_next lt is deep step is_grown =
    let here : depth ≡ depth_at 0 tokens j = deep ∙ depths_at 0 tokens j e lt in
    let at_next : OnwardSoFar (depth_at 0 tokens (suc j)) (drop (suc j) tokens) path braces places sets = subst (λ (i : ℕ). OnwardSoFar (depth_at 0 tokens i) (drop i tokens) path braces places sets) is_next so_far in
    let before : OnwardSoFar (depth_after (depth_at 0 tokens j) t) (drop (suc j) tokens) path braces places sets =
    subst (λ (n : ℕ). OnwardSoFar n (drop (suc j) tokens) path braces places sets) (depth_at_next 0 tokens j t d lt is) at_next
    in
    let step_here : IsTokenStepBack (depth_at 0 tokens j) t path braces places after next = subst (λ (n : ℕ). IsTokenStepBack n t path braces places after next) here step in
    let moved = onward_more (depth_at 0 tokens j) t (drop (suc j) tokens) path braces after places next sets grown before step_here is_grown in
    let first : drop j tokens ≡ t ∷ drop (suc j) tokens = drop_next tokens j t d lt is ∙ rw add-one refl in
    subst (λ (left : List Token). OnwardSoFar (depth_at 0 tokens j) left path after next grown) (sym first) moved
