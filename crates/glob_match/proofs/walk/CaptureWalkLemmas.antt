-- The walk over a glob's tokens: the captures end up as those of the first derivation.
use Rattle.std.proofs.Common.{◌≡◌, ◌≢◌, inl, inr, ℕ, suc, ◌<◌, ◌≤◌, Bool, List, [], ◌∷◌, ◌++◌, All, length, reverse, set, Option, Some, None, refl, sym, ap, subst, ◌∙◌, arith, length-append, length-set}
use Rattle.std.specs.Prelude.{option_map, option_and_then}
use Rattle.std.proofs.lemmas.List.{append-nil}
use Rattle.std.proofs.lemmas.List.Elements.{All-append, All-cons, All-nil, All-pop}
use Rattle.glob_match.specs.declared.piece.Single.TheVariants.{Character}
use Rattle.glob_match.specs.declared.piece.Piece.{Piece}
use Rattle.glob_match.specs.declared.piece.Piece.TheVariants.{One}
use Rattle.glob_match.specs.declared.piece.Token.{Token}
use Rattle.glob_match.specs.declared.piece.Token.TheVariants as token
use Rattle.glob_match.specs.declared.walk.Capture.{Capture}
use Rattle.glob_match.specs.declared.walk.State.{State}
use Rattle.glob_match.specs.declared.walk.State.TheVariants.{Looking, Taking, Passing}
use Rattle.glob_match.specs.declared.walk.Choice.{Choice}
use Rattle.glob_match.specs.Pieces.{Pieces, Options}
use Rattle.glob_match.specs.Pieces.Pieces.{no_pieces, piece, brace}
use Rattle.glob_match.specs.Pieces.Options.{no_options, option}
use Rattle.glob_match.specs.Reading.{Rest, piece_before, brace_before, rest_of, all_outside, pieces_of_tokens}
use Rattle.glob_match.specs.Reading.Rest.{outside, inside}
use Rattle.glob_match.specs.Takes.{PieceTakes, Takes, OptionTakes}
use Rattle.glob_match.specs.Places.{Holds}
use Rattle.glob_match.specs.Onward.{GoesOn, IsOnward, IsOnwardFrom, depth_after}
use Rattle.glob_match.specs.Captures.{between, captured, LeadsOn, IsEnd, IsFirst, Captures}
use Rattle.glob_match.specs.Walk.{Stand, turned, Moves, PassesAt, IsNearest, moved, passed_over, IsPieceStep, entered, IsLooked, IsOpenStep, IsParting, closing, IsWalkStep, HasCapture, AreAfter}
use Rattle.glob_match.proofs.matching.MatchingLemmas.{piece_rest, opened_rest, parted_rest, closed_rest, piece_is, open_is, none_or_last, length_last, reverse_last}
use Rattle.glob_match.proofs.walk.CapturesLemmas.{least_same, Finishes, MovesIn, PassesIn, finish_moved, finish_passed, open_taking, open_looking, open_passing, part_taking, part_looked, part_looking, part_passing, close_taking, close_passing}

-- ---- from where the walk stands, one may go on to the path's end

-- each open brace is in the option that is taken
abbrev pub Along : Rest → List Choice → Type 0
Along (outside left) [] = Unit {0}
Along (outside left) (choice ∷ choices) = ⊥
Along (inside left others rest) [] = ⊥
Along (inside left others rest) (choice ∷ choices) = (choice.state ≡ Taking) × Along rest choices

-- what an open brace of this state promises
abbrev pub Promises : State → ℕ → Pieces → Options → List ℕ → Type 0 → (ℕ → Type 0) → (ℕ → Type 0) → ℕ → Type 0
Promises Taking start left others path Outer Goes Then place = Outer × LeadsOn left path Goes place
Promises Looking start left others path Outer Goes Then place = Outer × ((to : ℕ) × OptionTakes others path start to × Goes to)
Promises Passing start left others path Outer Goes Then place = Then place

abbrev pub MayEnd : Rest → List Choice → List ℕ → ℕ → Type 0
MayEnd (outside left) [] path place = GoesOn (outside left) path place
MayEnd (outside left) (choice ∷ choices) path place = ⊥
MayEnd (inside left others rest) [] path place = ⊥
MayEnd (inside left others rest) (choice ∷ choices) path place = Promises choice.state choice.start left others path (Along rest choices) (GoesOn rest path) (MayEnd rest choices path) place

promises_taking : (state : State) (start : ℕ) (left : Pieces) (others : Options) (path : List ℕ) (Outer : Type 0) (Goes Then : ℕ → Type 0) (place : ℕ) → state ≡ Taking → Outer × LeadsOn left path Goes place → Promises state start left others path Outer Goes Then place
promises_taking Taking start left others path Outer Goes Then place e h = h
promises_taking Looking start left others path Outer Goes Then place e h = absurd (cc)
promises_taking Passing start left others path Outer Goes Then place e h = absurd (cc)

taking_promises : (state : State) (start : ℕ) (left : Pieces) (others : Options) (path : List ℕ) (Outer : Type 0) (Goes Then : ℕ → Type 0) (place : ℕ) → state ≡ Taking → Promises state start left others path Outer Goes Then place → Outer × LeadsOn left path Goes place
taking_promises Taking start left others path Outer Goes Then place e h = h
taking_promises Looking start left others path Outer Goes Then place e h = absurd (cc)
taking_promises Passing start left others path Outer Goes Then place e h = absurd (cc)

-- in an option that isn't taken, what is left of it changes nothing
still_promises : (state : State) (start : ℕ) (left after : Pieces) (others : Options) (path : List ℕ) (Outer : Type 0) (Goes Then : ℕ → Type 0) (place : ℕ) → state ≢ Taking → Promises state start left others path Outer Goes Then place
    → Promises state start after others path Outer Goes Then place
still_promises Taking start left after others path Outer Goes Then place e h = absurd (e refl)
still_promises Looking start left after others path Outer Goes Then place e h = h
still_promises Passing start left after others path Outer Goes Then place e h = h

along_ends : (rest : Rest) (stack : List Choice) (path : List ℕ) (place : ℕ) → Along rest stack → GoesOn rest path place → MayEnd rest stack path place
along_ends (outside left) [] path place along goes = goes
along_ends (outside left) (choice ∷ choices) path place along goes = absurd along
along_ends (inside left others rest) [] path place along goes = absurd along
along_ends (inside left others rest) (choice ∷ choices) path place along goes =
    promises_taking choice.state choice.start left others path (Along rest choices) (GoesOn rest path) (MayEnd rest choices path) place along.0 (along.1, goes)

moves_along : (rest : Rest) (stack : List Choice) (path : List ℕ) (place : ℕ) → MovesIn stack → MayEnd rest stack path place → Along rest stack × GoesOn rest path place
moves_along (outside left) [] path place moves may = (tt, may)
moves_along (outside left) (choice ∷ choices) path place moves may = absurd may
moves_along (inside left others rest) [] path place moves may = absurd may
moves_along (inside left others rest) (choice ∷ choices) path place moves may =
    let both = taking_promises choice.state choice.start left others path (Along rest choices) (GoesOn rest path) (MayEnd rest choices path) place moves may in
    ((moves, both.0), both.1)

along_piece : (p : Piece) (rest : Rest) (stack : List Choice) → Along (piece_before p rest) stack → Along rest stack
along_piece p (outside left) [] along = along
along_piece p (outside left) (choice ∷ choices) along = along
along_piece p (inside left others rest) [] along = along
along_piece p (inside left others rest) (choice ∷ choices) along = along

along_brace : (all : Options) (rest : Rest) (stack : List Choice) → Along (brace_before all rest) stack → Along rest stack
along_brace all (outside left) [] along = along
along_brace all (outside left) (choice ∷ choices) along = along
along_brace all (inside left others rest) [] along = along
along_brace all (inside left others rest) (choice ∷ choices) along = along

piece_goes : (p : Piece) (rest : Rest) (path : List ℕ) (place : ℕ) → GoesOn (piece_before p rest) path place → (to : ℕ) × PieceTakes p path place to × GoesOn rest path to
piece_goes p (outside left) path place h = h
piece_goes p (inside left others rest) path place h = (h.1.0, h.1.1, (h.0, h.1.2, h.2))

brace_goes : (all : Options) (rest : Rest) (path : List ℕ) (place : ℕ) → GoesOn (brace_before all rest) path place → (to : ℕ) × OptionTakes all path place to × GoesOn rest path to
brace_goes all (outside left) path place h = h
brace_goes all (inside left others rest) path place h = (h.1.0, h.1.1, (h.0, h.1.2, h.2))

piece_still : (p : Piece) (rest : Rest) (stack : List Choice) (path : List ℕ) (place start : ℕ) → PassesIn stack start → MayEnd (piece_before p rest) stack path place → MayEnd rest stack path place
piece_still p (outside left) [] path place start passes may = absurd passes
piece_still p (outside left) (choice ∷ choices) path place start passes may = may
piece_still p (inside left others rest) [] path place start passes may = may
piece_still p (inside left others rest) (choice ∷ choices) path place start passes may =
    still_promises choice.state choice.start (piece p left) left others path (Along rest choices) (GoesOn rest path) (MayEnd rest choices path) place passes.0 may

brace_still : (all : Options) (rest : Rest) (stack : List Choice) (path : List ℕ) (place start : ℕ) → PassesIn stack start → MayEnd (brace_before all rest) stack path place → MayEnd rest stack path place
brace_still all (outside left) [] path place start passes may = absurd passes
brace_still all (outside left) (choice ∷ choices) path place start passes may = may
brace_still all (inside left others rest) [] path place start passes may = may
brace_still all (inside left others rest) (choice ∷ choices) path place start passes may =
    still_promises choice.state choice.start (brace all left) left others path (Along rest choices) (GoesOn rest path) (MayEnd rest choices path) place passes.0 may

-- ---- one step, with the open braces the innermost first

-- the walk may end, and where the captures end up as some, these are what the pieces capture
pub record IsRight (rest : Rest) (stack : List Choice) (path : List ℕ) (whole : Pieces) (place : ℕ) (captures : List Capture) : Type 0 where
  pub may_end : MayEnd rest stack path place
  pub finishes : (final : List Capture) → Finishes rest stack path final place captures → Captures whole path final

right_moved : (p : Piece) (rest : Rest) (stack : List Choice) (path : List ℕ) (whole : Pieces) (place to : ℕ) (captures : List Capture) (next : List Bool) → MovesIn stack → IsOnward rest path next → IsNearest p path next place to
    → IsRight (piece_before p rest) stack path whole place captures → IsRight rest stack path whole to (captures ++ captured p place to)
right_moved p rest stack path whole place to captures next moves onward near right =
    let both = moves_along (piece_before p rest) stack path place moves right.may_end in
    let some = piece_goes p rest path place both.1 in
    let least = least_same (λ n. PieceTakes p path place n × Holds next n) (λ n. PieceTakes p path place n × GoesOn rest path n) to (λ n. ((λ h. (h.0, (onward.these n).0 h.1)), (λ h. (h.0, (onward.these n).1 h.1)))) (near some.0 (some.1, (onward.these some.0).1 some.2)) in
    record {
      may_end = along_ends rest stack path to (along_piece p rest stack both.0) least.holds.1;
      finishes = λ final h. right.finishes final (finish_moved p rest stack path final place to captures moves least h);
    }

right_passed : (p : Piece) (rest : Rest) (stack : List Choice) (path : List ℕ) (whole : Pieces) (place start : ℕ) (captures : List Capture) → PassesIn stack start
    → IsRight (piece_before p rest) stack path whole place captures → IsRight rest stack path whole place (captures ++ captured p start start)
right_passed p rest stack path whole place start captures passes right = record {
  may_end = piece_still p rest stack path place start passes right.may_end;
  finishes = λ final h. right.finishes final (finish_passed p rest stack path final place start captures passes h);
}

right_opened : (left : Pieces) (others : Options) (rest : Rest) (stack : List Choice) (path : List ℕ) (whole : Pieces) (place : ℕ) (captures : List Capture) (next : List Bool) (state : State) → MovesIn stack → IsOnward (inside left others rest) path next
    → IsLooked next place state → IsRight (brace_before (option left others) rest) stack path whole place captures
    → IsRight (inside left others rest) (record { capture = length captures; start = place; state = state } ∷ stack) path whole place (captures ++ between place place ∷ [])
right_opened left others rest stack path whole place captures next Passing moves onward looked right = elim looked [ inl l ↦ absurd (let e = l.1 in cc) | inr r ↦ absurd (let e = r.1 in cc) ]
right_opened left others rest stack path whole place captures next Taking moves onward looked right = elim looked [
  | inl l ↦
      let both = moves_along (brace_before (option left others) rest) stack path place moves right.may_end in
      let goes = (onward.these place).0 l.0 in
      record {
        may_end = (along_brace (option left others) rest stack both.0, goes);
        finishes = λ final h. right.finishes final (open_taking left others rest stack path final place captures moves goes h);
      }
  | inr r ↦ absurd (let e = r.1 in cc)
]
right_opened left others rest stack path whole place captures next Looking moves onward looked right = elim looked [
  | inl l ↦ absurd (let e = l.1 in cc)
  | inr r ↦
      let both = moves_along (brace_before (option left others) rest) stack path place moves right.may_end in
      let stops : ¬ (GoesOn (inside left others rest) path place) = λ goes. r.0 ((onward.these place).1 goes) in
      let some = brace_goes (option left others) rest path place both.1 in
      record {
        may_end = (along_brace (option left others) rest stack both.0, elim some.1 [ inl first ↦ absurd (stops (some.0, first, some.2)) | inr other ↦ (some.0, other, some.2) ]);
        finishes = λ final h. right.finishes final (open_looking left others rest stack path final place captures moves stops h);
      }
]

right_entered : (left : Pieces) (others : Options) (rest : Rest) (stack : List Choice) (path : List ℕ) (whole : Pieces) (place start : ℕ) (captures : List Capture) → PassesIn stack start → IsRight (brace_before (option left others) rest) stack path whole place captures
    → IsRight (inside left others rest) (record { capture = length captures; start = start; state = Passing } ∷ stack) path whole place (captures ++ between start start ∷ [])
right_entered left others rest stack path whole place start captures passes right = record {
  may_end = brace_still (option left others) rest stack path place start passes right.may_end;
  finishes = λ final h. right.finishes final (open_passing left others rest stack path final place start captures passes h);
}

-- an open brace of this state, at its first place and its capture's number
abbrev pub choice_of : ℕ → ℕ → State → Choice
choice_of at start state = record { capture = at; start = start; state = state }

-- the option that was taken has ended
right_ended : (at start : ℕ) (left : Pieces) (others : Options) (rest : Rest) (stack : List Choice) (path : List ℕ) (whole : Pieces) (place : ℕ) (captures : List Capture) → at < length captures
    → IsRight (inside no_pieces (option left others) rest) (choice_of at start Taking ∷ stack) path whole place captures → IsRight (inside left others rest) (choice_of at start Passing ∷ stack) path whole place (set captures at (between start place))
right_ended at start left others rest stack path whole place captures within right =
    let goes = subst (λ (n : ℕ). GoesOn rest path n) right.may_end.1.1 right.may_end.1.2 in
    record {
      may_end = along_ends rest stack path place right.may_end.0 goes;
      finishes = λ final h. right.finishes final (part_taking at start left others path (GoesOn rest path) (Finishes rest stack path final) place captures within h);
    }

-- the next option is looked at
right_looked : (at start : ℕ) (left : Pieces) (others : Options) (rest : Rest) (stack : List Choice) (path : List ℕ) (whole : Pieces) (place : ℕ) (captures : List Capture) (next : List Bool) (state : State) → IsOnward (inside left others rest) path next
    → IsLooked next start state → IsRight (inside no_pieces (option left others) rest) (choice_of at start Looking ∷ stack) path whole place captures
    → IsRight (inside left others rest) (choice_of at start state ∷ stack) path whole start captures
right_looked at start left others rest stack path whole place captures next Passing onward looked right = elim looked [ inl l ↦ absurd (let e = l.1 in cc) | inr r ↦ absurd (let e = r.1 in cc) ]
right_looked at start left others rest stack path whole place captures next Taking onward looked right = elim looked [
  | inl l ↦
      let goes = (onward.these start).0 l.0 in
      record {
        may_end = (right.may_end.0, goes);
        finishes = λ final h. right.finishes final (part_looked at start left others path (GoesOn rest path) (Finishes rest stack path final) place captures goes h);
      }
  | inr r ↦ absurd (let e = r.1 in cc)
]
right_looked at start left others rest stack path whole place captures next Looking onward looked right = elim looked [
  | inl l ↦ absurd (let e = l.1 in cc)
  | inr r ↦
      let stops : ¬ (LeadsOn left path (GoesOn rest path) start) = λ goes. r.0 ((onward.these start).1 goes) in
      let some = right.may_end.1 in
      record {
        may_end = (right.may_end.0, elim some.1 [ inl first ↦ absurd (stops (some.0, first, some.2)) | inr other ↦ (some.0, other, some.2) ]);
        finishes = λ final h. right.finishes final (part_looking at start left others path (GoesOn rest path) (Finishes rest stack path final) place start captures stops h);
      }
]

-- the next option is passed
right_still : (at start : ℕ) (left : Pieces) (others : Options) (rest : Rest) (stack : List Choice) (path : List ℕ) (whole : Pieces) (place : ℕ) (captures : List Capture)
    → IsRight (inside no_pieces (option left others) rest) (choice_of at start Passing ∷ stack) path whole place captures → IsRight (inside left others rest) (choice_of at start Passing ∷ stack) path whole place captures
right_still at start left others rest stack path whole place captures right = record {
  may_end = right.may_end;
  finishes = λ final h. right.finishes final (part_passing at start left others path (GoesOn rest path) (Finishes rest stack path final) place captures h);
}

-- a brace is closed
right_closed : (at start : ℕ) (state : State) (rest : Rest) (stack outer : List Choice) (path : List ℕ) (whole : Pieces) (old : Stand) → IsRight (inside no_pieces no_options rest) (choice_of at start state ∷ stack) path whole old.place old.captures
    → IsRight rest stack path whole (closing state outer (choice_of at start state) old).place (closing state outer (choice_of at start state) old).captures
right_closed at start Taking rest stack outer path whole old right =
    let goes = subst (λ (n : ℕ). GoesOn rest path n) right.may_end.1.1 right.may_end.1.2 in
    record {
      may_end = along_ends rest stack path old.place right.may_end.0 goes;
      finishes = λ final h. right.finishes final (close_taking at start path (GoesOn rest path) (Finishes rest stack path final) old.place old.captures h);
    }
right_closed at start Looking rest stack outer path whole old right = absurd (right.may_end.1.1)
right_closed at start Passing rest stack outer path whole old right = record {
  may_end = right.may_end;
  finishes = λ final h. right.finishes final (close_passing at start path (GoesOn rest path) (Finishes rest stack path final) old.place old.captures h);
}

-- ---- the open braces as the code has them, the innermost last

-- with so many open braces, the innermost first, what is left of the tokens is right
abbrev pub RightWith : ℕ → List Choice → List Token → List ℕ → Pieces → ℕ → List Capture → Type 0
RightWith depth stack left path whole place captures = (rest : Rest) × (rest_of depth left ≡ Some rest) × IsRight rest stack path whole place captures

abbrev pub RightFrom : List Token → List ℕ → Pieces → Stand → Type 0
RightFrom left path whole stand = RightWith (length stand.choices) (reverse stand.choices) left path whole stand.place stand.captures

-- with an innermost brace, the depth and the stack are one more
with_innermost : (outer : List Choice) (choice : Choice) (left : List Token) (path : List ℕ) (whole : Pieces) (place : ℕ) (captures : List Capture)
    → RightWith (length (outer ++ choice ∷ [])) (reverse (outer ++ choice ∷ [])) left path whole place captures ≡ RightWith (suc (length outer)) (choice ∷ reverse outer) left path whole place captures
with_innermost outer choice left path whole place captures =
    ap (λ (depth : ℕ). RightWith depth (reverse (outer ++ choice ∷ [])) left path whole place captures) (length_last outer choice)
    ∙ ap (λ (stack : List Choice). RightWith (suc (length outer)) stack left path whole place captures) (reverse_last outer choice)

-- the stand with this innermost brace
abbrev pub stand_with : ℕ → List Capture → List Choice → Choice → Stand
stand_with place captures outer choice = record { place = place; captures = captures; choices = outer ++ choice ∷ [] }

from_innermost : (outer : List Choice) (choice : Choice) (left : List Token) (path : List ℕ) (whole : Pieces) (place : ℕ) (captures : List Capture) → RightWith (suc (length outer)) (choice ∷ reverse outer) left path whole place captures
    → RightFrom left path whole (stand_with place captures outer choice)
from_innermost outer choice left path whole place captures h = subst (λ (T : Type 0). T) (sym (with_innermost outer choice left path whole place captures)) h

to_innermost : (outer : List Choice) (choice : Choice) (left : List Token) (path : List ℕ) (whole : Pieces) (stand : Stand) → stand.choices ≡ outer ++ choice ∷ [] → RightFrom left path whole stand
    → RightWith (suc (length outer)) (choice ∷ reverse outer) left path whole stand.place stand.captures
to_innermost outer choice left path whole stand is h =
    subst (λ (T : Type 0). T) (with_innermost outer choice left path whole stand.place stand.captures) (subst (λ (choices : List Choice). RightWith (length choices) (reverse choices) left path whole stand.place stand.captures) is h)

moves_in : (choices : List Choice) → Moves choices → MovesIn (reverse choices)
moves_in choices moves = elim moves [
  | inl none ↦ subst (λ (cs : List Choice). MovesIn (reverse cs)) (sym none) tt
  | inr some ↦ subst (λ (cs : List Choice). MovesIn cs) (sym (ap reverse some.2 ∙ reverse_last some.0 some.1)) some.3
]

passes_in : (choices : List Choice) (start : ℕ) → PassesAt choices start → PassesIn (reverse choices) start
passes_in choices start passes = subst (λ (cs : List Choice). PassesIn cs start) (sym (ap reverse passes.2 ∙ reverse_last passes.0 passes.1)) (passes.3, passes.4)

-- ---- one token

-- a piece, or a sign that is one
token_piece : (p : Piece) (left : List Token) (path : List ℕ) (whole : Pieces) (next : List Bool) (old new : Stand) (rest : Rest) → option_map (piece_before p) (rest_of (length old.choices) left) ≡ Some rest
    → IsRight rest (reverse old.choices) path whole old.place old.captures → IsOnwardFrom (length old.choices) left path next → IsPieceStep p path next old new → RightFrom left path whole new
token_piece p left path whole next old new rest is right (after, there, onward) step =
    let split = piece_rest p (rest_of (length old.choices) left) rest is in
    let same : split.0 ≡ after = cc in
    let before : IsRight (piece_before p after) (reverse old.choices) path whole old.place old.captures = subst (λ (r : Rest). IsRight r (reverse old.choices) path whole old.place old.captures) (split.2 ∙ ap (λ (r : Rest). piece_before p r) same) right in
    elim step [
      | inl m ↦
          let right_there : RightFrom left path whole (moved p m.1.0 old) = (after, there, right_moved p after (reverse old.choices) path whole old.place m.1.0 old.captures next (moves_in old.choices m.0) onward m.1.1 before) in
          subst (λ (s : Stand). RightFrom left path whole s) (sym m.1.2) right_there
      | inr o ↦
          let right_there : RightFrom left path whole (passed_over p o.0 old) = (after, there, right_passed p after (reverse old.choices) path whole old.place o.0 old.captures (passes_in old.choices o.0 o.1) before) in
          subst (λ (s : Stand). RightFrom left path whole s) (sym o.2) right_there
    ]

token_open : (left : List Token) (path : List ℕ) (whole : Pieces) (next : List Bool) (old new : Stand) → RightFrom (token.Open ∷ left) path whole old → IsOnwardFrom (suc (length old.choices)) left path next → IsOpenStep next old new → RightFrom left path whole new
token_open left path whole next old new (rest, is, right) (after, there, onward) step =
    let split = opened_rest (rest_of (suc (length old.choices)) left) rest (open_is (length old.choices) left rest is) in
    let same : after ≡ inside split.0 split.1 split.2 = cc in
    let going : IsOnward (inside split.0 split.1 split.2) path next = subst (λ (r : Rest). IsOnward r path next) same onward in
    let before : IsRight (brace_before (option split.0 split.1) split.2) (reverse old.choices) path whole old.place old.captures = subst (λ (r : Rest). IsRight r (reverse old.choices) path whole old.place old.captures) split.4 right in
    elim step [
      | inl m ↦
          let choice : Choice = record { capture = length old.captures; start = old.place; state = m.1.0 } in
          let inner = right_opened split.0 split.1 split.2 (reverse old.choices) path whole old.place old.captures next m.1.0 (moves_in old.choices m.0) going m.1.1 before in
          let right_there = from_innermost old.choices choice left path whole old.place (old.captures ++ between old.place old.place ∷ []) (inside split.0 split.1 split.2, split.3, inner) in
          subst (λ (s : Stand). RightFrom left path whole s) (sym m.1.2) right_there
      | inr o ↦
          let choice : Choice = record { capture = length old.captures; start = o.0; state = Passing } in
          let inner = right_entered split.0 split.1 split.2 (reverse old.choices) path whole old.place o.0 old.captures (passes_in old.choices o.0 o.1) before in
          let right_there = from_innermost old.choices choice left path whole old.place (old.captures ++ between o.0 o.0 ∷ []) (inside split.0 split.1 split.2, split.3, inner) in
          subst (λ (s : Stand). RightFrom left path whole s) (sym o.2) right_there
    ]

-- `,` in a brace of this state
parted_by : (state : State) (at start : ℕ) (outer : List Choice) (left : List Token) (path : List ℕ) (whole : Pieces) (next : List Bool) (old new : Stand) → at < length old.captures
    → RightWith (suc (length outer)) (choice_of at start state ∷ reverse outer) (token.Comma ∷ left) path whole old.place old.captures → IsOnwardFrom (suc (length outer)) left path next → IsParting state next outer (choice_of at start state) old new
    → RightFrom left path whole new
parted_by state at start outer left path whole next old new within (rest, is, right) (after, there, onward) step =
    let split = parted_rest (rest_of (suc (length outer)) left) rest is in
    let same : after ≡ inside split.0 split.1 split.2 = cc in
    let going : IsOnward (inside split.0 split.1 split.2) path next = subst (λ (r : Rest). IsOnward r path next) same onward in
    let before : IsRight (inside no_pieces (option split.0 split.1) split.2) (choice_of at start state ∷ reverse outer) path whole old.place old.captures =
    subst (λ (r : Rest). IsRight r (choice_of at start state ∷ reverse outer) path whole old.place old.captures) split.4 right in
    go state split.0 split.1 split.2 split.3 going before step
  where
    go : (s : State) → (l : Pieces) (o : Options) (r : Rest) → rest_of (suc (length outer)) left ≡ Some (inside l o r) → IsOnward (inside l o r) path next → IsRight (inside no_pieces (option l o) r) (choice_of at start s ∷ reverse outer) path whole old.place old.captures
        → IsParting s next outer (choice_of at start s) old new → RightFrom left path whole new
    go Taking l o r here going before step = subst (λ (s : Stand). RightFrom left path whole s) (sym step)
        (from_innermost outer (choice_of at start Passing) left path whole old.place (set old.captures at (between start old.place)) (inside l o r, here, right_ended at start l o r (reverse outer) path whole old.place old.captures within before))
    go Looking l o r here going before step = subst (λ (s : Stand). RightFrom left path whole s) (sym step.2)
        (from_innermost outer (choice_of at start step.0) left path whole start old.captures (inside l o r, here, right_looked at start l o r (reverse outer) path whole old.place old.captures next step.0 going step.1 before))
    go Passing l o r here going before step = subst (λ (s : Stand). RightFrom left path whole s) (sym step)
        (from_innermost outer (choice_of at start Passing) left path whole old.place old.captures (inside l o r, here, right_still at start l o r (reverse outer) path whole old.place old.captures before))

-- what `}` leaves open
closing_leaves : (state : State) (outer : List Choice) (choice : Choice) (old : Stand) → (closing state outer choice old).choices ≡ outer
closing_leaves Taking outer choice old = refl
closing_leaves Looking outer choice old = refl
closing_leaves Passing outer choice old = refl

closed_by : (outer : List Choice) (choice : Choice) (left : List Token) (path : List ℕ) (whole : Pieces) (old new : Stand) → RightWith (suc (length outer)) (choice ∷ reverse outer) (token.Close ∷ left) path whole old.place old.captures
    → new ≡ closing choice.state outer choice old → RightFrom left path whole new
closed_by outer choice left path whole old new (rest, is, right) step =
    let split = closed_rest (rest_of (length outer) left) rest is in
    let before : IsRight (inside no_pieces no_options split.0) (choice ∷ reverse outer) path whole old.place old.captures = subst (λ (r : Rest). IsRight r (choice ∷ reverse outer) path whole old.place old.captures) split.2 right in
    let s : Stand = closing choice.state outer choice old in
    let here : RightWith (length outer) (reverse outer) left path whole s.place s.captures = (split.0, split.1, right_closed choice.capture choice.start choice.state split.0 (reverse outer) outer path whole old before) in
    subst (λ (t : Stand). RightFrom left path whole t) (sym step) (subst (λ (cs : List Choice). RightWith (length cs) (reverse cs) left path whole s.place s.captures) (sym (closing_leaves choice.state outer choice old)) here)

-- ---- the braces' captures are among the captures

abbrev pub AreNumbered : Stand → Type 0
AreNumbered stand = All (HasCapture (length stand.captures)) stand.choices

innermost_numbered : (n : ℕ) (choices outer : List Choice) (choice : Choice) → choices ≡ outer ++ choice ∷ [] → All (HasCapture n) choices → All (HasCapture n) outer × HasCapture n choice
innermost_numbered n choices outer choice is all = All-pop (HasCapture n) choices outer (Some choice) is all

numbered_with : (n : ℕ) (outer : List Choice) (choice : Choice) → All (HasCapture n) outer → choice.capture < n → All (HasCapture n) (outer ++ choice ∷ [])
numbered_with n outer choice all here = All-append (HasCapture n) outer (choice ∷ []) all (All-cons (HasCapture n) choice [] here (All-nil (HasCapture n)))

numbered_more : (n m : ℕ) (choices : List Choice) → n ≤ m → All (HasCapture n) choices → All (HasCapture m) choices
numbered_more n m choices le all k d lt = let before = all k d lt in omega (arith, before)

numbered_piece : (p : Piece) (path : List ℕ) (next : List Bool) (old new : Stand) → AreNumbered old → IsPieceStep p path next old new → AreNumbered new
numbered_piece p path next old new all step = elim step [
  | inl m ↦
      let more = captured p old.place m.1.0 in
      subst (λ (s : Stand). AreNumbered s) (sym m.1.2) (numbered_more (length old.captures) (length (old.captures ++ more)) old.choices (omega (arith, length-append old.captures more)) all)
  | inr o ↦
      let more = captured p o.0 o.0 in
      subst (λ (s : Stand). AreNumbered s) (sym o.2) (numbered_more (length old.captures) (length (old.captures ++ more)) old.choices (omega (arith, length-append old.captures more)) all)
]

numbered_entered : (start : ℕ) (state : State) (old : Stand) → AreNumbered old → AreNumbered (entered start state old)
numbered_entered start state old all =
    let longer : length (old.captures ++ between start start ∷ []) ≡ suc (length old.captures) = length_last old.captures (between start start) in
    numbered_with (length (old.captures ++ between start start ∷ [])) old.choices (record { capture = length old.captures; start = start; state = state })
    (numbered_more (length old.captures) (length (old.captures ++ between start start ∷ [])) old.choices (omega arith) all) (omega arith)

numbered_open : (next : List Bool) (old new : Stand) → AreNumbered old → IsOpenStep next old new → AreNumbered new
numbered_open next old new all step = elim step [
  | inl m ↦ subst (λ (s : Stand). AreNumbered s) (sym m.1.2) (numbered_entered old.place m.1.0 old all)
  | inr o ↦ subst (λ (s : Stand). AreNumbered s) (sym o.2) (numbered_entered o.0 Passing old all)
]

-- as many captures as before, when one is set
set_numbered : (captures : List Capture) (at : ℕ) (one : Capture) (choices : List Choice) → All (HasCapture (length captures)) choices → All (HasCapture (length (set captures at one))) choices
set_numbered captures at one choices all = subst (λ (n : ℕ). All (HasCapture n) choices) (sym (length-set captures at one)) all

numbered_parted : (state : State) (next : List Bool) (outer : List Choice) (choice : Choice) (old new : Stand) → All (HasCapture (length old.captures)) outer → choice.capture < length old.captures → IsParting state next outer choice old new → AreNumbered new
numbered_parted Taking next outer choice old new all here step = subst (λ (s : Stand). AreNumbered s) (sym step)
    (set_numbered old.captures choice.capture (between choice.start old.place) (outer ++ turned choice Passing ∷ []) (numbered_with (length old.captures) outer (turned choice Passing) all here))
numbered_parted Looking next outer choice old new all here step = subst (λ (s : Stand). AreNumbered s) (sym step.2) (numbered_with (length old.captures) outer (turned choice step.0) all here)
numbered_parted Passing next outer choice old new all here step = subst (λ (s : Stand). AreNumbered s) (sym step) (numbered_with (length old.captures) outer (turned choice Passing) all here)

numbered_closed : (state : State) (outer : List Choice) (choice : Choice) (old new : Stand) → All (HasCapture (length old.captures)) outer → new ≡ closing state outer choice old → AreNumbered new
numbered_closed Taking outer choice old new all step = subst (λ (s : Stand). AreNumbered s) (sym step) (set_numbered old.captures choice.capture (between choice.start old.place) outer all)
numbered_closed Looking outer choice old new all step = subst (λ (s : Stand). AreNumbered s) (sym step) all
numbered_closed Passing outer choice old new all step = subst (λ (s : Stand). AreNumbered s) (sym step) all

numbered_step : (t : Token) (path : List ℕ) (next : List Bool) (old new : Stand) → AreNumbered old → IsWalkStep t path next old new → AreNumbered new
numbered_step (token.Piece p) path next old new all step = numbered_piece p path next old new all step
numbered_step token.Open path next old new all step = numbered_open next old new all step
numbered_step token.Comma path next old new all step = elim (none_or_last old.choices) [
  | inl none ↦ numbered_piece (One (Character 44)) path next old new all (step.0 none)
  | inr some ↦
      let both = innermost_numbered (length old.captures) old.choices some.0 some.1 some.2 all in
      numbered_parted some.1.state next some.0 some.1 old new both.0 both.1 (step.1 some.0 some.1 some.2)
]
numbered_step token.Close path next old new all step = elim (none_or_last old.choices) [
  | inl none ↦ numbered_piece (One (Character 125)) path next old new all (step.0 none)
  | inr some ↦
      let both = innermost_numbered (length old.captures) old.choices some.0 some.1 some.2 all in
      numbered_closed some.1.state some.0 some.1 old new both.0 (step.1 some.0 some.1 some.2)
]

-- ---- how many braces are open

deep_piece : (p : Piece) (path : List ℕ) (next : List Bool) (old new : Stand) → IsPieceStep p path next old new → length new.choices ≡ length old.choices
deep_piece p path next old new step = elim step [ inl m ↦ ap (λ (s : Stand). length s.choices) m.1.2 | inr o ↦ ap (λ (s : Stand). length s.choices) o.2 ]

deep_open : (next : List Bool) (old new : Stand) → IsOpenStep next old new → length new.choices ≡ suc (length old.choices)
deep_open next old new step = elim step [
  | inl m ↦ ap (λ (s : Stand). length s.choices) m.1.2 ∙ length_last old.choices (record { capture = length old.captures; start = old.place; state = m.1.0 })
  | inr o ↦ ap (λ (s : Stand). length s.choices) o.2 ∙ length_last old.choices (record { capture = length old.captures; start = o.0; state = Passing })
]

deep_parted : (state : State) (next : List Bool) (outer : List Choice) (choice : Choice) (old new : Stand) → IsParting state next outer choice old new → length new.choices ≡ suc (length outer)
deep_parted Taking next outer choice old new step = ap (λ (s : Stand). length s.choices) step ∙ length_last outer (turned choice Passing)
deep_parted Looking next outer choice old new step = ap (λ (s : Stand). length s.choices) step.2 ∙ length_last outer (turned choice step.0)
deep_parted Passing next outer choice old new step = ap (λ (s : Stand). length s.choices) step ∙ length_last outer (turned choice Passing)

deep_step : (t : Token) (path : List ℕ) (next : List Bool) (old new : Stand) → IsWalkStep t path next old new → length new.choices ≡ depth_after (length old.choices) t
deep_step (token.Piece p) path next old new step = deep_piece p path next old new step
deep_step token.Open path next old new step = deep_open next old new step
deep_step token.Comma path next old new step = elim (none_or_last old.choices) [
  | inl none ↦ deep_piece (One (Character 44)) path next old new (step.0 none)
  | inr some ↦ deep_parted some.1.state next some.0 some.1 old new (step.1 some.0 some.1 some.2) ∙ sym (ap length some.2 ∙ length_last some.0 some.1)
]
deep_step token.Close path next old new step = elim (none_or_last old.choices) [
  | inl none ↦
      let depth : length old.choices ≡ 0 = ap length none in
      deep_piece (One (Character 125)) path next old new (step.0 none) ∙ depth ∙ ap (λ (k : ℕ). depth_after k token.Close) (sym depth)
  | inr some ↦
      let depth : length old.choices ≡ suc (length some.0) = ap length some.2 ∙ length_last some.0 some.1 in
      ap (λ (s : Stand). length s.choices) (step.1 some.0 some.1 some.2) ∙ ap length (closing_leaves some.1.state some.0 some.1 old) ∙ ap (λ (k : ℕ). depth_after k token.Close) (sym depth)
]

-- ---- one more token

token_right : (t : Token) (left : List Token) (path : List ℕ) (whole : Pieces) (next : List Bool) (old new : Stand) → AreNumbered old → RightFrom (t ∷ left) path whole old → IsOnwardFrom (depth_after (length old.choices) t) left path next
    → IsWalkStep t path next old new → RightFrom left path whole new
token_right (token.Piece p) left path whole next old new all (rest, is, right) onward step = token_piece p left path whole next old new rest (sym (piece_is (length old.choices) p left) ∙ is) right onward step
token_right token.Open left path whole next old new all right onward step = token_open left path whole next old new right onward step
token_right token.Comma left path whole next old new all (rest, is, right) onward step = elim (none_or_last old.choices) [
  | inl none ↦
      let plain : rest_of (length old.choices) (token.Comma ∷ left) ≡ option_map (piece_before (One (Character 44))) (rest_of (length old.choices) left) =
      subst (λ (cs : List Choice). rest_of (length cs) (token.Comma ∷ left) ≡ option_map (piece_before (One (Character 44))) (rest_of (length cs) left)) (sym none) refl in
      token_piece (One (Character 44)) left path whole next old new rest (sym plain ∙ is) right onward (step.0 none)
  | inr some ↦
      let both = innermost_numbered (length old.captures) old.choices some.0 some.1 some.2 all in
      let depth : length old.choices ≡ suc (length some.0) = ap length some.2 ∙ length_last some.0 some.1 in
      parted_by some.1.state some.1.capture some.1.start some.0 left path whole next old new both.1 (to_innermost some.0 some.1 (token.Comma ∷ left) path whole old some.2 (rest, is, right))
      (subst (λ (k : ℕ). IsOnwardFrom k left path next) depth onward) (step.1 some.0 some.1 some.2)
]
token_right token.Close left path whole next old new all (rest, is, right) onward step = elim (none_or_last old.choices) [
  | inl none ↦
      let plain : rest_of (length old.choices) (token.Close ∷ left) ≡ option_map (piece_before (One (Character 125))) (rest_of (length old.choices) left) =
      subst (λ (cs : List Choice). rest_of (length cs) (token.Close ∷ left) ≡ option_map (piece_before (One (Character 125))) (rest_of (length cs) left)) (sym none) refl in
      let depth : length old.choices ≡ 0 = ap length none in
      let there : IsOnwardFrom (length old.choices) left path next =
      subst (λ (k : ℕ). IsOnwardFrom k left path next) (ap (λ (k : ℕ). depth_after k token.Close) depth ∙ sym depth) onward in
      token_piece (One (Character 125)) left path whole next old new rest (sym plain ∙ is) right there (step.0 none)
  | inr some ↦ closed_by some.0 some.1 left path whole old new (to_innermost some.0 some.1 (token.Close ∷ left) path whole old some.2 (rest, is, right)) (step.1 some.0 some.1 some.2)
]

-- ---- the loop over the tokens

-- so far: the sets left are those after the tokens left, and the captures end up as those of the whole glob
pub record WalkedSoFar (tokens left : List Token) (path : List ℕ) (sets : List (List Bool)) (stand : Stand) : Type 0 where
  pub after : AreAfter (length stand.choices) left path (reverse sets)
  pub numbered : AreNumbered stand
  pub right : (whole : Pieces) → pieces_of_tokens (Some tokens) ≡ Some whole → Takes whole path 0 (length path) → RightFrom left path whole stand

abbrev pub first_stand : Stand
first_stand = record { place = 0; captures = []; choices = [] }

pub walked_none : (tokens : List Token) (path : List ℕ) (sets : List (List Bool)) → AreAfter 0 tokens path (reverse sets) → WalkedSoFar tokens tokens path sets first_stand
walked_none tokens path sets after = record {
  after = after;
  numbered = All-nil (HasCapture 0);
  right = λ whole is takes. at_first whole (rest_of 0 tokens) is takes refl;
}
  where
    at_first : (whole : Pieces) (o : Option Rest) → option_and_then all_outside o ≡ Some whole → Takes whole path 0 (length path) → rest_of 0 tokens ≡ o → RightFrom tokens path whole first_stand
    at_first whole None e takes is = absurd (cc)
    at_first whole (Some (inside left others rest)) e takes is = absurd (cc)
    at_first whole (Some (outside left)) e takes is =
        let same : whole ≡ left = cc in (
          outside left,
          is,
          subst (λ (ps : Pieces). IsRight (outside left) [] path ps 0 []) (sym same) (record {
            may_end = subst (λ (ps : Pieces). Takes ps path 0 (length path)) same takes;
            finishes = λ final h. subst (λ (to : ℕ). IsFirst left path (IsEnd path) 0 to final) h.3.0 (subst (λ (cs : List Capture). IsFirst left path (IsEnd path) 0 h.0 cs) (sym h.3.1) h.2);
          }),
        )

-- the set after a token, and those after the others
next_set : (depth : ℕ) (t : Token) (left : List Token) (path : List ℕ) (set : List Bool) (sets : List (List Bool)) → AreAfter depth (t ∷ left) path (set ∷ sets)
    → IsOnwardFrom (depth_after depth t) left path set × AreAfter (depth_after depth t) left path sets
next_set depth t [] path set sets h = h
next_set depth t (u ∷ left) path set sets h = h

pub walked_more : (tokens : List Token) (t : Token) (left : List Token) (path : List ℕ) (sets before : List (List Bool)) (next : List Bool) (old new : Stand) → WalkedSoFar tokens (t ∷ left) path sets old → sets ≡ before ++ next ∷ [] → IsWalkStep t path next old new
    → WalkedSoFar tokens left path before new
walked_more tokens t left path sets before next old new so_far popped step =
    let sets_left = subst (λ (ss : List (List Bool)). AreAfter (length old.choices) (t ∷ left) path ss) (ap reverse popped ∙ reverse_last before next) so_far.after in
    let both = next_set (length old.choices) t left path next (reverse before) sets_left in
    record {
      after = subst (λ (k : ℕ). AreAfter k left path (reverse before)) (sym (deep_step t path next old new step)) both.1;
      numbered = numbered_step t path next old new so_far.numbered step;
      right = λ whole is takes. token_right t left path whole next old new so_far.numbered (so_far.right whole is takes) both.0 step;
    }

-- no sets are left only after the last token
pub walked_empty : (tokens : List Token) (t : Token) (left : List Token) (path : List ℕ) (sets : List (List Bool)) (stand : Stand) → WalkedSoFar tokens (t ∷ left) path sets stand → length sets ≡ 0 → ⊥
walked_empty tokens t left path [] stand so_far none = so_far.after
walked_empty tokens t left path (set ∷ sets) stand so_far none = absurd (omega arith)

pub walked_all : (tokens : List Token) (path : List ℕ) (sets : List (List Bool)) (stand : Stand) → WalkedSoFar tokens [] path sets stand → (whole : Pieces) → pieces_of_tokens (Some tokens) ≡ Some whole → Takes whole path 0 (length path)
    → Captures whole path stand.captures
walked_all tokens path sets stand so_far whole is takes = at_last stand.choices (so_far.right whole is takes)
  where
    at_last : (choices : List Choice) → RightWith (length choices) (reverse choices) [] path whole stand.place stand.captures → Captures whole path stand.captures
    at_last (choice ∷ choices) (rest, none, right) = absurd (cc)
    at_last [] (rest, end, right) =
        let same : rest ≡ outside no_pieces = cc in
        let all : IsRight (outside no_pieces) [] path whole stand.place stand.captures = subst (λ (r : Rest). IsRight r [] path whole stand.place stand.captures) same right in
        all.finishes stand.captures (stand.place, [], (refl, refl), (sym all.may_end, sym (append-nil stand.captures)))
