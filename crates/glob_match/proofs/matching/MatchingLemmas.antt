-- Where the tokens that are left lead, from the places reached and the open braces.
use Rattle.std.proofs.Common.{◌≡◌, ◌↔◌, ◌⊎◌, inl, inr, ℕ, zero, suc, ◌+◌, ◌==◌, Bool, true, false, List, [], ◌∷◌, ◌++◌, All, length, reverse, Option, Some, None, arith, refl, sym, subst, ap, ◌∙◌, length-append}
use Rattle.std.specs.Prelude.{option_map, option_and_then}
use Rattle.std.proofs.lemmas.List.{reverse-append}
use Rattle.std.proofs.lemmas.List.Elements.{All-append, All-cons, All-nil, All-pop}
use Rattle.glob_match.specs.declared.piece.Single.TheVariants.{Character}
use Rattle.glob_match.specs.declared.piece.Piece.{Piece}
use Rattle.glob_match.specs.declared.piece.Piece.TheVariants.{One}
use Rattle.glob_match.specs.declared.piece.Token.{Token}
use Rattle.glob_match.specs.declared.piece.Token.TheVariants as token
use Rattle.glob_match.specs.Pieces.{Pieces, Options}
use Rattle.glob_match.specs.Pieces.Pieces.{no_pieces, piece, brace}
use Rattle.glob_match.specs.Pieces.Options.{no_options, option}
use Rattle.glob_match.specs.Reading.{Rest, piece_before, brace_before, opened, parted, rest_of, all_outside, pieces_of_tokens}
use Rattle.glob_match.specs.Reading.Rest.{outside, inside}
use Rattle.glob_match.specs.Takes.{PieceTakes, Takes, OptionTakes}
use Rattle.glob_match.specs.Places.{Holds, IsStep, IsStartAlone, IsUnion, IsNowhere, IsReached, OpenBrace, IsOfPlaces}
use Rattle.glob_match.specs.Braces.{IsPlain, IsTokenStep}

-- the places after an open brace: those reached, those to which what is left of this option leads, and those to which an option after it leads
abbrev pub AfterBrace : OpenBrace → Pieces → Options → List ℕ → (ℕ → Type 0) → ℕ → Type 0
AfterBrace one left others path P to = Holds one.reached to ⊎ ((from : ℕ) × P from × Takes left path from to) ⊎ ((from : ℕ) × Holds one.start from × OptionTakes others path from to)

-- what is left of a glob leads from the places of P, within the open braces, the innermost first, to this place
abbrev pub LeadsOn : Rest → List ℕ → (ℕ → Type 0) → List OpenBrace → ℕ → Type 0
LeadsOn (outside left) path P stack to = (from : ℕ) × P from × Takes left path from to
LeadsOn (inside left others rest) path P [] to = ⊥
LeadsOn (inside left others rest) path P (one ∷ stack) to = LeadsOn rest path (AfterBrace one left others path P) stack to

-- from more places it leads to no fewer
leads_same : (rest : Rest) (path : List ℕ) (P Q : ℕ → Type 0) (stack : List OpenBrace) (to : ℕ) → ((place : ℕ) → P place → Q place) → LeadsOn rest path P stack to → LeadsOn rest path Q stack to
leads_same (outside left) path P Q stack to each h = (h.0, each h.0 h.1, h.2)
leads_same (inside left others rest) path P Q [] to each h = h
leads_same (inside left others rest) path P Q (one ∷ stack) to each h =
    leads_same rest path (AfterBrace one left others path P) (AfterBrace one left others path Q) stack to (λ place after. elim after [
      | inl reached ↦ inl reached
      | inr (inl l) ↦ inr (inl (l.0, each l.0 l.1, l.2))
      | inr (inr o) ↦ inr (inr o)
    ]) h

-- the places that a piece leads to
abbrev pub ByPiece : Piece → List ℕ → (ℕ → Type 0) → ℕ → Type 0
ByPiece p path P to = (from : ℕ) × P from × PieceTakes p path from to

-- the places that one of the options leads to
abbrev pub ByOptions : Options → List ℕ → (ℕ → Type 0) → ℕ → Type 0
ByOptions all path P to = (from : ℕ) × P from × OptionTakes all path from to

leads_piece : (p : Piece) (rest : Rest) (path : List ℕ) (P : ℕ → Type 0) (stack : List OpenBrace) (to : ℕ) → LeadsOn rest path (ByPiece p path P) stack to ↔ LeadsOn (piece_before p rest) path P stack to
leads_piece p (outside left) path P stack to = ((λ h. (h.1.0, h.1.1, (h.0, h.1.2, h.2))), (λ h. (h.2.0, (h.0, h.1, h.2.1), h.2.2)))
leads_piece p (inside left others rest) path P [] to = ((λ h. h), (λ h. h))
leads_piece p (inside left others rest) path P (one ∷ stack) to = (
  leads_same rest path (AfterBrace one left others path (ByPiece p path P)) (AfterBrace one (piece p left) others path P) stack to (λ place after. elim after [
    | inl reached ↦ inl reached
    | inr (inl h) ↦ inr (inl (h.1.0, h.1.1, (h.0, h.1.2, h.2)))
    | inr (inr o) ↦ inr (inr o)
  ]),
  leads_same rest path (AfterBrace one (piece p left) others path P) (AfterBrace one left others path (ByPiece p path P)) stack to (λ place after. elim after [
    | inl reached ↦ inl reached
    | inr (inl h) ↦ inr (inl (h.2.0, (h.0, h.1, h.2.1), h.2.2))
    | inr (inr o) ↦ inr (inr o)
  ]),
)

leads_brace : (all : Options) (rest : Rest) (path : List ℕ) (P : ℕ → Type 0) (stack : List OpenBrace) (to : ℕ) → LeadsOn rest path (ByOptions all path P) stack to ↔ LeadsOn (brace_before all rest) path P stack to
leads_brace all (outside left) path P stack to = ((λ h. (h.1.0, h.1.1, (h.0, h.1.2, h.2))), (λ h. (h.2.0, (h.0, h.1, h.2.1), h.2.2)))
leads_brace all (inside left others rest) path P [] to = ((λ h. h), (λ h. h))
leads_brace all (inside left others rest) path P (one ∷ stack) to = (
  leads_same rest path (AfterBrace one left others path (ByOptions all path P)) (AfterBrace one (brace all left) others path P) stack to (λ place after. elim after [
    | inl reached ↦ inl reached
    | inr (inl h) ↦ inr (inl (h.1.0, h.1.1, (h.0, h.1.2, h.2)))
    | inr (inr o) ↦ inr (inr o)
  ]),
  leads_same rest path (AfterBrace one (brace all left) others path P) (AfterBrace one left others path (ByOptions all path P)) stack to (λ place after. elim after [
    | inl reached ↦ inl reached
    | inr (inl h) ↦ inr (inl (h.2.0, (h.0, h.1, h.2.1), h.2.2))
    | inr (inr o) ↦ inr (inr o)
  ]),
)

-- The tokens left, within so many open braces, lead exactly where the pieces of the whole glob lead.
abbrev pub LeadsRight : ℕ → List Token → List ℕ → List OpenBrace → List Bool → Pieces → Type 0
LeadsRight depth left path stack places pieces = (rest : Rest) × (rest_of depth left ≡ Some rest) × ((to : ℕ) → LeadsOn rest path (Holds places) stack to ↔ Takes pieces path 0 to)

-- ---- one token

pub piece_rest : (p : Piece) (o : Option Rest) (rest : Rest) → option_map (piece_before p) o ≡ Some rest → (next : Rest) × (o ≡ Some next) × (rest ≡ piece_before p next)
piece_rest p None rest e = absurd (cc)
piece_rest p (Some next) rest e = (next, refl, cc)

pub opened_rest : (o : Option Rest) (rest : Rest) → option_and_then opened o ≡ Some rest → (left : Pieces) × (others : Options) × (next : Rest) × (o ≡ Some (inside left others next)) × (rest ≡ brace_before (option left others) next)
opened_rest None rest e = absurd (cc)
opened_rest (Some (outside left)) rest e = absurd (cc)
opened_rest (Some (inside left others next)) rest e = (left, others, next, refl, cc)

pub parted_rest : (o : Option Rest) (rest : Rest) → option_and_then parted o ≡ Some rest → (left : Pieces) × (others : Options) × (next : Rest) × (o ≡ Some (inside left others next)) × (rest ≡ inside no_pieces (option left others) next)
parted_rest None rest e = absurd (cc)
parted_rest (Some (outside left)) rest e = absurd (cc)
parted_rest (Some (inside left others next)) rest e = (left, others, next, refl, cc)

pub closed_rest : (o : Option Rest) (rest : Rest) → option_map (inside no_pieces no_options) o ≡ Some rest → (next : Rest) × (o ≡ Some next) × (rest ≡ inside no_pieces no_options next)
closed_rest None rest e = absurd (cc)
closed_rest (Some next) rest e = (next, refl, cc)

-- a piece's set of places is the step's
after_step : (p : Piece) (o : Option Rest) (rest : Rest) (path : List ℕ) (stack : List OpenBrace) (places next : List Bool) (pieces : Pieces) → option_map (piece_before p) o ≡ Some rest
    → ((to : ℕ) → LeadsOn rest path (Holds places) stack to ↔ Takes pieces path 0 to) → IsStep p path places next → (r : Rest) × (o ≡ Some r) × ((to : ℕ) → LeadsOn r path (Holds next) stack to ↔ Takes pieces path 0 to)
after_step p o rest path stack places next pieces is these step =
    let split = piece_rest p o rest is in
    let before : (to : ℕ) → LeadsOn (piece_before p split.0) path (Holds places) stack to ↔ Takes pieces path 0 to = subst (λ (r : Rest). (to : ℕ) → LeadsOn r path (Holds places) stack to ↔ Takes pieces path 0 to) split.2 these in (
      split.0,
      split.1,
      λ to. (
        (λ h. (before to).0 ((leads_piece p split.0 path (Holds places) stack to).0 (leads_same split.0 path (Holds next) (ByPiece p path (Holds places)) stack to (λ place. (step.these place).0) h))),
        (λ t. leads_same split.0 path (ByPiece p path (Holds places)) (Holds next) stack to (λ place. (step.these place).1) ((leads_piece p split.0 path (Holds places) stack to).1 ((before to).1 t))),
      ),
    )

pub piece_is : (depth : ℕ) (p : Piece) (left : List Token) → rest_of depth (token.Piece p ∷ left) ≡ option_map (piece_before p) (rest_of depth left)
piece_is zero p left = refl
piece_is (suc depth) p left = refl

right_piece : (depth : ℕ) (p : Piece) (left : List Token) (path : List ℕ) (stack : List OpenBrace) (places next : List Bool) (pieces : Pieces) → LeadsRight depth (token.Piece p ∷ left) path stack places pieces → IsStep p path places next
    → LeadsRight depth left path stack next pieces
right_piece depth p left path stack places next pieces (rest, is, these) step = after_step p (rest_of depth left) rest path stack places next pieces (sym (piece_is depth p left) ∙ is) these step

-- a brace opened at depth ten is none
pub open_is : (depth : ℕ) (left : List Token) (rest : Rest) → rest_of depth (token.Open ∷ left) ≡ Some rest → option_and_then opened (rest_of (suc depth) left) ≡ Some rest
open_is zero left rest is = is
open_is (suc depth) left rest is = go (suc depth == 10) refl
  where
    go : (b : Bool) → (suc depth == 10) ≡ b → option_and_then opened (rest_of (suc (suc depth)) left) ≡ Some rest
    go true e = absurd (let none = rw (e, rest_of) at is in cc)
    go false e = rw (e, rest_of) at is

right_open : (depth : ℕ) (left : List Token) (path : List ℕ) (stack : List OpenBrace) (places reached : List Bool) (pieces : Pieces) → LeadsRight depth (token.Open ∷ left) path stack places pieces → IsNowhere (length places) reached
    → LeadsRight (suc depth) left path (record { start = places; reached = reached } ∷ stack) places pieces
right_open depth left path stack places reached pieces (rest, is, these) nowhere =
    let split = opened_rest (rest_of (suc depth) left) rest (open_is depth left rest is) in
    let one : OpenBrace = record { start = places; reached = reached } in
    let all : Options = option split.0 split.1 in
    let before : (to : ℕ) → LeadsOn (brace_before all split.2) path (Holds places) stack to ↔ Takes pieces path 0 to = subst (λ (r : Rest). (to : ℕ) → LeadsOn r path (Holds places) stack to ↔ Takes pieces path 0 to) split.4 these in (
      inside split.0 split.1 split.2,
      split.3,
      λ to. (
        (λ h. (before to).0 ((leads_brace all split.2 path (Holds places) stack to).0 (leads_same split.2 path (AfterBrace one split.0 split.1 path (Holds places)) (ByOptions all path (Holds places)) stack to (λ place after. elim after [
          | inl holds ↦ absurd (nowhere.none place holds)
          | inr (inl l) ↦ (l.0, l.1, inl l.2)
          | inr (inr o) ↦ (o.0, o.1, inr o.2)
        ]) h))),
        (λ t. leads_same split.2 path (ByOptions all path (Holds places)) (AfterBrace one split.0 split.1 path (Holds places)) stack to (λ place by. elim by.2 [
          | inl l ↦ inr (inl (by.0, by.1, l))
          | inr o ↦ inr (inr (by.0, by.1, o))
        ]) ((leads_brace all split.2 path (Holds places) stack to).1 ((before to).1 t))),
      ),
    )

right_comma : (depth : ℕ) (left : List Token) (path : List ℕ) (one : OpenBrace) (stack : List OpenBrace) (places reached : List Bool) (pieces : Pieces) → LeadsRight (suc depth) (token.Comma ∷ left) path (one ∷ stack) places pieces
    → IsUnion one.reached places reached → LeadsRight (suc depth) left path (record { start = one.start; reached = reached } ∷ stack) one.start pieces
right_comma depth left path one stack places reached pieces (rest, is, these) union =
    let split = parted_rest (rest_of (suc depth) left) rest is in
    let next : OpenBrace = record { start = one.start; reached = reached } in
    let all : Options = option split.0 split.1 in
    let before : (to : ℕ) → LeadsOn (inside no_pieces all split.2) path (Holds places) (one ∷ stack) to ↔ Takes pieces path 0 to = subst (λ (r : Rest). (to : ℕ) → LeadsOn r path (Holds places) (one ∷ stack) to ↔ Takes pieces path 0 to) split.4 these in (
      inside split.0 split.1 split.2,
      split.3,
      λ to. (
        (λ h. (before to).0 (leads_same split.2 path (AfterBrace next split.0 split.1 path (Holds one.start)) (AfterBrace one no_pieces all path (Holds places)) stack to (λ place after. elim after [
          | inl holds ↦ elim ((union.these place).0 holds) [ inl some ↦ inl some | inr other ↦ inr (inl (place, other, refl)) ]
          | inr (inl l) ↦ inr (inr (l.0, l.1, inl l.2))
          | inr (inr o) ↦ inr (inr (o.0, o.1, inr o.2))
        ]) h)),
        (λ t. leads_same split.2 path (AfterBrace one no_pieces all path (Holds places)) (AfterBrace next split.0 split.1 path (Holds one.start)) stack to (λ place after. elim after [
          | inl holds ↦ inl ((union.these place).1 (inl holds))
          | inr (inl l) ↦ inl ((union.these place).1 (inr (subst (λ (m : ℕ). Holds places m) (sym l.2) l.1)))
          | inr (inr o) ↦ elim o.2 [ inl l ↦ inr (inl (o.0, o.1, l)) | inr r ↦ inr (inr (o.0, o.1, r)) ]
        ]) ((before to).1 t)),
      ),
    )

right_close : (depth : ℕ) (left : List Token) (path : List ℕ) (one : OpenBrace) (stack : List OpenBrace) (places next : List Bool) (pieces : Pieces) → LeadsRight (suc depth) (token.Close ∷ left) path (one ∷ stack) places pieces
    → IsUnion places one.reached next → LeadsRight depth left path stack next pieces
right_close depth left path one stack places next pieces (rest, is, these) union =
    let split = closed_rest (rest_of depth left) rest is in
    let before : (to : ℕ) → LeadsOn (inside no_pieces no_options split.0) path (Holds places) (one ∷ stack) to ↔ Takes pieces path 0 to = subst (λ (r : Rest). (to : ℕ) → LeadsOn r path (Holds places) (one ∷ stack) to ↔ Takes pieces path 0 to) split.2 these in (
      split.0,
      split.1,
      λ to. (
        (λ h. (before to).0 (leads_same split.0 path (Holds next) (AfterBrace one no_pieces no_options path (Holds places)) stack to (λ place holds. elim ((union.these place).0 holds) [
          | inl some ↦ inr (inl (place, some, refl))
          | inr other ↦ inl other
        ]) h)),
        (λ t. leads_same split.0 path (AfterBrace one no_pieces no_options path (Holds places)) (Holds next) stack to (λ place after. elim after [
          | inl holds ↦ (union.these place).1 (inr holds)
          | inr (inl l) ↦ (union.these place).1 (inl (subst (λ (m : ℕ). Holds places m) (sym l.2) l.1))
          | inr (inr o) ↦ absurd o.2
        ]) ((before to).1 t)),
      ),
    )

-- ---- the open braces as the code has them, the innermost last

-- the tokens left lead right from these places and open braces
abbrev pub TokensLeadRight : List Token → List ℕ → List OpenBrace → List Bool → Pieces → Type 0
TokensLeadRight left path braces places pieces = LeadsRight (length braces) left path (reverse braces) places pieces

pub length_last : {A : Type 0} (xs : List A) (x : A) → length (xs ++ x ∷ []) ≡ suc (length xs)
length_last xs x = omega (arith, length-append xs (x ∷ []))

pub reverse_last : {A : Type 0} (xs : List A) (x : A) → reverse (xs ++ x ∷ []) ≡ x ∷ reverse xs
reverse_last xs x = reverse-append xs (x ∷ [])

-- with an innermost brace, the depth and the stack are one more
with_last : (left : List Token) (path : List ℕ) (outer : List OpenBrace) (one : OpenBrace) (places : List Bool) (pieces : Pieces) → TokensLeadRight left path (outer ++ one ∷ []) places pieces ≡ LeadsRight (suc (length outer)) left path (one ∷ reverse outer) places pieces
with_last left path outer one places pieces =
    ap (λ (d : ℕ). LeadsRight d left path (reverse (outer ++ one ∷ [])) places pieces) (length_last outer one) ∙ ap (λ (s : List OpenBrace). LeadsRight (suc (length outer)) left path s places pieces) (reverse_last outer one)

-- a list has no element, or a last one
pub none_or_last : {A : Type 0} (xs : List A) → (xs ≡ []) ⊎ ((others : List A) × (last : A) × (xs ≡ others ++ last ∷ []))
none_or_last [] = inl refl
none_or_last (x ∷ xs) = elim (none_or_last xs) [
  | inl none ↦ inr ([], x, ap (λ ys. x ∷ ys) none)
  | inr some ↦ inr (x ∷ some.0, some.1, ap (λ ys. x ∷ ys) some.2)
]

-- a sign outside braces
right_plain : (sign : ℕ) (t : Token) (left : List Token) (path : List ℕ) (braces after : List OpenBrace) (places next : List Bool) (pieces : Pieces) → rest_of 0 (t ∷ left) ≡ option_map (piece_before (One (Character sign))) (rest_of 0 left)
    → TokensLeadRight (t ∷ left) path braces places pieces → IsPlain sign path braces places after next → braces ≡ [] → TokensLeadRight left path after next pieces
right_plain sign t left path braces after places next pieces is right plain none =
    let step = plain none in
    let before : LeadsRight 0 (t ∷ left) path [] places pieces = subst (λ (bs : List OpenBrace). TokensLeadRight (t ∷ left) path bs places pieces) none right in
    let moved : LeadsRight 0 left path [] next pieces = after_step (One (Character sign)) (rest_of 0 left) before.0 path [] places next pieces (sym is ∙ before.1) before.2 step.1 in
    subst (λ (bs : List OpenBrace). TokensLeadRight left path bs next pieces) (sym step.0) moved

-- one more token
right_more : (t : Token) (left : List Token) (path : List ℕ) (braces after : List OpenBrace) (places next : List Bool) (pieces : Pieces) → TokensLeadRight (t ∷ left) path braces places pieces → IsTokenStep t path braces places after next
    → TokensLeadRight left path after next pieces
right_more (token.Piece p) left path braces after places next pieces right step =
    subst (λ (bs : List OpenBrace). TokensLeadRight left path bs next pieces) (sym step.0) (right_piece (length braces) p left path (reverse braces) places next pieces right step.1)
right_more token.Open left path braces after places next pieces right step =
    let one : OpenBrace = record { start = places; reached = step.0.0 } in
    let moved = right_open (length braces) left path (reverse braces) places step.0.0 pieces right step.0.1 in
    let back : TokensLeadRight left path (braces ++ one ∷ []) places pieces = subst (λ (T : Type 0). T) (sym (with_last left path braces one places pieces)) moved in
    let there : TokensLeadRight left path after places pieces = subst (λ (bs : List OpenBrace). TokensLeadRight left path bs places pieces) (sym step.0.2) back in
    subst (λ (ps : List Bool). TokensLeadRight left path after ps pieces) (sym step.1) there
right_more token.Comma left path braces after places next pieces right step = elim (none_or_last braces) [
  | inl none ↦ right_plain 44 token.Comma left path braces after places next pieces refl right step.0 none
  | inr some ↦
      let parted = step.1 some.0 some.1 some.2 in
      let one : OpenBrace = record { start = some.1.start; reached = parted.0 } in
      let here : TokensLeadRight (token.Comma ∷ left) path (some.0 ++ some.1 ∷ []) places pieces = subst (λ (bs : List OpenBrace). TokensLeadRight (token.Comma ∷ left) path bs places pieces) some.2 right in
      let before = subst (λ (T : Type 0). T) (with_last (token.Comma ∷ left) path some.0 some.1 places pieces) here in
      let moved = right_comma (length some.0) left path some.1 (reverse some.0) places parted.0 pieces before parted.1 in
      let back : TokensLeadRight left path (some.0 ++ one ∷ []) some.1.start pieces = subst (λ (T : Type 0). T) (sym (with_last left path some.0 one some.1.start pieces)) moved in
      let there : TokensLeadRight left path after some.1.start pieces = subst (λ (bs : List OpenBrace). TokensLeadRight left path bs some.1.start pieces) (sym parted.2) back in
      subst (λ (ps : List Bool). TokensLeadRight left path after ps pieces) (sym parted.3) there
]
right_more token.Close left path braces after places next pieces right step = elim (none_or_last braces) [
  | inl none ↦ right_plain 125 token.Close left path braces after places next pieces refl right step.0 none
  | inr some ↦
      let closing = step.1 some.0 some.1 some.2 in
      let here : TokensLeadRight (token.Close ∷ left) path (some.0 ++ some.1 ∷ []) places pieces = subst (λ (bs : List OpenBrace). TokensLeadRight (token.Close ∷ left) path bs places pieces) some.2 right in
      let before = subst (λ (T : Type 0). T) (with_last (token.Close ∷ left) path some.0 some.1 places pieces) here in
      let moved = right_close (length some.0) left path some.1 (reverse some.0) places next pieces before closing.1 in
      subst (λ (bs : List OpenBrace). TokensLeadRight left path bs next pieces) (sym closing.0) moved
]

-- ---- how many places the sets have

abbrev pub AreOfPlaces : ℕ → List OpenBrace → List Bool → Type 0
AreOfPlaces n braces places = All (IsOfPlaces n) braces × (length places ≡ n)

pub without_last : (n : ℕ) (braces outer : List OpenBrace) (one : OpenBrace) → braces ≡ outer ++ one ∷ [] → All (IsOfPlaces n) braces → All (IsOfPlaces n) outer × IsOfPlaces n one
without_last n braces outer one is all = All-pop (IsOfPlaces n) braces outer (Some one) is all

pub with_one_more : (n : ℕ) (after outer : List OpenBrace) (one : OpenBrace) → after ≡ outer ++ one ∷ [] → All (IsOfPlaces n) outer → IsOfPlaces n one → All (IsOfPlaces n) after
with_one_more n after outer one is all here =
    subst (λ (bs : List OpenBrace). All (IsOfPlaces n) bs) (sym is) (All-append (IsOfPlaces n) outer (one ∷ []) all (All-cons (IsOfPlaces n) one [] here (All-nil (IsOfPlaces n))))

sized_plain : (sign : ℕ) (path : List ℕ) (braces after : List OpenBrace) (places next : List Bool) → IsPlain sign path braces places after next → braces ≡ [] → AreOfPlaces (length path + 1) after next
sized_plain sign path braces after places next plain none =
    let step = plain none in
    (subst (λ (bs : List OpenBrace). All (IsOfPlaces (length path + 1)) bs) (sym step.0) (All-nil (IsOfPlaces (length path + 1))), step.1.as_long)

sized_more : (t : Token) (path : List ℕ) (braces after : List OpenBrace) (places next : List Bool) → AreOfPlaces (length path + 1) braces places → IsTokenStep t path braces places after next → AreOfPlaces (length path + 1) after next
sized_more (token.Piece p) path braces after places next sized step = (subst (λ (bs : List OpenBrace). All (IsOfPlaces (length path + 1)) bs) (sym step.0) sized.0, step.1.as_long)
sized_more token.Open path braces after places next sized step =
    (with_one_more (length path + 1) after braces (record { start = places; reached = step.0.0 }) step.0.2 sized.0 (sized.1, step.0.1.as_long ∙ sized.1), ap length step.1 ∙ sized.1)
sized_more token.Comma path braces after places next sized step = elim (none_or_last braces) [
  | inl none ↦ sized_plain 44 path braces after places next step.0 none
  | inr some ↦
      let parted = step.1 some.0 some.1 some.2 in
      let before = without_last (length path + 1) braces some.0 some.1 some.2 sized.0 in
      (with_one_more (length path + 1) after some.0 (record { start = some.1.start; reached = parted.0 }) parted.2 before.0 (before.1.0, parted.1.as_long ∙ before.1.1), ap length parted.3 ∙ before.1.0)
]
sized_more token.Close path braces after places next sized step = elim (none_or_last braces) [
  | inl none ↦ sized_plain 125 path braces after places next step.0 none
  | inr some ↦
      let closing = step.1 some.0 some.1 some.2 in
      let before = without_last (length path + 1) braces some.0 some.1 some.2 sized.0 in
      (subst (λ (bs : List OpenBrace). All (IsOfPlaces (length path + 1)) bs) (sym closing.0) before.0, closing.1.as_long ∙ sized.1)
]

-- ---- the loop over the tokens

-- so far: the tokens left lead right
pub record MatchedSoFar (tokens left : List Token) (path : List ℕ) (braces : List OpenBrace) (places : List Bool) : Type 0 where
  pub sized : AreOfPlaces (length path + 1) braces places
  pub right : (pieces : Pieces) → pieces_of_tokens (Some tokens) ≡ Some pieces → TokensLeadRight left path braces places pieces

pub matched_none : (tokens : List Token) (path : List ℕ) (places : List Bool) (n : ℕ) → n ≡ length path → IsStartAlone n places → MatchedSoFar tokens tokens path [] places
matched_none tokens path places n all start = record {
  sized = (All-nil (IsOfPlaces (length path + 1)), start.as_long ∙ ap (λ (k : ℕ). k + 1) all);
  right = λ pieces is. at_first pieces (rest_of 0 tokens) is refl;
}
  where
    at_first : (whole : Pieces) (o : Option Rest) → option_and_then all_outside o ≡ Some whole → rest_of 0 tokens ≡ o → TokensLeadRight tokens path [] places whole
    at_first whole None e is = absurd (cc)
    at_first whole (Some (inside left others rest)) e is = absurd (cc)
    at_first whole (Some (outside left)) e is = (
      outside left,
      is,
      λ to.
          let same : left ≡ whole = cc in (
            (λ h. subst (λ (ps : Pieces). Takes ps path 0 to) same (subst (λ (k : ℕ). Takes left path k to) ((start.these h.0).0 h.1) h.2)),
            (λ t. (0, (start.these 0).1 refl, subst (λ (ps : Pieces). Takes ps path 0 to) (sym same) t)),
          ),
    )

pub matched_more : (tokens : List Token) (t : Token) (left : List Token) (path : List ℕ) (braces after : List OpenBrace) (places next : List Bool) → MatchedSoFar tokens (t ∷ left) path braces places → IsTokenStep t path braces places after next
    → MatchedSoFar tokens left path after next
matched_more tokens t left path braces after places next so_far step = record {
  sized = sized_more t path braces after places next so_far.sized step;
  right = λ pieces is. right_more t left path braces after places next pieces (so_far.right pieces is) step;
}

pub matched_all : (tokens : List Token) (path : List ℕ) (braces : List OpenBrace) (places : List Bool) → MatchedSoFar tokens [] path braces places → (pieces : Pieces) → pieces_of_tokens (Some tokens) ≡ Some pieces → IsReached pieces path places
matched_all tokens path braces places so_far pieces is = record {
  as_long = so_far.sized.1;
  these = at_last braces (so_far.right pieces is);
}
  where
    at_last : (bs : List OpenBrace) → TokensLeadRight [] path bs places pieces → (to : ℕ) → Holds places to ↔ Takes pieces path 0 to
    at_last (one ∷ bs) (rest, none, these) = absurd (cc)
    at_last [] (rest, end, these) =
        let same : rest ≡ outside no_pieces = cc in
        let all : (to : ℕ) → LeadsOn (outside no_pieces) path (Holds places) [] to ↔ Takes pieces path 0 to = subst (λ (r : Rest). (to : ℕ) → LeadsOn r path (Holds places) [] to ↔ Takes pieces path 0 to) same these in
        λ to. ((λ holds. (all to).0 (to, holds, refl)), (λ t. let h = (all to).1 t in subst (λ (k : ℕ). Holds places k) (sym h.2) h.1))
