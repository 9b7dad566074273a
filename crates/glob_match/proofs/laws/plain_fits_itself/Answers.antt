use Rattle.std.proofs.Common.{◌≡◌, ◌↔◌, ◌==◌, ◌<◌, ◌≤◌, ℕ, suc, Bool, true, false, List, [], ◌∷◌, All, map, length, drop, get_or, Option, Some, None, inl, inr, arith, refl, sym, subst, ap, ◌∙◌, length-drop, drop-cons}
use Rattle.std.specs.Prelude.{option_map, option_and_then, IsSomeAnd}
use Rattle.std.proofs.Math.ListN.{drop_of_length-le}
use Rattle.std.proofs.lemmas.Bool.{ne_eqb, cases_eq}
use Rattle.std.proofs.lemmas.Option.{slice_get_within, slice_get-get_or, get_or_from_slice_get}
use Rattle.std.proofs.lemmas.List.Elements.{All-head, All-tail}
use Rattle.glob_match.specs.declared.piece.Symbol.{Symbol}
use Rattle.glob_match.specs.declared.piece.Symbol.TheVariants.{Plain}
use Rattle.glob_match.specs.declared.piece.Single.TheVariants.{Character}
use Rattle.glob_match.specs.declared.piece.Piece.TheVariants.{One}
use Rattle.glob_match.specs.declared.piece.Token.{Token}
use Rattle.glob_match.specs.declared.piece.Token.TheVariants as token
use Rattle.glob_match.specs.Pieces.{Pieces}
use Rattle.glob_match.specs.Pieces.Pieces.{no_pieces, piece}
use Rattle.glob_match.specs.Laws.{IsPlain}
use Rattle.glob_match.specs.Reading.{Rest, before, found, negations, symbols_after, token_at, tokens_from, rest_of, all_outside, pieces_of_tokens, pieces_of_symbols, pieces_of, piece_before}
use Rattle.glob_match.specs.Reading.Rest.{outside}
use Rattle.glob_match.specs.Takes.{Takes, FitsUnder}
use Rattle.glob_match.proofs.parse.ReadingLemmas.{plain_first, token_first}
use Rattle.glob_match.proofs.laws.plain_fits_itself.Goals as goal

-- the pieces of characters
abbrev pub characters : List ℕ → Pieces
characters [] = no_pieces
characters (c ∷ text) = piece (One (Character c)) (characters text)

plain_signs : (glob : List ℕ) → All IsPlain glob → negations glob ≡ 0
plain_signs [] all = refl
plain_signs (c ∷ glob) all = rw (ne_eqb c 33 (All-head IsPlain c glob all).no_sign, negations) refl

plain_symbols : (glob : List ℕ) → All IsPlain glob → symbols_after false glob ≡ Some (map Plain glob)
plain_symbols [] all = refl
plain_symbols (c ∷ glob) all = plain_first c glob (ne_eqb c 92 (All-head IsPlain c glob all).no_backslash) ∙ ap (before (Plain c)) (plain_symbols glob (All-tail IsPlain c glob all))

-- what the tokens are, where there are tokens
abbrev pub rests : Option (List Token) → Option Rest
rests None = None
rests (Some tokens) = rest_of 0 tokens

rests_piece : (c : ℕ) (o : Option (List Token)) → rests (before (token.Piece (One (Character c))) o) ≡ option_map (piece_before (One (Character c))) (rests o)
rests_piece c None = refl
rests_piece c (Some tokens) = refl

rests_comma : (o : Option (List Token)) → rests (before token.Comma o) ≡ option_map (piece_before (One (Character 44))) (rests o)
rests_comma None = refl
rests_comma (Some tokens) = refl

rests_close : (o : Option (List Token)) → rests (before token.Close o) ≡ option_map (piece_before (One (Character 125))) (rests o)
rests_close None = refl
rests_close (Some tokens) = refl

-- a plain character is a piece of itself
plain_one : (c : ℕ) (starts : Bool) (text : List Symbol) → IsPlain c → rests (tokens_from 0 starts (Plain c ∷ text)) ≡ option_map (piece_before (One (Character c))) (rests (tokens_from 0 (c == 47) text))
plain_one c starts text plain = elim (cases_eq c 44) [
  | inl same ↦ subst (λ (x : ℕ). rests (tokens_from 0 starts (Plain x ∷ text)) ≡ option_map (piece_before (One (Character x))) (rests (tokens_from 0 (x == 47) text))) (sym same) (rests_comma (tokens_from 0 (44 == 47) text))
  | inr o1 ↦ elim (cases_eq c 125) [
    | inl same ↦ subst (λ (x : ℕ). rests (tokens_from 0 starts (Plain x ∷ text)) ≡ option_map (piece_before (One (Character x))) (rests (tokens_from 0 (x == 47) text))) (sym same) (rests_close (tokens_from 0 (125 == 47) text))
    | inr o2 ↦
        let is : token_at starts (Plain c) text ≡ found (One (Character c)) 0 =
        rw (ne_eqb c 91 plain.no_class, ne_eqb c 42 plain.no_star, ne_eqb c 63 plain.no_mark, ne_eqb c 123 plain.no_brace, ne_eqb c 44 o1, ne_eqb c 125 o2, token_at) refl in
        ap rests (token_first starts (Plain c) text (record { token = token.Piece (One (Character c)); more = 0 }) is) ∙ rests_piece c (tokens_from 0 (c == 47) text)
  ]
]

plain_rests : (glob : List ℕ) (starts : Bool) → All IsPlain glob → rests (tokens_from 0 starts (map Plain glob)) ≡ Some (outside (characters glob))
plain_rests [] starts all = refl
plain_rests (c ∷ glob) starts all = plain_one c starts (map Plain glob) (All-head IsPlain c glob all) ∙ ap (option_map (piece_before (One (Character c)))) (plain_rests glob (c == 47) (All-tail IsPlain c glob all))

of_rests : (o : Option (List Token)) (whole : Pieces) → rests o ≡ Some (outside whole) → pieces_of_tokens o ≡ Some whole
of_rests None whole is = absurd (cc)
of_rests (Some tokens) whole is = ap (option_and_then all_outside) is

plain_pieces : (glob : List ℕ) → All IsPlain glob → pieces_of glob ≡ Some (characters glob)
plain_pieces glob all =
    ap (λ (n : ℕ). pieces_of_symbols (symbols_after false (drop n glob))) (plain_signs glob all) ∙ ap pieces_of_symbols (plain_symbols glob all)
    ∙ of_rests (tokens_from 0 true (map Plain glob)) (characters glob) (plain_rests glob true all)

-- characters take what is left of a path exactly if it is their text
plain_takes : (glob path : List ℕ) (from : ℕ) → from ≤ length path → Takes (characters glob) path from (length path) ↔ (drop from path ≡ glob)
plain_takes [] path from le = (
  (λ e. drop_of_length-le path (omega arith)),
  (λ e. omega (arith, length-drop from path, ap length e)),
)
plain_takes (c ∷ glob) path from le = (
  (λ h.
      let there = h.1.1 ∙ ap Some h.1.2 in
      let within = slice_get_within path from c there in
      let first = get_or_from_slice_get path from c 0 there in
      let rest = (plain_takes glob path h.0 (omega (arith, h.1.3))).0 h.2 in
      let next : h.0 ≡ suc from = omega (arith, h.1.3) in
      let left : drop (suc from) path ≡ glob = subst (λ (k : ℕ). drop k path ≡ glob) next rest in
      let split = drop-cons path from 0 within in
      cc),
  (λ e.
      let within : from < length path = omega (arith, length-drop from path, ap length e) in
      let split = drop-cons path from 0 within in
      let first : get_or path from 0 ≡ c = cc in
      let left : drop (suc from) path ≡ glob = cc in
      let here = slice_get-get_or path from 0 within ∙ ap Some first in
      (suc from, (c, here, refl, omega arith), (plain_takes glob path (suc from) within).1 left)),
)

pub returns : goal.returns
returns c = λ glob path all.
    let takes : IsSomeAnd (Some (characters glob)) (λ pieces. FitsUnder 0 pieces path) ↔ (path ≡ glob) = plain_takes glob path 0 (omega arith) in
    let read : IsSomeAnd (pieces_of glob) (λ pieces. FitsUnder 0 pieces path) ↔ (path ≡ glob) = subst (λ (o : Option Pieces). IsSomeAnd o (λ pieces. FitsUnder 0 pieces path) ↔ (path ≡ glob)) (sym (plain_pieces glob all)) takes in
    subst (λ (n : ℕ). IsSomeAnd (pieces_of glob) (λ pieces. FitsUnder n pieces path) ↔ (path ≡ glob)) (sym (plain_signs glob all)) read
