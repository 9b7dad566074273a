-- Whether braces nest well, token by token.
use Rattle.std.proofs.Common.{◌≡◌, ◌↔◌, ◌==◌, ℕ, zero, suc, Bool, true, false, List, [], ◌∷◌, Option, Some, None, IsSome, ◌+◌, ◌<◌, length, drop, get_or, arith, refl, sym, ap, subst, ◌∙◌}
use Rattle.glob_match.specs.Pieces.Options.{no_options}
use Rattle.glob_match.specs.Pieces.Pieces.{no_pieces}
use Rattle.std.specs.Prelude.{option_map, option_and_then}
use Rattle.std.proofs.lemmas.Bool.{ne_eqb}
use Rattle.glob_match.proofs.parse.ReadingLemmas.{drop_next}
use Rattle.glob_match.specs.declared.piece.Piece.{Piece}
use Rattle.glob_match.specs.declared.piece.Token.{Token}
use Rattle.glob_match.specs.declared.piece.Token.TheVariants as token
use Rattle.glob_match.specs.Reading.{Rest, opened, parted, rest_of, all_outside, pieces_of_tokens, piece_before}
use Rattle.glob_match.specs.Reading.Rest.{outside, inside}

-- within so many open braces, the tokens close each and never open an eleventh
abbrev pub nests : ℕ → List Token → Bool
nests zero [] = true
nests (suc depth) [] = false
nests depth (token.Piece p ∷ tokens) = nests depth tokens
nests depth (token.Open ∷ tokens) = elim (depth == 10) [ true ↦ false | false ↦ nests (suc depth) tokens ]
nests depth (token.Comma ∷ tokens) = nests depth tokens
nests zero (token.Close ∷ tokens) = nests zero tokens
nests (suc depth) (token.Close ∷ tokens) = nests depth tokens

-- what is left stands within so many braces
abbrev pub IsWithin : ℕ → Rest → Type 0
IsWithin zero (outside left) = Unit {0}
IsWithin zero (inside left others rest) = ⊥
IsWithin (suc depth) (outside left) = ⊥
IsWithin (suc depth) (inside left others rest) = IsWithin depth rest

-- the test says whether there is such, and then it stands within so many braces
abbrev pub IsTold : Bool → ℕ → Option Rest → Type 0
IsTold true depth None = ⊥
IsTold true depth (Some rest) = IsWithin depth rest
IsTold false depth None = Unit {0}
IsTold false depth (Some rest) = ⊥

told_piece : (b : Bool) (depth : ℕ) (p : Piece) (o : Option Rest) → IsTold b depth o → IsTold b depth (option_map (piece_before p) o)
told_piece true depth p None h = h
told_piece true zero p (Some (outside left)) h = h
told_piece true zero p (Some (inside left others rest)) h = h
told_piece true (suc depth) p (Some (outside left)) h = h
told_piece true (suc depth) p (Some (inside left others rest)) h = h
told_piece false depth p None h = h
told_piece false depth p (Some rest) h = h

told_open : (b : Bool) (depth : ℕ) (o : Option Rest) → IsTold b (suc depth) o → IsTold b depth (option_and_then opened o)
told_open true depth None h = h
told_open true depth (Some (outside left)) h = absurd h
told_open true zero (Some (inside left others (outside after))) h = h
told_open true zero (Some (inside left others (inside after more rest))) h = absurd h
told_open true (suc depth) (Some (inside left others (outside after))) h = absurd h
told_open true (suc depth) (Some (inside left others (inside after more rest))) h = h
told_open false depth None h = h
told_open false depth (Some rest) h = absurd h

told_comma : (b : Bool) (depth : ℕ) (o : Option Rest) → IsTold b (suc depth) o → IsTold b (suc depth) (option_and_then parted o)
told_comma true depth None h = h
told_comma true depth (Some (outside left)) h = absurd h
told_comma true depth (Some (inside left others rest)) h = h
told_comma false depth None h = h
told_comma false depth (Some rest) h = absurd h

told_close : (b : Bool) (depth : ℕ) (o : Option Rest) → IsTold b depth o → IsTold b (suc depth) (option_map (inside no_pieces no_options) o)
told_close true depth None h = h
told_close true depth (Some rest) h = h
told_close false depth None h = h
told_close false depth (Some rest) h = absurd h

nests_told : (depth : ℕ) (tokens : List Token) → IsTold (nests depth tokens) depth (rest_of depth tokens)
nests_told zero [] = tt
nests_told (suc depth) [] = tt
nests_told zero (token.Piece p ∷ tokens) = told_piece (nests zero tokens) zero p (rest_of zero tokens) (nests_told zero tokens)
nests_told (suc depth) (token.Piece p ∷ tokens) = told_piece (nests (suc depth) tokens) (suc depth) p (rest_of (suc depth) tokens) (nests_told (suc depth) tokens)
nests_told zero (token.Open ∷ tokens) = told_open (nests 1 tokens) zero (rest_of 1 tokens) (nests_told 1 tokens)
nests_told (suc depth) (token.Open ∷ tokens) =
    by (suc depth == 10) (told_open (nests (suc (suc depth)) tokens) (suc depth) (rest_of (suc (suc depth)) tokens) (nests_told (suc (suc depth)) tokens))
  where
    by : (b : Bool) → IsTold (nests (suc (suc depth)) tokens) (suc depth) (option_and_then opened (rest_of (suc (suc depth)) tokens))
        → IsTold (elim b as (λ _. Bool) [ true ↦ false | false ↦ nests (suc (suc depth)) tokens ]) (suc depth) (elim b as (λ _. Option Rest) [ true ↦ None | false ↦ option_and_then opened (rest_of (suc (suc depth)) tokens) ])
    by true h = tt
    by false h = h
nests_told zero (token.Comma ∷ tokens) = told_piece (nests zero tokens) zero _ (rest_of zero tokens) (nests_told zero tokens)
nests_told (suc depth) (token.Comma ∷ tokens) = told_comma (nests (suc depth) tokens) depth (rest_of (suc depth) tokens) (nests_told (suc depth) tokens)
nests_told zero (token.Close ∷ tokens) = told_piece (nests zero tokens) zero _ (rest_of zero tokens) (nests_told zero tokens)
nests_told (suc depth) (token.Close ∷ tokens) = told_close (nests depth tokens) depth (rest_of depth tokens) (nests_told depth tokens)

told_some : (b : Bool) (o : Option Rest) → IsTold b 0 o → (b ≡ true) ↔ IsSome (option_and_then all_outside o)
told_some true None h = absurd h
told_some true (Some (outside left)) h = ((λ _. refl), (λ _. refl))
told_some true (Some (inside left others rest)) h = absurd h
told_some false None h = ((λ e. absurd (cc)), (λ s. absurd (cc)))
told_some false (Some rest) h = absurd h

-- braces nest well exactly where the tokens are pieces
pub nests_some : (tokens : List Token) → (nests 0 tokens ≡ true) ↔ IsSome (pieces_of_tokens (Some tokens))
nests_some tokens = told_some (nests 0 tokens) (rest_of 0 tokens) (nests_told 0 tokens)

-- the same by what the test is known to be
pub nests_by : (tokens : List Token) (b : Bool) → nests 0 tokens ≡ b → (b ≡ true) ↔ IsSome (pieces_of_tokens (Some tokens))
nests_by tokens b is = subst (λ (x : Bool). (x ≡ true) ↔ IsSome (pieces_of_tokens (Some tokens))) is (nests_some tokens)

-- tokens read to their end
pub nests_end : (depth : ℕ) → nests depth [] ≡ (depth == 0)
nests_end zero = refl
nests_end (suc depth) = sym (ne_eqb (suc depth) 0 (λ e. absurd (omega arith)))

-- an eleventh brace
pub nests_eleven : (tokens : List Token) (depth at : ℕ) (t d : Token) → nests 0 tokens ≡ nests depth (drop at tokens) → at < length tokens → t ≡ get_or tokens at d → t ≡ token.Open → depth ≡ 10 → (false ≡ true) ↔ IsSome (pieces_of_tokens (Some tokens))
nests_eleven tokens depth at t d so_far lt there sign ten =
    let first = drop_next tokens at t d lt there in
    nests_by tokens false (so_far ∙ ap (nests depth) first ∙ ap (λ (x : Token). nests depth (x ∷ drop (at + 1) tokens)) sign ∙ ap (λ (k : ℕ). nests k (token.Open ∷ drop (at + 1) tokens)) ten)
