-- How the text of a glob is read: characters into symbols, symbols into tokens, tokens into pieces.
use Rattle.std.specs.Prelude.{◌==◌, ◌||◌, ◌&&◌, ◌+◌, ◌*◌, ℕ, zero, suc, Bool, true, false, not, List, [], ◌∷◌, take, drop, Option, Some, None, option_and_then, option_map, if◌then◌else◌}
use Rattle.std.specs.List.{position}
use Rattle.glob_match.specs.declared.piece.Symbol.{Symbol}
use Rattle.glob_match.specs.declared.piece.Symbol.TheVariants.{Plain, Escaped}
use Rattle.glob_match.specs.declared.piece.CharacterRange.{CharacterRange}
use Rattle.glob_match.specs.declared.piece.Piece.{Piece}
use Rattle.glob_match.specs.declared.piece.Single.TheVariants.{Character, AnyCharacter, Class}
use Rattle.glob_match.specs.declared.piece.Piece.TheVariants.{One, AnyRun, AnyDepth, AnyRest}
use Rattle.glob_match.specs.declared.piece.Token.{Token}
use Rattle.glob_match.specs.declared.piece.Token.TheVariants as token
use Rattle.glob_match.specs.declared.piece.Found.{Found}
use Rattle.glob_match.specs.Pieces.{Pieces, Options}
use Rattle.glob_match.specs.Pieces.Pieces.{no_pieces, piece, brace}
use Rattle.glob_match.specs.Pieces.Options.{no_options, option}

-- an element before a list, where there is a list
abbrev pub before : {A : Type 0} → A → Option (List A) → Option (List A)
before x list = option_map (λ xs. x ∷ xs) list

-- ---- symbols

-- the number of leading `!`
abbrev pub negations : List ℕ → ℕ
negations [] = 0
negations (c ∷ glob) = elim (c == 33) [ true ↦ suc (negations glob) | false ↦ 0 ]

-- of a number of `!`, whether they negate
abbrev pub is_odd : ℕ → Bool
is_odd zero = false
is_odd (suc n) = not (is_odd n)

-- what a character stands for after a backslash: `a` for itself, `b` for U+0008, `n`, `r` and `t` for controls
abbrev pub escape : ℕ → ℕ
escape c = if c == 98 then 8 else if c == 110 then 10 else if c == 114 then 13 else if c == 116 then 9 else c

-- The symbols of a text, after a backslash or not. A backslash that is last stands for nothing.
abbrev pub symbols_after : Bool → List ℕ → Option (List Symbol)
symbols_after true [] = None
symbols_after true (c ∷ text) = before (Escaped (escape c)) (symbols_after false text)
symbols_after false [] = Some []
symbols_after false (c ∷ text) = elim (c == 92) [ true ↦ symbols_after true text | false ↦ before (Plain c) (symbols_after false text) ]

-- the symbol is this character, with no backslash
abbrev pub is_sign : ℕ → Symbol → Bool
is_sign c (Plain d) = d == c
is_sign c (Escaped d) = false

abbrev pub character_of : Symbol → ℕ
character_of (Plain c) = c
character_of (Escaped c) = c

-- ---- tokens

-- a piece, and how many symbols after its first one belong to it
abbrev pub found : Piece → ℕ → Option Found
found p more = Some (record { token = token.Piece p; more = more })

-- the members of a class: `a-z` is a range, and every other symbol a member
abbrev pub ranges_of : List Symbol → List CharacterRange
ranges_of [] = []
ranges_of (a ∷ b ∷ c ∷ body) = elim (is_sign 45 b) [
  | true ↦ record { first = character_of a; last = character_of c } ∷ ranges_of body
  | false ↦ record { first = character_of a; last = character_of a } ∷ ranges_of (b ∷ c ∷ body)
]
ranges_of (a ∷ body) = record { first = character_of a; last = character_of a } ∷ ranges_of body

-- a class of a first member and so many others, up to its `]`
abbrev pub class_of : Bool → Symbol → List Symbol → Option ℕ → Option Found
class_of negated first others None = None
class_of negated first others (Some n) = found (One (Class negated (ranges_of (first ∷ take n others)))) (if negated then n + 3 else n + 2)

-- The text of a class after its negation: the first symbol is a member, and the class ends at the next `]`.
abbrev pub class_body : Bool → List Symbol → Option Found
class_body negated [] = None
class_body negated (first ∷ others) = class_of negated first others (position (is_sign 93) others)

-- what stands after `[`: `^` or `!` negates
abbrev pub class_at : List Symbol → Option Found
class_at [] = None
class_at (s ∷ text) = elim (is_sign 94 s || is_sign 33 s) [ true ↦ class_body true text | false ↦ class_body false (s ∷ text) ]

-- how many `/**` stand here in a row
abbrev pub star_tails : List Symbol → ℕ
star_tails (a ∷ b ∷ c ∷ text) = elim (is_sign 47 a && is_sign 42 b && is_sign 42 c) [ true ↦ suc (star_tails text) | false ↦ 0 ]
star_tails _ = 0

-- What a star token with this number of `/**` is, by what stands after it. `starts` says that it begins at the glob's start or just after `/`.
abbrev pub star_before : Bool → ℕ → List Symbol → Option Found
star_before starts tails [] = found AnyRest (3 * tails + 1)
star_before starts tails (s ∷ text) = if is_sign 47 s && (starts || not (tails == 0)) then found AnyDepth (3 * tails + 2) else found AnyRun (3 * tails + 1)

-- what stands after `*`: a second one makes a star token
abbrev pub star_at : Bool → List Symbol → Option Found
star_at starts [] = found AnyRun 0
star_at starts (s ∷ text) = if is_sign 42 s then star_before starts (star_tails text) (drop (3 * star_tails text) text) else found AnyRun 0

-- a token of one symbol
abbrev pub mark : Token → Option Found
mark t = Some (record { token = t; more = 0 })

-- the token that begins with a symbol, before the text after it
abbrev pub token_at : Bool → Symbol → List Symbol → Option Found
token_at starts (Escaped c) text = found (One (Character c)) 0
token_at starts (Plain c) text =
    if c == 91 then class_at text else
    if c == 42 then star_at starts text else
    if c == 63 then found (One AnyCharacter) 0 else
    if c == 123 then mark token.Open else
    if c == 44 then mark token.Comma else
    if c == 125 then mark token.Close else
    found (One (Character c)) 0

-- The tokens of a text, of which the first symbols belong to the token before. `starts` says that it stands at the glob's start or just after `/`.
abbrev pub tokens_from : ℕ → Bool → List Symbol → Option (List Token)
tokens_from more starts [] = Some []
tokens_from (suc more) starts (s ∷ text) = tokens_from more (character_of s == 47) text
tokens_from zero starts (s ∷ text) = option_and_then (λ (one : Found). before one.token (tokens_from one.more (character_of s == 47) text)) (token_at starts s text)

-- ---- pieces

-- What stands from a place of a glob to its end: outside braces the pieces left; in an option its pieces left,
-- the brace's options after it, and what stands after the brace.
pub data Rest : Type 0 where
  outside : Pieces → Rest
  inside : Pieces → Options → Rest → Rest

-- a piece before what stands after it
abbrev pub piece_before : Piece → Rest → Rest
piece_before p (outside left) = outside (piece p left)
piece_before p (inside left others rest) = inside (piece p left) others rest

-- a brace before what stands after it
abbrev pub brace_before : Options → Rest → Rest
brace_before all (outside left) = outside (brace all left)
brace_before all (inside left others rest) = inside (brace all left) others rest

-- a brace's first option begins
abbrev pub opened : Rest → Option Rest
opened (outside left) = None
opened (inside left others rest) = Some (brace_before (option left others) rest)

-- an option ends, and another begins
abbrev pub parted : Rest → Option Rest
parted (outside left) = None
parted (inside left others rest) = Some (inside no_pieces (option left others) rest)

-- Tokens as pieces, within so many open braces, at most ten. Each brace is closed: its last option ends there. Outside braces `,` and `}`
-- are characters.
abbrev pub rest_of : ℕ → List Token → Option Rest
rest_of zero [] = Some (outside no_pieces)
rest_of (suc depth) [] = None
rest_of depth (token.Piece p ∷ tokens) = option_map (piece_before p) (rest_of depth tokens)
rest_of depth (token.Open ∷ tokens) = elim (depth == 10) [ true ↦ None | false ↦ option_and_then opened (rest_of (suc depth) tokens) ]
rest_of zero (token.Comma ∷ tokens) = option_map (piece_before (One (Character 44))) (rest_of zero tokens)
rest_of (suc depth) (token.Comma ∷ tokens) = option_and_then parted (rest_of (suc depth) tokens)
rest_of zero (token.Close ∷ tokens) = option_map (piece_before (One (Character 125))) (rest_of zero tokens)
rest_of (suc depth) (token.Close ∷ tokens) = option_map (inside no_pieces no_options) (rest_of depth tokens)

-- the pieces, where all braces are closed
abbrev pub all_outside : Rest → Option Pieces
all_outside (outside left) = Some left
all_outside (inside left others rest) = None

abbrev pub pieces_of_tokens : Option (List Token) → Option Pieces
pieces_of_tokens tokens = option_and_then (λ read. option_and_then all_outside (rest_of 0 read)) tokens

abbrev pub pieces_of_symbols : Option (List Symbol) → Option Pieces
pieces_of_symbols symbols = option_and_then (λ read. pieces_of_tokens (tokens_from 0 true read)) symbols

-- the pieces of a glob after its `!`s, or none where it is invalid
abbrev pub pieces_of : List ℕ → Option Pieces
pieces_of glob = pieces_of_symbols (symbols_after false (drop (negations glob) glob))
