-- First derivations, step by step.
use Rattle.std.proofs.Common.{◌≡◌, ◌≢◌, inl, inr, ℕ, ◌+◌, ◌-◌, ◌≤◌, List, [], ◌∷◌, ◌++◌, length, slice_get, map, Some, refl, subst, arith}
use Rattle.std.proofs.lemmas.Bool.{cases_eq}
use Rattle.glob_match.specs.declared.piece.Single.TheVariants.{Character}
use Rattle.glob_match.specs.declared.piece.Piece.{Piece}
use Rattle.glob_match.specs.declared.piece.Piece.TheVariants.{One}
use Rattle.glob_match.specs.declared.walk.Capture.{Capture}
use Rattle.glob_match.specs.Pieces.{Pieces, Options}
use Rattle.glob_match.specs.Pieces.Pieces.{no_pieces, piece, brace}
use Rattle.glob_match.specs.Pieces.Options.{no_options, option}
use Rattle.glob_match.specs.Reading.{negations, pieces_of}
use Rattle.glob_match.specs.Takes.{PieceTakes, Takes, OptionTakes, IsAfterSeparator}
use Rattle.glob_match.specs.Captures.{between, captured, passed, passed_options, LeadsOn, IsFirst, IsFirstOption, IsEnd, byte_range}
use Rattle.glob_match.specs.Examples.{HasCaptures}

mutual
  -- the first derivation is one
  first_takes : (whole : Pieces) (path : List ℕ) (Goes : ℕ → Type 0) (from to : ℕ) (captures : List Capture) → IsFirst whole path Goes from to captures → Takes whole path from to
  first_takes no_pieces path Goes from to captures h = h.0
  first_takes (piece p others) path Goes from to captures h = (h.0, h.2.holds.0, first_takes others path Goes h.0 to h.1 h.3)
  first_takes (brace all others) path Goes from to captures h = (h.0, option_takes all path (LeadsOn others path Goes) from h.0 h.1 h.3, first_takes others path Goes h.0 to h.2 h.4)

  option_takes : (options : Options) (path : List ℕ) (Goes : ℕ → Type 0) (from to : ℕ) (captures : List Capture) → IsFirstOption options path Goes from to captures → OptionTakes options path from to
  option_takes no_options path Goes from to captures h = h
  option_takes (option first others) path Goes from to captures h = elim h [
    | inl l ↦ inl (first_takes first path Goes from to l.1.0 l.1.1)
    | inr r ↦ inr (option_takes others path Goes from to r.1.0 r.1.1)
  ]

-- the pieces are taken by their first derivation, and from its end one may go on
pub record Derives (whole : Pieces) (path : List ℕ) (Goes : ℕ → Type 0) (from to : ℕ) (captures : List Capture) : Type 0 where
  pub first : IsFirst whole path Goes from to captures
  pub goes : Goes to

pub leads : {whole : Pieces} {path : List ℕ} {Goes : ℕ → Type 0} {from to : ℕ} {captures : List Capture} → Derives whole path Goes from to captures → LeadsOn whole path Goes from
leads {whole = whole} {path = path} {Goes = Goes} {from = from} {to = to} {captures = captures} d = (to, first_takes whole path Goes from to captures d.first, d.goes)

pub by_nothing : {path : List ℕ} {Goes : ℕ → Type 0} {place : ℕ} → Goes place → Derives no_pieces path Goes place place []
by_nothing goes = record { first = (refl, refl); goes = goes }

pub by_piece : {p : Piece} {others : Pieces} {path : List ℕ} {Goes : ℕ → Type 0} {from to : ℕ} {captures : List Capture} (mid : ℕ) → PieceTakes p path from mid → ((n : ℕ) → PieceTakes p path from n → LeadsOn others path Goes n → mid ≤ n)
    → Derives others path Goes mid to captures → Derives (piece p others) path Goes from to (captured p from mid ++ captures)
by_piece {captures = captures} mid takes least d = record {
  first = (mid, captures, record { holds = (takes, leads d); below_all = λ n h. least n h.0 h.1 }, d.first, refl);
  goes = d.goes;
}

pub by_character : {c : ℕ} {others : Pieces} {path : List ℕ} {Goes : ℕ → Type 0} {from to : ℕ} {captures : List Capture} → slice_get path from ≡ Some c → Derives others path Goes (from + 1) to captures
    → Derives (piece (One (Character c)) others) path Goes from to captures
by_character {c = c} {from = from} there d = by_piece (from + 1) (c, there, refl, refl) (λ n takes others. omega (arith, takes.3)) d

-- the first option that can go on, and what it captures
pub record Chooses (options : Options) (path : List ℕ) (Goes : ℕ → Type 0) (from to : ℕ) (captures : List Capture) : Type 0 where
  pub first : IsFirstOption options path Goes from to captures

pub by_this_option : {first : Pieces} {others : Options} {path : List ℕ} {Goes : ℕ → Type 0} {from to : ℕ} {captures : List Capture} → Derives first path Goes from to captures → Chooses (option first others) path Goes from to (captures ++ passed_options others from)
by_this_option {captures = captures} d = record { first = inl (leads d, (captures, d.first, refl)) }

pub by_other_option : {first : Pieces} {others : Options} {path : List ℕ} {Goes : ℕ → Type 0} {from to : ℕ} {captures : List Capture} → ¬ (LeadsOn first path Goes from) → Chooses others path Goes from to captures
    → Chooses (option first others) path Goes from to (passed first from ++ captures)
by_other_option {captures = captures} stops d = record { first = inr (stops, (captures, d.first, refl)) }

pub by_brace : {all : Options} {others : Pieces} {path : List ℕ} {Goes : ℕ → Type 0} {from to : ℕ} {inner captures : List Capture} (mid : ℕ) → Chooses all path (LeadsOn others path Goes) from mid inner → Derives others path Goes mid to captures
    → Derives (brace all others) path Goes from to (between from mid ∷ (inner ++ captures))
by_brace {inner = inner} {captures = captures} mid d rest = record { first = (mid, inner, captures, d.first, rest.first, refl); goes = rest.goes }

-- what a derivation captures is what the glob does
pub has_captures : (glob path : List ℕ) (whole : Pieces) (captures : List Capture) → pieces_of glob ≡ Some whole → negations glob ≡ 0 → Derives whole path (IsEnd path) 0 (length path) captures → HasCaptures glob path (map (byte_range path) captures)
has_captures glob path whole captures read signs d =
    rw (read, signs) (first_takes whole path (IsEnd path) 0 (length path) captures d.first, (captures, d.first, refl))

-- ---- places that a star token with its `/` doesn't lead to

pub no_separator : (path : List ℕ) (place c : ℕ) → slice_get path place ≡ Some c → c ≢ 47 → ¬ (IsAfterSeparator path (place + 1))
no_separator path place c there other after = elim after [
  | inl start ↦ absurd (omega arith)
  | inr h ↦
      let same : place + 1 - 1 ≡ place = omega arith in
      let sign : slice_get path place ≡ Some 47 = rw same at h.1 in
      absurd (other (cc (there, sign)))
]

-- a number that is at least this one, and isn't it, is at least the next
pub pass : (P : ℕ → Type 0) (k n : ℕ) → P n → k ≤ n → ¬ (P k) → k + 1 ≤ n
pass P k n h le not_here = elim (cases_eq n k) [ inl same ↦ absurd (not_here (subst P same h)) | inr other ↦ omega arith ]

-- ---- another letter

pub not_taken : (others : Pieces) (path : List ℕ) (place to letter c : ℕ) → slice_get path place ≡ Some letter → letter ≢ c → ¬ (Takes (piece (One (Character c)) others) path place to)
not_taken others path place to letter c there other h =
    let sign = h.1.1 in
    let same = h.1.2 in
    let is : letter ≡ c = cc in
    absurd (other is)

pub leads_not : (others : Pieces) (path : List ℕ) (Goes : ℕ → Type 0) (place letter c : ℕ) → slice_get path place ≡ Some letter → letter ≢ c → ¬ (LeadsOn (piece (One (Character c)) others) path Goes place)
leads_not others path Goes place letter c there other h = not_taken others path place h.0 letter c there other h.1

-- an option that begins with another letter isn't taken
pub by_other_letter : {c : ℕ} {left : Pieces} {others : Options} {path : List ℕ} {Goes : ℕ → Type 0} {from to : ℕ} {captures : List Capture} (letter : ℕ) → slice_get path from ≡ Some letter → letter ≢ c → Chooses others path Goes from to captures
    → Chooses (option (piece (One (Character c)) left) others) path Goes from to (passed (piece (One (Character c)) left) from ++ captures)
by_other_letter {c = c} {left = left} {path = path} {Goes = Goes} {from = from} letter there other d = by_other_option (leads_not left path Goes from letter c there other) d
