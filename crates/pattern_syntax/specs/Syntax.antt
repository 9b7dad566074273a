-- How a pattern is put together, how it is written, and where it may stand.
use Rattle.std.specs.Char.{is_ascii_digit}
use Rattle.std.specs.Prelude.{◌≡◌, ℕ, ◌^◌, Bool, true, false, List, [], ◌∷◌, ◌++◌, codes, ◌&&◌, ◌||◌, nat_lt, nat_le, not, if◌then◌else◌, unwrap_or}
use Rattle.std.specs.List.{list_any, list_all}
use Rattle.std.specs.Str.Parse.{digits_value}
use Rattle.unicode.specs.Binary.{is_white_space}
use Rattle.hir_tree.specs.declared.look.Look.{Look}
use Rattle.hir_tree.specs.declared.look.Look.TheVariants as looks
use Rattle.pattern_syntax.specs.declared.flags.Flags.{Flags}
use Rattle.pattern_syntax.specs.Flags.{FlagList, apply, write_flags, FineFlags, Blank, write_blanks, FineBlanks, has, begins, rest, is_nil}
use Rattle.pattern_syntax.specs.Sets.{is_ascii_word}
use Rattle.pattern_syntax.specs.Atom.{Atom, character, write_atom, FineAtom}
use Rattle.pattern_syntax.specs.Class.{Head, Inside, write_head, write_inside, FineHead, FineInside, is_blank_start}

pub data Edge : Type 0 where
  text_start : Edge
  text_end : Edge
  edge : Edge
  no_edge : Edge
  word_start : Edge
  word_end : Edge
  half_start : Edge
  half_end : Edge
  left : Edge
  right : Edge

pub data Single : Type 0 where
  atom : Atom → Single
  dot : Single
  caret : Single
  dollar : Single
  look : Edge → Single
  class : Head → Inside → Single

-- digits, with white space round them
pub record Number : Type 0 where
  pub before : List ℕ
  pub digits : List ℕ
  pub behind : List ℕ

pub data Count : Type 0 where
  optional : Count
  star : Count
  plus : Count
  exactly : Number → Count
  at_least : Number → Count
  between : Number → Number → Count

-- The blanks before a repetition, how often, and whether a `?` swaps its greed. Behind braces blanks may stand before that `?`.
pub record Repeated : Type 0 where
  pub before : List Blank
  pub count : Count
  pub gap : List Blank
  pub swaps : Bool

pub data Kind : Type 0 where
  numbered : Kind
  -- `(?P<name>` or `(?<name>`, with blanks behind the parenthesis
  named : List Blank → Bool → List ℕ → Kind
  -- `(?flags:`
  flagged : List Blank → FlagList → Kind

-- what stands from a place to the end of the group or of the pattern
pub data Syntax : Type 0 where
  end : Syntax
  bar : Syntax → Syntax
  pass : Blank → Syntax → Syntax
  -- `(?flags)`
  set : List Blank → FlagList → Syntax → Syntax
  single : Single → List Repeated → Syntax → Syntax
  group : Kind → Syntax → List Repeated → Syntax → Syntax

-- how each is written, and which look it is, with `u` on or off
abbrev pub edge_of : Edge → List ℕ × (Bool → Look)
edge_of text_start = (codes "\\A", λ u. looks.Start)
edge_of text_end = (codes "\\z", λ u. looks.End)
edge_of edge = (codes "\\b", λ u. if u then looks.WordUnicode else looks.WordAscii)
edge_of no_edge = (codes "\\B", λ u. if u then looks.WordUnicodeNegate else looks.WordAsciiNegate)
edge_of word_start = (codes "\\b{start}", λ u. if u then looks.WordStartUnicode else looks.WordStartAscii)
edge_of word_end = (codes "\\b{end}", λ u. if u then looks.WordEndUnicode else looks.WordEndAscii)
edge_of half_start = (codes "\\b{start-half}", λ u. if u then looks.WordStartHalfUnicode else looks.WordStartHalfAscii)
edge_of half_end = (codes "\\b{end-half}", λ u. if u then looks.WordEndHalfUnicode else looks.WordEndHalfAscii)
edge_of left = (codes "\\<", λ u. if u then looks.WordStartUnicode else looks.WordStartAscii)
edge_of right = (codes "\\>", λ u. if u then looks.WordEndUnicode else looks.WordEndAscii)

-- THE TEXT: each is written before a text `t`
abbrev pub write_single : Single → List ℕ → List ℕ
write_single (atom a) t = write_atom a t
write_single dot t = codes "." ++ t
write_single caret t = codes "^" ++ t
write_single dollar t = codes "$" ++ t
write_single (look e) t = (edge_of e).0 ++ t
write_single (class h p) t = write_head h (write_inside p t)

abbrev pub write_number : Number → List ℕ → List ℕ
write_number n t = n.before ++ n.digits ++ n.behind ++ t

abbrev pub write_count : Count → List ℕ → List ℕ
write_count optional t = codes "?" ++ t
write_count star t = codes "*" ++ t
write_count plus t = codes "+" ++ t
write_count (exactly n) t = codes "{" ++ write_number n (codes "}" ++ t)
write_count (at_least n) t = codes "{" ++ write_number n (codes ",}" ++ t)
write_count (between n m) t = codes "{" ++ write_number n (codes "," ++ write_number m (codes "}" ++ t))

abbrev pub write_swap : Bool → List ℕ → List ℕ
write_swap swaps t = if swaps then codes "?" ++ t else t

abbrev pub write_repeats : List Repeated → List ℕ → List ℕ
write_repeats [] t = t
write_repeats (r ∷ rs) t = write_blanks r.before (write_count r.count (write_blanks r.gap (write_swap r.swaps (write_repeats rs t))))

abbrev pub write_p : Bool → List ℕ → List ℕ
write_p p t = if p then codes "P" ++ t else t

abbrev pub write_kind : Kind → List ℕ → List ℕ
write_kind numbered t = codes "(" ++ t
write_kind (named bs p name) t = codes "(" ++ write_blanks bs (codes "?" ++ write_p p (codes "<" ++ name ++ codes ">" ++ t))
write_kind (flagged bs l) t = codes "(" ++ write_blanks bs (codes "?" ++ write_flags l (codes ":" ++ t))

abbrev pub write : Syntax → List ℕ → List ℕ
write end t = t
write (bar p) t = codes "|" ++ write p t
write (pass b p) t = write_blanks (b ∷ []) (write p t)
write (set bs l p) t = codes "(" ++ write_blanks bs (codes "?" ++ write_flags l (codes ")" ++ write p t))
write (single s rs p) t = write_single s (write_repeats rs (write p t))
write (group k q rs p) t = write_kind k (write q (codes ")" ++ write_repeats rs (write p t)))

-- THE CONDITIONS, where a text `t` follows
abbrev pub is_special : ℕ → Bool
is_special c = has c (codes "\\.+*?()|[{^$")

-- behind `\b` a `{` has a digit behind it
abbrev pub fine_edge : List ℕ → Bool
fine_edge t = not (begins 123 t) || list_any (λ d. begins d (rest t)) (codes "0123456789")

abbrev pub FineLook : Edge → List ℕ → Type 0
FineLook edge t = fine_edge t ≡ true
FineLook _ t = Unit {0}

abbrev pub FineAlone : Flags → Atom → List ℕ → Type 0
FineAlone k (character c) t = (is_special c || is_blank_start k c) ≡ false
FineAlone k a t = FineAtom k a t

abbrev pub FineSingle : Flags → Single → List ℕ → Type 0
FineSingle k (atom a) t = FineAlone k a t
FineSingle k (look e) t = FineLook e t
FineSingle k (class h p) t = FineHead k h (write_inside p t) × FineInside k p t
FineSingle k _ t = Unit {0}

abbrev pub value : Number → ℕ
value n = digits_value 10 n.digits

abbrev pub fine_number : Number → Bool
fine_number n =
    list_all is_white_space n.before && list_all is_white_space n.behind && not (is_nil n.digits)
    && list_all is_ascii_digit n.digits && nat_lt (value n) (2 ^ 32)

abbrev pub fine_count : Count → Bool
fine_count (exactly n) = fine_number n
fine_count (at_least n) = fine_number n
fine_count (between n m) = fine_number n && fine_number m && nat_le (value n) (value m)
fine_count _ = true

abbrev pub is_braced : Count → Bool
is_braced n = begins 123 (write_count n [])

-- a `?` that comes next swaps the greed
abbrev pub swaps_next : Count → List Repeated → Bool
swaps_next n [] = false
swaps_next n (r ∷ rs) = begins 63 (write_count r.count []) && (is_braced n || is_nil r.before)

-- blanks stand between braces and a `?` alone, and such a `?` is no repetition
abbrev pub fine_swap : Repeated → List Repeated → Bool
fine_swap r rs = ((r.swaps && is_braced r.count) || is_nil r.gap) && (r.swaps || not (swaps_next r.count rs))

abbrev pub FineRepeats : Flags → List Repeated → List ℕ → Type 0
FineRepeats k [] t = Unit {0}
FineRepeats k (r ∷ rs) t =
    let w = write_repeats rs t in
    FineBlanks k r.before (write_count r.count (write_blanks r.gap (write_swap r.swaps w))) × FineBlanks k r.gap (write_swap r.swaps w)
    × ((fine_count r.count && fine_swap r rs) ≡ true) × FineRepeats k rs t

-- ASCII letters, digits and `_`, not begun by a digit
abbrev pub is_name : List ℕ → Bool
is_name [] = false
is_name (c ∷ cs) = not (is_ascii_digit c) && list_all is_ascii_word (c ∷ cs)

abbrev pub FineKind : Flags → Kind → Type 0
FineKind k numbered = Unit {0}
FineKind k (named bs p name) = FineBlanks k bs (codes "?") × (is_name name ≡ true)
FineKind k (flagged bs l) = FineBlanks k bs (codes "?") × FineFlags l

abbrev pub inside_flags : Kind → Flags → Flags
inside_flags (flagged bs l) k = apply l k
inside_flags _ k = k

abbrev pub Fine : Flags → Syntax → List ℕ → Type 0
Fine k end t = Unit {0}
Fine k (bar p) t = Fine k p t
Fine k (pass b p) t = FineBlanks k (b ∷ []) (write p t) × Fine k p t
Fine k (set bs l p) t =
    FineBlanks k bs (codes "?") × FineFlags l × (is_nil (l.on ++ unwrap_or l.off []) ≡ false) × Fine (apply l k) p t
Fine k (single s rs p) t = let w = write p t in FineSingle k s (write_repeats rs w) × FineRepeats k rs w × Fine k p t
Fine k (group m q rs p) t =
    let w = write p t in FineKind k m × Fine (inside_flags m k) q (codes ")" ++ write_repeats rs w) × FineRepeats k rs w × Fine k p t
