-- Escaped paths: no escape begins another, so they tell their path.
use Rattle.std.proofs.Common.{◌≡◌, ◌≢◌, ℕ, ◌<◌, ◌≤◌, true, List, [], ◌∷◌, ◌++◌, length, get_or, refl, sym, ap, subst, ◌∙◌, inl, inr, append_assoc, append-nil, suc, arith}
use Rattle.std.specs.Prelude.{encode_utf8, encode_utf8_all}
use Rattle.std.specs.Char.{IsScalar}
use lib.Utf8.{scalar}
use Rattle.std.specs.Str.{IsUtf8, IsAscii, all_scalars as scalars}
use Rattle.std.proofs.lemmas.Bool.{cases_eq, cases_lt, and_parts}
use Rattle.std.proofs.lemmas.Str.{IsUtf8-append, IsUtf8-nil, IsUtf8-encode, IsUtf8-from_ascii, encode_ascii, inside_one}
use Rattle.std.proofs.lemmas.Str.Ascii.{IsAscii-cons, IsAscii-nil}
use Rattle.std.proofs.lemmas.List.Concat.{flat_map-append}
use Rattle.sd_plan.specs.Escaped.{escape_of, escaped}
use Rattle.sd_plan.specs.Reading.{Lacks}
use Rattle.sd_plan.proofs.fields.CutLemmas.{Lacks-append}

-- which escape a byte has
pub data Escape (c : ℕ) : Type 0 where
  of_backslash : c ≡ 92 → escape_of c ≡ 92 ∷ 92 ∷ [] → Escape c
  of_newline : c ≡ 10 → escape_of c ≡ 92 ∷ 110 ∷ [] → Escape c
  itself : c ≢ 92 → c ≢ 10 → escape_of c ≡ c ∷ [] → Escape c

pub escape_cases : (c : ℕ) → Escape c
escape_cases c =
    elim (cases_eq c 92) [
      | inl e ↦ of_backslash e (ap escape_of e)
      | inr other ↦ elim (cases_eq c 10) [
        | inl e ↦ of_newline e (ap escape_of e)
        | inr plain ↦ itself other plain (plain_escape c other plain)
      ]
    ]
  where
    plain_escape : (c : ℕ) → c ≢ 92 → c ≢ 10 → escape_of c ≡ c ∷ []
    plain_escape c other plain = grind arith

-- no escape begins another
pub escape_same : (c d : ℕ) (x y : List ℕ) → escape_of c ++ x ≡ escape_of d ++ y → (c ≡ d) × (x ≡ y)
escape_same c d x y e = elim (escape_cases c) [
  | of_backslash c_is c_so ↦ elim (escape_cases d) [
    | of_backslash d_is d_so ↦ (cc, tail_2 92 92 92 92 x y (joined c_so d_so))
    | of_newline d_is d_so ↦ absurd (differ 92 110 x y (omega arith) (joined c_so d_so))
    | itself d_no d_none d_so ↦ absurd (d_no (sym (head (92 ∷ x) y 92 d (joined c_so d_so))))
  ]
  | of_newline c_is c_so ↦ elim (escape_cases d) [
    | of_backslash d_is d_so ↦ absurd (differ 110 92 x y (omega arith) (joined c_so d_so))
    | of_newline d_is d_so ↦ (cc, tail_2 92 110 92 110 x y (joined c_so d_so))
    | itself d_no d_none d_so ↦ absurd (d_no (sym (head (110 ∷ x) y 92 d (joined c_so d_so))))
  ]
  | itself c_no c_none c_so ↦ elim (escape_cases d) [
    | of_backslash d_is d_so ↦ absurd (c_no (head x (92 ∷ y) c 92 (joined c_so d_so)))
    | of_newline d_is d_so ↦ absurd (c_no (head x (110 ∷ y) c 92 (joined c_so d_so)))
    | itself d_no d_none d_so ↦ both c d x y (joined c_so d_so)
  ]
]
  where
    joined : {a b : List ℕ} → escape_of c ≡ a → escape_of d ≡ b → a ++ x ≡ b ++ y
    joined {a} {b} p q = sym (ap (λ (l : List ℕ). l ++ x) p) ∙ e ∙ ap (λ (l : List ℕ). l ++ y) q

    head : (x y : List ℕ) (c d : ℕ) → c ∷ x ≡ d ∷ y → c ≡ d
    head x y c d e = cc

    tail_2 : (a b c d : ℕ) (x y : List ℕ) → a ∷ b ∷ x ≡ c ∷ d ∷ y → x ≡ y
    tail_2 a b c d x y e = cc

    differ : (b d : ℕ) (x y : List ℕ) → b ≢ d → 92 ∷ b ∷ x ≡ 92 ∷ d ∷ y → ⊥
    differ b d x y apart e = let same : b ≡ d = cc in apart same

    both : (c d : ℕ) (x y : List ℕ) → c ∷ x ≡ d ∷ y → (c ≡ d) × (x ≡ y)
    both c d x y e = (cc, cc)

-- no escape is empty
pub escape_some : (c : ℕ) (x : List ℕ) → escape_of c ++ x ≡ [] → ⊥
escape_some c x e = elim (escape_cases c) [
  | of_backslash c_is so ↦ (none 92 (92 ∷ x) (at so))
  | of_newline c_is so ↦ (none 92 (110 ∷ x) (at so))
  | itself apart none_of so ↦ (none c x (at so))
]
  where
    none : (a : ℕ) (x : List ℕ) → a ∷ x ≡ [] → ⊥
    none a x e = cc

    at : {a : List ℕ} → escape_of c ≡ a → a ++ x ≡ []
    at {a} p = sym (ap (λ (l : List ℕ). l ++ x) p) ∙ e

-- What begins with an escaped front is the escaped text of a path that begins with that front.
pub escaped_front : (front path rest : List ℕ) → escaped path ≡ escaped front ++ rest → (more : List ℕ) × (path ≡ front ++ more) × (rest ≡ escaped more)
escaped_front [] path rest e = (path, refl, sym e)
escaped_front (c ∷ front) [] rest e = absurd (escape_some c (escaped front ++ rest) (sym (e ∙ append_assoc (escape_of c) (escaped front) rest)))
escaped_front (c ∷ front) (d ∷ path) rest e =
    let (first, later) = escape_same d c (escaped path) (escaped front ++ rest) (e ∙ append_assoc (escape_of c) (escaped front) rest) in
    let (more, path_is, rest_is) = escaped_front front path rest later in
    (more, (λ i. first i ∷ path_is i), rest_is)

pub escaped_tells : (a b : List ℕ) → escaped a ≡ escaped b → a ≡ b
escaped_tells [] [] e = refl
escaped_tells [] (d ∷ b) e = absurd (escape_some d (escaped b) (sym e))
escaped_tells (c ∷ a) [] e = absurd (escape_some c (escaped a) e)
escaped_tells (c ∷ a) (d ∷ b) e =
    let (first, later) = escape_same c d (escaped a) (escaped b) e in
    λ i. first i ∷ escaped_tells a b later i

-- an escaped path is one line
escape_line : (c : ℕ) → Lacks 10 (escape_of c)
escape_line c = elim (escape_cases c) [
  | of_backslash is so ↦ subst (Lacks 10) (sym so) ((λ h. absurd (omega arith)), ((λ h. absurd (omega arith)), tt))
  | of_newline is so ↦ subst (Lacks 10) (sym so) ((λ h. absurd (omega arith)), ((λ h. absurd (omega arith)), tt))
  | itself apart plain so ↦ subst (Lacks 10) (sym so) (plain, tt)
]

pub escaped_line : (path : List ℕ) → Lacks 10 (escaped path)
escaped_line [] = tt
escaped_line (c ∷ path) = Lacks-append 10 (escape_of c) (escaped path) (escape_line c) (escaped_line path)

-- ---- an escaped path is a text

escaped-append : (a b : List ℕ) → escaped (a ++ b) ≡ escaped a ++ escaped b
escaped-append a b = flat_map-append escape_of a b

-- the bytes of a character past ASCII are themselves
high_itself : (bytes : List ℕ) → ((k : ℕ) → k < length bytes → 128 ≤ get_or bytes k 0) → escaped bytes ≡ bytes
high_itself [] high = refl
high_itself (b ∷ bytes) high =
    let first : 128 ≤ b = high 0 (omega arith) in
    let rest = high_itself bytes (λ k within. high (suc k) (omega arith)) in
    elim (escape_cases b) [
      | of_backslash is so ↦ absurd (omega arith)
      | of_newline is so ↦ absurd (omega arith)
      | itself apart plain so ↦ λ i. so i ++ rest i
    ]

escape_ascii : (c : ℕ) → c < 128 → IsAscii (escape_of c)
escape_ascii c low = elim (escape_cases c) [
  | of_backslash is so ↦ subst IsAscii (sym so) (IsAscii-cons 92 (92 ∷ []) (omega arith) (IsAscii-cons 92 [] (omega arith) IsAscii-nil))
  | of_newline is so ↦ subst IsAscii (sym so) (IsAscii-cons 92 (110 ∷ []) (omega arith) (IsAscii-cons 110 [] (omega arith) IsAscii-nil))
  | itself apart plain so ↦ subst IsAscii (sym so) (IsAscii-cons c [] low IsAscii-nil)
]

character_text : (c : ℕ) → IsScalar c → IsUtf8 (escaped (encode_utf8 c))
character_text c scalar = elim (cases_lt c 128) [
  | inl low ↦
      let one : escaped (encode_utf8 c) ≡ escape_of c = ap escaped (encode_ascii c low) ∙ append-nil (escape_of c) in
      subst IsUtf8 (sym one) (IsUtf8-from_ascii (escape_of c) (escape_ascii c low))
  | inr high ↦
      let same : escaped (encode_utf8 c) ≡ encode_utf8 c = high_itself (encode_utf8 c) (no_low high) in
      subst IsUtf8 (sym same) (IsUtf8-encode c scalar)
]
  where
    no_low : 128 ≤ c → (k : ℕ) → k < length (encode_utf8 c) → 128 ≤ get_or (encode_utf8 c) k 0
    no_low high k within = elim (cases_lt (get_or (encode_utf8 c) k 0) 128) [
      | inl low ↦ let same : c ≡ get_or (encode_utf8 c) k 0 = inside_one c [] (encode_utf8 c) k (sym (append-nil (encode_utf8 c))) within low in absurd (omega arith)
      | inr fine ↦ fine
    ]

pub escaped_text : (path : List ℕ) → IsUtf8 path → IsUtf8 (escaped path)
escaped_text path (characters, (scalars_are, e)) = subst (λ (p : List ℕ). IsUtf8 (escaped p)) e (all characters scalars_are)
  where
    all : (cs : List ℕ) → scalars cs ≡ true → IsUtf8 (escaped (encode_utf8_all cs))
    all [] h = IsUtf8-nil
    all (c ∷ cs) h =
        let parts = and_parts (scalar c) (scalars cs) h in
        subst IsUtf8 (sym (escaped-append (encode_utf8 c) (encode_utf8_all cs)))
        (IsUtf8-append (escaped (encode_utf8 c)) (escaped (encode_utf8_all cs)) (character_text c parts.0) (all cs parts.1))

-- ---- where no escape comes next, there is no path

pub unescape_refused : (field path rest other : List ℕ) → field ≡ escaped path ++ rest → rest ≢ [] → ((byte : ℕ) (after : List ℕ) → rest ≡ escape_of byte ++ after → ⊥) → field ≡ escaped other → ⊥
unescape_refused field path rest other so some none e =
    let (more, _, rest_is) = escaped_front path other rest (sym e ∙ so) in by_more more rest_is
  where
    by_more : (more : List ℕ) → rest ≡ escaped more → ⊥
    by_more [] rest_is = some rest_is
    by_more (c ∷ more) rest_is = none c (escaped more) rest_is
