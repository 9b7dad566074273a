-- Places between characters as places between bytes.
use Rattle.std.proofs.Common.{◌≡◌, inl, inr, ℕ, ◌+◌, ◌<◌, ◌≤◌, List, [], ◌∷◌, ◌++◌, length, get_or, take, drop, map, chars, encode_utf8_all, IsUtf8, sym, ap, subst, ◌∙◌, arith, length-append, append_assoc}
use Rattle.std.proofs.lemmas.Bool.{cases_eq}
use Rattle.std.proofs.lemmas.List.{append-nil, map-id, take_all, take-append-le, take-append-drop}
use Rattle.std.proofs.lemmas.Str.{encodes-append, encodes-chars, length-encode}
use Rattle.std.proofs.Math.ListN.{get_or-append}
use Rattle.std.proofs.Math.Seq.{get_or-append_seam}
use Rattle.std.specs.Char.{len_utf8}
use Rattle.glob_match.proofs.parse.ReadingLemmas.{drop_next}
use Rattle.glob_match.specs.Captures.{byte_place, AreBytePlaces}

-- the loop over the characters so far: the byte of each place before the one reached, and the byte of this
pub record BytesSoFar (characters bytes : List ℕ) (at : ℕ) : Type 0 where
  pub as_long : length bytes ≡ length characters
  pub these : (place : ℕ) → place < length characters → get_or bytes place 0 ≡ byte_place characters place
  pub here : at ≡ length (encode_utf8_all characters)

-- one more character has its own bytes more
length_more : (characters : List ℕ) (c : ℕ) → length (encode_utf8_all (characters ++ c ∷ [])) ≡ length (encode_utf8_all characters) + len_utf8 c
length_more characters c = ap length (encodes-append characters (c ∷ [])) ∙ length-append (encode_utf8_all characters) (encode_utf8_all (c ∷ [])) ∙ ap (λ (n : ℕ). length (encode_utf8_all characters) + n) (ap length (append-nil _) ∙ length-encode c)

-- of a text's characters so far and the next one, all bytes are in the text
pub bytes_fit : (text yielded bytes : List ℕ) (at c n : ℕ) → IsUtf8 text → BytesSoFar yielded bytes at → map (λ (x : ℕ). x) yielded ≡ take (length yielded) (chars text) → length yielded < length (chars text) → c ≡ get_or (chars text) (length yielded) c
    → n ≡ len_utf8 c → at + n ≤ length text
bytes_fit text yielded bytes at c n utf8 so_far front more next size =
    let all : List ℕ = chars text in
    let same : yielded ≡ take (length yielded) all = sym (map-id yielded) ∙ front in
    let rest : List ℕ = drop (length yielded + 1) all in
    let whole : all ≡ (yielded ++ c ∷ []) ++ rest =
    sym (take-append-drop (length yielded) all) ∙ ap (λ (xs : List ℕ). xs ++ drop (length yielded) all) (sym same) ∙ ap (λ (xs : List ℕ). yielded ++ xs) (drop_next all (length yielded) c c more next) ∙ sym (append_assoc yielded (c ∷ []) rest) in
    let bytes_all : text ≡ encode_utf8_all (yielded ++ c ∷ []) ++ encode_utf8_all rest = sym (encodes-chars text utf8) ∙ ap encode_utf8_all whole ∙ encodes-append (yielded ++ c ∷ []) rest in
    omega (arith, so_far.here, size, length_more yielded c, ap length bytes_all, length-append (encode_utf8_all (yielded ++ c ∷ [])) (encode_utf8_all rest))

-- the place after the characters so far
byte_here : (characters more : List ℕ) (at : ℕ) → at ≡ length (encode_utf8_all characters) → byte_place (characters ++ more) (length characters) ≡ at
byte_here characters more at here =
    ap (λ (xs : List ℕ). length (encode_utf8_all xs)) (take-append-le (length characters) characters more (omega arith) ∙ take_all (length characters) characters (omega arith)) ∙ sym here

pub bytes_more : (characters bytes : List ℕ) (at c n : ℕ) → BytesSoFar characters bytes at → n ≡ len_utf8 c → BytesSoFar (characters ++ c ∷ []) (bytes ++ at ∷ []) (at + n)
bytes_more characters bytes at c n so_far size = record {
  as_long = omega (arith, length-append bytes (at ∷ []), length-append characters (c ∷ []), so_far.as_long);
  these = λ place below. elim (cases_eq place (length characters)) [
    | inl same ↦
        let last : get_or (bytes ++ at ∷ []) (length bytes) 0 ≡ at = get_or-append_seam bytes at [] 0 in
        ap (λ (k : ℕ). get_or (bytes ++ at ∷ []) k 0) (same ∙ sym so_far.as_long) ∙ last ∙ sym (byte_here characters (c ∷ []) at so_far.here) ∙ ap (λ (k : ℕ). byte_place (characters ++ c ∷ []) k) (sym same)
    | inr other ↦
        let within : place < length characters = omega (arith, length-append characters (c ∷ [])) in
        get_or-append bytes (at ∷ []) 0 place (omega (arith, so_far.as_long)) ∙ so_far.these place within
        ∙ ap (λ (xs : List ℕ). length (encode_utf8_all xs)) (sym (take-append-le place characters (c ∷ []) (omega arith)))
  ];
  here = ap (λ (k : ℕ). k + n) so_far.here ∙ ap (λ (k : ℕ). length (encode_utf8_all characters) + k) size ∙ sym (length_more characters c);
}

pub bytes_all : (path characters bytes : List ℕ) (at : ℕ) → BytesSoFar characters bytes at → map (λ (x : ℕ). x) characters ≡ path → AreBytePlaces path (bytes ++ at ∷ [])
bytes_all path characters bytes at so_far whole = subst (λ (cs : List ℕ). AreBytePlaces cs (bytes ++ at ∷ [])) (sym (map-id characters) ∙ whole) (record {
  as_long = omega (arith, length-append bytes (at ∷ []), so_far.as_long);
  these = λ place within. elim (cases_eq place (length characters)) [
    | inl same ↦
        let last : get_or (bytes ++ at ∷ []) (length bytes) 0 ≡ at = get_or-append_seam bytes at [] 0 in
        ap (λ (k : ℕ). get_or (bytes ++ at ∷ []) k 0) (same ∙ sym so_far.as_long) ∙ last ∙ sym (byte_here characters [] at so_far.here) ∙ ap (λ (xs : List ℕ). byte_place xs (length characters)) (append-nil characters) ∙ ap (λ (k : ℕ). byte_place characters k) (sym same)
    | inr other ↦ get_or-append bytes (at ∷ []) 0 place (omega (arith, so_far.as_long)) ∙ so_far.these place (omega arith)
  ];
})
