use Rattle.std.proofs.Common.{◌≡◌, ◌≢◌, ℕ, ◌^◌, ◌*◌, List, [], ◌∷◌, ◌++◌, length, refl, sym, ap, subst, ◌∙◌, arith, Ok, Result, true≢false}
use Rattle.std.specs.Prelude.{codes, decimal}
use Rattle.std.specs.Fmt.{digits}
use Rattle.std.specs.Str.{IsUtf8, is_utf8, chars}
use Rattle.std.specs.Result.{result_unwrap_or}
use Rattle.hex.specs.declared.error.FromHexError.{FromHexError}
use Rattle.std.specs.Str.Parse.{digits_value}
use Rattle.std.proofs.lemmas.Str.{is_utf8-from_IsUtf8}
use Rattle.std.proofs.lemmas.Fmt.{decimal_is_IsNumeral_wide}
use Rattle.hex.specs.Hex.{lower_digits}
use Rattle.hex.proofs.HexLemmas.{length-encode_with}
use Rattle.hex.proofs.OnLiterals.{hex_on_literals}
use Rattle.sd_plan.specs.Digest.{digits_of}
use Rattle.sd_plan.specs.Examples.{abc_digest}
use Rattle.sd_plan.specs.Escaped.{escape_of}
use Rattle.sd_plan.specs.Reading.{IsDigestField, IsCountField, IsPathField}
use Rattle.sd_plan.proofs.escaping.EscapeLemmas.{unescape_refused, escaped_tells, escape_cases, of_backslash, of_newline, itself}
use Rattle.sd_plan.proofs.fields.FoundLemmas.{digest_decoded}
use Rattle.sd_plan.proofs.examples.these_are_no_fields.Goals as goal

-- a number is the value of its digits
value_is : (field : List ℕ) (count : ℕ) → IsCountField field count → digits_value 10 field ≡ count
value_is field count is = ap (digits_value 10) is.1 ∙ (decimal_is_IsNumeral_wide count (omega (arith, is.0))).1

other_length : (a b : List ℕ) → length a ≢ length b → a ≡ b → ⊥
other_length a b apart e = apart (ap length e)

head : (a b : ℕ) (xs ys : List ℕ) → a ≢ b → a ∷ xs ≡ b ∷ ys → ⊥
head a b xs ys apart e = let same : a ≡ b = cc in apart same

digest_long : (field digest : List ℕ) → IsDigestField field digest → length field ≡ 64
digest_long field digest is = ap length is.1 ∙ length-encode_with lower_digits digest ∙ ap (λ n. 2 * n) is.0.length_is

zero_in_front : (count : ℕ) → IsCountField (codes "01") count → ⊥
unfolding digits
zero_in_front count is =
    let one : 1 ≡ count = value_is (codes "01") count is in
    other_length (codes "01") (decimal 1) (omega arith) (is.1 ∙ ap decimal (sym one))

too_great : (count : ℕ) → IsCountField (codes "340282366920938463463374607431768211456") count → ⊥
too_great count is =
    let great : 2 ^ 128 ≡ count = value_is _ count is in omega (arith, is.0, great)

-- a backslash before another byte, or before none, begins no escape
stray : (b : ℕ) (rest : List ℕ) → b ≢ 92 → b ≢ 110 → (byte : ℕ) (after : List ℕ) → 92 ∷ b ∷ rest ≡ escape_of byte ++ after → ⊥
stray b rest apart other byte after e = elim (escape_cases byte) [
  | of_backslash is so ↦ apart (second b 92 rest after (at so))
  | of_newline is so ↦ other (second b 110 rest after (at so))
  | itself no_backslash plain so ↦ no_backslash (sym (first byte (b ∷ rest) after (at so)))
]
  where
    at : {a : List ℕ} → escape_of byte ≡ a → 92 ∷ b ∷ rest ≡ a ++ after
    at {a} p = e ∙ ap (λ (l : List ℕ). l ++ after) p

    second : (b d : ℕ) (x y : List ℕ) → 92 ∷ b ∷ x ≡ 92 ∷ d ∷ y → b ≡ d
    second b d x y e = cc

    first : (c : ℕ) (x y : List ℕ) → 92 ∷ x ≡ c ∷ y → 92 ≡ c
    first c x y e = cc

cut_off : (byte : ℕ) (after : List ℕ) → 92 ∷ [] ≡ escape_of byte ++ after → ⊥
cut_off byte after e = elim (escape_cases byte) [
  | of_backslash is so ↦ short 92 after (at so)
  | of_newline is so ↦ short 110 after (at so)
  | itself no_backslash plain so ↦ no_backslash (sym (first byte after (at so)))
]
  where
    at : {a : List ℕ} → escape_of byte ≡ a → 92 ∷ [] ≡ a ++ after
    at {a} p = e ∙ ap (λ (l : List ℕ). l ++ after) p

    short : (d : ℕ) (y : List ℕ) → 92 ∷ [] ≡ 92 ∷ d ∷ y → ⊥
    short d y e = cc

    first : (c : ℕ) (y : List ℕ) → 92 ∷ [] ≡ c ∷ y → 92 ≡ c
    first c y e = cc

no_newline : (byte : ℕ) (rest after : List ℕ) → 10 ∷ rest ≡ escape_of byte ++ after → ⊥
no_newline byte rest after e = elim (escape_cases byte) [
  | of_backslash is so ↦ head 10 92 rest (92 ∷ after) (omega arith) (at so)
  | of_newline is so ↦ head 10 92 rest (110 ∷ after) (omega arith) (at so)
  | itself no_backslash plain so ↦ plain (sym (first byte rest after (at so)))
]
  where
    at : {a : List ℕ} → escape_of byte ≡ a → 10 ∷ rest ≡ a ++ after
    at {a} p = e ∙ ap (λ (l : List ℕ). l ++ after) p

    first : (c : ℕ) (x y : List ℕ) → 10 ∷ x ≡ c ∷ y → 10 ≡ c
    first c x y e = cc

some : (x : ℕ) (xs : List ℕ) → x ∷ xs ≡ [] → ⊥
some x xs e = cc

upper_case : (digest : List ℕ) → IsDigestField (codes "BA7816BF8F01CFEA414140DE5DAE2223B00361A396177A9CB410FF61F20015AD") digest → ⊥
unfolding hex_on_literals
upper_case digest is =
    let same : Ok abc_digest ≡ Ok digest = digest_decoded _ digest is in
    let abc : abc_digest ≡ digest = ap (λ (r : Result (List ℕ) FromHexError). result_unwrap_or r []) same in
    head 66 98 _ _ (omega arith) (is.1 ∙ ap digits_of (sym abc))

plus : (count : ℕ) → IsCountField (codes "+1") count → ⊥
unfolding digits
plus count is =
    let so : 361 ≡ count = value_is (codes "+1") count is in
    other_length (codes "+1") (decimal 361) (omega arith) (is.1 ∙ ap decimal (sym so))

no_utf8 : (path : List ℕ) → IsPathField (255 ∷ []) path → ⊥
unfolding is_utf8 chars
no_utf8 path is =
    let same : path ≡ 255 ∷ [] = escaped_tells path (255 ∷ []) (sym is.1) in
    true≢false (sym (is_utf8-from_IsUtf8 (255 ∷ []) (subst IsUtf8 same is.0)))

pub returns : goal.returns
returns c = record {
  upper_case = upper_case;
  few_digits = λ digest is. absurd (omega (arith, digest_long _ digest is));
  leading_zero = zero_in_front;
  plus = plus;
  too_great = too_great;
  stray_backslash = λ path is. unescape_refused (codes "a\\b") (codes "a") (codes "\\b") path refl (some 92 (98 ∷ [])) (stray 98 [] (omega arith) (omega arith)) is.1;
  backslash_at_the_end = λ path is. unescape_refused (codes "a\\") (codes "a") (codes "\\") path refl (some 92 []) cut_off is.1;
  newline = λ path is. unescape_refused (codes "a\nb") (codes "a") (codes "\nb") path refl (some 10 (98 ∷ [])) (λ byte after. no_newline byte (98 ∷ []) after) is.1;
  no_utf8 = no_utf8;
  other_digests_unchanged = λ is. head _ _ _ _ (omega arith) (is.unchanged refl);
  no_path = λ is. is.path_some refl;
}
