-- Paths of reserved names.
use Rattle.std.proofs.Common.{◌≡◌, ℕ, ◌<◌, ◌≤◌, ◌/◌, ◌%◌, ◌^◌, ◌-◌, suc, Bool, true, inl, inr, List, [], ◌∷◌, ◌++◌, arith, refl, sym, ap, ◌∙◌, subst, drop, take, length, false, cond, eq-eqb, ne_eqb, eqb}
use Rattle.std.specs.Prelude.{Contains, Some, None, ◌==◌, codes}
use Rattle.std.specs.Str.{NoCharPasses}
use Rattle.std.specs.Str.Pattern.{RFindsChar}
use Rattle.std.proofs.lemmas.List.{get_or_default, take-append-drop}
use Rattle.std.proofs.lemmas.Str.Pattern.{NoCharPasses-char, drop_at_char}
use Rattle.std.specs.Fmt.{digits, digits_onto, digit_glyph, padded_integral, char_count, format_spec}
use Rattle.std.proofs.lemmas.List.Elements.{Contains-append_right}
use Rattle.std.proofs.lemmas.Bool.{cases_lt}
use Rattle.std.proofs.lemmas.Fmt.{hex_one_digit, hex_two_digits}
use Rattle.sd_io.specs.Tree.{Name, NameList}
use Rattle.sd_io.specs.Files.{path_text}
use Rattle.sd_io.proofs.PathTextLemmas.{text_below}
use Rattle.file_exchange.specs.Reserved.{hex_digit, reserved_name, IsReservedPath, IsFolderPath}

-- ---- the last `/` of a text

first_contained : (x : ℕ) (xs : List ℕ) → Contains (x ∷ xs) x
first_contained x xs = (0, omega arith, refl)

-- a text is cut at its last `/` in one way
pub last_cut : (a b front back : List ℕ) → a ++ 47 ∷ b ≡ front ++ 47 ∷ back → (Contains b 47 → ⊥) → (Contains back 47 → ⊥) → a ≡ front
last_cut [] b [] back e none last = refl
last_cut [] b (x ∷ front) back e none last =
    let rest : b ≡ front ++ 47 ∷ back = cc in
    absurd (none (subst (λ (l : List ℕ). Contains l 47) (sym rest) (Contains-append_right front (47 ∷ back) 47 (first_contained 47 back))))
last_cut (x ∷ a) b [] back e none last =
    let rest : a ++ 47 ∷ b ≡ back = cc in
    absurd (last (subst (λ (l : List ℕ). Contains l 47) rest (Contains-append_right a (47 ∷ b) 47 (first_contained 47 b))))
last_cut (x ∷ a) b (y ∷ front) back e none last =
    let first : x ≡ y = cc in
    let rest : a ++ 47 ∷ b ≡ front ++ 47 ∷ back = cc in
    let same = last_cut a b front back rest none last in
    λ i. first i ∷ same i

no_slash : (bs : List ℕ) → NoCharPasses (λ d. d == 47) bs → Contains bs 47 → ⊥
no_slash bs h is = NoCharPasses-char 47 bs is.0 h (omega arith) is.1 (get_or_default bs is.0 0 47 is.1 ∙ is.2)

-- what stands before the last `/` that is found
pub before_found : (bs before after : List ℕ) (i j : ℕ) → RFindsChar 47 bs (Some (i, j)) → before ≡ take i bs → after ≡ drop j bs
    → (front back : List ℕ) → bs ≡ front ++ 47 ∷ back → (Contains back 47 → ⊥) → before ≡ front
before_found bs before after i j found e f front back is none =
    let cut : take i bs ++ 47 ∷ drop j bs ≡ bs = ap (λ (l : List ℕ). take i bs ++ l) (sym (drop_at_char 47 bs i j found.1 (omega arith))) ∙ take-append-drop i bs in
    e ∙ last_cut (take i bs) (drop j bs) front back (cut ∙ is) (no_slash (drop j bs) found.0) none

-- where none is found, the text has none
pub none_found : (bs front back : List ℕ) → RFindsChar 47 bs None → bs ≡ front ++ 47 ∷ back → ⊥
none_found bs front back found is = no_slash bs found (subst (λ (l : List ℕ). Contains l 47) (sym is) (Contains-append_right front (47 ∷ back) 47 (first_contained 47 back)))

-- ---- a name beside another

-- the text of another name of a folder
pub beside : (folder : NameList) (name other : Name) (path before : List ℕ) → path ≡ path_text (folder ++ name ∷ []) → (Contains name 47 → ⊥)
    → ((front back : List ℕ) → path ≡ front ++ 47 ∷ back → (Contains back 47 → ⊥) → before ≡ front) → before ++ 47 ∷ other ≡ path_text (folder ++ other ∷ [])
beside [] name other path before e none cut = ap (λ (l : List ℕ). l ++ 47 ∷ other) (cut [] name e none)
beside (first ∷ folder) name other path before e none cut =
    ap (λ (l : List ℕ). l ++ 47 ∷ other) (cut (path_text (first ∷ folder)) name (e ∙ text_below (first ∷ folder) (name ∷ []) (λ h. cc) (λ h. cc)) none)
    ∙ sym (text_below (first ∷ folder) (other ∷ []) (λ h. cc) (λ h. cc))

-- ---- four hexadecimal digits

module _ (k n : ℕ) (acc : List ℕ) where
  by_test : (b : Bool) → eqb (n / 16) 0 ≡ b → digits_onto (suc k) 16 false n acc ≡ cond b (digit_glyph false (n % 16) ∷ acc) (digits_onto k 16 false (n / 16) (digit_glyph false (n % 16) ∷ acc))
  by_test b e = ap (λ (b : Bool). cond b (digit_glyph false (n % 16) ∷ acc) (digits_onto k 16 false (n / 16) (digit_glyph false (n % 16) ∷ acc))) e

  -- the first digit
  last_digit : n / 16 ≡ 0 → digits_onto (suc k) 16 false n acc ≡ digit_glyph false (n % 16) ∷ acc
  last_digit e = by_test true (eq-eqb _ 0 e)

  -- and every other
  next_digit : (n / 16 ≡ 0 → ⊥) → digits_onto (suc k) 16 false n acc ≡ digits_onto k 16 false (n / 16) (digit_glyph false (n % 16) ∷ acc)
  next_digit more = by_test false (ne_eqb _ 0 more)

three_digits : (n : ℕ) → 256 ≤ n → n < 4096 → digits 16 false n ≡ digit_glyph false (n / 256) ∷ digit_glyph false (n / 16 % 16) ∷ digit_glyph false (n % 16) ∷ []
unfolding digits
three_digits n large small =
    let same : n / 16 / 16 % 16 ≡ n / 256 = omega arith in
    next_digit 63 n [] (λ e. omega arith)
    ∙ next_digit 62 (n / 16) (digit_glyph false (n % 16) ∷ []) (λ e. omega arith)
    ∙ last_digit 61 (n / 16 / 16) (digit_glyph false (n / 16 % 16) ∷ digit_glyph false (n % 16) ∷ []) (omega arith)
    ∙ ap (λ d. digit_glyph false d ∷ digit_glyph false (n / 16 % 16) ∷ digit_glyph false (n % 16) ∷ []) same

four_digits : (n : ℕ) → 4096 ≤ n → n < 65536 → digits 16 false n ≡ digit_glyph false (n / 4096) ∷ digit_glyph false (n / 256 % 16) ∷ digit_glyph false (n / 16 % 16) ∷ digit_glyph false (n % 16) ∷ []
unfolding digits
four_digits n large small =
    let high : n / 16 / 16 / 16 % 16 ≡ n / 4096 = omega arith in
    let next : n / 16 / 16 % 16 ≡ n / 256 % 16 = omega arith in
    next_digit 63 n [] (λ e. omega arith)
    ∙ next_digit 62 (n / 16) (digit_glyph false (n % 16) ∷ []) (λ e. omega arith)
    ∙ next_digit 61 (n / 16 / 16) (digit_glyph false (n / 16 % 16) ∷ digit_glyph false (n % 16) ∷ []) (λ e. omega arith)
    ∙ last_digit 60 (n / 16 / 16 / 16) (digit_glyph false (n / 16 / 16 % 16) ∷ digit_glyph false (n / 16 % 16) ∷ digit_glyph false (n % 16) ∷ []) (omega arith)
    ∙ (λ i. digit_glyph false (high i) ∷ digit_glyph false (next i) ∷ digit_glyph false (n / 16 % 16) ∷ digit_glyph false (n % 16) ∷ [])

-- what `{:04x}` writes
pub hex_word : (n : ℕ) → n < 65536
    → padded_integral (format_spec 32 0 4 4 (2 ^ 64 - 1)) false [] (digits 16 false n)
    ≡ hex_digit (n / 4096) ∷ hex_digit (n / 256 % 16) ∷ hex_digit (n / 16 % 16) ∷ hex_digit (n % 16) ∷ []
unfolding padded_integral char_count
hex_word n small =
    elim (cases_lt n 16) [
      | inl one ↦
          let a : n / 4096 ≡ 0 = omega arith in let b : n / 256 % 16 ≡ 0 = omega arith in let c : n / 16 % 16 ≡ 0 = omega arith in let d : n % 16 ≡ n = omega arith in
          rw (hex_one_digit false n one, a, b, c, d)
      | inr more ↦ elim (cases_lt n 256) [
        | inl two ↦
            let a : n / 4096 ≡ 0 = omega arith in let b : n / 256 % 16 ≡ 0 = omega arith in let c : n / 16 % 16 ≡ n / 16 = omega arith in
            rw (hex_two_digits false n more two, a, b, c)
        | inr large ↦ elim (cases_lt n 4096) [
          | inl three ↦
              let a : n / 4096 ≡ 0 = omega arith in let b : n / 256 % 16 ≡ n / 256 = omega arith in
              rw (three_digits n large three, a, b)
          | inr four ↦ rw (four_digits n four small)
        ]
      ]
    ]

-- the text that is written is the reserved name beside the path
pub written_beside : (path before text : List ℕ) (n : ℕ) → n < 65536
    → text ≡ before ++ 47 ∷ 46 ∷ 115 ∷ 100 ∷ 45 ∷ (padded_integral (format_spec 32 0 4 4 (2 ^ 64 - 1)) false [] (digits 16 false n) ++ codes ".tmp")
    → ((front back : List ℕ) → path ≡ front ++ 47 ∷ back → (Contains back 47 → ⊥) → before ≡ front) → IsReservedPath path n text
written_beside path before text n small is cut =
    λ folder name e none.
    is
    ∙ ap (λ (l : List ℕ). before ++ 47 ∷ 46 ∷ 115 ∷ 100 ∷ 45 ∷ (l ++ codes ".tmp")) (hex_word n small)
    ∙ beside folder name (reserved_name n) path before e none cut

-- ---- the folder's path

pub no_bytes : (bs : List ℕ) → true ≡ (length bs == 0) → bs ≡ []
no_bytes [] e = refl
no_bytes (b ∷ bs) e = cc (e ∙ ne_eqb (length (b ∷ bs)) 0 (λ h. omega arith))

pub some_bytes : (bs : List ℕ) → false ≡ (length bs == 0) → bs ≡ [] → ⊥
some_bytes bs e is = cc (e ∙ ap (λ (l : List ℕ). length l == 0) is)

module _ (path before : List ℕ) (cut : (front back : List ℕ) → path ≡ front ++ 47 ∷ back → (Contains back 47 → ⊥) → before ≡ front) where
  named_below : (first : Name) (folder : NameList) (name : Name) → path ≡ path_text ((first ∷ folder) ++ name ∷ []) → (Contains name 47 → ⊥) → before ≡ path_text (first ∷ folder)
  named_below first folder name e none = cut (path_text (first ∷ folder)) name (e ∙ text_below (first ∷ folder) (name ∷ []) (λ h. cc) (λ h. cc)) none

  -- the top's
  pub folder_is_top : before ≡ [] → IsFolderPath path (47 ∷ [])
  folder_is_top empty [] name e none = refl
  folder_is_top empty (first ∷ folder) name e none = absurd (cc (sym empty ∙ named_below first folder name e none))

  -- any other's
  pub folder_is_below : (before ≡ [] → ⊥) → IsFolderPath path before
  folder_is_below below [] name e none = absurd (below (cut [] name e none))
  folder_is_below below (first ∷ folder) name e none = named_below first folder name e none
