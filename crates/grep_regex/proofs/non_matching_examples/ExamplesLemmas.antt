-- The bytes of characters, for worked examples.
use Rattle.std.proofs.Common.{◌≡◌, ◌↔◌, ◌⊎◌, ℕ, ◌+◌, ◌-◌, ◌*◌, ◌/◌, ◌%◌, ◌<◌, ◌≤◌, max, [], ◌∷◌, Contains, sym, subst, inl, inr, ⊎_elim, arith}
use Rattle.std.proofs.lemmas.Bool.{cases_lt}
use Rattle.std.proofs.lemmas.Bool.Decides.{nat_tests}
use Rattle.std.proofs.Math.Utf8.{low_scalar, scalar_cases}
use Rattle.std.specs.Char.{IsScalar, encode_utf8}
use Rattle.grep_regex.specs.NonMatching.{Takes}
use Rattle.grep_regex.proofs.non_matching.Utf8Lemmas.{byte_of_form, byte_of_short_form, one_byte, two_bytes, three_bytes, four_bytes}
use Rattle.hir_tree.specs.Ranges.{Holds, IsWithin}
use Rattle.hir_tree.specs.Tree.{class_chars}

-- the bytes of characters of each length
pub of_one : (c b : ℕ) → c < 0x80 → Contains (encode_utf8 c) b ↔ (c ≡ b)
of_one c b high = (
  (λ h. let e : 0 + c ≡ b = (byte_of_short_form 0 c b).0 (subst (λ bs. Contains bs b) (one_byte c high) h) in omega arith),
  (λ e. subst (λ bs. Contains bs b) (sym (one_byte c high)) ((byte_of_short_form 0 c b).1 (omega arith))),
)

pub of_two : (c b : ℕ) → 0x80 ≤ c → c < 0x800 → Contains (encode_utf8 c) b ↔ ((0x80 + c % 64 ≡ b) ⊎ (0xC0 + c / 64 ≡ b))
of_two c b low high = (
  (λ h.
      ⊎_elim (λ e. inl e) (λ top. inr ((byte_of_short_form 0xC0 (c / 64) b).0 top))
      ((byte_of_form 0xC0 0 c b).0 (subst (λ bs. Contains bs b) (two_bytes c low high) h))),
  (λ h.
      subst (λ bs. Contains bs b) (sym (two_bytes c low high))
      ((byte_of_form 0xC0 0 c b).1 (⊎_elim (λ e. inl e) (λ e. inr ((byte_of_short_form 0xC0 (c / 64) b).1 e)) h))),
)

pub of_three : (c b : ℕ) → 0x800 ≤ c → c < 0x1_0000
    → Contains (encode_utf8 c) b ↔ ((0x80 + c % 64 ≡ b) ⊎ ((0x80 + (c / 64) % 64 ≡ b) ⊎ (0xE0 + (c / 64) / 64 ≡ b)))
of_three c b low high = (
  (λ h.
      ⊎_elim (λ e. inl e)
      (λ more. inr (⊎_elim (λ e. inl e) (λ top. inr ((byte_of_short_form 0xE0 ((c / 64) / 64) b).0 top)) ((byte_of_form 0xE0 0 (c / 64) b).0 more)))
      ((byte_of_form 0xE0 1 c b).0 (subst (λ bs. Contains bs b) (three_bytes c low high) h))),
  (λ h.
      subst (λ bs. Contains bs b) (sym (three_bytes c low high))
      ((byte_of_form 0xE0 1 c b).1
      (⊎_elim (λ e. inl e)
      (λ more. inr ((byte_of_form 0xE0 0 (c / 64) b).1 (⊎_elim (λ e. inl e) (λ e. inr ((byte_of_short_form 0xE0 ((c / 64) / 64) b).1 e)) more)))
      h))),
)

-- the first byte of a character of four bytes, and any of its bytes
pub first_of_four : (c b : ℕ) → 0x1_0000 ≤ c → 0xF0 + ((c / 64) / 64) / 64 ≡ b → Contains (encode_utf8 c) b
first_of_four c b low e =
    subst (λ bs. Contains bs b) (sym (four_bytes c low))
    ((byte_of_form 0xF0 2 c b).1 (inr ((byte_of_form 0xF0 1 (c / 64) b).1 (inr ((byte_of_form 0xF0 0 ((c / 64) / 64) b).1 (inr
    ((byte_of_short_form 0xF0 (((c / 64) / 64) / 64) b).1 e)))))))

pub of_four : (c b : ℕ) → 0x1_0000 ≤ c → Contains (encode_utf8 c) b → IsWithin (0x80, 0xBF) b ⊎ (0xF0 + ((c / 64) / 64) / 64 ≡ b)
of_four c b low h =
    ⊎_elim (λ (e : 0x80 + c % 64 ≡ b). inl (omega arith, omega arith))
    (λ more.
    ⊎_elim (λ (e : 0x80 + (c / 64) % 64 ≡ b). inl (omega arith, omega arith))
    (λ most.
    ⊎_elim (λ (e : 0x80 + ((c / 64) / 64) % 64 ≡ b). inl (omega arith, omega arith))
    (λ top. inr ((byte_of_short_form 0xF0 (((c / 64) / 64) / 64) b).0 top))
    ((byte_of_form 0xF0 0 ((c / 64) / 64) b).0 most))
    ((byte_of_form 0xF0 1 (c / 64) b).0 more))
    ((byte_of_form 0xF0 2 c b).0 (subst (λ bs. Contains bs b) (four_bytes c low) h))

high_scalar : (c : ℕ) → 0xE000 ≤ c → c < 0x11_0000 → IsScalar c
high_scalar c low high = grind (arith, nat_tests)

-- a class of one range takes the bytes of a member
member : (first last c b : ℕ) → IsScalar c → first ≤ c → c ≤ last → Contains (encode_utf8 c) b → Takes b (class_chars ((first, last) ∷ []))
member first last c b scalar low high holds = (c, scalar, inl (low, high), holds)

-- and no others
only_members : (first last b : ℕ) (P : Type 0) → ((c : ℕ) → IsScalar c → first ≤ c → c ≤ last → Contains (encode_utf8 c) b → P)
    → Takes b (class_chars ((first, last) ∷ [])) → P
only_members first last b P each h = ⊎_elim (λ (within : IsWithin (first, last) h.0). each h.0 h.1 within.0 within.1 h.3) (λ none. absurd none) h.2

pub ascii : (b : ℕ) → Takes b (class_chars ((0x61, 0x63) ∷ [])) ↔ Holds ((0x61, 0x63) ∷ []) b
ascii b = (
  only_members 0x61 0x63 b _ (λ c scalar low high holds. let e : c ≡ b = (of_one c b (omega arith)).0 holds in inl (omega arith, omega arith)),
  (λ h.
      ⊎_elim
      (λ (within : IsWithin (0x61, 0x63) b). member 0x61 0x63 b b (low_scalar b (omega arith)) within.0 within.1 ((of_one b b (omega arith)).1 (omega arith)))
      (λ none. absurd none)
      h),
)

pub two : (b : ℕ) → Takes b (class_chars ((0xE9, 0xEB) ∷ [])) ↔ Holds ((0xA9, 0xAB) ∷ (0xC3, 0xC3) ∷ []) b
two b = (
  only_members 0xE9 0xEB b _
      (λ c scalar low high holds.
      ⊎_elim (λ (e : 0x80 + c % 64 ≡ b). inl (omega arith, omega arith)) (λ (e : 0xC0 + c / 64 ≡ b). inr (inl (omega arith, omega arith)))
      ((of_two c b (omega arith) (omega arith)).0 holds)),
  (λ h.
      ⊎_elim
      (λ (within : IsWithin (0xA9, 0xAB) b).
      let c = b + 0x40 in
      member 0xE9 0xEB c b (low_scalar c (omega arith)) (omega arith) (omega arith) ((of_two c b (omega arith) (omega arith)).1 (inl (omega arith))))
      (λ other.
      ⊎_elim
      (λ (within : IsWithin (0xC3, 0xC3) b).
      member 0xE9 0xEB 0xE9 b (low_scalar 0xE9 (omega arith)) (omega arith) (omega arith) ((of_two 0xE9 b (omega arith) (omega arith)).1 (inr (omega arith))))
      (λ none. absurd none)
      other)
      h),
)

pub surrogates : (b : ℕ) → Takes b (class_chars ((0xD800, 0xDFFF) ∷ [])) → ⊥
surrogates b =
    only_members 0xD800 0xDFFF b _
    (λ c scalar low high holds. ⊎_elim (λ (less : c < 0xD800). omega arith) (λ (more : (0xE000 ≤ c) × (c < 0x11_0000)). omega arith) (scalar_cases c scalar))

-- the bytes of the two characters beside the surrogates
abbrev BesideSurrogates : ℕ → Type 0
BesideSurrogates = Holds ((0x80, 0x80) ∷ (0x9F, 0x9F) ∷ (0xBF, 0xBF) ∷ (0xED, 0xEE) ∷ [])

-- those of U+D7FF are 0xED, 0x9F and 0xBF
before_surrogates : (b : ℕ) → Contains (encode_utf8 0xD7FF) b → BesideSurrogates b
before_surrogates b holds =
    ⊎_elim (λ (e : 0x80 + 0xD7FF % 64 ≡ b). inr (inr (inl (omega arith, omega arith))))
    (λ more.
    ⊎_elim
    (λ (e : 0x80 + (0xD7FF / 64) % 64 ≡ b). inr (inl (omega arith, omega arith)))
    (λ (e : 0xE0 + (0xD7FF / 64) / 64 ≡ b). inr (inr (inr (inl (omega arith, omega arith)))))
    more)
    ((of_three 0xD7FF b (omega arith) (omega arith)).0 holds)

-- those of U+E000 are 0xEE and twice 0x80
after_surrogates : (b : ℕ) → Contains (encode_utf8 0xE000) b → BesideSurrogates b
after_surrogates b holds =
    ⊎_elim (λ (e : 0x80 + 0xE000 % 64 ≡ b). inl (omega arith, omega arith))
    (λ more.
    ⊎_elim
    (λ (e : 0x80 + (0xE000 / 64) % 64 ≡ b). inl (omega arith, omega arith))
    (λ (e : 0xE0 + (0xE000 / 64) / 64 ≡ b). inr (inr (inr (inl (omega arith, omega arith)))))
    more)
    ((of_three 0xE000 b (omega arith) (omega arith)).0 holds)

pub beside_surrogates : (b : ℕ) → Takes b (class_chars ((0xD7FF, 0xE000) ∷ [])) ↔ BesideSurrogates b
beside_surrogates b = (
  only_members 0xD7FF 0xE000 b _
      (λ c scalar low high holds.
      ⊎_elim
      (λ (less : c < 0xD800). let is : c ≡ 0xD7FF = omega arith in before_surrogates b (subst (λ (d : ℕ). Contains (encode_utf8 d) b) is holds))
      (λ (more : (0xE000 ≤ c) × (c < 0x11_0000)). let is : c ≡ 0xE000 = omega arith in after_surrogates b (subst (λ (d : ℕ). Contains (encode_utf8 d) b) is holds))
      (scalar_cases c scalar)),
  ⊎_elim (λ (is : IsWithin (0x80, 0x80) b). after ((of_three 0xE000 b (omega arith) (omega arith)).1 (inl (omega arith))))
      (⊎_elim (λ (is : IsWithin (0x9F, 0x9F) b). before ((of_three 0xD7FF b (omega arith) (omega arith)).1 (inr (inl (omega arith)))))
      (⊎_elim (λ (is : IsWithin (0xBF, 0xBF) b). before ((of_three 0xD7FF b (omega arith) (omega arith)).1 (inl (omega arith))))
      (⊎_elim
      (λ (is : IsWithin (0xED, 0xEE) b).
      ⊎_elim
      (λ (less : b < 0xEE). before ((of_three 0xD7FF b (omega arith) (omega arith)).1 (inr (inr (omega arith)))))
      (λ (more : 0xEE ≤ b). after ((of_three 0xE000 b (omega arith) (omega arith)).1 (inr (inr (omega arith)))))
      (cases_lt b 0xEE))
      (λ none. absurd none)))),
)
  where
    before : Contains (encode_utf8 0xD7FF) b → Takes b (class_chars ((0xD7FF, 0xE000) ∷ []))
    before holds = member 0xD7FF 0xE000 0xD7FF b (low_scalar 0xD7FF (omega arith)) (omega arith) (omega arith) holds

    after : Contains (encode_utf8 0xE000) b → Takes b (class_chars ((0xD7FF, 0xE000) ∷ []))
    after holds = member 0xD7FF 0xE000 0xE000 b (high_scalar 0xE000 (omega arith) (omega arith)) (omega arith) (omega arith) holds

-- the bytes of UTF-8
abbrev OfUtf8 : ℕ → Type 0
OfUtf8 = Holds ((0, 0xBF) ∷ (0xC2, 0xF4) ∷ [])

of_utf8 : (c b : ℕ) → IsScalar c → c ≤ 0x10FFFF → Contains (encode_utf8 c) b → OfUtf8 b
of_utf8 c b scalar high holds =
    ⊎_elim
    (λ (one : c < 0x80). let e : c ≡ b = (of_one c b one).0 holds in inl (omega arith, omega arith))
    (λ (past_one : 0x80 ≤ c).
    ⊎_elim
    (λ (less : c < 0x800).
    ⊎_elim (λ (e : 0x80 + c % 64 ≡ b). inl (omega arith, omega arith)) (λ (e : 0xC0 + c / 64 ≡ b). inr (inl (omega arith, omega arith)))
    ((of_two c b past_one less).0 holds))
    (λ (past_two : 0x800 ≤ c).
    ⊎_elim
    (λ (less : c < 0x1_0000).
    ⊎_elim (λ (e : 0x80 + c % 64 ≡ b). inl (omega arith, omega arith))
    (λ more.
    ⊎_elim (λ (e : 0x80 + (c / 64) % 64 ≡ b). inl (omega arith, omega arith)) (λ (e : 0xE0 + (c / 64) / 64 ≡ b). inr (inl (omega arith, omega arith)))
    more)
    ((of_three c b past_two less).0 holds))
    (λ (four : 0x1_0000 ≤ c).
    ⊎_elim (λ (is : IsWithin (0x80, 0xBF) b). inl (omega arith, omega arith)) (λ (e : 0xF0 + ((c / 64) / 64) / 64 ≡ b). inr (inl (omega arith, omega arith)))
    (of_four c b four holds))
    (cases_lt c 0x1_0000))
    (cases_lt c 0x800))
    (cases_lt c 0x80)

pub all_of_utf8 : (b : ℕ) → Takes b (class_chars ((0, 0x10FFFF) ∷ [])) ↔ OfUtf8 b
all_of_utf8 b = (
  only_members 0 0x10FFFF b _ (λ c scalar low high holds. of_utf8 c b scalar high holds),
  ⊎_elim
      (λ (is : IsWithin (0, 0xBF) b).
      ⊎_elim
      (λ (one : b < 0x80). low b (omega arith) ((of_one b b one).1 (omega arith)))
      (λ (last : 0x80 ≤ b). low b (omega arith) ((of_two b b last (omega arith)).1 (inl (omega arith))))
      (cases_lt b 0x80))
      (⊎_elim (λ (is : IsWithin (0xC2, 0xF4) b). first is) (λ none. absurd none)),
)
  where
    low : (c : ℕ) → c < 0xD800 → Contains (encode_utf8 c) b → Takes b (class_chars ((0, 0x10FFFF) ∷ []))
    low c less holds = member 0 0x10FFFF c b (low_scalar c less) (omega arith) (omega arith) holds

    high : (c : ℕ) → 0xE000 ≤ c → c < 0x11_0000 → Contains (encode_utf8 c) b → Takes b (class_chars ((0, 0x10FFFF) ∷ []))
    high c more less holds = member 0 0x10FFFF c b (high_scalar c more less) (omega arith) (omega arith) holds

    first : IsWithin (0xC2, 0xF4) b → Takes b (class_chars ((0, 0x10FFFF) ∷ []))
    first is =
        ⊎_elim
        (λ (two : b < 0xE0). let c = (b - 0xC0) * 64 in low c (omega arith) ((of_two c b (omega arith) (omega arith)).1 (inr (omega arith))))
        (λ (past_two : 0xE0 ≤ b).
        ⊎_elim
        (λ (three : b < 0xEE). let c = max 0x800 ((b - 0xE0) * 4096) in low c (omega arith) ((of_three c b (omega arith) (omega arith)).1 (inr (inr (omega arith)))))
        (λ (past_gap : 0xEE ≤ b).
        ⊎_elim
        (λ (three : b < 0xF0). let c = (b - 0xE0) * 4096 in high c (omega arith) (omega arith) ((of_three c b (omega arith) (omega arith)).1 (inr (inr (omega arith)))))
        (λ (four : 0xF0 ≤ b). let c = max 0x1_0000 ((b - 0xF0) * 262144) in high c (omega arith) (omega arith) (first_of_four c b (omega arith) (omega arith)))
        (cases_lt b 0xF0))
        (cases_lt b 0xEE))
        (cases_lt b 0xE0)
