-- Characters that come next in turn, behind blanks.
use Rattle.std.proofs.Common.{◌≡◌, ◌<◌, ◌≤◌, ℕ, ◌+◌, Bool, true, false, List, [], ◌∷◌, ◌++◌, ◌==◌, ◌&&◌, not, codes, length, drop, length-drop, refl, sym, ap, ◌∙◌, subst, arith}
use Rattle.std.proofs.lemmas.Bool.{and_parts}
use Rattle.std.proofs.lemmas.Bool.Decides.{nat_tests}
use Rattle.ucd_props.proofs.Computing.{ucd_props}
use Rattle.unicode.specs.Binary.{is_white_space}
use Rattle.pattern_syntax.specs.declared.flags.Flags.{Flags}
use Rattle.pattern_syntax.specs.Flags.{Blank, write_blanks, FineBlanks, has, seen}
use Rattle.pattern_syntax.specs.Atom.{Digit, write_digits, spelt, FineSpaced, FineBraced}
use Rattle.pattern_syntax.specs.Escapes.{Spells, in_braces}
use Rattle.pattern_syntax.proofs.BlanksLemmas.{head, tail, IsClear, seen_behind, no_or_left, no_or_right, two, apart}
use Rattle.pattern_syntax.proofs.spelling.BlanksSplit.{nil_cons, or_none, split, blanks_head, seen_shorter}
use Rattle.std.specs.List.{list_all}

-- nothing that is passed over begins with it
abbrev pub is_clear : ℕ → Bool
is_clear c = not (is_white_space c) && not (c == 35)

clear_head : (c : ℕ) (t : List ℕ) → is_clear c ≡ true → IsClear (c ∷ t)
clear_head c t h = two (is_white_space c) (c == 35) h

brace_clear : is_white_space 123 ≡ false
unfolding ucd_props
brace_clear = refl

closing_clear : is_white_space 125 ≡ false
unfolding ucd_props
closing_clear = refl

pub not_same : (c d : ℕ) → (c ≡ d → ⊥) → (c == d) ≡ false
not_same c d h = grind (arith, nat_tests)

pub is_on : (b : Bool) → not b ≡ false → b ≡ true
is_on true h = refl
is_on false h = sym h

-- ---- one character more

pub spells_next : (k : Flags) (cs w v : List ℕ) (c : ℕ) (u : List ℕ) → Spells k cs w v → seen k v ≡ c ∷ u → Spells k (cs ++ c ∷ []) w u
spells_next k [] w v c u s h = (u, ap (seen k) s ∙ h, refl)
spells_next k (d ∷ cs) w v c u (x, e, s) h = (x, e, spells_next k cs x v c u s h)

pub has_next : (d : ℕ) (cs : List ℕ) (c : ℕ) → has d cs ≡ false → (c == d) ≡ false → has d (cs ++ c ∷ []) ≡ false
has_next d [] c h e = or_none (c == d) false e refl
has_next d (b ∷ cs) c h e = or_none (b == d) (has d (cs ++ c ∷ [])) (no_or_left (b == d) (has d cs) h) (has_next d cs c (no_or_right (b == d) (has d cs) h) e)

pub spells_shorter : (k : Flags) (cs w t : List ℕ) → Spells k cs w t → length t ≤ length w
spells_shorter k [] w t s = let e = ap length s in omega arith
spells_shorter k (c ∷ cs) w t (v, h, s) =
    let more = spells_shorter k cs v t s in
    let e : length (seen k w) ≡ length (c ∷ v) = ap length h in
    let fewer = seen_shorter k w in omega arith

-- ---- one text spells one thing

same_tail : (w : List ℕ) (c d : ℕ) (x y : List ℕ) → w ≡ c ∷ x → w ≡ d ∷ y → x ≡ y
same_tail w c d x y e f = ap tail (sym e ∙ f)

same_head : (w : List ℕ) (c d : ℕ) (x y : List ℕ) → w ≡ c ∷ x → w ≡ d ∷ y → c ≡ d
same_head w c d x y e f = ap head (sym e ∙ f)

-- where nothing comes next no more is spelled
pub spells_end : (k : Flags) (cs ds w v t : List ℕ) → Spells k cs w v → seen k v ≡ [] → Spells k ds w t → length cs < length ds → ⊥
spells_end k [] [] w v t s h r lt = absurd (omega arith)
spells_end k [] (d ∷ ds) w v t s h (y, f, r) lt = nil_cons d y (sym h ∙ sym (ap (seen k) s) ∙ f)
spells_end k (c ∷ cs) [] w v t s h r lt = absurd (omega arith)
spells_end k (c ∷ cs) (d ∷ ds) w v t (x, e, s) h (y, f, r) lt =
    spells_end k cs ds y v t (subst (λ z. Spells k cs z v) (same_tail (seen k w) c d x y e f) s) h r (omega arith)

pub spells_same : (k : Flags) (cs ds w t u : List ℕ) → Spells k cs w t → Spells k ds w u → length cs ≡ length ds → cs ≡ ds
spells_same k [] [] w t u s r e = refl
spells_same k [] (d ∷ ds) w t u s r e = absurd (omega arith)
spells_same k (c ∷ cs) [] w t u s r e = absurd (omega arith)
spells_same k (c ∷ cs) (d ∷ ds) w t u (x, p, s) (y, q, r) e =
    ap (λ z. z ∷ cs) (same_head (seen k w) c d x y p q)
    ∙ ap (λ z. d ∷ z) (spells_same k cs ds y t u (subst (λ z. Spells k cs z t) (same_tail (seen k w) c d x y p q) s) r (omega arith))

inner_head : (c : ℕ) (cs : List ℕ) → has 125 (c ∷ cs) ≡ false → (c == 125) ≡ false
inner_head c cs h = no_or_left (c == 125) (has 125 cs) h

inner_tail : (c : ℕ) (cs : List ℕ) → has 125 (c ∷ cs) ≡ false → has 125 cs ≡ false
inner_tail c cs h = no_or_right (c == 125) (has 125 cs) h

closed_same : (k : Flags) (cs ds w t u : List ℕ) → has 125 cs ≡ false → has 125 ds ≡ false → Spells k (cs ++ 125 ∷ []) w t
    → Spells k (ds ++ 125 ∷ []) w u → cs ≡ ds
closed_same k [] [] w t u a b s r = refl
closed_same k [] (d ∷ ds) w t u a b (x, p, s) (y, q, r) = absurd (apart d 125 (inner_head d ds b) (same_head (seen k w) d 125 y x q p))
closed_same k (c ∷ cs) [] w t u a b (x, p, s) (y, q, r) = absurd (apart c 125 (inner_head c cs a) (same_head (seen k w) c 125 x y p q))
closed_same k (c ∷ cs) (d ∷ ds) w t u a b (x, p, s) (y, q, r) =
    ap (λ z. z ∷ cs) (same_head (seen k w) c d x y p q)
    ∙ ap (λ z. d ∷ z)
    (closed_same k cs ds y t u (inner_tail c cs a) (inner_tail d ds b) (subst (λ z. Spells k (cs ++ 125 ∷ []) z t) (same_tail (seen k w) c d x y p q) s) r)

pub braces_same : (k : Flags) (cs ds w t u : List ℕ) → has 125 cs ≡ false → has 125 ds ≡ false → Spells k (in_braces cs) w t
    → Spells k (in_braces ds) w u → cs ≡ ds
braces_same k cs ds w t u a b (x, p, s) (y, q, r) =
    closed_same k cs ds y t u a b (subst (λ z. Spells k (cs ++ 125 ∷ []) z t) (same_tail (seen k w) 123 123 x y p q) s) r

-- braces that nothing closes
pub closed_end : (k : Flags) (cs ds w v t : List ℕ) → has 125 cs ≡ false → Spells k cs w v → seen k v ≡ [] → Spells k (ds ++ 125 ∷ []) w t → ⊥
closed_end k [] [] w v t a s h (y, f, r) = nil_cons 125 y (sym h ∙ sym (ap (seen k) s) ∙ f)
closed_end k [] (d ∷ ds) w v t a s h (y, f, r) = nil_cons d y (sym h ∙ sym (ap (seen k) s) ∙ f)
closed_end k (c ∷ cs) [] w v t a (x, e, s) h (y, f, r) = apart c 125 (inner_head c cs a) (same_head (seen k w) c 125 x y e f)
closed_end k (c ∷ cs) (d ∷ ds) w v t a (x, e, s) h (y, f, r) =
    closed_end k cs ds y v t (inner_tail c cs a) (subst (λ z. Spells k cs z v) (same_tail (seen k w) c d x y e f) s) h r

-- ---- what is written

pub digits_spell : (k : Flags) (ds : List Digit) (t : List ℕ) → list_all is_clear (spelt ds) ≡ true → FineSpaced k ds t → Spells k (spelt ds) (write_digits ds t) t
digits_spell k [] t a f = refl
digits_spell k (d ∷ ds) t a f =
    let clear = and_parts (is_clear d.digit) (list_all is_clear (spelt ds)) a in (
      write_digits ds t,
      seen_behind k d.before (d.digit ∷ write_digits ds t) f.0 (λ on. clear_head d.digit (write_digits ds t) clear.0),
      digits_spell k ds t clear.1 f.1,
    )

pub spells_digits : (k : Flags) (cs w t : List ℕ) → Spells k cs w t → (ds : List Digit) × (spelt ds ≡ cs) × FineSpaced k ds t × (w ≡ write_digits ds t)
spells_digits k [] w t s = ([], refl, tt, s)
spells_digits k (c ∷ cs) w t (v, h, s) =
    let d = spells_digits k cs v t s in
    let b = split k w c v h in
    let first : Digit = record { before = b.0; digit = c } in (
      first ∷ d.0,
      ap (λ z. c ∷ z) d.1,
      (subst (λ z. FineBlanks k b.0 (c ∷ z)) d.3 b.1, d.2),
      b.2 ∙ ap (λ z. write_blanks b.0 (c ∷ z)) d.3,
    )

closed_spell : (k : Flags) (ds : List Digit) (behind : List Blank) (t : List ℕ) → list_all is_clear (spelt ds) ≡ true
    → FineSpaced k ds (write_blanks behind (codes "}")) → FineBlanks k behind (codes "}")
    → Spells k (spelt ds ++ 125 ∷ []) (write_digits ds (write_blanks behind (125 ∷ t))) t
closed_spell k [] behind t a f g = (t, seen_behind k behind (125 ∷ t) (blanks_head k behind 125 [] t g) (λ on. (closing_clear, refl)), refl)
closed_spell k (d ∷ ds) behind t a f g =
    let clear = and_parts (is_clear d.digit) (list_all is_clear (spelt ds)) a in
    let v = write_digits ds (write_blanks behind (125 ∷ t)) in (
      v,
      seen_behind k d.before (d.digit ∷ v) (blanks_head k d.before d.digit (write_digits ds (write_blanks behind (codes "}"))) v f.0) (λ on. clear_head d.digit v clear.0),
      closed_spell k ds behind t clear.1 f.1 g,
    )

abbrev pub write_braces : List Blank → List Digit → List Blank → List ℕ → List ℕ
write_braces before ds behind t = write_blanks before (123 ∷ write_digits ds (write_blanks behind (125 ∷ t)))

pub braces_spell : (k : Flags) (before : List Blank) (ds : List Digit) (behind : List Blank) (t : List ℕ) → list_all is_clear (spelt ds) ≡ true
    → FineBraced k before ds behind → Spells k (in_braces (spelt ds)) (write_braces before ds behind t) t
braces_spell k before ds behind t a f =
    let v = write_digits ds (write_blanks behind (125 ∷ t)) in
    (v, seen_behind k before (123 ∷ v) (blanks_head k before 123 [] v f.0) (λ on. (brace_clear, refl)), closed_spell k ds behind t a f.1 f.2)

abbrev Closed : Flags → List ℕ → List ℕ → List ℕ → Type 0
Closed k cs w t =
    (ds : List Digit) × (behind : List Blank) × (spelt ds ≡ cs) × FineSpaced k ds (write_blanks behind (codes "}")) × FineBlanks k behind (codes "}")
    × (w ≡ write_digits ds (write_blanks behind (125 ∷ t)))

spells_closed : (k : Flags) (cs w t : List ℕ) → Spells k (cs ++ 125 ∷ []) w t → Closed k cs w t
spells_closed k [] w t (v, h, s) =
    let b = split k w 125 v h in
    ([], b.0, refl, tt, blanks_head k b.0 125 v [] b.1, b.2 ∙ ap (λ z. write_blanks b.0 (125 ∷ z)) s)
spells_closed k (c ∷ cs) w t (v, h, s) =
    let r = spells_closed k cs v t s in
    let b = split k w c v h in
    let first : Digit = record { before = b.0; digit = c } in (
      first ∷ r.0,
      r.1,
      ap (λ z. c ∷ z) r.2,
      (blanks_head k b.0 c v (write_digits r.0 (write_blanks r.1 (codes "}"))) b.1, r.3),
      r.4,
      b.2 ∙ ap (λ z. write_blanks b.0 (c ∷ z)) r.5,
    )

-- braces that hold these characters
abbrev pub Braced : Flags → List ℕ → List ℕ → List ℕ → Type 0
Braced k cs w t =
    (before : List Blank) × (ds : List Digit) × (behind : List Blank) × (spelt ds ≡ cs) × FineBraced k before ds behind × (w ≡ write_braces before ds behind t)

pub spells_braces : (k : Flags) (cs w t : List ℕ) → Spells k (in_braces cs) w t → Braced k cs w t
spells_braces k cs w t (v, h, s) =
    let r = spells_closed k cs v t s in
    let b = split k w 123 v h in
    (b.0, r.0, r.1, r.2, (blanks_head k b.0 123 v [] b.1, r.3, r.4), b.2 ∙ ap (λ z. write_blanks b.0 (123 ∷ z)) r.5)

-- ---- places

-- what is spelled stands before what follows
pub spelled_on : (k : Flags) (text cs : List ℕ) (at next : ℕ) → at ≤ length text → next ≤ length text → Spells k cs (drop at text) (drop next text) → at ≤ next
spelled_on k text cs at next within fits s =
    let fewer = spells_shorter k cs (drop at text) (drop next text) s in omega (arith, length-drop {A = ℕ})

pub behind_on : (k : Flags) (text : List ℕ) (at place : ℕ) → at ≤ length text → place ≤ length text → drop place text ≡ seen k (drop at text) → at < place + 1
behind_on k text at place within fits h =
    let fewer = seen_shorter k (drop at text) in
    let e : length (drop place text) ≡ length (seen k (drop at text)) = ap length h in omega (arith, length-drop {A = ℕ})
