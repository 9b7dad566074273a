-- References without braces, and the first that is ambiguous.
use Rattle.std.proofs.Common.{◌≡◌, ℕ, zero, suc, ◌+◌, ◌<◌, Bool, true, false, cond, List, [], ◌∷◌, ◌++◌, length, drop, get_or, Option, Some, refl, sym, ap, ◌∙◌, arith, option_map}
use Rattle.std.proofs.lemmas.List.{drop_more, drop-drop}
use Rattle.std.specs.List.{find, prefix_len}
use Rattle.std.specs.Char.{is_ascii_digit}
use Rattle.sd_replace.specs.Ambiguous.{Bare, bare_at, bare_after, is_ambiguous, name_behind, read_behind, place_of, first_ambiguous}
use Rattle.sd_replace.specs.declared.ambiguous.NamePlace.{NamePlace}

-- the first ambiguous one of references
abbrev pub found : List Bare → Option Bare
found references = find (λ (reference : Bare). is_ambiguous reference.name) references

-- the references after n bytes are those of the text without them
bare_skip : (n at : ℕ) (text : List ℕ) → bare_after n at text ≡ bare_after 0 (at + n) (drop n text)
bare_skip zero at text = ap (λ (k : ℕ). bare_after 0 k text) (omega arith)
bare_skip (suc n) at [] = refl
bare_skip (suc n) at (b ∷ text) = bare_skip n (at + 1) text ∙ ap (λ (k : ℕ). bare_after 0 k (drop n text)) (omega arith)

-- a name that isn't ambiguous is passed over
found_later : (start : ℕ) (name : List ℕ) (rest : List Bare) → is_ambiguous name ≡ false → found (bare_at start name ++ rest) ≡ found rest
found_later start [] rest e = refl
found_later start (b ∷ name) rest e = ap (λ (t : Bool). cond t (Some (record { start = start; name = b ∷ name })) (found rest)) e

-- an ambiguous one is the first
found_here : (start : ℕ) (name : List ℕ) (rest : List Bare) → is_ambiguous name ≡ true → found (bare_at start name ++ rest) ≡ Some (record { start = start; name = name })
found_here start [] rest e = absurd (cc)
found_here start (b ∷ name) rest e = ap (λ (t : Bool). cond t (Some (record { start = start; name = b ∷ name })) (found rest)) e

-- what stands at a place, and behind it
begun : (text : List ℕ) (at : ℕ) (d : ℕ) → at < length text
    → found (bare_after 0 at (drop at text))
    ≡ found (bare_at (at + 1) (name_behind (get_or text at d) (drop (at + 1) text)) ++ bare_after (read_behind (get_or text at d) (drop (at + 1) text)) (at + 1) (drop (at + 1) text))
begun text at d h = ap (λ (rest : List ℕ). found (bare_after 0 at rest)) (drop_more text at d h)

-- one step on
pub step_on : (text behind name : List ℕ) (at d width next : ℕ) → at < length text → behind ≡ drop (at + 1) text
    → name ≡ name_behind (get_or text at d) behind → width ≡ read_behind (get_or text at d) behind → is_ambiguous name ≡ false → next ≡ at + (1 + width)
    → found (bare_after 0 at (drop at text)) ≡ found (bare_after 0 0 text) → found (bare_after 0 next (drop next text)) ≡ found (bare_after 0 0 text)
step_on text behind name at d width next h b n w plain e known =
    let same_name : name ≡ name_behind (get_or text at d) (drop (at + 1) text) = n ∙ ap (name_behind (get_or text at d)) b in
    let same_width : width ≡ read_behind (get_or text at d) (drop (at + 1) text) = w ∙ ap (read_behind (get_or text at d)) b in
    let later : found (bare_after 0 at (drop at text)) ≡ found (bare_after (read_behind (get_or text at d) (drop (at + 1) text)) (at + 1) (drop (at + 1) text)) =
    begun text at d h ∙ found_later (at + 1) (name_behind (get_or text at d) (drop (at + 1) text)) _ (ap is_ambiguous (sym same_name) ∙ plain) in
    let there : next ≡ (at + 1) + width = omega arith in
    let skipped : bare_after width (at + 1) (drop (at + 1) text) ≡ bare_after 0 next (drop next text) =
    bare_skip width (at + 1) (drop (at + 1) text) ∙ ap (bare_after 0 ((at + 1) + width)) (drop-drop width (at + 1) text) ∙ ap (λ (k : ℕ). bare_after 0 k (drop k text)) (sym there) in
    ap found (sym skipped) ∙ ap (λ (k : ℕ). found (bare_after k (at + 1) (drop (at + 1) text))) same_width ∙ sym later ∙ known

-- the first one is here
pub is_here : (text behind name : List ℕ) (at d digits : ℕ) → at < length text → behind ≡ drop (at + 1) text
    → name ≡ name_behind (get_or text at d) behind → is_ambiguous name ≡ true → digits ≡ prefix_len is_ascii_digit name
    → found (bare_after 0 at (drop at text)) ≡ found (bare_after 0 0 text)
    → ◌≡◌ {A = Option NamePlace} (Some (record { start = at + 1; end = at + 1 + length name; digits = digits })) (first_ambiguous text)
is_here text behind name at d digits h b n ambiguous e known =
    let same_name : name ≡ name_behind (get_or text at d) (drop (at + 1) text) = n ∙ ap (name_behind (get_or text at d)) b in
    let here : found (bare_after 0 0 text) ≡ Some (record { start = at + 1; name = name }) =
    sym known ∙ begun text at d h
    ∙ ap (λ (x : List ℕ). found (bare_at (at + 1) x ++ bare_after (read_behind (get_or text at d) (drop (at + 1) text)) (at + 1) (drop (at + 1) text))) (sym same_name)
    ∙ found_here (at + 1) name _ ambiguous in
    ap (λ (k : ℕ). Some (record { start = at + 1; end = at + 1 + length name; digits = k })) e ∙ sym (ap (option_map place_of) here)
