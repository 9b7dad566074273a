-- Where a text is found.
use Rattle.std.proofs.Common.{◌≡◌, ℕ, zero, suc, ◌+◌, ◌-◌, ◌<◌, ◌≤◌, Bool, true, false, cond, eqb, List, [], ◌∷◌, ◌++◌, length, map, take, drop, replicate, get_or, Option, Some, None, refl, sym, ap, ap₂, ◌∙◌, subst, add-one, append_assoc, length-drop, take_all, drop-cons, drop-drop, arith}
use Rattle.std.specs.Prelude.{slice_get, slice_set, option_map}
use Rattle.std.specs.List.{starts_with}
use Rattle.std.proofs.lemmas.Bool.Decides.{Decides-eqb}
use Rattle.std.proofs.lemmas.List.{map-set, take_more}
use Rattle.std.proofs.lemmas.Option.{none-some, same_Some, slice_get_within, get_or_from_slice_get}
use Rattle.std.proofs.lemmas.Slice.Eq.{starts_is}
use Rattle.memchr.specs.Find.{OccursAt, FindsNeedle}
use Rattle.memchr.proofs.lemmas.MatchLemmas.{OccursAt-split, OccursAt-from_part}
use Rattle.grep_matcher.specs.PlainLemmas.{text_fits}
use Rattle.grep_matcher.specs.Span.{Span}
use Rattle.hir_tree.specs.PlainText.{joined, joined_all, text_of, stands_at, text_groups, text_found}
use Rattle.hir_tree.specs.declared.hir.Hir.{Hir}
use Rattle.hir_core.specs.Found.{IsOfLeast, span_of, place_found, span_found}
use Rattle.hir_core.proofs.FoundLemmas.{cond-map, IsOfLeast-map}

-- the text of the parts from one on is that of the part, and of the parts after it
pub texts_from : (parts : List Hir) (i : ℕ) (d : Hir) → i < length parts
    → joined_all (map text_of (drop i parts)) ≡ joined (text_of (get_or parts i d)) (joined_all (map text_of (drop (i + 1) parts)))
texts_from parts i d within =
    let cut : drop i parts ≡ get_or parts i d ∷ drop (i + 1) parts = rw add-one (drop-cons parts i d within) in
    ap (λ ps. joined_all (map text_of ps)) cut

-- one byte more of a literal was appended
pub byte-appended : (start now new literal : List ℕ) (i x : ℕ) → slice_get literal i ≡ Some x → now ≡ start ++ take i literal → new ≡ now ++ x ∷ []
    → new ≡ start ++ take (i + 1) literal
byte-appended start now new literal i x is before pushed =
    let more : take (i + 1) literal ≡ take i literal ++ x ∷ [] =
    take_more literal i 0 (slice_get_within literal i x is) ∙ ap (λ b. take i literal ++ b ∷ []) (get_or_from_slice_get literal i x 0 is) in
    pushed ∙ ap (λ l. l ++ x ∷ []) before ∙ append_assoc start (take i literal) (x ∷ []) ∙ ap (λ l. start ++ l) (sym more)

-- one text was appended, and the rest follows
pub appended-more : (old new : List ℕ) (one rest : Option (List ℕ)) → Some new ≡ option_map (λ t. old ++ t) one
    → option_map (λ t. new ++ t) rest ≡ option_map (λ t. old ++ t) (joined one rest)
appended-more old new None rest e = absurd (none-some new (sym e))
appended-more old new (Some t) None e = refl
appended-more old new (Some t) (Some us) e =
    ap (λ (b : List ℕ). Some (b ++ us)) (same_Some _ _ e) ∙ ap (λ (b : List ℕ). Some b) (append_assoc old t us)

-- where one part is no text, all together are none
pub appended-none : (old : List ℕ) (one rest : Option (List ℕ)) → None ≡ option_map (λ t. old ++ t) one → None ≡ option_map (λ t. old ++ t) (joined one rest)
appended-none old None rest e = refl
appended-none old (Some t) rest e = absurd (none-some (old ++ t) e)

take-append : (xs ys : List ℕ) → take (length xs) (xs ++ ys) ≡ xs
take-append [] ys = refl
take-append (x ∷ xs) ys = ap (λ l. x ∷ l) (take-append xs ys)

-- where bytes stand, they occur
module _ (text bytes : List ℕ) where
  occurs-stands : (at : ℕ) → OccursAt text bytes at → stands_at bytes text at ≡ true
  occurs-stands at occurs = (starts_is Decides-eqb (drop at text) bytes _ refl).1 (drop (at + length bytes) text) (OccursAt-split text bytes at occurs)

  stands-occurs : (at : ℕ) → at ≤ length text → stands_at bytes text at ≡ true → OccursAt text bytes at
  stands-occurs at le stands =
      let whole = (starts_is Decides-eqb (drop at text) bytes _ refl).0 stands in
      OccursAt-from_part text bytes at (text_fits text bytes at le stands) (ap (take (length bytes)) whole ∙ take-append bytes (drop (length bytes) (drop at text)))

  place-here : (at : ℕ) → stands_at bytes text at ≡ true → place_found bytes text at ≡ Some at
  place-here at stands = ap (λ (b : Bool). cond b (Some at) None) stands

  place-none : (at : ℕ) → ¬ (stands_at bytes text at ≡ true) → place_found bytes text at ≡ None
  place-none at not = cases (stands_at bytes text at) not
    where
      cases : (b : Bool) → ¬ (b ≡ true) → cond b (Some at) None ≡ None
      cases true h = absurd (h refl)
      cases false h = refl

-- the first place of the rest of a text is the least place of the text
module _ (text bytes rest : List ℕ) (from : ℕ) (cut : rest ≡ take (length text - from) (drop from text)) (le : from ≤ length text) where
  rest-is : rest ≡ drop from text
  rest-is = cut ∙ rw (← length-drop from text) (take_all (length (drop from text)) (drop from text) (omega arith))

  rest-length : length rest ≡ length text - from
  rest-length = ap length rest-is ∙ length-drop from text

  rest-stands : (at : ℕ) → from ≤ at → stands_at bytes text at ≡ stands_at bytes rest (at - from)
  rest-stands at low =
      let e : from + (at - from) ≡ at = omega arith in
      ap (λ k. starts_with eqb (drop k text) bytes) (sym e)
      ∙ ap (λ l. starts_with eqb l bytes) (sym (drop-drop (at - from) from text))
      ∙ ap (λ l. starts_with eqb (drop (at - from) l) bytes) (sym rest-is)

  rest-none : (at : ℕ) → from ≤ at → at ≤ length text → ¬ OccursAt rest bytes (at - from) → place_found bytes text at ≡ None
  rest-none at low high not =
      place-none text bytes at (λ stands. not (stands-occurs rest bytes (at - from) (omega (arith, rest-length)) (sym (rest-stands at low) ∙ stands)))

  pub found-least : (r : Option ℕ) → FindsNeedle rest bytes 0 r → IsOfLeast (place_found bytes text) from (length text) (option_map (λ k. from + k) r)
  found-least None found = λ at low high. rest-none at low high (found (at - from) (omega arith) (omega (arith, rest-length)))
  found-least (Some k) found =
      let e : from + k - from ≡ k = omega arith in (
        from + k,
        omega arith,
        omega (arith, found.0.high, rest-length),
        place-here text bytes (from + k) (rest-stands (from + k) (omega arith) ∙ ap (stands_at bytes rest) e ∙ occurs-stands rest bytes k found.1),
        (λ at low lt. rest-none at low (omega (arith, found.0.high, rest-length)) (found.0.before (at - from) (omega arith) (omega arith))),
      )

-- the least place gives the groups of the least place
pub groups-least : (bytes : List ℕ) (groups : ℕ) (text : List ℕ) (from to : ℕ) (r : Option ℕ) → IsOfLeast (place_found bytes text) from to r
    → IsOfLeast (text_found bytes groups text) from to (option_map (text_groups bytes groups) r)
groups-least bytes groups text from to r h =
    IsOfLeast-map (text_groups bytes groups) (place_found bytes text) (text_found bytes groups text) from to r
    (λ at. cond-map (text_groups bytes groups) at (stands_at bytes text at)) h

pub unset-spans : (n : ℕ) → map span_of (replicate n None) ≡ replicate n None
unset-spans zero = refl
unset-spans (suc n) = ap (λ spans. None ∷ spans) (unset-spans n)

-- the slots of as many groups, where the bytes are group 0
abbrev whole : ℕ → ℕ → List ℕ → List (Option Span)
whole n start bytes = slice_set (replicate n None) 0 (Some (record { start = start; end = start + length bytes }))

-- those are the groups as slots hold them
pub whole-spans : (bytes shown : List ℕ) (n start : ℕ) (slots : List (Option Span)) → 0 < n → shown ≡ bytes → slots ≡ whole n start shown
    → slots ≡ map span_of (text_groups bytes (n - 1) start)
whole-spans bytes shown n start slots some same set =
    let all : n - 1 + 1 ≡ n = omega arith in
    set
    ∙ ap₂ (λ (m : ℕ) (b : List ℕ). whole m start b) (sym all) same
    ∙ sym (map-set span_of (replicate (n - 1 + 1) None) 0 (Some (start, start + length bytes)) ∙ ap (λ spans. slice_set spans 0 (Some (record { start = start; end = start + length bytes }))) (unset-spans (n - 1 + 1)))

-- the span of the bytes from a place
abbrev span_from : List ℕ → ℕ → Span
span_from bytes start = record { start = start; end = start + length bytes }

-- the least place gives the span of the least place
pub span-least : (bytes text : List ℕ) (from to : ℕ) (r : Option ℕ) → IsOfLeast (place_found bytes text) from to r
    → IsOfLeast (span_found bytes text) from to (option_map (span_from bytes) r)
span-least bytes text from to r h =
    IsOfLeast-map (span_from bytes) (place_found bytes text) (span_found bytes text) from to r (λ at. cond-map (span_from bytes) at (stands_at bytes text at)) h

-- the same where the bytes are shown by another name
pub span-least_shown : (bytes shown text : List ℕ) (from to start : ℕ) (span : Span) → shown ≡ bytes → span.start ≡ start → span.end ≡ start + length shown
    → IsOfLeast (place_found bytes text) from to (Some start) → IsOfLeast (span_found bytes text) from to (Some span)
span-least_shown bytes shown text from to start span same starts ends h =
    subst (λ (s : Span). IsOfLeast (span_found bytes text) from to (Some s)) (sym is) (span-least bytes text from to (Some start) h)
  where
    stops : span.end ≡ start + length bytes
    stops = ends ∙ ap (λ (bs : List ℕ). start + length bs) same

    is : span ≡ span_from bytes start
    is = λ i. record { start = starts i; end = stops i }
