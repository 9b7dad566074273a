-- A plain text as what a matcher prefers.
use Rattle.std.proofs.Common.{◌≡◌, ℕ, ◌+◌, ◌≤◌, List, arith, refl, sym, subst, Some, None, Option, length, drop, eqb, Bool, true, false, cond, length-drop, take_all, take, ◌-◌, ap, inl, inr}
use Rattle.std.specs.List.{starts_with}
use Rattle.std.proofs.lemmas.Slice.Eq.{starts_is}
use Rattle.std.proofs.lemmas.List.Prefix.{front_fits}
use Rattle.std.proofs.lemmas.Bool.Decides.{Decides-eqb}
use Rattle.grep_matcher.specs.Span.{Span}
use Rattle.grep_matcher.specs.Cover.{IsLawful, prefers, NoneBetween}
use Rattle.grep_matcher.specs.Groups.{AreGroups}
use Rattle.grep_matcher.specs.Plain.{end_of_text}
use Rattle.std.proofs.lemmas.Bool.{cases_lt}

-- what the code tests is `&haystack[at..]`, which is written with `take` and `drop`
pub stands_at : (s find : List ℕ) (at : ℕ) (b : Bool) → b ≡ starts_with eqb (take (length s - at) (drop at s)) find → starts_with eqb (drop at s) find ≡ b
stands_at s find at b h = let whole : take (length s - at) (drop at s) ≡ drop at s = rw (← length-drop at s) (take_all (length (drop at s)) (drop at s) (omega arith)) in rw whole at (sym h)

some_of_cond : (b : Bool) (e f : ℕ) → cond b (Some e) None ≡ Some f → (b ≡ true) × (f ≡ e)
some_of_cond true e f h = (refl, cc)
some_of_cond false e f h = cc

module _ (haystack find : List ℕ) where
  stands : ℕ → Bool
  stands place = starts_with eqb (drop place haystack) find

  abbrev pub Text : ℕ → ℕ → Type 0
  Text = prefers (end_of_text haystack find)

  pub text_end : (place end : ℕ) → Text place end → (starts_with eqb (drop place haystack) find ≡ true) × (end ≡ place + length find)
  text_end place end h = some_of_cond (starts_with eqb (drop place haystack) find) (place + length find) end h

  pub text_fits : (at : ℕ) → at ≤ length haystack → starts_with eqb (drop at haystack) find ≡ true → at + length find ≤ length haystack
  text_fits at l h =
      let fits = front_fits (drop at haystack) find (drop (length find) (drop at haystack)) ((starts_is Decides-eqb (drop at haystack) find _ refl).0 h) in
      omega (arith, length-drop at haystack)

  pub text_lawful : IsLawful (end_of_text haystack find) (length haystack)
  text_lawful place end l h =
      let parts = text_end place end h in
      let fits = text_fits place l parts.0 in
      (omega arith, omega arith)

  -- one more place at which it doesn't stand
  pub none_more : (low at : ℕ) → NoneBetween Text low at → starts_with eqb (drop at haystack) find ≡ false → NoneBetween Text low (at + 1)
  none_more low at none missing place end l r p = elim (cases_lt place at) [
    | inl lt ↦ none place end l lt p
    | inr ge ↦ let here : place ≡ at = omega arith in let q = (text_end at end (subst (λ (k : ℕ). Text k end) here p)).0 in cc
  ]

  pub stands_here : (at : ℕ) → starts_with eqb (drop at haystack) find ≡ true → end_of_text haystack find at ≡ Some (at + length find)
  stands_here at here = ap (λ (b : Bool). cond b (Some (at + length find)) None) here

-- a matcher that doesn't capture has no groups to tell of
pub no_groups : (place end n : ℕ) (groups : List (Option Span)) → false ≡ true → AreGroups place end n groups
no_groups place end n groups e = absurd (cc)
