-- From the first run of the least place to what a searcher finds.
use Rattle.std.proofs.Common.{◌≡◌, ℕ, zero, suc, ◌+◌, ◌-◌, ◌≤◌, Bool, true, false, inl, inr, List, [], ◌∷◌, length, Option, Some, None, true≢false, cond, refl, sym, ap, ◌∙◌, subst, add-one, arith}
use Rattle.std.specs.Prelude.{option_map, replicate, slice_set}
use Rattle.std.specs.Option.{is_some, option_or}
use Rattle.std.proofs.lemmas.Bool.{cases_lt, false≢true}
use Rattle.hir_core.specs.Found.{IsOfLeast, IsFound, span_found, whole_span}
use Rattle.hir_tree.specs.Cores.{core_of, core_of_tree}
use Rattle.hir_tree.specs.Spots.{groups_of}
use Rattle.hir_tree.specs.Tree.{Tree, tree_of}
use Rattle.hir_core.specs.Compiled.{IsCompiled}
use Rattle.hir_core.specs.LineStarts.{line_start_found}
use Rattle.hir_tree.specs.PlainText.{text_of, text_found, text_groups, stands_at}
use Rattle.hir_tree.specs.Runs.{Run, first, preferred}
use Rattle.hir_core.specs.Pass.{first_of, begins, groups_found, first_from, best_in}
use Rattle.grep_matcher.specs.Span.{Span}
use Rattle.hir_core.specs.declared.pass.Best.{Best}
use Rattle.hir_program.specs.declared.scan.Scan.{Scan}
use Rattle.hir_tree.specs.declared.hir.Hir.{Hir}
use Rattle.hir_program.specs.declared.spot.Spot.{Spot}
use Rattle.hir_tree.proofs.PlainTextLemmas.{preferred-text}
use Rattle.hir_core.proofs.line_start.LineStartLemmas.{line_start-matches}
use Rattle.hir_core.proofs.searcher.SoundRunsLemmas.{IsWhole, first_from-whole}

module _ {A : Type 0} (each : ℕ → Option A) (at to : ℕ) where
  -- the first place has something
  least_here : (a : A) → at ≤ to → each at ≡ Some a → IsOfLeast each at to (Some a)
  least_here a within e = (at, omega arith, within, e, (λ p from before. absurd (omega arith)))

  none_here : each at ≡ None → ((p : ℕ) → at + 1 ≤ p → p ≤ to → each p ≡ None) → (p : ℕ) → at ≤ p → p ≤ to → each p ≡ None
  none_here e later p from within =
      elim (cases_lt at p) [
        | inl past ↦ later p (omega arith) within
        | inr here ↦ let same : at ≡ p = omega arith in subst (λ k. each k ≡ None) same e
      ]

  -- the first place has nothing
  least_later : (o : Option A) → each at ≡ None → IsOfLeast each (at + 1) to o → IsOfLeast each at to o
  least_later None e h = none_here e h
  least_later (Some a) e h = (
    h.0,
    omega (arith, h.1),
    h.2,
    h.3,
    (λ p from before. elim (cases_lt at p) [
      | inl past ↦ h.4 p (omega arith) before
      | inr here ↦ let same : at ≡ p = omega arith in subst (λ k. each k ≡ None) same e
    ]),
  )

groups_kept : (runs : List Run) → option_map (λ r. r.groups) (first runs) ≡ option_map (λ r. r.groups) (first_of runs)
groups_kept [] = refl
groups_kept (r ∷ runs) = refl

module _ (text : List ℕ) (spots : List Spot) (groups : ℕ) where
  -- the first run of the least place that has one holds what is found at the least place at which something is
  pub least-first : (places at to : ℕ) → at + places ≡ to + 1
      → IsOfLeast (groups_found text spots groups) at to (option_map (λ r. r.groups) (first_from text spots groups places at))
  least-first zero at to e = λ p from within. absurd (omega arith)
  least-first (suc places) at to e = cases (first_of (begins text spots groups at)) refl (least-first places (at + 1) to (omega arith))
    where
      cases : (o : Option Run) → first_of (begins text spots groups at) ≡ o
          → IsOfLeast (groups_found text spots groups) (at + 1) to (option_map (λ r. r.groups) (first_from text spots groups places (at + 1)))
          → IsOfLeast (groups_found text spots groups) at to (option_map (λ r. r.groups) (option_or o (first_from text spots groups places (at + 1))))
      cases None k later =
          least_later (groups_found text spots groups) at to (option_map (λ r. r.groups) (first_from text spots groups places (at + 1)))
          (groups_kept (begins text spots groups at) ∙ ap (option_map (λ r. r.groups)) k) later
      cases (Some r) k later =
          least_here (groups_found text spots groups) at to r.groups (omega arith) (groups_kept (begins text spots groups at) ∙ ap (option_map (λ r. r.groups)) k)

-- the best match of a pass that found one
module _ (text : List ℕ) (spots : List Spot) (groups at : ℕ) (within : at ≤ length text) (best : Best)
    (h : best_in best ≡ first_from text spots groups (length text + 1 - at) at) where
  pub best-least : IsOfLeast (groups_found text spots groups) at (length text) (option_map (λ r. r.groups) (best_in best))
  best-least =
      subst (λ o. IsOfLeast (groups_found text spots groups) at (length text) (option_map (λ r. r.groups) o)) (sym h)
      (least-first text spots groups (length text + 1 - at) at (length text) (omega arith))

  -- there is none
  pub best-none : is_some (best_in best) ≡ false → IsOfLeast (groups_found text spots groups) at (length text) None
  best-none e = cases best.end refl e best-least
    where
      cases : (o : Option ℕ) → best.end ≡ o → is_some (best_in best) ≡ false
          → IsOfLeast (groups_found text spots groups) at (length text) (option_map (λ r. r.groups) (best_in best))
          → IsOfLeast (groups_found text spots groups) at (length text) None
      cases None k f least = rw k at least
      cases (Some end) k f least = absurd (true≢false (rw k at f))

  pub ending : is_some (best_in best) ≡ true → (end : ℕ) × (best_in best ≡ Some (record { at = end; groups = best.groups.items; seen = [] }))
  ending e = cases best.end refl e
    where
      cases : (o : Option ℕ) → best.end ≡ o → is_some (best_in best) ≡ true → (end : ℕ) × (best_in best ≡ Some (record { at = end; groups = best.groups.items; seen = [] }))
      cases None k f = absurd (false≢true (rw k at f))
      cases (Some end) k f = (end, ap (option_map (λ n. record { at = n; groups = best.groups.items; seen = [] })) k)

  -- there is one, and its groups are those of a run
  pub best-some : is_some (best_in best) ≡ true → IsOfLeast (groups_found text spots groups) at (length text) (Some best.groups.items)
  best-some e =
      subst (λ o. IsOfLeast (groups_found text spots groups) at (length text) (option_map (λ (r : Run). r.groups) o)) (ending e).1 best-least

  pub best-whole : (e : is_some (best_in best) ≡ true) → IsWhole (groups + 1) (record { at = (ending e).0; groups = best.groups.items; seen = [] })
  best-whole e = first_from-whole text spots groups (length text + 1 - at) at (omega arith) _ (sym h ∙ (ending e).1)

-- what is found of two that find the same at each place
least-same : {A : Type 0} (each other : ℕ → Option A) (from to : ℕ) → ((at : ℕ) → at ≤ to → each at ≡ other at) → (o : Option A) → IsOfLeast each from to o
    → IsOfLeast other from to o
least-same each other from to same None h = λ at lo hi. sym (same at hi) ∙ h at lo hi
least-same each other from to same (Some a) h =
    (h.0, h.1, h.2, sym (same h.0 h.2) ∙ h.3, (λ at lo hi. let within : at ≤ to = omega (arith, h.2) in sym (same at within) ∙ h.4 at lo hi))

found-same : (each other : ℕ → Option (List (Option (ℕ × ℕ)))) (from to : ℕ) → ((at : ℕ) → at ≤ to → each at ≡ other at) → (found : Bool) (slots : List (Option Span))
    → IsFound each from to found slots → IsFound other from to found slots
found-same each other from to same true slots h = (h.0, least-same each other from to same (Some h.0) h.1, h.2)
found-same each other from to same false slots h = (least-same each other from to same None h.0, h.1)

-- the whole match of a text, where it stands, is the text
text-whole : (needle : List ℕ) (n : ℕ) (text : List ℕ) (at : ℕ) → whole_span (text_found needle n text at) ≡ span_found needle text at
text-whole needle n text at = cases (stands_at needle text at)
  where
    first_is : whole_span (Some (text_groups needle n at)) ≡ Some (record { start = at; end = at + length needle })
    first_is = ap (λ m. whole_span (Some (slice_set (replicate m None) 0 (Some (at, at + length needle))))) (add-one n)

    cases : (b : Bool) → whole_span (cond b (Some (text_groups needle n at)) None) ≡ cond b (Some (record { start = at; end = at + length needle })) None
    cases true = first_is
    cases false = refl

-- where a text stands, is the whole match of a pattern that is that text
pub span-by_text : (hir pattern : Hir) → hir ≡ pattern → (needle : List ℕ) → text_of hir ≡ Some needle → (text : List ℕ) (at : ℕ) (found : Option Span)
    → IsOfLeast (span_found needle text) at (length text) found
    → IsOfLeast (λ place. whole_span (preferred (core_of pattern) (groups_of pattern) text place)) at (length text) found
span-by_text hir pattern same needle is text at found =
    least-same (span_found needle text) (λ place. whole_span (preferred (core_of pattern) (groups_of pattern) text place)) at (length text)
    (λ p within. sym (text-whole needle (groups_of pattern) text p)
    ∙ sym (ap whole_span (preferred-text (tree_of pattern) needle (ap text_of (sym same) ∙ is) (groups_of pattern) text p))) found

-- a pattern that was compiled
module _ (hir : Hir) (groups : ℕ) (spots : List Spot) (scan : Option Scan) (bytes : Option (List ℕ)) (starts : Bool) (compiled : IsCompiled hir groups spots scan bytes starts)
    (pattern : Hir) (same : hir ≡ pattern) (text : List ℕ) (at : ℕ) (found : Bool) (slots : List (Option Span)) where
  -- what is found of its text, if it is one, is what is found of it
  pub found-by_text : (needle : List ℕ) → bytes ≡ Some needle → (n : ℕ) → n ≡ groups_of pattern → IsFound (text_found needle n text) at (length text) found slots
      → IsFound (preferred (core_of pattern) (groups_of pattern) text) at (length text) found slots
  found-by_text needle e n k =
      found-same (text_found needle n text) (preferred (core_of pattern) (groups_of pattern) text) at (length text)
      (λ p within. ap (λ m. text_found needle m text p) k ∙ sym (preferred-text (tree_of pattern) needle (ap text_of (sym same) ∙ sym compiled.text ∙ e) (groups_of pattern) text p)) found slots

  -- so is what is found where a line starts, if it is taken for the start of a line
  pub found-by_line_start : starts ≡ true → (n : ℕ) → n ≡ groups_of pattern → IsFound (line_start_found n text) at (length text) found slots
      → IsFound (preferred (core_of pattern) (groups_of pattern) text) at (length text) found slots
  found-by_line_start is n k =
      found-same (line_start_found n text) (preferred (core_of pattern) (groups_of pattern) text) at (length text)
      (λ p within. ap (λ m. line_start_found m text p) k ∙ sym (line_start-matches (groups_of pattern) text p)
      ∙ ap (λ (tree : Tree). preferred (core_of_tree tree) (groups_of pattern) text p) (sym (compiled.line_start is) ∙ ap tree_of same)) found slots
