-- Frames undo what was done.
use Rattle.std.proofs.Common.{◌≡◌, ℕ, List, [], ◌∷◌, ◌++◌, false, Option, Some, None, refl, true≢false, sym, ap, ap₂, ◌∙◌, append-nil}
use Rattle.std.specs.Prelude.{is_some, drop, reverse, slice_index_or, slice_set}
use Rattle.std.specs.Option.{option_to_list}
use Rattle.std.proofs.lemmas.List.{set-set, set-get_or, reverse-append}
use Rattle.hir_program.specs.Program.{way}
use Rattle.hir_core.specs.Trails.{Stop, put_back, alternatives, stops_of, stops_on}
use Rattle.hir_core.specs.declared.trail.Frame.{Frame}
use Rattle.hir_core.specs.declared.trail.Frame.TheVariants as frame
use Rattle.hir_core.specs.declared.trail.Trail.{Trail}

-- a start that was taken off and put back
start_back : (rest : List ℕ) (start : Option ℕ) → put_back start (reverse rest) ≡ reverse (rest ++ option_to_list start)
start_back rest None = ap reverse (sym (append-nil rest))
start_back rest (Some s) = sym (reverse-append rest (s ∷ []))

-- The end of a group leaves the alternatives as they are.
pub alternatives-ended : (frames frames' : List Frame) (starts rest : List ℕ) (groups groups' : List (Option (ℕ × ℕ))) (at i : ℕ) (start : Option ℕ)
    (before group : Option (ℕ × ℕ)) → frames' ≡ frames ++ frame.Ended i start before ∷ [] → starts ≡ rest ++ option_to_list start
    → groups' ≡ slice_set groups i group → before ≡ slice_index_or groups i None
    → alternatives (reverse frames') (way (reverse rest) (record { at = at; groups = groups'; seen = [] }))
    ≡ alternatives (reverse frames) (way (reverse starts) (record { at = at; groups = groups; seen = [] }))
alternatives-ended frames frames' starts rest groups groups' at i start before group e f g h =
    ap (λ fs. alternatives fs (way (reverse rest) (record { at = at; groups = groups'; seen = [] })))
    (ap reverse e ∙ reverse-append frames (frame.Ended i start before ∷ []))
    ∙ ap₂ (λ (ss : List ℕ) (gs : List (Option (ℕ × ℕ))). alternatives (reverse frames) (way ss (record { at = at; groups = gs; seen = [] })))
    (start_back rest start ∙ ap reverse (sym f))
    (ap₂ (λ (gs : List (Option (ℕ × ℕ))) (b : Option (ℕ × ℕ)). slice_set gs i b) g h ∙ set-set groups i group _ ∙ set-get_or groups i None)

-- the alternatives have places of their own
pub alternatives-anywhere : (frames : List Frame) (at to : ℕ) (starts : List ℕ) (groups : List (Option (ℕ × ℕ)))
    → alternatives frames (way starts (record { at = to; groups = groups; seen = [] })) ≡ alternatives frames (way starts (record { at = at; groups = groups; seen = [] }))
alternatives-anywhere [] at to starts groups = refl
alternatives-anywhere (frame.Try q p ∷ frames) at to starts groups =
    ap (λ (ps : List Stop). (q, way starts (record { at = p; groups = groups; seen = [] })) ∷ ps) (alternatives-anywhere frames at to starts groups)
alternatives-anywhere (frame.Begun ∷ frames) at to starts groups = alternatives-anywhere frames at to (drop 1 starts) groups
alternatives-anywhere (frame.Ended i start before ∷ frames) at to starts groups =
    alternatives-anywhere frames at to (put_back start starts) (slice_set groups i before)

-- The search comes back to the last alternative.
pub comes-back : (frames rest : List Frame) (q p at : ℕ) (starts : List ℕ) (groups : List (Option (ℕ × ℕ))) (old : List Stop)
    → frames ≡ rest ++ frame.Try q p ∷ [] → alternatives (reverse frames) (way starts (record { at = at; groups = groups; seen = [] })) ≡ old
    → old ≡ (q, way starts (record { at = p; groups = groups; seen = [] })) ∷ alternatives (reverse rest) (way starts (record { at = p; groups = groups; seen = [] }))
comes-back frames rest q p at starts groups old e same =
    sym same
    ∙ ap (λ fs. alternatives fs (way starts (record { at = at; groups = groups; seen = [] }))) (ap reverse e ∙ reverse-append rest (frame.Try q p ∷ []))
    ∙ ap (λ (ps : List Stop). (q, way starts (record { at = p; groups = groups; seen = [] })) ∷ ps) (sym (alternatives-anywhere (reverse rest) at p starts groups))

-- where the thread doesn't go on, the alternatives are all that is left
pub stops-none : (on : Option ℕ) (t : Trail) → is_some on ≡ false → stops_on on t ≡ stops_of t
stops-none None t e = refl
stops-none (Some q) t e = absurd (true≢false e)
