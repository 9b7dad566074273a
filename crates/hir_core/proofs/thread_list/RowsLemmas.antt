-- Rows in flat lists, which grow.
use Rattle.std.proofs.Common.{◌≡◌, ℕ, ◌≤◌, List, [], ◌∷◌, ◌++◌, length, map, Option, refl, sym, ap, ap₂, ◌∙◌, arith}
use Rattle.std.specs.Prelude.{reverse, drop, slice_range}
use Rattle.std.specs.List.{AllByRecursion}
use Rattle.std.proofs.lemmas.List.{map-append, take-append-le, take_all, drop_at}
use Rattle.std.proofs.lemmas.List.Elements.{recursion_from_All}
use Rattle.std.proofs.lemmas.Slice.{between_is}
use Rattle.hir_program.specs.Program.{way}
use Rattle.hir_core.specs.Trails.{Stop}
use Rattle.hir_core.specs.Rows.{stop_in, LiesIn, AllLieIn}
use Rattle.hir_core.specs.declared.thread_list.Row.{Row}

-- a part stays where more comes after the list
part_before : {A : Type 0} (xs ys : List A) (i j : ℕ) → j ≤ length xs → slice_range (xs ++ ys) i j ≡ slice_range xs i j
part_before xs ys i j h = between_is (xs ++ ys) i j ∙ ap (drop i) (take-append-le j xs ys h) ∙ sym (between_is xs i j)

-- what comes after it is the last part
part_after : {A : Type 0} (xs ys : List A) (i j : ℕ) → i ≡ length xs → j ≡ length (xs ++ ys) → slice_range (xs ++ ys) i j ≡ ys
part_after xs ys i j e k =
    between_is (xs ++ ys) i j ∙ ap (drop i) (take_all j (xs ++ ys) (omega (arith, k))) ∙ drop_at xs ys i (sym e)

-- the rows so far stay as they are
rows_stay : (starts more : List ℕ) (groups others : List (Option (ℕ × ℕ))) (rows : List Row)
    → AllByRecursion (LiesIn (length starts) (length groups)) rows
    → map (stop_in (starts ++ more) (groups ++ others)) rows ≡ map (stop_in starts groups) rows
rows_stay starts more groups others [] h = refl
rows_stay starts more groups others (row ∷ rows) h = ap₂ (λ (p : Stop) ps. p ∷ ps) same (rows_stay starts more groups others rows h.1)
  where
    same : stop_in (starts ++ more) (groups ++ others) row ≡ stop_in starts groups row
    same =
        ap₂ (λ (ss : List ℕ) (gs : List (Option (ℕ × ℕ))). (row.spot, way (reverse ss) (record { at = row.at; groups = gs; seen = [] })))
        (part_before starts more row.starts row.starts_end h.0.starts_within) (part_before groups others row.groups row.groups_end h.0.groups_within)

-- one more row, with what it holds at the end of both lists
pub rows-push : (starts starts' more : List ℕ) (groups groups' others : List (Option (ℕ × ℕ))) (rows rows' : List Row) (row : Row) (old : List Stop)
    → starts' ≡ starts ++ more → groups' ≡ groups ++ others → rows' ≡ rows ++ row ∷ [] → AllLieIn (length starts) (length groups) rows
    → row.starts ≡ length starts → row.starts_end ≡ length starts' → row.groups ≡ length groups → row.groups_end ≡ length groups'
    → map (stop_in starts groups) rows ≡ old
    → map (stop_in starts' groups') rows' ≡ old ++ (row.spot, way (reverse more) (record { at = row.at; groups = others; seen = [] })) ∷ []
rows-push starts starts' more groups groups' others rows rows' row old e f g lie a b c d is =
    ap₂ (λ (ss : List ℕ) (gs : List (Option (ℕ × ℕ))). map (stop_in ss gs) rows') e f
    ∙ ap (map (stop_in (starts ++ more) (groups ++ others))) g
    ∙ map-append (stop_in (starts ++ more) (groups ++ others)) rows (row ∷ [])
    ∙ ap₂ (λ (ps qs : List Stop). ps ++ qs) (rows_stay starts more groups others rows (recursion_from_All _ rows lie) ∙ is) last
  where
    last : stop_in (starts ++ more) (groups ++ others) row ∷ []
        ≡ (row.spot, way (reverse more) (record { at = row.at; groups = others; seen = [] })) ∷ []
    last =
        ap₂ (λ (ss : List ℕ) (gs : List (Option (ℕ × ℕ))). (row.spot, way (reverse ss) (record { at = row.at; groups = gs; seen = [] })) ∷ [])
        (part_after starts more row.starts row.starts_end a (b ∙ ap length e)) (part_after groups others row.groups row.groups_end c (d ∙ ap length f))
