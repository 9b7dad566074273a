-- From the places that a glob's pieces reach to whether it fits.
use Rattle.std.proofs.Common.{◌≡◌, ◌↔◌, ℕ, zero, suc, Bool, true, false, not, List, [], length, drop, slice_get, Option, Some, None, MatchOption, refl, sym, ap, ◌∙◌}
use mathlib.Core.Bool.{beq}
use Rattle.glob_match.specs.Pieces.{Pieces}
use Rattle.glob_match.specs.Reading.{is_odd, negations, symbols_after, pieces_of_symbols, pieces_of}
use Rattle.glob_match.specs.Takes.{Takes, FitsUnder, Fits}
use Rattle.glob_match.specs.Places.{IsReached}
use Rattle.glob_match.specs.declared.walk.Capture.{Capture}
use Rattle.glob_match.specs.Captures.{Captures, GlobCaptures}
use Rattle.glob_match.proofs.places.PlacesLemmas.{some_true}

-- one more `!` turns the answer
turned : (b odd : Bool) → (not (beq b (not odd)) ≡ true) ↔ ¬ (not (beq b odd) ≡ true)
turned true true = ((λ _. λ e. absurd (cc)), (λ _. refl))
turned true false = ((λ e. absurd (cc)), (λ h. absurd (h refl)))
turned false true = ((λ e. absurd (cc)), (λ h. absurd (h refl)))
turned false false = ((λ _. λ e. absurd (cc)), (λ _. refl))

unturned : (b : Bool) → (not (beq b false) ≡ true) ↔ (b ≡ true)
unturned true = ((λ e. e), (λ e. e))
unturned false = ((λ e. absurd (cc)), (λ e. absurd (cc)))

-- the test of the whole path, turned where the `!`s negate
under : (pieces : Pieces) (path : List ℕ) (b : Bool) → (b ≡ true) ↔ Takes pieces path 0 (length path) → (signs : ℕ) → (not (beq b (is_odd signs)) ≡ true) ↔ FitsUnder signs pieces path
under whole path b takes zero = ((λ e. takes.0 ((unturned b).0 e)), (λ t. (unturned b).1 (takes.1 t)))
under whole path b takes (suc signs) =
    let before = under whole path b takes signs in
    let turn = turned b (is_odd signs) in
    ((λ e. λ f. turn.0 e (before.1 f)), (λ n. turn.1 (λ e. n (before.0 e))))

-- the pieces of a glob are those of the text after its `!`s
pub read_whole : (glob text : List ℕ) (pieces : Option Pieces) → text ≡ drop (negations glob) glob → pieces_of_symbols (symbols_after false text) ≡ pieces → pieces_of glob ≡ pieces
read_whole glob text pieces rest is = ap (λ t. pieces_of_symbols (symbols_after false t)) (sym rest) ∙ is

-- a valid glob fits as its pieces reach the path's end
pub fits_valid : (glob path : List ℕ) (pieces : Pieces) (places : List Bool) (takes negated : Bool) → pieces_of glob ≡ Some pieces → negated ≡ is_odd (negations glob)
    → IsReached pieces path places → slice_get places (length path) ≡ Some takes → (not (beq takes negated) ≡ true) ↔ Fits glob path
fits_valid glob path pieces places takes negated whole odd reached there =
    let test : (takes ≡ true) ↔ Takes pieces path 0 (length path) = (
      (λ e. (reached.these (length path)).0 (there ∙ ap Some e)),
      (λ t. some_true takes (sym there ∙ (reached.these (length path)).1 t)),
    ) in
    let all = under pieces path takes test (negations glob) in
    rw (odd, whole) all

-- an invalid glob fits nothing
pub fits_invalid : (glob path : List ℕ) → pieces_of glob ≡ None → ¬ Fits glob path
fits_invalid glob path whole fits = rw whole at fits

-- ---- what a glob captures

-- a known test of the pieces, turned where the `!`s negate
under_known : (pieces : Pieces) (path : List ℕ) (b odd : Bool) (signs : ℕ) → (b ≡ true) ↔ Takes pieces path 0 (length path) → odd ≡ is_odd signs → (not (beq b odd) ≡ true) ↔ FitsUnder signs pieces path
under_known whole path b odd signs takes is = rw is (under whole path b takes signs)

taken_known : (pieces : Pieces) (path : List ℕ) → Takes pieces path 0 (length path) → (true ≡ true) ↔ Takes pieces path 0 (length path)
taken_known whole path takes = ((λ _. takes), (λ _. refl))

stopped_known : (pieces : Pieces) (path : List ℕ) → ¬ (Takes pieces path 0 (length path)) → (false ≡ true) ↔ Takes pieces path 0 (length path)
stopped_known whole path stops = ((λ e. absurd (cc)), (λ takes. absurd (stops takes)))

-- what was found is right: none where the glob doesn't fit, and else its captures
abbrev pub IsFoundRight : {V : Type 0} → (V → List Capture) → List ℕ → List ℕ → Option V → Type 0
IsFoundRight items glob path found = MatchOption found (¬ Fits glob path) (λ v. Fits glob path × GlobCaptures glob path (items v))

-- under an even number of `!`
pub found_plain : {V : Type 0} (items : V → List Capture) (glob path text : List ℕ) (pieces : Pieces) (found : Option V) → text ≡ drop (negations glob) glob → pieces_of_symbols (symbols_after false text) ≡ Some pieces → false ≡ is_odd (negations glob)
    → MatchOption found (¬ (Takes pieces path 0 (length path))) (λ v. Takes pieces path 0 (length path) × Captures pieces path (items v)) → IsFoundRight items glob path found
found_plain items glob path text whole None rest is even stops =
    let read : pieces_of glob ≡ Some whole = ap (λ t. pieces_of_symbols (symbols_after false t)) (sym rest) ∙ is in
    let test = under_known whole path false false (negations glob) (stopped_known whole path stops) even in
    rw read (λ fits. absurd (let e = test.1 fits in cc))
found_plain items glob path text whole (Some v) rest is even takes =
    let read : pieces_of glob ≡ Some whole = ap (λ t. pieces_of_symbols (symbols_after false t)) (sym rest) ∙ is in
    let test = under_known whole path true false (negations glob) (taken_known whole path takes.0) even in
    rw (read, ← even) (test.0 refl, takes.1)

-- under an odd number of `!`, where the pieces take the path
pub found_turned : (glob path text : List ℕ) (pieces : Pieces) → text ≡ drop (negations glob) glob → pieces_of_symbols (symbols_after false text) ≡ Some pieces → true ≡ is_odd (negations glob) → Takes pieces path 0 (length path) → ¬ Fits glob path
found_turned glob path text whole rest is odd takes =
    let read : pieces_of glob ≡ Some whole = ap (λ t. pieces_of_symbols (symbols_after false t)) (sym rest) ∙ is in
    let test = under_known whole path true true (negations glob) (taken_known whole path takes) odd in
    rw read (λ fits. absurd (let e = test.1 fits in cc))

-- under an odd number of `!`, where they don't
pub found_none : (glob path text : List ℕ) (pieces : Pieces) → text ≡ drop (negations glob) glob → pieces_of_symbols (symbols_after false text) ≡ Some pieces → true ≡ is_odd (negations glob) → ¬ (Takes pieces path 0 (length path)) → Fits glob path × GlobCaptures glob path []
found_none glob path text whole rest is odd stops =
    let read : pieces_of glob ≡ Some whole = ap (λ t. pieces_of_symbols (symbols_after false t)) (sym rest) ∙ is in
    let test = under_known whole path false true (negations glob) (stopped_known whole path stops) odd in
    rw (read, ← odd) (test.0 refl, refl)
