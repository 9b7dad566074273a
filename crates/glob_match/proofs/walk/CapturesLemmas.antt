-- How the captures of a walk over a glob's tokens end up, from where the walk stands.
use Rattle.std.proofs.Common.{◌≡◌, ◌≢◌, ◌↔◌, inl, inr, ℕ, ◌<◌, List, [], ◌∷◌, ◌++◌, length, set, refl, sym, ap, subst, ◌∙◌, append_assoc}
use Rattle.std.proofs.lemmas.List.{append-nil, set-append_left}
use Rattle.std.proofs.Math.Seq.{set-append_seam}
use Rattle.glob_match.specs.declared.piece.Piece.{Piece}
use Rattle.glob_match.specs.declared.walk.Capture.{Capture}
use Rattle.glob_match.specs.declared.walk.State.{State}
use Rattle.glob_match.specs.declared.walk.State.TheVariants.{Looking, Taking, Passing}
use Rattle.glob_match.specs.declared.walk.Choice.{Choice}
use Rattle.glob_match.specs.Pieces.{Pieces, Options}
use Rattle.glob_match.specs.Pieces.Pieces.{no_pieces, piece, brace}
use Rattle.glob_match.specs.Pieces.Options.{no_options, option}
use Rattle.glob_match.specs.Reading.{Rest, piece_before, brace_before}
use Rattle.glob_match.specs.Reading.Rest.{outside, inside}
use Rattle.glob_match.specs.Takes.{PieceTakes, Takes}
use Rattle.glob_match.specs.Onward.{GoesOn}
use Rattle.glob_match.specs.Captures.{between, captured, passed, passed_options, IsLeast, LeadsOn, IsFirst, IsFirstOption, IsEnd}

-- ---- the same places to go on from

pub least_same : (P Q : ℕ → Type 0) (least : ℕ) → ((n : ℕ) → P n ↔ Q n) → IsLeast P least → IsLeast Q least
least_same P Q least same h = record { holds = (same least).0 h.holds; below_all = λ n q. h.below_all n ((same n).1 q) }

leads_same : (left : Pieces) (path : List ℕ) (P Q : ℕ → Type 0) → ((n : ℕ) → P n ↔ Q n) → (from : ℕ) → LeadsOn left path P from ↔ LeadsOn left path Q from
leads_same left path P Q same from = ((λ h. (h.0, h.1, (same h.0).0 h.2)), (λ h. (h.0, h.1, (same h.0).1 h.2)))

piece_same : (p : Piece) (others : Pieces) (path : List ℕ) (P Q : ℕ → Type 0) → ((n : ℕ) → P n ↔ Q n) → (from n : ℕ) → (PieceTakes p path from n × LeadsOn others path P n) ↔ (PieceTakes p path from n × LeadsOn others path Q n)
piece_same p others path P Q same from n = ((λ h. (h.0, (leads_same others path P Q same n).0 h.1)), (λ h. (h.0, (leads_same others path P Q same n).1 h.1)))

mutual
  first_same : (pieces : Pieces) (path : List ℕ) (P Q : ℕ → Type 0) → ((n : ℕ) → P n ↔ Q n) → (from to : ℕ) (captures : List Capture) → IsFirst pieces path P from to captures → IsFirst pieces path Q from to captures
  first_same no_pieces path P Q same from to captures h = h
  first_same (piece p others) path P Q same from to captures h = (
    h.0,
    h.1,
    least_same (λ n. PieceTakes p path from n × LeadsOn others path P n) (λ n. PieceTakes p path from n × LeadsOn others path Q n) h.0 (piece_same p others path P Q same from) h.2,
    first_same others path P Q same h.0 to h.1 h.3,
    h.4,
  )
  first_same (brace all others) path P Q same from to captures h = (
    h.0,
    h.1,
    h.2,
    option_same all path (LeadsOn others path P) (LeadsOn others path Q) (leads_same others path P Q same) from h.0 h.1 h.3,
    first_same others path P Q same h.0 to h.2 h.4,
    h.5,
  )

  option_same : (options : Options) (path : List ℕ) (P Q : ℕ → Type 0) → ((n : ℕ) → P n ↔ Q n) → (from to : ℕ) (captures : List Capture) → IsFirstOption options path P from to captures → IsFirstOption options path Q from to captures
  option_same no_options path P Q same from to captures h = h
  option_same (option first others) path P Q same from to captures h = elim h [
    | inl l ↦ inl ((leads_same first path P Q same from).0 l.0, (l.1.0, first_same first path P Q same from to l.1.0 l.1.1, l.1.2))
    | inr r ↦ inr ((λ leads. r.0 ((leads_same first path P Q same from).1 leads)), (r.1.0, option_same others path P Q same from to r.1.0 r.1.1, r.1.2))
  ]

-- what is left goes on where it leads to the path's end
end_leads : (left : Pieces) (path : List ℕ) (n : ℕ) → GoesOn (outside left) path n ↔ LeadsOn left path (IsEnd path) n
end_leads left path n = ((λ h. (length path, h, refl)), (λ h. subst (λ (to : ℕ). Takes left path n to) h.2 h.1))

-- ---- how captures end up

-- pieces are taken by their first derivation, and then
abbrev pub Runs : Pieces → List ℕ → (ℕ → Type 0) → (ℕ → List Capture → Type 0) → ℕ → List Capture → Type 0
Runs left path Goes Then place captures = (to : ℕ) × (more : List Capture) × IsFirst left path Goes place to more × Then to (captures ++ more)

-- an option that is taken: then the brace's capture ends there, and the options after it are passed
abbrev pub EndsTaken : ℕ → ℕ → Options → (ℕ → List Capture → Type 0) → ℕ → List Capture → Type 0
EndsTaken at start others Then to captures = Then to (set (captures ++ passed_options others start) at (between start to))

-- no option is taken yet: the first one of those left that can go on is
abbrev pub EndsLooked : ℕ → ℕ → Options → List ℕ → (ℕ → Type 0) → (ℕ → List Capture → Type 0) → List Capture → Type 0
EndsLooked at start others path Goes Then captures = (to : ℕ) × (more : List Capture) × IsFirstOption others path Goes start to more × Then to (set (captures ++ more) at (between start to))

-- an open brace of this state, with what is left of its option and the options after it
abbrev pub Ends : State → ℕ → ℕ → Pieces → Options → List ℕ → (ℕ → Type 0) → (ℕ → List Capture → Type 0) → ℕ → List Capture → Type 0
Ends Taking at start left others path Goes Then place captures = Runs left path Goes (EndsTaken at start others Then) place captures
Ends Looking at start left others path Goes Then place captures = EndsLooked at start others path Goes Then (captures ++ passed left start)
Ends Passing at start left others path Goes Then place captures = Then place ((captures ++ passed left start) ++ passed_options others start)

-- with what is left of the glob, the open braces, the innermost first, and the place reached, these captures end up as the final ones
abbrev pub Finishes : Rest → List Choice → List ℕ → List Capture → ℕ → List Capture → Type 0
Finishes (outside left) [] path final place captures = Runs left path (IsEnd path) (λ to all. (to ≡ length path) × (final ≡ all)) place captures
Finishes (outside left) (choice ∷ choices) path final place captures = ⊥
Finishes (inside left others rest) [] path final place captures = ⊥
Finishes (inside left others rest) (choice ∷ choices) path final place captures =
    Ends choice.state choice.capture choice.start left others path (GoesOn rest path) (Finishes rest choices path final) place captures

-- pieces move the walk
abbrev pub MovesIn : List Choice → Type 0
MovesIn [] = Unit {0}
MovesIn (choice ∷ choices) = choice.state ≡ Taking

-- pieces are passed, in a brace that starts here
abbrev pub PassesIn : List Choice → ℕ → Type 0
PassesIn [] start = ⊥
PassesIn (choice ∷ choices) start = (choice.state ≢ Taking) × (start ≡ choice.start)

-- ---- a piece

runs_piece : (p : Piece) (left : Pieces) (path : List ℕ) (Goes : ℕ → Type 0) (Then : ℕ → List Capture → Type 0) (place to : ℕ) (captures : List Capture) → IsLeast (λ n. PieceTakes p path place n × LeadsOn left path Goes n) to
    → Runs left path Goes Then to (captures ++ captured p place to) → Runs (piece p left) path Goes Then place captures
runs_piece p left path Goes Then place to captures least h =
    (h.0, captured p place to ++ h.1, (to, h.1, least, h.2, refl), subst (λ (all : List Capture). Then h.0 all) (append_assoc captures (captured p place to) h.1) h.3)

ends_piece : (state : State) (p : Piece) (at start : ℕ) (left : Pieces) (others : Options) (path : List ℕ) (Goes : ℕ → Type 0) (Then : ℕ → List Capture → Type 0) (place to : ℕ) (captures : List Capture) → state ≡ Taking
    → IsLeast (λ n. PieceTakes p path place n × LeadsOn left path Goes n) to → Ends state at start left others path Goes Then to (captures ++ captured p place to) → Ends state at start (piece p left) others path Goes Then place captures
ends_piece Taking p at start left others path Goes Then place to captures e least h = runs_piece p left path Goes (EndsTaken at start others Then) place to captures least h
ends_piece Looking p at start left others path Goes Then place to captures e least h = absurd (cc)
ends_piece Passing p at start left others path Goes Then place to captures e least h = absurd (cc)

-- a piece moves the walk to the least place from which what is left goes on
pub finish_moved : (p : Piece) (rest : Rest) (choices : List Choice) (path : List ℕ) (final : List Capture) (place to : ℕ) (captures : List Capture) → MovesIn choices → IsLeast (λ n. PieceTakes p path place n × GoesOn rest path n) to
    → Finishes rest choices path final to (captures ++ captured p place to) → Finishes (piece_before p rest) choices path final place captures
finish_moved p (outside left) [] path final place to captures moves least h =
    let there = least_same (λ n. PieceTakes p path place n × GoesOn (outside left) path n) (λ n. PieceTakes p path place n × LeadsOn left path (IsEnd path) n) to
    (λ n. ((λ g. (g.0, (end_leads left path n).0 g.1)), (λ g. (g.0, (end_leads left path n).1 g.1)))) least in
    runs_piece p left path (IsEnd path) (λ at all. (at ≡ length path) × (final ≡ all)) place to captures there h
finish_moved p (outside left) (choice ∷ choices) path final place to captures moves least h = h
finish_moved p (inside left others rest) [] path final place to captures moves least h = h
finish_moved p (inside left others rest) (choice ∷ choices) path final place to captures moves least h =
    ends_piece choice.state p choice.capture choice.start left others path (GoesOn rest path) (Finishes rest choices path final) place to captures moves least h

skips_piece : (state : State) (p : Piece) (at start from : ℕ) (left : Pieces) (others : Options) (path : List ℕ) (Goes : ℕ → Type 0) (Then : ℕ → List Capture → Type 0) (place : ℕ) (captures : List Capture) → state ≢ Taking → from ≡ start
    → Ends state at start left others path Goes Then place (captures ++ captured p from from) → Ends state at start (piece p left) others path Goes Then place captures
skips_piece Taking p at start from left others path Goes Then place captures e same h = absurd (e refl)
skips_piece Looking p at start from left others path Goes Then place captures e same h =
    subst (λ (all : List Capture). EndsLooked at start others path Goes Then all) (append_assoc captures (captured p start start) (passed left start))
    (subst (λ (k : ℕ). EndsLooked at start others path Goes Then ((captures ++ captured p k k) ++ passed left start)) same h)
skips_piece Passing p at start from left others path Goes Then place captures e same h =
    subst (λ (all : List Capture). Then place (all ++ passed_options others start)) (append_assoc captures (captured p start start) (passed left start))
    (subst (λ (k : ℕ). Then place (((captures ++ captured p k k) ++ passed left start) ++ passed_options others start)) same h)

-- a piece is passed
pub finish_passed : (p : Piece) (rest : Rest) (choices : List Choice) (path : List ℕ) (final : List Capture) (place start : ℕ) (captures : List Capture) → PassesIn choices start
    → Finishes rest choices path final place (captures ++ captured p start start) → Finishes (piece_before p rest) choices path final place captures
finish_passed p (outside left) [] path final place start captures passes h = absurd passes
finish_passed p (outside left) (choice ∷ choices) path final place start captures passes h = h
finish_passed p (inside left others rest) [] path final place start captures passes h = h
finish_passed p (inside left others rest) (choice ∷ choices) path final place start captures passes h =
    skips_piece choice.state p choice.capture choice.start start left others path (GoesOn rest path) (Finishes rest choices path final) place captures passes.0 passes.1 h

-- ---- a brace

runs_brace : (all : Options) (left : Pieces) (path : List ℕ) (Goes : ℕ → Type 0) (Then : ℕ → List Capture → Type 0) (place to : ℕ) (inner captures : List Capture) → IsFirstOption all path (LeadsOn left path Goes) place to inner
    → Runs left path Goes Then to (captures ++ between place to ∷ inner) → Runs (brace all left) path Goes Then place captures
runs_brace all left path Goes Then place to inner captures first h =
    (h.0, between place to ∷ (inner ++ h.1), (to, inner, h.1, first, h.2, refl), subst (λ (cs : List Capture). Then h.0 cs) (append_assoc captures (between place to ∷ inner) h.1) h.3)

ends_brace : (state : State) (all : Options) (at start : ℕ) (left : Pieces) (others : Options) (path : List ℕ) (Goes : ℕ → Type 0) (Then : ℕ → List Capture → Type 0) (place to : ℕ) (inner captures : List Capture) → state ≡ Taking
    → IsFirstOption all path (LeadsOn left path Goes) place to inner → Ends state at start left others path Goes Then to (captures ++ between place to ∷ inner) → Ends state at start (brace all left) others path Goes Then place captures
ends_brace Taking all at start left others path Goes Then place to inner captures e first h = runs_brace all left path Goes (EndsTaken at start others Then) place to inner captures first h
ends_brace Looking all at start left others path Goes Then place to inner captures e first h = absurd (cc)
ends_brace Passing all at start left others path Goes Then place to inner captures e first h = absurd (cc)

-- a brace is taken, by its first option from which what is left goes on
brace_taken : (all : Options) (rest : Rest) (choices : List Choice) (path : List ℕ) (final : List Capture) (place to : ℕ) (inner captures : List Capture) → MovesIn choices → IsFirstOption all path (GoesOn rest path) place to inner
    → Finishes rest choices path final to (captures ++ between place to ∷ inner) → Finishes (brace_before all rest) choices path final place captures
brace_taken all (outside left) [] path final place to inner captures moves first h =
    runs_brace all left path (IsEnd path) (λ at cs. (at ≡ length path) × (final ≡ cs)) place to inner captures (option_same all path (GoesOn (outside left) path) (LeadsOn left path (IsEnd path)) (end_leads left path) place to inner first) h
brace_taken all (outside left) (choice ∷ choices) path final place to inner captures moves first h = h
brace_taken all (inside left others rest) [] path final place to inner captures moves first h = h
brace_taken all (inside left others rest) (choice ∷ choices) path final place to inner captures moves first h =
    ends_brace choice.state all choice.capture choice.start left others path (GoesOn rest path) (Finishes rest choices path final) place to inner captures moves first h

skips_brace : (state : State) (all : Options) (at start from : ℕ) (left : Pieces) (others : Options) (path : List ℕ) (Goes : ℕ → Type 0) (Then : ℕ → List Capture → Type 0) (place : ℕ) (captures : List Capture) → state ≢ Taking → from ≡ start
    → Ends state at start left others path Goes Then place (captures ++ between from from ∷ passed_options all from) → Ends state at start (brace all left) others path Goes Then place captures
skips_brace Taking all at start from left others path Goes Then place captures e same h = absurd (e refl)
skips_brace Looking all at start from left others path Goes Then place captures e same h =
    subst (λ (cs : List Capture). EndsLooked at start others path Goes Then cs) (append_assoc captures (between start start ∷ passed_options all start) (passed left start))
    (subst (λ (k : ℕ). EndsLooked at start others path Goes Then ((captures ++ between k k ∷ passed_options all k) ++ passed left start)) same h)
skips_brace Passing all at start from left others path Goes Then place captures e same h =
    subst (λ (cs : List Capture). Then place (cs ++ passed_options others start)) (append_assoc captures (between start start ∷ passed_options all start) (passed left start))
    (subst (λ (k : ℕ). Then place (((captures ++ between k k ∷ passed_options all k) ++ passed left start) ++ passed_options others start)) same h)

-- a brace is passed
brace_passed : (all : Options) (rest : Rest) (choices : List Choice) (path : List ℕ) (final : List Capture) (place start : ℕ) (captures : List Capture) → PassesIn choices start
    → Finishes rest choices path final place (captures ++ between start start ∷ passed_options all start) → Finishes (brace_before all rest) choices path final place captures
brace_passed all (outside left) [] path final place start captures passes h = absurd passes
brace_passed all (outside left) (choice ∷ choices) path final place start captures passes h = h
brace_passed all (inside left others rest) [] path final place start captures passes h = h
brace_passed all (inside left others rest) (choice ∷ choices) path final place start captures passes h =
    skips_brace choice.state all choice.capture choice.start start left others path (GoesOn rest path) (Finishes rest choices path final) place captures passes.0 passes.1 h

-- ---- `{`

-- the brace's capture is set where it was added
set_added : (captures xs ys : List Capture) (old new : Capture) → set (((captures ++ old ∷ []) ++ xs) ++ ys) (length captures) new ≡ captures ++ new ∷ (xs ++ ys)
set_added captures xs ys old new =
    let flat : ((captures ++ old ∷ []) ++ xs) ++ ys ≡ captures ++ old ∷ (xs ++ ys) = append_assoc (captures ++ old ∷ []) xs ys ∙ append_assoc captures (old ∷ []) (xs ++ ys) in
    ap (λ (cs : List Capture). set cs (length captures) new) flat ∙ set-append_seam captures old (xs ++ ys) new

pub open_taking : (left : Pieces) (others : Options) (rest : Rest) (choices : List Choice) (path : List ℕ) (final : List Capture) (place : ℕ) (captures : List Capture) → MovesIn choices → GoesOn (inside left others rest) path place
    → Finishes (inside left others rest) (record { capture = length captures; start = place; state = Taking } ∷ choices) path final place (captures ++ between place place ∷ [])
    → Finishes (brace_before (option left others) rest) choices path final place captures
open_taking left others rest choices path final place captures moves goes h =
    brace_taken (option left others) rest choices path final place h.0 (h.1 ++ passed_options others place) captures moves (inl (goes, (h.1, h.2, refl)))
    (subst (λ (cs : List Capture). Finishes rest choices path final h.0 cs) (set_added captures h.1 (passed_options others place) (between place place) (between place h.0)) h.3)

pub open_looking : (left : Pieces) (others : Options) (rest : Rest) (choices : List Choice) (path : List ℕ) (final : List Capture) (place : ℕ) (captures : List Capture) → MovesIn choices → ¬ (GoesOn (inside left others rest) path place)
    → Finishes (inside left others rest) (record { capture = length captures; start = place; state = Looking } ∷ choices) path final place (captures ++ between place place ∷ [])
    → Finishes (brace_before (option left others) rest) choices path final place captures
open_looking left others rest choices path final place captures moves stops h =
    brace_taken (option left others) rest choices path final place h.0 (passed left place ++ h.1) captures moves (inr (stops, (h.1, h.2, refl)))
    (subst (λ (cs : List Capture). Finishes rest choices path final h.0 cs) (set_added captures (passed left place) h.1 (between place place) (between place h.0)) h.3)

pub open_passing : (left : Pieces) (others : Options) (rest : Rest) (choices : List Choice) (path : List ℕ) (final : List Capture) (place start : ℕ) (captures : List Capture) → PassesIn choices start
    → Finishes (inside left others rest) (record { capture = length captures; start = start; state = Passing } ∷ choices) path final place (captures ++ between start start ∷ [])
    → Finishes (brace_before (option left others) rest) choices path final place captures
open_passing left others rest choices path final place start captures passes h =
    let flat : ((captures ++ between start start ∷ []) ++ passed left start) ++ passed_options others start ≡ captures ++ between start start ∷ (passed left start ++ passed_options others start) =
    append_assoc (captures ++ between start start ∷ []) (passed left start) (passed_options others start) ∙ append_assoc captures (between start start ∷ []) (passed left start ++ passed_options others start) in
    brace_passed (option left others) rest choices path final place start captures passes (subst (λ (cs : List Capture). Finishes rest choices path final place cs) flat h)

-- ---- `,` and `}`

-- nothing more, and then two parts
nothing_more : (captures xs ys : List Capture) → (captures ++ xs) ++ ys ≡ (captures ++ []) ++ (xs ++ ys)
nothing_more captures xs ys = append_assoc captures xs ys ∙ ap (λ (cs : List Capture). cs ++ (xs ++ ys)) (sym (append-nil captures))

-- the option that was taken ends
pub part_taking : (at start : ℕ) (left : Pieces) (others : Options) (path : List ℕ) (Goes : ℕ → Type 0) (Then : ℕ → List Capture → Type 0) (place : ℕ) (captures : List Capture) → at < length captures
    → Ends Passing at start left others path Goes Then place (set captures at (between start place)) → Ends Taking at start no_pieces (option left others) path Goes Then place captures
part_taking at start left others path Goes Then place captures within h =
    let xs : List Capture = passed left start ++ passed_options others start in
    let same : (set captures at (between start place) ++ passed left start) ++ passed_options others start ≡ set ((captures ++ []) ++ xs) at (between start place) =
    append_assoc (set captures at (between start place)) (passed left start) (passed_options others start) ∙ sym (set-append_left captures xs at (between start place) within)
    ∙ ap (λ (cs : List Capture). set (cs ++ xs) at (between start place)) (sym (append-nil captures)) in
    (place, [], (refl, refl), subst (λ (cs : List Capture). Then place cs) same h)

-- the next option is taken
pub part_looked : (at start : ℕ) (left : Pieces) (others : Options) (path : List ℕ) (Goes : ℕ → Type 0) (Then : ℕ → List Capture → Type 0) (place : ℕ) (captures : List Capture) → LeadsOn left path Goes start
    → Ends Taking at start left others path Goes Then start captures → Ends Looking at start no_pieces (option left others) path Goes Then place captures
part_looked at start left others path Goes Then place captures leads h = (
  h.0,
  h.1 ++ passed_options others start,
  inl (leads, (h.1, h.2, refl)),
  subst (λ (cs : List Capture). Then h.0 (set cs at (between start h.0))) (nothing_more captures h.1 (passed_options others start)) h.3,
)

-- the next option isn't taken either
pub part_looking : (at start : ℕ) (left : Pieces) (others : Options) (path : List ℕ) (Goes : ℕ → Type 0) (Then : ℕ → List Capture → Type 0) (place to : ℕ) (captures : List Capture) → ¬ (LeadsOn left path Goes start)
    → Ends Looking at start left others path Goes Then to captures → Ends Looking at start no_pieces (option left others) path Goes Then place captures
part_looking at start left others path Goes Then place to captures stops h = (
  h.0,
  passed left start ++ h.1,
  inr (stops, (h.1, h.2, refl)),
  subst (λ (cs : List Capture). Then h.0 (set cs at (between start h.0))) (nothing_more captures (passed left start) h.1) h.3,
)

-- the next option is passed
pub part_passing : (at start : ℕ) (left : Pieces) (others : Options) (path : List ℕ) (Goes : ℕ → Type 0) (Then : ℕ → List Capture → Type 0) (place : ℕ) (captures : List Capture)
    → Ends Passing at start left others path Goes Then place captures → Ends Passing at start no_pieces (option left others) path Goes Then place captures
part_passing at start left others path Goes Then place captures h = subst (λ (cs : List Capture). Then place cs) (nothing_more captures (passed left start) (passed_options others start)) h

nothing_at_all : (captures : List Capture) → (captures ++ []) ++ [] ≡ captures
nothing_at_all captures = append-nil (captures ++ []) ∙ append-nil captures

-- the last option ends, which was taken
pub close_taking : (at start : ℕ) (path : List ℕ) (Goes : ℕ → Type 0) (Then : ℕ → List Capture → Type 0) (place : ℕ) (captures : List Capture) → Then place (set captures at (between start place))
    → Ends Taking at start no_pieces no_options path Goes Then place captures
close_taking at start path Goes Then place captures h =
    (place, [], (refl, refl), subst (λ (cs : List Capture). Then place (set cs at (between start place))) (sym (nothing_at_all captures)) h)

-- the last option ends, which was passed
pub close_passing : (at start : ℕ) (path : List ℕ) (Goes : ℕ → Type 0) (Then : ℕ → List Capture → Type 0) (place : ℕ) (captures : List Capture) → Then place captures → Ends Passing at start no_pieces no_options path Goes Then place captures
close_passing at start path Goes Then place captures h = subst (λ (cs : List Capture). Then place cs) (sym (nothing_at_all captures)) h
