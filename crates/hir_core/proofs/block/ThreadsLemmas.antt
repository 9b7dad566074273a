-- The threads that come into a block, followed one after another, and those that begin in it.
use Rattle.std.proofs.Common.{◌≡◌, ℕ, suc, ◌+◌, ◌-◌, ◌<◌, ◌≤◌, Bool, true, false, List, [], ◌∷◌, ◌++◌, length, map, Option, Some, None, refl, sym, ap, ◌∙◌, subst, true≢false, append-nil, append_assoc, arith}
use Rattle.std.specs.Prelude.{is_some}
use Rattle.std.specs.Option.{option_or}
use Rattle.std.proofs.lemmas.List.{map-append}
use Rattle.hir_tree.specs.Runs.{Run, begin, first}
use Rattle.hir_tree.specs.RunsLaws.{forget}
use Rattle.hir_core.specs.Blocks.{AreSpent, IsFollowed}
use Rattle.hir_program.specs.Entry.{IsEntry}
use Rattle.hir_program.specs.Masks.{NoRun}
use Rattle.hir_core.specs.Pass.{AllFrom, first_of, stop_gives, stops_give, begins, first_from, answer}
use Rattle.hir_program.specs.Program.{way, opened, some_run, ClosesFall}
use Rattle.hir_core.specs.Trails.{Stop}
use Rattle.hir_program.specs.declared.spot.Spot.{Spot}
use Rattle.hir_core.proofs.pass.PassLemmas.{first_of_two}
use Rattle.hir_core.proofs.pass.SkipLemmas.{answer-skip}
use Rattle.hir_core.proofs.pass.RoundLemmas.{first_then, or_else_some, or_assoc, or_none, answer-round}

-- What the loop over the threads keeps true.
pub record Threads (text : List ℕ) (spots : List Spot) (from_place end : ℕ) (goal : Option Run) (marks : List Bool) (kept threads : List Stop) : Type 0 where
  pub from : AllFrom text from_place threads
  pub later : AllFrom text end kept
  pub spent : AreSpent text spots from_place marks (some_run (stops_give text spots kept))
  pub finds : first_of (stops_give text spots kept ++ stops_give text spots threads) ≡ goal

module _ (text : List ℕ) (spots : List Spot) (from_place end : ℕ) (goal : Option Run) (marks : List Bool) (kept rest threads : List Stop) (p : Stop)
    (e : threads ≡ p ∷ rest) (h : Threads text spots from_place end goal marks kept threads) where
  apart_from : AllFrom text from_place (p ∷ rest)
  apart_from = subst (AllFrom text from_place) e h.from

  apart_finds : first_of (stops_give text spots kept ++ (stop_gives text spots p ++ stops_give text spots rest)) ≡ goal
  apart_finds = ap (λ ps. first_of (stops_give text spots kept ++ stops_give text spots ps)) (sym e) ∙ h.finds

  pub Threads-at : (from_place ≤ p.1.run.at) × (p.1.run.at ≤ length text)
  Threads-at = apart_from.0

  -- a thread was followed
  pub Threads-followed : (marks' : List Bool) (kept' : List Stop) → AllFrom text end kept'
      → IsFollowed text spots from_place (stop_gives text spots p) None marks' kept kept' → Threads text spots from_place end goal marks' kept' rest
  Threads-followed marks' kept' later followed = record {
    from = apart_from.1;
    later = later;
    spent = followed.0;
    finds =
        first_then (stops_give text spots kept') (stops_give text spots kept ++ stop_gives text spots p) (stops_give text spots rest) followed.1
        ∙ ap first_of (append_assoc (stops_give text spots kept) (stop_gives text spots p) (stops_give text spots rest)) ∙ apart_finds;
  }

  -- a thread came to a match
  pub Threads-found : (marks' : List Bool) (kept' : List Stop) (m : Run)
      → IsFollowed text spots from_place (stop_gives text spots p) (Some m) marks' kept kept'
      → option_or (first_of (stops_give text spots kept')) (Some m) ≡ goal
  Threads-found marks' kept' m followed =
      sym (or_else_some (first_of (stops_give text spots kept')) (first_of (stops_give text spots rest)) m)
      ∙ ap (λ r. option_or r (first_of (stops_give text spots rest))) followed
      ∙ sym (first_of_two (stops_give text spots kept ++ stop_gives text spots p) (stops_give text spots rest))
      ∙ ap first_of (append_assoc (stops_give text spots kept) (stop_gives text spots p) (stops_give text spots rest)) ∙ apart_finds

-- when no thread is left
pub Threads-end : (text : List ℕ) (spots : List Spot) (from_place end : ℕ) (goal : Option Run) (marks : List Bool) (kept threads : List Stop) → threads ≡ []
    → Threads text spots from_place end goal marks kept threads
    → AreSpent text spots from_place marks (some_run (stops_give text spots kept)) × (first_of (stops_give text spots kept) ≡ goal)
Threads-end text spots from_place end goal marks kept threads e h = (
  h.spent,
  ap first_of (sym (append-nil (stops_give text spots kept))) ∙ ap (λ ts. first_of (stops_give text spots kept ++ stops_give text spots ts)) (sym e) ∙ h.finds,
)

module _ (text : List ℕ) (spots : List Spot) (from_place : ℕ) where
  -- what was found, and what is kept, have the first run of what was kept before and what was followed
  followed_finds : (runs : List Run) (found : Option Run) (marks : List Bool) (old kept : List Stop) → IsFollowed text spots from_place runs found marks old kept
      → option_or (first_of (stops_give text spots kept)) found ≡ first_of (stops_give text spots old ++ runs)
  followed_finds runs None marks old kept h = or_none _ ∙ h.1
  followed_finds runs (Some m) marks old kept h = h

  -- what differs in what it saw alone has the same first run
  first_same : (xs ys zs : List Run) → map forget ys ≡ map forget zs → first_of (xs ++ ys) ≡ first_of (xs ++ zs)
  first_same xs ys zs e =
      ap first (map-append forget xs ys ∙ ap (λ rs. map forget xs ++ rs) e ∙ sym (map-append forget xs zs))

  -- a thread that begins at a place, at an entry of the program, was followed
  pub answer-begun : (groups place : ℕ) (found : Option Run) (marks : List Bool) (old kept : List Stop) (start : Stop) (entry : ℕ) → ClosesFall spots
      → IsEntry spots entry → place ≤ length text → start ≡ (entry, opened (way [] (begin place groups)))
      → IsFollowed text spots from_place (stop_gives text spots start) found marks old kept
      → answer text spots groups (place + 1) (stops_give text spots kept) found ≡ answer text spots groups place (stops_give text spots old) None
  answer-begun groups place found marks old kept start entry falls enters within starts h =
      ap (answer text spots groups (place + 1) (stops_give text spots kept)) (sym (or_none found))
      ∙ answer-round text spots place groups within (stops_give text spots old) (stops_give text spots kept) None found
      (followed_finds (stop_gives text spots start) found marks old kept h
      ∙ ap (λ (p : Stop). first_of (stops_give text spots old ++ stop_gives text spots p)) starts
      ∙ first_same (stops_give text spots old) (stop_gives text spots (entry, opened (way [] (begin place groups)))) (begins text spots groups place)
      (sym (enters falls text place groups)))

  -- the threads of a block were followed
  pub answer-followed : (groups start : ℕ) (found best : Option Run) (marks : List Bool) (old kept threads : List Stop) → old ≡ []
      → IsFollowed text spots from_place (stops_give text spots threads) found marks old kept
      → answer text spots groups start (stops_give text spots kept) (option_or found best) ≡ answer text spots groups start (stops_give text spots threads) best
  answer-followed groups start found best marks old kept threads none h =
      or_assoc (first_of (stops_give text spots kept)) found best (first_from text spots groups (length text + 1 - start) start)
      ∙ ap (λ r. option_or r (option_or best (first_from text spots groups (length text + 1 - start) start)))
      (followed_finds (stops_give text spots threads) found marks old kept h ∙ ap (λ ts. first_of (stops_give text spots ts ++ stops_give text spots threads)) none)

  -- and then those that begin in it, as nothing was found
  pub answer-block : (groups start start' : ℕ) (found best : Option Run) (marks : List Bool) (old kept kept' threads : List Stop) → old ≡ []
      → is_some best ≡ false → IsFollowed text spots from_place (stops_give text spots threads) None marks old kept
      → answer text spots groups start' (stops_give text spots kept') found ≡ answer text spots groups start (stops_give text spots kept) None
      → answer text spots groups start' (stops_give text spots kept') (option_or found best) ≡ answer text spots groups start (stops_give text spots threads) best
  answer-block groups start start' found (Some b) marks old kept kept' threads none no_best h k = absurd (true≢false no_best)
  answer-block groups start start' found None marks old kept kept' threads none no_best h k =
      ap (answer text spots groups start' (stops_give text spots kept')) (or_none found) ∙ k ∙ answer-followed groups start None None marks old kept threads none h

-- nothing is there after two that have nothing
pub none-of_two : (found best : Option Run) → is_some (option_or found best) ≡ false → (is_some found ≡ false) × (is_some best ≡ false)
none-of_two None best e = (refl, e)
none-of_two (Some m) best e = absurd (true≢false e)

-- the answer past the end of the text
pub answer-done : (text : List ℕ) (spots : List Spot) (groups start place : ℕ) (threads : List Stop) (best : Option Run) → length text < place
    → AllFrom text place threads → (is_some best ≡ false → place ≤ start) → answer text spots groups start (stops_give text spots threads) best ≡ best
answer-done text spots groups start place threads best past from next =
    ap (λ ps. option_or (first_of (stops_give text spots ps)) (option_or best (first_from text spots groups (length text + 1 - start) start))) (gone threads from)
    ∙ over best next
  where
    gone : (ps : List Stop) → AllFrom text place ps → ps ≡ []
    gone [] h = refl
    gone (p ∷ ps) h = absurd (omega (arith, past, h.0.0, h.0.1))

    over : (best : Option Run) → (is_some best ≡ false → place ≤ start) → option_or best (first_from text spots groups (length text + 1 - start) start) ≡ best
    over (Some b) next = refl
    over None next =
        let after : place ≤ start = next refl in
        let none : length text + 1 - start ≡ 0 = omega (arith, past, after) in
        ap (λ n. first_from text spots groups n start) none

-- no thread is at any place
pub none-from : (text : List ℕ) (place : ℕ) (threads : List Stop) → threads ≡ [] → AllFrom text place threads
none-from text place threads e = subst (AllFrom text place) (sym e) tt

-- the answer at the start of a search
pub answer-start : (text : List ℕ) (spots : List Spot) (groups at to place : ℕ) (threads : List Stop) (best : Option Run) → threads ≡ [] → best ≡ None
    → place ≡ at → place ≤ to → to ≤ length text + 1 → NoRun text spots place to
    → answer text spots groups to (stops_give text spots threads) best ≡ first_from text spots groups (length text + 1 - at) at
answer-start text spots groups at to place threads best none no_best same after within empty =
    answer-skip text spots groups place to threads best none no_best after within empty
    ∙ ap (λ ts. answer text spots groups place (stops_give text spots ts) best) none
    ∙ ap (λ b. option_or b (first_from text spots groups (length text + 1 - place) place)) no_best
    ∙ ap (λ p. first_from text spots groups (length text + 1 - p) p) same

-- the answer, where what begins at the first place that may have a run has one
pub answer-there : (text : List ℕ) (spots : List Spot) (groups at to place : ℕ) (best : Option Run) → place ≡ at → place ≤ to → to ≤ length text
    → NoRun text spots place to → is_some best ≡ true → best ≡ first_of (begins text spots groups to)
    → best ≡ first_from text spots groups (length text + 1 - at) at
answer-there text spots groups at to place best same after within empty some found =
    here best some found ∙ ap (λ n. first_from text spots groups n to) (let k : suc (length text - to) ≡ length text + 1 - to = omega arith in k)
    ∙ answer-start text spots groups at to place [] None refl refl same after (omega (arith, within)) empty
  where
    rest : Option Run
    rest = first_from text spots groups (length text - to) (to + 1)

    here : (best : Option Run) → is_some best ≡ true → best ≡ first_of (begins text spots groups to) → best ≡ option_or (first_of (begins text spots groups to)) rest
    here None some found = absurd (true≢false (sym some))
    here (Some m) some found = ap (λ o. option_or o rest) found
