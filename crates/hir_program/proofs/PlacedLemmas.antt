-- A program in which a core is placed gives the core's runs.
use Rattle.std.proofs.Common.{◌≡◌, ℕ, zero, suc, ◌+◌, ◌-◌, ◌<◌, ◌≤◌, Bool, true, false, cond, inl, inr, List, [], ◌∷◌, ◌++◌, length, map, if◌then◌else◌, refl, sym, ap, ap₂, ◌∙◌, append-nil, arith}
use Rattle.std.proofs.Math.Path.{fun_ext}
use Rattle.std.specs.List.{flat_map}
use Rattle.std.proofs.lemmas.Bool.{cases_lt, cond-true, cond-false}
use Rattle.std.proofs.lemmas.Grind.{flat_map-append}
use Rattle.std.proofs.lemmas.List.Folds.{flat_map-map}
use Rattle.hir_tree.specs.Core.{Core, empty, byte_in, char_in, look, group, pair, choice, none, plus, numbers}
use Rattle.hir_tree.specs.Looks.{holds}
use Rattle.hir_tree.specs.Runs.{Run, Step, mark, set_group, is_seen, visit, rounds_or_end, after, byte_size, char_size, take_size, runs}
use Rattle.hir_program.specs.Program.{spot_at, is_unmarked, Way, way, closed, follow, visit_as, gives, ClosesFall, Placed}
use Rattle.hir_program.specs.declared.spot.Spot.{Spot}
use Rattle.hir_program.specs.declared.spot.Spot.TheVariants as spot
use Rattle.hir_tree.proofs.ListLemmas.{flat_map-cong, flat_map-flat_map}
use Rattle.hir_tree.proofs.RunsLemmas.{GoesOn, Forward, seen_self, after-shut, runs-Forward}
use Rattle.hir_program.proofs.ProgramLemmas.{gives-eq}

module _ (text : List ℕ) (spots : List Spot) (falls : ClosesFall spots) where
  -- what a spot gives to runs that are in groups which began at these places
  abbrev pub gives_on : ℕ → List ℕ → Step
  gives_on q starts r = gives text spots q (way starts r)

  pub gives-at : (q : ℕ) (s : Spot) (t : Way) → spot_at spots q ≡ s → gives text spots q t ≡ visit_as text spots (gives text spots) s q t
  gives-at q s t e = gives-eq text spots falls q t ∙ ap (λ x. visit_as text spots (gives text spots) x q t) e

  -- the end of a group
  pub gives-close : (q i f : ℕ) (t : Way) → spot_at spots q ≡ spot.Close i f → gives text spots q t ≡ gives text spots f (closed i t)
  gives-close q i f t e = gives-at q (spot.Close i f) t e

  -- a spot that marks itself gives what a node gives, if the two agree on what follows
  gives-visit : (q : ℕ) (s : Spot) (starts : List ℕ) (r : Run) (k next : Step) → spot_at spots q ≡ s → is_unmarked s ≡ false
      → follow text spots (gives text spots) s (way starts (mark q r)) ≡ flat_map k (next (mark q r))
      → gives_on q starts r ≡ flat_map k (visit q next r)
  gives-visit q s starts r k next e plain same =
      gives-at q s (way starts r) e ∙ cond-false _ _ _ plain ∙ cases (is_seen q r.seen)
    where
      cases : (b : Bool) → cond b [] (follow text spots (gives text spots) s (way starts (mark q r))) ≡ flat_map k (cond b [] (next (mark q r)))
      cases true = refl
      cases false = same

  gives-seen : (q : ℕ) (s : Spot) (starts : List ℕ) (r : Run) → spot_at spots q ≡ s → is_unmarked s ≡ false → is_seen q r.seen ≡ true → gives_on q starts r ≡ []
  gives-seen q s starts r e plain seen =
      gives-at q s (way starts r) e ∙ cond-false _ _ _ plain ∙ cond-true _ _ _ seen

  abbrev again_spot : Bool → ℕ → ℕ → Spot
  again_spot greedy round leave = if greedy then spot.Split round leave else spot.Split leave round

  plain_again : (greedy : Bool) (round leave : ℕ) → is_unmarked (again_spot greedy round leave) ≡ false
  plain_again true round leave = refl
  plain_again false round leave = refl

  -- the two ways on from an again spot
  follow-again : (greedy : Bool) (round leave : ℕ) (starts : List ℕ) (u : Run) (rounds : List Run)
      → gives_on round starts u ≡ flat_map (gives_on leave starts) rounds
      → follow text spots (gives text spots) (again_spot greedy round leave) (way starts u)
      ≡ flat_map (gives_on leave starts) (rounds_or_end greedy rounds u)
  follow-again true round leave starts u rounds e =
      ap (λ xs. xs ++ gives_on leave starts u) e
      ∙ ap (λ xs. flat_map (gives_on leave starts) rounds ++ xs) (sym (append-nil _))
      ∙ sym (flat_map-append (gives_on leave starts) rounds (u ∷ []))
  follow-again false round leave starts u rounds e = ap (λ xs. gives_on leave starts u ++ xs) e

  -- the again spot of a plus gives what follows its rounds
  placed-after : (greedy : Bool) (again round leave : ℕ) (body : Step) (starts : List ℕ) → Forward text body
      → spot_at spots again ≡ again_spot greedy round leave
      → ((u : Run) → u.at ≤ length text → gives_on round starts u ≡ flat_map (gives_on again starts) (body u))
      → (n : ℕ) (r : Run) → r.at ≤ length text → length text - r.at < n
      → gives_on again starts r ≡ flat_map (gives_on leave starts) (after greedy again body n r)
  unfolding after
  placed-after greedy again round leave body starts fwd e body_is zero r h less = absurd (omega arith)
  placed-after greedy again round leave body starts fwd e body_is (suc n) r h less =
      let u : Run = mark again r in
      gives-visit again (again_spot greedy round leave) starts r (gives_on leave starts)
      (λ s. rounds_or_end greedy (flat_map (after greedy again body n) (body s)) s) e (plain_again greedy round leave)
      (follow-again greedy round leave starts u (flat_map (after greedy again body n) (body u))
      (body_is u h
      ∙ flat_map-cong (GoesOn text u) (gives_on again starts) (λ s. flat_map (gives_on leave starts) (after greedy again body n s)) (body u) (fwd u h)
      (λ s g. elim (cases_lt r.at s.at) [
        | inl more ↦ placed-after greedy again round leave body starts fwd e body_is n s g.within (omega (arith, g.within))
        | inr same ↦
            let seen : is_seen again s.seen ≡ true = g.kept (omega (arith, g.forward)) again (seen_self again r.seen) in
            gives-seen again (again_spot greedy round leave) starts s e (plain_again greedy round leave) seen
            ∙ ap (flat_map (gives_on leave starts)) (sym (after-shut greedy again body n s seen))
      ])
      ∙ sym (flat_map-flat_map (after greedy again body n) (gives_on leave starts) (body u))))

  -- a core gives its runs, each followed by what stands after it
  pub placed-runs : (core : Core) (n f : ℕ) → Placed spots n f core → (starts : List ℕ) (r : Run) → r.at ≤ length text
      → gives_on n starts r ≡ flat_map (gives_on f starts) (runs text core n r)
  unfolding runs
  placed-runs empty n f p starts r h =
      gives-visit n (spot.Jump f) starts r (gives_on f starts) (λ s. s ∷ []) p refl (sym (append-nil _))
  placed-runs (byte_in set) n f p starts r h =
      gives-visit n (spot.Bytes f set) starts r (gives_on f starts) (take_size (byte_size set text)) p refl refl
  placed-runs (char_in set) n f p starts r h =
      gives-visit n (spot.Chars f set) starts r (gives_on f starts) (take_size (char_size set text)) p refl refl
  placed-runs (look l) n f p starts r h =
      gives-visit n (spot.Look l f) starts r (gives_on f starts) (λ s. if holds l text s.at then s ∷ [] else []) p refl
      (cases (holds l text r.at))
    where
      cases : (b : Bool) → cond b (gives_on f starts (mark n r)) [] ≡ flat_map (gives_on f starts) (if b then mark n r ∷ [] else [])
      cases true = sym (append-nil _)
      cases false = refl
  placed-runs (group i a) n f p starts r h =
      let u : Run = mark n r in
      gives-visit n (spot.Open (n + 2)) starts r (gives_on f starts) (λ s. map (set_group i s.at) (runs text a (n + 2) s)) p.0 refl
      (placed-runs a (n + 2) (n + 1) p.2 (r.at ∷ starts) u h
      ∙ flat_map-cong (GoesOn text u) (gives_on (n + 1) (r.at ∷ starts)) (λ s. gives_on f starts (set_group i r.at s)) (runs text a (n + 2) u) (runs-Forward text a (n + 2) u h)
      (λ s g. gives-close (n + 1) i f (way (r.at ∷ starts) s) p.1)
      ∙ sym (flat_map-map (gives_on f starts) (set_group i r.at) (runs text a (n + 2) u)))
  placed-runs (pair a b) n f p starts r h =
      let u : Run = mark n r in
      let m : ℕ = n + 1 + numbers a in
      gives-visit n (spot.Jump (n + 1)) starts r (gives_on f starts) (λ s. flat_map (runs text b m) (runs text a (n + 1) s)) p.0 refl
      (placed-runs a (n + 1) m p.1 starts u h
      ∙ flat_map-cong (GoesOn text u) (gives_on m starts) (λ s. flat_map (gives_on f starts) (runs text b m s)) (runs text a (n + 1) u) (runs-Forward text a (n + 1) u h)
      (λ s g. placed-runs b m f p.2 starts s g.within)
      ∙ sym (flat_map-flat_map (runs text b m) (gives_on f starts) (runs text a (n + 1) u)))
  placed-runs (choice a b) n f p starts r h =
      let u : Run = mark n r in
      let m : ℕ = n + 1 + numbers a in
      gives-visit n (spot.Split (n + 1) m) starts r (gives_on f starts) (λ s. runs text a (n + 1) s ++ runs text b m s) p.0 refl
      (ap₂ (λ xs ys. xs ++ ys) (placed-runs a (n + 1) f p.1 starts u h) (placed-runs b m f p.2 starts u h)
      ∙ sym (flat_map-append (gives_on f starts) (runs text a (n + 1) u) (runs text b m u)))
  placed-runs none n f p starts r h = gives-visit n spot.Fail starts r (gives_on f starts) (λ s. []) p refl refl
  placed-runs (plus greedy a) n f p starts r h =
      let u : Run = mark n r in
      let body : Step = runs text a (n + 2) in
      let rest : Step = after greedy (n + 1) body (length text + 1) in
      gives-visit n (spot.Jump (n + 2)) starts r (gives_on f starts) (λ s. flat_map rest (body s)) p.0 refl
      (placed-runs a (n + 2) (n + 1) p.2 starts u h
      ∙ flat_map-cong (GoesOn text u) (gives_on (n + 1) starts) (λ s. flat_map (gives_on f starts) (rest s)) (body u) (runs-Forward text a (n + 2) u h)
      (λ s g. placed-after greedy (n + 1) (n + 2) f body starts (runs-Forward text a (n + 2)) p.1
      (λ v w. placed-runs a (n + 2) (n + 1) p.2 starts v w) (length text + 1) s g.within (omega arith))
      ∙ sym (flat_map-flat_map rest (gives_on f starts) (body u)))

  single : (xs : List Run) → flat_map (λ x. x ∷ []) xs ≡ xs
  single [] = refl
  single (x ∷ xs) = ap (λ ys. x ∷ ys) (single xs)

  -- the whole program: the core at 0, and then the match
  pub program-runs : (core : Core) → Placed spots 0 (numbers core) core → spot_at spots (numbers core) ≡ spot.Match
      → (r : Run) → r.at ≤ length text → gives_on 0 [] r ≡ runs text core 0 r
  program-runs core p end r h =
      placed-runs core 0 (numbers core) p [] r h
      ∙ ap (λ k. flat_map k (runs text core 0 r)) (fun_ext (λ (s : Run). gives-at (numbers core) spot.Match (way ([]) s) end))
      ∙ single (runs text core 0 r)
