-- Spots that are never come to again may be seen or not.
use Rattle.std.proofs.Common.{◌≡◌, ℕ, zero, suc, ◌<◌, Bool, true, false, cond, List, [], ◌∷◌, ◌++◌, map, refl, sym, ap, ap₂, ◌∙◌, subst, true≢false, arith}
use Rattle.std.specs.Prelude.{◌||◌, ◌==◌}
use Rattle.std.proofs.lemmas.List.{map-append}
use Rattle.std.proofs.lemmas.Bool.{cond-true, cond-false, eqb-true, eq-eqb, ne_eqb, or_left, or_right}
use Rattle.hir_tree.specs.Looks.{holds}
use Rattle.hir_tree.specs.Runs.{Run, begin, mark, is_seen}
use Rattle.hir_tree.specs.RunsLaws.{forget}
use Rattle.hir_program.specs.Entry.{goes_on_at, IsBehindFirst, IsEntry}
use Rattle.hir_program.specs.Program.{spot_at, is_close, is_unmarked, Way, way, marked, opened, closed, follow, rank, gives, ClosesFall}
use Rattle.hir_program.specs.declared.spot.Spot.{Spot}
use Rattle.hir_program.specs.declared.spot.Spot.TheVariants as spot
use Rattle.hir_program.proofs.ProgramLemmas.{rank-marked, rank-closed}
use Rattle.hir_program.proofs.PlacedLemmas.{gives-at, gives-close}

-- the same with other spots seen
abbrev pub reseen : List ℕ → Way → Way
reseen xs t = record { run = record { at = t.run.at; groups = t.run.groups; seen = xs }; starts = t.starts }

module _ (text : List ℕ) (spots : List Spot) (falls : ClosesFall spots) where
  -- what a spot gives that marks itself and was seen
  pub gives_seen : (q : ℕ) (s : Spot) (t : Way) → spot_at spots q ≡ s → is_unmarked s ≡ false → is_seen q t.run.seen ≡ true → gives text spots q t ≡ []
  gives_seen q s t e plain seen = gives-at text spots falls q s t e ∙ cond-false _ _ _ plain ∙ cond-true _ _ _ seen

  -- what it gives where it was not seen
  pub gives_new : (q : ℕ) (s : Spot) (t : Way) → spot_at spots q ≡ s → is_unmarked s ≡ false → is_seen q t.run.seen ≡ false
      → gives text spots q t ≡ follow text spots (gives text spots) s (marked q t)
  gives_new q s t e plain new = gives-at text spots falls q s t e ∙ cond-false _ _ _ plain ∙ cond-false _ _ _ new

  -- these spots were left behind: only they themselves go on at them
  module _ (behind : List ℕ)
      (shut : (q p : ℕ) → goes_on_at p (spot_at spots q) ≡ true → is_seen p behind ≡ true → is_seen q behind ≡ true) where
    -- the same spots were seen, but for those
    abbrev Alike : List ℕ → List ℕ → Type 0
    Alike xs ys = (m : ℕ) → is_seen m behind ≡ false → is_seen m xs ≡ is_seen m ys

    Alike-mark : (q : ℕ) (xs ys : List ℕ) → Alike xs ys → Alike (q ∷ xs) (q ∷ ys)
    Alike-mark q xs ys h m k = ap (λ b. q == m || b) (h m k)

    abbrev AlikeBelow : ℕ → Way → Type 0
    AlikeBelow q t = (p : ℕ) (v : Way) (ys : List ℕ) → rank text spots p v < rank text spots q t → is_seen p behind ≡ false → Alike v.run.seen ys
        → map forget (gives text spots p v) ≡ map forget (gives text spots p (reseen ys v))

    alike-step : (q : ℕ) (t : Way) (xs : List ℕ) → AlikeBelow q t → is_seen q behind ≡ false → Alike t.run.seen xs
        → map forget (gives text spots q t) ≡ map forget (gives text spots q (reseen xs t))
    alike-step q t xs ih ahead same = cases (spot_at spots q) refl
      where
        -- what it goes on at isn't behind
        on_ahead : (p : ℕ) → goes_on_at p (spot_at spots q) ≡ true → is_seen p behind ≡ false
        on_ahead p goes = read (is_seen p behind) refl
          where
            read : (b : Bool) → is_seen p behind ≡ b → b ≡ false
            read false e = refl
            read true e = absurd (true≢false (sym (shut q p goes e) ∙ ahead))

        new_or : (s : Spot) → spot_at spots q ≡ s → is_unmarked s ≡ false
            → (is_seen q t.run.seen ≡ false → map forget (follow text spots (gives text spots) s (marked q t)) ≡ map forget (follow text spots (gives text spots) s (marked q (reseen xs t))))
            → (b : Bool) → is_seen q xs ≡ b → map forget (gives text spots q t) ≡ map forget (gives text spots q (reseen xs t))
        new_or s e plain next true seen =
            ap (map forget) (gives_seen q s t e plain (same q ahead ∙ seen) ∙ sym (gives_seen q s (reseen xs t) e plain seen))
        new_or s e plain next false seen =
            ap (map forget) (gives_new q s t e plain (same q ahead ∙ seen)) ∙ next (same q ahead ∙ seen)
            ∙ ap (map forget) (sym (gives_new q s (reseen xs t) e plain seen))

        on : (s : Spot) → spot_at spots q ≡ s → is_close s ≡ false → (s ≡ spot.Fail → ⊥) → is_seen q t.run.seen ≡ false
            → (p : ℕ) (starts : List ℕ) → goes_on_at p s ≡ true → map forget (gives text spots p (way starts (mark q t.run)))
            ≡ map forget (gives text spots p (way starts (mark q (reseen xs t).run)))
        on s e inner other new p starts goes =
            ih p (way starts (mark q t.run)) (q ∷ xs)
            (rank-marked text spots q p s t (way starts (mark q t.run)) e inner other new refl refl)
            (on_ahead p (ap (goes_on_at p) e ∙ goes)) (Alike-mark q t.run.seen xs same)

        look : (b : Bool) (vs ws : List Run) → map forget vs ≡ map forget ws → map forget (cond b vs []) ≡ map forget (cond b ws [])
        look true vs ws k = k
        look false vs ws k = refl

        cases : (s : Spot) → spot_at spots q ≡ s → map forget (gives text spots q t) ≡ map forget (gives text spots q (reseen xs t))
        cases (spot.Close i f) e =
            ap (map forget) (gives-close text spots falls q i f t e)
            ∙ ih f (closed i t) xs (rank-closed text spots falls q i f t (closed i t) e refl refl)
            (on_ahead f (ap (goes_on_at f) e ∙ eq-eqb f f refl)) same
            ∙ ap (map forget) (sym (gives-close text spots falls q i f (reseen xs t) e))
        cases spot.Match e =
            ap (map forget) (gives-at text spots falls q spot.Match t e) ∙ ap (map forget) (sym (gives-at text spots falls q spot.Match (reseen xs t) e))
        cases spot.Fail e = new_or spot.Fail e refl (λ new. refl) (is_seen q xs) refl
        cases (spot.Jump f) e = new_or (spot.Jump f) e refl (λ new. on (spot.Jump f) e refl (λ x. cc) new f t.starts (eq-eqb f f refl)) (is_seen q xs) refl
        cases (spot.Open f) e =
            new_or (spot.Open f) e refl (λ new. on (spot.Open f) e refl (λ x. cc) new f (t.run.at ∷ t.starts) (eq-eqb f f refl)) (is_seen q xs) refl
        cases (spot.Split a b) e =
            new_or (spot.Split a b) e refl
            (λ new. map-append forget (gives text spots a (marked q t)) (gives text spots b (marked q t))
            ∙ ap₂ (λ vs ws. vs ++ ws) (on (spot.Split a b) e refl (λ x. cc) new a t.starts (or_left (a == a) (b == a) (eq-eqb a a refl)))
            (on (spot.Split a b) e refl (λ x. cc) new b t.starts (or_right (a == b) (b == b) (eq-eqb b b refl)))
            ∙ sym (map-append forget (gives text spots a (marked q (reseen xs t))) (gives text spots b (marked q (reseen xs t)))))
            (is_seen q xs) refl
        cases (spot.Look l f) e =
            new_or (spot.Look l f) e refl
            (λ new. look (holds l text t.run.at) _ _ (on (spot.Look l f) e refl (λ x. cc) new f t.starts (eq-eqb f f refl))) (is_seen q xs) refl
        cases (spot.Bytes f set) e = new_or (spot.Bytes f set) e refl (λ new. refl) (is_seen q xs) refl
        cases (spot.Chars f set) e = new_or (spot.Chars f set) e refl (λ new. refl) (is_seen q xs) refl

    alike-within : (n q : ℕ) (t : Way) (xs : List ℕ) → rank text spots q t < n → is_seen q behind ≡ false → Alike t.run.seen xs
        → map forget (gives text spots q t) ≡ map forget (gives text spots q (reseen xs t))
    alike-within zero q t xs less ahead same = absurd (omega arith)
    alike-within (suc n) q t xs less ahead same =
        alike-step q t xs (λ p v ys lower on like. alike-within n p v ys (omega arith) on like) ahead same

    -- The law: it makes no run another whether they were seen.
    pub unseen_behind : (q : ℕ) (t : Way) → is_seen q behind ≡ false → t.run.seen ≡ []
        → map forget (gives text spots q t) ≡ map forget (gives text spots q (reseen behind t))
    unseen_behind q t ahead none =
        alike-within (suc (rank text spots q t)) q t behind (omega arith) ahead
        (λ m out. ap (is_seen m) none ∙ sym out)

-- of two spots, the one was seen or the other
seen_of_two : (p q r : ℕ) → is_seen r (p ∷ q ∷ []) ≡ true → (r ≡ p → ⊥) → r ≡ q
seen_of_two p q r seen other = sym (eqb-true q r (read (p == r) (q == r) (ne_eqb p r (λ same. other (sym same))) seen))
  where
    read : (b c : Bool) → b ≡ false → (b || (c || false)) ≡ true → c ≡ true
    read true c e k = absurd (true≢false e)
    read false true e k = refl
    read false false e k = k

seen_of_one : (p r : ℕ) → is_seen r (p ∷ []) ≡ true → r ≡ p
seen_of_one p r seen = sym (eqb-true p r (read (p == r) seen))
  where
    read : (b : Bool) → (b || false) ≡ true → b ≡ true
    read true k = refl
    read false k = k

module _ (spots : List Spot) (f : ℕ) (opens : spot_at spots 0 ≡ spot.Open f) (on : f ≡ 0 → ⊥) (first : IsBehindFirst spots 0) where
  unseen_zero : is_seen f (0 ∷ []) ≡ false
  unseen_zero = ap (λ b. b || false) (ne_eqb 0 f (λ same. on (sym same)))

  -- behind the start of the group
  pub entry-open : IsEntry spots f
  entry-open falls text at groups =
      ap (map forget) (gives_new text spots falls 0 (spot.Open f) (way [] (begin at groups)) opens refl refl)
      ∙ sym (unseen_behind text spots falls (0 ∷ [])
      (λ q p goes seen. subst (λ x. is_seen x (0 ∷ []) ≡ true) (sym (first q (subst (λ x. goes_on_at x (spot_at spots q) ≡ true) (seen_of_one 0 p seen) goes))) refl)
      f (opened (way [] (begin at groups))) unseen_zero refl)

  -- behind a jump that stands there
  module _ (g : ℕ) (jumps : spot_at spots f ≡ spot.Jump g) (alone : IsBehindFirst spots f) where
    seen_zero : is_seen 0 (f ∷ 0 ∷ []) ≡ true
    seen_zero = or_right (f == 0) _ refl

    shut : (q p : ℕ) → goes_on_at p (spot_at spots q) ≡ true → is_seen p (f ∷ 0 ∷ []) ≡ true → is_seen q (f ∷ 0 ∷ []) ≡ true
    shut q p goes seen = subst (λ x. is_seen x (f ∷ 0 ∷ []) ≡ true) (sym (read (f == p) refl)) seen_zero
      where
        read : (b : Bool) → (f == p) ≡ b → q ≡ 0
        read true e = alone q (subst (λ x. goes_on_at x (spot_at spots q) ≡ true) (sym (eqb-true f p e)) goes)
        read false e =
            first q (subst (λ x. goes_on_at x (spot_at spots q) ≡ true)
            (seen_of_two f 0 p seen (λ same. true≢false (sym (eq-eqb f p (sym same)) ∙ e))) goes)

    ahead : is_seen g (f ∷ 0 ∷ []) ≡ false
    ahead = read (is_seen g (f ∷ 0 ∷ [])) refl
      where
        goes : goes_on_at g (spot_at spots f) ≡ true
        goes = ap (goes_on_at g) jumps ∙ eq-eqb g g refl

        read : (b : Bool) → is_seen g (f ∷ 0 ∷ []) ≡ b → b ≡ false
        read false e = refl
        read true e = absurd (on (back (f == g) refl))
          where
            back : (b : Bool) → (f == g) ≡ b → f ≡ 0
            back true k = alone f (subst (λ x. goes_on_at x (spot_at spots f) ≡ true) (sym (eqb-true f g k)) goes)
            back false k =
                first f (subst (λ x. goes_on_at x (spot_at spots f) ≡ true)
                (seen_of_two f 0 g e (λ same. true≢false (sym (eq-eqb f g (sym same)) ∙ k))) goes)

    pub entry-jump : IsEntry spots g
    entry-jump falls text at groups =
        ap (map forget) (gives_new text spots falls 0 (spot.Open f) (way [] (begin at groups)) opens refl refl
        ∙ gives_new text spots falls f (spot.Jump g) (opened (marked 0 (way [] (begin at groups)))) jumps refl unseen_zero)
        ∙ sym (unseen_behind text spots falls (f ∷ 0 ∷ []) shut g (opened (way [] (begin at groups))) ahead refl)
