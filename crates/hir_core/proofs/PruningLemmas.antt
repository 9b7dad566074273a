-- Spots that give nothing may be dropped.
use Rattle.std.proofs.Common.{◌≡◌, ℕ, zero, suc, ◌+◌, ◌<◌, ◌≤◌, Bool, true, false, cond, ◌⊎◌, inl, inr, List, [], ◌∷◌, ◌++◌, length, map, Option, Some, None, refl, sym, ap, ap₂, ◌∙◌, subst, true≢false, append-nil, arith}
use Rattle.std.specs.Prelude.{◌||◌, ◌==◌, option_map}
use Rattle.std.specs.List.{flat_map}
use Rattle.std.proofs.lemmas.List.{map-append}
use Rattle.std.proofs.lemmas.Bool.{or_left, or_right}
use Rattle.hir_tree.specs.Looks.{holds}
use Rattle.hir_tree.specs.Runs.{Run, moved, mark, is_seen, byte_size, char_size, as_list, take_size}
use Rattle.hir_tree.specs.RunsLaws.{forget}
use Rattle.hir_program.specs.Program.{spot_at, is_close, is_unmarked, Way, way, marked, closed, follow, rank, gives, ClosesFall}
use Rattle.hir_program.specs.declared.spot.Spot.{Spot}
use Rattle.hir_program.specs.declared.spot.Spot.TheVariants as spot
use Rattle.hir_tree.proofs.RunsLemmas.{TakesWithin, byte_size-within, char_size-within}
use Rattle.hir_program.proofs.ProgramLemmas.{rank-marked, rank-moved, rank-closed}
use Rattle.hir_program.proofs.EntryLemmas.{reseen, gives_seen, gives_new}
use Rattle.hir_program.proofs.PlacedLemmas.{gives-at, gives-close}

-- each of the one is among the other
abbrev pub Subset : List ℕ → List ℕ → Type 0
Subset xs ys = (m : ℕ) → is_seen m xs ≡ true → is_seen m ys ≡ true

pub Subset-mark : (q : ℕ) (xs ys : List ℕ) → Subset xs ys → Subset (q ∷ xs) (q ∷ ys)
Subset-mark q xs ys h m k = cases (q == m) k
  where
    cases : (b : Bool) → (b || is_seen m xs) ≡ true → (b || is_seen m ys) ≡ true
    cases true e = refl
    cases false e = h m e

pub unseen_before : (q : ℕ) (xs ys : List ℕ) → Subset xs ys → is_seen q ys ≡ false → is_seen q xs ≡ false
unseen_before q xs ys h e = cases (is_seen q xs) refl
  where
    cases : (b : Bool) → is_seen q xs ≡ b → b ≡ false
    cases false k = refl
    cases true k = absurd (true≢false (sym (h q k) ∙ e))

cons_not_nil : {A : Type 0} (x : A) (xs : List A) → x ∷ xs ≡ [] → ⊥
cons_not_nil x xs e = cc

pub append_nothing : {A : Type 0} (xs ys : List A) → xs ++ ys ≡ [] → (xs ≡ []) × (ys ≡ [])
append_nothing [] ys e = (refl, e)
append_nothing (x ∷ xs) ys e = absurd (cons_not_nil x (xs ++ ys) e)

module _ (text : List ℕ) (spots : List Spot) (falls : ClosesFall spots) where
  -- what the bytes that are taken lead to gives nothing
  not_taken : (size : ℕ → Option ℕ) → TakesWithin text size → (v w : Run) (k l : Run → List Run) → v.at ≡ w.at
      → ((b : ℕ) → (0 < b) × (v.at + b ≤ length text) → k (moved b v) ≡ [] → l (moved b w) ≡ [])
      → flat_map k (take_size size v) ≡ [] → flat_map l (take_size size w) ≡ []
  not_taken size within v w k l at ih gone =
      subst (λ i. flat_map l (as_list (option_map (λ b. moved b w) (size i))) ≡ []) at (read (size v.at) refl gone)
    where
      read : (o : Option ℕ) → size v.at ≡ o → flat_map k (as_list (option_map (λ b. moved b v) o)) ≡ []
          → flat_map l (as_list (option_map (λ b. moved b w) o)) ≡ []
      read None e gone = refl
      read (Some b) e gone = append-nil _ ∙ ih b (within v.at b e) (append_nothing (k (moved b v)) [] gone).0

  -- the claim below, for all of lower rank
  abbrev MonoBelow : ℕ → Way → Type 0
  MonoBelow q t = (p : ℕ) (v w : Way) → rank text spots p v < rank text spots q t → v.run.at ≡ w.run.at → Subset v.run.seen w.run.seen
      → gives text spots p v ≡ [] → gives text spots p w ≡ []

  mono-step : (q : ℕ) (t u : Way) → MonoBelow q t → t.run.at ≡ u.run.at → Subset t.run.seen u.run.seen
      → gives text spots q t ≡ [] → gives text spots q u ≡ []
  mono-step q t u ih at sub dead = cases (spot_at spots q) refl
    where
      -- at a spot that marks itself
      new_or : (s : Spot) → spot_at spots q ≡ s → is_unmarked s ≡ false
          → (is_seen q t.run.seen ≡ false → follow text spots (gives text spots) s (marked q t) ≡ [] → follow text spots (gives text spots) s (marked q u) ≡ [])
          → (b : Bool) → is_seen q u.run.seen ≡ b → gives text spots q u ≡ []
      new_or s e plain next true seen = gives_seen text spots falls q s u e plain seen
      new_or s e plain next false seen =
          let before : is_seen q t.run.seen ≡ false = unseen_before q t.run.seen u.run.seen sub seen in
          gives_new text spots falls q s u e plain seen ∙ next before (sym (gives_new text spots falls q s t e plain before) ∙ dead)

      on : (s : Spot) → spot_at spots q ≡ s → is_close s ≡ false → (s ≡ spot.Fail → ⊥) → is_seen q t.run.seen ≡ false
          → (p : ℕ) (starts starts2 : List ℕ) → gives text spots p (way starts (mark q t.run)) ≡ []
          → gives text spots p (way starts2 (mark q u.run)) ≡ []
      on s e inner other new p starts starts2 gone =
          ih p (way starts (mark q t.run)) (way starts2 (mark q u.run))
          (rank-marked text spots q p s t (way starts (mark q t.run)) e inner other new refl refl) at (Subset-mark q _ _ sub) gone

      look : (b c : Bool) (xs ys : List Run) → b ≡ c → (xs ≡ [] → ys ≡ []) → cond b xs [] ≡ [] → cond c ys [] ≡ []
      look true c xs ys e k gone = ap (λ x. cond x ys []) (sym e) ∙ k gone
      look false c xs ys e k gone = ap (λ x. cond x ys []) (sym e)

      taken : (s : Spot) (size : ℕ → Option ℕ) → TakesWithin text size → (f : ℕ) → spot_at spots q ≡ s → is_close s ≡ false
          → flat_map (λ r. gives text spots f (way t.starts r)) (take_size size (mark q t.run)) ≡ []
          → flat_map (λ r. gives text spots f (way u.starts r)) (take_size size (mark q u.run)) ≡ []
      taken s size within f e inner =
          not_taken size within (mark q t.run) (mark q u.run) (λ r. gives text spots f (way t.starts r)) (λ r. gives text spots f (way u.starts r)) at
          (λ k b gone. ih f (way t.starts (moved k (mark q t.run))) (way u.starts (moved k (mark q u.run)))
          (rank-moved text spots q f k s t (way t.starts (moved k (mark q t.run))) e inner b refl) (ap (λ i. i + k) at) (λ m seen. seen) gone)

      cases : (s : Spot) → spot_at spots q ≡ s → gives text spots q u ≡ []
      cases (spot.Close i f) e =
          gives-close text spots falls q i f u e
          ∙ ih f (closed i t) (closed i u) (rank-closed text spots falls q i f t (closed i t) e refl refl) at sub (sym (gives-close text spots falls q i f t e) ∙ dead)
      cases spot.Match e = absurd (cons_not_nil t.run [] (sym (gives-at text spots falls q spot.Match t e) ∙ dead))
      cases spot.Fail e = new_or spot.Fail e refl (λ new gone. refl) (is_seen q u.run.seen) refl
      cases (spot.Jump f) e = new_or (spot.Jump f) e refl (λ new gone. on (spot.Jump f) e refl (λ x. cc) new f t.starts u.starts gone) (is_seen q u.run.seen) refl
      cases (spot.Open f) e =
          new_or (spot.Open f) e refl (λ new gone. on (spot.Open f) e refl (λ x. cc) new f (t.run.at ∷ t.starts) (u.run.at ∷ u.starts) gone) (is_seen q u.run.seen) refl
      cases (spot.Split a b) e =
          new_or (spot.Split a b) e refl
          (λ new gone.
          let parts = append_nothing (gives text spots a (marked q t)) (gives text spots b (marked q t)) gone in
          ap₂ (λ xs ys. xs ++ ys) (on (spot.Split a b) e refl (λ x. cc) new a t.starts u.starts parts.0) (on (spot.Split a b) e refl (λ x. cc) new b t.starts u.starts parts.1))
          (is_seen q u.run.seen) refl
      cases (spot.Look l f) e =
          new_or (spot.Look l f) e refl
          (λ new gone. look (holds l text t.run.at) (holds l text u.run.at) _ _ (ap (holds l text) at) (on (spot.Look l f) e refl (λ x. cc) new f t.starts u.starts) gone)
          (is_seen q u.run.seen) refl
      cases (spot.Bytes f set) e =
          new_or (spot.Bytes f set) e refl
          (λ new gone. taken (spot.Bytes f set) (byte_size set text) (byte_size-within set text) f e refl gone) (is_seen q u.run.seen) refl
      cases (spot.Chars f set) e =
          new_or (spot.Chars f set) e refl
          (λ new gone. taken (spot.Chars f set) (char_size set text) (char_size-within set text) f e refl gone) (is_seen q u.run.seen) refl

  -- what gives nothing gives nothing either where more was seen, whatever the groups
  pub mono-within : (n q : ℕ) (t u : Way) → rank text spots q t < n → t.run.at ≡ u.run.at → Subset t.run.seen u.run.seen
      → gives text spots q t ≡ [] → gives text spots q u ≡ []
  mono-within zero q t u less at sub dead = absurd (omega arith)
  mono-within (suc n) q t u less at sub dead =
      mono-step q t u (λ p v w lower same more gone. mono-within n p v w (omega arith) same more gone) at sub dead

  pub mono : (q : ℕ) (t u : Way) → t.run.at ≡ u.run.at → Subset t.run.seen u.run.seen → gives text spots q t ≡ [] → gives text spots q u ≡ []
  mono q t u = mono-within (suc (rank text spots q t)) q t u (omega arith)

module _ (text : List ℕ) (spots : List Spot) (falls : ClosesFall spots) where
  -- each of these was seen, or gives nothing here
  abbrev pub Covered : Way → List ℕ → Type 0
  Covered t xs = (m : ℕ) → is_seen m xs ≡ true → (is_seen m t.run.seen ≡ true) ⊎ (gives text spots m t ≡ [])

  Covered-more : (t u : Way) (xs : List ℕ) → t.run.at ≡ u.run.at → Subset t.run.seen u.run.seen → Covered t xs → Covered u xs
  Covered-more t u xs at sub cover m h =
      elim (cover m h) [ inl seen ↦ inl (sub m seen) | inr dead ↦ inr (mono text spots falls m t u at sub dead) ]

  Covered-mark : (q : ℕ) (t : Way) (starts xs : List ℕ) → Covered t xs → Covered (way starts (mark q t.run)) (q ∷ xs)
  Covered-mark q t starts xs cover m h = cases (q == m) refl h
    where
      cases : (b : Bool) → (q == m) ≡ b → (b || is_seen m xs) ≡ true
          → (is_seen m (q ∷ t.run.seen) ≡ true) ⊎ (gives text spots m (way starts (mark q t.run)) ≡ [])
      cases true e k = inl (or_left _ _ e)
      cases false e k =
          Covered-more t (way starts (mark q t.run)) xs refl (λ n seen. or_right _ _ seen) cover m k

  abbrev ExtendBelow : ℕ → Way → Type 0
  ExtendBelow q t = (p : ℕ) (v : Way) (ys : List ℕ) → rank text spots p v < rank text spots q t → Subset v.run.seen ys → Covered v ys
      → map forget (gives text spots p v) ≡ map forget (gives text spots p (reseen ys v))

  extend-step : (q : ℕ) (t : Way) (xs : List ℕ) → ExtendBelow q t → Subset t.run.seen xs → Covered t xs
      → map forget (gives text spots q t) ≡ map forget (gives text spots q (reseen xs t))
  extend-step q t xs ih sub cover = cases (spot_at spots q) refl
    where
      u : Way
      u = reseen xs t

      new_or : (s : Spot) → spot_at spots q ≡ s → is_unmarked s ≡ false
          → (is_seen q t.run.seen ≡ false → map forget (follow text spots (gives text spots) s (marked q t)) ≡ map forget (follow text spots (gives text spots) s (marked q (reseen xs t))))
          → (b : Bool) → is_seen q xs ≡ b → map forget (gives text spots q t) ≡ map forget (gives text spots q (reseen xs t))
      new_or s e plain next true seen =
          let none_after = gives_seen text spots falls q s (reseen xs t) e plain seen in
          elim (cover q seen) [
            | inl before ↦ ap (map forget) (gives_seen text spots falls q s t e plain before ∙ sym none_after)
            | inr dead ↦ ap (map forget) (dead ∙ sym none_after)
          ]
      new_or s e plain next false seen =
          let before : is_seen q t.run.seen ≡ false = unseen_before q t.run.seen xs sub seen in
          ap (map forget) (gives_new text spots falls q s t e plain before) ∙ next before
          ∙ ap (map forget) (sym (gives_new text spots falls q s (reseen xs t) e plain seen))

      on : (s : Spot) → spot_at spots q ≡ s → is_close s ≡ false → (s ≡ spot.Fail → ⊥) → is_seen q t.run.seen ≡ false
          → (p : ℕ) (starts : List ℕ) → map forget (gives text spots p (way starts (mark q t.run)))
          ≡ map forget (gives text spots p (way starts (mark q (reseen xs t).run)))
      on s e inner other new p starts =
          ih p (way starts (mark q t.run)) (q ∷ xs)
          (rank-marked text spots q p s t (way starts (mark q t.run)) e inner other new refl refl) (Subset-mark q _ _ sub) (Covered-mark q t starts xs cover)

      look : (b : Bool) (vs ws : List Run) → map forget vs ≡ map forget ws → map forget (cond b vs []) ≡ map forget (cond b ws [])
      look true vs ws k = k
      look false vs ws k = refl

      cases : (s : Spot) → spot_at spots q ≡ s → map forget (gives text spots q t) ≡ map forget (gives text spots q (reseen xs t))
      cases (spot.Close i f) e =
          ap (map forget) (gives-close text spots falls q i f t e)
          ∙ ih f (closed i t) xs (rank-closed text spots falls q i f t (closed i t) e refl refl) sub (Covered-more t (closed i t) xs refl (λ m k. k) cover)
          ∙ ap (map forget) (sym (gives-close text spots falls q i f (reseen xs t) e))
      cases spot.Match e =
          ap (map forget) (gives-at text spots falls q spot.Match t e) ∙ ap (map forget) (sym (gives-at text spots falls q spot.Match (reseen xs t) e))
      cases spot.Fail e = new_or spot.Fail e refl (λ new. refl) (is_seen q xs) refl
      cases (spot.Jump f) e = new_or (spot.Jump f) e refl (λ new. on (spot.Jump f) e refl (λ x. cc) new f t.starts) (is_seen q xs) refl
      cases (spot.Open f) e = new_or (spot.Open f) e refl (λ new. on (spot.Open f) e refl (λ x. cc) new f (t.run.at ∷ t.starts)) (is_seen q xs) refl
      cases (spot.Split a b) e =
          new_or (spot.Split a b) e refl
          (λ new. map-append forget (gives text spots a (marked q t)) (gives text spots b (marked q t))
          ∙ ap₂ (λ vs ws. vs ++ ws) (on (spot.Split a b) e refl (λ x. cc) new a t.starts) (on (spot.Split a b) e refl (λ x. cc) new b t.starts)
          ∙ sym (map-append forget (gives text spots a (marked q (reseen xs t))) (gives text spots b (marked q (reseen xs t)))))
          (is_seen q xs) refl
      cases (spot.Look l f) e =
          new_or (spot.Look l f) e refl (λ new. look (holds l text t.run.at) _ _ (on (spot.Look l f) e refl (λ x. cc) new f t.starts)) (is_seen q xs) refl
      cases (spot.Bytes f set) e = new_or (spot.Bytes f set) e refl (λ new. refl) (is_seen q xs) refl
      cases (spot.Chars f set) e = new_or (spot.Chars f set) e refl (λ new. refl) (is_seen q xs) refl

  extend-within : (n q : ℕ) (t : Way) (xs : List ℕ) → rank text spots q t < n → Subset t.run.seen xs → Covered t xs
      → map forget (gives text spots q t) ≡ map forget (gives text spots q (reseen xs t))
  extend-within zero q t xs less sub cover = absurd (omega arith)
  extend-within (suc n) q t xs less sub cover =
      extend-step q t xs (λ p v ys lower more over. extend-within n p v ys (omega arith) more over) sub cover

  -- The law: to see more spots changes no run, if each of them gives nothing here
  pub extend : (q : ℕ) (t : Way) (xs : List ℕ) → Subset t.run.seen xs → Covered t xs
      → map forget (gives text spots q t) ≡ map forget (gives text spots q (reseen xs t))
  extend q t xs = extend-within (suc (rank text spots q t)) q t xs (omega arith)
