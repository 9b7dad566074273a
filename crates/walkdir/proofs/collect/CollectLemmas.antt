-- What a collector has gathered.
use Rattle.std.proofs.Common.{◌≡◌, ◌+◌, ◌<◌, ◌≤◌, ◌⊎◌, ℕ, Bool, true, false, cond, List, [], ◌∷◌, ◌++◌, map, Option, Some, None, Ok, Err, refl, sym, ◌∙◌, ap, subst, inl, inr, arith, Result}
use Rattle.std.specs.Prelude.{nat_lt, IsTrue, IfErr, IsErrAnd}
use Rattle.std.proofs.lemmas.List.{map-append}
use Rattle.std.proofs.lemmas.Bool.{lt-ltb, ltb-true}
use Rattle.sd_io.specs.Disk.{DiskState}
use Rattle.walk_rest.specs.declared.entry.DirEntry.{DirEntry}
use Rattle.walk_rest.specs.declared.error.Error.{Error}
use Rattle.walk_rest.specs.declared.error.Error.TheVariants as error
use Rattle.walk_rest.specs.declared.level.Level.{Level}
use Rattle.walk_rest.specs.Plan.{Comparison, Item}
use Rattle.walk_rest.specs.Rest.{Rest}
use Rattle.walk_steps.specs.declared.inside.Inside.{Inside}
use Rattle.walk_rest.specs.declared.level.Folder.{Folder}
use Rattle.walk_steps.specs.Causes.{CountsFaults, FitsTree, IsLoopOf, faults_told}
use Rattle.walk_steps.specs.Inside.{HasRest, SameWalk, levels_of}
use Rattle.walk_steps.specs.Listed.{below_one}
use Rattle.walk_steps.specs.Steps.{StepsTo}
use Rattle.walkdir.specs.Collect.{entry_item, Gives, below_root, IsAll, IsNoLoop, WhyNotAll}
use Rattle.walkdir.proofs.collect.RestLemmas.{gives_more, all_given}
use Rattle.walkdir.proofs.laws.CallsLemmas.{counts_after, fits_by}

pub below_snoc : (es : List DirEntry) (e : DirEntry) (b : Bool) → nat_lt 0 e.depth ≡ b → below_root (es ++ e ∷ []) ≡ below_root es + cond b 1 0
below_snoc [] e b h = ap (λ c. cond c 1 0 + 0) h ∙ by b
  where
    by : (b : Bool) → cond b 1 0 + 0 ≡ 0 + cond b 1 0
    by true = refl
    by false = refl
below_snoc (f ∷ es) e b h = let r = below_snoc es e b h in omega (arith, r)

pub not_less : (a b : ℕ) → b ≤ a → nat_lt a b ≡ false
not_less a b le = by (nat_lt a b) refl
  where
    by : (c : Bool) → nat_lt a b ≡ c → c ≡ false
    by true e = let lt = ltb-true a b e in absurd (omega (arith, lt, le))
    by false e = refl

pub counts_below : (entry : DirEntry) → 0 < entry.depth → below_one entry ≡ 1
counts_below entry deep = ap (λ (b : Bool). cond b 1 0) (lt-ltb 0 entry.depth deep)

-- an error is the one that was passed on
pub fails_as : {T : Type 0} (P : Error → Type 0) (result : Result T Error) (failed : Error) → IsErrAnd result (λ x. x ≡ failed) → P failed → IfErr result P
fails_as P (Ok value) failed is p = tt
fails_as P (Err other) failed is p = subst P (sym is) p

-- a step gives no loop where links aren't followed
pub no_loop : (follows : Bool) (chain : List Folder) (answer : Option Item) (failed : Error) → follows ≡ false → IsLoopOf follows chain answer → answer ≡ Some (Err failed) → IsNoLoop failed
no_loop follows chain answer failed off looped is path depth ancestor ident e =
    let l = looped path depth ancestor ident (is ∙ ap (λ (x : Error). Some (Err x)) e) in
    let on = l.6 in
    absurd (cc (off, on))

pub memory_no_loop : IsNoLoop error.NoMemory
memory_no_loop path depth ancestor ident e = cc e

-- faults that are due no more where the lists were closed
pub counts_closed : {T : Type 0} (tells : Bool) (old mid new : DiskState) (x y : List Level) (result : Result T Error) → new.faults ≡ mid.faults
    → IfErr result (λ failed. CountsFaults (faults_told tells (Some (Err failed))) old x mid y)
    → IfErr result (λ failed. CountsFaults (faults_told tells (Some (Err failed))) old x new [])
counts_closed tells old mid new x y (Ok value) same h = h
counts_closed tells old mid new x y (Err failed) same (inl a) = inl (omega (arith, a, same))
counts_closed tells old mid new x y (Err failed) same (inr a) = inr (omega (arith, a, same))

module _ {S : Type 0} where
  -- one step, or want of memory
  abbrev pub StepsOrEnds : Bool → Comparison → DiskState → Rest → Option Item → DiskState → Inside S → Type 0
  StepsOrEnds sorts by state rest answer new now = (answer ≡ Some (Err error.NoMemory)) ⊎ StepsTo state sorts by rest answer new now

  -- what a step does, by the order that the walk had at first
  abbrev pub StepsBy : (S → Bool) → (S → Comparison → Type 0) → DiskState → Inside S → Option Item → DiskState → Inside S → S → Type 0
  StepsBy sorts compares_by state before answer new now order = (by : Comparison) (rest : Rest) → compares_by order by → HasRest state (sorts order) by before rest
      → StepsOrEnds (sorts order) by state rest answer new now

  -- the walk still has a rest, to which steps led that gave these entries
  pub record IsOn (sorts : Bool) (by : Comparison) (start : Rest) (state : DiskState) (inside : Inside S) (entries : List DirEntry) : Type 0 where
    pub cuts : ℕ
    pub rest : Rest
    pub has_rest : HasRest state sorts by inside rest
    pub gives : Gives cuts start (map entry_item entries) rest

  pub collect_fails : (sorts : Bool) (by : Comparison) (start : Rest) (state new : DiskState) (inside now : Inside S) (entries : List DirEntry) (cap : ℕ) (failed : Error)
      → (o : IsOn sorts by start state inside entries) → StepsOrEnds sorts by state o.rest (Some (Err failed)) new now → WhyNotAll start cap failed
  collect_fails sorts by start state new inside now entries cap failed o (inl e) = inl cc
  collect_fails sorts by start state new inside now entries cap failed o (inr s) =
      inr (inl (record { entries = entries; cuts = o.cuts; mid = o.rest; gives = o.gives; last = s.cuts; new = s.new; fails = s.is_step }))

  pub collect_more : (sorts : Bool) (by : Comparison) (start : Rest) (state new : DiskState) (inside now : Inside S) (entries more : List DirEntry) (entry : DirEntry)
      → more ≡ entries ++ entry ∷ [] → (o : IsOn sorts by start state inside entries) → StepsOrEnds sorts by state o.rest (Some (Ok entry)) new now
      → IsOn sorts by start new now more
  collect_more sorts by start state new inside now entries more entry snoc o (inl e) = absurd (cc e)
  collect_more sorts by start state new inside now entries more entry snoc o (inr s) = record {
    cuts = o.cuts + s.cuts;
    rest = s.new;
    has_rest = s.left;
    gives = rw (snoc, map-append entry_item entries (entry ∷ [])) (gives_more o.cuts s.cuts start (map entry_item entries) o.rest (entry_item entry) s.new o.gives s.is_step);
  }

  pub collect_caps : (sorts : Bool) (by : Comparison) (start : Rest) (state new : DiskState) (inside now : Inside S) (entries : List DirEntry) (entry : DirEntry) (cap : ℕ)
      → below_root (entries ++ entry ∷ []) ≡ cap → (o : IsOn sorts by start state inside entries) → StepsOrEnds sorts by state o.rest (Some (Ok entry)) new now
      → WhyNotAll start cap error.TooMany
  collect_caps sorts by start state new inside now entries entry cap many o s =
      let m = collect_more sorts by start state new inside now entries (entries ++ entry ∷ []) entry refl o s in
      inr (inr (refl, record { entries = entries ++ entry ∷ []; cuts = m.cuts; new = m.rest; gives = m.gives; many = many }))

  pub collect_all : (sorts : Bool) (by : Comparison) (start : Rest) (state new : DiskState) (inside now : Inside S) (entries : List DirEntry)
      → (o : IsOn sorts by start state inside entries) → StepsOrEnds sorts by state o.rest None new now → IsAll start entries
  collect_all sorts by start state new inside now entries o (inl e) = absurd (cc e)
  collect_all sorts by start state new inside now entries o (inr s) = all_given o.cuts s.cuts start entries o.rest s.new o.gives s.is_step

  -- what is told from the beginning on, with one more step
  pub counts_step : (tells : Bool) (sorts : S → Bool) (compares_by : S → Comparison → Type 0) (old mid new : DiskState) (before between now : Inside S) (entries : List DirEntry)
      (answer given : Option Item) → SameWalk before between
      → (IsTrue tells → (by : Comparison) (start : Rest) → compares_by before.order by → HasRest old (sorts before.order) by before start
      → IsOn (sorts before.order) by start mid between entries)
      → (FitsTree tells compares_by old (sorts before.order) before → CountsFaults 0 old (levels_of before) mid (levels_of between))
      → (FitsTree tells compares_by mid (sorts between.order) between → CountsFaults (faults_told tells answer) mid (levels_of between) new (levels_of now))
      → mid.faults ≤ new.faults → answer ≡ given → FitsTree tells compares_by old (sorts before.order) before
      → CountsFaults (faults_told tells given) old (levels_of before) new (levels_of now)
  counts_step tells sorts compares_by old mid new before between now entries answer given same gives so_far more later is fits =
      let fits_too = fits_by tells sorts compares_by mid before between same (λ told.
      (let f = fits told in let o = gives told f.0 f.1 f.2 f.3 in (f.0, o.rest, f.2, o.has_rest))) in
      let C : Option Item → Type 0 = λ a. CountsFaults (faults_told tells a) mid (levels_of between) new (levels_of now) in
      counts_after (faults_told tells given) old mid new (levels_of before) (levels_of between) (levels_of now) later (so_far fits) (subst C is (more fits_too))
