-- What is counted as entries are gathered.
use Rattle.std.proofs.Common.{◌≡◌, ◌≢◌, ◌<◌, ◌≤◌, ℕ, Bool, true, false, cond, not, inl, inr, List, [], Option, Some, Ok, Err, Result, refl, sym, ◌∙◌, ap, subst, arith}
use Rattle.std.specs.Prelude.{IsTrue, IfErr, IsErrAnd}
use Rattle.std.proofs.lemmas.Bool.{lt-ltb}
use Rattle.sd_io.specs.Disk.{DiskState}
use Rattle.walk_rest.specs.declared.entry.DirEntry.{DirEntry}
use Rattle.walk_rest.specs.declared.error.Error.{Error}
use Rattle.walk_rest.specs.declared.error.Error.TheVariants as error
use Rattle.walk_rest.specs.declared.level.Folder.{Folder}
use Rattle.walk_rest.specs.declared.level.Level.{Level}
use Rattle.walk_rest.specs.Errors.{IsRefusedFor}
use Rattle.walk_rest.specs.Plan.{Comparison, Item}
use Rattle.walk_rest.specs.Rest.{Rest}
use Rattle.walk_steps.specs.declared.inside.Inside.{Inside}
use Rattle.walk_steps.specs.Causes.{CountsFaults, FitsTree, IsLoopOf, faults_due, faults_told}
use Rattle.walk_steps.specs.Inside.{HasRest, SameWalk, levels_of}
use Rattle.walk_steps.specs.Listed.{GivesListed, below_one, waits_in}
use Rattle.walkdir.specs.Collect.{IsNoLoop}
use Rattle.walkdir.specs.Gather.{FitsPlain, IsPlainRest, IsNextError, told_by, below_by}

-- ---- errors that are passed on

pub told_err : (tells : Bool) (result : Result (Option (DirEntry × Bool)) Error) (failed : Error) → IsErrAnd result (λ x. x ≡ failed) → told_by tells result ≡ faults_told tells (Some (Err failed))
told_err tells (Ok given) failed is = absurd is
told_err tells (Err other) failed is = ap (λ (x : Error). faults_told tells (Some (Err x))) is

pub below_err : (result : Result (Option (DirEntry × Bool)) Error) (failed : Error) → IsErrAnd result (λ x. x ≡ failed) → below_by result ≡ 0
below_err (Ok given) failed is = absurd is
below_err (Err other) failed is = refl

pub fails_as : {T : Type 0} (P : Error → Type 0) (result : Result T Error) (failed : Error) → IsErrAnd result (λ x. x ≡ failed) → P failed → IfErr result P
fails_as P (Ok value) failed is p = tt
fails_as P (Err other) failed is p = subst P (sym is) p

pub no_loop : (follows : Bool) (chain : List Folder) (answer : Option Item) (failed : Error) → follows ≡ false → IsLoopOf follows chain answer → answer ≡ Some (Err failed) → IsNoLoop failed
no_loop follows chain answer failed off looped is path depth ancestor ident e =
    let l = looped path depth ancestor ident (is ∙ ap (λ (x : Error). Some (Err x)) e) in
    let on = l.6 in
    absurd (cc (off, on))

pub memory_no_loop : IsNoLoop error.NoMemory
memory_no_loop path depth ancestor ident e = cc e

pub many_no_loop : IsNoLoop error.TooMany
many_no_loop path depth ancestor ident e = cc e

pub memory_not : error.NoMemory ≢ error.TooMany
memory_not e = cc e

pub memory_error : (follows : Bool) → IsNextError follows error.NoMemory
memory_error follows = ((λ e. cc e), λ off. memory_no_loop)

pub capped_not : {T : Type 0} (result : Result T Error) (failed : Error) → IsErrAnd result (λ x. x ≡ failed) → result ≡ Err error.TooMany → failed ≡ error.TooMany
capped_not (Ok value) failed is e = absurd is
capped_not (Err other) failed is e = sym is ∙ cc e

-- ---- steps

pub counts_skip : (told : ℕ) (old mid new : DiskState) (x y z : List Level) → CountsFaults told old x mid y → faults_due z ≤ faults_due y → new.faults ≡ mid.faults → CountsFaults told old x new z
counts_skip told old mid new x y z (inl a) due same = inl (omega (arith, a, due, same))
counts_skip told old mid new x y z (inr a) due same = inr (omega (arith, a, same))

pub listed_skip : (given : ℕ) (old mid new : DiskState) (x y z : List Level) → GivesListed given old x mid y → waits_in z ≤ waits_in y → new.listed ≡ mid.listed → GivesListed given old x new z
listed_skip given old mid new x y z a waits same = omega (arith, a, waits, same)

pub counts_after : (n : ℕ) (old mid new : DiskState) (x y z : List Level) → mid.faults ≤ new.faults → CountsFaults 0 old x mid y → CountsFaults n mid y new z → CountsFaults n old x new z
counts_after n old mid new x y z later (inl a) (inl b) = inl (omega (arith, a, b))
counts_after n old mid new x y z later (inr a) (inl b) = inr (omega (arith, a, later))
counts_after n old mid new x y z later a (inr b) = inr b

-- faults that are due no more where the lists were closed
pub counts_closed : {T : Type 0} (tells : Bool) (old mid new : DiskState) (x y : List Level) (result : Result T Error) → new.faults ≡ mid.faults
    → IfErr result (λ failed. CountsFaults (faults_told tells (Some (Err failed))) old x mid y)
    → IfErr result (λ failed. CountsFaults (faults_told tells (Some (Err failed))) old x new [])
counts_closed tells old mid new x y (Ok value) same h = h
counts_closed tells old mid new x y (Err failed) same (inl a) = inl (omega (arith, a, same))
counts_closed tells old mid new x y (Err failed) same (inr a) = inr (omega (arith, a, same))

-- an entry that isn't gathered
pub counts_refused : (tells : Bool) (mid new : DiskState) (levels : List Level) (entry : DirEntry) (failed : Error) → mid.faults ≤ new.faults → IsRefusedFor tells mid new entry failed
    → CountsFaults (faults_told tells (Some (Err failed))) mid levels new levels
counts_refused tells mid new levels entry failed later (inl memory) =
    let none = ap (λ (e : Error). faults_told tells (Some (Err e))) memory in inl (omega (arith, none, later))
counts_refused tells mid new levels entry failed later (inr (inl (is, inl risen))) =
    let one = ap (λ (e : Error). faults_told tells (Some (Err e))) is in inl (omega (arith, one, risen))
counts_refused tells mid new levels entry failed later (inr (inl (is, inr last))) = inr last
counts_refused tells mid new levels entry failed later (inr (inr (is, told, untold))) = by tells refl
  where
    by : (b : Bool) → tells ≡ b → CountsFaults (faults_told tells (Some (Err failed))) mid levels new levels
    by true e = let none : faults_told tells (Some (Err failed)) ≡ 0 = ap (λ (x : Error). faults_told tells (Some (Err x))) is ∙ ap (λ (b : Bool). cond (not b) 1 0) e in inl (omega (arith, none, later))
    by false e =
        let one : faults_told tells (Some (Err failed)) ≡ 1 = ap (λ (x : Error). faults_told tells (Some (Err x))) is ∙ ap (λ (b : Bool). cond (not b) 1 0) e in
        let risen = untold e in
        inl (omega (arith, one, risen))

pub refused_no_loop : (tells : Bool) (mid new : DiskState) (entry : DirEntry) (failed : Error) → IsRefusedFor tells mid new entry failed → IsNoLoop failed
refused_no_loop tells mid new entry failed (inl is) path depth ancestor ident e = cc (is, e)
refused_no_loop tells mid new entry failed (inr (inl h)) path depth ancestor ident e = let is = h.0 in cc (is, e)
refused_no_loop tells mid new entry failed (inr (inr h)) path depth ancestor ident e = let is = h.0 in cc (is, e)

pub refused_not_many : (tells : Bool) (mid new : DiskState) (entry : DirEntry) (failed : Error) → IsRefusedFor tells mid new entry failed → failed ≢ error.TooMany
refused_not_many tells mid new entry failed (inl is) e = cc (is, e)
refused_not_many tells mid new entry failed (inr (inl h)) e = let is = h.0 in cc (is, e)
refused_not_many tells mid new entry failed (inr (inr h)) e = let is = h.0 in cc (is, e)

pub counts_later : (n : ℕ) (old mid new : DiskState) (x y : List Level) → mid.faults ≤ new.faults → CountsFaults n old x mid y → CountsFaults n old x new y
counts_later n old mid new x y later (inl a) = inl (omega (arith, a, later))
counts_later n old mid new x y later (inr a) = inr (omega (arith, a, later))

pub one_below : (entry : DirEntry) → 0 < entry.depth → below_one entry ≡ 1
one_below entry deep = ap (λ (b : Bool). cond b 1 0) (lt-ltb 0 entry.depth deep)

module _ {S : Type 0} where
  pub fits_tree : (tells : Bool) (compares_by : S → Comparison → Type 0) (state : DiskState) (sorts : Bool) (inside : Inside S) → FitsPlain tells compares_by state sorts inside
      → FitsTree tells compares_by state sorts inside
  fits_tree tells compares_by state sorts inside fits = λ told. let f = fits told in (f.0, f.1, f.2, f.3)

  -- a plain rest by the order that stays
  fits_by : (tells : Bool) (sorts : S → Bool) (compares_by : S → Comparison → Type 0) (state : DiskState) (old new : Inside S) → SameWalk old new
      → (IsTrue tells → (by : Comparison) × (rest : Rest) × compares_by old.order by × HasRest state (sorts old.order) by new rest × IsPlainRest rest) → FitsPlain tells compares_by state (sorts new.order) new
  fits_by tells sorts compares_by state old new same fits = λ told.
      let f = fits told in
      let C : S → Type 0 = λ order. compares_by order f.0 in
      let H : Bool → Type 0 = λ b. HasRest state b f.0 new f.1 in
      (f.0, f.1, subst C (sym same.order) f.2, subst H (sym (ap sorts same.order)) f.3, f.4)

  -- what the next entry counts
  pub counts_next : (tells : Bool) (sorts : S → Bool) (compares_by : S → Comparison → Type 0) (old mid new : DiskState) (before between now : Inside S) (told : ℕ)
      → SameWalk before between
      → (IsTrue tells → (by : Comparison) (start : Rest) → compares_by before.order by → HasRest old (sorts before.order) by before start → IsPlainRest start
      → (rest : Rest) × HasRest mid (sorts before.order) by between rest × IsPlainRest rest)
      → (FitsPlain tells compares_by old (sorts before.order) before → CountsFaults 0 old (levels_of before) mid (levels_of between))
      → (FitsPlain tells compares_by mid (sorts between.order) between → CountsFaults told mid (levels_of between) new (levels_of now))
      → mid.faults ≤ new.faults → FitsPlain tells compares_by old (sorts before.order) before
      → CountsFaults told old (levels_of before) new (levels_of now)
  counts_next tells sorts compares_by old mid new before between now told same gives so_far more later fits =
      let fits_too = fits_by tells sorts compares_by mid before between same (λ t.
      (let f = fits t in let o = gives t f.0 f.1 f.2 f.3 f.4 in (f.0, o.0, f.2, o.1, o.2))) in
      counts_after told old mid new (levels_of before) (levels_of between) (levels_of now) later (so_far fits) (more fits_too)
