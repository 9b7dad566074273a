-- How globs, and a choice, refuse a command.
use Rattle.std.proofs.Common.{◌≡◌, ◌⊎◌, ℕ, zero, suc, List, [], ◌∷◌, refl, sym, ap, subst, inl, inr}
use Rattle.std.specs.Prelude.{All, Result, Ok, Err, IsErrAnd, IfOk, IfErr, MatchResult, Bool}
use Rattle.std.proofs.lemmas.List.Elements.{All-head, All-tail}
use Rattle.sd_io.specs.Disk.{DiskState}
use Rattle.sd_course.specs.Course.{course}
use Rattle.chosen_files.specs.Globs.{IsValid, IsFirstInvalid}
use Rattle.chosen_files.specs.Choice.{ChoiceFails, GlobsFail}
use Rattle.chosen_files.specs.declared.fault.ChoiceFault.{ChoiceFault}
use Rattle.chosen_files.specs.declared.fault.ChoiceFault.TheVariants as choice_fault
use Rattle.sd_core.specs.Errors.{of_choice}
use Rattle.sd_core.specs.Selection.{by_globs}
use Rattle.sd_core.specs.Sweep.{SelectingFails}
use Rattle.sd_core.specs.declared.error.Error.TheVariants as error

pub is_told : {T E : Type 0} (r : Result T E) (e : E) → IsErrAnd r (λ x. x ≡ e) → r ≡ Err e
is_told (Ok x) e is = absurd is
is_told (Err x) e is = ap Err is

-- what was answered, by what a mapping of its fault gives
pub err_of : {T E D : Type 0} (of : E → D) (r : Result T E) (e : D) → MatchResult r (λ x. ◌≡◌ {A = Result T D} (Err e) (Ok x)) (λ fault. e ≡ of fault) → (fault : E) × (r ≡ Err fault) × (e ≡ of fault)
err_of of (Ok x) e h = cc
err_of of (Err fault) e h = (fault, refl, h)

pub if_ok : {T E : Type 0} (D : Type 0) (P : T → Type 0) (r : Result T E) (x : T) → MatchResult r (λ y. ◌≡◌ {A = Result T D} (Ok x) (Ok y)) (λ fault. ⊥) → IfOk r P → P x
if_ok D P (Ok y) x h p = let e : x ≡ y = cc in subst P (sym e) p
if_ok D P (Err fault) x h p = absurd h

pub if_err : {T E : Type 0} (r : Result T E) (e wanted : E) → r ≡ Err e → e ≡ wanted → IfErr r (λ failed. failed ≡ wanted)
if_err r e wanted is same = subst (λ s. IfErr s (λ failed. failed ≡ wanted)) (sym is) same

-- there is at most one first invalid glob, and none where all are valid
pub one_first : (globs : List (List ℕ)) (p q : ℕ) → IsFirstInvalid globs p → IsFirstInvalid globs q → p ≡ q
one_first [] p q at _ = absurd at
one_first (glob ∷ globs) zero zero at to = refl
one_first (glob ∷ globs) zero (suc q) at to = absurd (at to.0)
one_first (glob ∷ globs) (suc p) zero at to = absurd (to at.0)
one_first (glob ∷ globs) (suc p) (suc q) at to = ap suc (one_first globs p q at.1 to.1)

pub none_first : (globs : List (List ℕ)) (p : ℕ) → All IsValid globs → IsFirstInvalid globs p → ⊥
none_first [] p all at = at
none_first (glob ∷ globs) zero all at = at (All-head IsValid glob globs all)
none_first (glob ∷ globs) (suc p) all at = none_first globs p (All-tail IsValid glob globs all) at.1

pub failed_of : {T E : Type 0} (P : E → Type 0) (r : Result T E) (fault : E) → r ≡ Err fault → IfErr r P → P fault
failed_of P r fault is h = rw is at h

module _ (globs : List (List ℕ)) (why : ChoiceFault) (fails : GlobsFail globs why) where
  pub globs_told : (place : ℕ) → IsFirstInvalid globs place → (of_choice why ≡ error.BadGlob place) ⊎ (of_choice why ≡ error.NoMemory)
  globs_told place at = by why fails
    where
      by : (e : ChoiceFault) → GlobsFail globs e → (of_choice e ≡ error.BadGlob place) ⊎ (of_choice e ≡ error.NoMemory)
      by (choice_fault.BadGlob p) h = inl (ap error.BadGlob (one_first globs p place h at))
      by choice_fault.RootMissing h = absurd h
      by (choice_fault.Walk failed) h = absurd h
      by choice_fault.TooMany h = absurd h
      by choice_fault.NoMemory h = inr refl

  -- where all are valid, it is for want of memory
  pub globs_for_memory : All IsValid globs → of_choice why ≡ error.NoMemory
  globs_for_memory valid = by why fails
    where
      by : (e : ChoiceFault) → GlobsFail globs e → of_choice e ≡ error.NoMemory
      by (choice_fault.BadGlob p) h = absurd (none_first globs p valid h)
      by choice_fault.RootMissing h = absurd h
      by (choice_fault.Walk failed) h = absurd h
      by choice_fault.TooMany h = absurd h
      by choice_fault.NoMemory h = refl

  pub globs_fail : (root : List ℕ) (cap : ℕ) (tells : Bool) (s : DiskState) → SelectingFails (by_globs root globs) cap (course tells s s) (of_choice why)
  globs_fail root cap tells s = by why fails
    where
      by : (e : ChoiceFault) → GlobsFail globs e → SelectingFails (by_globs root globs) cap (course tells s s) (of_choice e)
      by (choice_fault.BadGlob p) h = (h, refl)
      by choice_fault.RootMissing h = absurd h
      by (choice_fault.Walk failed) h = absurd h
      by choice_fault.TooMany h = absurd h
      by choice_fault.NoMemory h = tt

pub choice_fails : (root : List ℕ) (globs : List (List ℕ)) (cap : ℕ) (tells : Bool) (old new : DiskState) (why : ChoiceFault) → ChoiceFails root cap (course tells old new) why
    → SelectingFails (by_globs root globs) cap (course tells old new) (of_choice why)
choice_fails root globs cap tells old new (choice_fault.BadGlob place) f = absurd f
choice_fails root globs cap tells old new choice_fault.RootMissing f = f
choice_fails root globs cap tells old new (choice_fault.Walk failed) f = f
choice_fails root globs cap tells old new choice_fault.TooMany f = f
choice_fails root globs cap tells old new choice_fault.NoMemory f = tt

pub choice_for_memory : (why : ChoiceFault) → why ≡ choice_fault.NoMemory → of_choice why ≡ error.NoMemory
choice_for_memory why e = ap of_choice e
