-- Results that are passed on, and why they are errors.
use Rattle.std.proofs.Common.{◌≡◌, ◌⊎◌, ◌∙◌, ℕ, ◌<◌, ◌≤◌, Bool, true, false, refl, sym, ap, subst, inl, inr, arith}
use Rattle.std.specs.Prelude.{IsTrue, Result, Ok, Err, IsErrOf, IsErrAnd, IfErr, MatchResult, OnErr, OnOk}
use Rattle.sd_io.specs.declared.fault.DiskFault.{DiskFault}
use Rattle.sd_io.specs.declared.fault.DiskFault.TheVariants as disk
use Rattle.sd_io.specs.Count.{HasRisen}
use Rattle.sd_io.specs.Disk.{DiskState, HasCause}
use Rattle.file_exchange.specs.declared.fault.ExchangeFault.{ExchangeFault}
use Rattle.file_exchange.specs.declared.fault.ExchangeFault.TheVariants as exchange_fault
use Rattle.file_exchange.specs.Causes.{HasCauseOf, HasRisenBy}
use Rattle.file_exchange.specs.Exchange.{as_move, HasFailed}

-- ---- results

-- a fact under an error, and under an answer
pub at_err : {T E P : Type 0} (r : Result T E) → P → OnErr r P
at_err (Ok x) p = tt
at_err (Err e) p = p

pub if_err : {T E : Type 0} {P : E → Type 0} (r : Result T E) → ((e : E) → P e) → IfErr r P
if_err (Ok x) p = tt
if_err (Err e) p = p e

pub at_ok : {T E P Q : Type 0} (r : Result T E) → OnOk r P → (P → Q) → OnOk r Q
at_ok (Ok x) p f = f p
at_ok (Err e) p f = tt

-- an error that is passed on
pub passed_on : {T U E : Type 0} (r : Result T E) (x y : E) → IsErrAnd r (λ e. e ≡ x) → IsErrOf r y → IsErrOf {T = U} (Err x) y
passed_on (Ok a) x y h e = cc
passed_on (Err a) x y h e = cc

pub on_ok : {T E P : Type 0} (r : Result T E) → P → OnOk r P
on_ok (Ok x) p = p
on_ok (Err e) p = tt

-- an error of the disk that is passed on as its own
pub passed_as : {T U : Type 0} (r : Result T ExchangeFault) (fault f : DiskFault) → IsErrAnd r (λ e. e ≡ exchange_fault.Disk fault) → IsErrOf r (exchange_fault.Disk f) → IsErrOf {T = U} (Err fault) f
passed_as (Ok a) fault f h e = cc
passed_as (Err a) fault f h e = cc

-- the same error of another call
pub same_error : {T U : Type 0} (fault f : DiskFault) → IsErrOf {T = U} (Err fault) f → IsErrOf {T = T} (Err fault) f
same_error fault f e = cc

-- an error of a step before the move is none of the move
pub before_move : {T : Type 0} (r : Result T ExchangeFault) (fault f : DiskFault) → IsErrAnd r (λ e. e ≡ exchange_fault.Disk fault) → IsErrOf r (exchange_fault.Move f) → ⊥
before_move (Ok a) fault f h e = cc
before_move (Err a) fault f h e = cc

-- ---- the answer of a move

-- it is the disk's answer, with the fault of a move
abbrev pub IsMoveOf : {T : Type 0} → Result T DiskFault → Result T ExchangeFault → Type 0
IsMoveOf r q = MatchResult r (λ x. q ≡ Ok x) (λ fault. IsErrAnd q (λ e. e ≡ as_move fault))

pub move_ok : {T : Type 0} (P : Type 0) (r : Result T DiskFault) (q : Result T ExchangeFault) → IsMoveOf r q → OnOk r P → OnOk q P
move_ok P (Ok x) q is p = subst (λ r. OnOk r P) (sym is) p
move_ok P (Err fault) (Ok x) is p = absurd is
move_ok P (Err fault) (Err e) is p = tt

pub move_err : {T : Type 0} (P : Type 0) (r : Result T DiskFault) (q : Result T ExchangeFault) → IsMoveOf r q → OnErr r P → OnErr q P
move_err P (Ok x) q is p = subst (λ r. OnErr r P) (sym is) tt
move_err P (Err fault) (Ok x) is p = absurd is
move_err P (Err fault) (Err e) is p = p

-- one of the disk's is want of memory
as_move_disk : (fault f : DiskFault) → as_move fault ≡ exchange_fault.Disk f → (fault ≡ f) × (f ≡ disk.NoMemory)
as_move_disk disk.Absent f e = cc
as_move_disk disk.Taken f e = cc
as_move_disk disk.Failed f e = cc
as_move_disk disk.NoMemory f e = (cc, cc)

as_move_move : (fault f : DiskFault) → as_move fault ≡ exchange_fault.Move f → (fault ≡ f) × (f ≡ disk.NoMemory → ⊥)
as_move_move disk.Absent f e = (cc, λ none. cc)
as_move_move disk.Taken f e = (cc, λ none. cc)
as_move_move disk.Failed f e = (cc, λ none. cc)
as_move_move disk.NoMemory f e = cc

pub move_disk : {T : Type 0} (r : Result T DiskFault) (q : Result T ExchangeFault) (f : DiskFault) → IsMoveOf r q → IsErrOf q (exchange_fault.Disk f) → IsErrOf r f × (f ≡ disk.NoMemory)
move_disk (Ok x) q f is e = cc
move_disk (Err fault) (Ok x) f is e = absurd is
move_disk (Err fault) (Err a) f is e = let both = as_move_disk fault f cc in (cc, both.1)

pub move_move : {T : Type 0} (r : Result T DiskFault) (q : Result T ExchangeFault) (f : DiskFault) → IsMoveOf r q → IsErrOf q (exchange_fault.Move f) → IsErrOf r f × (f ≡ disk.NoMemory → ⊥)
move_move (Ok x) q f is e = cc
move_move (Err fault) (Ok x) f is e = absurd is
move_move (Err fault) (Err a) f is e = let both = as_move_move fault f cc in (cc, both.1)

as_move_named : (fault : DiskFault) → as_move fault ≡ exchange_fault.NoName → ⊥
as_move_named disk.Absent e = cc
as_move_named disk.Taken e = cc
as_move_named disk.Failed e = cc
as_move_named disk.NoMemory e = cc

pub move_named : {T : Type 0} (r : Result T DiskFault) (q : Result T ExchangeFault) → IsMoveOf r q → IsErrOf q exchange_fault.NoName → ⊥
move_named (Ok x) q is e = cc
move_named (Err fault) (Ok x) is e = absurd is
move_named (Err fault) (Err a) is e = as_move_named fault cc

-- ---- counts

pub risen_since : (before middle now : ℕ) → before ≤ middle → HasRisen middle now → HasRisen before now
risen_since before middle now low (inl rose) = inl (omega arith)
risen_since before middle now low (inr last) = inr last

-- two faults were counted
pub risen_twice : {a b c : ℕ} → HasRisen a b → HasRisen b c → HasRisenBy 2 a c
risen_twice (inl first) (inl second) = inl (omega arith)
risen_twice (inl first) (inr last) = inr last
risen_twice (inr last) (inl second) = inr (omega arith)
risen_twice (inr last) (inr still) = inr still

-- ---- causes

-- where the tree is told, that file is there
absent_risen : {T : Type 0} (tells : Bool) (s t : DiskState) (r : Result T DiskFault) → HasCause tells s t r → IsErrOf r disk.Absent → (IsTrue tells → ⊥) → (tells ≡ false) × (s.faults < t.faults)
absent_risen true s t r cause e there = absurd (there refl)
absent_risen false s t r cause e there = (refl, cause.absent refl e)

-- an error of a step that comes after others
pub step_cause : {T U E : Type 0} {error_of : DiskFault → E} (tells : Bool) (old s t : DiskState) (r : Result T DiskFault) (q : Result U E) → ((f : DiskFault) → IsErrOf q (error_of f) → IsErrOf r f)
    → old.faults ≤ s.faults → HasCause tells s t r → (IsErrOf r disk.Taken → ⊥) → (IsTrue tells → IsErrOf r disk.Absent → ⊥) → HasCauseOf error_of tells old t q
step_cause tells old s t r q same low cause not_taken not_absent = record {
  never_falls = omega (arith, cause.never_falls);
  failed = λ e. risen_since old.faults s.faults t.faults low (cause.failed (same disk.Failed e));
  absent = λ e.
      let risen = absent_risen tells s t r cause (same disk.Absent e) (λ told. not_absent told (same disk.Absent e)) in
      (risen.0, omega (arith, risen.1));
  not_taken = λ e. not_taken (same disk.Taken e);
}

-- the cause of a step that comes after others
pub later_cause : {T E : Type 0} {error_of : DiskFault → E} (tells : Bool) (old s t : DiskState) (r : Result T E) → old.faults ≤ s.faults → HasCauseOf error_of tells s t r → HasCauseOf error_of tells old t r
later_cause tells old s t r low cause = record {
  never_falls = omega (arith, cause.never_falls);
  failed = λ e. risen_since old.faults s.faults t.faults low (cause.failed e);
  absent = λ e. let risen = cause.absent e in (risen.0, omega (arith, risen.1));
  not_taken = cause.not_taken;
}

-- no error of a move comes
pub no_cause : {T : Type 0} (tells : Bool) (old new : DiskState) (r : Result T ExchangeFault) → old.faults ≤ new.faults → ((f : DiskFault) → IsErrOf r (exchange_fault.Move f) → ⊥)
    → HasCauseOf exchange_fault.Move tells old new r
no_cause tells old new r low none = record {
  never_falls = low;
  failed = λ e. absurd (none disk.Failed e);
  absent = λ e. absurd (none disk.Absent e);
  not_taken = λ e. none disk.Taken e;
}

-- ---- failures

-- a failure that is passed on through a removal
pub failed_before : (result fault : ExchangeFault) → HasFailed result → (result ≡ exchange_fault.Disk disk.NoMemory) ⊎ (result ≡ fault)
    → (result ≡ exchange_fault.Disk disk.NoMemory → ⊥) × HasFailed fault
failed_before result fault (inl f) (inl none) = absurd (cc)
failed_before result fault (inr f) (inl none) = absurd (cc)
failed_before result fault (inl f) (inr same) = ((λ e. cc), inl (sym same ∙ f))
failed_before result fault (inr f) (inr same) = ((λ e. cc), inr (sym same ∙ f))

-- is counted
pub failed_risen : {T : Type 0} (tells : Bool) (old new : DiskState) (fault : ExchangeFault) → HasCauseOf {T = T} exchange_fault.Disk tells old new (Err fault)
    → HasCauseOf {T = T} exchange_fault.Move tells old new (Err fault) → HasFailed fault → HasRisen old.faults new.faults
failed_risen tells old new fault cause move_cause (inl f) = cause.failed (ap (λ (e : ExchangeFault). Err e) f)
failed_risen tells old new fault cause move_cause (inr f) = move_cause.failed (ap (λ (e : ExchangeFault). Err e) f)
