-- Why a file is refused.
use Rattle.std.proofs.Common.{◌≡◌, ◌≤◌, ℕ, Bool, true, false, List, [], refl, sym, ap, subst, inl, inr, arith}
use Rattle.std.specs.Prelude.{IsTrue, None, is_some, Result, Ok, Err, IsErrOf, IsErrAnd, IfErr}
use Rattle.std.specs.Option.{option_and_then}
use Rattle.sd_io.specs.Tree.{Tree, file_at}
use Rattle.sd_io.specs.Paths.{parts_of, parent_of, reached}
use Rattle.sd_io.specs.Files.{file_of}
use Rattle.sd_io.specs.Disk.{DiskState, SameTree, HasCause}
use Rattle.sd_io.specs.declared.fault.DiskFault.{DiskFault}
use Rattle.sd_io.specs.declared.fault.DiskFault.TheVariants as disk
use Rattle.file_exchange.specs.declared.fault.ExchangeFault.{ExchangeFault}
use Rattle.file_exchange.specs.declared.fault.ExchangeFault.TheVariants as exchange
use Rattle.file_exchange.specs.Causes.{HasCauseOf}
use Rattle.file_exchange.specs.Reserved.{NoneFree, reserved_names}
use Rattle.file_exchange.proofs.CauseLemmas.{risen_since}
use Rattle.sd_course.specs.Course.{course, HasRisenBy}
use Rattle.file_rewrite.specs.Faults.{as_job, as_exchange_job}
use Rattle.file_rewrite.specs.Reading.{FindsFile}
use Rattle.file_rewrite.specs.OneFile.{IsCrowded, HasFileCause}

-- what holds of the error that is told on
pub told_on : {T E : Type 0} (P : E → Type 0) (r : Result T E) (e : E) → IsErrAnd r (λ x. x ≡ e) → P e → IfErr r P
told_on P (Ok x) e is p = tt
told_on P (Err x) e is p = subst P (sym is) p

-- a path that leads nowhere leads to no file
pub nowhere : (tree : Tree) (path : List ℕ) → reached tree path true ≡ None → file_of tree path ≡ None
nowhere tree path none = ap (option_and_then (file_at tree)) none

-- the fault of a step before the move
pub step_cause : {T : Type 0} (tells : Bool) (s0 s t : DiskState) (path : List ℕ) (fault : DiskFault) → s0.faults ≤ s.faults → HasCause {T = T} tells s t (Err fault)
    → (IsErrOf {T = T} (Err fault) disk.Taken → ⊥) → (IsTrue tells → IsErrOf {T = T} (Err fault) disk.Absent → file_of s0.tree path ≡ None)
    → HasFileCause (course tells s0 t) path (as_job fault)
step_cause tells s0 s t path disk.Absent low cause not_taken none = (
  (λ told. none told refl),
  (λ untold. let rose = cause.absent untold refl in inl (omega arith)),
)
step_cause tells s0 s t path disk.Taken low cause not_taken none = absurd (not_taken refl)
step_cause tells s0 s t path disk.Failed low cause not_taken none = risen_since s0.faults s.faults t.faults low (cause.failed refl)
step_cause tells s0 s t path disk.NoMemory low cause not_taken none = tt

more_since : (n before middle now : ℕ) → before ≤ middle → HasRisenBy n middle now → HasRisenBy n before now
more_since n before middle now low (inl rose) = inl (omega arith)
more_since n before middle now low (inr last) = inr last

module _ (tells : Bool) (s0 s t : DiskState) (path own bytes : List ℕ) (low : s0.faults ≤ s.faults) where
  -- the folder of the file has no free reserved name
  crowded : SameTree s0 s → FindsFile s0.tree path own bytes → NoneFree s.tree (parent_of (parts_of own)) → IsCrowded s0.tree path 0
  crowded same f none = record {
    place = parts_of own;
    leads = f.leads;
    is_file = ap is_some f.was;
    few = record {
      places = [];
      few = omega arith;
      all = λ place free. absurd (subst (λ (tree : Tree). NoneFree tree (parent_of (parts_of own))) same.tree none place free);
    };
  }

  -- the fault of an exchange
  pub exchange_cause : (fault : ExchangeFault) → SameTree s0 s → (IsTrue tells → FindsFile s0.tree path own bytes)
      → HasCauseOf {T = Unit {0}} exchange.Disk tells s t (Err fault) → HasCauseOf {T = Unit {0}} exchange.Move tells s t (Err fault)
      → (IsErrOf {T = Unit {0}} (Err fault) (exchange.Move disk.NoMemory) → ⊥)
      → (IsTrue tells → IsErrOf {T = Unit {0}} (Err fault) exchange.NoName → NoneFree s.tree (parent_of (parts_of own)))
      → (tells ≡ false → IsErrOf {T = Unit {0}} (Err fault) exchange.NoName → HasRisenBy reserved_names s.faults t.faults)
      → HasFileCause (course tells s0 t) path (as_exchange_job fault)
  exchange_cause exchange.NoName same f cause moving memory none untold_none = (
    (λ told. crowded same (f told) (none told refl)),
    (λ untold. more_since reserved_names s0.faults s.faults t.faults low (untold_none untold refl)),
  )
  exchange_cause (exchange.Disk disk.Absent) same f cause moving memory none untold_none =
      let rose = cause.absent refl in ((λ told. absurd (cc (told, rose.0))), (λ untold. inl (omega (arith, rose.1))))
  exchange_cause (exchange.Disk disk.Taken) same f cause moving memory none untold_none = absurd (cause.not_taken refl)
  exchange_cause (exchange.Disk disk.Failed) same f cause moving memory none untold_none = risen_since s0.faults s.faults t.faults low (cause.failed refl)
  exchange_cause (exchange.Disk disk.NoMemory) same f cause moving memory none untold_none = tt
  exchange_cause (exchange.Move disk.Absent) same f cause moving memory none untold_none =
      let rose = moving.absent refl in ((λ told. absurd (cc (told, rose.0))), (λ untold. inl (omega (arith, rose.1))))
  exchange_cause (exchange.Move disk.Taken) same f cause moving memory none untold_none = absurd (moving.not_taken refl)
  exchange_cause (exchange.Move disk.Failed) same f cause moving memory none untold_none = risen_since s0.faults s.faults t.faults low (moving.failed refl)
  exchange_cause (exchange.Move disk.NoMemory) same f cause moving memory none untold_none = absurd (memory refl)
