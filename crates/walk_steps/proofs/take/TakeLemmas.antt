-- What a failed reading loses.
use Rattle.std.proofs.Common.{◌≡◌, ◌⊎◌, ℕ, List, map, Result, Ok, Err, ap, sym, ◌∙◌, inl, inr}
use Rattle.std.specs.Result.{IsErrOf, IsErrAnd}
use Rattle.sd_io.specs.Disk.{DiskState}
use Rattle.sd_io.specs.Lists.{Passes, Ends, PassesOver, PassesOverNext}
use Rattle.sd_io.specs.declared.meta.RawEntry.{RawEntry}
use Rattle.walk_rest.specs.declared.entry.DirEntry.{DirEntry}
use Rattle.walk_rest.specs.Level.{left_in}
use Rattle.walk_rest.specs.Sorting.{IsSublist, skipped}
use Rattle.walk_rest.proofs.ReadLemmas.{sublist_same, sublist_none}

-- the next entry, or all that were left
pub loses_some : (f : RawEntry → DirEntry) (old new : DiskState) (number : ℕ) → PassesOver old number new → PassesOverNext old number new
    → IsSublist (map f (left_in (new.open_list number))) (map f (left_in (old.open_list number)))
loses_some f old new number over next = by over.outcome
  where
    by : ((rest : List RawEntry) × Passes old number rest new) ⊎ Ends old number new → IsSublist (map f (left_in (new.open_list number))) (map f (left_in (old.open_list number)))
    by (inl p) = let one = next p.0 p.1 in rw (one.1, p.1.now) (skipped (sublist_same (map f p.0)))
    by (inr e) = rw e.now (sublist_none _)

-- an error that is passed on is that error
pub err_of : {A B E : Type 0} (e : E) (result : Result A E) → IsErrAnd result (λ passed. passed ≡ e) → {f : E} → IsErrOf result f → IsErrOf {T = B} {E = E} (Err e) f
err_of {A} {B} {E} e (Ok given) passed {f} h = absurd passed
err_of {A} {B} {E} e (Err fault) passed {f} h = let same : fault ≡ f = cc in let inject : E → Result B E = λ x. Err x in ap inject (sym passed ∙ same)
