-- A list stays open.
use Rattle.std.proofs.Common.{ℕ, List, ◌⊎◌, inl, inr}
use Rattle.sd_io.specs.Disk.{DiskState}
use Rattle.sd_io.specs.Lists.{IsOpen, Passes, Ends, Gives, PassesOver}
use Rattle.sd_io.specs.declared.meta.RawEntry.{RawEntry}

pub open_given : (old new : DiskState) (number : ℕ) → Gives old number new → IsOpen new number
open_given old new number gives = (_, gives.passes.now)

pub open_passed : (old new : DiskState) (number : ℕ) → PassesOver old number new → IsOpen new number
open_passed old new number over = by over.outcome
  where
    by : ((rest : List RawEntry) × Passes old number rest new) ⊎ Ends old number new → IsOpen new number
    by (inl p) = (_, p.1.now)
    by (inr e) = (_, e.now)
