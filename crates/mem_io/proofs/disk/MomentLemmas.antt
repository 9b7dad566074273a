-- The moments of a disk in memory.
use Rattle.std.proofs.Common.{◌∙◌, ℕ, List, [], ◌∷◌, ◌++◌, length, sym, ap, subst}
use Rattle.sd_io.specs.Disk.{SameTree, Advances, outcomes_now}
use Rattle.mem_io.specs.declared.log.Change.{Change}
use Rattle.mem_io.specs.Log.{after, outcomes_by, Tells, IsKept}
use Rattle.mem_io.specs.LogHolds.{now_of}
use Rattle.mem_io.specs.Medium.{Notes, SameMedium}
use Rattle.mem_io.specs.MemDevices.{PutsDeviceBy}
use Rattle.mem_io.specs.declared.disk.MemDisk.{MemDisk}
use Rattle.mem_io.specs.MemDisk.{mem_state, SetsDevice}
use Rattle.mem_io.specs.MemHolds.{first_in, changes_in, told_by}
use Rattle.mem_io.proofs.log.ToldLemmas.{noted_advances}
use Rattle.mem_io.proofs.log.TellingLemmas.{moment_told}
use Rattle.std.proofs.lemmas.List.{length-map}

-- with each change that is noted
pub advances : (old new : MemDisk) (change : Change) → Notes old.medium change new.medium → Advances (mem_state old) (mem_state new) (after change (outcomes_now (mem_state old)))
advances old new change n =
    let told : Tells (first_in old) (changes_in old ++ change ∷ []) (mem_state new) = subst (λ (cs : List Change). Tells (first_in old) cs (mem_state new)) n.noted (subst (λ (first : ℕ). Tells first (changes_in new) (mem_state new)) n.first (told_by new)) in
    noted_advances (first_in old) (changes_in old) change (mem_state old) (mem_state new) (told_by old) told

-- where none is noted no time has passed
pub same_told : (old new : MemDisk) → SameMedium old.medium new.medium → SameTree (mem_state old) (mem_state new)
same_told old new same = record { tree = same.tree; clock = ap length same.changes; outcomes = λ i. outcomes_by (same.first i) (same.changes i) }

-- what is kept is so of the outcomes of this moment
pub kept_now : (d : MemDisk) → IsKept (mem_state d).tree (outcomes_now (mem_state d))
kept_now d = subst (IsKept (mem_state d).tree) (sym (now_of (first_in d) (changes_in d) (mem_state d) (told_by d))) d.medium.kept

-- where another device is told no time has passed, and each moment tells it
pub tells_device : (old new : MemDisk) (path : List ℕ) (dev : ℕ) → PutsDeviceBy (mem_state old).tree path dev (mem_state new).tree old.medium.log new.medium.log → SetsDevice (mem_state old) path dev (mem_state new)
tells_device old new path dev p = record {
  place = p.place;
  leads = p.leads;
  clock = ap length p.tells.changes ∙ length-map (changes_in old) _;
  outcomes = λ moment. moment_told p.place dev old.medium.log new.medium.log moment p.tells;
}
