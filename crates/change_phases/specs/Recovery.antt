-- From which states a journalled change is recovered.
use Rattle.std.specs.Prelude.{◌≡◌, Contains, Option}
use Rattle.sd_io.specs.Tree.{NameList, Content, Tree}
use Rattle.sd_io.specs.Outcomes.{Leaves, content_at}
use Rattle.sd_io.specs.Disk.{DiskState, MayLeave, outcomes_now}
use Rattle.sd_io.specs.Crashes.{IsSettledAt}
use Rattle.file_exchange.specs.Crash.{Exchange}
use Rattle.change_phases.specs.Between.{Work, journal_of, Between}

-- the files that change and the journal are settled: each outcome of what stands there is as it stands
pub record AreSettled (work : Work) (state : DiskState) : Type 0 where
  pub files : (f : Exchange) → Contains work.files f → IsSettledAt state f.0
  pub journal : IsSettledAt state (journal_of work)

-- Each image that a crash may leave is between, and the files that change and the journal are settled.
pub record IsRecoverable (work : Work) (state : DiskState) : Type 0 where
  pub images : (image : Tree) → MayLeave state image → Between work image
  pub settled : AreSettled work state

-- a crash leaves each place as it stands
abbrev pub IsOnMedium : DiskState → Type 0
IsOnMedium state = (q : NameList) (found : Option Content) → Leaves (outcomes_now state q) found → found ≡ content_at state.tree q

-- A disk after a crash: the image stands there, and is on the medium.
pub record StandsAfter (image : Tree) (state : DiskState) : Type 0 where
  pub stands : (q : NameList) → content_at state.tree q ≡ content_at image q
  pub on_medium : IsOnMedium state
