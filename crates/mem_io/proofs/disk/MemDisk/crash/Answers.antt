use Rattle.std.proofs.Common.{sym, ◌∙◌, subst}
use Rattle.sd_io.specs.Disk.{outcomes_now}
use Rattle.sd_io.specs.Outcomes.{Outcomes}
use Rattle.mem_io.specs.Log.{IsCrash, outcomes_after}
use Rattle.mem_io.specs.LogHolds.{now_of, take_whole}
use Rattle.mem_io.specs.Medium.{told_tree}
use Rattle.mem_io.specs.MemDisk.{mem_state}
use Rattle.mem_io.specs.MemHolds.{first_in, changes_in, told_by}
use Rattle.mem_io.proofs.log.CrashLemmas.{choice_may_leave}
use Rattle.mem_io.proofs.disk.MomentLemmas.{kept_now}
use Rattle.mem_io.proofs.disk.MemDisk.crash.Goals as goal

pub returns-clause-crash : goal.returns-clause-crash
returns-clause-crash c =
    let self = c.args.self.now in
    subst (λ (o : Outcomes). IsCrash o c.args.choice (told_tree c.in_ok-crash.field-0)) (sym (now_of (first_in self) (changes_in self) (mem_state self) (told_by self))) c.in_ok-crash.ensures.crash

pub returns-clause-left : goal.returns-clause-left
returns-clause-left c = let self = c.args.self.now in choice_may_leave (mem_state self).tree (outcomes_now (mem_state self)) c.args.choice _ (kept_now self) (returns-clause-crash c)

pub returns-clause-alone : goal.returns-clause-alone
returns-clause-alone c = λ q. (λ i. outcomes_after c.in_ok-crash.field-0.log.first_dev (take_whole c.in_ok-crash.field-0.log.changes.items i) q) ∙ c.in_ok-crash.ensures.alone q
