use Rattle.std.proofs.Common.{◌∙◌, subst}
use Rattle.std.specs.Prelude.{Option, IfNone}
use Rattle.sd_io.specs.declared.meta.RawEntry.{RawEntry}
use Rattle.sd_io.specs.Lists.{Ends}
use Rattle.mem_io.specs.MemDisk.{mem_state}
use Rattle.demo_tree.proofs.faultless.FaultlessDiskDisk.next_entry.Goals as goal

pub invariant_of-self-in-None : goal.invariant_of-self-in-None
invariant_of-self-in-None c =
    let old = c.args.self.now in
    let ends : Ends (mem_state old.disk) c.args.list.number (mem_state c.next_entry.new.self) =
    subst (λ (given : Option RawEntry). IfNone given (Ends (mem_state old.disk) c.args.list.number (mem_state c.next_entry.new.self)))
    c.in-None.is c.in_ok-next_entry.ensures.ended in
    record {
      none_failing = c.in_ok-next_entry.ensures.counts.failing ∙ old.none_failing;
      not_stopped = c.in_ok-next_entry.ensures.counts.stop ∙ old.not_stopped;
      no_faults = c.in_ok-next_entry.ensures.counts.not_failed (λ e. cc) ∙ old.no_faults;
      listed_so_far = ends.listed ∙ old.listed_so_far;
    }
