use Rattle.std.proofs.Common.{◌≡◌}
use Rattle.std.proofs.lemmas.List.Elements.{All-pop}
use Rattle.walk_rest.specs.declared.entry.DirEntry.{DirEntry}
use Rattle.walk_rest.specs.Plan.{entry_below}
use Rattle.walk_steps.specs.Sound.{depth_below}
use Rattle.walk_steps.proofs.take.TakeLemmas.{loses_some, err_of}
use Rattle.walk_steps.proofs.take.take_entry.Goals as goal

pub returns-in_err-next_entry-in-Some-clause-failed :
    goal.returns-in_err-next_entry-in-Some-clause-failed
returns-in_err-next_entry-in-Some-clause-failed g c = λ tells failed.
    let e = c.in_err-next_entry-in-Some.ensures in
    let old = g.D.Disk.state c.args.disk.now in
    let new = g.D.Disk.state c.next_entry.new.self in
    let fault = err_of c.in_err-next_entry-in-Some.field-0.0 c.from_residual.result c.from_residual.ensures.1 failed in
    rw (c.in-Open.is, c.in-Some.is) (loses_some (entry_below c.in-Some.folder) old new c.in-Open.list.number (e.failed fault) (e.passed_over tells fault))

pub returns-in-Kept-clause-depth : goal.returns-in-Kept-clause-depth
returns-in-Kept-clause-depth g c =
    let d = depth_below c.args.level.now.folder in
    (All-pop (λ (entry : DirEntry). entry.depth ≡ d) c.in-Kept.kept.items c.pop.new.self.items c.pop.result c.pop.ensures.items (rw c.in-Kept.is at c.requires.readable)).1

pub returns-in-Kept-clause-readable : goal.returns-in-Kept-clause-readable
returns-in-Kept-clause-readable g c =
    let d = depth_below c.args.level.now.folder in
    (All-pop (λ (entry : DirEntry). entry.depth ≡ d) c.in-Kept.kept.items c.pop.new.self.items c.pop.result c.pop.ensures.items (rw c.in-Kept.is at c.requires.readable)).0
