use Rattle.std.proofs.Common.{◌≡◌, take}
use Rattle.sd_journal.specs.Work.{changed_paths}
use Rattle.sd_journal.proofs.sweeping.changed_paths.Given as goal

abbrev pub invariant-loop-line : goal.invariant-loop-line
invariant-loop-line l = l.paths.items ≡ changed_paths (take l.line-index l.lines)
