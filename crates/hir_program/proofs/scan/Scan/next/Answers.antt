use Rattle.hir_program.proofs.scan.ScanLemmas.{IfNone-runs, IfSome-runs}
use Rattle.hir_program.proofs.scan.Scan.next.Goals as goal

pub returns-in-Some-StartLF-clause-none : goal.returns-in-Some-StartLF-clause-none
returns-in-Some-StartLF-clause-none c = IfNone-runs c.args.text.now c.args.self.now c.args.at c.next_line.result c.next_line.ensures.none

pub returns-in-Some-StartLF-clause-some : goal.returns-in-Some-StartLF-clause-some
returns-in-Some-StartLF-clause-some c = IfSome-runs c.args.text.now c.args.self.now c.args.at c.next_line.result c.next_line.ensures.some

pub returns-in_default-clause-none : goal.returns-in_default-clause-none
returns-in_default-clause-none c = IfNone-runs c.args.text.now c.args.self.now c.args.at c.next_by_shifts.result c.next_by_shifts.ensures.none

pub returns-in_default-clause-some : goal.returns-in_default-clause-some
returns-in_default-clause-some c = IfSome-runs c.args.text.now c.args.self.now c.args.at c.next_by_shifts.result c.next_by_shifts.ensures.some

pub returns-then-self-eq0-clause-none : goal.returns-then-self-eq0-clause-none
returns-then-self-eq0-clause-none c = IfNone-runs c.args.text.now c.args.self.now c.args.at c.next_stop.result c.next_stop.ensures.none

pub returns-then-self-eq0-clause-some : goal.returns-then-self-eq0-clause-some
returns-then-self-eq0-clause-some c = IfSome-runs c.args.text.now c.args.self.now c.args.at c.next_stop.result c.next_stop.ensures.some
