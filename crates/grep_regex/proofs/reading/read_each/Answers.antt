use Rattle.std.proofs.Common.{◌+◌, take, drop, sym, subst, arith}
use Rattle.std.proofs.lemmas.List.{take_all}
use Rattle.grep_regex.specs.Building.{IsReadingRefused}
use Rattle.grep_regex.specs.ReadSoFar.{AreRead}
use Rattle.grep_regex.proofs.reading.KnownLemmas.{one_taken, taken_apart}
use Rattle.grep_regex.proofs.reading.ReadLemmas.{error_if}
use Rattle.grep_regex.proofs.reading.read_each.Goals as goal

pub loop-i-init : goal.loop-i-init
loop-i-init c = c.new-read.ensures c.args.options.now c.args.folded

pub returns-in_err-read_next-clause-refused : goal.returns-in_err-read_next-clause-refused
returns-in_err-read_next-clause-refused c =
    let o = c.args.options.now in
    let patterns = c.args.patterns.now in
    let i = c.loop-i.i in
    let e = c.in_err-read_next.field-0.0 in
    error_if c.from_residual.result e (IsReadingRefused o patterns) c.from_residual.ensures.1
    (
    subst (λ texts. IsReadingRefused o texts e.kind) (taken_apart patterns i c.get.result.now c.get.ensures.same)
    (c.in_err-read_next.ensures.refused (take i patterns) (drop (i + 1) patterns) c.loop-i.invariant)
    )

pub loop-i-preserved : goal.loop-i-preserved
loop-i-preserved c =
    let patterns = c.args.patterns.now in
    let i = c.loop-i.i in
    subst (λ texts. AreRead c.args.options.now c.args.folded texts c.read_next.new.self) (sym (one_taken patterns i c.get.result.now c.get.ensures.same))
    (c.in_ok-read_next.ensures.read (take i patterns) c.loop-i.invariant)

pub returns-clause-read : goal.returns-clause-read
returns-clause-read c =
    let patterns = c.args.patterns.now in
    subst (λ texts. AreRead c.args.options.now c.args.folded texts c.loop-i.read) (take_all c.loop-i.i patterns (omega arith)) c.loop-i.invariant
