use Rattle.std.proofs.Common.{false, true, refl, inl, arith}
use Rattle.sd_io.proofs.CrashLemmas.{since_same}
use Rattle.sd_change.specs.Change.{FileChange}
use Rattle.file_exchange.proofs.CauseLemmas.{if_err}
use Rattle.file_rewrite.specs.declared.fault.JobFault.TheVariants as job
use Rattle.file_rewrite.proofs.rewriting.CauseLemmas.{told_on, exchange_cause}
use Rattle.file_rewrite.proofs.rewriting.FindingLemmas.{found_as}
use Rattle.file_rewrite.proofs.rewriting.FileLemmas.{told_same, told_other, file_path, kept_file, kept_durable, changed_file, left_file, crash_file, durable_file}
use Rattle.file_rewrite.proofs.rewriting.replace_file.Goals as goal

-- ---- the path names no file

pub returns-then-is_no_path-clause-left : goal.returns-then-is_no_path-clause-left
returns-then-is_no_path-clause-left g c =
    λ told. inl (record { tree = refl; clock = refl; outcomes = refl })

pub returns-then-is_no_path-clause-cause : goal.returns-then-is_no_path-clause-cause
returns-then-is_no_path-clause-cause g c =
    c.if-is_no_path.ensures.0 refl

pub returns-then-is_no_path-clause-no_path : goal.returns-then-is_no_path-clause-no_path
returns-then-is_no_path-clause-no_path g c =
    λ none. (refl, refl)

pub returns-then-is_no_path-clause-crash : goal.returns-then-is_no_path-clause-crash
returns-then-is_no_path-clause-crash g c =
    λ told. since_same _ _ (g.D.Disk.state c.args.disk.now) (g.D.Disk.state c.args.disk.now) (record { tree = refl; clock = refl; outcomes = refl })

-- ---- it leads to none

pub returns-in_err-found-clause-left : goal.returns-in_err-found-clause-left
returns-in_err-found-clause-left g c =
    λ told. if_err c.from_residual.result (λ fault. inl c.in_err-found.ensures.tree)

pub returns-in_err-found-clause-cause : goal.returns-in_err-found-clause-cause
returns-in_err-found-clause-cause g c =
    told_on _ c.from_residual.result _ c.from_residual.ensures.1 c.in_err-found.ensures.cause

pub returns-in_err-found-clause-no_path : goal.returns-in_err-found-clause-no_path
returns-in_err-found-clause-no_path g c =
    λ none. absurd (cc (c.if-is_no_path.ensures.1 none))

pub returns-in_err-found-clause-crash : goal.returns-in_err-found-clause-crash
returns-in_err-found-clause-crash g c =
    λ told. since_same _ _ _ _ c.in_err-found.ensures.tree

-- ---- there is no memory for the new bytes

pub returns-in_err-rewritten-clause-left : goal.returns-in_err-rewritten-clause-left
returns-in_err-rewritten-clause-left g c =
    λ told. if_err c.from_residual-in_err-rewritten.result (λ fault. inl c.in_ok-found.ensures.tree)

pub returns-in_err-rewritten-clause-cause : goal.returns-in_err-rewritten-clause-cause
returns-in_err-rewritten-clause-cause g c =
    told_on _ c.from_residual-in_err-rewritten.result job.NoMemory c.from_residual-in_err-rewritten.ensures.1 tt

pub returns-in_err-rewritten-clause-no_path : goal.returns-in_err-rewritten-clause-no_path
returns-in_err-rewritten-clause-no_path g c =
    λ none. absurd (cc (c.if-is_no_path.ensures.1 none))

pub returns-in_err-rewritten-clause-crash : goal.returns-in_err-rewritten-clause-crash
returns-in_err-rewritten-clause-crash g c =
    λ told. since_same _ _ _ _ c.in_ok-found.ensures.tree

-- ---- the bytes stay the same

pub returns-in-Same-clause-rewritten : goal.returns-in-Same-clause-rewritten
returns-in-Same-clause-rewritten g c =
    λ told.
    let is_same = told_same (FileChange (g.R.Replaces.change c.args.replacer.now)) c.in_ok-found.found.bytes.items _ _ c.in-Same.count c.in-Same.is c.in_ok-rewritten.ensures.told in
    kept_file (g.R.Replaces.change c.args.replacer.now) (g.D.Disk.state c.args.disk.now) _ _ _ _ c.in_ok-found.ensures.tree (c.in_ok-found.ensures.found told) (record { changed = false; replaced = c.in-Same.count }) c.in-Same.count refl refl is_same

pub returns-in-Same-clause-no_path : goal.returns-in-Same-clause-no_path
returns-in-Same-clause-no_path g c =
    λ none. absurd (cc (c.if-is_no_path.ensures.1 none))

pub returns-in-Same-clause-crash : goal.returns-in-Same-clause-crash
returns-in-Same-clause-crash g c =
    λ told. since_same _ _ _ _ c.in_ok-found.ensures.tree

pub returns-in-Same-clause-durable : goal.returns-in-Same-clause-durable
returns-in-Same-clause-durable g c =
    λ told.
    let is_same = told_same (FileChange (g.R.Replaces.change c.args.replacer.now)) c.in_ok-found.found.bytes.items _ _ c.in-Same.count c.in-Same.is c.in_ok-rewritten.ensures.told in
    kept_durable (g.R.Replaces.change c.args.replacer.now) (g.D.Disk.state c.args.disk.now) _ _ _ _ c.in_ok-found.ensures.tree (c.in_ok-found.ensures.found told) (g.met.R.Replaces.one c.args.replacer.now) c.in-Same.count is_same

-- ---- they are exchanged

pub exchange-requires : goal.exchange-requires
exchange-requires g c =
    λ told.
    let f = found_as _ _ _ c.as_str.result.now _ c.as_str.ensures.same (c.in_ok-found.ensures.found told) in
    file_path (g.R.Replaces.change c.args.replacer.now) (g.D.Disk.state c.args.disk.now) _ _ _ _ c.in_ok-found.ensures.tree f

pub returns-in_err-exchange-in-Other-clause-left : goal.returns-in_err-exchange-in-Other-clause-left
returns-in_err-exchange-in-Other-clause-left g c =
    λ told.
    let f = found_as _ _ _ c.as_str.result.now _ c.as_str.ensures.same (c.in_ok-found.ensures.found told) in
    let made = told_other (FileChange (g.R.Replaces.change c.args.replacer.now)) c.in_ok-found.found.bytes.items c.deref.result.now _ c.in-Other.changed c.in-Other.is c.deref.ensures.value c.in_ok-rewritten.ensures.told in
    told_on _ c.from_residual-in_err-exchange-in-Other.result _ c.from_residual-in_err-exchange-in-Other.ensures.1
    (left_file (g.R.Replaces.change c.args.replacer.now) (g.D.Disk.state c.args.disk.now) _ _ _ _ c.in_ok-found.ensures.tree f (g.D.Disk.state c.exchange.new.disk) c.deref.result.now c.in-Other.changed.count made.0 _ told c.in_ok-found.ensures.never_falls (c.in_err-exchange-in-Other.ensures.refused told)
    c.in_err-exchange-in-Other.field-0.0 c.in_err-exchange-in-Other.ensures.cause c.in_err-exchange-in-Other.ensures.move_cause c.in_err-exchange-in-Other.ensures.memory (c.in_err-exchange-in-Other.ensures.old told) (c.in_err-exchange-in-Other.ensures.cleared told) (c.in_err-exchange-in-Other.ensures.not_written told))

pub returns-in_err-exchange-in-Other-clause-cause : goal.returns-in_err-exchange-in-Other-clause-cause
returns-in_err-exchange-in-Other-clause-cause g c =
    told_on _ c.from_residual-in_err-exchange-in-Other.result _ c.from_residual-in_err-exchange-in-Other.ensures.1
    (exchange_cause _ (g.D.Disk.state c.args.disk.now) _ _ _ c.as_str.result.now c.in_ok-found.found.bytes.items c.in_ok-found.ensures.never_falls c.in_err-exchange-in-Other.field-0.0 c.in_ok-found.ensures.tree
    (λ told. found_as _ _ _ c.as_str.result.now _ c.as_str.ensures.same (c.in_ok-found.ensures.found told)) c.in_err-exchange-in-Other.ensures.cause c.in_err-exchange-in-Other.ensures.move_cause c.in_err-exchange-in-Other.ensures.memory c.in_err-exchange-in-Other.ensures.none_free c.in_err-exchange-in-Other.ensures.none_free_untold)

pub returns-in_err-exchange-in-Other-clause-no_path : goal.returns-in_err-exchange-in-Other-clause-no_path
returns-in_err-exchange-in-Other-clause-no_path g c =
    λ none. absurd (cc (c.if-is_no_path.ensures.1 none))

pub returns-in_err-exchange-in-Other-clause-crash : goal.returns-in_err-exchange-in-Other-clause-crash
returns-in_err-exchange-in-Other-clause-crash g c =
    λ told.
    let f = found_as _ _ _ c.as_str.result.now _ c.as_str.ensures.same (c.in_ok-found.ensures.found told) in
    let made = told_other (FileChange (g.R.Replaces.change c.args.replacer.now)) c.in_ok-found.found.bytes.items c.deref.result.now _ c.in-Other.changed c.in-Other.is c.deref.ensures.value c.in_ok-rewritten.ensures.told in
    crash_file (g.R.Replaces.change c.args.replacer.now) (g.D.Disk.state c.args.disk.now) _ _ _ _ c.in_ok-found.ensures.tree f (g.D.Disk.state c.exchange.new.disk) c.deref.result.now c.in-Other.changed.count made.0 (c.in_err-exchange-in-Other.ensures.crash told)

pub returns-in_err-exchange-in-Other-clause-never_falls : goal.returns-in_err-exchange-in-Other-clause-never_falls
returns-in_err-exchange-in-Other-clause-never_falls g c =
    omega (arith, c.in_ok-found.ensures.never_falls, c.in_err-exchange-in-Other.ensures.cause.never_falls)

pub returns-clause-rewritten : goal.returns-clause-rewritten
returns-clause-rewritten g c =
    λ told.
    let f = found_as _ _ _ c.as_str.result.now _ c.as_str.ensures.same (c.in_ok-found.ensures.found told) in
    let made = told_other (FileChange (g.R.Replaces.change c.args.replacer.now)) c.in_ok-found.found.bytes.items c.deref.result.now _ c.in-Other.changed c.in-Other.is c.deref.ensures.value c.in_ok-rewritten.ensures.told in
    changed_file (g.R.Replaces.change c.args.replacer.now) (g.D.Disk.state c.args.disk.now) _ _ _ _ c.in_ok-found.ensures.tree f (g.D.Disk.state c.exchange.new.disk) c.deref.result.now c.in-Other.changed.count made.0 (record { changed = true; replaced = c.in-Other.changed.count }) refl refl made.1 (c.in_ok-exchange-in-Other.ensures.exchanged told)

pub returns-clause-no_path : goal.returns-clause-no_path
returns-clause-no_path g c =
    λ none. absurd (cc (c.if-is_no_path.ensures.1 none))

pub returns-clause-crash : goal.returns-clause-crash
returns-clause-crash g c =
    λ told.
    let f = found_as _ _ _ c.as_str.result.now _ c.as_str.ensures.same (c.in_ok-found.ensures.found told) in
    let made = told_other (FileChange (g.R.Replaces.change c.args.replacer.now)) c.in_ok-found.found.bytes.items c.deref.result.now _ c.in-Other.changed c.in-Other.is c.deref.ensures.value c.in_ok-rewritten.ensures.told in
    crash_file (g.R.Replaces.change c.args.replacer.now) (g.D.Disk.state c.args.disk.now) _ _ _ _ c.in_ok-found.ensures.tree f (g.D.Disk.state c.exchange.new.disk) c.deref.result.now c.in-Other.changed.count made.0 (c.in_ok-exchange-in-Other.ensures.crash told)

pub returns-clause-durable : goal.returns-clause-durable
returns-clause-durable g c =
    λ told.
    let f = found_as _ _ _ c.as_str.result.now _ c.as_str.ensures.same (c.in_ok-found.ensures.found told) in
    let made = told_other (FileChange (g.R.Replaces.change c.args.replacer.now)) c.in_ok-found.found.bytes.items c.deref.result.now _ c.in-Other.changed c.in-Other.is c.deref.ensures.value c.in_ok-rewritten.ensures.told in
    durable_file (g.R.Replaces.change c.args.replacer.now) (g.D.Disk.state c.args.disk.now) _ _ _ _ c.in_ok-found.ensures.tree f (g.D.Disk.state c.exchange.new.disk) c.deref.result.now c.in-Other.changed.count made.0 (g.met.R.Replaces.one c.args.replacer.now) made.1 (c.in_ok-exchange-in-Other.ensures.durable told)

pub returns-clause-never_falls : goal.returns-clause-never_falls
returns-clause-never_falls g c =
    omega (arith, c.in_ok-found.ensures.never_falls, c.in_ok-exchange-in-Other.ensures.cause.never_falls)
