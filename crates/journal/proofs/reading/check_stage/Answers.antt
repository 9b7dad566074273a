use Rattle.std.proofs.Common.{refl, ◌∙◌, sym, ap, arith}
use Rattle.sha2.specs.Sha256.{sha256}
use Rattle.journal.proofs.FindingLemmas.{same_name, other_name}
use Rattle.journal.proofs.ReadingLemmas.{stage_read, stage_stands, stage_unread, refused_as}
use Rattle.journal.proofs.reading.check_stage.Goals as goal

pub returns-in_err-is_file_there-clause-fails : goal.returns-in_err-is_file_there-clause-fails
returns-in_err-is_file_there-clause-fails g c =
    let s = g.D.Disk.state c.args.disk.now in
    refused_as _ c.from_residual-in_err-is_file_there.result _ c.from_residual-in_err-is_file_there.ensures.1
    (stage_unread g.D.Disk.tells s s (g.D.Disk.state c.is_file_there.new.disk) c.args.line.now c.in_err-is_file_there.field-0.0 (omega arith)
    (λ told absent. c.in_err-is_file_there.ensures.not_absent absent) c.in_err-is_file_there.ensures.not_taken c.in_err-is_file_there.ensures.cause)

pub returns-in_err-bytes-clause-fails : goal.returns-in_err-bytes-clause-fails
returns-in_err-bytes-clause-fails g c =
    let s = g.D.Disk.state c.args.disk.now in
    let t = g.D.Disk.state c.is_file_there.new.disk in
    refused_as _ c.from_residual-in_err-bytes.result _ c.from_residual-in_err-bytes.ensures.1
    (stage_unread g.D.Disk.tells s t (g.D.Disk.state c.read_file.new.self) c.args.line.now c.in_err-bytes.field-0.0 c.in_ok-is_file_there.ensures.cause.never_falls
    (λ told absent.
    let there = (c.in_ok-is_file_there.ensures.there told).0 c.if-not-branch.false in
    stage_stands s t _ c.as_str-2.result.now c.as_str-3.result.now (c.as_str-2.ensures.same ∙ c.in_ok-stage.ensures) (c.as_str-3.ensures.same ∙ c.in_ok-stage.ensures)
    (c.in_ok-is_file_there.ensures.tree told) there (c.in_err-bytes.ensures.absent told absent))
    c.in_err-bytes.ensures.not_taken c.in_err-bytes.ensures.cause)

pub returns-then-eq-clause-there : goal.returns-then-eq-clause-there
returns-then-eq-clause-there g c =
    λ told.
    let s = g.D.Disk.state c.args.disk.now in
    let t = g.D.Disk.state c.is_file_there.new.disk in
    let there = (c.in_ok-is_file_there.ensures.there told).0 c.if-not-branch.false in
    let (mode, named) = stage_read s t _ c.as_str-2.result.now c.as_str-3.result.now c.in_ok-bytes.bytes.items (c.as_str-2.ensures.same ∙ c.in_ok-stage.ensures) (c.as_str-3.ensures.same ∙ c.in_ok-stage.ensures)
    (c.in_ok-is_file_there.ensures.tree told) there (c.in_ok-bytes.ensures.bytes told) in
    record { bytes = c.in_ok-bytes.bytes.items; mode = mode; holds = named; digest = sym (ap sha256 c.deref.ensures.value) ∙ sym c.digest-found.ensures ∙ sym (same_name _ _ _ refl c.if-eq.ensures) }

pub returns-clause-fails : goal.returns-clause-fails
returns-clause-fails g c = (
  c.in_ok-path.ensures ∙ c.as_str.ensures.same,
  refl,
  other_name _ _ _ refl c.if-eq.ensures,
  (
    (λ told.
        let s = g.D.Disk.state c.args.disk.now in
        let t = g.D.Disk.state c.is_file_there.new.disk in
        let there = (c.in_ok-is_file_there.ensures.there told).0 c.if-not-branch.false in
        let (mode, named) = stage_read s t _ c.as_str-2.result.now c.as_str-3.result.now c.in_ok-bytes.bytes.items (c.as_str-2.ensures.same ∙ c.in_ok-stage.ensures) (c.as_str-3.ensures.same ∙ c.in_ok-stage.ensures)
        (c.in_ok-is_file_there.ensures.tree told) there (c.in_ok-bytes.ensures.bytes told) in
        record { bytes = c.in_ok-bytes.bytes.items; mode = mode; holds = named; found_is = c.digest-found.ensures ∙ ap sha256 c.deref.ensures.value }),
    (λ untold. tt),
  ),
)
