use Rattle.std.proofs.Common.{sym, subst}
use Rattle.sd_io.specs.Files.{Reads}
use Rattle.journal.proofs.ReadingLemmas.{read_refused, text_refused, refused_as}
use Rattle.journal.proofs.reading.read_standing.Goals as goal

pub returns-in_err-bytes-clause-fails : goal.returns-in_err-bytes-clause-fails
returns-in_err-bytes-clause-fails g c =
    refused_as _ c.from_residual.result _ c.from_residual.ensures.1
    (read_refused g.D.Disk.tells (g.D.Disk.state c.args.disk.now) (g.D.Disk.state c.read_file.new.self) c.args.path.now c.args.kind c.in_err-bytes.field-0.0
    (c.is_file.ensures.0 c.if-not-is_file.false) c.in_err-bytes.ensures.absent c.in_err-bytes.ensures.not_taken c.in_err-bytes.ensures.cause)

pub returns-in_err-read_journal-clause-fails : goal.returns-in_err-read_journal-clause-fails
returns-in_err-read_journal-clause-fails g c =
    let s = g.D.Disk.state c.args.disk.now in
    refused_as _ c.from_residual-in_err-read_journal.result _ c.from_residual-in_err-read_journal.ensures.1
    (text_refused g.D.Disk.tells s (g.D.Disk.state c.read_file.new.self) c.args.path.now c.args.kind c.deref.result.now c.in_err-read_journal.field-0.0
    (λ told. subst (Reads s c.args.path.now) (sym c.deref.ensures.value) (c.in_ok-bytes.ensures.bytes told)) c.in_err-read_journal.ensures.refused)
