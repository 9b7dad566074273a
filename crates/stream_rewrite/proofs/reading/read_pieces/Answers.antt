use Rattle.std.proofs.Common.{◌<◌, ◌≤◌, length, refl, arith}
use Rattle.sd_course.specs.Course.{course}
use Rattle.stream_rewrite.specs.Reading.{ReadFails}
use Rattle.stream_rewrite.specs.declared.fault.StreamFault.TheVariants as stream
use Rattle.stream_rewrite.proofs.reading.ReadingLemmas.{over_cap, longer, all_read, taken_new, gives_new, risen_since}
use Rattle.stream_rewrite.proofs.replacing.StreamLemmas.{told_on}
use Rattle.stream_rewrite.proofs.reading.read_pieces.Goals as goal

pub returns-in_err-given-clause-fails : goal.returns-in_err-given-clause-fails
returns-in_err-given-clause-fails g c =
    told_on (ReadFails c.args.cap (course g.S.Source.tells (g.S.Source.state c.args.input.now) (g.S.Source.state c.read.new.self))) c.from_residual.result stream.Failed c.from_residual.ensures.1
    (risen_since _ _ _ c.pieces.invariant.never_falls (c.in_err-given.ensures.cause refl))

pub returns-then-given-eq0-clause-read : goal.returns-then-given-eq0-clause-read
returns-then-given-eq0-clause-read g c =
    λ told. all_read (g.S.Source.state c.args.input.now) (g.S.Source.state c.pieces.input) (g.S.Source.state c.read.new.self) c.pieces.content.items c.pieces.piece c.read.new.buf c.in_ok-given.given (c.pieces.invariant.given told) (c.in_ok-given.ensures.given told) c.if-given-eq0.true
    (c.in_ok-given.ensures.end told c.if-given-eq0.true c.pieces.invariant.room)

pub returns-then-len-cap-clause-fails : goal.returns-then-len-cap-clause-fails
returns-then-len-cap-clause-fails g c =
    let within : c.in_ok-given.given ≤ length c.read.new.buf = omega (arith, c.in_ok-given.ensures.within, c.read.auto.buf) in
    let more : c.args.cap < length c.extend_from_slice.new.self.items = omega (arith, c.if-len-cap.true, c.len.ensures) in (
      over_cap g.S.Source.tells (g.S.Source.state c.args.input.now) (g.S.Source.state c.read.new.self) c.args.cap (length c.extend_from_slice.new.self.items) (taken_new (g.S.Source.state c.args.input.now) (g.S.Source.state c.pieces.input) (g.S.Source.state c.read.new.self) c.pieces.content.items c.read.new.buf c.extend_from_slice.new.self.items c.in_ok-given.given within c.in_ok-extend_from_slice.ensures.items c.pieces.invariant.taken c.in_ok-given.ensures.taken) more,
      λ told. longer (g.S.Source.state c.args.input.now) (g.S.Source.state c.read.new.self) c.extend_from_slice.new.self.items c.args.cap (gives_new (g.S.Source.state c.args.input.now) (g.S.Source.state c.pieces.input) (g.S.Source.state c.read.new.self) c.pieces.content.items c.pieces.piece c.read.new.buf c.extend_from_slice.new.self.items c.in_ok-given.given c.in_ok-extend_from_slice.ensures.items (c.pieces.invariant.given told) (c.in_ok-given.ensures.given told)) more,
    )

pub pieces-preserved : goal.pieces-preserved
pieces-preserved g c =
    let within : c.in_ok-given.given ≤ length c.read.new.buf = omega (arith, c.in_ok-given.ensures.within, c.read.auto.buf) in
    record {
      room = omega (arith, c.pieces.invariant.room, c.read.auto.buf);
      within = omega (arith, c.if-len-cap.false, c.len.ensures);
      taken = (taken_new (g.S.Source.state c.args.input.now) (g.S.Source.state c.pieces.input) (g.S.Source.state c.read.new.self) c.pieces.content.items c.read.new.buf c.extend_from_slice.new.self.items c.in_ok-given.given within c.in_ok-extend_from_slice.ensures.items c.pieces.invariant.taken c.in_ok-given.ensures.taken);
      given = λ told. (gives_new (g.S.Source.state c.args.input.now) (g.S.Source.state c.pieces.input) (g.S.Source.state c.read.new.self) c.pieces.content.items c.pieces.piece c.read.new.buf c.extend_from_slice.new.self.items c.in_ok-given.given c.in_ok-extend_from_slice.ensures.items (c.pieces.invariant.given told) (c.in_ok-given.ensures.given told));
      never_falls = omega (arith, c.pieces.invariant.never_falls, c.in_ok-given.ensures.never_falls);
    }
