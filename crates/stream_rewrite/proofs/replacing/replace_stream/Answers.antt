use Rattle.std.proofs.Common.{refl, inl, inr, arith}
use Rattle.sd_course.specs.Course.{course}
use Rattle.stream_rewrite.specs.declared.fault.StreamFault.TheVariants as stream
use Rattle.stream_rewrite.proofs.replacing.StreamLemmas.{told_on, told_match, becomes_as, unread, unread_too_long, unread_clear, done, failed_write, not_longer}
use Rattle.stream_rewrite.proofs.replacing.replace_stream.Goals as goal

-- ---- the source wasn't read to its end

pub returns-in_err-content-clause-fails : goal.returns-in_err-content-clause-fails
returns-in_err-content-clause-fails g c =
    told_on _ c.from_residual.result _ c.from_residual.ensures.1 (unread (g.R.Replaces.change c.args.replacer.now) c.args.cap (course g.S.Source.tells (g.S.Source.state c.args.input.now) (g.S.Source.state c.read_all.new.input)) (course g.O.Sink.tells (g.O.Sink.state c.args.out.now) (g.O.Sink.state c.args.out.now)) c.in_err-content.field-0.0 refl c.in_err-content.ensures.fails)

pub returns-in_err-content-clause-too_long : goal.returns-in_err-content-clause-too_long
returns-in_err-content-clause-too_long g c =
    λ told long. told_match _ _ c.from_residual.result _ c.from_residual.ensures.1 (unread_too_long c.args.cap (course g.S.Source.tells (g.S.Source.state c.args.input.now) (g.S.Source.state c.read_all.new.input)) c.in_err-content.field-0.0 c.in_err-content.ensures.fails)

pub returns-in_err-content-clause-complete : goal.returns-in_err-content-clause-complete
returns-in_err-content-clause-complete g c =
    λ clear. told_on _ c.from_residual.result _ c.from_residual.ensures.1 (unread_clear c.args.cap (course g.S.Source.tells (g.S.Source.state c.args.input.now) (g.S.Source.state c.read_all.new.input)) (course g.O.Sink.tells (g.O.Sink.state c.args.out.now) (g.O.Sink.state c.args.out.now)) c.in_err-content.field-0.0 clear c.in_err-content.ensures.fails)

-- ---- there is no memory for the new bytes

pub returns-in_err-new_bytes-clause-fails : goal.returns-in_err-new_bytes-clause-fails
returns-in_err-new_bytes-clause-fails g c =
    told_on _ c.from_residual-in_err-new_bytes.result stream.NoMemory c.from_residual-in_err-new_bytes.ensures.1 refl

pub returns-in_err-new_bytes-clause-too_long : goal.returns-in_err-new_bytes-clause-too_long
returns-in_err-new_bytes-clause-too_long g c =
    λ told long. told_match _ _ c.from_residual-in_err-new_bytes.result stream.NoMemory c.from_residual-in_err-new_bytes.ensures.1 (inr (inl refl))

pub returns-in_err-new_bytes-clause-complete : goal.returns-in_err-new_bytes-clause-complete
returns-in_err-new_bytes-clause-complete g c =
    λ clear. told_on _ c.from_residual-in_err-new_bytes.result stream.NoMemory c.from_residual-in_err-new_bytes.ensures.1 refl

-- ---- they weren't written

pub returns-in_err-write_all-clause-fails : goal.returns-in_err-write_all-clause-fails
returns-in_err-write_all-clause-fails g c =
    told_on _ c.from_residual-in_err-write_all.result stream.Failed c.from_residual-in_err-write_all.ensures.1
    (failed_write (g.R.Replaces.change c.args.replacer.now) (g.S.Source.state c.args.input.now) (g.S.Source.state c.read_all.new.input) c.in_ok-content.content.items c.deref.result.now (becomes_as (g.R.Replaces.change c.args.replacer.now) _ _ c.deref.result.now c.deref.ensures.value c.in_ok-new_bytes.ensures) c.args.cap _ _ (g.O.Sink.state c.args.out.now) (g.O.Sink.state c.write_all.new.out) c.in_ok-content.ensures.read c.in_err-write_all.ensures.refused (c.in_err-write_all.ensures.cause refl))

pub returns-in_err-write_all-clause-too_long : goal.returns-in_err-write_all-clause-too_long
returns-in_err-write_all-clause-too_long g c =
    λ told long. absurd (not_longer (g.S.Source.state c.args.input.now) (g.S.Source.state c.read_all.new.input) c.in_ok-content.content.items c.args.cap (c.in_ok-content.ensures.read told) c.in_ok-content.ensures.within long)

pub returns-in_err-write_all-clause-complete : goal.returns-in_err-write_all-clause-complete
returns-in_err-write_all-clause-complete g c =
    λ clear. absurd (clear.no_sink_fault (c.in_err-write_all.ensures.cause refl))

-- ---- done

pub returns-clause-done : goal.returns-clause-done
returns-clause-done g c =
    done (g.R.Replaces.change c.args.replacer.now) (g.S.Source.state c.args.input.now) (g.S.Source.state c.read_all.new.input) c.in_ok-content.content.items c.deref.result.now (becomes_as (g.R.Replaces.change c.args.replacer.now) _ _ c.deref.result.now c.deref.ensures.value c.in_ok-new_bytes.ensures) _ _ (g.O.Sink.state c.args.out.now) (g.O.Sink.state c.write_all.new.out) c.in_ok-content.ensures.read c.in_ok-write_all.ensures.written

pub returns-clause-too_long : goal.returns-clause-too_long
returns-clause-too_long g c =
    λ told long. absurd (not_longer (g.S.Source.state c.args.input.now) (g.S.Source.state c.read_all.new.input) c.in_ok-content.content.items c.args.cap (c.in_ok-content.ensures.read told) c.in_ok-content.ensures.within long)
