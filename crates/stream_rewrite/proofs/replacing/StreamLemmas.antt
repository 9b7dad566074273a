-- How the replacing of a stream ends.
use Rattle.std.proofs.Common.{◌≡◌, ◌<◌, ◌≤◌, ℕ, Bool, true, false, List, ◌++◌, length, refl, sym, ap, subst, inl, inr, arith}
use Rattle.std.specs.Prelude.{IsTrue, Result, Ok, Err, IsErrAnd, IfErr, MatchResult}
use Rattle.sd_io.specs.Streams.{SourceState, SinkState}
use Rattle.sd_change.specs.Change.{Change}
use Rattle.sd_course.specs.Course.{Course, course, AppendsPrefix, SinkFailed}
use Rattle.stream_rewrite.specs.Reading.{ReadsAll, ReadFails}
use Rattle.stream_rewrite.specs.Stream.{Becomes, WritesNew, WritesPrefix, DoesStream, WritesNothing, StreamFails, IsTooLongFor, IsStreamClear}
use Rattle.stream_rewrite.specs.declared.fault.StreamFault.{StreamFault}
use Rattle.stream_rewrite.specs.declared.fault.StreamFault.TheVariants as stream

-- what holds of the fault that is told on
pub told_on : {T E : Type 0} (P : E → Type 0) (r : Result T E) (e : E) → IsErrAnd r (λ x. x ≡ e) → P e → IfErr r P
told_on P (Ok x) e is p = tt
told_on P (Err x) e is p = subst P (sym is) p

pub told_match : {T E : Type 0} (Q : T → Type 0) (P : E → Type 0) (r : Result T E) (e : E) → IsErrAnd r (λ x. x ≡ e) → P e → MatchResult r Q P
told_match Q P (Ok x) e is p = absurd is
told_match Q P (Err x) e is p = subst P (sym is) p

-- what the bytes become, by other words for it
pub becomes_as : (change : Change) (content new bytes : List ℕ) → bytes ≡ new → Becomes change content new → Becomes change content bytes
becomes_as change content new bytes same becomes = subst (Becomes change content) (sym same) becomes

-- ---- the source wasn't read to its end

pub unread : (change : Change) (cap : ℕ) (input : Course SourceState) (out : Course SinkState) (fault : StreamFault) → WritesNothing out → ReadFails cap input fault → StreamFails change cap input out fault
unread change cap input out stream.Failed nothing failed = inl (nothing, failed)
unread change cap input out stream.InputTooLong nothing failed = (nothing, failed.0, failed.1)
unread change cap input out stream.NoMemory nothing failed = nothing

pub unread_too_long : (cap : ℕ) (input : Course SourceState) (fault : StreamFault) → ReadFails cap input fault → IsTooLongFor input fault
unread_too_long cap input stream.Failed failed = inr (inr (refl, failed))
unread_too_long cap input stream.InputTooLong failed = inl refl
unread_too_long cap input stream.NoMemory failed = inr (inl refl)

not_too_long : (cap : ℕ) (input : Course SourceState) (out : Course SinkState) → IsStreamClear cap input out → ReadFails cap input stream.InputTooLong → ⊥
not_too_long cap input out clear failed = by input.tells refl
  where
    by : (tells : Bool) → input.tells ≡ tells → ⊥
    by true told = let short = clear.short.0 told in let long = failed.1 told in omega arith
    by false untold = clear.short.1 untold failed.0

pub unread_clear : (cap : ℕ) (input : Course SourceState) (out : Course SinkState) (fault : StreamFault) → IsStreamClear cap input out → ReadFails cap input fault → fault ≡ stream.NoMemory
unread_clear cap input out stream.Failed clear failed = absurd (clear.no_source_fault failed)
unread_clear cap input out stream.InputTooLong clear failed = absurd (not_too_long cap input out clear failed)
unread_clear cap input out stream.NoMemory clear failed = refl

-- ---- it was

module _ (change : Change) (old new : SourceState) (content bytes : List ℕ) (becomes : Becomes change content bytes) where
  made : ReadsAll old content new → change old.left bytes becomes.0
  made all = subst (λ (l : List ℕ). change l bytes becomes.0) (sym all.all) becomes.1

  pub done : (input out : Bool) (before after : SinkState) → (IsTrue input → ReadsAll old content new) → (IsTrue out → after.held ≡ before.held ++ bytes)
      → DoesStream change (course input old new) (course out before after)
  done input out before after all written = record {
    ended = λ told. (all told).ended;
    writes = λ told. record { new_bytes = bytes; count = becomes.0; new_bytes_are = made (all told); written = written };
  }

  pub failed_write : (cap : ℕ) (input out : Bool) (before after : SinkState) → (IsTrue input → ReadsAll old content new) → (IsTrue out → AppendsPrefix before.held bytes after.held)
      → SinkFailed (course out before after) → StreamFails change cap (course input old new) (course out before after) stream.Failed
  failed_write cap input out before after all prefix failed =
      inr (failed, λ told. record { new_bytes = bytes; count = becomes.0; new_bytes_are = made (all told); written = prefix })

-- what was read is within the cap
pub not_longer : (old new : SourceState) (content : List ℕ) (cap : ℕ) → ReadsAll old content new → length content ≤ cap → cap < length old.left → ⊥
not_longer old new content cap all within long = let same = ap (λ (l : List ℕ). length l) all.all in omega arith
