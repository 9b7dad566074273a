-- How the answers on streams and named files become those of their commands.
use Rattle.std.proofs.Common.{◌≡◌, ◌∙◌, ◌+◌, ℕ, zero, suc, List, [], ◌∷◌, ◌++◌, take, Some, ap, sym, inl, inr, arith}
use Rattle.std.specs.Prelude.{slice_get}
use Rattle.std.proofs.lemmas.Option.{same_Some}
use Rattle.sd_io.specs.Tree.{Tree}
use Rattle.sd_io.specs.Disk.{DiskState}
use Rattle.sd_io.specs.Streams.{SourceState, SinkState}
use Rattle.sd_change.specs.Change.{Change}
use Rattle.sd_course.specs.Course.{Course}
use Rattle.stream_rewrite.specs.Stream.{StreamFails, IsTooLongFor}
use Rattle.stream_rewrite.specs.declared.fault.StreamFault.{StreamFault}
use Rattle.stream_rewrite.specs.declared.fault.StreamFault.TheVariants as stream
use Rattle.many_files.specs.Ends.{IsForMemory as FilesIsForMemory}
use Rattle.many_files.specs.declared.fault.FilesFault.{FilesFault}
use Rattle.many_files.specs.declared.fault.FilesFault.TheVariants as files
use Rattle.many_files.specs.InTurn.{FilesFail as InTurnFail}
use Rattle.named_files.specs.Preview.{PreviewFails, AnswersNoPath}
use Rattle.named_files.specs.declared.fault.PreviewFault.{PreviewFault}
use Rattle.named_files.specs.declared.fault.PreviewFault.TheVariants as preview
use Rattle.sd_core.specs.Errors.{of_stream, of_files, of_preview}
use Rattle.sd_core.specs.InputCommand.{InputFails, IsTooLong}
use Rattle.sd_core.specs.NamedCommands.{FilesFail, ShowingFails, IsToldNoPath}
use Rattle.sd_core.specs.Sweep.{IsForMemory}
use Rattle.sd_core.specs.declared.error.Error.TheVariants as error
use Rattle.sd_core.specs.declared.ended.Why.TheVariants as why

pub input_fails : (change : Change) (cap : ℕ) (input : Course SourceState) (out : Course SinkState) (fault : StreamFault)
    → StreamFails change cap input out fault → InputFails change cap input out (of_stream fault)
input_fails change cap input out stream.Failed h = h
input_fails change cap input out stream.InputTooLong h = h
input_fails change cap input out stream.NoMemory h = h

pub too_long : (input : Course SourceState) (fault : StreamFault) → IsTooLongFor input fault → IsTooLong input (why.Fault (of_stream fault))
too_long input fault (inl e) = inl (ap (λ f. why.Fault (of_stream f)) e)
too_long input fault (inr (inl e)) = inr (inl (ap (λ f. why.Fault (of_stream f)) e))
too_long input fault (inr (inr (e, failed))) = inr (inr (ap (λ f. why.Fault (of_stream f)) e, failed))

pub for_memory : (fault : StreamFault) → fault ≡ stream.NoMemory → why.Fault (of_stream fault) ≡ why.Fault (of_stream stream.NoMemory)
for_memory fault e = ap (λ f. why.Fault (of_stream f)) e

pub files_fail : (change : Change) (paths : List (List ℕ)) (d : Course DiskState) (fault : FilesFault)
    → InTurnFail change paths d fault → FilesFail change paths d (of_files fault)
files_fail change paths d (files.Failed jobs) h = h
files_fail change paths d files.NoMemory h = h

pub showing_fails : (change : Change) (paths : List (List ℕ)) (d : Course DiskState) (out : Course SinkState) (fault : PreviewFault)
    → PreviewFails change paths d out fault → ShowingFails change paths d out (of_preview fault)
showing_fails change paths d out (preview.File fault) h = h
showing_fails change paths d out (preview.InvalidPath path) h = h
showing_fails change paths d out preview.NoMemory h = inr h

take_one : (words : List (List ℕ)) (i : ℕ) (word : List ℕ) → slice_get words i ≡ Some word → take (suc i) words ≡ take i words ++ word ∷ []
take_one [] i word at = cc
take_one (x ∷ xs) zero word at = ap (λ y. y ∷ []) (same_Some _ _ at)
take_one (x ∷ xs) (suc i) word at = ap (λ ys. x ∷ ys) (take_one xs i word at)

-- one more word is copied
pub copied_next : (words : List (List ℕ)) (i : ℕ) (old new : List (List ℕ)) (word : List ℕ) → slice_get words i ≡ Some word
    → old ≡ take i words → new ≡ old ++ word ∷ [] → new ≡ take (i + 1) words
copied_next words i old new word at is pushed =
    let one : i + 1 ≡ suc i = omega arith in
    pushed ∙ ap (λ ts. ts ++ word ∷ []) is ∙ sym (take_one words i word at) ∙ ap (λ k. take k words) (sym one)

-- ---- for want of memory alone

pub files_for_memory : (tree : Tree) (fault : FilesFault) → FilesIsForMemory tree fault → IsForMemory tree (of_files fault)
files_for_memory tree (files.Failed jobs) h = h
files_for_memory tree files.NoMemory h = h

pub preview_for_memory : (fault : PreviewFault) → fault ≡ preview.NoMemory → why.Fault (of_preview fault) ≡ why.Fault error.NoMemory
preview_for_memory fault e = ap (λ f. why.Fault (of_preview f)) e

pub told_no_path : (d : Course DiskState) (out : Course SinkState) (path : List ℕ) (fault : PreviewFault) → AnswersNoPath d out path fault
    → IsToldNoPath d out path (why.Fault (of_preview fault))
told_no_path d out path fault (inl e) = inl (ap (λ f. why.Fault (of_preview f)) e)
told_no_path d out path fault (inr (inl e)) = inr (inl (ap (λ f. why.Fault (of_preview f)) e))
told_no_path d out path fault (inr (inr (e, failed))) = inr (inr (ap (λ f. why.Fault (of_preview f)) e, failed))
