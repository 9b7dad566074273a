-- What is printed of an end.
use Rattle.std.proofs.Common.{◌≡◌, ◌≢◌, ◌∙◌, ℕ, List, codes, subst, sym}
use Rattle.std.specs.Prelude.{Result}
use Rattle.sd_io.specs.Streams.{SinkState}
use Rattle.sd_io.specs.declared.fault.Failed.{Failed}
use Rattle.sd_course.specs.Course.{Course}
use Rattle.error_line.specs.ErrorLine.{PrintsText}
use Rattle.sd_words.specs.Refusal.{refusal_text}
use Rattle.sd_words.specs.declared.fault.OptionsFault.{OptionsFault}
use Rattle.sd_words.specs.declared.fault.OptionsFault.TheVariants as words_fault
use Rattle.sd_core.specs.Printing.{TellsText}
use Rattle.sd_journal.specs.Printing.{IsErrorText, TellsWhy}
use Rattle.sd_journal.specs.Run.{of_words}
use Rattle.sd_journal.specs.declared.ended.JournalWhy.{JournalWhy}
use Rattle.sd_journal.specs.declared.ended.JournalWhy.TheVariants as why

module _ (err : Course SinkState) where
  -- the text of an end is printed
  pub tells : (ended given : JournalWhy) (text : List ℕ) (result : Result (Unit {0}) Failed) → ended ≡ given → IsErrorText given text → PrintsText text result err → TellsWhy ended err
  tells ended given text result is fixed printed = (text, subst (λ (w : JournalWhy). IsErrorText w text) (sym is) fixed, (result, printed))

  -- a refusal of words has no fixed text
  pub words_told : (fault : OptionsFault) → (ended : JournalWhy) (text : List ℕ) (result : Result (Unit {0}) Failed) → ended ≡ of_words fault → PrintsText text result err → TellsWhy ended err
  words_told (words_fault.Usage shown) ended text result is printed = tells ended (of_words (words_fault.Usage shown)) text result is tt printed
  words_told words_fault.NoMemory ended text result is printed = tells ended (of_words words_fault.NoMemory) text result is tt printed

  -- the end is what a command came to
  pub end_told : (came ended : JournalWhy) → ended ≡ came → (came ≢ why.Done → TellsWhy came err) → ended ≢ why.Done → TellsWhy ended err
  end_told came ended is told other = subst (λ (w : JournalWhy). TellsWhy w err) (sym is) (told (λ done. other (is ∙ done)))
