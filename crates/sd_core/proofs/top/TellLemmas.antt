-- What is printed of an end.
use Rattle.std.proofs.Common.{◌≡◌, ◌≢◌, ◌∙◌, ℕ, List, ap, codes, subst, sym}
use Rattle.std.specs.Prelude.{Result}
use Rattle.sd_io.specs.Streams.{SinkState}
use Rattle.sd_io.specs.declared.fault.Failed.{Failed}
use Rattle.sd_course.specs.Course.{Course}
use Rattle.error_line.specs.ErrorLine.{PrintsText}
use Rattle.sd_words.specs.OrderRead.{Refuses}
use Rattle.sd_words.specs.Refusal.{refusal_text}
use Rattle.sd_words.specs.declared.fault.OptionsFault.{OptionsFault}
use Rattle.sd_words.specs.declared.fault.OptionsFault.TheVariants as words_fault
use Rattle.sd_core.specs.Printing.{IsErrorText, TellsText, TellsWhy}
use Rattle.sd_core.specs.Run.{of_words}
use Rattle.sd_core.specs.declared.ended.Why.{Why}
use Rattle.sd_core.specs.declared.ended.Why.TheVariants as why

-- a text by other words for it
pub text_told : (err : Course SinkState) (text other : List ℕ) (result : Result (Unit {0}) Failed) → text ≡ other → PrintsText text result err → TellsText other err
text_told err text other result is printed = (result, subst (λ (t : List ℕ). PrintsText t result err) is printed)

module _ (words : List (List ℕ)) (err : Course SinkState) where
  -- the text of an end is printed
  pub tells : (ended given : Why) (text : List ℕ) (result : Result (Unit {0}) Failed) → ended ≡ given → IsErrorText words given text → PrintsText text result err → TellsWhy words ended err
  tells ended given text result is fixed printed = (text, subst (λ (w : Why). IsErrorText words w text) (sym is) fixed, (result, printed))

  -- the text of refused words is fixed where the command takes them
  refusal_told : (fault : OptionsFault) → Refuses words fault → TellsText (refusal_text fault) err → TellsWhy words (of_words fault) err
  refusal_told (words_fault.Usage text) refuses told =
      (refusal_text (words_fault.Usage text), (λ taken. ap (λ t. refusal_text (words_fault.Usage t)) (refuses.1 taken)), told)
  refusal_told words_fault.NoMemory refuses told = (codes "out of memory", tt, told)

  pub words_told : (fault : OptionsFault) → Refuses words fault → (ended : Why) → ended ≡ of_words fault → TellsText (refusal_text fault) err → TellsWhy words ended err
  words_told fault refuses ended is told = subst (λ (w : Why). TellsWhy words w err) (sym is) (refusal_told fault refuses told)

  -- the end is what a command came to
  pub end_told : (came ended : Why) → ended ≡ came → (came ≢ why.Done → (given : List (List ℕ)) → TellsWhy given came err) → ended ≢ why.Done → TellsWhy words ended err
  end_told came ended is told other = subst (λ (w : Why). TellsWhy words w err) (sym is) (told (λ done. other (is ∙ done)) words)
