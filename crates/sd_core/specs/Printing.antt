-- How a command ends that prints what it answers, and what is printed of what goes wrong.
use Rattle.std.specs.Prelude.{◌≡◌, ℕ, IsTrue, List, ◌++◌, Result, Ok, Err, codes, ⊤}
use Rattle.sd_io.specs.Streams.{SinkState}
use Rattle.sd_io.specs.declared.fault.Failed.{Failed}
use Rattle.sd_course.specs.Course.{Course, SinkFailed, AppendsPrefix}
use Rattle.error_line.specs.ErrorLine.{PrintsText}
use Rattle.sd_words.specs.Command.{is_taken}
use Rattle.sd_core.specs.declared.error.Error.{Error}
use Rattle.sd_core.specs.declared.ended.Why.{Why}
use Rattle.sd_core.specs.declared.ended.Why.TheVariants as why

-- A sink that tells its bytes grew by exactly the text; or the printing failed, with a counted fault, after a prefix of it.
abbrev pub Prints : List ℕ → Course SinkState → Why → Type 0
Prints text out why.Done = IsTrue out.tells → out.new.held ≡ out.old.held ++ text
Prints text out why.Print = SinkFailed out × (IsTrue out.tells → AppendsPrefix out.old.held text out.new.held)
Prints text out _ = ⊥

-- What was answered is printed as this text; a refusal is told, and nothing is printed. That the output is the very value that was handed in is given as a fact.
abbrev pub EndsBy : {A : Type 0} → (A → List ℕ) → Result A Error → Type 0 → Course SinkState → Why → Type 0
EndsBy text (Ok answer) same_out out ended = Prints (text answer) out ended
EndsBy text (Err failed) same_out out ended = (ended ≡ why.Fault failed) × same_out

-- ---- what goes wrong

-- The line of this text is printed; or a fault was counted, and passed over, after a prefix of it.
abbrev pub TellsText : List ℕ → Course SinkState → Type 0
TellsText text err = (result : Result (Unit {0}) Failed) × PrintsText text result err

-- The text of an end: it is fixed for a report that isn't written, and for words that the command takes but that ask for nothing.
abbrev pub IsErrorText : List (List ℕ) → Why → List ℕ → Type 0
IsErrorText words why.Usage text = IsTrue (is_taken words) → text ≡ codes "not a valid command line"
IsErrorText words why.Print text = text ≡ codes "the report could not be written"
IsErrorText words _ text = ⊤

-- what is printed of an end
abbrev pub TellsWhy : List (List ℕ) → Why → Course SinkState → Type 0
TellsWhy words ended err = (text : List ℕ) × IsErrorText words ended text × TellsText text err
