-- How a command ends that prints what it answers, and what is printed of what goes wrong.
use Rattle.std.specs.Prelude.{◌≡◌, ℕ, IsTrue, List, ◌++◌, codes, decimal, Result, Ok, Err, ⊤}
use Rattle.sd_io.specs.Streams.{SinkState}
use Rattle.sd_course.specs.Course.{Course, SinkFailed, AppendsPrefix}
use Rattle.sd_core.specs.Printing.{TellsText}
use Rattle.sd_journal.specs.declared.error.JournalError.{JournalError}
use Rattle.sd_journal.specs.declared.ended.JournalWhy.{JournalWhy}
use Rattle.sd_journal.specs.declared.ended.JournalWhy.TheVariants as why

-- `recovered N` and a newline, N in decimal digits
abbrev pub recovered_text : ℕ → List ℕ
recovered_text files = codes "recovered " ++ decimal files ++ codes "\n"

-- A sink that tells its bytes grew by exactly the text; or the printing failed, with a counted fault, after a prefix of it.
abbrev pub Prints : List ℕ → Course SinkState → JournalWhy → Type 0
Prints text out why.Done = IsTrue out.tells → out.new.held ≡ out.old.held ++ text
Prints text out why.Print = SinkFailed out × (IsTrue out.tells → AppendsPrefix out.old.held text out.new.held)
Prints text out _ = ⊥

-- What was answered is printed as this text; a refusal is told, and nothing is printed. That the output is the very value that was handed in is given as a fact.
abbrev pub EndsBy : {A : Type 0} → (A → List ℕ) → Result A JournalError → Type 0 → Course SinkState → JournalWhy → Type 0
EndsBy text (Ok answer) same_out out ended = Prints (text answer) out ended
EndsBy text (Err failed) same_out out ended = (ended ≡ why.Journal failed) × same_out

-- ---- what goes wrong

-- the text of an end, where it is a fixed one
abbrev pub IsErrorText : JournalWhy → List ℕ → Type 0
IsErrorText why.Print text = text ≡ codes "the report could not be written"
IsErrorText _ text = ⊤

-- what is printed of an end
abbrev pub TellsWhy : JournalWhy → Course SinkState → Type 0
TellsWhy ended err = (text : List ℕ) × IsErrorText ended text × TellsText text err
