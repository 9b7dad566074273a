-- How a run of the program ends.
use Rattle.std.specs.Prelude.{◌≡◌, ◌⊎◌, ℕ, List, [], ◌∷◌, codes, Some, Result}
use Rattle.sd_io.specs.Disk.{DiskState}
use Rattle.sd_io.specs.Streams.{SinkState}
use Rattle.sd_change.specs.Change.{Change}
use Rattle.sd_course.specs.Course.{Course}
use Rattle.many_files.specs.declared.report.Report.{Report}
use Rattle.sd_words.specs.Order.{IsTreeCommand, order_of}
use Rattle.sd_words.specs.declared.fault.OptionsFault.{OptionsFault}
use Rattle.sd_words.specs.declared.fault.OptionsFault.TheVariants as words_fault
use Rattle.sd_words.specs.declared.options.Options.{Options}
use Rattle.sd_replace.specs.Replacement.{Replacement, Changes}
use Rattle.sd_replace.specs.Making.{IsReplacerRefused}
use Rattle.sd_replace.specs.declared.error.ReplacerFault.{ReplacerFault}
use Rattle.sd_replace.specs.declared.error.ReplacerFault.TheVariants as replacer_fault
use Rattle.sd_core.specs.Asked.{IsReplacerOf, asked_of}
use Rattle.sd_core.specs.Report.{line_of}
use Rattle.sd_journal.specs.Printing.{EndsBy, recovered_text}
use Rattle.sd_journal.specs.Recover.{Recovers}
use Rattle.sd_journal.specs.Sweep.{SweepsJournalled}
use Rattle.sd_journal.specs.declared.error.JournalError.{JournalError}
use Rattle.sd_journal.specs.declared.error.JournalError.TheVariants as error
use Rattle.sd_journal.specs.declared.ended.JournalWhy.{JournalWhy}
use Rattle.sd_journal.specs.declared.ended.JournalWhy.TheVariants as why

-- ---- statuses

-- the status of a process
abbrev pub status_of : JournalWhy → ℕ
status_of why.Done = 0
status_of why.Usage = 2
status_of (why.Replacer fault) = 1
status_of (why.Journal failed) = 1
status_of why.Print = 1

-- why a run ends whose words ask for nothing
abbrev pub of_words : OptionsFault → JournalWhy
of_words (words_fault.Usage text) = why.Usage
of_words words_fault.NoMemory = why.Journal error.NoMemory

-- why a run ends for whose words no replacer is made; want of memory is that of a sweep
abbrev pub of_replacer : ReplacerFault → JournalWhy
of_replacer (replacer_fault.InvalidReplaceCapture capture) = why.Replacer (replacer_fault.InvalidReplaceCapture capture)
of_replacer (replacer_fault.Regex refused) = why.Replacer (replacer_fault.Regex refused)
of_replacer replacer_fault.NoMemory = why.Journal error.NoMemory

-- ---- what the words ask for

-- the words are `--recover` and this root, and no more
abbrev pub AsksRecovery : List (List ℕ) → List ℕ → Type 0
AsksRecovery words root = words ≡ codes "--recover" ∷ root ∷ []

-- the words are a command on the tree of this root, with these options
abbrev pub AsksSweep : List (List ℕ) → Options → List ℕ → Type 0
AsksSweep words order root = (order_of words ≡ Some order) × IsTreeCommand order root

-- the words are neither that nor a command on a tree
pub record IsNoCommand (words : List (List ℕ)) : Type 0 where
  pub no_recovery : (root : List ℕ) → AsksRecovery words root → ⊥
  pub no_sweep : (order : Options) (root : List ℕ) → AsksSweep words order root → ⊥

-- ---- the commands

-- The sweep below the root is recovered, and how many files its journal has is printed.
pub record RecoverCommand (root : List ℕ) (same_out : Type 0) (d : Course DiskState) (out : Course SinkState) (ended : JournalWhy) : Type 0 where
  pub result : Result ℕ JournalError
  pub recovers : Recovers root result d
  pub prints : EndsBy recovered_text result same_out out ended

-- The chosen files are rewritten, all of them or none, and the report is printed.
pub record SweepCommand (change : Change) (root : List ℕ) (globs : List (List ℕ)) (same_disk same_out : Type 0) (d : Course DiskState) (out : Course SinkState) (ended : JournalWhy)
    : Type 0 where
  pub result : Result Report JournalError
  pub sweeps : SweepsJournalled change root globs same_disk result d
  pub prints : EndsBy line_of result same_out out ended

-- no replacer is made of these options, with nothing touched
pub record HasNoReplacer (options : Options) (same_disk same_out : Type 0) (ended : JournalWhy) : Type 0 where
  pub same_disk_is : same_disk
  pub same_out_is : same_out
  pub fault : ReplacerFault
  pub refused : IsReplacerRefused (asked_of options) fault
  pub ended_is : ended ≡ of_replacer fault

-- A sweep with the replacer that the options ask for; or none is made.
abbrev pub SweepsByOptions : Options → List ℕ → Type 0 → Type 0 → Course DiskState → Course SinkState → JournalWhy → Type 0
SweepsByOptions options root same_disk same_out d out ended =
    HasNoReplacer options same_disk same_out ended
    ⊎ ((replacement : Replacement) × IsReplacerOf options replacement × SweepCommand (Changes replacement) root options.words same_disk same_out d out ended)

-- it is refused as no command, or for want of memory, with nothing touched
pub record IsRefusedWords (same_disk same_out : Type 0) (ended : JournalWhy) : Type 0 where
  pub same_disk_is : same_disk
  pub same_out_is : same_out
  pub ended_is : (ended ≡ why.Usage) ⊎ (ended ≡ why.Journal error.NoMemory)

-- What is promised of options that were read: the command on their tree, or that they are refused as no command.
pub record CarriesOut (options : Options) (same_disk same_out : Type 0) (d : Course DiskState) (out : Course SinkState) (ended : JournalWhy) : Type 0 where
  pub sweeps : (root : List ℕ) → IsTreeCommand options root → SweepsByOptions options root same_disk same_out d out ended
  pub usage : ended ≡ why.Usage → (root : List ℕ) → IsTreeCommand options root → ⊥
  pub no_command : ((root : List ℕ) → IsTreeCommand options root → ⊥) → IsRefusedWords same_disk same_out ended

-- What a run promises of its words: the recovery or the command on a tree that they ask for; `Usage` exactly where they ask for neither, but for want of memory.
pub record RunsJournal (words : List (List ℕ)) (same_disk same_out : Type 0) (d : Course DiskState) (out : Course SinkState) (ended : JournalWhy) : Type 0 where
  pub recovers : (root : List ℕ) → AsksRecovery words root → RecoverCommand root same_out d out ended
  pub sweeps : ((root : List ℕ) → AsksRecovery words root → ⊥) → (order : Options) (root : List ℕ) → AsksSweep words order root
      → SweepsByOptions order root same_disk same_out d out ended
  pub usage : ended ≡ why.Usage → IsNoCommand words
  pub no_command : IsNoCommand words → IsRefusedWords same_disk same_out ended
