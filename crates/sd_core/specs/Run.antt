-- How a run of the program ends, and what it calls.
use Rattle.std.specs.Prelude.{◌≡◌, ◌⊎◌, ℕ, Result, Ok, Err}
use Rattle.sd_change.specs.Change.{Change}
use Rattle.sd_words.specs.declared.options.Options.{Options}
use Rattle.sd_words.specs.declared.fault.OptionsFault.{OptionsFault}
use Rattle.sd_words.specs.declared.fault.OptionsFault.TheVariants as words_fault
use Rattle.sd_replace.specs.Replacement.{Replacement, Changes}
use Rattle.sd_core.specs.Asked.{IsReplacerOf, RefusesReplacer}
use Rattle.sd_core.specs.Outside.{Outside, Untouched}
use Rattle.sd_core.specs.declared.error.Error.{Error}
use Rattle.sd_core.specs.declared.error.Error.TheVariants as error
use Rattle.sd_core.specs.declared.ended.Why.{Why}
use Rattle.sd_core.specs.declared.ended.Why.TheVariants as why

-- ---- statuses

-- the status of a process
abbrev pub status_of : Why → ℕ
status_of why.Done = 0
status_of why.Usage = 2
status_of (why.Fault failed) = 1
status_of why.Print = 1

-- why a run ends whose words ask for nothing
abbrev pub of_words : OptionsFault → Why
of_words (words_fault.Usage text) = why.Usage
of_words words_fault.NoMemory = why.Fault error.NoMemory

-- ---- before a command begins

-- want of memory comes in place of any refusal
abbrev pub IsOrMemory : Why → Why → Type 0
IsOrMemory expected ended = (ended ≡ expected) ⊎ (ended ≡ why.Fault error.NoMemory)

-- it is refused by its texts or for want of memory, before it begins
abbrev pub IsRefusedFirst : Options → Why → Type 0
IsRefusedFirst options ended = (ended ≡ why.Fault error.NoMemory) ⊎ ((failed : Error) × (ended ≡ why.Fault failed) × RefusesReplacer options failed)

-- A command begins: there is its replacement, and this is promised of what that does to bytes. Or it is refused before that, with nothing touched.
abbrev pub Begins : Options → Outside → Why → (Change → Type 0) → Type 0
Begins options o ended promise =
    (Untouched o × IsRefusedFirst options ended) ⊎ ((replacement : Replacement) × IsReplacerOf options replacement × promise (Changes replacement))

-- a command was refused
abbrev pub IsFault : Why → Type 0
IsFault ended = (failed : Error) × (ended ≡ why.Fault failed)

-- ---- an answer as an end

-- done, or failed
abbrev pub end_of : {A : Type 0} → Result A Error → Why
end_of (Ok done) = why.Done
end_of (Err failed) = why.Fault failed
