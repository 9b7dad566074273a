-- Why there are no options.
use Rattle.std.specs.Prelude.{◌≡◌, ⊤, IsTrue, List, Option, None, Result, Ok, Err, if◌then◌else◌, ℕ, option_and_then}
use Rattle.clap.specs.Words.{Row, Text, kind_of}
use Rattle.clap.specs.declared.error.Error.{Error}
use Rattle.clap.specs.declared.error.kind.ErrorKind.TheVariants.{OutOfMemory}
use Rattle.sd_words.specs.Command.{is_taken}
use Rattle.sd_words.specs.Number.{number_of}
use Rattle.sd_words.specs.Order.{is_number, order_in, order_of}
use Rattle.sd_words.specs.declared.fault.OptionsFault.{OptionsFault}
use Rattle.sd_words.specs.declared.fault.OptionsFault.TheVariants as fault

-- `Usage` comes only where there is no order, and has a text of its own only where the command doesn't take the words; want of memory is free
abbrev pub Refuses : List Text → OptionsFault → Type 0
Refuses words (fault.Usage text) = (order_of words ≡ None) × (IsTrue (is_taken words) → text ≡ None)
Refuses words fault.NoMemory = ⊤

-- the same of words that the command took, with these rows
abbrev pub RefusesRows : List Row → OptionsFault → Type 0
RefusesRows rows (fault.Usage text) = (order_in rows ≡ None) × (text ≡ None)
RefusesRows rows fault.NoMemory = ⊤

-- want of memory exactly where the parse had none
abbrev pub IsRefusalOf : Error → OptionsFault → Type 0
IsRefusalOf error (fault.Usage text) = kind_of error ≡ OutOfMemory → ⊥
IsRefusalOf error fault.NoMemory = kind_of error ≡ OutOfMemory

-- the number of a text, where there is one, or `Usage` without a text where it is no number
abbrev pub number_or_usage : Option Text → Result (Option ℕ) OptionsFault
number_or_usage text = if is_number text then Ok (option_and_then number_of text) else Err (fault.Usage None)
