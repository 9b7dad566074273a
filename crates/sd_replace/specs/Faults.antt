-- What the faults of texts become.
use Rattle.grep_regex.specs.declared.error.Error.{Error}
use Rattle.grep_regex.specs.declared.error.ErrorKind.{ErrorKind}
use Rattle.grep_regex.specs.declared.error.ErrorKind.TheVariants as kind
use Rattle.sd_replace.specs.declared.error.ReplaceFault.{ReplaceFault}
use Rattle.sd_replace.specs.declared.error.ReplaceFault.TheVariants as text_fault
use Rattle.sd_replace.specs.declared.error.ReplacerFault.{ReplacerFault}
use Rattle.sd_replace.specs.declared.error.ReplacerFault.TheVariants as fault

-- of a replacement text
abbrev pub of_text : ReplaceFault → ReplacerFault
of_text (text_fault.InvalidReplaceCapture told) = fault.InvalidReplaceCapture told
of_text text_fault.NoMemory = fault.NoMemory

-- of a text to find: want of memory is told as such
abbrev pub of_kind : Error → ErrorKind → ReplacerFault
of_kind error kind.NoMemory = fault.NoMemory
of_kind error reason = fault.Regex error

abbrev pub of_find : Error → ReplacerFault
of_find error = of_kind error error.kind
