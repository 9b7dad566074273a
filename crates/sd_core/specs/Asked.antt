-- What the options of a command mean for bytes.
use Rattle.std.specs.Prelude.{Bool, if◌then◌else◌}
use Rattle.sd_words.specs.declared.options.Options.{Options}
use Rattle.sd_replace.specs.Making.{Asked, IsAskedFor, IsReplacerRefused}
use Rattle.sd_replace.specs.Replacement.{Replacement}
use Rattle.sd_replace.specs.declared.error.ReplacerFault.TheVariants as fault
use Rattle.sd_replace.specs.declared.replacer.Counted.{Counted}
use Rattle.sd_replace.specs.declared.replacer.Counted.TheVariants.{OverAll, InEachLine}
use Rattle.sd_core.specs.declared.error.Error.{Error}
use Rattle.sd_core.specs.declared.error.Error.TheVariants as error

-- in line mode matches are counted in each line
abbrev pub counted_of : Bool → Counted
counted_of by_line = if by_line then InEachLine else OverAll

-- what a replacer is asked for with
abbrev pub asked_of : Options → Asked
asked_of options =
    record { find = options.find; replace_with = options.replace_with; is_literal = options.literal_mode; flags = options.flags; limit = options.replacements; counted = counted_of options.line_mode }

-- it is the replacement that these options ask for
abbrev pub IsReplacerOf : Options → Replacement → Type 0
IsReplacerOf options replacement = IsAskedFor (asked_of options) replacement

-- Why no replacer is made: outside literal mode the replacement text is ambiguous; or else no matcher is built of the text to find.
abbrev pub RefusesReplacer : Options → Error → Type 0
RefusesReplacer options (error.InvalidReplaceCapture capture) = IsReplacerRefused (asked_of options) (fault.InvalidReplaceCapture capture)
RefusesReplacer options (error.Regex refused) = IsReplacerRefused (asked_of options) (fault.Regex refused)
RefusesReplacer options _ = ⊥
