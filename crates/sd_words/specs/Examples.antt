-- Worked examples of command lines.
use Rattle.std.specs.Prelude.{◌≡◌, ◌==◌, List, codes, Some, None}
use Rattle.std.specs.List.{slice_split}
use Rattle.clap.specs.Words.{Text}
use Rattle.sd_words.specs.Order.{order_of}
use Rattle.sd_words.specs.Plain.{options_of}
use Rattle.sd_words.specs.declared.options.Options.{Options}

-- the words of a line, with one blank between each two
abbrev pub words_of : Text → List Text
words_of line = slice_split (λ c. c == 32) line

-- the words of the line ask for this
abbrev pub AsksFor : Text → Options → Type 0
AsksFor line options = order_of (words_of line) ≡ Some options

-- the words of the line ask for nothing that can be done
abbrev pub AsksForNothing : Text → Type 0
AsksForNothing line = order_of (words_of line) ≡ None

-- no options: `a` is replaced by `b`, and these are the words after them
abbrev pub a_by_b : List Text → Options
a_by_b rest = options_of None (codes "a") (codes "b") rest
