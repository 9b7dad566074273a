-- The options that flags ask for.
use Rattle.std.specs.Prelude.{ℕ, Bool, true, false, ◌&&◌, ◌||◌, ◌==◌, not, List, fold, Some, if◌then◌else◌}
use Rattle.pattern_syntax.specs.Flags.{has}
use Rattle.grep_regex.specs.Options.{byte_terminator, default_options}
use Rattle.grep_regex.specs.declared.options.Options.{Options}

-- Whether letters are folded: from left to right `c` turns folding off, and `i` on.
abbrev pub folds : List ℕ → Bool
folds letters = fold (λ on letter. if letter == 99 then false else (if letter == 105 then true else on)) false letters

-- `^` and `$` stand at the ends of lines too: not with an `e`, and with an `s` only if there is an `m`.
abbrev pub is_multi_line : List ℕ → Bool
is_multi_line letters = not (has 101 letters) && (has 109 letters || not (has 115 letters))

-- THE OPTIONS that flags ask for, of a pattern or of a literal text
abbrev pub options_of : Bool → List ℕ → Options
options_of is_literal letters = record default_options {
  case_insensitive = folds letters;
  multi_line = is_multi_line letters;
  dot_matches_new_line = has 115 letters;
  word_edges = has 119 letters;
  fixed_strings = is_literal;
}

-- the same for lines that end with `\n`
abbrev pub line_options_of : Bool → List ℕ → Options
line_options_of is_literal letters = record (options_of is_literal letters) { line_terminator = Some (byte_terminator 10) }
