-- What the words of a command line ask for.
use Rattle.std.specs.Prelude.{◌≡◌, ◌&&◌, ◌||◌, ℕ, Bool, true, false, not, List, [], Option, Some, None, codes, is_none, is_some, if◌then◌else◌, nat_lt, option_and_then, unwrap_or}
use Rattle.std.specs.Option.{option_map_or}
use Rattle.std.specs.Str.{bytes_eq}
use Rattle.clap.specs.Walk.{is_empty}
use Rattle.clap.specs.Words.{Row, Text, all_of, first_of, matches_of}
use Rattle.sd_words.specs.Command.{command, is_taken}
use Rattle.sd_words.specs.Number.{number_of}
use Rattle.sd_words.specs.declared.options.Options.{Options}

-- ---- the options that a parse gives

-- a flag has the text `true` where it was used, and else `false`
abbrev pub is_set : Text → List Row → Bool
is_set name rows = option_map_or (λ text. bytes_eq text (codes "true")) (first_of name rows) false

-- the options in the rows of the matches; the limit is 0, which is none, where it isn't given
abbrev pub options_in : List Row → Options
options_in rows = record {
  preview = is_set (codes "preview") rows;
  literal_mode = is_set (codes "fixed-strings") rows || is_set (codes "string-mode") rows;
  line_mode = is_set (codes "line-mode") rows;
  replacements = unwrap_or (option_and_then number_of (first_of (codes "max-replacements") rows)) 0;
  flags = first_of (codes "flags") rows;
  root = first_of (codes "root") rows;
  demo = option_and_then number_of (first_of (codes "demo") rows);
  apply = first_of (codes "apply") rows;
  ignore = first_of (codes "ignore") rows;
  find = unwrap_or (first_of (codes "find") rows) [];
  replace_with = unwrap_or (first_of (codes "replace-with") rows) [];
  words = unwrap_or (all_of (codes "words") rows) [];
}

-- ---- what may be given

-- the greatest number of a demo
abbrev pub demo_max : ℕ
demo_max = 100000

-- `--demo` is too great, or stands with `--root` or `-p`
abbrev pub demo_clashes : Options → Bool
demo_clashes o = option_map_or (λ n. nat_lt demo_max n || is_some o.root || o.preview) o.demo false

-- `--apply` stands with `--root`, `--demo` or `-p`, or with words after FIND and REPLACE_WITH
abbrev pub apply_clashes : Options → Bool
apply_clashes o = is_some o.apply && (is_some o.root || is_some o.demo || o.preview || not (is_empty o.words))

-- `--ignore` stands without `--root`, or with `-p`
abbrev pub ignore_clashes : Options → Bool
ignore_clashes o = is_some o.ignore && (is_none o.root || o.preview)

-- all that is given may stand together
abbrev pub stand_together : Options → Bool
stand_together o = not (demo_clashes o || apply_clashes o || ignore_clashes o)

-- a text is a number, or there is none
abbrev pub is_number : Option Text → Bool
is_number text = option_map_or (λ t. is_some (number_of t)) text true

-- ---- the order

-- the options, or none where they break the rules on what may stand together, or a text for one of their numbers is no number
abbrev pub order_if : Option Text → Option Text → Options → Option Options
order_if limit demo options = if is_number limit && (is_number demo && stand_together options) then Some options else None

-- the order in the rows of the matches
abbrev pub order_in : List Row → Option Options
order_in rows = order_if (first_of (codes "max-replacements") rows) (first_of (codes "demo") rows) (options_in rows)

-- the record of the words, or none; it opens only where a proof asks for it
unfoldable pub order_of : List Text → Option Options
order_of words = if is_taken words then order_in (matches_of command words) else None

-- a command on the tree of this root: an order with the root, without preview, and without rules to ignore by; a plan to apply never stands with a root
abbrev pub IsTreeCommand : Options → Text → Type 0
IsTreeCommand order root = (order.root ≡ Some root) × (order.preview ≡ false) × (order.ignore ≡ None)
