-- What a command works on.
use Rattle.std.specs.Prelude.{◌≡◌, ℕ, Bool, true, false, List, [], ◌∷◌, Option, Some, None}
use Rattle.sd_words.specs.declared.options.Options.{Options}
use Rattle.sd_core.specs.declared.app.AppSource.{AppSource}
use Rattle.sd_core.specs.declared.app.AppSource.TheVariants.{Stdin, Files}

pub data Mode : Type 0 where
  -- the files below a root
  tree : List ℕ → Mode
  -- the same, but those that the rules in a file ignore
  ignoring : List ℕ → List ℕ → Mode
  -- the files below a root, whose plan is written and nothing is changed
  plan : List ℕ → Mode
  -- the files of the plan that a file holds
  apply : List ℕ → Mode
  -- a tree in memory, made from a number
  demo : ℕ → Mode
  -- standard input
  stream : Mode
  -- the files that the words name
  files : Mode
  -- the same, whose new texts are written and nothing is changed
  preview : Mode

abbrev pub tree_mode : Bool → Option (List ℕ) → List ℕ → Mode
tree_mode false None root = tree root
tree_mode false (Some path) root = ignoring root path
tree_mode true rules root = plan root

abbrev pub files_mode : Bool → Mode
files_mode false = files
files_mode true = preview

abbrev pub words_mode : Bool → List (List ℕ) → Mode
words_mode previews [] = stream
words_mode previews (word ∷ words) = files_mode previews

-- a root comes before a plan's file, that before a demo, and that before the words
abbrev pub mode_by : Option (List ℕ) → Option (List ℕ) → Option (List ℕ) → Option ℕ → Bool → List (List ℕ) → Mode
mode_by (Some root) rules path number previews words = tree_mode previews rules root
mode_by None rules (Some path) number previews words = apply path
mode_by None rules None (Some n) previews words = demo n
mode_by None rules None None previews words = words_mode previews words

abbrev pub mode_of : Options → Mode
mode_of options = mode_by options.root options.ignore options.apply options.demo options.preview options.words

-- ---- of an app

abbrev pub app_mode : AppSource → Bool → Mode
app_mode Stdin previews = stream
app_mode (Files paths) previews = files_mode previews

-- the paths of its files
abbrev pub app_words : AppSource → List (List ℕ)
app_words Stdin = []
app_words (Files paths) = paths

-- it works on what these words name
pub record IsSourceOf (words : List (List ℕ)) (source : AppSource) : Type 0 where
  pub words_are : app_words source ≡ words
  pub mode_is : (previews : Bool) → app_mode source previews ≡ words_mode previews words
