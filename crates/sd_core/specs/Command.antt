-- What a run promises, by the mode of what it is asked for.
use Rattle.std.specs.Prelude.{◌≢◌, ℕ, List}
use Rattle.sd_change.specs.Change.{Change}
use Rattle.sd_words.specs.declared.options.Options.{Options}
use Rattle.sd_core.specs.Asked.{RefusesReplacer}
use Rattle.sd_core.specs.Mode as mode
use Rattle.sd_core.specs.Mode.{Mode, mode_of}
use Rattle.sd_core.specs.Outside.{Outside}
use Rattle.sd_core.specs.Run.{Begins, IsRefusedFirst}
use Rattle.sd_core.specs.Selection.{by_globs}
use Rattle.sd_core.specs.TreeCommand.{TreeCommand}
use Rattle.sd_core.specs.DemoCommand.{DemoCommand}
use Rattle.sd_core.specs.Ignoring.{IgnoreCommand}
use Rattle.sd_core.specs.InputCommand.{InputCommand, input_cap}
use Rattle.sd_core.specs.NamedCommands.{FilesCommand, PreviewCommand}
use Rattle.sd_core.specs.PlanCommand.{PlanCommand}
use Rattle.sd_core.specs.ApplyCommand.{ApplyCommand}
use Rattle.sd_core.specs.declared.error.Error.{Error}
use Rattle.sd_core.specs.declared.ended.Why.{Why}
use Rattle.sd_core.specs.declared.ended.Why.TheVariants as why

-- What a command promises that makes this change, by its mode, with the words after FIND and REPLACE_WITH; and that it makes no call on what it doesn't need.
abbrev pub Command : Mode → Change → List (List ℕ) → Outside → Why → Type 0
Command (mode.tree root) change words o ended = TreeCommand change (by_globs root words) o.same_disk o.same_out o.disk o.out ended × o.same_input
Command (mode.ignoring root path) change words o ended = IgnoreCommand change root words path o.same_out o.disk o.out ended × o.same_input
Command (mode.plan root) change words o ended = PlanCommand change (by_globs root words) o.same_disk o.same_out o.disk o.out ended × o.same_input
Command (mode.apply path) change words o ended = ApplyCommand change path o.same_out o.disk o.out ended × o.same_input
Command (mode.demo n) change words o ended = DemoCommand change n words o.same_out o.out ended × o.same_disk × o.same_input
Command mode.stream change words o ended = InputCommand change input_cap o.input o.out ended × o.same_disk
Command mode.files change words o ended = FilesCommand change words o.disk ended × o.same_input × o.same_out
Command mode.preview change words o ended = PreviewCommand change words o.disk o.out ended × o.same_input

-- What a run promises of the options that its words ask for: it is refused by their texts, or carries out the command of their mode.
pub record CarriesOut (options : Options) (o : Outside) (ended : Why) : Type 0 where
  pub ordered : ended ≢ why.Usage
  pub replacer : (error : Error) → RefusesReplacer options error → IsRefusedFirst options ended
  pub command : Begins options o ended (λ change. Command (mode_of options) change options.words o ended)
