-- How what an app does becomes what a command on words does.
use Rattle.std.proofs.Common.{ℕ, Bool, true, false, List, [], ◌∷◌, refl, subst, inl, inr}
use Rattle.sd_io.specs.Disk.{DiskState, SameTree, SameLists}
use Rattle.sd_io.specs.Streams.{SourceState, SinkState}
use Rattle.sd_change.specs.Change.{Change}
use Rattle.sd_course.specs.Course.{course}
use Rattle.sd_core.specs.Command.{Command}
use Rattle.sd_core.specs.Mode.{Mode, IsSourceOf, app_mode, app_words, words_mode}
use Rattle.sd_core.specs.Outside.{Outside, outside}
use Rattle.sd_core.specs.declared.app.AppSource.{AppSource}
use Rattle.sd_core.specs.declared.error.Error.TheVariants as error
use Rattle.sd_core.specs.declared.ended.Why.{Why}
use Rattle.sd_core.specs.declared.ended.Why.TheVariants as why

-- on what the words name
pub on_words : (words : List (List ℕ)) (source : AppSource) (previews : Bool) (change : Change) (o : Outside) (ended : Why) → IsSourceOf words source
    → Command (app_mode source previews) change (app_words source) o ended → Command (words_mode previews words) change words o ended
on_words words source previews change o ended is c =
    subst (λ (m : Mode). Command m change words o ended) (is.mode_is previews)
    (subst (λ (ws : List (List ℕ)). Command (app_mode source previews) change ws o ended) is.words_are c)

-- there was no memory before anything was called
pub no_memory : (change : Change) (words : List (List ℕ)) (previews told_disk told_input told_out : Bool) (d : DiskState) (i : SourceState) (s : SinkState)
    (same_disk same_input same_out : Type 0) → same_disk → same_input → same_out → SameTree d d → SameLists d d
    → Command (words_mode previews words) change words (outside same_disk same_input same_out (course told_disk d d) (course told_input i i) (course told_out s s)) (why.Fault error.NoMemory)
no_memory change [] previews told_disk told_input told_out d i s same_disk same_input same_out x y z tree lists =
    (record { ends = refl; too_long = λ told long. inr (inl refl); complete = λ clear. inr refl }, x)
no_memory change (word ∷ words) false told_disk told_input told_out d i s same_disk same_input same_out x y z tree lists =
    (record { ends = refl; lists = lists; complete = λ clear. tt }, y, z)
no_memory change (word ∷ words) true told_disk told_input told_out d i s same_disk same_input same_out x y z tree lists =
    (record { ends = inl refl; same = tree; lists = lists; no_path = λ told path first none. inr (inl refl); complete = λ clear. inr refl }, y)
