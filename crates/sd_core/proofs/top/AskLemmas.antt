-- Why no replacer is made, as a run tells it.
use Rattle.std.proofs.Common.{subst, sym, refl, inl, inr}
use Rattle.std.specs.Prelude.{⊤}
use Rattle.sd_words.specs.declared.options.Options.{Options}
use Rattle.sd_replace.specs.Making.{IsReplacerRefused, AnAskedReplacementIsReadable}
use Rattle.sd_replace.specs.Replacement.{Replacement}
use Rattle.sd_replace.specs.declared.error.ReplacerFault.{ReplacerFault}
use Rattle.sd_replace.specs.declared.error.ReplacerFault.TheVariants as fault
use Rattle.sd_core.specs.Asked.{asked_of, IsReplacerOf, RefusesReplacer}
use Rattle.sd_core.specs.Errors.{of_replacer}
use Rattle.sd_core.specs.Run.{IsRefusedFirst}
use Rattle.sd_core.specs.declared.error.Error.{Error}
use Rattle.sd_core.specs.declared.error.Error.TheVariants as error
use Rattle.sd_core.specs.declared.ended.Why.TheVariants as why

pub refused_first : (options : Options) (refused : ReplacerFault) → IsReplacerRefused (asked_of options) refused
    → IsRefusedFirst options (why.Fault (of_replacer refused))
refused_first options (fault.InvalidReplaceCapture told) h = inr (error.InvalidReplaceCapture told, refl, h)
refused_first options (fault.Regex refused) h = inr (error.Regex refused, refl, h)
refused_first options fault.NoMemory h = inl refl

IsWantOfMemory : ReplacerFault → Type 0
IsWantOfMemory fault.NoMemory = ⊤
IsWantOfMemory (fault.InvalidReplaceCapture told) = ⊥
IsWantOfMemory (fault.Regex refused) = ⊥

-- options with a replacement are refused for none of their texts
pub not_refused : AnAskedReplacementIsReadable → (options : Options) (replacement : Replacement) (failed : Error)
    → IsReplacerOf options replacement → RefusesReplacer options failed → ⊥
unfolding IsWantOfMemory
not_refused readable options replacement (error.InvalidReplaceCapture told) asked h =
    subst IsWantOfMemory (sym (readable (asked_of options) replacement (fault.InvalidReplaceCapture told) asked h)) tt
not_refused readable options replacement (error.Regex refused) asked h =
    subst IsWantOfMemory (sym (readable (asked_of options) replacement (fault.Regex refused) asked h)) tt
not_refused readable options replacement (error.File fault) asked h = h
not_refused readable options replacement (error.InvalidPath path) asked h = h
not_refused readable options replacement (error.FailedProcessing jobs) asked h = h
not_refused readable options replacement (error.BadGlob place) asked h = h
not_refused readable options replacement error.RootMissing asked h = h
not_refused readable options replacement (error.Walk failed) asked h = h
not_refused readable options replacement error.TooMany asked h = h
not_refused readable options replacement error.InputTooLong asked h = h
not_refused readable options replacement (error.Stale path planned found) asked h = h
not_refused readable options replacement (error.Differs path planned found) asked h = h
not_refused readable options replacement error.NotAPlan asked h = h
not_refused readable options replacement error.RulesNotText asked h = h
not_refused readable options replacement (error.BadRule number) asked h = h
not_refused readable options replacement error.NoMemory asked h = h
