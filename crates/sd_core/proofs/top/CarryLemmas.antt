-- What is carried out, from the parts of it.
use Rattle.std.proofs.Common.{◌≡◌, ◌∙◌, ℕ, ap, subst, sym, inl, inr, List, arith}
use Rattle.std.specs.Prelude.{Result, Ok, Err}
use Rattle.sd_io.specs.Streams.{SinkState}
use Rattle.sd_course.specs.Course.{Course}
use Rattle.sd_plan.specs.Plan.{text_of}
use Rattle.sd_words.specs.declared.options.Options.{Options}
use Rattle.sd_replace.specs.Making.{AnAskedReplacementIsReadable, IsReplacerRefused}
use Rattle.sd_replace.specs.Replacement.{Replacement, Changes}
use Rattle.sd_replace.specs.declared.error.ReplacerFault.{ReplacerFault}
use Rattle.sd_core.specs.Asked.{asked_of, IsReplacerOf}
use Rattle.sd_core.specs.Command.{CarriesOut, Command}
use Rattle.sd_core.specs.Errors.{of_replacer}
use Rattle.sd_core.specs.Mode as mode
use Rattle.sd_core.specs.Mode.{Mode, mode_of}
use Rattle.sd_core.specs.Outside.{Outside, Untouched}
use Rattle.sd_core.specs.Printing.{EndsBy, Prints}
use Rattle.sd_core.specs.Report.{line_of}
use Rattle.sd_core.specs.Run.{IsRefusedFirst, status_of}
use Rattle.sd_core.specs.InputCommand.{InputEnds, input_cap}
use Rattle.sd_core.specs.NamedCommands.{FilesEnd, PreviewEnds}
use Rattle.sd_core.specs.declared.error.Error.{Error}
use Rattle.sd_core.specs.declared.ended.Why.{Why}
use Rattle.sd_core.specs.declared.ended.Why.TheVariants as why
use Rattle.sd_core.proofs.top.AskLemmas.{refused_first, not_refused}

module _ (options : Options) (o : Outside) where
  pub refused : (fault : ReplacerFault) (failed : Error) → failed ≡ of_replacer fault → IsReplacerRefused (asked_of options) fault → Untouched o → CarriesOut options o (why.Fault failed)
  refused fault failed is refuses untouched =
      let first : IsRefusedFirst options (why.Fault failed) = subst (λ (f : Error). IsRefusedFirst options (why.Fault f)) (sym is) (refused_first options fault refuses) in
      record {
        ordered = λ e. (let f : 1 ≡ 2 = ap status_of e in omega (arith, f));
        replacer = λ error refuses. first;
        command = inl (untouched, first);
      }

  module _ (replacement : Replacement) (asked : IsReplacerOf options replacement) (readable : AnAskedReplacementIsReadable) (came : Why) where
    -- no command ends as if its words were no command line
    prints_so : {A : Type 0} (text : A → List ℕ) (result : Result A Error) (same : Type 0) (out : Course SinkState) → EndsBy text result same out came → came ≡ why.Usage → ⊥
    prints_so text (Ok answer) same out p u = subst (λ (w : Why). Prints (text answer) out w) u p
    prints_so text (Err failed) same out (e, kept) u = let f : 1 ≡ 2 = ap status_of (sym e ∙ u) in omega (arith, f)

    ordered_by : (m : Mode) → Command m (Changes replacement) options.words o came → came ≡ why.Usage → ⊥
    ordered_by (mode.tree root) c = prints_so line_of c.0.result o.same_out o.out c.0.prints
    ordered_by (mode.ignoring root path) c = prints_so line_of c.0.result o.same_out o.out c.0.prints
    ordered_by (mode.plan root) c = prints_so text_of c.0.result o.same_out o.out c.0.prints
    ordered_by (mode.apply path) c = prints_so line_of c.0.result o.same_out o.out c.0.prints
    ordered_by (mode.demo n) c = prints_so line_of c.0.result o.same_out o.out c.0.prints
    ordered_by mode.stream c = λ u. subst (λ (w : Why). InputEnds (Changes replacement) input_cap o.input o.out w) u c.0.ends
    ordered_by mode.files c = λ u. subst (λ (w : Why). FilesEnd (Changes replacement) options.words o.disk w) u c.0.ends
    ordered_by mode.preview c = λ u. subst (λ (w : Why). PreviewEnds (Changes replacement) options.words o.disk o.out w) u c.0.ends

    pub begun : Command (mode_of options) (Changes replacement) options.words o came → CarriesOut options o came
    begun command = record {
      ordered = ordered_by (mode_of options) command;
      replacer = λ error refuses. absurd (not_refused readable options replacement error asked refuses);
      command = inr (replacement, asked, command);
    }
