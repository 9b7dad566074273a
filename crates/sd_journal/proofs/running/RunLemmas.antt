-- How a run answers whose words are read.
use Rattle.std.proofs.Common.{◌≡◌, ◌∙◌, Bool, false, List, ℕ, subst, sym}
use Rattle.std.specs.Prelude.{IsTrue, Some}
use Rattle.std.proofs.lemmas.Option.{same_Some}
use Rattle.sd_io.specs.Disk.{DiskState}
use Rattle.sd_io.specs.Streams.{SinkState}
use Rattle.sd_course.specs.Course.{Course}
use Rattle.sd_words.specs.Order.{IsTreeCommand, order_of}
use Rattle.sd_words.specs.declared.options.Options.{Options}
use Rattle.sd_journal.specs.Run.{AsksRecovery, SweepsByOptions, CarriesOut, RunsJournal}
use Rattle.sd_journal.specs.declared.ended.JournalWhy.{JournalWhy}

-- a test that failed doesn't hold
pub not_asked : (b : Bool) → b ≡ false → IsTrue b → ⊥
not_asked b failed holds = cc (sym failed ∙ holds)

-- they ask for no recovery, and are read as these options
pub carried : (words : List (List ℕ)) (same_disk same_out : Type 0) (d : Course DiskState) (out : Course SinkState) → ((root : List ℕ) → AsksRecovery words root → ⊥) → (options : Options)
    → order_of words ≡ Some options → (ended told : JournalWhy) → told ≡ ended → CarriesOut options same_disk same_out d out ended → RunsJournal words same_disk same_out d out told
carried words same_disk same_out d out no_recovery options read ended told is does = subst (λ (w : JournalWhy). RunsJournal words same_disk same_out d out w) (sym is) (record {
  recovers = λ root asks. absurd (no_recovery root asks);
  sweeps = λ no order root asks.
      let same : options ≡ order = same_Some options order (sym read ∙ asks.0) in
      subst (λ (o : Options). SweepsByOptions o root same_disk same_out d out ended) same (does.sweeps root (subst (λ (o : Options). IsTreeCommand o root) (sym same) asks.1));
  usage = λ e. record {
    no_recovery = no_recovery;
    no_sweep = λ order root asks. does.usage e root (subst (λ (o : Options). IsTreeCommand o root) (sym (same_Some options order (sym read ∙ asks.0))) asks.1);
  };
  no_command = λ no. does.no_command (λ root is_tree. no.no_sweep options root (read, is_tree));
})
