use Rattle.std.proofs.Common.{rules, ◌∙◌, ap}
use Rattle.std.proofs.lemmas.List.Elements.{filter_from_retain}
use Rattle.sd_io.specs.Outcomes.{Outcome, own_of}
use Rattle.mem_io.proofs.outcome.OutcomeList.keep_own.Goals as goal

pub returns : goal.returns
returns c = filter_from_retain _ (λ (o : Outcome). o.is_own) (λ f x b g call. search rules) _ _ _ c.retain.ensures.filtered ∙ ap own_of c.self.view_is
