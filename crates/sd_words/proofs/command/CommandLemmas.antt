-- Arguments, and commands to which they are added in turn.
use Rattle.std.proofs.Common.{◌≡◌, ◌∙◌, ap, ap₂, ℕ, Bool, Some, false}
use Rattle.clap.specs.Words.{AddsArg, App, Rule, app_of, rule_of, with_rule}
use Rattle.clap.specs.declared.builder.action.ArgAction.{ArgAction}
use Rattle.clap.specs.declared.builder.arg.Arg.{Arg}
use Rattle.clap.specs.declared.builder.command.Command.{Command}

-- an argument of this rule, which no subcommand shares
pub record IsArg (a : Arg) (form : Rule) : Type 0 where
  pub rule : rule_of a ≡ form
  pub local : a.global ≡ false

-- with a short name, required, and with an action
pub short_arg : (a b : Arg) (c : ℕ) (rule : Rule) → IsArg a rule → b ≡ record a { short = Some c } → IsArg b (record rule { short = Some c })
short_arg a b c rule h is = record {
  rule = ap rule_of is ∙ ap (λ (r : Rule). record r { short = Some c }) h.rule;
  local = ap (λ (x : Arg). x.global) is ∙ h.local;
}

pub required_arg : (a b : Arg) (wanted : Bool) (rule : Rule) → IsArg a rule → b ≡ record a { required = wanted } → IsArg b (record rule { required = wanted })
required_arg a b wanted rule h is = record {
  rule = ap rule_of is ∙ ap (λ (r : Rule). record r { required = wanted }) h.rule;
  local = ap (λ (x : Arg). x.global) is ∙ h.local;
}

pub acting_arg : (a b : Arg) (act : ArgAction) (rule : Rule) → IsArg a rule → b ≡ record a { action = Some act } → IsArg b (record rule { action = Some act })
acting_arg a b act rule h is = record {
  rule = ap rule_of is ∙ ap (λ (r : Rule). record r { action = Some act }) h.rule;
  local = ap (λ (x : Arg). x.global) is ∙ h.local;
}

-- one more argument
pub added : (old new : Command) (a : Arg) (app : App) (rule : Rule) → AddsArg old a new → app_of old ≡ app → IsArg a rule → app_of new ≡ with_rule app rule
added old new a app rule h is one = h.shape one.local ∙ ap₂ with_rule is one.rule
