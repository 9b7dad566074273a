use Rattle.std.proofs.Common.{List, ℕ, length, sym, ap, ◌∙◌, true≢false}
use Rattle.std.specs.Prelude.{◌==◌}
use Rattle.sd_plan.proofs.escaping.EscapeLemmas.{unescape_refused}
use Rattle.sd_plan.proofs.escaping.unescaped.Goals as goal

pub returns-in_default : goal.returns-in_default
returns-in_default c path =
    unescape_refused c.args.field.now c.loop-rest.path.items c.loop-rest.rest.now path c.loop-rest.invariant
    (λ e. true≢false (sym (c.is_empty.ensures ∙ ap (λ (l : List ℕ). length l == 0) e) ∙ c.loop-rest-test.true))
    c.in_default.ensures.none
