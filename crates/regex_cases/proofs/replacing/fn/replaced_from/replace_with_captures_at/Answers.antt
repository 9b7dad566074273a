use Rattle.std.proofs.Common.{rules, ◌≡◌, None}
use Rattle.regex_cases.proofs.replacing.fn.replaced_from.replace_with_captures_at.Goals as goal

pub returns : goal.returns
returns c = (_, c.in_ok-interpolate.ensures.expanded (λ name. None) (λ f name answer g reached called. search rules))
