use Rattle.std.proofs.Common.{rules, ◌≡◌}
use Rattle.regex_cases.proofs.replacing.replaced_from.Goals as goal

pub replace_with_captures_at-done-requires-clause-stays : goal.replace_with_captures_at-done-requires-clause-stays
replace_with_captures_at-done-requires-clause-stays c f g x takes step caps within d i span at =
    let fits = takes caps within d i span at in
    let called = step.2 in
    search rules
