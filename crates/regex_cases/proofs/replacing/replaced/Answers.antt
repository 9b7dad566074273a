use Rattle.std.proofs.Common.{rules, ◌≡◌, [], Ok, Err}
use Rattle.regex_cases.proofs.replacing.replaced.Goals as goal

pub replace-done-requires-clause-keeps : goal.replace-done-requires-clause-keeps
replace-done-requires-clause-keeps c f span d (Ok b) e f' called = (f.0.now, search rules)
replace-done-requires-clause-keeps c f span d (Err error) e f' called = ([], search rules)
