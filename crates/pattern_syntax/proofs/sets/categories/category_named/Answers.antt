use Rattle.std.proofs.Common.{rules, ◌≡◌, map, ap, ◌∙◌}
use Rattle.std.specs.Char.{to_ascii_lowercase}
use Rattle.pattern_syntax.specs.Sets.{category_names, value_of}
use Rattle.pattern_syntax.proofs.sets.categories.category_named.Goals as goal

pub returns : goal.returns
returns c =
    let lowered_is : c.in_ok-lowered.lowered.items ≡ map to_ascii_lowercase c.args.name.now = search rules in
    c.value_of.ensures ∙ ap (value_of category_names) (c.deref.ensures.value ∙ lowered_is)
