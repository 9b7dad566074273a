use Rattle.std.proofs.Common.{sym, ◌∙◌}
use Rattle.pattern_syntax.specs.Sets.{category_named}
use Rattle.pattern_syntax.proofs.sets.MemberLemmas.{closed_is, no_category}
use Rattle.pattern_syntax.proofs.sets.categories.category_set.Goals as goal

pub returns-in_default-clause-none : goal.returns-in_default-clause-none
returns-in_default-clause-none c =
    no_category (category_named c.args.name.now) (λ category e. c.in_default.not-Some category (c.in_ok-found.ensures ∙ e))

pub returns-clause-found : goal.returns-clause-found
returns-clause-found c =
    closed_is c.args.flags c.in_ok-characters.characters c.in_ok-closed.field-0 c.in_ok-ranges.field-0.items c.in-Some.category (category_named c.args.name.now)
    (sym c.in-Some.is ∙ c.in_ok-found.ensures)
    c.in_ok-ranges.ensures.members c.in_ok-characters.ensures c.in_ok-closed.ensures
