use Rattle.std.proofs.Common.{ℕ, List, ◌++◌, sym, ap, ◌∙◌}
use Rattle.grep_matcher.specs.References.{group_text}
use Rattle.sd_replace.proofs.template.Template.append.Goals as goal

pub returns-in-Some : goal.returns-in-Some
returns-in-Some c =
    c.in_ok-extend_from_slice.ensures.items
    ∙ ap (λ (xs : List ℕ). c.args.dst.now.items ++ xs) (sym (c.in-Some.ensures (group_text c.args.haystack.now c.args.groups.now)))
