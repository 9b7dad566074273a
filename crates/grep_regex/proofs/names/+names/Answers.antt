use Rattle.std.proofs.Common.{◌≡◌, List, [], ◌∷◌, ◌++◌, map, refl, sym, ap, ◌∙◌, subst, OnOk, inl, inr}
use Rattle.std.specs.List.{flat_map}
use Rattle.hir_tree.specs.Tree.{tree_of, trees}
use Rattle.hir_tree.specs.declared.hir.Hir.{Hir}
use Rattle.grep_regex.specs.Matching.{with_numbers}
use Rattle.grep_regex.specs.Options as options
use Rattle.grep_regex.specs.Options.{names_in, names_in_each}
use Rattle.grep_regex.proofs.names.+names.Goals as goal

-- the names in a tree in memory
abbrev names_of : Hir → List options.Named
names_of part = names_in (tree_of part)

-- the names in trees in a row are those in each
names-row : (parts : List Hir) → flat_map names_of parts ≡ names_in_each (trees (map tree_of parts))
names-row [] = refl
names-row (part ∷ rest) = ap (λ more. names_of part ++ more) (names-row rest)

pub add_names-returns-in-Concat : goal.add_names-returns-in-Concat
add_names-returns-in-Concat t c =
    let added = ap (flat_map names_of) c.parts.ensures ∙ names-row c.in-Concat.hirs.parts.items in
    let made = c.a_tree_is_made_of_the_trees_of_the_parts.ensures in
    let same : flat_map names_of c.parts.result.now ≡ names_of c.args.hir.now =
    elim c.in-Concat.is [
      | inl is ↦ added ∙ sym (ap names_of is ∙ ap names_in (made.concat c.in-Concat.hirs))
      | inr is ↦ added ∙ sym (ap names_of is ∙ ap names_in (made.alternation c.in-Concat.hirs))
    ] in
    subst (λ more. OnOk c.add_names_in_each.result (with_numbers c.add_names_in_each.new.names.items ≡ with_numbers c.args.names.now.items ++ more)) same c.add_names_in_each.ensures
