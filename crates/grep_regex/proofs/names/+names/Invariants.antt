use Rattle.std.proofs.Common.{◌≡◌, ◌++◌, take}
use Rattle.std.specs.List.{flat_map}
use Rattle.hir_tree.specs.Tree.{tree_of}
use Rattle.grep_regex.specs.Matching.{with_numbers}
use Rattle.grep_regex.specs.Options.{names_in}
use Rattle.grep_regex.proofs.names.+names.Given as goal

abbrev pub invariant-add_names_in_each-loop-part : goal.invariant-add_names_in_each-loop-part
invariant-add_names_in_each-loop-part l =
    with_numbers l.names.items ≡ with_numbers l.initial.names.items ++ flat_map (λ part. names_in (tree_of part)) (take l.part-index l.parts)
