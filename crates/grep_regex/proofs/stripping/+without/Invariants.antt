use Rattle.std.proofs.Common.{◌≡◌, map}
use Rattle.hir_tree.specs.Tree.{tree_of}
use Rattle.grep_regex.specs.Stripping.{strip_byte}
use Rattle.grep_regex.proofs.stripping.+without.Given as goal

abbrev pub invariant-each_without_byte-loop-part : goal.invariant-each_without_byte-loop-part
invariant-each_without_byte-loop-part l = map tree_of l.rest.items ≡ map (λ part. strip_byte l.byte (tree_of part)) l.yielded
