use Rattle.std.proofs.Common.{◌≡◌, drop}
use Rattle.std.specs.List.{list_all}
use Rattle.hir_tree.specs.Onward.{looks_nowhere_of}
use Rattle.hir_tree.proofs.onward.+nowhere.Given as goal

abbrev pub invariant-all_look_nowhere-loop-part : goal.invariant-all_look_nowhere-loop-part
invariant-all_look_nowhere-loop-part l = list_all looks_nowhere_of (drop l.part-index l.parts) ≡ list_all looks_nowhere_of l.parts
