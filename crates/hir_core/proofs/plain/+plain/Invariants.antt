use Rattle.std.proofs.Common.{◌≡◌, ◌++◌, map, drop, option_map}
use Rattle.hir_tree.specs.PlainText.{joined_all, text_of}
use Rattle.hir_core.proofs.plain.+plain.Given as goal

abbrev pub invariant-append_all-loop-part : goal.invariant-append_all-loop-part
invariant-append_all-loop-part l =
    option_map (λ text. l.bytes.items ++ text) (joined_all (map text_of (drop l.part-index l.parts)))
    ≡ option_map (λ text. l.fn.bytes.items ++ text) (joined_all (map text_of l.parts))
