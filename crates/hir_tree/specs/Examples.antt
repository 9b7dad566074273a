-- Worked examples of looks.
use Rattle.std.specs.Prelude.{ℕ, ◌+◌, List, length, filter}
use Rattle.std.specs.List.{range_with_len}
use Rattle.hir_tree.specs.declared.look.Look.{Look}
use Rattle.hir_tree.specs.Looks.{holds}

-- the places of a text at which a look holds
abbrev pub places_of : Look → List ℕ → List ℕ
places_of look text = filter (holds look text) (range_with_len 0 (length text + 1))
