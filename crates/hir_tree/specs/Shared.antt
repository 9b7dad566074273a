-- What a list of ranges holds that copies share.
use Rattle.std.specs.Prelude.{ℕ, List, []}
use Rattle.hir_tree.specs.declared.shared.Held.{Held}
use Rattle.hir_tree.specs.declared.shared.Held.TheVariants as held

-- the ranges, whoever has them
abbrev pub ranges_in : Held → List (ℕ × ℕ)
ranges_in held.Empty = []
ranges_in (held.Own ranges) = ranges.value.items
ranges_in (held.Shared ranges) = ranges
