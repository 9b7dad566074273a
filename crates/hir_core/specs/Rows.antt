-- The threads that go on later, as they lie in flat lists.
use Rattle.std.specs.Prelude.{ℕ, ◌≤◌, List, [], reverse, Option, slice_range}
use Rattle.std.specs.List.{All}
use Rattle.hir_program.specs.Program.{way}
use Rattle.hir_core.specs.Trails.{Stop}
use Rattle.hir_core.specs.declared.thread_list.Row.{Row}

-- the spot and the way of a row, where these are all starts and all groups
abbrev pub stop_in : List ℕ → List (Option (ℕ × ℕ)) → Row → Stop
stop_in starts groups row = (
  row.spot,
  way (reverse (slice_range starts row.starts row.starts_end))
      (record { at = row.at; groups = slice_range groups row.groups row.groups_end; seen = [] }),
)

-- the row's parts lie in lists of these lengths
pub record LiesIn (starts groups : ℕ) (row : Row) : Type 0 where
  pub starts_in_order : row.starts ≤ row.starts_end
  pub starts_within : row.starts_end ≤ starts
  pub groups_in_order : row.groups ≤ row.groups_end
  pub groups_within : row.groups_end ≤ groups

-- each row's parts lie there
abbrev pub AllLieIn : ℕ → ℕ → List Row → Type 0
AllLieIn starts groups rows = All (LiesIn starts groups) rows
