-- What a disk in memory may leave behind, as a table of places.
use Rattle.std.specs.Prelude.{◌≡◌, ℕ, List, Some, true}
use Rattle.std.specs.Option.{unwrap_or}
use Rattle.std.specs.List.{slice_get}
use Rattle.std.specs.List.Sorted.{IsStrictlySortedBy}
use Rattle.std.specs.Map.{lookup, keys_of}
use Rattle.std.specs.BTreeMap.{is_at}
use Rattle.sd_io.specs.Tree.{NameList, name_list_cmp}
use Rattle.sd_io.specs.Outcomes.{Outcome, Outcomes, never_used}
use Rattle.mem_io.specs.Log.{has_other}
use Rattle.mem_io.specs.declared.outcome_table.OutcomeTable.{OutcomeTable}

-- the outcomes of each place; one that isn't listed was never used
abbrev pub told_outcomes : List (NameList × List Outcome) → Outcomes
told_outcomes lists q = unwrap_or (lookup (is_at (name_list_cmp q)) lists) never_used

abbrev pub outcomes_of : OutcomeTable → Outcomes
outcomes_of table = told_outcomes table.lists.entries

-- Listed in their order are the places that have an outcome other than absent, each with its outcomes.
pub record Counts (outcomes : Outcomes) (lists : List (NameList × List Outcome)) : Type 0 where
  pub in_order : IsStrictlySortedBy name_list_cmp (keys_of lists)
  pub told : (i : ℕ) (q : NameList) (list : List Outcome) → slice_get lists i ≡ Some (q, list) → (list ≡ outcomes q) × (has_other list ≡ true)
  pub all : (q : NameList) → has_other (outcomes q) ≡ true → (i : ℕ) × (slice_get lists i ≡ Some (q, outcomes q))
