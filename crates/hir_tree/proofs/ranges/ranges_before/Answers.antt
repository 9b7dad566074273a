use Rattle.std.proofs.Common.{ℕ, ◌+◌, nat_lt, rules}
use Rattle.std.proofs.lemmas.List.Sorted.{IsPartitionPoint-from_clause}
use Rattle.hir_tree.proofs.ranges.SortedLemmas.{ends_parted, parted_at}
use Rattle.hir_tree.proofs.ranges.ranges_before.Goals as goal

pub returns : goal.returns
returns c =
    let xs = c.args.ranges.now in
    let before = λ (r : ℕ × ℕ). nat_lt (r.1 + 1) c.args.start in
    let point = IsPartitionPoint-from_clause before xs _ c.partition_point.ensures.partitioned (ends_parted xs c.args.start c.requires) (λ a r q k. search rules) in
    parted_at xs before _ c.partition_point.ensures.bound point
