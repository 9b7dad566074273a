use Rattle.std.proofs.Common.{◌++◌, sym, ◌∙◌, ap, rules, append-nil}
use Rattle.std.proofs.lemmas.List.Sorted.{IsNonDecreasingBy-from_sort_by_key, answers_always}
use Rattle.sd_io.specs.declared.meta.RawEntry.{RawEntry}
use Rattle.mem_io.specs.MemTree.{entries_below}
use Rattle.mem_io.proofs.tree.ListingLemmas.{sorted_listing}
use Rattle.mem_io.proofs.tree.MemTree.entries.Goals as goal

pub returns : goal.returns
returns c =
    let folder = c.args.folder.now in
    let none = c.in-None.ensures.steps.0 in
    let all = sym (append-nil c.loop-place.entries.items) ∙ (ap (λ rest. c.loop-place.entries.items ++ entries_below folder rest) (sym none) ∙ c.loop-place.invariant) in
    sorted_listing folder c.args.self.now.nodes.entries c.loop-place.entries.items c.sort_by_key.new.self.items all
    (IsNonDecreasingBy-from_sort_by_key (λ (e : RawEntry). e.ino) _ c.in_ok-sort_by_key.ensures.sorted (λ a r q k. search rules))
    (c.sort_by_key.ensures.stable (λ (e : RawEntry). e.ino) (answers_always _ _ _ (λ f a r g h. search rules)))
