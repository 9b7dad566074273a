use Rattle.std.proofs.Common.{◌∙◌}
use Rattle.mem_io.specs.MemTreeView.{mem_tree}
use Rattle.mem_io.proofs.tree.EntryLemmas.{node_at_name}
use Rattle.mem_io.proofs.walk.FreePlaceLemmas.{nothing, up_before, up_last, no_directory, stands_there, is_free}
use Rattle.mem_io.proofs.tree.MemTree.free_place.Goals as goal
use Rattle.mem_io.proofs.tree.MemTree.free_place.Goals.{then-eq-2-via-then-eq-2, then-eq-2-via-else-eq-2+then-not-is_directory}

pub returns-then-eq-clause-bad_path : goal.returns-then-eq-clause-bad_path
returns-then-eq-clause-bad_path c = λ _.
    up_before (mem_tree c.args.self.now) c.args.path.now _ _ _ c.in_ok-parts.ensures c.in-Some.ensures.items _ _ _ _ c.as_slice-part-items.ensures.value c.loop-part-test.true c.eq.ensures c.if-eq.true

pub returns-then-eq-2-clause-bad_path : goal.returns-then-eq-2-clause-bad_path
returns-then-eq-2-clause-bad_path c = λ _. elim c.then-eq-2.branch [
  | then-eq-2-via-then-eq-2 w ↦ up_last (mem_tree c.args.self.now) c.args.path.now _ _ _ c.in_ok-parts.ensures c.in-Some.ensures.items _ c.eq-2.ensures w.if-eq-2.true
  | then-eq-2-via-else-eq-2+then-not-is_directory w ↦
      no_directory (mem_tree c.args.self.now) c.args.path.now _ _ _ c.in_ok-parts.ensures c.in-Some.ensures.items
      c.loop-part.place _ _ c.loop-part.invariant.names c.as_slice-part-items.ensures.value c.loop-part-test.false _ w.is_directory.ensures w.if-not-is_directory.true
]

pub returns-then-contains_key-clause-bad_path : goal.returns-then-contains_key-clause-bad_path
returns-then-contains_key-clause-bad_path c = λ _.
    stands_there (mem_tree c.args.self.now) c.args.path.now _ _ _ c.in_ok-parts.ensures c.in-Some.ensures.items
    c.loop-part.place _ _ c.loop-part.invariant.names c.as_slice-part-items.ensures.value c.loop-part-test.false c.enter-2.new.self c.in_ok-enter-2.ensures.entered
    _ _ (node_at_name c.args.self.now.top c.args.self.now.nodes.entries c.loop-part.place c.enter-2.new.self _ c.in_ok-enter-2.ensures.entered) c.contains_key.ensures c.if-contains_key.true

pub returns-clause-free : goal.returns-clause-free
returns-clause-free c =
    is_free (mem_tree c.args.self.now) c.args.path.now _ _ _ c.in_ok-parts.ensures c.in-Some.ensures.items
    c.loop-part.place _ _ c.loop-part.invariant.names c.as_slice-part-items.ensures.value c.loop-part-test.false c.enter-2.new.self c.in_ok-enter-2.ensures.entered
    _ _ c.loop-part.invariant.no_up c.eq-2.ensures c.if-eq-2.false c.is_directory.ensures c.if-not-is_directory.false
    (node_at_name c.args.self.now.top c.args.self.now.nodes.entries c.loop-part.place c.enter-2.new.self _ c.in_ok-enter-2.ensures.entered ∙ nothing _ _ c.contains_key.ensures c.if-contains_key.false)
