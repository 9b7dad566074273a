use Rattle.std.proofs.Common.{◌≡◌, List, length, refl, sym, ◌∙◌, ap, subst, arith}
use Rattle.std.proofs.lemmas.Option.{slice_get_read}
use Rattle.sd_io.specs.Tree.{NameList}
use Rattle.sd_io.specs.Outcomes.{Left, Outcome, Outcomes}
use Rattle.mem_io.specs.Log.{new_top, outcomes_after, crash_content, HasDeviceOf}
use Rattle.mem_io.specs.MemTree.{dev_at}
use Rattle.mem_io.specs.MemTreeView.{mem_tree}
use Rattle.mem_io.specs.Medium.{told_tree, outcomes_told}
use Rattle.mem_io.specs.OutcomeTable.{Counts}
use Rattle.mem_io.proofs.disk.AloneLemmas.{top_is_alone}
use Rattle.mem_io.proofs.crash.ImageLemmas.{image_first, image_more, image_last, next_free, next_place}
use Rattle.mem_io.proofs.crash.AloneLemmas.{alone_first}
use Rattle.mem_io.proofs.medium.Medium.crash.Goals as goal

-- what is counted is counted after all changes
counted_after : (outcomes told : Outcomes) (items all : List (NameList × List Outcome)) → told ≡ outcomes → items ≡ all → Counts told all → Counts outcomes items
counted_after outcomes told items all same is counts = subst (λ (o : Outcomes). Counts o items) same (subst (λ (ls : List (NameList × List Outcome)). Counts told ls) (sym is) counts)

pub loop-i-init : goal.loop-i-init
loop-i-init c =
    let image = c.new-image.result in
    let first = top_is_alone image.tree.top image.tree.nodes.entries c.new-image.ensures.top c.new-image.ensures.nodes in
    record {
      so_far = image_first c.args.choice c.deref-entry-items.result.now (told_tree image) new_top first.top refl first.others;
      alone = λ q. (λ i. outcomes_after (c.new-image.ensures.first i) (c.new-image.ensures.changes i) q) ∙ alone_first (told_tree image) first.top first.others q;
    }

pub chosen-requires : goal.chosen-requires
chosen-requires c =
    let items = c.deref-entry-items.result.now in
    let entry = c.entry-item.result in
    let here = slice_get_read items (length items) c.loop-i.i entry refl c.loop-i-test.true c.entry-item.is in
    let counts = counted_after (outcomes_told c.args.self.now) _ items _ c.in_ok-after.ensures c.deref-entry-items.ensures.value c.in_ok-counted.ensures in
    (counts.told c.loop-i.i entry.0 entry.1 here).1

pub leave-requires-clause-is_place : goal.leave-requires-clause-is_place
leave-requires-clause-is_place c =
    let items = c.deref-entry-items.result.now in
    let entry = c.entry-item.result in
    let here = slice_get_read items (length items) c.loop-i.i entry refl c.loop-i-test.true c.entry-item.is in
    let counts = counted_after (outcomes_told c.args.self.now) _ items _ c.in_ok-after.ensures c.deref-entry-items.ensures.value c.in_ok-counted.ensures in
    next_place (mem_tree c.args.self.now.tree) (outcomes_told c.args.self.now) c.args.self.now.kept items counts c.args.choice c.loop-i.i (told_tree c.loop-i.image) c.loop-i.invariant.so_far entry.0 entry.1 here

pub leave-requires-clause-free : goal.leave-requires-clause-free
leave-requires-clause-free c =
    let items = c.deref-entry-items.result.now in
    let entry = c.entry-item.result in
    let here = slice_get_read items (length items) c.loop-i.i entry refl c.loop-i-test.true c.entry-item.is in
    let counts = counted_after (outcomes_told c.args.self.now) _ items _ c.in_ok-after.ensures c.deref-entry-items.ensures.value c.in_ok-counted.ensures in
    next_free c.args.choice items c.loop-i.i (told_tree c.loop-i.image) entry.0 entry.1 counts.in_order c.loop-i.invariant.so_far here

pub loop-i-preserved : goal.loop-i-preserved
loop-i-preserved c =
    let items = c.deref-entry-items.result.now in
    let entry = c.entry-item.result in
    let here = slice_get_read items (length items) c.loop-i.i entry refl c.loop-i-test.true c.entry-item.is in
    let counts = counted_after (outcomes_told c.args.self.now) _ items _ c.in_ok-after.ensures c.deref-entry-items.ensures.value c.in_ok-counted.ensures in
    let left = c.in_ok-leave.ensures in
    record {
      so_far = image_more c.args.choice items c.loop-i.i (told_tree c.loop-i.image) entry.0 entry.1 counts.in_order c.loop-i.invariant.so_far here (told_tree c.leave.new.self) left.others (left.top ∙ c.loop-i.invariant.so_far.top)
          (λ below. left.takes below ∙ ap crash_content c.chosen.ensures) left.outside
          (subst (λ (l : Left). HasDeviceOf l (dev_at (told_tree c.leave.new.self) entry.0)) c.chosen.ensures left.device);
      alone = left.alone c.loop-i.invariant.alone;
    }

pub returns-clause-crash : goal.returns-clause-crash
returns-clause-crash c =
    let items = c.deref-entry-items.result.now in
    let counts = counted_after (outcomes_told c.args.self.now) _ items _ c.in_ok-after.ensures c.deref-entry-items.ensures.value c.in_ok-counted.ensures in
    image_last (mem_tree c.args.self.now.tree) (outcomes_told c.args.self.now) c.args.self.now.kept items counts c.args.choice c.loop-i.i (told_tree c.loop-i.image) c.loop-i.invariant.so_far
    c.args.self.now.tree.sound.is_tree.top (omega arith)
