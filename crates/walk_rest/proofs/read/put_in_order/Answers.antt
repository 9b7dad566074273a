use Rattle.std.proofs.Common.{rules, ◌≡◌, ◌∙◌, sym}
use Rattle.std.specs.Ordering.{is_lt}
use Rattle.std.proofs.lemmas.Fn.{always_returns_same}
use Rattle.std.proofs.lemmas.List.{reverse-reverse}
use Rattle.std.proofs.lemmas.List.Sorted.{IsPermutation-trans}
use Rattle.walk_rest.proofs.read.SortLemmas.{less, less_weak, sorted_is}
use Rattle.walk_rest.proofs.read.put_in_order.Goals as goal
use Rattle.walk_rest.proofs.read.put_in_order.Goals.{then-sorts+in_ok-sort_by, else-sorts}

pub returns-clause-in_order : goal.returns-clause-in_order
returns-clause-in_order g c = λ by compares.
    elim c.if-sorts.branch [
      | then-sorts+in_ok-sort_by w ↦
          (let total = g.met.S.Order.total c.args.order.now by compares in
          let weak = less_weak by total in
          let computes = always_returns_same _ (λ a r. is_lt r ≡ less by a.0.now a.1.0.now) _ (λ a r h k. search (rules, compares)) in
          let up = w.in_ok-sort_by.ensures.sorted (less by) weak computes in
          let stable = w.in_ok-sort_by.ensures.stable (less by) weak computes in
          let same = sorted_is by total c.args.entries.now.items w.sort_by.new.self.items up stable in
          let sorts = sym c.sorts.ensures ∙ w.if-sorts.true in
          rw (c.reverse.ensures.items, w.entries-is, sorts) (reverse-reverse w.sort_by.new.self.items ∙ same))
      | else-sorts w ↦ (let sorts = sym c.sorts.ensures ∙ w.if-sorts.false in rw (c.reverse.ensures.items, w.entries-is, sorts) (reverse-reverse c.args.entries.now.items))
    ]

pub returns-clause-same : goal.returns-clause-same
returns-clause-same g c =
    elim c.if-sorts.branch [
      | then-sorts+in_ok-sort_by w ↦ (let up = rw (← w.entries-is) at w.in_ok-sort_by.ensures.permutation in IsPermutation-trans _ _ _ up c.reverse.ensures.permutation)
      | else-sorts w ↦ rw (← w.entries-is) c.reverse.ensures.permutation
    ]
