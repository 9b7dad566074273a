use Rattle.std.proofs.Common.{◌≡◌, ℕ, suc, ◌+◌, ◌-◌, subst, arith}
use Rattle.grep_regex.specs.Removed.{IsInFormOf}
use Rattle.grep_regex.proofs.non_matching.RemovedLemmas.{IsSameWithout, last_lost, range_lost, same_lost}
use Rattle.grep_regex.proofs.non_matching.Utf8Lemmas.{sixty_fourths_left, bytes_of_short_forms, top_fits}
use Rattle.grep_regex.proofs.non_matching.remove_forms.Goals as goal
use Rattle.hir_tree.specs.Ranges.{IsWithin}

pub loop-preserved : goal.loop-preserved
loop-preserved c =
    let k = c.args.continuations - c.loop.counter in
    let less = c.args.continuations - (c.loop.counter + 1) in
    let is : k ≡ suc less = omega arith in record {
      order = omega arith;
      fits = top_fits c.args.prefix k less c.loop.high is c.loop.invariant.fits;
      within = omega arith;
      same = sixty_fourths_left c.args.set.now c.loop.set c.remove_continuations.new.set (IsInFormOf c.args.prefix c.args.continuations (c.args.first, c.args.last)) c.args.prefix k less c.loop.low c.loop.high is c.loop.invariant.order c.loop.invariant.same c.remove_continuations.ensures;
    }

pub returns : goal.returns
returns c =
    let k = c.args.continuations - c.loop.counter in
    let none : k ≡ 0 = omega arith in
    let Kind = IsInFormOf c.args.prefix c.args.continuations (c.args.first, c.args.last) in
    last_lost c.args.set.now c.loop.set c.remove_all.new.self Kind (IsInFormOf c.args.prefix 0 (c.loop.low, c.loop.high))
    (subst (λ (j : ℕ). IsSameWithout c.args.set.now c.loop.set Kind (IsInFormOf c.args.prefix j (c.loop.low, c.loop.high))) none c.loop.invariant.same)
    (same_lost c.loop.set c.remove_all.new.self (IsWithin (c.args.prefix + c.loop.low, c.args.prefix + c.loop.high)) _ (λ b. bytes_of_short_forms c.args.prefix c.loop.low c.loop.high b)
    (range_lost c.loop.set c.remove_all.new.self (c.args.prefix + c.loop.low) (c.args.prefix + c.loop.high) c.remove_all.ensures))
