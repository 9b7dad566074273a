use Rattle.std.proofs.Common.{◌≡◌, ℕ, ◌+◌, List, length, sym, ap, ◌∙◌, subst, arith}
use Rattle.std.specs.Prelude.{take, drop, ◌++◌}
use Rattle.hir_program.specs.Masks.{Grows, Covers}
use Rattle.hir_program.proofs.scan.reach.DeadLemmas.{AfterHas, AfterHas-next}
use Rattle.hir_program.proofs.scan.reach.ReachLemmas.{lent_back}
use Rattle.hir_program.proofs.scan.reach.after.Goals as goal

pub loop-i-preserved : goal.loop-i-preserved
loop-i-preserved c =
    let now : List ℕ = c.add_to_row.new.rows in
    let same : length now ≡ length c.loop-i.after.items = omega arith in
    let back : take c.loop-i.after.len (now ++ drop (length now) c.loop-i.after.items) ≡ now = lent_back now c.loop-i.after.items c.loop-i.after.len (omega arith) same in
    record {
      room = ap length back ∙ same ∙ c.loop-i.invariant.room;
      covers =
          subst (λ (rows : List ℕ). AfterHas c.args.spots.now c.args.of.now c.args.look rows (c.loop-i.i + 1)) (sym back)
          (AfterHas-next c.args.spots.now c.args.of.now c.args.look c.loop-i.after.items now c.loop-i.i c.in_ok-mask.mask c.loop-i.invariant.covers
          (subst (λ (rows : List ℕ). Grows rows now) c.deref_mut.ensures.value c.add_to_row.ensures.grows)
          c.add_to_row.ensures.has
          (subst (λ (q : ℕ). Covers c.args.spots.now c.args.of.now c.args.look c.in_ok-mask.mask q) c.next_of.ensures c.in_ok-mask.ensures));
    }
