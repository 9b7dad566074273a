use Rattle.std.proofs.Common.{◌≡◌, ◌+◌, ◌<◌, ◌≤◌, true, inl, inr, take, sym, arith}
use Rattle.std.proofs.lemmas.Option.{get_or_from_slice_get}
use Rattle.hir_tree.specs.Runs.{in_set}
use Rattle.hir_program.proofs.scan.takes.SetLemmas.{in_set-more, in_set-kept, in_set-last, GrowsOnly-more}
use Rattle.hir_program.proofs.scan.takes.add_chars.Goals as goal

pub loop-i-preserved : goal.loop-i-preserved
loop-i-preserved c =
    let set = c.args.set.now in
    let range = c.get-start.result in
    let is = sym (get_or_from_slice_get set c.loop-i.i range range c.get-start.ensures) in record {
      grows = λ b i has. c.add_ascii.ensures.grows b i (c.loop-i.invariant.grows b i has);
      has = λ b low e.
          elim (in_set-more set c.loop-i.i range (omega (arith, c.len-i-end.ensures.len)) is b e) [
            | inl before ↦ c.add_ascii.ensures.grows b c.args.bit (c.loop-i.invariant.has b low before)
            | inr here ↦ c.add_ascii.ensures.has b low here.0 here.1
          ];
      only =
          GrowsOnly-more c.args.bit (λ b. (b < 128) × (in_set (take c.loop-i.i set) b ≡ true)) (λ b. (b < 128) × (range.0 ≤ b) × (b ≤ range.1))
          (λ b. (b < 128) × (in_set (take (c.loop-i.i + 1) set) b ≡ true)) c.args.takes.now c.loop-i.takes c.add_ascii.new.takes
          (λ b at. (at.0, in_set-kept set c.loop-i.i range (omega (arith, c.len-i-end.ensures.len)) is b at.1))
          (λ b at. (at.0, in_set-last set c.loop-i.i range (omega (arith, c.len-i-end.ensures.len)) is b (at.1, at.2))) c.loop-i.invariant.only c.add_ascii.ensures.only;
    }
