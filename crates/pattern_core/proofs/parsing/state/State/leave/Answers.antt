use Rattle.std.proofs.Common.{subst}
use Rattle.pattern_core.specs.Progress.{finished}
use Rattle.pattern_core.specs.Parsing.{AreFrames}
use Rattle.pattern_core.proofs.parsing.StateLemmas.{Innermost, innermost}
use Rattle.pattern_core.proofs.parsing.state.State.leave.Goals as goal

pub returns-clause-is : goal.returns-clause-is
returns-clause-is c before is =
    let limit = c.args.limit in
    let last : Innermost limit c.pop.new.self.items c.in-Some.frame before.frames =
    innermost limit c.pop.new.self.items c.in-Some.frame before.frames
    (subst (λ frames. AreFrames limit frames before.frames) c.in-Some.ensures.items is.frames) in
    record {
      frames = last.outer;
      frame = last.inner;
      were = last.are;
      is = record {
        frames = last.outer_are;
        level = last.inner_is.level;
        flags = last.inner_is.flags;
        groups = is.groups;
        names = is.names;
        literals = is.literals;
      };
      part = c.in_ok-piece-2.ensures (finished before.level) last.inner.kind last.inner.before (c.in_ok-piece.ensures before.level is.level) last.inner_is.group;
    }
