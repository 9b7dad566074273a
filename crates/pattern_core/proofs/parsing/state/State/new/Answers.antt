use Rattle.std.proofs.Common.{[], refl, sym, subst}
use Rattle.pattern_core.specs.Parsing.{AreFrames}
use Rattle.pattern_core.proofs.parsing.state.State.new.Goals as goal

pub returns-clause-is : goal.returns-clause-is
returns-clause-is c limit = record {
  frames = subst (λ frames. AreFrames limit frames []) (sym c.new.ensures.items) tt;
  level = c.new-2.ensures limit;
  flags = refl;
  groups = refl;
  names = c.new-3.ensures;
  literals = (refl, refl);
}
