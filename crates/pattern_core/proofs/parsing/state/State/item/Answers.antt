use Rattle.pattern_core.proofs.parsing.state.State.item.Goals as goal

pub returns-clause-is : goal.returns-clause-is
returns-clause-is c limit before part is same = record {
  frames = is.frames;
  level = c.in_ok-state.ensures limit before.level part is.level same;
  flags = is.flags;
  groups = is.groups;
  names = is.names;
  literals = is.literals;
}
